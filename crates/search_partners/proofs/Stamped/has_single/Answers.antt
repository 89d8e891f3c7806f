-- `has_single`: the head's only atom, where there is one.
use Rattle.std.proofs.Common.{sym, ◌∙◌}
use Rattle.step_parts.specs.Reading.{clause_of}
use Rattle.search_partners.specs.Stamps.{is_stamped}
use Rattle.step_conditions.proofs.Tests.{single_one, single_other}
use Rattle.search_partners.proofs.Stamped.has_single.Goals as goal

pub returns-in-Some : goal.returns-in-Some
returns-in-Some c = c.has.ensures ∙ sym (single_one (is_stamped c.args.self.now 1024) (clause_of c.args.program.now c.args.p).head _ (sym c.only.ensures ∙ c.in-Some.is))

pub returns-in-None : goal.returns-in-None
returns-in-None c = sym (single_other (is_stamped c.args.self.now 1024) (clause_of c.args.program.now c.args.p).head (sym c.only.ensures ∙ c.in-None.is))

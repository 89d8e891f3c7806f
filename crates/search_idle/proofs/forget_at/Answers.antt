-- `search_idle::forget_at` meets its contract.
use mathlib.Core.Path.{refl, sym, ◌∙◌}
use mathlib.Core.Bool.{false}
use Rattle.rewriting.specs.Marked.{entry}
use Rattle.step_parts.specs.Reading.{program_of}
use Rattle.search_idle.specs.Forgets.{Heads}
use Rattle.search_idle.proofs.Forgets.{heads_not, forgets_none, forgets_nothing}
use Rattle.search_idle.proofs.forget_at.Goals as goal

pub returns-then-not-fires : goal.returns-then-not-fires
returns-then-not-fires c = let e = entry (program_of c.args.program.now) c.args.t in forgets_none (λ F. Heads F e) _ _ (heads_not e (λ _. false) (sym c.fires.ensures ∙ c.if-not-fires.true))

pub returns-then-not-any_idle : goal.returns-then-not-any_idle
returns-then-not-any_idle c = forgets_nothing (λ F. Heads F (entry (program_of c.args.program.now) c.args.t)) _ _ (λ k b m. refl) (c.any_idle.ensures c.if-not-any_idle.true)

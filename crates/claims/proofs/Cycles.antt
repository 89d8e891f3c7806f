-- Slip 2 of document 02, "Negation makes no circle", of every table: the cycle answer doesn't depend on negative atoms.
use mathlib.Core.Path.{◌≡◌, sym, ap, ◌∙◌}
use mathlib.Core.List.{List, map}
use Prim.Native.Nat.{ℕ}
use Rattle.semantics.specs.Lists.{bit}
use Rattle.semantics.specs.Programs.{strip}
use Rattle.std.specs.Prelude.{Ok}
use Rattle.table.specs.Questions.{Passed}
use Rattle.table.specs.Programs.{program_of}
use Rattle.dependency.specs.Decide.{cyclic}
use Rattle.dependency.proofs.Reached.{cyclic_strip}
use Rattle.cycle.specs.Answer.{cycle_of}
use Rattle.cycle.proofs.Answered.{passed_answer}

-- "only positive body atoms lead on": two tables whose clauses are equal once their negative atoms are stripped have one cycle answer.
pub negation_aside : (ws vs : List ℕ) → Passed ws → Passed vs → map strip (program_of ws).clauses ≡ map strip (program_of vs).clauses → cycle_of ws ≡ cycle_of vs
negation_aside ws vs p q e =
    let same = cyclic_strip (program_of ws).clauses ∙ ap cyclic e ∙ sym (cyclic_strip (program_of vs).clauses) in
    passed_answer ws p ∙ ap (λ b. Ok (bit b)) same ∙ sym (passed_answer vs q)

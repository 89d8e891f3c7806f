-- The reduced table in a local array, and its text.
use Prim.Native.Nat.{ℕ, ◌≤◌}
use mathlib.Core.Path.{◌≡◌, sym, ap, subst, ◌∙◌}
use mathlib.Core.List.{List}
use native.Mathlib.Omega.{arith}
use lib.ListN.{length, take, replicate, length-replicate}
use lib.Seq.{sets, length-sets}
use Rattle.table.specs.Questions.{Passed}
use Rattle.reduced_sizes.specs.Leaves.{reduced}
use Rattle.reduced_marks.specs.Spans.{MarksReady}
use Rattle.reduced_sizes.proofs.Limits.{left_within, reduced_passes}
use Rattle.text_form.specs.Writer.{text_of}
use Rattle.text_form.specs.Stored.{Puts}
use Rattle.answers.proofs.Slices.{sets_written, take_written}
use Rattle.text_form.proofs.Calls.{text_short}

module _ (ws ms new : List ℕ) (k : ℕ) (r : MarksReady ws ms) (h : new ≡ sets (replicate 8192 0) 0 (reduced ws ms)) (e : k ≡ length (reduced ws ms)) where
  few : length (reduced ws ms) ≤ length (replicate {A = ℕ} 8192 0)
  few = omega (arith, (left_within ws ms r.passed).few_words, length-replicate {A = ℕ} 8192 0)

  pub left_inside : k ≤ length new
  left_inside = rw h (omega (arith, few, length-sets (replicate 8192 0) 0 (reduced ws ms)))

  front : take k new ≡ reduced ws ms
  front = ap (take k) (h ∙ sets_written (reduced ws ms) (replicate 8192 0) few) ∙ take_written (reduced ws ms) (replicate 8192 0) k e

  pub left_passed : Passed (take k new)
  left_passed = subst Passed (sym front) (reduced_passes ws ms r.passed)

  pub left_short : length (text_of (take k new)) ≤ 43022
  left_short = text_short (take k new) left_passed

  pub left_puts : (w w1 : List ℕ) (at to : ℕ) → Puts w w1 at to (text_of (take k new)) → Puts w w1 at to (text_of (reduced ws ms))
  left_puts w w1 at to p = subst (Puts w w1 at to) (ap text_of front) p

-- What the reducer's call leaves in the local marks and list, for the lines that are printed.
use mathlib.Core.Path.{◌≡◌, sym, ap, subst, ◌∙◌}
use mathlib.Core.List.{List, ◌++◌}
use Prim.Native.Nat.{ℕ, ◌*◌, ◌≤◌}
use native.Mathlib.Omega.{arith}
use lib.ListN.{length, replicate, length-replicate}
use Rattle.answers.specs.declared.Refusal.{Refusal}
use Rattle.table.specs.Questions.{Passed}
use Rattle.table.proofs.Encoding.{passed_limits}
use Rattle.reduced_sizes.specs.Leaves.{reduced}
use Rattle.reduced_marks.specs.Spans.{MarksReady}
use Rattle.answers.specs.Answers.{Answer}
use Rattle.std.specs.Prelude.{Ok, Err}
use Rattle.reducer_results.specs.Reductions.{steps_of, reduction}
use Rattle.reducer_results.specs.Answered.{Answered}
use Rattle.reducer_results.proofs.Taken.{reducer_taken, lengths_kept}
use Rattle.text_form.specs.Writer.{text_of}
use Rattle.text_form.specs.Stored.{Puts}
use Rattle.text_writer.proofs.Laws.{puts_then}
use Rattle.reduce_filter.specs.Output.{list_lines, reduction_of, reduced_text}
use Rattle.reduce_filter.proofs.Output.{always_reduced, reduced_text_lem, list_short, list_long, left_short}

abbrev marks₀ : List ℕ
marks₀ = replicate 8192 0

abbrev list₀ : List ℕ
list₀ = replicate 32768 0

marks_long : length marks₀ ≡ 8192
marks_long = length-replicate {A = ℕ} 8192 0

list_room : length list₀ ≡ 32768
list_room = length-replicate {A = ℕ} 32768 0

module _ (ws ms ls : List ℕ) (r : Answer) (p : Passed ws) (a : Answered ws marks₀ list₀ ms ls r) where
  took : r ≡ Ok (length (steps_of ws))
  took = a.answer ∙ always_reduced ws p

  -- the call is never refused
  pub never_refused : (x : Refusal) → r ≡ Err x → ⊥
  never_refused x e = let q = took in let z : ◌≡◌ {A = ℕ} 0 1 = cc in omega arith

  module _ (s : ℕ) (e : r ≡ Ok s) where
    said : (reduction ws marks₀ list₀).answer ≡ Ok s
    said = sym a.answer ∙ e

    pub marks_ready : MarksReady ws ms
    marks_ready = record { passed = p; marked = rw a.marks (omega (arith, (lengths_kept ws marks₀ list₀ s (reducer_taken ws marks₀ list₀ s said)).0, marks_long, (passed_limits ws p).short)) }

    -- there are few steps, and the list holds them
    pub count_few : s ≤ 65536
    count_few = omega (arith, list_long ws marks₀ list₀ s said, list_room)

    pub steps_inside : 4 * s ≤ length ls
    steps_inside = rw a.list (omega (arith, (lengths_kept ws marks₀ list₀ s (reducer_taken ws marks₀ list₀ s said)).1, list_long ws marks₀ list₀ s said))

    pub lines_short : length (list_lines ls s) ≤ 180148
    lines_short = rw a.list (list_short ws marks₀ list₀ s said)

    pub text_few : length (text_of (reduced ws ms)) ≤ 43022
    text_few = rw a.marks (left_short ws marks₀ list₀ s said)

    pub both_puts : (w w1 w2 : List ℕ) (at n k : ℕ) → Puts w w1 at n (text_of (reduced ws ms)) → Puts w1 w2 n k (list_lines ls s) → Puts w w2 at k (reduced_text ws)
    both_puts w w1 w2 at n k x y = subst (Puts w w2 at k) whole_text (puts_then w w1 w2 at n k (text_of (reduced ws ms)) (list_lines ls s) x y)
      where
        whole_text : text_of (reduced ws ms) ++ list_lines ls s ≡ reduced_text ws
        whole_text = ap (λ m. text_of (reduced ws m) ++ list_lines ls s) a.marks ∙ ap (λ x. text_of (reduced ws (reduction_of ws).marks) ++ list_lines x s) a.list ∙ sym (reduced_text_lem ws s said)

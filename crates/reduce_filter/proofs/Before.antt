-- "every output keeps its bytes", of the program: what it prints with a way `d` of writing numbers that agrees with `digits` up to 65,536, and so with the one of before
-- slip 4, is what it prints.
use Prim.Native.Nat.{ℕ, zero, suc, ◌+◌, ◌≤◌}
use mathlib.Core.Path.{◌≡◌, refl, sym, ap, ◌∙◌}
use mathlib.Core.List.{List, [], ◌∷◌, ◌++◌}
use native.Mathlib.Omega.{arith}
use lib.ListN.{length, take, drop, replicate, length-replicate}
use Rattle.rewriting.specs.Steps.{Step}
use Rattle.rewriting.proofs.Rows.{number_bounds}
use Rattle.answers.specs.declared.Refusal.{Refusal}
use Rattle.answers.specs.Answers.{Answer}
use Rattle.std.specs.Prelude.{Ok, Err}
use Rattle.answers.specs.Refusals.{refusal_number, refusal_place}
use Rattle.table.specs.Questions.{Passed}
use Rattle.table.specs.Places.{cut}
use Rattle.table.specs.Programs.{program_of}
use Rattle.table.specs.StepWords.{words_of}
use Rattle.table.proofs.Encoding.{passed_limits, passed_within}
use Rattle.reduced_sizes.specs.Leaves.{reduced}
use Rattle.reduced_sizes.proofs.Limits.{reduced_passes}
use Rattle.reducer_results.specs.Reductions.{steps_of}
use Rattle.reducer_results.proofs.Taken.{reducer_taken}
use Rattle.text_form.specs.Numerals.{Numeral}
use Rattle.text_form.specs.Render.{line_text}
use Rattle.text_form.specs.Reader.{read_answer, table_after}
use Rattle.text_form.specs.Writer.{text_of}
use Rattle.text_form.proofs.Before.{Agrees, Writable, commas_by, render_by, commas_by_lem, text_by, digits_before, digits_before_lem, numerals_agree}
use Rattle.reduce_filter.specs.Output.{steps_key, step_key, refused_key, step_lines, list_lines, refused_text, refusal_text, reduction_of, reduced_text, printed, output_of}
use Rattle.reduce_filter.proofs.Bounds.{AllSmall, list_small}
use Rattle.reduce_filter.proofs.Output.{always_reduced, reduced_text_lem, list_long}
use Rattle.reduce_filter.proofs.Prints.{read_passed, refused_small}

-- ---- the output by any way of writing numbers

module _ (d : ℕ → List ℕ) where
  abbrev step_lines_by : List ℕ → ℕ → ℕ → List ℕ
  step_lines_by ls at zero = []
  step_lines_by ls at (suc left) = line_text step_key (commas_by d (cut ls at 4)) ++ step_lines_by ls (at + 4) left

  abbrev list_lines_by : List ℕ → ℕ → List ℕ
  list_lines_by ls s = line_text steps_key (d s) ++ step_lines_by ls 0 s

  abbrev refusal_by : Refusal → List ℕ
  refusal_by r = line_text refused_key (commas_by d (refusal_number r ∷ refusal_place r ∷ []))

  abbrev reduced_lines_by : List ℕ → Answer → List ℕ → List ℕ → List ℕ
  reduced_lines_by ws (Ok s) ms ls = render_by d (program_of (reduced ws ms)) ++ list_lines_by ls s
  reduced_lines_by ws (Err r) ms ls = refusal_by r

  abbrev reduced_by : List ℕ → List ℕ
  reduced_by ws = reduced_lines_by ws (reduction_of ws).answer (reduction_of ws).marks (reduction_of ws).list

  abbrev printed_by : Answer → List ℕ → List ℕ
  printed_by (Ok k) table = reduced_by (take k table)
  printed_by (Err r) table = refusal_by r

  abbrev pub output_by : List ℕ → List ℕ
  output_by ts = printed_by (read_answer ts 8192) (table_after ts (replicate 8192 0))

-- ---- the numbers of the output are written

writable_append : (xs ys : List ℕ) → Writable xs → Writable ys → Writable (xs ++ ys)
writable_append [] ys s t = t
writable_append (x ∷ xs) ys s t = (s.0, writable_append xs ys s.1 t)

writable_take : (k : ℕ) (xs : List ℕ) → Writable xs → Writable (take k xs)
writable_take zero xs s = tt
writable_take (suc k) [] s = tt
writable_take (suc k) (x ∷ xs) s = (s.0, writable_take k xs s.1)

writable_drop : (k : ℕ) (xs : List ℕ) → Writable xs → Writable (drop k xs)
writable_drop zero xs s = s
writable_drop (suc k) [] s = tt
writable_drop (suc k) (x ∷ xs) s = writable_drop k xs s.1

writable_zeros : (k : ℕ) → Writable (replicate k 0)
writable_zeros zero = tt
writable_zeros (suc k) = (omega arith, writable_zeros k)

writable_steps : (n m : ℕ) (l : List Step) → n ≤ 1024 → m ≤ 2048 → AllSmall n m l → Writable (words_of l)
unfolding words_of
writable_steps n m [] a b q = tt
writable_steps n m (s ∷ l) a b q =
    let k = number_bounds s.kind in
    (omega arith, (omega (arith, q.0.target), (omega (arith, q.0.partner), (omega (arith, q.0.atom), writable_steps n m l a b q.1))))

-- the list that the reducer leaves
writable_list : (ws : List ℕ) → Passed ws → Writable (reduction_of ws).list
writable_list ws p =
    let t = reducer_taken ws (replicate 8192 0) (replicate 32768 0) (length (steps_of ws)) (always_reduced ws p) in
    let w = writable_steps _ _ (steps_of ws) (passed_limits ws p).few_atoms (passed_within ws p).few_clauses (list_small ws p) in
    rw t.list (writable_append (words_of (steps_of ws)) _ w (writable_drop (length (words_of (steps_of ws))) (replicate 32768 0) (writable_zeros 32768)))

-- ---- the same bytes

module _ (d : ℕ → List ℕ) (same : Agrees d) where
  steps_by : (ls : List ℕ) (at k : ℕ) → Writable ls → step_lines_by d ls at k ≡ step_lines ls at k
  unfolding step_lines
  steps_by ls at zero w = refl
  steps_by ls at (suc k) w = rw (commas_by_lem d same (cut ls at 4) (writable_take 4 (drop at ls) (writable_drop at ls w)), steps_by ls (at + 4) k w)

  list_by : (ls : List ℕ) (s : ℕ) → s ≤ 65536 → Writable ls → list_lines_by d ls s ≡ list_lines ls s
  unfolding list_lines
  list_by ls s l w = rw (same s l, steps_by ls 0 s w)

  refusal_by_lem : (r : Refusal) → (refusal_number r ≤ 65536) × (refusal_place r ≤ 65536) → refusal_by d r ≡ refusal_text r
  unfolding refused_text
  refusal_by_lem r h = ap (line_text refused_key) (commas_by_lem d same (refusal_number r ∷ refusal_place r ∷ []) (h.0, (h.1, tt)))

  reduced_by_lem : (ws : List ℕ) → Passed ws → reduced_by d ws ≡ reduced_text ws
  reduced_by_lem ws p =
      let s = length (steps_of ws) in
      let h = always_reduced ws p in
      let R = reduced ws (reduction_of ws).marks in
      ap (λ a. reduced_lines_by d ws a (reduction_of ws).marks (reduction_of ws).list) h
      ∙ ap (λ t. t ++ list_lines_by d (reduction_of ws).list s) (text_by d same R (reduced_passes ws (reduction_of ws).marks p))
      ∙ ap (λ t. text_of R ++ t) (list_by (reduction_of ws).list s (omega (arith, list_long ws (replicate 8192 0) (replicate 32768 0) s h, length-replicate {A = ℕ} 32768 0)) (writable_list ws p))
      ∙ sym (reduced_text_lem ws s h)

  -- What the program prints is the same, whatever it reads.
  pub output_by_lem : (ts : List ℕ) → output_by d ts ≡ output_of ts
  unfolding output_of
  output_by_lem ts = go (read_answer ts 8192) refl
    where
      go : (a : Answer) → read_answer ts 8192 ≡ a → printed_by d a (table_after ts (replicate 8192 0)) ≡ printed a (table_after ts (replicate 8192 0))
      go (Ok k) h = reduced_by_lem (take k (table_after ts (replicate 8192 0))) (read_passed ts k h)
      go (Err r) h = refusal_by_lem r (refused_small ts 8192 r h)

-- So it is as it was before.
pub output_before : (ts : List ℕ) → output_by digits_before ts ≡ output_of ts
output_before ts = output_by_lem digits_before digits_before_lem ts

-- And so it is with any way of writing numbers that gives numerals.
pub output_numerals : (d : ℕ → List ℕ) → ((v : ℕ) → v ≤ 65536 → Numeral (d v) v) → (ts : List ℕ) → output_by d ts ≡ output_of ts
output_numerals d h = output_by_lem d (numerals_agree d h)

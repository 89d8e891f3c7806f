-- The steps of a list, one after the other, and the call's answer by its questions.
use mathlib.Core.Path.{◌≡◌, refl, sym, ap, subst, ◌∙◌}
use mathlib.Core.Bool.{true, false}
use mathlib.Core.List.{List, []}
use Prim.Native.Nat.{ℕ, zero, suc, ◌+◌, ◌-◌, ◌*◌, ◌/◌, ◌≤◌, ◌<◌}
use native.Mathlib.Omega.{arith}
use native.Mathlib.Nat.{sub-zero}
use lib.ListN.{length, get_or, drop}
use lib.Seq.{get_or-take, get_or-drop}
use borrow.Author.Tests.{le-leb, lt-leb}
use Rattle.std.specs.Prelude.{Ok, Err}
use Rattle.std.specs.Simd.{first_chunks}
use Rattle.answers.specs.declared.StepQuestion.{StepQuestion}
use Rattle.answers.specs.declared.CallQuestion.TheVariants.{MarksLength, ListLength}
use Rattle.answers.specs.declared.Refusal.{Refusal}
use Rattle.answers.specs.declared.Refusal.TheVariants as refusal
use Rattle.answers.specs.Answers.{Answer, ask}
use Rattle.table.specs.declared.Table.{Table}
use Rattle.table.specs.Questions.{table_of, on_table}
use Rattle.table.specs.StepWords.{kind_at, step_at}
use Rattle.table.specs.View.{view, all_kept}
use Rattle.table.specs.Effects.{marks_after}
use Rattle.table.proofs.Laws.{one_left}
use Rattle.table.proofs.View.{length_after}
use Rattle.step_questions.specs.declared.memory.Memory.{Memory}
use Rattle.step_questions.specs.Verdicts.{Verdict, verdict_at, Taken, WordsTaken}
use Rattle.step_questions.specs.Remembered.{Holding}
use Rattle.step_questions.proofs.Laws.{on_verdict, by_verdict}
use Rattle.step_lists.specs.Lists.{Outcome, leaving, steps_from, list_fits, check_list}
use Rattle.step_lists.specs.Leaves.{Leaves}

-- ---- the words of a step

chunk_word : (n k j : ℕ) (ls : List ℕ) → k < n → j < 4 → get_or (get_or (first_chunks 4 n ls) k []) j 0 ≡ get_or ls (4 * k + j) 0
chunk_word zero k j ls h l = absurd (omega arith)
chunk_word (suc n) zero j ls h l = get_or-take 4 ls j 0 l ∙ ap (λ i. get_or ls i 0) (omega arith)
chunk_word (suc n) (suc k) j ls h l = chunk_word n k j (drop 4 ls) (omega arith) l ∙ get_or-drop 4 ls (4 * k + j) 0 ∙ ap (λ i. get_or ls i 0) (omega arith)

-- what is said of the four words is said of step k of the list
pub taken_at : (ws ms ms' ls : List ℕ) (steps : List (List ℕ)) (n k : ℕ) (r : Verdict) → steps ≡ first_chunks 4 n ls → k < n → WordsTaken ws ms ms' (get_or steps k []) r → Taken ws ms ms' (kind_at ls k) (step_at ls k) r
taken_at ws ms ms' ls steps n k r q h t =
    let w : (j : ℕ) → j < 4 → get_or (get_or steps k []) j 0 ≡ get_or ls (4 * k + j) 0 = λ j l. rw q (chunk_word n k j ls h l) in
    let a : get_or (get_or steps k []) 0 0 ≡ get_or ls (4 * k) 0 = w 0 (omega arith) ∙ ap (λ i. get_or ls i 0) (omega arith) in
    rw (← a, ← w 1 (omega arith), ← w 2 (omega arith), ← w 3 (omega arith)) t

-- ---- the walk

-- what the questions of step k of a list come to, and the steps from there on
abbrev pub verdict_on : List ℕ → List ℕ → List ℕ → ℕ → Verdict
verdict_on ws ms ls k = verdict_at (get_or ws 0 0) (view ws ms) (kind_at ls k) (step_at ls k)

pub steps_verdict : (ws ms ls : List ℕ) (k left : ℕ)
    → steps_from ws ms ls k (suc left) ≡ on_verdict (λ q. leaving ms (refusal.Step q k)) (steps_from ws (marks_after ws ms (step_at ls k)) ls (k + 1) left) (verdict_on ws ms ls k)
unfolding steps_from
steps_verdict ws ms ls k left = by_verdict (λ q. leaving ms (refusal.Step q k)) (steps_from ws (marks_after ws ms (step_at ls k)) ls (k + 1) left) (get_or ws 0 0) (view ws ms) (kind_at ls k) (step_at ls k)

-- with the steps before k made: what is left from here is the whole from the start
pub record Stepping (ws ms₀ ms ls : List ℕ) (m : Memory) (n k : ℕ) : Type 0 where
  pub same : length ms ≡ length ms₀
  pub holding : Holding ws ms m
  pub rest : steps_from ws ms ls k (n - k) ≡ steps_from ws ms₀ ls 0 n

pub stepping_start : (ws ms ls : List ℕ) (m : Memory) (n : ℕ) → Holding ws ms m → Stepping ws ms ms ls m n 0
stepping_start ws ms ls m n h = record { same = refl; holding = h; rest = simp sub-zero }

module _ (ws ms₀ ms ms' ls : List ℕ) (m : Memory) (n k : ℕ) (l : k < n) (w : Stepping ws ms₀ ms ls m n k) where
  -- the steps from here: this one, and the rest
  abbrev stop : StepQuestion → Outcome
  stop x = leaving ms (refusal.Step x k)

  abbrev rest : Outcome
  rest = steps_from ws (marks_after ws ms (step_at ls k)) ls (k + 1) (n - (k + 1))

  whole : on_verdict stop rest (verdict_on ws ms ls k) ≡ steps_from ws ms₀ ls 0 n
  whole = sym (steps_verdict ws ms ls k (n - (k + 1))) ∙ sym (ap (steps_from ws ms ls k) (one_left k n l)) ∙ w.rest

  pub stepping_on : (m' : Memory) → Taken ws ms ms' (kind_at ls k) (step_at ls k) (Ok tt) → Holding ws ms' m' → Stepping ws ms₀ ms' ls m' n (k + 1)
  unfolding on_verdict
  stepping_on m' t h = record {
    same = ap length t.marks ∙ length_after ws ms (step_at ls k) ∙ w.same;
    holding = h;
    rest = ap (λ x. steps_from ws x ls (k + 1) (n - (k + 1))) t.marks ∙ ap (on_verdict stop rest) t.verdict ∙ whole;
  }

  pub stepping_no : (q : StepQuestion) → Taken ws ms ms' (kind_at ls k) (step_at ls k) (Err q) → Leaves (steps_from ws ms₀ ls 0 n) (Err (refusal.Step q k)) ms'
  unfolding on_verdict
  stepping_no q t =
      let z : leaving ms (refusal.Step q k) ≡ steps_from ws ms₀ ls 0 n = ap (on_verdict stop rest) t.verdict ∙ whole in
      record { answer = ap (λ o. o.answer) z; marks = t.marks ∙ ap (λ o. o.marks) z }

pub stepping_end : (ws ms₀ ms ls : List ℕ) (m : Memory) (n k j : ℕ) → j ≡ n → j ≤ k → k ≤ j → Stepping ws ms₀ ms ls m n k → Leaves (steps_from ws ms₀ ls 0 n) (Ok j) ms
unfolding steps_from
stepping_end ws ms₀ ms ls m n k j e a b w =
    let x : n - k ≡ 0 = omega (arith, e) in
    let y : k ≡ j = omega arith in
    let z : steps_from ws ms ls k (n - k) ≡ record { answer = Ok j; marks = ms } = rw x (ap (λ j. record { answer = Ok j; marks = ms }) y) in
    record { answer = ap (λ o. o.answer) (sym z ∙ w.rest); marks = ap (λ o. o.marks) (sym z ∙ w.rest) }

-- ---- the call

module _ (ws ms ls : List ℕ) where
  pub check_refused : (r : Refusal) → table_of ws ≡ Err r → Leaves (check_list ws ms ls) (Err r) ms
  unfolding check_list on_table
  check_refused r e = rw e (record { answer = refl; marks = refl })

  module _ (t : Table) (e : table_of ws ≡ Ok t) where
    pub check_9 : length ms < length ws → Leaves (check_list ws ms ls) (Err (refusal.Call MarksLength)) ms
    unfolding check_list on_table ask
    check_9 h = rw (e, lt-leb (length ws) (length ms) h) (record { answer = refl; marks = refl })

    pub check_11 : length ws ≤ length ms → list_fits ls ≡ false → Leaves (check_list ws ms ls) (Err (refusal.Call ListLength)) ms
    unfolding check_list on_table ask
    check_11 h f = rw (e, le-leb (length ws) (length ms) h, f) (record { answer = refl; marks = refl })

    pub check_made : length ws ≤ length ms → list_fits ls ≡ true → check_list ws ms ls ≡ steps_from ws (all_kept ws ms) ls 0 (length ls / 4)
    unfolding check_list on_table ask
    check_made h f = rw (e, le-leb (length ws) (length ms) h, f)

    pub leaves_made : (ms₁ ms' : List ℕ) (r : Answer) → length ws ≤ length ms → list_fits ls ≡ true → ms₁ ≡ all_kept ws ms → Leaves (steps_from ws ms₁ ls 0 (length ls / 4)) r ms' → Leaves (check_list ws ms ls) r ms'
    leaves_made ms₁ ms' r h f q l = subst (λ o. Leaves o r ms') (ap (λ k. steps_from ws k ls 0 (length ls / 4)) q ∙ sym (check_made h f)) l

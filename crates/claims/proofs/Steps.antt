-- The first steps of a list; and that a list is accepted exactly when each of its steps is answered yes.
use mathlib.Core.Path.{◌≡◌, refl, sym, ap, subst, ◌∙◌}
use mathlib.Core.Logic.{◌↔◌, ◌≢◌}
use mathlib.Core.Bool.{Bool, true, false, So, true≢false}
use mathlib.Core.List.{List}
use mathlib.Core.Option.{Option, none, some}
use Prim.Native.Nat.{ℕ, zero, suc, ◌+◌, ◌*◌, ◌/◌, ◌%◌, ◌≤◌, ◌<◌}
use native.Mathlib.Omega.{arith}
use native.Mathlib.Nat.{mul-div_right, mul-mod_right, div-add-mod'}
use lib.Dec.{leb, eqb}
use lib.ListN.{length, get_or, take}
use lib.Seq.{get_or-take, length-take-le}
use borrow.Author.Tests.{leb-true, le-leb, eq-eqb, eqb-true}
use Rattle.semantics.proofs.Tests.{and_iff}
use Rattle.table.specs.Questions.{Passed}
use Rattle.table.specs.View.{view, all_kept}
use Rattle.table.specs.Effects.{marks_after}
use Rattle.std.specs.Prelude.{Ok, Err}
use Rattle.answers.specs.declared.StepQuestion.{StepQuestion}
use Rattle.answers.specs.Answers.{ask}
use Rattle.step_questions.specs.Verdicts.{Verdict}
use Rattle.step_lists.specs.Lists.{leaving, steps_from, list_fits, check_list}
use Rattle.table.specs.StepWords.{kind_at, step_at}
use Rattle.answers.specs.declared.Refusal.TheVariants as refusal
use Rattle.step_questions.specs.Questions.{step_questions}
use Rattle.step_questions.proofs.Laws.{on_verdict, on_fine, on_no}
use Rattle.step_lists.specs.Leaves.{Words, words_at, step_named}
use Rattle.step_lists.proofs.Walks.{verdict_on, steps_verdict, check_made}
use Rattle.claims.proofs.Said.{first_no}

-- ---- the first steps of a list

-- the first k steps of a list, from the step before them on
steps_front : (ws ls : List ℕ) (n rest k : ℕ) (ms : List ℕ) → 4 * (k + rest) ≤ n → steps_from ws ms (take n ls) k rest ≡ steps_from ws ms ls k rest
unfolding steps_from
steps_front ws ls n zero k ms h = refl
steps_front ws ls n (suc rest) k ms h =
    let q : words_at (take n ls) k ≡ words_at ls k = rw (get_or-take n ls (4 * k) 0 (omega arith), get_or-take n ls (4 * k + 1) 0 (omega arith), get_or-take n ls (4 * k + 2) 0 (omega arith), get_or-take n ls (4 * k + 3) 0 (omega arith)) in
    ap (λ (u : Words). step_questions (λ x. leaving ms (refusal.Step x k)) (get_or ws 0 0) (view ws ms) u.kind (step_named u) (steps_from ws (marks_after ws ms (step_named u)) (take n ls) (k + 1) rest)) q
    ∙ ap (step_questions (λ x. leaving ms (refusal.Step x k)) (get_or ws 0 0) (view ws ms) (kind_at ls k) (step_at ls k)) (steps_front ws ls n rest (k + 1) (marks_after ws ms (step_at ls k)) (omega arith))

-- a list that passes question 11 has four words a step
fits_length : (ls : List ℕ) → So (list_fits ls) → (4 * (length ls / 4) ≡ length ls) × (length ls ≤ 32760)
fits_length ls h =
    let (a, b) = (and_iff (eqb (length ls % 4) 0) (leb (length ls) 32760)).0 h in
    (omega (arith, eqb-true (length ls % 4) 0 a, div-add-mod' (length ls) 4), leb-true _ _ b)

-- and so do its first steps
front_fits : (ls : List ℕ) (k : ℕ) → So (list_fits ls) → k ≤ length ls / 4 → (list_fits (take (4 * k) ls) ≡ true) × (length (take (4 * k) ls) / 4 ≡ k)
front_fits ls k h l =
    let (a, b) = fits_length ls h in
    let e : length (take (4 * k) ls) ≡ 4 * k = length-take-le (4 * k) ls (omega arith) in
    (rw (e, eq-eqb (4 * k % 4) 0 (mul-mod_right 4 k), le-leb (4 * k) 32760 (omega arith)), rw (e, mul-div_right k (let z : 0 < 4 = omega arith in z)))

-- checking them alone
pub front_made : (ws ms ls : List ℕ) (k : ℕ) → Passed ws → length ws ≤ length ms → So (list_fits ls) → k ≤ length ls / 4 → check_list ws ms (take (4 * k) ls) ≡ steps_from ws (all_kept ws ms) ls 0 k
front_made ws ms ls k p l f h =
    let (a, b) = front_fits ls k f h in
    check_made ws ms (take (4 * k) ls) _ p.valid l a ∙ ap (steps_from ws (all_kept ws ms) (take (4 * k) ls) 0) b ∙ steps_front ws ls (4 * k) k 0 (all_kept ws ms) (omega arith)

-- ---- a list is accepted exactly when each step gets a yes to 12 to 16, 29 and 32 on what the steps before it leave

module _ (ws ls : List ℕ) where
  abbrev pub Fine_at : List ℕ → ℕ → ℕ → Type 0
  Fine_at ms k i = verdict_on ws (steps_from ws ms ls k i).marks ls (k + i) ≡ Ok tt

  abbrev next : List ℕ → ℕ → List ℕ
  next ms k = marks_after ws ms (step_at ls k)

  fine_on : (k : ℕ) (ms : List ℕ) → verdict_on ws ms ls k ≡ Ok tt → (i : ℕ) → Fine_at ms k (suc i) ↔ Fine_at (next ms k) (k + 1) i
  unfolding on_verdict
  fine_on k ms q i =
      let z : k + suc i ≡ k + 1 + i = omega arith in
      let e : steps_from ws ms ls k (suc i) ≡ steps_from ws (next ms k) ls (k + 1) i = steps_verdict ws ms ls k i ∙ ap (on_verdict (λ x. leaving ms (refusal.Step x k)) (steps_from ws (next ms k) ls (k + 1) i)) q in
      let f : Fine_at ms k (suc i) ≡ Fine_at (next ms k) (k + 1) i = ap (λ o. verdict_on ws o.marks ls (k + suc i) ≡ Ok tt) e ∙ ap (λ j. verdict_on ws (steps_from ws (next ms k) ls (k + 1) i).marks ls j ≡ Ok tt) z in
      (λ h. subst (λ T. T) f h, λ h. subst (λ T. T) (sym f) h)

  fine_first : (k : ℕ) (ms : List ℕ) → Fine_at ms k 0 ↔ (verdict_on ws ms ls k ≡ Ok tt)
  unfolding steps_from
  fine_first k ms =
      let z : k + 0 ≡ k = omega arith in
      (λ h. subst (λ j. verdict_on ws ms ls j ≡ Ok tt) z h, λ h. subst (λ j. verdict_on ws ms ls j ≡ Ok tt) (sym z) h)

  pub each_fine : (rest k : ℕ) (ms : List ℕ) (s : ℕ) → (steps_from ws ms ls k rest).answer ≡ Ok s → (i : ℕ) → i < rest → Fine_at ms k i
  unfolding on_verdict
  each_fine zero k ms s e i h = absurd (omega arith)
  each_fine (suc rest) k ms s e i h = go (verdict_on ws ms ls k) refl (ap (λ o. o.answer) (sym (steps_verdict ws ms ls k rest)) ∙ e) (λ e j l. each_fine rest (k + 1) (next ms k) s e j l) i h
    where
      go : (v : Verdict) → verdict_on ws ms ls k ≡ v → (on_verdict (λ x. leaving ms (refusal.Step x k)) (steps_from ws (next ms k) ls (k + 1) rest) v).answer ≡ Ok s
          → ((steps_from ws (next ms k) ls (k + 1) rest).answer ≡ Ok s → (j : ℕ) → j < rest → Fine_at (next ms k) (k + 1) j) → (i : ℕ) → i < suc rest → Fine_at ms k i
      go (Ok u) q e f zero h = (fine_first k ms).1 q
      go (Ok u) q e f (suc i) h = (fine_on k ms q i).1 (f e i (omega arith))
      go (Err x) q e f i h = let z : ◌≡◌ {A = ℕ} 0 1 = cc in absurd (omega arith)

  pub all_fine : (rest k : ℕ) (ms : List ℕ) → ((i : ℕ) → i < rest → Fine_at ms k i) → (steps_from ws ms ls k rest).answer ≡ Ok (k + rest)
  unfolding steps_from on_verdict
  all_fine zero k ms f = ap Ok (let z : k ≡ k + 0 = omega arith in z)
  all_fine (suc rest) k ms f =
      let q = (fine_first k ms).0 (f 0 (omega arith)) in
      ap (λ o. o.answer) (steps_verdict ws ms ls k rest ∙ ap (on_verdict (λ x. leaving ms (refusal.Step x k)) (steps_from ws (next ms k) ls (k + 1) rest)) q)
      ∙ all_fine rest (k + 1) (next ms k) (λ i h. (fine_on k ms q i).0 (f (suc i) (omega arith)))
      ∙ ap Ok (let z : k + 1 + rest ≡ k + suc rest = omega arith in z)

-- a step gets a yes to all of 12 to 16, 29 and 32 exactly where none of them is its first no
pub none_fine : (ws ms ls : List ℕ) (k : ℕ) → (first_no ws ms ls k ≡ none) ↔ (verdict_on ws ms ls k ≡ Ok tt)
none_fine ws ms ls k = (go (verdict_on ws ms ls k) refl, on_fine some none (get_or ws 0 0) (view ws ms) (kind_at ls k) (step_at ls k))
  where
    go : (v : Verdict) → verdict_on ws ms ls k ≡ v → first_no ws ms ls k ≡ none → verdict_on ws ms ls k ≡ Ok tt
    go (Ok u) e h = e
    go (Err x) e h = absurd (let q : none ≡ some x = sym h ∙ on_no some none (get_or ws 0 0) (view ws ms) (kind_at ls k) (step_at ls k) x e in let z : ◌≡◌ {A = ℕ} 0 1 = cc in omega arith)

-- a question of a step is its first no exactly where it is answered no, whatever other questions follow it
pub first_exactly : (b : Bool) (q : StepQuestion) (rest : Option StepQuestion) → rest ≢ some q → (ask some b q rest ≡ some q) ↔ (b ≡ false)
unfolding ask
first_exactly true q rest d = (λ h. absurd (d h), λ e. absurd (true≢false e))
first_exactly false q rest d = (λ h. refl, λ e. refl)

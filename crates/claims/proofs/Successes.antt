-- Slip 1 of document 02, "Success steps name their atom", of every list of steps: what a success that is taken names, and which steps 29 refuses.
use mathlib.Core.Path.{◌≡◌, sym, ap, subst, ◌∙◌, refl}
use mathlib.Core.Logic.{◌↔◌, ◌≢◌}
use mathlib.Core.Bool.{Bool, true, false, So}
use mathlib.Core.List.{List, [], ◌∷◌}
use mathlib.Core.Option.{none, some}
use Prim.Native.Nat.{ℕ, ◌*◌, ◌/◌, ◌<◌}
use native.Mathlib.Omega.{arith}
use lib.ListN.{length, get_or, take}
use Rattle.semantics.specs.Lists.{◌∈◌}
use Rattle.rewriting.specs.Marked.{Marked, entry, left}
use Rattle.rewriting.specs.Kinds.{success, row_of, number, kind_of, on_target}
use Rattle.rewriting.specs.Steps.{Step, fact, target_kept, partner_kept, atom_known, atom_matches, atom_headed, condition, condition_holds, applies, drop_pos, left_by, effect}
use Rattle.rewriting.proofs.Rows.{kind_of_number, succeeds, matches_no}
use Rattle.rewriting.proofs.Effect.{asks, at_target_lem}
use Rattle.answers.specs.declared.StepQuestion.TheVariants.{AtomMatches, AtomHeaded, ConditionHolds}
use Rattle.answers.specs.Answers.{ask}
use Rattle.table.specs.StepWords.{kind_at, step_at}
use Rattle.table.specs.View.{view}
use Rattle.step_questions.specs.Questions.{kind_known, shape_questions, condition_questions, step_questions}
use Rattle.step_questions.proofs.Laws.{fine_applies}
use Rattle.step_lists.specs.Lists.{check_list}
use Rattle.claims.proofs.Said.{IsTaken, check_call, first_no}
use Rattle.claims.proofs.Demand1.{check_taken}
use Rattle.claims.proofs.Steps.{none_fine, first_exactly}

-- what a success names and does
pub record Named (P : Marked) (s : Step) : Type 0 where
  -- "the partner is a fact with exactly one head atom": "The atom word of kind 3 now holds that atom"
  pub is_fact : So (fact (entry P s.partner).clause)
  pub head : (entry P s.partner).clause.head ≡ s.atom ∷ []
  -- "which is in the target's positive body; drop it there"
  pub there : s.atom ∈ (entry P s.target).clause.pos
  pub drops : entry (effect P s) s.target ≡ drop_pos s.atom (entry P s.target).clause

pub success_named : (n : ℕ) (P : Marked) (s : Step) → s.kind ≡ success → So (applies n P s) → Named P s
success_named n P s k h =
    let w = succeeds (left P) (entry P s.target).clause (entry P s.partner).clause s.atom (subst (λ j. So (condition j (left P) (entry P s.target).clause (entry P s.partner).clause s.atom)) k (asks n P s h)) in
    record { is_fact = w.is_fact; head = w.head; there = w.there; drops = at_target_lem n P s h (subst (λ j. So (on_target j)) (sym k) refl) ∙ ap (λ j. left_by (row_of j).deed s.atom (entry P s.target).clause) k }

-- Every success of a list that is taken names its atom, on the program that the steps before it leave: whoever wrote the list. "Lists with the old filler pass only
-- where the atom is 0": a success with 0 has a partner whose head is 0.
pub successes_named : (ws ms ls : List ℕ) → IsTaken (check_call ws ms ls) → (k : ℕ) → k < length ls / 4 → (step_at ls k).kind ≡ success → Named (view ws (check_list ws ms (take (4 * k) ls)).marks) (step_at ls k)
successes_named ws ms ls h k l e =
    let y = ((check_taken ws ms ls).0 h).3 k l in
    let before = (check_list ws ms (take (4 * k) ls)).marks in
    success_named (get_or ws 0 0) (view ws before) (step_at ls k) e (fine_applies (get_or ws 0 0) (view ws before) (kind_at ls k) (step_at ls k) ((none_fine ws before ls k).0 y))

-- "Refusal 29 comes after 15, for kind 3 only, where the partner's head as left is one atom and the word differs from it": of a step that 12 to 15 let through,
-- 29 is the first no exactly there.
pub said_29 : (ws ms ls : List ℕ) (k : ℕ) → let P = view ws ms in let s = step_at ls k in
    So (kind_known (kind_at ls k)) → So (target_kept P s) → So (partner_kept P s) → So (atom_known (get_or ws 0 0) s)
    → (first_no ws ms ls k ≡ some AtomMatches) ↔ ((s.kind ≡ success) × (b : ℕ) × ((entry P s.partner).clause.head ≡ b ∷ []) × (s.atom ≢ b))
unfolding step_questions shape_questions condition_questions ask
said_29 ws ms ls k a b c d =
    let P = view ws ms in
    let s = step_at ls k in
    let rest = condition_questions some P s none in
    let e : first_no ws ms ls k ≡ ask some (atom_matches P s) AtomMatches rest = rw (a, b, c, d) in
    let f = first_exactly (atom_matches P s) AtomMatches rest (other (atom_headed P s) (condition_holds P s)) in
    let m = matches_no P s in (
      λ h. let w = m.0 (f.0 (sym e ∙ h)) in (sym (kind_of_number s.kind) ∙ ap kind_of w.0, w.1, w.2, w.3),
      λ w. e ∙ f.1 (m.1 (ap number w.0, w.1, w.2, w.3)),
    )
  where
    other : (x y : Bool) → ask some x AtomHeaded (ask some y ConditionHolds none) ≢ some AtomMatches
    other true true h = let z : ◌≡◌ {A = ℕ} 0 1 = cc in omega arith
    other true false h = let z : ◌≡◌ {A = ℕ} 0 1 = cc in omega arith
    other false y h = let z : ◌≡◌ {A = ℕ} 0 1 = cc in omega arith

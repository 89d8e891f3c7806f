-- Slip 7 of document 02, "Keep the earlier twin", of the reducer's lists and of every list of steps: of equal clauses the reducer keeps the earlier, which of its lists change,
-- and that the checker takes either order.
use mathlib.Core.Path.{◌≡◌, sym, ap, subst, ◌∙◌}
use mathlib.Core.Logic.{◌↔◌, ◌≢◌}
use mathlib.Core.Bool.{So}
use mathlib.Core.List.{List}
use mathlib.Core.Option.{none}
use Prim.Native.Nat.{ℕ, ◌*◌, ◌≤◌}
use lib.ListN.{length, get_or}
use Rattle.semantics.specs.Programs.{Program}
use Rattle.rewriting.specs.Marked.{entry, whole}
use Rattle.rewriting.specs.Steps.{Step, applies}
use Rattle.rewriting.specs.Runs.{leaves}
use Rattle.rewriting.specs.Reducer.{spares, eligible, Greedy}
use Rattle.rewriting.proofs.Equal.{mirror_applies}
use Rattle.rewriting.proofs.Earlier.{none_passed, greedy_passes, list_changes, end_differs}
use Rattle.std.specs.Prelude.{Ok}
use Rattle.table.specs.Encoding.{Within, encode}
use Rattle.table.specs.StepWords.{kind_at, step_at, words_of}
use Rattle.table.specs.View.{view}
use Rattle.step_questions.specs.Questions.{step_questions}
use Rattle.step_questions.specs.Verdicts.{condition_of, verdict_at}
use Rattle.step_questions.proofs.Laws.{shape_all, fine_applies}
use Rattle.step_lists.specs.Leaves.{Words, words_at, step_named}
use Rattle.reducer_results.specs.Reductions.{room}
use Rattle.claims.proofs.Said.{first_no}
use Rattle.claims.proofs.Steps.{none_fine}
use Rattle.claims.proofs.Whole.{applies_fine}
use Rattle.claims.proofs.Demand3.{call, own_list, demand_3}

-- ---- the reducer's list

-- What is said of a program P and the words of the reducer's list.
pub record EarlierKept (P : Program) (own : List ℕ) : Type 0 where
  pub steps : List Step
  pub words : own ≡ words_of steps
  -- each is applicable, not passed over, and the smallest of those; and at the end no such step is left: "takes the smallest step of the rest"
  pub order : Greedy (eligible P.atoms) (whole P.clauses) steps
  -- so the reducer "passes over the step of kind 5 or 8 whose target is the lower number", on what the steps before it leave
  pub passes : So (none_passed (whole P.clauses) steps)
  -- and of equal clauses one stays: at the end no two that are kept are equal
  pub differ : let Q = leaves P.atoms (whole P.clauses) steps in (t p : ℕ) → t ≢ p → So (entry Q t).kept → So (entry Q p).kept → (entry Q t).clause ≢ (entry Q p).clause
  -- the list of before, which takes the smallest applicable step each time, is this one exactly where no step of it is passed over
  pub changes : (old : List Step) → Greedy (applies P.atoms) (whole P.clauses) old → (old ≡ steps) ↔ So (none_passed (whole P.clauses) old)

pub earlier_kept : (P : Program) → Within P → (ms ls : List ℕ) → length (encode P) ≤ length ms → 4 * room (encode P) ≤ length ls → (s : ℕ) → (call P ms ls).answer ≡ Ok s → EarlierKept P (own_list P ms ls s)
earlier_kept P w ms ls a b s h =
    let d = demand_3 P w ms ls ms a b a in
    let e : d.s ≡ s = let z = sym d.taken ∙ h in cc in
    record {
      steps = d.steps;
      words = subst (λ i. own_list P ms ls i ≡ words_of d.steps) e d.list;
      order = d.order;
      passes = greedy_passes P.atoms d.order;
      differ = end_differs P.atoms d.order;
      changes = λ old f. list_changes P.atoms f d.order;
    }

-- ---- the checker

-- the words of a step with target and partner exchanged
abbrev pub exchanged : Words → Words
exchanged w = record { kind = w.kind; target = w.partner; partner = w.target; atom = w.atom }

-- "The checker still takes either order": where target and partner of a step of kind 5 or 8 are equal as left, and the step gets a yes to every question, so does the step
-- with the two exchanged.
pub either_order : (ws ms ls rs : List ℕ) (k : ℕ) → let P = view ws ms in let s = step_at ls k in
    So (spares s.kind) → (entry P s.target).clause ≡ (entry P s.partner).clause → words_at rs k ≡ exchanged (words_at ls k)
    → first_no ws ms ls k ≡ none → first_no ws ms rs k ≡ none
unfolding step_questions
either_order ws ms ls rs k x e q h =
    let n = get_or ws 0 0 in
    let P = view ws ms in
    let f = (none_fine ws ms ls k).0 h in
    let b = (shape_all n P (kind_at ls k) (step_at ls k) (condition_of P (step_at ls k)) f).0 in
    (none_fine ws ms rs k).1 (ap (λ (w : Words). verdict_at n P w.kind (step_named w)) q ∙ applies_fine n P (kind_at ls k) (step_named (exchanged (words_at ls k))) b (mirror_applies n P (step_at ls k) x e (fine_applies n P (kind_at ls k) (step_at ls k) f)))

-- Slip 6 of document 02, "Failure before loop", of every list of steps and of the reducer's: which steps 32 refuses, what a loop step that is taken names, which answers
-- change, and that the reducer's lists do not.
use mathlib.Core.Path.{◌≡◌, refl, sym, ap, subst, ◌∙◌}
use mathlib.Core.Logic.{◌↔◌, ◌≢◌}
use mathlib.Core.Bool.{Bool, true, false, So}
use mathlib.Core.List.{List}
use mathlib.Core.Option.{none, some}
use Prim.Native.Nat.{ℕ, ◌*◌, ◌/◌, ◌≤◌, ◌<◌}
use native.Mathlib.Omega.{arith}
use lib.ListN.{length, get_or, take}
use Rattle.semantics.specs.Lists.{◌∈◌}
use Rattle.semantics.specs.Programs.{Clause, Program}
use Rattle.semantics.proofs.Tests.{so_by, so_false, not_so}
use Rattle.rewriting.specs.Marked.{Marked, entry, left, whole}
use Rattle.rewriting.specs.Kinds.{loop, number, kind_of}
use Rattle.rewriting.specs.Reaches.{reach}
use Rattle.rewriting.specs.Reducer.{Greedy}
use Rattle.rewriting.specs.Steps.{Step, target_kept, partner_kept, atom_known, atom_matches, atom_headed, condition, condition_holds}
use Rattle.rewriting.proofs.Rows.{kind_of_number, Loops, loops, headed_no}
use Rattle.rewriting.proofs.Reach.{in_no_head_iff, in_head_iff}
use Rattle.rewriting.proofs.Effect.{asks}
use Rattle.rewriting.proofs.Before.{eligible_before, lists_as_before}
use Rattle.rewriting.proofs.Greedy.{greedy_one}
use Rattle.std.specs.Prelude.{Ok, Err}
use Rattle.answers.specs.declared.Refusal.TheVariants as refusal
use Rattle.answers.specs.declared.StepQuestion.TheVariants.{KindKnown, TargetKept, PartnerKept, AtomKnown, AtomMatches, AtomHeaded, ConditionHolds}
use Rattle.answers.specs.Answers.{ask}
use Rattle.table.specs.Encoding.{Within, encode}
use Rattle.table.specs.StepWords.{kind_at, step_at, words_of}
use Rattle.table.specs.View.{view}
use Rattle.step_questions.specs.Questions.{kind_known, shape_questions, condition_questions, step_questions}
use Rattle.step_questions.proofs.Laws.{fine_applies}
use Rattle.step_lists.specs.Lists.{check_list}
use Rattle.reducer_results.specs.Reductions.{room}
use Rattle.claims.proofs.Said.{IsTaken, check_call, first_no}
use Rattle.claims.proofs.Demand1.{check_taken}
use Rattle.claims.proofs.Demand3.{call, own_list, demand_3}
use Rattle.claims.proofs.Lists.{refused_at_step}
use Rattle.claims.proofs.Steps.{none_fine, first_exactly}

-- ---- which steps 32 refuses

-- the atom of a step "is in no kept head"
abbrev pub Headless : Marked → Step → Type 0
Headless P s = (c : Clause) → c ∈ left P → ¬ (s.atom ∈ c.head)

-- "A step of kind 7 whose atom is in no kept head, in the target's body or not, is now turned down", "Such steps get 32, asked after 29 and before 16": of a step that 12 to
-- 15 and 29 let through, 32 is the first no exactly there.
pub said_32 : (ws ms ls : List ℕ) (k : ℕ) → let P = view ws ms in let s = step_at ls k in
    So (kind_known (kind_at ls k)) → So (target_kept P s) → So (partner_kept P s) → So (atom_known (get_or ws 0 0) s) → So (atom_matches P s)
    → (first_no ws ms ls k ≡ some AtomHeaded) ↔ ((s.kind ≡ loop) × Headless P s)
unfolding step_questions shape_questions condition_questions ask
said_32 ws ms ls k a b c d e =
    let P = view ws ms in
    let s = step_at ls k in
    let rest = ask some (condition_holds P s) ConditionHolds none in
    let q : first_no ws ms ls k ≡ ask some (atom_headed P s) AtomHeaded rest = rw (a, b, c, d) (rw e) in
    let f = first_exactly (atom_headed P s) AtomHeaded rest (other (condition_holds P s)) in
    let h = headed_no P s in (
      λ x. let w = h.0 (f.0 (sym q ∙ x)) in (sym (kind_of_number s.kind) ∙ ap kind_of w.0, (in_no_head_iff (left P) s.atom).0 w.1),
      λ (x, y). q ∙ f.1 (h.1 (ap number x, (in_no_head_iff (left P) s.atom).1 y)),
    )
  where
    other : (x : Bool) → ask some x ConditionHolds none ≢ some AtomHeaded
    other true h = let z : ◌≡◌ {A = ℕ} 0 1 = cc in omega arith
    other false h = let z : ◌≡◌ {A = ℕ} 0 1 = cc in omega arith

-- "and stays 16 where one has": of a loop step whose atom is in a kept head, 16 is the first no exactly where the atom is not in the target's positive body, or is in the reach.
pub said_16 : (ws ms ls : List ℕ) (k : ℕ) → let P = view ws ms in let s = step_at ls k in
    So (kind_known (kind_at ls k)) → So (target_kept P s) → So (partner_kept P s) → So (atom_known (get_or ws 0 0) s)
    → s.kind ≡ loop → (c : Clause) → c ∈ left P → s.atom ∈ c.head
    → (first_no ws ms ls k ≡ some ConditionHolds) ↔ ¬ ((s.atom ∈ (entry P s.target).clause.pos) × ¬ So (reach (left P) s.atom))
unfolding step_questions shape_questions condition_questions ask condition_holds
said_16 ws ms ls k a b c d e x y z =
    let P = view ws ms in
    let s = step_at ls k in
    let t = (entry P s.target).clause in
    let p = (entry P s.partner).clause in
    let head = (in_head_iff (left P) s.atom).1 (x, y, z) in
    let m : atom_matches P s ≡ true = rw e in
    let h : atom_headed P s ≡ true = so_by (atom_headed P s) (λ n. head ((headed_no P s).0 (so_false _ n)).1) in
    let q : first_no ws ms ls k ≡ ask some (condition_holds P s) ConditionHolds none = rw (a, b, c, d) (rw (m, h)) in
    let f = first_exactly (condition_holds P s) ConditionHolds none (λ o. let v : ◌≡◌ {A = ℕ} 0 1 = cc in omega arith) in
    let at = subst (λ j. So (condition j (left P) t p s.atom) ↔ Loops (left P) t s.atom) (sym e) (loops (left P) t p s.atom) in (
      λ o w. not_so (f.0 (sym q ∙ o)) (at.1 (record { there = w.0; head = head; outside = w.1 })),
      λ w. q ∙ f.1 (so_false _ (λ g. let v = at.0 g in w (v.there, v.outside))),
    )

-- ---- lists

-- where 32 is a step's first no, it is answered no
no_32 : (ws ms ls : List ℕ) (k : ℕ) → first_no ws ms ls k ≡ some AtomHeaded → atom_headed (view ws ms) (step_at ls k) ≡ false
unfolding step_questions shape_questions condition_questions ask
no_32 ws ms ls k = go (kind_known (kind_at ls k)) (target_kept P s) (partner_kept P s) (atom_known (get_or ws 0 0) s) (atom_matches P s) (atom_headed P s) (condition_holds P s)
  where
    P : Marked
    P = view ws ms

    s : Step
    s = step_at ls k

    go : (a b c d e x y : Bool) → ask some a KindKnown (ask some b TargetKept (ask some c PartnerKept (ask some d AtomKnown (ask some e AtomMatches (ask some x AtomHeaded (ask some y ConditionHolds none)))))) ≡ some AtomHeaded → x ≡ false
    go false b c d e x y h = let z : ◌≡◌ {A = ℕ} 0 1 = cc in absurd (omega arith)
    go true false c d e x y h = let z : ◌≡◌ {A = ℕ} 0 1 = cc in absurd (omega arith)
    go true true false d e x y h = let z : ◌≡◌ {A = ℕ} 0 1 = cc in absurd (omega arith)
    go true true true false e x y h = let z : ◌≡◌ {A = ℕ} 0 1 = cc in absurd (omega arith)
    go true true true true false x y h = let z : ◌≡◌ {A = ℕ} 0 1 = cc in absurd (omega arith)
    go true true true true true false y h = refl
    go true true true true true true true h = let z : ◌≡◌ {A = ℕ} 0 1 = cc in absurd (omega arith)
    go true true true true true true false h = let z : ◌≡◌ {A = ℕ} 0 1 = cc in absurd (omega arith)

-- A list refused by 32 is refused at a loop step, on the program that the steps before it leave, whose atom is in no head there.
pub refused_32 : (ws ms ls : List ℕ) (k : ℕ) → (check_list ws ms ls).answer ≡ Err (refusal.Step AtomHeaded k) → ((step_at ls k).kind ≡ loop) × Headless (view ws (check_list ws ms ls).marks) (step_at ls k)
refused_32 ws ms ls k h =
    let (r, e) = refused_at_step ws ms ls AtomHeaded k h in
    let q : r.question ≡ AtomHeaded = let z = sym r.is ∙ h in cc in
    let P = view ws (check_list ws ms ls).marks in
    let w = (headed_no P (step_at ls k)).0 (no_32 ws (check_list ws ms ls).marks ls k (subst (λ j. first_no ws (check_list ws ms ls).marks ls j ≡ some AtomHeaded) e (r.no ∙ ap some q))) in
    (sym (kind_of_number (step_at ls k).kind) ∙ ap kind_of w.0, (in_no_head_iff (left P) (step_at ls k).atom).0 w.1)

-- what a loop step names: an atom of the target's positive body, in the head of a kept clause, and outside the reach
pub record Looped (P : Marked) (s : Step) : Type 0 where
  pub there : s.atom ∈ (entry P s.target).clause.pos
  pub head : (c : Clause) × (c ∈ left P) × (s.atom ∈ c.head)
  pub outside : ¬ So (reach (left P) s.atom)

-- "a failure must be kind 6": every loop step of a list that is taken names such an atom, on the program that the steps before it leave, whoever wrote the list.
pub loops_headed : (ws ms ls : List ℕ) → IsTaken (check_call ws ms ls) → (k : ℕ) → k < length ls / 4 → (step_at ls k).kind ≡ loop → Looped (view ws (check_list ws ms (take (4 * k) ls)).marks) (step_at ls k)
loops_headed ws ms ls h k l e =
    let before = (check_list ws ms (take (4 * k) ls)).marks in
    let P = view ws before in
    let s = step_at ls k in
    let g = asks (get_or ws 0 0) P s (fine_applies (get_or ws 0 0) P (kind_at ls k) (step_at ls k) ((none_fine ws before ls k).0 (((check_taken ws ms ls).0 h).3 k l))) in
    let w = (loops (left P) (entry P s.target).clause (entry P s.partner).clause s.atom).0 (subst (λ j. So (condition j (left P) (entry P s.target).clause (entry P s.partner).clause s.atom)) e g) in
    record { there = w.there; head = (in_head_iff (left P) s.atom).0 w.head; outside = w.outside }

-- ---- the reducer's list

-- "The reducer's lists already take 6 first": the list that takes the smallest step each time, of those that applied before and are not passed over, is one, and its words are the reducer's.
pub record AsBefore (P : Program) (own : List ℕ) : Type 0 where
  pub steps : List Step
  pub order : Greedy (eligible_before P.atoms) (whole P.clauses) steps
  pub only : (l : List Step) → Greedy (eligible_before P.atoms) (whole P.clauses) l → l ≡ steps
  pub words : own ≡ words_of steps

pub list_as_before : (P : Program) → Within P → (ms ls : List ℕ) → length (encode P) ≤ length ms → 4 * room (encode P) ≤ length ls → (s : ℕ) → (call P ms ls).answer ≡ Ok s → AsBefore P (own_list P ms ls s)
list_as_before P w ms ls a b s h =
    let d = demand_3 P w ms ls ms a b a in
    let g = (lists_as_before P.atoms (whole P.clauses) d.steps).0 d.order in
    let e : d.s ≡ s = let z = sym d.taken ∙ h in cc in
    record { steps = d.steps; order = g; only = λ l f. greedy_one (eligible_before P.atoms) f g; words = subst (λ i. own_list P ms ls i ≡ words_of d.steps) e d.list }

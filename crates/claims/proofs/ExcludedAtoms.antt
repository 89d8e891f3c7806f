-- Slip 8 of document 02, "Atoms that can't be", of every list of steps and of the reducer's: when a step of kind 9 is taken, what it leaves of each clause, that the reducer tries it after the
-- others, and that its lists of before are those of now up to the first such step.
use mathlib.Core.Path.{◌≡◌, refl, sym, ap, subst, ◌∙◌}
use mathlib.Core.Logic.{◌↔◌, ◌≢◌}
use mathlib.Core.Bool.{true, ◌&&◌, So}
use mathlib.Core.List.{List, []}
use Prim.Native.Nat.{ℕ, ◌*◌, ◌/◌, ◌≤◌, ◌<◌}
use lib.Dec.{eqb, ltb}
use lib.ListN.{length, get_or, take}
use borrow.Author.Tests.{eqb-true, eq-eqb, ltb-true, lt-ltb}
use Rattle.semantics.specs.Lists.{◌∈◌, null, mem, without}
use Rattle.semantics.specs.Programs.{Clause, Program, Atoms}
use Rattle.semantics.proofs.Tests.{and_iff, not_iff, any_iff, mem_iff, null_iff, so_false}
use Rattle.semantics.proofs.Models.{All}
use Rattle.rewriting.specs.Marked.{Marked, entry, left, deleted, whole}
use Rattle.rewriting.specs.Kinds.{excluded}
use Rattle.rewriting.specs.Consequences.{AreConsequences, consequences}
use Rattle.rewriting.specs.Exclusion.{occurs}
use Rattle.rewriting.specs.Steps.{Step, condition, condition_holds, applies, effect}
use Rattle.rewriting.specs.Runs.{before_nine}
use Rattle.rewriting.specs.Reducer.{Greedy}
use Rattle.rewriting.proofs.Effect.{effect_off}
use Rattle.rewriting.proofs.Consequences.{consequences_are}
use Rattle.rewriting.proofs.Exclusion.{excludes_iff, entry_removal}
use Rattle.rewriting.proofs.Greedy.{greedy_one}
use Rattle.rewriting.proofs.BeforeNine.{eligible_of_eight, before_greedy}
use Rattle.table.specs.Encoding.{Within, encode}
use Rattle.table.specs.StepWords.{kind_at, step_at}
use Rattle.table.specs.View.{view}
use Rattle.step_questions.proofs.Laws.{fine_applies}
use Rattle.step_lists.specs.Lists.{check_list}
use Rattle.reducer_results.specs.Reductions.{room}
use Rattle.claims.proofs.Said.{IsTaken, check_call}
use Rattle.claims.proofs.Demand1.{check_taken}
use Rattle.claims.proofs.Demand3.{demand_3}
use Rattle.claims.proofs.Steps.{none_fine}

-- ---- when a step of kind 9 applies

pub record Exclusion (n : ℕ) (P : Marked) (s : Step) : Type 0 where
  -- "The target is a kept constraint with at least one positive and no negative atom;
  pub kept : So (entry P s.target).kept
  pub head : (entry P s.target).clause.head ≡ []
  pub pos : (entry P s.target).clause.pos ≢ []
  pub neg : (entry P s.target).clause.neg ≡ []
  -- the partner is unused;
  pub partner : s.partner ≡ 0
  -- the atom a occurs in a kept clause."
  pub below : s.atom < n
  pub there : (c : Clause) × (c ∈ left P) × So (occurs s.atom c)
  -- "Let D be the smallest set that holds a and the head of each kept clause with one head atom, no negative atoms and all positive atoms in D. The step applies when the target's positive
  -- atoms are all in D."
  pub follows : (D : Atoms) → AreConsequences (left P) s.atom D → All D (entry P s.target).clause.pos

module _ (n : ℕ) (P : Marked) (s : Step) (k : s.kind ≡ excluded) where
  abbrev the : Clause
  the = (entry P s.target).clause

  -- "all in D" of the set that is computed, or of any that is the smallest
  in_any : All (consequences (left P) s.atom) the.pos ↔ ((D : Atoms) → AreConsequences (left P) s.atom D → All D the.pos)
  in_any = (λ f D w b m. (consequences_are (left P) s.atom).least D w.start w.holds b (f b m), λ f. f (consequences (left P) s.atom) (consequences_are (left P) s.atom))

  forms : applies n P s ≡ ((entry P s.target).kept && (eqb s.partner 0 && (ltb s.atom n && condition excluded (left P) the (entry P s.partner).clause s.atom)))
  unfolding applies condition_holds
  forms = rw k refl

  -- A step of kind 9 applies exactly then.
  pub exclusion_iff : So (applies n P s) ↔ Exclusion n P s
  unfolding condition
  exclusion_iff = (
    λ h. let w = (and_iff (entry P s.target).kept _).0 (subst So forms h) in
        let y = (and_iff (eqb s.partner 0) _).0 w.1 in
        let z = (and_iff (ltb s.atom n) _).0 y.1 in
        let x = (excludes_iff (left P) the s.atom).0 z.1 in
        let v = (and_iff (null the.head) _).0 x.constraint in
        let u = (and_iff (null the.neg) _).0 v.1 in
        record {
          kept = w.0;
          head = (null_iff _).0 v.0;
          pos = λ e. (not_iff _).0 u.1 ((null_iff _).1 e);
          neg = (null_iff _).0 u.0;
          partner = eqb-true _ _ y.0;
          below = ltb-true _ _ z.0;
          there = (any_iff _ _).0 x.there;
          follows = in_any.0 x.follows;
        },
    λ w. subst So (sym forms) ((and_iff (entry P s.target).kept _).1 (
      w.kept,
      (and_iff (eqb s.partner 0) _).1 (
        eq-eqb _ _ w.partner,
        (and_iff (ltb s.atom n) _).1 (
          lt-ltb _ _ w.below,
          (excludes_iff (left P) the s.atom).1 (record {
            constraint = (and_iff (null the.head) _).1 ((null_iff _).1 w.head, (and_iff (null the.neg) _).1 ((null_iff _).1 w.neg, (not_iff _).1 (λ z. w.pos ((null_iff _).0 z))));
            there = (any_iff _ _).1 w.there;
            follows = in_any.1 w.follows;
          }),
        ),
      ),
    )),
  )

-- ---- what it leaves

-- of P without the atom a: "It deletes kept clauses with a in the positive body and drops a from the heads and negative bodies of the other kept ones."
pub record Without (a : ℕ) (P Q : Marked) : Type 0 where
  pub deletes : (i : ℕ) → So (entry P i).kept → a ∈ (entry P i).clause.pos → entry Q i ≡ deleted (entry P i).clause
  pub drops : (i : ℕ) → So (entry P i).kept → ¬ (a ∈ (entry P i).clause.pos)
      → entry Q i ≡ record { kept = true; clause = record { head = without a (entry P i).clause.head; pos = (entry P i).clause.pos; neg = without a (entry P i).clause.neg } }
  pub gone : (i : ℕ) → ¬ So (entry P i).kept → entry Q i ≡ entry P i

pub exclusion_leaves : (P : Marked) (s : Step) → s.kind ≡ excluded → Without s.atom P (effect P s)
exclusion_leaves P s k =
    let at : (i : ℕ) → entry (effect P s) i ≡ _ = λ i. ap (λ Q. entry Q i) (effect_off P s (rw k refl)) ∙ entry_removal s.atom P i in
    record {
      deletes = λ i q m. at i ∙ rw (q, (mem_iff s.atom (entry P i).clause.pos).1 m) refl;
      drops = λ i q f. at i ∙ rw (q, so_false (mem s.atom (entry P i).clause.pos) (λ x. f ((mem_iff _ _).0 x))) refl;
      gone = λ i q. at i ∙ rw (so_false _ q) refl;
    }

-- Every step of kind 9 of a list that is taken is such a step, on the program that the steps before it leave, whoever wrote the list.
pub exclusions_named : (ws ms ls : List ℕ) → IsTaken (check_call ws ms ls) → (k : ℕ) → k < length ls / 4 → (step_at ls k).kind ≡ excluded → Exclusion (get_or ws 0 0) (view ws (check_list ws ms (take (4 * k) ls)).marks) (step_at ls k)
exclusions_named ws ms ls h k l e =
    let before = (check_list ws ms (take (4 * k) ls)).marks in
    (exclusion_iff (get_or ws 0 0) (view ws before) (step_at ls k) e).0 (fine_applies (get_or ws 0 0) (view ws before) (kind_at ls k) (step_at ls k) ((none_fine ws before ls k).0 (((check_taken ws ms ls).0 h).3 k l)))

-- ---- the reducer

-- "The reducer tries it after 8.": where it takes a step of kind 9, no step of kinds 1 to 8 applies (`nine_last`, `rewriting/proofs/BeforeNine.antt`).

-- For every program within the limits: the list of before, which takes the smallest step of kinds 1 to 8 each time, is the reducer's up to its first step of kind 9.
pub list_before_lem : (P : Program) (w : Within P) (ms ls ks : List ℕ) (a : length (encode P) ≤ length ms) (b : 4 * room (encode P) ≤ length ls) (c : length (encode P) ≤ length ks) (old : List Step)
    → Greedy (eligible_of_eight P.atoms) (whole P.clauses) old → old ≡ before_nine (demand_3 P w ms ls ks a b c).steps
list_before_lem P w ms ls ks a b c old g = greedy_one (eligible_of_eight P.atoms) g (before_greedy P.atoms (demand_3 P w ms ls ks a b c).order)

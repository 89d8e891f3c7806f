-- Reading back: at work; and a table that can be read back reads as clauses and choices, as does what any steps of kinds 1 to 8 leave of it.
use mathlib.Core.Path.{◌≡◌, refl, sym, ap, subst, ◌∙◌}
use mathlib.Core.Logic.{◌↔◌, by_cases}
use mathlib.Core.Bool.{true, false, So}
use mathlib.Core.List.Memᴰ
use mathlib.Core.List.{List, [], ◌∷◌, map}
use Prim.Native.Nat.{ℕ, ◌≤◌, ◌<◌}
use native.Mathlib.Omega.{arith}
use lib.ListN.{get_or}
use Rattle.semantics.specs.Lists.{◌∈◌, keep}
use Rattle.semantics.specs.Programs.{Clause, Atoms}
use Rattle.semantics.proofs.Tests.{and_iff, not_iff, keep_iff, so_dec}
use Rattle.semantics.proofs.Models.{Holds, Models}
use Rattle.semantics.proofs.Decide.{map_mem, map_of}
use Rattle.rewriting.specs.Marked.{Entry, Marked, entry, left, whole}
use Rattle.rewriting.specs.Steps.{step, Step, in_no_head, condition, condition_holds, applies, effect}
use Rattle.rewriting.specs.Runs.{accepted, leaves}
use Rattle.rewriting.specs.Kinds.{no_head, failure}
use Rattle.rewriting.proofs.Left.{left_each}
use Rattle.rewriting.proofs.Subclauses.{Subclause}
use Rattle.shell_choices.specs.Translation.{Numbered, numbered, translated, OverClause, OverChoice, Over}
use Rattle.shell_choices.proofs.Members.{may, when}
use Rattle.shell_choices.proofs.Fresh.{SatisfiesChoice, disjunction_iff, ReadsAs}
use Rattle.shell_guards.specs.Guards.{guards, guarded, head_below, clauses_below}
use Rattle.shell_guards.proofs.Guards.{head_below_iff, over_below}
use Rattle.shell_guards.proofs.Sound.{below_of}
use Rattle.shell_readback.specs.Readback.{table, choice_of, is_choice, choices_in}

-- ---- at work

-- 3 <- ~0. and {0} <- 1, ~2, ~3. over four atoms, in a context that may derive 1
abbrev example : List Clause
example = table 4 (when (3 ∷ []) [] (0 ∷ []) ∷ []) (may 0 (1 ∷ []) (2 ∷ 3 ∷ []) ∷ []) (1 ∷ [])

example_is : example ≡ when (3 ∷ []) [] (0 ∷ []) ∷ when (0 ∷ 4 ∷ []) (1 ∷ []) (2 ∷ 3 ∷ []) ∷ when (1 ∷ 5 ∷ []) [] [] ∷ []
unfolding numbered translated guards guarded
example_is = refl

-- nothing derives 2: kind 4 drops it from the choice
abbrev steps : List Step
steps = step no_head 1 0 2 ∷ []

steps_accepted : accepted 6 (whole example) steps ≡ true
unfolding left in_no_head condition condition_holds applies accepted numbered translated guards guarded
steps_accepted = refl

-- what is left reads as {0} <- 1, ~3. and 3 <- ~0., and the guard is dropped
example_choices : choices_in 4 5 (left (leaves 6 (whole example) steps)) ≡ may 0 (1 ∷ []) (3 ∷ []) ∷ []
unfolding left in_no_head condition condition_holds applies effect leaves numbered translated guards guarded choices_in
example_choices = refl

example_clauses : clauses_below 4 (left (leaves 6 (whole example) steps)) ≡ when (3 ∷ []) [] (0 ∷ []) ∷ []
unfolding left in_no_head condition condition_holds applies effect leaves numbered translated guards guarded clauses_below
example_clauses = refl

-- 1 has its guard: kind 6, which would delete the choice, is refused
example_kept : applies 6 (whole example) (step failure 1 0 1) ≡ false
unfolding left in_no_head condition condition_holds applies numbered translated guards guarded
example_kept = refl

-- ---- what can be read back

abbrev pub fresh_of : Clause → ℕ
fresh_of c = get_or c.head 1 0

-- "atom | fresh <- body" over n atoms but for the fresh one
pub record Disjunction (n : ℕ) (c : Clause) : Type 0 where
  pub head : c.head ≡ get_or c.head 0 0 ∷ get_or c.head 1 0 ∷ []
  pub over : OverChoice n (choice_of c)
  pub low : n ≤ fresh_of c

-- Each kept clause is over n atoms, or a disjunction with a fresh atom below top that no other has, or has a head atom from top on.
pub record Readable (n top : ℕ) (P : Marked) : Type 0 where
  pub room : n ≤ top
  pub clause : (i : ℕ) → So (entry P i).kept → So (head_below n (entry P i).clause) → OverClause n (entry P i).clause
  pub choice : (i : ℕ) → So (entry P i).kept → So (is_choice n top (entry P i).clause) → Disjunction n (entry P i).clause
  pub one : (i j : ℕ) → So (entry P i).kept → So (entry P j).kept → So (is_choice n top (entry P i).clause) → So (is_choice n top (entry P j).clause)
      → fresh_of (entry P i).clause ≡ fresh_of (entry P j).clause → i ≡ j

-- ---- steps

disjunction_below : (n : ℕ) (d c : Entry) → Subclause d c → Disjunction n c.clause → Disjunction n d.clause
disjunction_below n d c b o = record {
  head = rw b.head o.head;
  over = record { atom = rw b.head o.over.atom; pos = λ a m. o.over.pos a (b.pos a m); neg = λ a m. o.over.neg a (b.neg a m) };
  low = rw b.head o.low;
}

-- No step of kinds 1 to 8 makes a table unreadable.
pub readable_below : (n top : ℕ) (P Q : Marked) → ((i : ℕ) → Subclause (entry Q i) (entry P i)) → Readable n top P → Readable n top Q
readable_below n top P Q b o = record {
  room = o.room;
  clause = λ i k x. over_below n (entry Q i) (entry P i) (b i) (o.clause i ((b i).kept k) (rw (b i).head at x));
  choice = λ i k x. disjunction_below n (entry Q i) (entry P i) (b i) (o.choice i ((b i).kept k) (rw (b i).head at x));
  one = λ i j k l x y e. o.one i j ((b i).kept k) ((b j).kept l) (rw (b i).head at x) (rw (b j).head at y) (rw ((b i).head, (b j).head) at e);
}

-- ---- reading back

abbrev numbered_of : Clause → Numbered
numbered_of c = record { fresh = fresh_of c; choice = choice_of c }

abbrev pub numbered_in : ℕ → ℕ → List Clause → List Numbered
numbered_in n top cs = map numbered_of (keep (is_choice n top) cs)

pub numbered_in_lem : (n top : ℕ) (cs : List Clause) → map (λ (i : Numbered). i.choice) (numbered_in n top cs) ≡ choices_in n top cs
unfolding choices_in
numbered_in_lem n top cs = go (keep (is_choice n top) cs)
  where
    go : (l : List Clause) → map (λ (i : Numbered). i.choice) (map numbered_of l) ≡ map choice_of l
    go [] = refl
    go (c ∷ l) = rw (go l)

-- the same of a list of clauses
pub record ReadableList (n top : ℕ) (ds : List Clause) : Type 0 where
  pub room : n ≤ top
  pub clause : (c : Clause) → c ∈ ds → So (head_below n c) → OverClause n c
  pub choice : (c : Clause) → c ∈ ds → So (is_choice n top c) → Disjunction n c
  pub one : (c d : Clause) → c ∈ ds → d ∈ ds → So (is_choice n top c) → So (is_choice n top d) → fresh_of c ≡ fresh_of d → c ≡ d

-- a kept clause has a place
pub place_of : (P : Marked) (c : Clause) → c ∈ left P → (i : ℕ) × So (entry P i).kept × ((entry P i).clause ≡ c)
place_of P = (left_each (λ c. (i : ℕ) × So (entry P i).kept × ((entry P i).clause ≡ c)) P).1 (λ i k. (i, k, refl))

pub readable_left : (n top : ℕ) (P : Marked) → Readable n top P → ReadableList n top (left P)
readable_left n top P o = record {
  room = o.room;
  clause = (left_each (λ c. So (head_below n c) → OverClause n c) P).1 o.clause;
  choice = (left_each (λ c. So (is_choice n top c) → Disjunction n c) P).1 o.choice;
  one = λ c d p q x y e. let v = place_of P c p in let w = place_of P d q in
      sym v.2 ∙ (ap (λ i. (entry P i).clause) (same c d v.0 w.0 v.1 w.1 v.2 w.2 x y e) ∙ w.2);
}
  where
    same : (c d : Clause) (i j : ℕ) → So (entry P i).kept → So (entry P j).kept → (entry P i).clause ≡ c → (entry P j).clause ≡ d → So (is_choice n top c) → So (is_choice n top d) → fresh_of c ≡ fresh_of d → i ≡ j
    same c d i j k l f g x y e =
        o.one i j k l (subst (λ c. So (is_choice n top c)) (sym f) x) (subst (λ c. So (is_choice n top c)) (sym g) y) (ap fresh_of f ∙ (e ∙ sym (ap fresh_of g)))

module _ (n top : ℕ) (ds : List Clause) (o : ReadableList n top ds) where
  -- a choice read comes from a clause
  from : (i : Numbered) → i ∈ numbered_in n top ds → (c : Clause) × (c ∈ ds) × So (is_choice n top c) × (i ≡ numbered_of c)
  from i m = let w = map_of numbered_of (keep (is_choice n top) ds) m in let v = (keep_iff (is_choice n top) ds w.0).0 w.1 in (w.0, v.0, v.1, w.2)

  into : (c : Clause) → c ∈ ds → So (is_choice n top c) → numbered_of c ∈ numbered_in n top ds
  into c m x = map_mem numbered_of ((keep_iff (is_choice n top) ds c).1 (m, x))

  -- the clause is the disjunction of what is read
  opens_iff : (M X : Atoms) (c : Clause) → c ∈ ds → So (is_choice n top c) → Holds M X c ↔ SatisfiesChoice M X (numbered_of c)
  opens_iff M X c m x = subst (λ l. Holds M X (record { head = l; pos = c.pos; neg = c.neg }) ↔ SatisfiesChoice M X (numbered_of c)) (sym (o.choice c m x).head) (disjunction_iff M X (numbered_of c))

  reads_models : (M X : Atoms) → Models M X (clauses_below top ds) ↔ (Models M X (clauses_below n ds) × ((i : Numbered) → i ∈ numbered_in n top ds → SatisfiesChoice M X i))
  reads_models M X = (
    λ h. (
      λ c m. let w = (below_of n ds c).0 m in h c ((below_of top ds c).1 (w.0, (head_below_iff top c).1 (λ a q. omega (arith, o.room, (head_below_iff n c).0 w.1 a q)))),
      λ i m. let w = from i m in
          subst (SatisfiesChoice M X) (sym w.3) ((opens_iff M X w.0 w.1 w.2).0 (h w.0 ((below_of top ds w.0).1 (w.1, ((and_iff _ _).0 w.2).0)))),
    ),
    λ h c m. let w = (below_of top ds c).0 m in by_cases (so_dec (head_below n c))
        (λ k. h.0 c ((below_of n ds c).1 (w.0, k)))
        (λ k. let x : So (is_choice n top c) = (and_iff (head_below top c) _).1 (w.1, (not_iff (head_below n c)).1 k) in
        (opens_iff M X c w.0 x).1 (h.1 (numbered_of c) (into c w.0 x))),
  )

  reads_over : Over n (clauses_below n ds) (map (λ (i : Numbered). i.choice) (numbered_in n top ds))
  reads_over = record {
    clauses = λ c m. let w = (below_of n ds c).0 m in o.clause c w.0 w.1;
    choices = λ k m. let v = map_of (λ (i : Numbered). i.choice) (numbered_in n top ds) m in let w = from v.0 v.1 in
        subst (OverChoice n) (sym (v.2 ∙ ap (λ (i : Numbered). i.choice) w.3)) (o.choice w.0 w.1 w.2).over;
  }

  reads_one : (i j : Numbered) → i ∈ numbered_in n top ds → j ∈ numbered_in n top ds → i.fresh ≡ j.fresh → i ≡ j
  reads_one i j p q e = let v = from i p in let w = from j q in
      v.3 ∙ (ap numbered_of (o.one v.0 w.0 v.1 w.1 v.2 w.2 (sym (ap (λ (i : Numbered). i.fresh) v.3) ∙ (e ∙ ap (λ (i : Numbered). i.fresh) w.3))) ∙ sym w.3)

  -- Without the guards it reads as the clauses with heads below n, and the choices.
  pub reads : ReadsAs n top (clauses_below top ds) (clauses_below n ds) (numbered_in n top ds)
  reads = record {
    room = o.room;
    models = reads_models;
    over = reads_over;
    low = λ i m. let w = from i m in subst (λ (j : Numbered). n ≤ j.fresh) (sym w.3) (o.choice w.0 w.1 w.2).low;
    high = λ i m. let w = from i m in subst (λ (j : Numbered). j.fresh < top) (sym w.3)
        ((head_below_iff top w.0).0 ((and_iff _ _).0 w.2).0 (fresh_of w.0) (second w.0.head (o.choice w.0 w.1 w.2).head));
    one = reads_one;
  }
    where
      second : (l : List ℕ) → l ≡ get_or l 0 0 ∷ get_or l 1 0 ∷ [] → get_or l 1 0 ∈ l
      second l e = subst (λ k. get_or l 1 0 ∈ k) (sym e) (Memᴰ.tail (Memᴰ.head refl))

-- The search as a walk: the inner search of the kinds with an atom walks a part in place of the atoms below n, that of the kinds with a
-- partner asks once a partner; targets are passed in order.
use mathlib.Core.Path.{◌≡◌, refl, sym, ap, subst, ◌∙◌}
use mathlib.Core.Logic.{◌↔◌, ◌⊎◌, inl, inr, ⊎_elim}
use mathlib.Core.Bool.{Bool, true, false, not, cond, ◌&&◌, So, true≢false, false≢true}
use mathlib.Core.List.Memᴰ
use mathlib.Core.List.{List, [], ◌∷◌}
use mathlib.Core.Option.{Option, none, some}
use Prim.Native.Nat.{ℕ, ◌<◌}
use native.Mathlib.Omega.{arith}
use lib.Dec.{ltb}
use lib.ListN.{length}
use borrow.Author.Tests.{ltb-true, lt-ltb}
use Rattle.semantics.specs.Lists.{◌∈◌, all, mem, ascending}
use Rattle.semantics.specs.Programs.{Clause}
use Rattle.semantics.proofs.Tests.{and_iff, all_iff, mem_iff, so_false, not_so}
use Rattle.rewriting.specs.Marked.{Marked, entry, left}
use Rattle.rewriting.specs.Reaches.{reach}
use Rattle.rewriting.specs.Steps.{Step, step, in_no_head, headed, condition, condition_holds, applies}
use Rattle.rewriting.specs.Kinds.{Kind, tautology, contradiction, success, no_head, blocked, failure, loop, subsumed, excluded, uses_partner, uses_atom, on_target}
use Rattle.rewriting.specs.Reducer.{eligible}
use Rattle.rewriting.specs.Search.{partner_atom, step_with, least, given, first_atom, first_partner, first_target}
use Rattle.rewriting.proofs.Search.{atom_bound}
use Rattle.rewriting.proofs.Quiet.{least_none, least_some}
use Rattle.rewriting.proofs.Rows.{alone_atom, atom_settled}
use Rattle.rewriting.proofs.Equal.{eligible_applies, eligible_ask, eligible_same, spares_partner}

-- ---- the first atom of an ascending part that passes a test is the first atom below n that is in it and passes

-- the first element that passes, as a step
unfoldable pub first_in : (ℕ → Step) → (ℕ → Bool) → List ℕ → Option Step
first_in g f [] = none
first_in g f (x ∷ l) = cond (f x) (some (g x)) (first_in g f l)

module _ (n : ℕ) (g : ℕ → Step) (f : ℕ → Bool) (test : ℕ → Bool) where
  -- what the search over atoms asks, for a part that the walk has not passed yet
  Asks : List ℕ → Type 0
  Asks l = (a : ℕ) → So (test a) ↔ ((a ∈ l) × So (f a))

  part_none : (l : List ℕ) → Asks l → ((a : ℕ) → a ∈ l → ¬ So (f a)) → least n (λ a. given (test a) (g a)) ≡ none
  unfolding Asks
  part_none l q h = least_none n _ (λ a i. ap (λ b. given b (g a)) (so_false _ (λ y. let w = (q a).0 y in h a w.0 w.1)))

  part_some : (l : List ℕ) (x : ℕ) → Asks l → x ∈ l → x < n → So (f x) → ((a : ℕ) → a ∈ l → a < x → ¬ So (f a)) → least n (λ a. given (test a) (g a)) ≡ some (g x)
  unfolding Asks
  part_some l x q m i y h = least_some n _ (g x) x i (ap (λ b. given b (g x)) ((q x).1 (m, y)))
      (λ a k. ap (λ b. given b (g a)) (so_false _ (λ z. let w = (q a).0 z in h a w.0 k w.1)))

  -- the walk: `l` is left of the part `w`, and nothing passed over passes the test
  part_walk : (w l : List ℕ) → Asks w → ((a : ℕ) → a ∈ l → (a ∈ w) × (a < n)) → So (ascending l) → ((a : ℕ) → a ∈ w → (a ∈ l) ⊎ ¬ So (f a))
      → least n (λ a. given (test a) (g a)) ≡ first_in g f l
  unfolding first_in ascending
  part_walk w [] q s o p = part_none w q (λ a m y. ⊎_elim (λ k. Memᴰ.not-nil k) (λ k. k y) (p a m))
  part_walk w (x ∷ l) q s o p = go (f x) refl (λ r. part_walk w l q (λ a m. s a (Memᴰ.tail m)) ((and_iff (all (λ y. ltb x y) l) (ascending l)).0 o).1 r)
    where
      above : (a : ℕ) → a ∈ l → x < a
      above a m = ltb-true x a ((all_iff _ _).0 ((and_iff (all (λ y. ltb x y) l) (ascending l)).0 o).0 a m)

      go : (b : Bool) → f x ≡ b → (((a : ℕ) → a ∈ w → (a ∈ l) ⊎ ¬ So (f a)) → least n (λ a. given (test a) (g a)) ≡ first_in g f l) → least n (λ a. given (test a) (g a)) ≡ cond b (some (g x)) (first_in g f l)
      go true e r = let m = s x (Memᴰ.head refl) in part_some w x q m.0 m.1 e (λ a k i y. ⊎_elim
          (λ j. ⊎_elim (λ z. omega arith) (λ z. let d = above a z in omega arith) (Memᴰ.cases_cons j)) (λ j. j y) (p a k))
      go false e r = r (λ a m. ⊎_elim (λ j. ⊎_elim (λ z. inr (λ y. not_so e (subst (λ c. So (f c)) z y))) (λ z. inl z) (Memᴰ.cases_cons j)) (λ j. inr j) (p a m))

  pub part_first : (l : List ℕ) → So (ascending l) → ((a : ℕ) → a ∈ l → a < n) → ((a : ℕ) → So (test a) ↔ ((a ∈ l) × So (f a))) → least n (λ a. given (test a) (g a)) ≡ first_in g f l
  unfolding Asks
  part_first l o s q = part_walk l l q (λ a m. (m, s a m)) o (λ a m. inl m)

-- the part that a kind with an atom walks, and the test
abbrev pub walked : Kind → Clause → List ℕ
walked tautology c = c.head
walked contradiction c = c.pos
walked no_head c = c.neg
walked failure c = c.pos
walked loop c = c.pos
walked success c = []
walked blocked c = []
walked subsumed c = []
walked excluded c = []

abbrev pub asked : Kind → List Clause → Clause → ℕ → Bool
asked tautology cs c a = mem a c.pos
asked contradiction cs c a = mem a c.neg
asked no_head cs c a = in_no_head cs a
asked failure cs c a = in_no_head cs a
asked loop cs c a = headed loop cs a && not (reach cs a)
asked success cs c a = false
asked blocked cs c a = false
asked subsumed cs c a = false
asked excluded cs c a = false

pub condition_is : (k : Kind) (cs : List Clause) (c d : Clause) (a : ℕ) → So (on_target k) → uses_partner k ≡ false → condition k cs c d a ≡ (mem a (walked k c) && asked k cs c a)
unfolding condition
condition_is tautology cs c d a o u = refl
condition_is contradiction cs c d a o u = refl
condition_is no_head cs c d a o u = refl
condition_is failure cs c d a o u = refl
condition_is loop cs c d a o u = refl
condition_is success cs c d a o u = absurd (true≢false u)
condition_is blocked cs c d a o u = absurd (true≢false u)
condition_is subsumed cs c d a o u = absurd (true≢false u)
condition_is excluded cs c d a o u = absurd (false≢true o)

-- a kind without a partner: the target is kept, and the atom is in its part and passes
pub atom_form : (n : ℕ) (P : Marked) (k : Kind) (t a : ℕ) → uses_partner k ≡ false → eligible n P (step k t 0 a) ≡ ((entry P t).kept && (ltb a n && condition k (left P) (entry P t).clause (entry P 0).clause a))
unfolding applies condition_holds
atom_form n P k t a u = eligible_same n P (step k t 0 a) (λ x. not_so u (spares_partner k x)) ∙ rw (u, alone_atom k u)

-- The inner search at a kept target: the first atom of the part that passes.
pub atom_first : (n : ℕ) (P : Marked) (k : Kind) (t : ℕ) → So (on_target k) → uses_partner k ≡ false → So (entry P t).kept → So (ascending (walked k (entry P t).clause)) → ((a : ℕ) → a ∈ walked k (entry P t).clause → a < n)
    → first_partner n P k t ≡ first_in (λ a. step k t 0 a) (asked k (left P) (entry P t).clause) (walked k (entry P t).clause)
unfolding first_partner first_atom least
atom_first n P k t on u h o s = ap (λ b. least (cond b (length P) 1) (λ p. first_atom n P k t p)) u
    ∙ ap (λ b. least (cond b n 1) (λ a. given (eligible n P (step k t 0 a)) (step k t 0 a))) (alone_atom k u)
    ∙ part_first n (λ a. step k t 0 a) (asked k (left P) c) (λ a. eligible n P (step k t 0 a)) (walked k c) o s (λ a. (
      λ y. let w = (and_iff (entry P t).kept (ltb a n && condition k (left P) c d a)).0 (subst So (atom_form n P k t a u) y) in
          let v = (and_iff (ltb a n) (condition k (left P) c d a)).0 w.1 in
          let z = (and_iff (mem a (walked k c)) (asked k (left P) c a)).0 (subst So (condition_is k (left P) c d a on u) v.1) in
          ((mem_iff _ _).0 z.0, z.1),
      λ y. subst So (sym (atom_form n P k t a u)) ((and_iff (entry P t).kept (ltb a n && condition k (left P) c d a)).1 (
        h,
        (and_iff (ltb a n) (condition k (left P) c d a)).1
            (lt-ltb a n (s a y.0), subst So (sym (condition_is k (left P) c d a on u)) ((and_iff (mem a (walked k c)) (asked k (left P) c a)).1 ((mem_iff _ _).1 y.0, y.1))),
      )),
    ))
  where
    c : Clause
    c = (entry P t).clause

    d : Clause
    d = (entry P 0).clause

-- The inner search of the kinds with a partner: one question a partner, since the partner settles the atom.
pub partner_first : (n : ℕ) (P : Marked) (k : Kind) (t p : ℕ) → So (uses_partner k) → first_atom n P k t p ≡ given (eligible n P (step_with P k t p)) (step_with P k t p)
unfolding first_atom
partner_first n P k t p u = go (eligible n P (step_with P k t p)) refl
  where
    other : (a : ℕ) → ¬ (So (eligible n P (step k t p a)) × (a ≡ partner_atom k (entry P p).clause)) → given (eligible n P (step k t p a)) (step k t p a) ≡ none
    other a x = ap (λ b. given b (step k t p a)) (so_false _ (λ h. x (h, atom_settled n P k t p a u (eligible_applies n P (step k t p a) h))))

    go : (b : Bool) → eligible n P (step_with P k t p) ≡ b → least (cond (uses_atom k) n 1) (λ a. given (eligible n P (step k t p a)) (step k t p a)) ≡ given b (step_with P k t p)
    go true e = least_some (cond (uses_atom k) n 1) _ (step_with P k t p) (partner_atom k (entry P p).clause) (atom_bound n P k t p _ e) (ap (λ b. given b (step_with P k t p)) e)
        (λ a l. other a (λ x. omega (arith, x.1)))
    go false e = least_none (cond (uses_atom k) n 1) _ (λ a l. other a (λ x. not_so e (subst (λ c. So (eligible n P (step k t p c))) x.1 x.0)))

pub partner_end : (n : ℕ) (P : Marked) (k : Kind) (t : ℕ) → So (uses_partner k) → ((p : ℕ) → p < length P → eligible n P (step_with P k t p) ≡ false) → first_partner n P k t ≡ none
unfolding first_partner
partner_end n P k t u h = ap (λ b. least (cond b (length P) 1) (λ p. first_atom n P k t p)) u
    ∙ least_none (length P) (λ p. first_atom n P k t p) (λ p l. partner_first n P k t p u ∙ ap (λ b. given b (step_with P k t p)) (h p l))

pub partner_hit : (n : ℕ) (P : Marked) (k : Kind) (t p : ℕ) → So (uses_partner k) → p < length P → ((q : ℕ) → q < p → eligible n P (step_with P k t q) ≡ false) → So (eligible n P (step_with P k t p))
    → first_partner n P k t ≡ some (step_with P k t p)
unfolding first_partner
partner_hit n P k t p u l h a = ap (λ b. least (cond b (length P) 1) (λ p. first_atom n P k t p)) u
    ∙ least_some (length P) (λ p. first_atom n P k t p) (step_with P k t p) p l (partner_first n P k t p u ∙ ap (λ b. given b (step_with P k t p)) a)
    (λ q i. partner_first n P k t q u ∙ ap (λ b. given b (step_with P k t q)) (h q i))

-- ---- targets in order

-- A target that is gone has no step.
pub target_gone : (n : ℕ) (P : Marked) (k : Kind) (t : ℕ) → ¬ So (entry P t).kept → first_partner n P k t ≡ none
unfolding first_partner first_atom
target_gone n P k t h = least_none (cond (uses_partner k) (length P) 1) (λ p. first_atom n P k t p) (λ p l. least_none (cond (uses_atom k) n 1) (λ a. given (eligible n P (step k t p a)) (step k t p a))
    (λ a i. ap (λ b. given b (step k t p a)) (so_false (eligible n P (step k t p a)) (λ y. h (eligible_ask n P (step k t p a) y).0))))

-- what the walk over the targets has passed
abbrev pub Before : ℕ → Marked → Kind → ℕ → Type 0
Before n P k t = (j : ℕ) → j < t → first_partner n P k j ≡ none

pub search_end : (n : ℕ) (P : Marked) (k : Kind) → Before n P k (length P) → first_target n P k ≡ none
unfolding first_target
search_end n P k h = least_none (length P) (λ t. first_partner n P k t) h

pub search_hit : (n : ℕ) (P : Marked) (k : Kind) (t : ℕ) (s : Step) → t < length P → first_partner n P k t ≡ some s → Before n P k t → first_target n P k ≡ some s
unfolding first_target
search_hit n P k t s l e h = least_some (length P) (λ t. first_partner n P k t) s t l e h

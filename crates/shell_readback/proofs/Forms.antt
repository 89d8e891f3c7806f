-- What lists of the nine kinds leave of a table of clauses and choices: at work; and clause by clause.
use mathlib.Core.Path.{◌≡◌, refl, sym, ap, subst, ◌∙◌}
use mathlib.Core.Bool.{Bool, true, false, not, cond, ◌&&◌, So, false≢true}
use mathlib.Core.List.Memᴰ
use mathlib.Core.List.{List, [], ◌∷◌}
use Prim.Native.Nat.{ℕ, ◌≤◌, ◌<◌}
use native.Mathlib.Omega.{arith}
use lib.Dec.{ltb}
use lib.ListN.{get_or}
use borrow.Author.Tests.{ltb-true, lt-ltb}
use Rattle.semantics.specs.Lists.{◌∈◌, all, null, keep}
use Rattle.semantics.specs.Programs.{Clause, Atoms}
use Rattle.semantics.proofs.Tests.{and_iff, not_iff, all_iff, keep_iff}
use Rattle.rewriting.specs.Marked.{Entry, left, whole}
use Rattle.rewriting.specs.Reaches.{fire, reach_from, reach}
use Rattle.rewriting.specs.Consequences.{consequences}
use Rattle.rewriting.specs.Exclusion.{excludes, removal}
use Rattle.rewriting.specs.Kinds.{excluded}
use Rattle.rewriting.specs.Steps.{Step, step, condition, condition_holds, applies, effect}
use Rattle.rewriting.specs.Runs.{accepted, leaves}
use Rattle.shell_choices.specs.Translation.{Numbered, numbered, disjunction, translated, OverClause, OverChoice}
use Rattle.shell_choices.proofs.Members.{may, when}
use Rattle.shell_choices.proofs.Below.{Lower}
use Rattle.shell_guards.specs.Guards.{head_below, clauses_below}
use Rattle.shell_guards.proofs.Guards.{head_below_iff}
use Rattle.shell_readback.specs.Readback.{is_choice, fresh_alone, told}
use Rattle.shell_readback.specs.Laid.{ClauseForm, plain, choice, guard}
use Rattle.shell_readback.proofs.Readable.{Disjunction}
use Rattle.shell_readback.proofs.Parts.{Part}

-- ---- at work

-- {0} <- 1. 1. <- 0. over two atoms
abbrev excluding : List Clause
excluding = translated 2 (when (1 ∷ []) [] [] ∷ when [] (0 ∷ []) [] ∷ []) (may 0 (1 ∷ []) [] ∷ [])

-- the constraint excludes 0: the choice loses its atom, "2 <- 1" is left of it, and is left out
abbrev nine : List Step
nine = step excluded 1 0 0 ∷ []

nine_accepted : accepted 3 (whole excluding) nine ≡ true
unfolding left fire reach_from reach consequences excludes condition condition_holds applies accepted numbered translated
nine_accepted = refl

nine_left : left (leaves 3 (whole excluding) nine) ≡ when (1 ∷ []) [] [] ∷ when (2 ∷ []) (1 ∷ []) [] ∷ []
unfolding left fire reach_from reach consequences excludes removal condition condition_holds applies effect leaves numbered translated
nine_left = refl

nine_told : told 2 (left (leaves 3 (whole excluding) nine)) ≡ when (1 ∷ []) [] [] ∷ []
unfolding left fire reach_from reach consequences excludes removal condition condition_holds applies effect leaves numbered translated told
nine_told = refl

-- {0}. 1. <- 1. over two atoms: the constraint excludes every atom, the fresh one too; the choice loses it, and the clause "0." is left
fresh_excluded : clauses_below 2 (told 2 (left (leaves 3 (whole (translated 2 (when (1 ∷ []) [] [] ∷ when [] (1 ∷ []) [] ∷ []) (may 0 [] [] ∷ []))) (step excluded 1 0 2 ∷ []))))
    ≡ when (1 ∷ []) [] [] ∷ when [] (1 ∷ []) [] ∷ when (0 ∷ []) [] [] ∷ []
unfolding left fire reach_from reach consequences excludes removal condition condition_holds applies effect leaves numbered translated told clauses_below
fresh_excluded = refl

-- ---- clause by clause

-- A clause over n atoms, what lost its fresh atom among them; a choice's "atom | fresh <- body"; or "fresh <- body", of a choice that lost its atom.
pub data LeftForm (n top : ℕ) (c : Clause) : Type 0 where
  clause_left : OverClause n c → LeftForm n top c
  choice_left : (a x : ℕ) → c.head ≡ a ∷ x ∷ [] → a < n → n ≤ x → x < top → Lower n c.pos → Lower n c.neg → LeftForm n top c
  fresh_left : (x : ℕ) → c.head ≡ x ∷ [] → n ≤ x → x < top → Lower n c.pos → Lower n c.neg → LeftForm n top c

-- what a test keeps of two
keep_two : (f : Atoms) (a x : ℕ) (Q : List ℕ → Type 0) → Q (a ∷ x ∷ []) → Q (a ∷ []) → Q (x ∷ []) → Q [] → Q (keep f (a ∷ x ∷ []))
keep_two f a x Q both one other none = go (f a) (f x)
  where
    go : (s t : Bool) → Q (cond s (a ∷ cond t (x ∷ []) []) (cond t (x ∷ []) []))
    go true true = both
    go true false = one
    go false true = other
    go false false = none

module _ (n top : ℕ) (d c : Entry) (p : Part d c) where
  abbrev new : Clause
  new = d.clause

  part_plain : OverClause n c.clause → OverClause n new
  part_plain o = record {
    head = λ a m. o.head a ((keep_iff p.test c.clause.head a).0 (subst (λ l. a ∈ l) p.head m)).0;
    pos = λ a m. o.pos a (p.pos a m);
    neg = λ a m. o.neg a (p.neg a m);
  }

  part_choice : (i : Numbered) → c.clause ≡ disjunction i → OverChoice n i.choice → n ≤ i.fresh → i.fresh < top → LeftForm n top new
  part_choice i e o l u = keep_two p.test a x (λ k. new.head ≡ k → LeftForm n top new)
      (λ q. choice_left a x q o.atom l u pos neg)
      (λ q. clause_left (record { head = λ b m. subst (λ y. y < n) (sym (Memᴰ.eq_of_singleton (subst (λ l. b ∈ l) q m))) o.atom; pos = pos; neg = neg }))
      (λ q. fresh_left x q l u pos neg)
      (λ q. clause_left (record { head = λ b m. absurd (Memᴰ.not-nil (subst (λ l. b ∈ l) q m)); pos = pos; neg = neg }))
      (p.head ∙ ap (λ (b : Clause). keep p.test b.head) e)
    where
      a : ℕ
      a = i.choice.atom

      x : ℕ
      x = i.fresh

      pos : Lower n new.pos
      pos b m = o.pos b (subst (λ (b' : Clause). b ∈ b'.pos) e (p.pos b m))

      neg : Lower n new.neg
      neg b m = o.neg b (subst (λ (b' : Clause). b ∈ b'.neg) e (p.neg b m))

  -- what is left of a clause that is no guard
  pub part_form : ClauseForm n top c.clause → So (head_below top c.clause) → LeftForm n top new
  part_form (plain o) k = clause_left (part_plain o)
  part_form (choice i e o l u) k = part_choice i e o l u
  part_form (guard h x e b l) k = absurd (omega (arith, l, (head_below_iff top c.clause).0 k x (subst (λ (b : Clause). x ∈ b.head) (sym e) (Memᴰ.tail (Memᴰ.head refl)))))

-- ---- a fresh atom alone

pub fresh_high : (n : ℕ) (c : Clause) → So (fresh_alone n c) → (a : ℕ) → a ∈ c.head → n ≤ a
fresh_high n c h a m =
    let x : ¬ (a < n) = λ l. (not_iff (ltb a n)).0 ((all_iff (λ a. not (ltb a n)) c.head).0 ((and_iff (not (null c.head)) _).0 h).1 a m) (lt-ltb a n l) in omega arith

fresh_some : (n : ℕ) (c : Clause) → So (fresh_alone n c) → (a : ℕ) × (a ∈ c.head)
fresh_some n c h = go c.head ((and_iff (not (null c.head)) _).0 h).0
  where
    go : (l : List ℕ) → So (not (null l)) → (a : ℕ) × (a ∈ l)
    go [] k = absurd (false≢true k)
    go (x ∷ l) k = (x, Memᴰ.head refl)

fresh_by : (n x : ℕ) (c : Clause) → c.head ≡ x ∷ [] → n ≤ x → So (fresh_alone n c)
fresh_by n x c e l = subst (λ k. So (not (null k) && all (λ a. not (ltb a n)) k)) (sym e)
    ((all_iff (λ a. not (ltb a n)) (x ∷ [])).1 (λ a m. (not_iff (ltb a n)).1 (λ k. omega (arith, ltb-true a n k, Memᴰ.eq_of_singleton m))))

-- ---- what is read

module _ (n top : ℕ) (room : n ≤ top) (c : Clause) where
  has : (l : List ℕ) (a : ℕ) → c.head ≡ l → a ∈ l → a ∈ c.head
  has l a e m = subst (λ k. a ∈ k) (sym e) m

  pub left_clause : LeftForm n top c → So (head_below n c) → OverClause n c
  left_clause (clause_left o) k = o
  left_clause (choice_left a x e b l u p q) k = absurd (omega (arith, l, (head_below_iff n c).0 k x (has (a ∷ x ∷ []) x e (Memᴰ.tail (Memᴰ.head refl)))))
  left_clause (fresh_left x e l u p q) k = absurd (omega (arith, l, (head_below_iff n c).0 k x (has (x ∷ []) x e (Memᴰ.head refl))))

  pub left_choice : LeftForm n top c → So (is_choice n top c) → ¬ So (fresh_alone n c) → Disjunction n c
  left_choice (clause_left o) k f = absurd ((not_iff (head_below n c)).0 ((and_iff (head_below top c) _).0 k).1 ((head_below_iff n c).1 o.head))
  left_choice (choice_left a x e b l u p q) k f = record {
    head = subst (λ k. k ≡ get_or k 0 0 ∷ get_or k 1 0 ∷ []) (sym e) refl;
    over = record { atom = subst (λ k. get_or k 0 0 < n) (sym e) b; pos = p; neg = q };
    low = subst (λ k. n ≤ get_or k 1 0) (sym e) l;
  }
  left_choice (fresh_left x e l u p q) k f = absurd (f (fresh_by n x c e l))

  -- all head atoms are below top, and all body atoms below n
  pub left_top : LeftForm n top c → So (head_below top c)
  left_top (clause_left o) = (head_below_iff top c).1 (λ a m. omega (arith, room, o.head a m))
  left_top (choice_left a x e b l u p q) = (head_below_iff top c).1 (λ y m. two y (subst (λ k. y ∈ k) e m))
    where
      two : (y : ℕ) → y ∈ a ∷ x ∷ [] → y < top
      two y (Memᴰ.head r) = omega (arith, r, room, b)
      two y (Memᴰ.tail (Memᴰ.tail x10)) = elim x10 [ ]
      two y (Memᴰ.tail (Memᴰ.head r)) = omega (arith, r, u)
  left_top (fresh_left x e l u p q) = (head_below_iff top c).1 (λ y m. omega (arith, u, Memᴰ.eq_of_singleton (subst (λ k. y ∈ k) e m)))

  pub left_pos : LeftForm n top c → Lower n c.pos
  left_pos (clause_left o) = o.pos
  left_pos (choice_left a x e b l u p q) = p
  left_pos (fresh_left x e l u p q) = p

  pub left_neg : LeftForm n top c → Lower n c.neg
  left_neg (clause_left o) = o.neg
  left_neg (choice_left a x e b l u p q) = q
  left_neg (fresh_left x e l u p q) = q

  pub left_fresh : LeftForm n top c → So (fresh_alone n c) → (x : ℕ) × (c.head ≡ x ∷ []) × (n ≤ x) × (x < top)
  left_fresh (clause_left o) f = let w = fresh_some n c f in absurd (omega (arith, fresh_high n c f w.0 w.1, o.head w.0 w.1))
  left_fresh (choice_left a x e b l u p q) f = absurd (omega (arith, b, fresh_high n c f a (has (a ∷ x ∷ []) a e (Memᴰ.head refl))))
  left_fresh (fresh_left x e l u p q) f = (x, e, l, u)

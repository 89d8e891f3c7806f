-- Laws over the table of kinds: what holds of each of its lines holds of every kind.
use mathlib.Core.Path.{◌≡◌, refl, sym, ap, subst}
use mathlib.Core.Logic.{◌↔◌, ◌≢◌}
use mathlib.Core.Bool.{Bool, true, false, not, cond, ◌&&◌, So, false≢true, true≢false}
use mathlib.Core.List.{List, [], ◌∷◌}
use Prim.Native.Nat.{ℕ, zero, suc, ◌≤◌, ◌<◌}
use native.Mathlib.Omega.{arith}
use lib.Dec.{eqb, ltb}
use lib.ListN.{get_or}
use borrow.Author.Tests.{eqb-true, eq-eqb, ne_eqb}
use Rattle.semantics.specs.Lists.{◌∈◌, mem, single}
use Rattle.semantics.specs.Programs.{Clause}
use Rattle.semantics.proofs.Tests.{and_iff, not_iff, mem_iff}
use Rattle.rewriting.specs.Marked.{Marked, entry, left}
use Rattle.rewriting.specs.Reaches.{reach}
use Rattle.rewriting.specs.Steps.{Step, step, fact, in_no_head, condition, headed, condition_holds, atom_matches, atom_headed, applies}
use Rattle.rewriting.specs.Kinds.{Kind, tautology, contradiction, success, no_head, blocked, failure, loop, subsumed, excluded, Deed, deletes, drops_pos, drops_neg, removes, clauses_alone, row_of, number, kind_of, uses_partner, uses_atom, on_target}
use Rattle.rewriting.specs.Uses.{drops, asks_no_head, asks_heads}
use Rattle.rewriting.specs.Reducer.{spares}
use Rattle.rewriting.specs.Search.{partner_atom}

-- what holds of the nine kinds, in the order of their numbers
pub each_kind : (Q : Kind → Type 0) → Q tautology → Q contradiction → Q success → Q no_head → Q blocked → Q failure → Q loop → Q subsumed → Q excluded → (k : Kind) → Q k
each_kind Q a b c d e f g h i tautology = a
each_kind Q a b c d e f g h i contradiction = b
each_kind Q a b c d e f g h i success = c
each_kind Q a b c d e f g h i no_head = d
each_kind Q a b c d e f g h i blocked = e
each_kind Q a b c d e f g h i failure = f
each_kind Q a b c d e f g h i loop = g
each_kind Q a b c d e f g h i subsumed = h
each_kind Q a b c d e f g h i excluded = i

-- what holds of the kinds with a partner, of kinds 5 and 8, of those whose atom has to be in no kept head, of those that ask for kept heads at all, of those that drop a literal
module _ (Q : Kind → Type 0) where
  pub kinds_partner : Q success → Q blocked → Q subsumed → (k : Kind) → So (uses_partner k) → Q k
  kinds_partner c e h = each_kind (λ k. So (uses_partner k) → Q k)
      (λ u. absurd (false≢true u)) (λ u. absurd (false≢true u)) (λ u. c) (λ u. absurd (false≢true u)) (λ u. e) (λ u. absurd (false≢true u)) (λ u. absurd (false≢true u)) (λ u. h) (λ u. absurd (false≢true u))

  pub kinds_spares : Q blocked → Q subsumed → (k : Kind) → So (spares k) → Q k
  kinds_spares e h = each_kind (λ k. So (spares k) → Q k)
      (λ u. absurd (false≢true u)) (λ u. absurd (false≢true u)) (λ u. absurd (false≢true u)) (λ u. absurd (false≢true u)) (λ u. e) (λ u. absurd (false≢true u)) (λ u. absurd (false≢true u)) (λ u. h) (λ u. absurd (false≢true u))

  pub kinds_no_head : Q no_head → Q failure → (k : Kind) → So (asks_no_head k) → Q k
  kinds_no_head d f = each_kind (λ k. So (asks_no_head k) → Q k)
      (λ u. absurd (false≢true u)) (λ u. absurd (false≢true u)) (λ u. absurd (false≢true u)) (λ u. d) (λ u. absurd (false≢true u)) (λ u. f) (λ u. absurd (false≢true u)) (λ u. absurd (false≢true u)) (λ u. absurd (false≢true u))

  pub kinds_heads : Q no_head → Q failure → Q loop → (k : Kind) → So (asks_heads k) → Q k
  kinds_heads d f g = each_kind (λ k. So (asks_heads k) → Q k)
      (λ u. absurd (false≢true u)) (λ u. absurd (false≢true u)) (λ u. absurd (false≢true u)) (λ u. d) (λ u. absurd (false≢true u)) (λ u. f) (λ u. g) (λ u. absurd (false≢true u)) (λ u. absurd (false≢true u))

  pub kinds_drop : Q success → Q no_head → (k : Kind) → So (drops k) → Q k
  kinds_drop c d = each_kind (λ k. So (drops k) → Q k)
      (λ u. absurd (false≢true u)) (λ u. absurd (false≢true u)) (λ u. c) (λ u. d) (λ u. absurd (false≢true u)) (λ u. absurd (false≢true u)) (λ u. absurd (false≢true u)) (λ u. absurd (false≢true u)) (λ u. absurd (false≢true u))

-- ---- numbers

pub kind_of_number : (k : Kind) → kind_of (number k) ≡ k
kind_of_number = each_kind (λ k. kind_of (number k) ≡ k) refl refl refl refl refl refl refl refl refl

-- a kind's place in the search
pub kind_index : (k : Kind) → (i : ℕ) × (i < 9) × (number k ≡ suc i) × (kind_of (suc i) ≡ k)
kind_index = each_kind (λ k. (i : ℕ) × (i < 9) × (number k ≡ suc i) × (kind_of (suc i) ≡ k))
    (0, omega arith, refl, refl) (1, omega arith, refl, refl) (2, omega arith, refl, refl) (3, omega arith, refl, refl)
    (4, omega arith, refl, refl) (5, omega arith, refl, refl) (6, omega arith, refl, refl) (7, omega arith, refl, refl)
    (8, omega arith, refl, refl)

pub number_bounds : (k : Kind) → (1 ≤ number k) × (number k ≤ 9)
number_bounds k = let w = kind_index k in (omega (arith, w.2), omega (arith, w.1, w.2))

pub number_kind_of : (i : ℕ) → i < 9 → number (kind_of (suc i)) ≡ suc i
number_kind_of zero h = refl
number_kind_of (suc zero) h = refl
number_kind_of (suc (suc zero)) h = refl
number_kind_of (suc (suc (suc zero))) h = refl
number_kind_of (suc (suc (suc (suc zero)))) h = refl
number_kind_of (suc (suc (suc (suc (suc zero))))) h = refl
number_kind_of (suc (suc (suc (suc (suc (suc zero)))))) h = refl
number_kind_of (suc (suc (suc (suc (suc (suc (suc zero))))))) h = refl
number_kind_of (suc (suc (suc (suc (suc (suc (suc (suc i)))))))) h = omega arith

-- a number up to 8 is of a kind that changes its target alone
pub on_target_lem : (k : Kind) → number k ≤ 8 → So (on_target k)
on_target_lem = each_kind (λ k. number k ≤ 8 → So (on_target k)) (λ l. refl) (λ l. refl) (λ l. refl) (λ l. refl) (λ l. refl) (λ l. refl) (λ l. refl) (λ l. refl) (λ l. absurd (omega arith))

pub target_bounds : (k : Kind) → So (on_target k) → (1 ≤ number k) × (number k ≤ 8)
target_bounds = each_kind (λ k. So (on_target k) → (1 ≤ number k) × (number k ≤ 8))
    (λ o. (omega arith, omega arith)) (λ o. (omega arith, omega arith)) (λ o. (omega arith, omega arith)) (λ o. (omega arith, omega arith)) (λ o. (omega arith, omega arith))
    (λ o. (omega arith, omega arith)) (λ o. (omega arith, omega arith)) (λ o. (omega arith, omega arith)) (λ o. absurd (false≢true o))

pub kind_of_on_target : (k : ℕ) → k ≤ 8 → So (on_target (kind_of k))
kind_of_on_target zero l = refl
kind_of_on_target (suc i) l = on_target_lem (kind_of (suc i)) (omega (arith, number_kind_of i (omega arith)))

-- the one kind that does not is 9
pub not_on_target : (k : Kind) → on_target k ≡ false → k ≡ excluded
not_on_target = each_kind (λ k. on_target k ≡ false → k ≡ excluded) (λ e. absurd (true≢false e)) (λ e. absurd (true≢false e)) (λ e. absurd (true≢false e)) (λ e. absurd (true≢false e)) (λ e. absurd (true≢false e)) (λ e. absurd (true≢false e)) (λ e. absurd (true≢false e)) (λ e. absurd (true≢false e)) (λ e. refl)

-- a kind that uses a partner, drops a literal or asks for kept heads changes its target alone
pub partner_on_target : (k : Kind) → So (uses_partner k) → So (on_target k)
partner_on_target = kinds_partner (λ k. So (on_target k)) refl refl refl

pub drop_on_target : (k : Kind) → So (drops k) → So (on_target k)
drop_on_target = kinds_drop (λ k. So (on_target k)) refl refl

pub heads_on_target : (k : Kind) → So (asks_heads k) → So (on_target k)
heads_on_target = kinds_heads (λ k. So (on_target k)) refl refl refl

-- ---- which words a kind has

-- a kind without a partner has an atom
pub alone_atom : (k : Kind) → uses_partner k ≡ false → uses_atom k ≡ true
alone_atom = each_kind (λ k. uses_partner k ≡ false → uses_atom k ≡ true) (λ e. refl) (λ e. refl) (λ e. absurd (true≢false e)) (λ e. refl) (λ e. absurd (true≢false e)) (λ e. refl) (λ e. refl) (λ e. absurd (true≢false e)) (λ e. refl)

-- ---- what a kind asks for

-- a kind with a partner asks for neither kept heads nor the reach
pub partner_scope : (k : Kind) → So (uses_partner k) → (row_of k).scope ≡ clauses_alone
partner_scope = kinds_partner (λ k. (row_of k).scope ≡ clauses_alone) refl refl refl

-- the list is that atom alone
pub single_only : (a : ℕ) (l : List ℕ) → So (single (eqb a) l) → l ≡ a ∷ []
single_only a [] h = absurd (false≢true h)
single_only a (b ∷ []) h = ap (λ x. x ∷ []) (sym (eqb-true a b h))
single_only a (b ∷ c ∷ l) h = absurd (false≢true h)

-- ---- what a step drops

-- the atom is in the part that the deed drops it from
abbrev pub There : Deed → ℕ → Clause → Type 0
There deletes b c = Unit {0}
There drops_pos b c = b ∈ c.pos
There drops_neg b c = b ∈ c.neg
There removes b c = Unit {0}

-- kind 3: the partner is a fact, its head is the atom, and the target has it
pub record Succeeds (c d : Clause) (a : ℕ) : Type 0 where
  pub is_fact : So (fact d)
  pub head : d.head ≡ a ∷ []
  pub there : a ∈ c.pos

pub succeeds : (cs : List Clause) (c d : Clause) (a : ℕ) → So (condition success cs c d a) → Succeeds c d a
unfolding condition
succeeds cs c d a h = let w = simp and_iff at h in
    record { is_fact = (and_iff _ _).1 (w.0.0, w.0.1); head = single_only a d.head w.1.0; there = (mem_iff _ _).0 w.1.1 }

-- where a kind's condition holds, what it drops is there
pub drops_there : (cs : List Clause) (c d : Clause) (a : ℕ) (k : Kind) → So (condition k cs c d a) → There (row_of k).deed a c
unfolding condition
drops_there cs c d a = each_kind (λ k. So (condition k cs c d a) → There (row_of k).deed a c)
    (λ h. tt) (λ h. tt) (λ h. (succeeds cs c d a h).there) (λ h. (mem_iff _ _).0 ((and_iff (mem a c.neg) (in_no_head cs a)).0 h).0) (λ h. tt) (λ h. tt) (λ h. tt) (λ h. tt) (λ h. tt)

no_not : (b : Bool) → not b ≡ false → So b
no_not true e = refl
no_not false e = absurd (true≢false e)

-- ---- the atom of a step with a partner

-- 29 is answered no exactly of a success whose partner's head is one atom, and another than the step's
pub matches_no : (P : Marked) (s : Step) → (atom_matches P s ≡ false) ↔ ((number s.kind ≡ 3) × (b : ℕ) × ((entry P s.partner).clause.head ≡ b ∷ []) × (s.atom ≢ b))
matches_no P s = (
  λ e. let w = (and_iff (eqb (number s.kind) 3) (single (λ b. not (eqb s.atom b)) l)).0 (no_not _ e) in let v = one l w.1 in (eqb-true _ _ w.0, v.0, v.1, v.2),
  λ (k, b, e, d). ap not ((and_iff (eqb (number s.kind) 3) (single (λ b. not (eqb s.atom b)) l)).1 (eq-eqb _ _ k, subst (λ l. So (single (λ b. not (eqb s.atom b)) l)) (sym e) (ap not (ne_eqb _ _ d)))),
)
  where
    l : List ℕ
    l = (entry P s.partner).clause.head

    one : (l : List ℕ) → So (single (λ b. not (eqb s.atom b)) l) → (b : ℕ) × (l ≡ b ∷ []) × (s.atom ≢ b)
    one [] h = absurd (false≢true h)
    one (b ∷ []) h = (b, refl, λ e. (not_iff _).0 h (eq-eqb _ _ e))
    one (b ∷ c ∷ l) h = absurd (false≢true h)

-- where 16 is answered yes, so is 29
pub condition_matches : (P : Marked) (s : Step) → So (condition_holds P s) → So (atom_matches P s)
unfolding condition_holds
condition_matches P s = each_kind
    (λ k. So (condition k (left P) (entry P s.target).clause d s.atom) → So (not (eqb (number k) 3 && single (λ b. not (eqb s.atom b)) d.head)))
    (λ h. refl) (λ h. refl) (λ h. subst (λ l. So (not (single (λ b. not (eqb s.atom b)) l))) (sym (succeeds (left P) (entry P s.target).clause d s.atom h).head) ((not_iff _).1 (λ x. (not_iff _).0 x (eq-eqb s.atom s.atom refl))))
    (λ h. refl) (λ h. refl) (λ h. refl) (λ h. refl) (λ h. refl) (λ h. refl) s.kind
  where
    d : Clause
    d = (entry P s.partner).clause

-- ---- the atom of a loop

-- kind 7: the atom is in the target's positive body, in a kept head, and outside the reach
pub record Loops (cs : List Clause) (c : Clause) (a : ℕ) : Type 0 where
  pub there : a ∈ c.pos
  pub head : ¬ So (in_no_head cs a)
  pub outside : ¬ So (reach cs a)

pub loops : (cs : List Clause) (c d : Clause) (a : ℕ) → So (condition loop cs c d a) ↔ Loops cs c a
unfolding condition
loops cs c d a = (
  λ h. let w = (and_iff (mem a c.pos) (not (in_no_head cs a) && not (reach cs a))).0 h in
      let v = (and_iff (not (in_no_head cs a)) (not (reach cs a))).0 w.1 in
      record { there = (mem_iff _ _).0 w.0; head = (not_iff _).0 v.0; outside = (not_iff _).0 v.1 },
  λ w. (and_iff (mem a c.pos) (not (in_no_head cs a) && not (reach cs a))).1
      ((mem_iff _ _).1 w.there, (and_iff (not (in_no_head cs a)) (not (reach cs a))).1 ((not_iff _).1 w.head, (not_iff _).1 w.outside)),
)

-- 32 is answered no exactly of a loop step whose atom is in no kept head
pub headed_no : (P : Marked) (s : Step) → (atom_headed P s ≡ false) ↔ ((number s.kind ≡ 7) × So (in_no_head (left P) s.atom))
unfolding atom_headed
headed_no P s = (
  λ e. let w = (and_iff (eqb (number s.kind) 7) (in_no_head (left P) s.atom)).0 (no_not _ e) in (eqb-true _ _ w.0, w.1),
  λ (k, h). ap not ((and_iff (eqb (number s.kind) 7) (in_no_head (left P) s.atom)).1 (eq-eqb _ _ k, h)),
)

-- where 16 is answered yes, so is 32
pub condition_headed : (P : Marked) (s : Step) → So (condition_holds P s) → So (atom_headed P s)
unfolding condition_holds atom_headed
condition_headed P s = each_kind (λ k. So (condition k (left P) (entry P s.target).clause (entry P s.partner).clause s.atom) → So (headed k (left P) s.atom))
    (λ h. refl) (λ h. refl) (λ h. refl) (λ h. refl) (λ h. refl) (λ h. refl) (λ h. (not_iff _).1 ((loops (left P) (entry P s.target).clause (entry P s.partner).clause s.atom).0 h).head) (λ h. refl) (λ h. refl) s.kind

-- the partner settles the atom
pub atom_settled : (n : ℕ) (P : Marked) (k : Kind) (t p a : ℕ) → So (uses_partner k) → So (applies n P (step k t p a)) → a ≡ partner_atom k (entry P p).clause
unfolding applies condition_holds
atom_settled n P k t p a u h = let w = simp and_iff at h in
    kinds_partner (λ k. So (cond (uses_atom k) (ltb a n) (eqb a 0)) → So (condition k (left P) (entry P t).clause (entry P p).clause a) → a ≡ partner_atom k (entry P p).clause)
    (λ x y. sym (ap (λ l. get_or l 0 0) (succeeds (left P) (entry P t).clause (entry P p).clause a y).head)) (λ x y. eqb-true a 0 x) (λ x y. eqb-true a 0 x) k u w.1.1.0 w.1.1.1

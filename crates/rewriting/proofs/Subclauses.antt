-- A step that applies in a program whose clauses are no more than another program's applies there too, where what its kind asks of the
-- other clauses carries over.
use mathlib.Core.Path.{◌≡◌, refl, sym, subst}
use mathlib.Core.Logic.{◌↔◌}
use mathlib.Core.Bool.{Bool, true, false, not, cond, ◌&&◌, So, false≢true}
use mathlib.Core.List.{List}
use Prim.Native.Nat.{ℕ}
use lib.Dec.{eqb}
use Rattle.semantics.specs.Lists.{◌∈◌, mem, within, single}
use Rattle.semantics.specs.Programs.{Clause}
use Rattle.semantics.proofs.Tests.{without_sub, and_iff, mem_iff, within_iff}
use Rattle.rewriting.specs.Marked.{Entry, Marked, entry, left, deleted}
use Rattle.rewriting.specs.Reaches.{reach}
use Rattle.rewriting.specs.Steps.{Step, fact, in_no_head, condition, condition_holds, applies, left_by}
use Rattle.rewriting.specs.Kinds.{Kind, tautology, contradiction, success, no_head, blocked, failure, loop, subsumed, excluded, Deed, deletes, drops_pos, drops_neg, removes, at_target, uses_partner}
use Rattle.rewriting.specs.Uses.{dropping}
use Rattle.rewriting.proofs.Left.{left_each}
use Rattle.rewriting.proofs.Reach.{in_no_head_iff}
use Rattle.rewriting.proofs.Rows.{loops}

-- a clause that is no more than another, with the same head
pub record Subclause (d c : Entry) : Type 0 where
  pub kept : So d.kept → So c.kept
  pub head : d.clause.head ≡ c.clause.head
  pub pos : (a : ℕ) → a ∈ d.clause.pos → a ∈ c.clause.pos
  pub neg : (a : ℕ) → a ∈ d.clause.neg → a ∈ c.clause.neg

-- a clause that has nothing which the other has not
pub record NoMore (d c : Entry) : Type 0 where
  pub kept : So d.kept → So c.kept
  pub head : (a : ℕ) → a ∈ d.clause.head → a ∈ c.clause.head
  pub pos : (a : ℕ) → a ∈ d.clause.pos → a ∈ c.clause.pos
  pub neg : (a : ℕ) → a ∈ d.clause.neg → a ∈ c.clause.neg

pub no_more : {d c : Entry} → Subclause d c → NoMore d c
no_more b = record { kept = b.kept; head = λ a m. subst (λ l. a ∈ l) b.head m; pos = b.pos; neg = b.neg }

pub below_same : {d c : Entry} → d ≡ c → Subclause d c
below_same {c = c} e = subst (λ d. Subclause d c) (sym e) (record { kept = λ h. h; head = refl; pos = λ a m. m; neg = λ a m. m })

below_deleted : (e : Entry) → Subclause (deleted e.clause) e
below_deleted e = record { kept = λ h. absurd (false≢true h); head = refl; pos = λ a m. m; neg = λ a m. m }

pub below_left : (x : Deed) (a : ℕ) (e : Entry) → So (at_target x) → So e.kept → Subclause (left_by x a e.clause) e
below_left deletes a e o k = below_deleted e
below_left drops_pos a e o k = record { kept = λ h. k; head = refl; pos = λ b m. without_sub _ b _ m; neg = λ b m. m }
below_left drops_neg a e o k = record { kept = λ h. k; head = refl; pos = λ b m. m; neg = λ b m. without_sub _ b _ m }
below_left removes a e o k = absurd (false≢true o)

pub left_kept : (x : Deed) (a : ℕ) (c : Clause) → So (at_target x) → (left_by x a c).kept ≡ dropping x
left_kept deletes a c o = refl
left_kept drops_pos a c o = refl
left_kept drops_neg a c o = refl
left_kept removes a c o = absurd (false≢true o)

-- ---- heads of what is left, by the clauses' numbers

pub bare_iff : (P : Marked) (a : ℕ) → So (in_no_head (left P) a) ↔ ((i : ℕ) → So (entry P i).kept → ¬ (a ∈ (entry P i).clause.head))
bare_iff P a = (
  λ h. (left_each (λ c. ¬ (a ∈ c.head)) P).0 ((in_no_head_iff (left P) a).0 h),
  λ h. (in_no_head_iff (left P) a).1 ((left_each (λ c. ¬ (a ∈ c.head)) P).1 h),
)

-- an atom in no kept head stays in none
bare_on : (P Q : Marked) → ((i : ℕ) → NoMore (entry Q i) (entry P i)) → (a : ℕ) → So (in_no_head (left P) a) → So (in_no_head (left Q) a)
bare_on P Q b a h = (bare_iff Q a).1 (λ i k m. (bare_iff P a).0 h i ((b i).kept k) ((b i).head a m))

-- ---- conditions

-- what the condition of a kind asks of the other clauses, carried back from Q to P; kind 9 is not carried back
abbrev pub Keeps : Kind → Marked → Marked → ℕ → ℕ → Type 0
Keeps tautology P Q p a = Unit {0}
Keeps contradiction P Q p a = Unit {0}
Keeps success P Q p a = entry Q p ≡ entry P p
Keeps no_head P Q p a = So (in_no_head (left Q) a) → So (in_no_head (left P) a)
Keeps blocked P Q p a = entry Q p ≡ entry P p
Keeps failure P Q p a = So (in_no_head (left Q) a) → So (in_no_head (left P) a)
Keeps loop P Q p a = So (reach (left P) a) → So (reach (left Q) a)
Keeps subsumed P Q p a = entry Q p ≡ entry P p
Keeps excluded P Q p a = ⊥

mem_more : (a : ℕ) (k l : List ℕ) → ((b : ℕ) → b ∈ k → b ∈ l) → So (mem a k) → So (mem a l)
mem_more a k l f h = (mem_iff a l).1 (f a ((mem_iff a k).0 h))

within_more : (j k l : List ℕ) → ((b : ℕ) → b ∈ k → b ∈ l) → So (within j k) → So (within j l)
within_more j k l f h = (within_iff j l).1 (λ a m. f a ((within_iff j k).0 h a m))

module _ (P Q : Marked) (t p a : ℕ) (below : (i : ℕ) → NoMore (entry Q i) (entry P i)) where
  abbrev old : Clause
  old = (entry P t).clause

  abbrev new : Clause
  new = (entry Q t).clause

  abbrev by : Clause
  by = (entry P p).clause

  b : NoMore (entry Q t) (entry P t)
  b = below t

  condition_back : (k : Kind) → Keeps k P Q p a → So (condition k (left Q) new (entry Q p).clause a) → So (condition k (left P) old by a)
  unfolding condition
  condition_back tautology e h = let w = (and_iff _ _).0 h in
      (and_iff _ _).1 (mem_more a new.head old.head b.head w.0, mem_more a new.pos old.pos b.pos w.1)
  condition_back contradiction e h = let w = (and_iff _ _).0 h in
      (and_iff _ _).1 (mem_more a new.pos old.pos b.pos w.0, mem_more a new.neg old.neg b.neg w.1)
  condition_back success e h = let w = (and_iff (fact by) (single (eqb a) by.head && mem a new.pos)).0 (rw e at h) in
      let v = (and_iff (single (eqb a) by.head) (mem a new.pos)).0 w.1 in
      (and_iff (fact by) (single (eqb a) by.head && mem a old.pos)).1 (w.0, (and_iff _ _).1 (v.0, mem_more a new.pos old.pos b.pos v.1))
  condition_back no_head e h = let w = (and_iff _ _).0 h in (and_iff _ _).1 (mem_more a new.neg old.neg b.neg w.0, e w.1)
  condition_back blocked e h = let w = (and_iff (fact by) (within by.head new.neg)).0 (rw e at h) in
      (and_iff (fact by) (within by.head old.neg)).1 (w.0, within_more by.head new.neg old.neg b.neg w.1)
  condition_back failure e h = let w = (and_iff _ _).0 h in (and_iff _ _).1 (mem_more a new.pos old.pos b.pos w.0, e w.1)
  condition_back loop e h = let w = (loops (left Q) new (entry Q p).clause a).0 h in
      (loops (left P) old by a).1 (record { there = b.pos a w.there; head = λ x. w.head (bare_on P Q below a x); outside = λ r. w.outside (e r) })
  condition_back subsumed e h = let w = simp and_iff at (rw e at h) in
      (and_iff _ _).1 (
        within_more by.head new.head old.head b.head w.0,
        (and_iff _ _).1
            (within_more by.pos new.pos old.pos b.pos w.1.0, within_more by.neg new.neg old.neg b.neg w.1.1),
      )
  condition_back excluded e h = absurd e

partner_back : (u : Bool) (P Q : Marked) (p t : ℕ) → NoMore (entry Q p) (entry P p)
    → So (cond u ((entry Q p).kept && not (eqb p t)) (eqb p 0)) → So (cond u ((entry P p).kept && not (eqb p t)) (eqb p 0))
partner_back true P Q p t b h = let w = (and_iff _ _).0 h in (and_iff _ _).1 (b.kept w.0, w.1)
partner_back false P Q p t b h = h

-- A step that applies in a program whose clauses have nothing that those of P have not applies in P, where its kind's question carries back.
pub back : (n : ℕ) (P Q : Marked) → ((i : ℕ) → NoMore (entry Q i) (entry P i)) → (u : Step) → Keeps u.kind P Q u.partner u.atom → So (applies n Q u) → So (applies n P u)
unfolding applies condition_holds
back n P Q b u e h =
    let w = simp and_iff at h in
    (and_iff _ _).1 (
      (b u.target).kept w.0,
      (and_iff _ _).1 (
        partner_back (uses_partner u.kind) P Q u.partner u.target (b u.partner) w.1.0,
        (and_iff _ _).1 (
          w.1.1.0,
          condition_back P Q u.target u.partner u.atom b u.kind e w.1.1.1,
        ),
      ),
    )

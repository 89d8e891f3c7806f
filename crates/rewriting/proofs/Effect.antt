-- One step: what it leaves of each clause, of the heads and of the reach.
use mathlib.Core.Path.{◌≡◌, refl, sym, ap, subst, ◌∙◌}
use mathlib.Core.Logic.{◌↔◌, ◌≢◌, by_cases}
use mathlib.Core.Bool.{false, not, cond, ◌&&◌, So}
use mathlib.Core.List.Memᴰ
use Prim.Native.Nat.{ℕ}
use native.Mathlib.Decide.{ℕ_discrete}
use lib.Dec.{eqb}
use lib.ListN.{length, set, length-set}
use lib.Seq.{get_or-set_same, get_or-set_other}
use Rattle.semantics.specs.Lists.{◌∈◌, mem}
use Rattle.semantics.specs.Programs.{Clause, Atoms}
use Rattle.semantics.proofs.Tests.{without_keeps, and_iff, mem_iff, null_iff, so_dec, so_false}
use Rattle.semantics.proofs.Models.{All}
use Rattle.rewriting.specs.Marked.{Entry, Marked, gone, entry, left}
use Rattle.rewriting.specs.Reaches.{reach}
use Rattle.rewriting.specs.Steps.{Step, fact, in_no_head, condition, applies, left_by, effect}
use Rattle.rewriting.specs.Kinds.{Kind, row_of, uses_partner, on_target}
use Rattle.rewriting.specs.Exclusion.{removal}
use Rattle.rewriting.specs.Uses.{drops, asks_heads}
use Rattle.rewriting.proofs.Left.{kept_lt, closed_left}
use Rattle.rewriting.proofs.Reach.{bare_out, reach_closed, reach_least}
use Rattle.rewriting.proofs.Exclusion.{length_removal}
use Rattle.rewriting.proofs.Sound.{partner_other, applies_ask}
use Rattle.rewriting.proofs.Rows.{kinds_heads, kinds_drop, succeeds, loops}
use Rattle.rewriting.proofs.Subclauses.{Subclause, bare_iff, below_same, below_left, left_kept}

-- ---- the reach of what is left, by the clauses' numbers

pub reach_fires : (P : Marked) (i : ℕ) → So (entry P i).kept → All (reach (left P)) (entry P i).clause.pos → All (reach (left P)) (entry P i).clause.head
reach_fires P = (closed_left (reach (left P)) P).0 (reach_closed (left P))

pub reach_within : (R : Atoms) (P : Marked) → ((i : ℕ) → So (entry P i).kept → All R (entry P i).clause.pos → All R (entry P i).clause.head) → (a : ℕ) → So (reach (left P) a) → So (R a)
reach_within R P h = reach_least (λ a. So (R a)) (left P) ((closed_left R P).1 h)

-- ---- one step

-- kinds 1 to 8 change the target, kind 9 takes the atom out everywhere
pub effect_on : (P : Marked) (s : Step) → So (on_target s.kind) → effect P s ≡ set P s.target (left_by (row_of s.kind).deed s.atom (entry P s.target).clause)
unfolding effect
effect_on P s o = rw o

pub effect_off : (P : Marked) (s : Step) → on_target s.kind ≡ false → effect P s ≡ removal s.atom P
unfolding effect
effect_off P s o = rw o

pub length_effect : (P : Marked) (s : Step) → length (effect P s) ≡ length P
length_effect P s = by_cases (so_dec (on_target s.kind)) (λ o. ap length (effect_on P s o) ∙ simp length-set) (λ o. ap length (effect_off P s (so_false _ o)) ∙ length_removal s.atom P)

module _ (n : ℕ) (P : Marked) (s : Step) (h : So (applies n P s)) where
  pub target_kept_lem : So (entry P s.target).kept
  target_kept_lem = (applies_ask n P s h).0

  pub asks : So (condition s.kind (left P) (entry P s.target).clause (entry P s.partner).clause s.atom)
  asks = (applies_ask n P s h).2

  pub partner_asked : So (uses_partner s.kind) → So (entry P s.partner).kept × (s.partner ≢ s.target)
  partner_asked x = partner_other P s.partner s.target
      (subst (λ b. So (cond b ((entry P s.partner).kept && not (eqb s.partner s.target)) (eqb s.partner 0))) x (applies_ask n P s h).1)

-- ---- of kinds 1 to 8

module _ (n : ℕ) (P : Marked) (s : Step) (h : So (applies n P s)) (o : So (on_target s.kind)) where
  abbrev the : Clause
  the = (entry P s.target).clause

  pub at_other : (i : ℕ) → i ≢ s.target → entry (effect P s) i ≡ entry P i
  at_other i d = ap (λ Q. entry Q i) (effect_on P s o) ∙ get_or-set_other P s.target i _ gone d

  pub at_target_lem : entry (effect P s) s.target ≡ left_by (row_of s.kind).deed s.atom the
  at_target_lem = ap (λ Q. entry Q s.target) (effect_on P s o) ∙ get_or-set_same P s.target _ gone (kept_lt P s.target (target_kept_lem n P s h))

  pub effect_below : (i : ℕ) → Subclause (entry (effect P s) i) (entry P i)
  effect_below i = by_cases (ℕ_discrete i s.target)
      (λ e. subst (λ j. Subclause (entry (effect P s) j) (entry P j)) (sym e)
      (subst (λ c. Subclause c (entry P s.target)) (sym at_target_lem) (below_left (row_of s.kind).deed s.atom (entry P s.target) o (target_kept_lem n P s h))))
      (λ d. below_same (at_other i d))

  kept_after : (entry (effect P s) s.target).kept ≡ drops s.kind
  kept_after = ap (λ c. c.kept) at_target_lem ∙ left_kept (row_of s.kind).deed s.atom the o

  pub is_deleted : ¬ So (drops s.kind) → ¬ So (entry (effect P s) s.target).kept
  is_deleted d k = d (subst So kept_after k)

  is_dropped : So (drops s.kind) → So (entry (effect P s) s.target).kept
  is_dropped d = subst So (sym kept_after) d

  -- an atom in no kept head: it was in none, or the clause deleted had it
  pub heads_back : (a : ℕ) → ¬ (¬ So (drops s.kind) × (a ∈ the.head)) → So (in_no_head (left (effect P s)) a) → So (in_no_head (left P) a)
  heads_back a x q = (bare_iff P a).1 (λ i k m. by_cases (ℕ_discrete i s.target)
      (λ e. x (λ d. in_target (is_dropped d) (subst (λ j. a ∈ (entry P j).clause.head) e m), subst (λ j. a ∈ (entry P j).clause.head) e m))
      (λ d. in_other i d k m))
    where
      in_target : So (entry (effect P s) s.target).kept → ¬ (a ∈ the.head)
      in_target k m = (bare_iff (effect P s) a).0 q s.target k (subst (λ l. a ∈ l) (sym (effect_below s.target).head) m)

      in_other : (i : ℕ) → i ≢ s.target → So (entry P i).kept → ¬ (a ∈ (entry P i).clause.head)
      in_other i d k m = let e = at_other i d in
          (bare_iff (effect P s) a).0 q i (subst (λ c. So c.kept) (sym e) k) (subst (λ c. a ∈ c.clause.head) (sym e) m)

  abbrev before : Atoms
  before = reach (left P)

  abbrev after : Atoms
  after = reach (left (effect P s))

  abbrev FiresAt : Atoms → Entry → Type 0
  FiresAt R e = So e.kept → All R e.clause.pos → All R e.clause.head

  -- the reach loses nothing where the clause, put back, asks for no more of the reach after
  reach_keeps : (All after the.pos → All after the.head) → (a : ℕ) → So (before a) → So (after a)
  reach_keeps f = reach_within after P (λ i k g. by_cases (ℕ_discrete i s.target)
      (λ e. subst (λ j. All after (entry P j).clause.pos → All after (entry P j).clause.head) (sym e) f g)
      (λ d. subst (FiresAt after) (at_other i d) (reach_fires (effect P s) i) k g))

  -- a deletion adds nothing to the reach
  pub reach_less : ¬ So (drops s.kind) → (a : ℕ) → So (after a) → So (before a)
  reach_less x = reach_within before (effect P s) (λ i k g. by_cases (ℕ_discrete i s.target)
      (λ e. absurd (is_deleted x (subst (λ j. So (entry (effect P s) j).kept) e k)))
      (λ d. subst (FiresAt before) (sym (at_other i d)) (reach_fires P i) k g))

  pub reach_drop : So (drops s.kind) → (a : ℕ) → So (before a) → So (after a)
  reach_drop d = reach_keeps (λ g. subst (All after) (effect_below s.target).head
      (reach_fires (effect P s) s.target (is_dropped d) (λ b m. g b ((effect_below s.target).pos b m))))

  -- a clause that did not fire
  pub reach_idle : ¬ So (drops s.kind) → ¬ All before the.pos → (a : ℕ) → So (before a) → So (after a)
  reach_idle d x = reach_keeps (λ g. absurd (x (λ b m. reach_less d b (g b m))))

  -- a clause in whose place another fires
  pub reach_in_place : (p : ℕ) → p ≢ s.target → So (entry P p).kept → ((b : ℕ) → b ∈ (entry P p).clause.pos → b ∈ the.pos) → ((b : ℕ) → b ∈ the.head → b ∈ (entry P p).clause.head)
      → (a : ℕ) → So (before a) → So (after a)
  reach_in_place p d k f g = reach_keeps (λ x b m. subst (FiresAt after) (at_other p d) (reach_fires (effect P s) p) k (λ e q. x e (f e q)) b (g b m))

  -- a drop adds nothing to the reach either: what success drops is in it
  drop_less : So (drops s.kind) → (a : ℕ) → So (after a) → So (before a)
  unfolding condition
  drop_less x = reach_within before (effect P s) (λ i k g. by_cases (ℕ_discrete i s.target)
      (λ e. subst (λ j. FiresAt before (entry (effect P s) j)) (sym e) at k g)
      (λ d. subst (FiresAt before) (sym (at_other i d)) (reach_fires P i) k g))
    where
      fires : (c d : Clause) (b : ℕ) (k : Kind) → So (drops k) → So (condition k (left P) c d b) → (So (uses_partner k) → So (fact d) → All before d.head) → All before (left_by (row_of k).deed b c).clause.pos → All before c.pos
      fires c d b = kinds_drop (λ k. So (condition k (left P) c d b) → (So (uses_partner k) → So (fact d) → All before d.head) → All before (left_by (row_of k).deed b c).clause.pos → All before c.pos)
          (λ q f g e m. let w = succeeds (left P) c d b q in
          by_cases (ℕ_discrete e b) (λ z. f refl w.is_fact e (subst (λ l. e ∈ l) (sym w.head) (Memᴰ.head z))) (λ z. g e (without_keeps b e c.pos m z)))
          (λ q f g e m. g e m)

      fact_fires : (p : ℕ) → So (entry P p).kept → So (fact (entry P p).clause) → All before (entry P p).clause.head
      fact_fires p k f = reach_fires P p k (λ b m. absurd (Memᴰ.not-nil (subst (λ l. b ∈ l) ((null_iff _).0 ((and_iff _ _).0 f).0) m)))

      at : So (entry (effect P s) s.target).kept → All before (entry (effect P s) s.target).clause.pos → All before (entry (effect P s) s.target).clause.head
      at k g = subst (All before) (sym (effect_below s.target).head) (reach_fires P s.target (target_kept_lem n P s h)
          (fires the (entry P s.partner).clause s.atom s.kind x (asks n P s h) (λ y f. fact_fires s.partner (partner_asked n P s h y).0 f) (subst (λ c. All before c.clause.pos) at_target_lem g)))

  -- The reach does not change when a literal is dropped.
  pub drop_reach : So (drops s.kind) → (a : ℕ) → So (before a) ↔ So (after a)
  drop_reach x a = (reach_drop x a, drop_less x a)

  -- the clause that a failure or a loop step deletes did not fire
  pub heads_idle : So (asks_heads s.kind) → ¬ So (drops s.kind) → ¬ All before the.pos
  unfolding condition
  heads_idle x d = kinds_heads (λ k. ¬ So (drops k) → So (condition k (left P) the by s.atom) → ¬ All before the.pos)
      (λ d q g. d refl)
      (λ d q g. let w = (and_iff (mem s.atom the.pos) (in_no_head (left P) s.atom)).0 q in bare_out (left P) s.atom w.1 (g s.atom ((mem_iff _ _).0 w.0)))
      (λ d q g. let w = (loops (left P) the by s.atom).0 q in w.outside (g s.atom w.there)) s.kind x d (asks n P s h)
    where
      by : Clause
      by = (entry P s.partner).clause

  -- Nor when a clause is deleted that did not fire, or in whose place another fires.
  pub idle_reach : ¬ So (drops s.kind) → ¬ All before the.pos → (a : ℕ) → So (before a) ↔ So (after a)
  idle_reach x f a = (reach_idle x f a, reach_less x a)

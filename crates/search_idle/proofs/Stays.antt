-- What a step adds to the consequences of an atom lies in each set that holds the heads of the clauses which get definite and the heads of the definite clauses with an atom of the set in
-- their positive body. So an idle constraint with no positive atom in such a set stays idle. A step of kinds 1, 2, 3, 5, 6, 7 and 8 makes no clause definite, and the set may be empty.
use mathlib.Core.Path.{◌≡◌, refl, sym, subst}
use mathlib.Core.Logic.{◌⊎◌, inl, inr, ⊎_elim, by_cases}
use mathlib.Core.Bool.{Bool, true, false, not, ◌&&◌, ◌||◌, So, false≢true}
use mathlib.Core.List.Memᴰ
use mathlib.Core.List.{List, [], ◌∷◌}
use Prim.Native.Nat.{ℕ}
use native.Mathlib.Decide.{ℕ_discrete}
use Rattle.semantics.specs.Lists.{◌∈◌, any, null, single, mem, keep}
use Rattle.semantics.specs.Programs.{Clause, Atoms, Subset}
use Rattle.semantics.proofs.Tests.{and_iff, not_iff, any_iff, keep_iff, mem_iff, null_iff, or_left, or_right, not_so, without_sub, without_keeps}
use Rattle.semantics.proofs.Models.{All, Closed}
use Rattle.rewriting.specs.Marked.{Entry, Marked, entry, left}
use Rattle.rewriting.specs.Kinds.{Kind, success, no_head, row_of, number, uses_partner, on_target}
use Rattle.rewriting.specs.Steps.{Step, condition, applies, left_by, effect}
use Rattle.rewriting.specs.Consequences.{definite, consequences}
use Rattle.rewriting.specs.Exclusion.{occurs, lacking_of, removal}
use Rattle.rewriting.proofs.Left.{left_each}
use Rattle.rewriting.proofs.Reach.{closed_iff}
use Rattle.rewriting.proofs.Rows.{each_kind, succeeds}
use Rattle.rewriting.proofs.Effect.{target_kept_lem, asks, partner_asked, at_other, at_target_lem}
use Rattle.rewriting.proofs.Consequences.{consequences_least, consequences_are}
use Rattle.rewriting.proofs.Exclusion.{Lacks, lacks, entry_removal, excludes_iff}
use Rattle.step_reach.specs.Bytes.{in_bytes}
use Rattle.search_exclusion.specs.Smallest.{Excluding, Idle}
use Rattle.search_idle.specs.Forgets.{definite_kept, Heads, NewHeads, Forgets}

-- the atom is in every set that the definite clauses of P close
abbrev pub Follows : Marked → ℕ → Type 0
Follows P b = (S : Atoms) → Closed S (keep definite (left P)) → So (S b)

-- The clause e of P and what is left of it: no atom is new, and a positive atom that went follows from P's facts.
pub record Shrinks (P : Marked) (e d : Entry) : Type 0 where
  pub kept : So d.kept → So e.kept
  pub head : So d.kept → (b : ℕ) → b ∈ d.clause.head → b ∈ e.clause.head
  pub pos : So d.kept → (b : ℕ) → b ∈ d.clause.pos → b ∈ e.clause.pos
  pub neg : So d.kept → (b : ℕ) → b ∈ d.clause.neg → b ∈ e.clause.neg
  pub lost : So d.kept → (b : ℕ) → b ∈ e.clause.pos → (b ∈ d.clause.pos) ⊎ Follows P b

-- A set that holds the head of each kept definite clause of Q which was not so in P, or has an atom of the set in its positive body.
pub record Gains (P Q : Marked) (F : Atoms) : Type 0 where
  pub fresh : NewHeads P Q F
  pub on : (a t : ℕ) → So (F a) → a ∈ (entry Q t).clause.pos → Heads F (entry Q t)

null_less : (k l : List ℕ) → ((b : ℕ) → b ∈ l → b ∈ k) → So (null k) → So (null l)
null_less k [] f h = refl
null_less k (x ∷ l) f h = absurd (Memᴰ.not-nil (subst (λ k. x ∈ k) ((null_iff k).0 h) (f x (Memᴰ.head refl))))

or_cases : (a b : Bool) → So (a || b) → So a ⊎ So b
or_cases true b h = inl refl
or_cases false b h = inr h

occurs_less : (a : ℕ) (c d : Clause) → (a ∈ d.head → a ∈ c.head) → (a ∈ d.pos → a ∈ c.pos) → (a ∈ d.neg → a ∈ c.neg) → So (occurs a d) → So (occurs a c)
occurs_less a c d f g h o = ⊎_elim (λ m. or_left (mem a c.head) _ ((mem_iff _ _).1 (f ((mem_iff _ _).0 m))))
    (λ x. or_right (mem a c.head) _ (⊎_elim (λ m. or_left (mem a c.pos) _ ((mem_iff _ _).1 (g ((mem_iff _ _).0 m)))) (λ m. or_right (mem a c.pos) _ ((mem_iff _ _).1 (h ((mem_iff _ _).0 m)))) (or_cases (mem a d.pos) (mem a d.neg) x)))
    (or_cases (mem a d.head) (mem a d.pos || mem a d.neg) o)

module _ (P Q : Marked) (r : (i : ℕ) → Shrinks P (entry P i) (entry Q i)) where
  occurs_back : (a : ℕ) → So (any (occurs a) (left Q)) → So (any (occurs a) (left P))
  occurs_back a h = let w = (any_iff (occurs a) (left Q)).0 h in
      (left_each (λ c. So (occurs a c) → So (any (occurs a) (left P))) Q).1
      (λ i k o. (any_iff (occurs a) (left P)).1 ((entry P i).clause, (left_each (λ c. c ∈ left P) P).0 (λ c m. m) i ((r i).kept k), occurs_less a (entry P i).clause (entry Q i).clause ((r i).head k a) ((r i).pos k a) ((r i).neg k a) o))
      w.0 w.1 w.2

  module _ (a : ℕ) where
    closed_old : Closed (consequences (left P) a) (keep definite (left P))
    closed_old = (closed_iff (consequences (left P) a) (keep definite (left P))).0 (consequences_are (left P) a).holds

    -- a clause's positive atoms follow where those that are left do
    pos_back : (i : ℕ) → So (entry Q i).kept → All (consequences (left P) a) (entry Q i).clause.pos → All (consequences (left P) a) (entry P i).clause.pos
    pos_back i k f b m = ⊎_elim (f b) (λ g. g (consequences (left P) a) closed_old) ((r i).lost k b m)

  module _ (F : Atoms) (g : Gains P Q F) where
    -- the consequences of an atom before, and what is in the set
    abbrev joint : ℕ → Atoms
    joint a b = consequences (left P) a b || F b

    -- a clause of Q that is kept and definite
    fires : (a i : ℕ) → So (entry Q i).kept → So (definite (entry Q i).clause) → All (joint a) (entry Q i).clause.pos → All (joint a) (entry Q i).clause.head
    fires a i k d f b m = go (definite (entry P i).clause) (any F (entry Q i).clause.pos) refl refl
      where
        now : So (definite_kept (entry Q i))
        now = (and_iff (entry Q i).kept _).1 (k, d)

        old : ¬ So (any F (entry Q i).clause.pos) → All (consequences (left P) a) (entry Q i).clause.pos
        old n c q = ⊎_elim (λ x. x) (λ x. absurd (n ((any_iff F _).1 (c, q, x)))) (or_cases (consequences (left P) a c) (F c) (f c q))

        go : (x y : Bool) → definite (entry P i).clause ≡ x → any F (entry Q i).clause.pos ≡ y → So (joint a b)
        go false y e q = or_right (consequences (left P) a b) (F b) (g.fresh.fresh i (not_so e) now b m)
        go true true e q = let w = (any_iff F (entry Q i).clause.pos).0 q in or_right (consequences (left P) a b) (F b) (g.on w.0 i w.2 w.1 now b m)
        go true false e q = or_left (consequences (left P) a b) (F b) (closed_old a (entry P i).clause
            ((keep_iff definite (left P) (entry P i).clause).1 ((left_each (λ c. c ∈ left P) P).0 (λ c m. m) i ((r i).kept k), e))
            (pos_back a i k (old (not_so q))) b ((r i).head k b m))

    -- The consequences of an atom are no more than before and what is in the set.
    pub consequences_less : (a : ℕ) → Subset (consequences (left Q) a) (joint a)
    consequences_less a = consequences_least (joint a) (left Q) a (or_left (consequences (left P) a a) (F a) (consequences_are (left P) a).start)
        (λ c m. let w = (keep_iff definite (left Q) c).0 m in (left_each (λ c. So (definite c) → All (joint a) c.pos → All (joint a) c.head) Q).1 (fires a) c w.0 w.1)

    -- A constraint without head and negative atoms, and with no positive atom in the set, that excludes an atom now excluded it before.
    pub excluding_back : (n t a : ℕ) → So (null (entry P t).clause.head) → So (null (entry P t).clause.neg) → ((b : ℕ) → So (F b) → ¬ (b ∈ (entry Q t).clause.pos)) → Excluding n Q t a → Excluding n P t a
    excluding_back n t a h g o x =
        let w = (excludes_iff (left Q) (entry Q t).clause a).0 x.applies in
        record {
          kept = (r t).kept x.kept;
          below = x.below;
          applies = (excludes_iff (left P) (entry P t).clause a).1 (record {
            constraint = (and_iff (null (entry P t).clause.head) _).1 (h, (and_iff (null (entry P t).clause.neg) _).1 (g, (not_iff (null (entry P t).clause.pos)).1 (λ z. some w.constraint (null_less (entry P t).clause.pos (entry Q t).clause.pos ((r t).pos x.kept) z))));
            there = occurs_back a w.there;
            follows = pos_back a t x.kept (λ b m. ⊎_elim (λ y. y) (λ y. absurd (o b y m)) (or_cases (consequences (left P) a b) (F b) (consequences_less a b (w.follows b m))));
          });
        }
      where
        some : So (null (entry Q t).clause.head && (null (entry Q t).clause.neg && not (null (entry Q t).clause.pos))) → ¬ So (null (entry Q t).clause.pos)
        some c = (not_iff (null (entry Q t).clause.pos)).0 ((and_iff (null (entry Q t).clause.neg) _).0 ((and_iff (null (entry Q t).clause.head) _).0 c).1).1

    -- So what is idle and has no positive atom in the set stays idle.
    pub idle_stays : (n : ℕ) (s s' : List ℕ) → Subset (in_bytes s') (in_bytes s) → ((b t : ℕ) → So (F b) → b ∈ (entry Q t).clause.pos → ¬ So (in_bytes s' t)) → Idle n P s → Idle n Q s'
    idle_stays n s s' l o h = record {
      headless = λ t m k. null_less (entry P t).clause.head (entry Q t).clause.head ((r t).head k) (h.headless t (l t m) ((r t).kept k));
      positive = λ t m k. null_less (entry P t).clause.neg (entry Q t).clause.neg ((r t).neg k) (h.positive t (l t m) ((r t).kept k));
      none = λ t a m x. h.none t a (l t m) (excluding_back n t a (h.headless t (l t m) ((r t).kept x.kept)) (h.positive t (l t m) ((r t).kept x.kept)) (λ b f p. o b t f p m) x);
    }

  -- And so it is where the rest is forgotten.
  pub idle_forgets : (H : Atoms → Type 0) → ((F : Atoms) → H F → NewHeads P Q F) → (n : ℕ) (x y : List ℕ) → Forgets H Q x y → Idle n P x → Idle n Q y
  idle_forgets H h n x y f = idle_stays f.set (record { fresh = h f.set f.heads; on = λ b t z m. (f.all b z t m).heads }) n x y f.less (λ b t z m. (f.all b z t m).out)

-- ---- kinds 1 to 8

shrinks_same : (P : Marked) (e d : Entry) → d ≡ e → Shrinks P e d
shrinks_same P e d q = subst (Shrinks P e) (sym q) (record { kept = λ k. k; head = λ k b m. m; pos = λ k b m. m; neg = λ k b m. m; lost = λ k b m. inl m })

shrinks_gone : (P : Marked) (e d : Entry) → ¬ So d.kept → Shrinks P e d
shrinks_gone P e d n = record { kept = λ k. absurd (n k); head = λ k. absurd (n k); pos = λ k. absurd (n k); neg = λ k. absurd (n k); lost = λ k. absurd (n k) }

-- a fact with one head atom is definite
single_one : (l : List ℕ) (a : ℕ) → l ≡ a ∷ [] → So (single (λ _. true) l)
single_one l a e = rw e refl

fact_follows : (P : Marked) (p a : ℕ) → So (entry P p).kept → So (null (entry P p).clause.pos) → So (null (entry P p).clause.neg) → (entry P p).clause.head ≡ a ∷ [] → Follows P a
fact_follows P p a k f g e S c =
    c (entry P p).clause ((keep_iff definite (left P) (entry P p).clause).1 ((left_each (λ c. c ∈ left P) P).0 (λ c m. m) p k, (and_iff (single (λ _. true) (entry P p).clause.head) _).1 (single_one (entry P p).clause.head a e, g)))
    (λ b m. absurd (Memᴰ.not-nil (subst (λ l. b ∈ l) ((null_iff _).0 f) m))) a (subst (λ l. a ∈ l) (sym e) (Memᴰ.head refl))

shrinks_success : (P : Marked) (e : Entry) (a : ℕ) → So e.kept → Follows P a → Shrinks P e (left_by (row_of success).deed a e.clause)
shrinks_success P e a k f = record {
  kept = λ _. k;
  head = λ _ b m. m;
  pos = λ _ b m. without_sub _ _ _ m;
  neg = λ _ b m. m;
  lost = λ _ b m. by_cases (ℕ_discrete b a) (λ z. inr (subst (Follows P) (sym z) f)) (λ z. inl (without_keeps _ _ _ m z));
}

shrinks_negative : (P : Marked) (e : Entry) (a : ℕ) → So e.kept → Shrinks P e (left_by (row_of no_head).deed a e.clause)
shrinks_negative P e a k = record { kept = λ _. k; head = λ _ b m. m; pos = λ _ b m. m; neg = λ _ b m. without_sub _ _ _ m; lost = λ _ b m. inl m }

module _ (n : ℕ) (P : Marked) (s : Step) (h : So (applies n P s)) (on : So (on_target s.kind)) where
  abbrev the : Clause
  the = (entry P s.target).clause

  abbrev by : Clause
  by = (entry P s.partner).clause

  -- what the kind leaves of its target
  abbrev rest : Kind → Entry
  rest k = left_by (row_of k).deed s.atom the

  shrinks_target : (k : Kind) → So (on_target k) → (So (uses_partner k) → So (entry P s.partner).kept) → So (condition k (left P) the by s.atom) → Shrinks P (entry P s.target) (rest k)
  shrinks_target = each_kind (λ k. So (on_target k) → (So (uses_partner k) → So (entry P s.partner).kept) → So (condition k (left P) the by s.atom) → Shrinks P (entry P s.target) (rest k))
      (λ x y z. shrinks_gone P _ _ false≢true) (λ x y z. shrinks_gone P _ _ false≢true)
      (λ x y z. let w = succeeds (left P) the by s.atom z in let v = (and_iff (null by.pos) _).0 w.is_fact in shrinks_success P (entry P s.target) s.atom (target_kept_lem n P s h) (fact_follows P s.partner s.atom (y refl) v.0 v.1 w.head))
      (λ x y z. shrinks_negative P (entry P s.target) s.atom (target_kept_lem n P s h))
      (λ x y z. shrinks_gone P _ _ false≢true) (λ x y z. shrinks_gone P _ _ false≢true) (λ x y z. shrinks_gone P _ _ false≢true) (λ x y z. shrinks_gone P _ _ false≢true) (λ x y z. absurd (false≢true x))

  pub shrinks_effect : (i : ℕ) → Shrinks P (entry P i) (entry (effect P s) i)
  shrinks_effect i = by_cases (ℕ_discrete i s.target)
      (λ e. subst (λ j. Shrinks P (entry P j) (entry (effect P s) j)) (sym e) (subst (Shrinks P (entry P s.target)) (sym (at_target_lem n P s h on)) (shrinks_target s.kind on (λ u. (partner_asked n P s h u).0) (asks n P s h))))
      (λ d. shrinks_same P _ _ (at_other n P s h on i d))

  -- only kind 4 may make its target definite
  was_target : (k : Kind) → So (on_target k) → (number k ≡ 4 → ⊥) → So (definite_kept (rest k)) → So (definite the)
  was_target = each_kind (λ k. So (on_target k) → (number k ≡ 4 → ⊥) → So (definite_kept (rest k)) → So (definite the))
      (λ x y z. absurd (false≢true z)) (λ x y z. absurd (false≢true z)) (λ x y z. z) (λ x y z. absurd (y refl))
      (λ x y z. absurd (false≢true z)) (λ x y z. absurd (false≢true z)) (λ x y z. absurd (false≢true z)) (λ x y z. absurd (false≢true z)) (λ x y z. absurd (false≢true x))

  heads_effect : (F : Atoms) → (number s.kind ≡ 4 → Heads F (entry (effect P s) s.target)) → NewHeads P (effect P s) F
  heads_effect F f = record {
    fresh = λ i w. by_cases (ℕ_discrete i s.target)
        (λ e. subst (λ j. ¬ So (definite (entry P j).clause) → Heads F (entry (effect P s) j)) (sym e) at w)
        (λ d k. absurd (w ((and_iff (entry P i).kept _).0 (subst (λ e. So (definite_kept e)) (at_other n P s h on i d) k)).1));
  }
    where
      at : ¬ So (definite the) → Heads F (entry (effect P s) s.target)
      at w = by_cases (ℕ_discrete (number s.kind) 4) f (λ d k. absurd (w (was_target s.kind on d (subst (λ e. So (definite_kept e)) (at_target_lem n P s h on) k))))

  -- Such a step leaves the constraints idle that were so and are not forgotten.
  pub idle_effect : (x y : List ℕ) → Forgets (λ F. number s.kind ≡ 4 → Heads F (entry (effect P s) s.target)) (effect P s) x y → Idle n P x → Idle n (effect P s) y
  idle_effect = idle_forgets P (effect P s) shrinks_effect (λ F. number s.kind ≡ 4 → Heads F (entry (effect P s) s.target)) heads_effect n

-- ---- kind 9

module _ (P : Marked) (a : ℕ) where
  shrinks_lacking : (i : ℕ) (d : Entry) → d ≡ lacking_of a (entry P i) → Shrinks P (entry P i) d
  shrinks_lacking i d q =
      let w : So d.kept → Lacks a d (entry P i) = λ k. subst (λ e. Lacks a e (entry P i)) (sym q) (lacks a (entry P i) (subst (λ e. So e.kept) q k)) in
      record {
        kept = λ k. (w k).kept;
        head = λ k b m. without_sub _ _ _ (subst (λ l. b ∈ l) (w k).head m);
        pos = λ k b m. subst (λ l. b ∈ l) (w k).pos m;
        neg = λ k b m. without_sub _ _ _ (subst (λ l. b ∈ l) (w k).neg m);
        lost = λ k b m. inl (subst (λ l. b ∈ l) (sym (w k).pos) m);
      }

  -- So does a step of kind 9.
  pub idle_removal : (n : ℕ) (x y : List ℕ) → Forgets (NewHeads P (removal a P)) (removal a P) x y → Idle n P x → Idle n (removal a P) y
  idle_removal = idle_forgets P (removal a P) (λ i. shrinks_lacking i (entry (removal a P) i) (entry_removal a P i)) (NewHeads P (removal a P)) (λ F h. h)

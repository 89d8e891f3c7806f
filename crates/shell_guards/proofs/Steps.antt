-- Laws of the steps of kinds 1 to 8: below a set of reached atoms each keeps the models; a fact that goes leaves one in its place; clauses only shrink.
use mathlib.Core.Path.{◌≡◌, refl, sym, subst, ◌∙◌}
use mathlib.Core.Logic.{◌≢◌, by_cases, ⊎_elim}
use mathlib.Core.Bool.{Bool, true, false, cond, ◌||◌, So, false≢true}
use mathlib.Core.List.Memᴰ
use mathlib.Core.List.{List, [], ◌∷◌, ◌++◌}
use Prim.Native.Nat.{ℕ}
use native.Mathlib.Decide.{ℕ_discrete}
use lib.ListN.{set}
use Rattle.semantics.specs.Lists.{◌∈◌, null, mem, within}
use Rattle.semantics.specs.Programs.{Clause, Atoms, Subset}
use Rattle.semantics.proofs.Tests.{and_iff, or_iff, mem_iff, within_iff, null_iff, so_dec}
use Rattle.semantics.proofs.Models.{Same}
use Rattle.rewriting.specs.Marked.{Entry, Marked, entry, left}
use Rattle.rewriting.specs.Reaches.{reach}
use Rattle.rewriting.specs.Steps.{Step, fact, in_no_head, condition, applies, left_by, effect}
use Rattle.rewriting.specs.Runs.{leaves, without_nine}
use Rattle.rewriting.specs.Kinds.{Kind, tautology, contradiction, success, no_head, blocked, failure, loop, subsumed, excluded, row_of, uses_partner, on_target}
use Rattle.rewriting.specs.Uses.{drops}
use Rattle.rewriting.proofs.Rows.{succeeds, loops}
use Rattle.rewriting.proofs.ByKind.{same_outside, same_drop_neg}
use Rattle.rewriting.proofs.Reach.{bare_out}
use Rattle.rewriting.proofs.Sound.{strong, strong_same, applies_ask}
use Rattle.rewriting.proofs.Subclauses.{Subclause, below_same}
use Rattle.rewriting.proofs.BeforeNine.{without_nine_lem}
use Rattle.rewriting.proofs.Effect.{effect_on, asks, target_kept_lem, partner_asked, at_other, effect_below, reach_less, drop_reach}

-- ---- models

-- no kept body has an atom of U
abbrev pub NoBody : Atoms → Marked → Type 0
NoBody U P = (i : ℕ) → So (entry P i).kept → (a : ℕ) → a ∈ (entry P i).clause.pos ++ (entry P i).clause.neg → ¬ So (U a)

module _ (P : Marked) (U : Atoms) (no_body : NoBody U P) (M : Atoms) (sub : Subset M (λ a. reach (left P) a || U a)) (t p a : ℕ) (kt : So (entry P t).kept) where
  abbrev the : Clause
  the = (entry P t).clause

  outside : a ∈ the.pos ++ the.neg → ¬ So (reach (left P) a) → ¬ So (M a)
  outside m r y = no_body t kt a m ((or_iff _ _).0 (sub a y) r)

  -- kinds 4, 6 and 7: the atom is outside the reach
  weak_same : (k : Kind) → So (on_target k) → ¬ So (strong k) → So (condition k (left P) the (entry P p).clause a) → Same M (left P) (left (set P t (left_by (row_of k).deed a the)))
  unfolding condition
  weak_same no_head o s h = let w = (and_iff (mem a the.neg) (in_no_head (left P) a)).0 h in same_drop_neg M P t a kt (outside (Memᴰ.append_right the.pos ((mem_iff _ _).0 w.0)) (bare_out (left P) a w.1))
  weak_same failure o s h = let w = (and_iff (mem a the.pos) _).0 h in let m = (mem_iff a the.pos).0 w.0 in same_outside M P t a (outside (Memᴰ.append_left the.neg m) (bare_out (left P) a w.1)) m
  weak_same loop o s h = let w = (loops (left P) the (entry P p).clause a).0 h in same_outside M P t a (outside (Memᴰ.append_left the.neg w.there) w.outside) w.there
  weak_same tautology o s h = absurd (s refl)
  weak_same contradiction o s h = absurd (s refl)
  weak_same success o s h = absurd (s refl)
  weak_same blocked o s h = absurd (s refl)
  weak_same subsumed o s h = absurd (s refl)
  weak_same excluded o s h = absurd (false≢true o)

-- A step keeps the models below every set whose atoms are in the reach, or in no body.
pub step_same : (m : ℕ) (P : Marked) (s : Step) → So (applies m P s) → So (on_target s.kind) → (U : Atoms) → NoBody U P → (M : Atoms) → Subset M (λ a. reach (left P) a || U a) → Same M (left P) (left (effect P s))
unfolding effect
step_same m P s h o U no_body M sub = by_cases (so_dec (strong s.kind))
    (λ q. strong_same P s.target s.partner s.atom s.kind q (applies_ask m P s h) M)
    (λ q. subst (λ Q. Same M (left P) (left Q)) (sym (effect_on P s o)) (weak_same P U no_body M sub s.target s.partner s.atom (target_kept_lem m P s h) s.kind o q (asks m P s h)))

-- The reach does not grow.
pub reach_back : (m : ℕ) (P : Marked) (s : Step) → So (applies m P s) → So (on_target s.kind) → Subset (reach (left (effect P s))) (reach (left P))
reach_back m P s h o a r = by_cases (so_dec (drops s.kind)) (λ d. (drop_reach m P s h o d a).1 r) (λ d. reach_less m P s h o d a r)

-- ---- facts

null_none : (l : List ℕ) → So (null l) → (a : ℕ) → ¬ (a ∈ l)
null_none l h a m = Memᴰ.not-nil (subst (λ k. a ∈ k) ((null_iff l).0 h) m)

null_by : (l : List ℕ) → ((a : ℕ) → ¬ (a ∈ l)) → So (null l)
null_by [] h = refl
null_by (x ∷ l) h = absurd (h x (Memᴰ.head refl))

pub fact_pos : (c : Clause) → So (fact c) → (a : ℕ) → ¬ (a ∈ c.pos)
fact_pos c f = null_none c.pos ((and_iff (null c.pos) (null c.neg)).0 f).0

pub fact_neg : (c : Clause) → So (fact c) → (a : ℕ) → ¬ (a ∈ c.neg)
fact_neg c f = null_none c.neg ((and_iff (null c.pos) (null c.neg)).0 f).1

fact_by : (c : Clause) → ((a : ℕ) → ¬ (a ∈ c.pos)) → ((a : ℕ) → ¬ (a ∈ c.neg)) → So (fact c)
fact_by c p q = (and_iff (null c.pos) (null c.neg)).1 (null_by c.pos p, null_by c.neg q)

-- what is no more than a fact is one
pub fact_below : (d c : Entry) → Subclause d c → So (fact c.clause) → So (fact d.clause)
fact_below d c b f = fact_by d.clause (λ a m. fact_pos c.clause f a (b.pos a m)) (λ a m. fact_neg c.clause f a (b.neg a m))

-- a step that targets a fact has a partner that is a fact with no other head atoms
fact_partner : (k : Kind) → So (on_target k) → (cs : List Clause) (c d : Clause) (a : ℕ) → So (fact c) → So (condition k cs c d a)
    → So (uses_partner k) × So (fact d) × ((b : ℕ) → b ∈ d.head → b ∈ c.head)
unfolding condition
fact_partner blocked o cs c d a f h =
    let w = (and_iff (fact d) (within d.head c.neg)).0 h in (refl, w.0, λ b m. absurd (fact_neg c f b ((within_iff _ _).0 w.1 b m)))
fact_partner subsumed o cs c d a f h =
    let w = simp (and_iff, within_iff) at h in (refl, fact_by d (λ b m. fact_pos c f b (w.1.0 b m)) (λ b m. fact_neg c f b (w.1.1 b m)), w.0)
fact_partner success o cs c d a f h = absurd (fact_pos c f a (succeeds cs c d a h).there)
fact_partner tautology o cs c d a f h = absurd (fact_pos c f a ((mem_iff _ _).0 ((and_iff (mem a c.head) _).0 h).1))
fact_partner contradiction o cs c d a f h = absurd (fact_pos c f a ((mem_iff _ _).0 ((and_iff (mem a c.pos) _).0 h).0))
fact_partner no_head o cs c d a f h = absurd (fact_neg c f a ((mem_iff _ _).0 ((and_iff (mem a c.neg) _).0 h).0))
fact_partner failure o cs c d a f h = absurd (fact_pos c f a ((mem_iff _ _).0 ((and_iff (mem a c.pos) _).0 h).0))
fact_partner loop o cs c d a f h = absurd (fact_pos c f a ((loops cs c d a).0 h).there)
fact_partner excluded o cs c d a f h = absurd (false≢true o)

-- a kept fact whose head atoms are all in the list
pub record HasFact (P : Marked) (l : List ℕ) : Type 0 where
  pub place : ℕ
  pub kept : So (entry P place).kept
  pub is_fact : So (fact (entry P place).clause)
  pub head : (a : ℕ) → a ∈ (entry P place).clause.head → a ∈ l

-- A fact that goes leaves one in its place.
module _ (m : ℕ) (P : Marked) (s : Step) (h : So (applies m P s)) (o : So (on_target s.kind)) (l : List ℕ) where
  fact_other : (p : ℕ) → p ≢ s.target → So (entry P p).kept → So (fact (entry P p).clause) → ((a : ℕ) → a ∈ (entry P p).clause.head → a ∈ l) → HasFact (effect P s) l
  fact_other p d k f g = let e = sym (at_other m P s h o p d) in record {
    place = p;
    kept = subst (λ (x : Entry). So x.kept) e k;
    is_fact = subst (λ (x : Entry). So (fact x.clause)) e f;
    head = subst (λ (x : Entry). (a : ℕ) → a ∈ x.clause.head → a ∈ l) e g;
  }

  pub fact_stays : HasFact P l → HasFact (effect P s) l
  fact_stays w = by_cases (ℕ_discrete w.place s.target) gone (λ d. fact_other w.place d w.kept w.is_fact w.head)
    where
      gone : w.place ≡ s.target → HasFact (effect P s) l
      gone e =
          let (u, f, g) = fact_partner s.kind o (left P) (entry P s.target).clause (entry P s.partner).clause s.atom
          (subst (λ i. So (fact (entry P i).clause)) e w.is_fact) (asks m P s h) in
          let v = partner_asked m P s h u in
          fact_other s.partner v.1 v.0 f (λ a q. w.head a (subst (λ i. a ∈ (entry P i).clause.head) (sym e) (g a q)))

-- ---- clauses

below_trans : {e d c : Entry} → Subclause e d → Subclause d c → Subclause e c
below_trans x y = record { kept = λ h. y.kept (x.kept h); head = x.head ∙ y.head; pos = λ a m. y.pos a (x.pos a m); neg = λ a m. y.neg a (x.neg a m) }

pub no_body_below : (U : Atoms) (P Q : Marked) → ((i : ℕ) → Subclause (entry Q i) (entry P i)) → NoBody U P → NoBody U Q
no_body_below U P Q b h i k a m = h i ((b i).kept k) a (⊎_elim
    (λ q. Memᴰ.append_left (entry P i).clause.neg ((b i).pos a q))
    (λ q. Memᴰ.append_right (entry P i).clause.pos ((b i).neg a q)) (Memᴰ.append_cases (entry Q i).clause.pos m))

-- ---- lists

-- A list of steps without kind 9 leaves of each clause no more than there was.
pub below_list : (m : ℕ) (P : Marked) (l : List Step) → So (without_nine l) → (i : ℕ) → Subclause (entry (leaves m P l) i) (entry P i)
unfolding leaves
below_list m P [] w i = below_same refl
below_list m P (s ∷ l) w i = let v = without_nine_lem s l w in go v.0 (applies m P s) refl (below_list m (effect P s) l v.1 i)
  where
    go : So (on_target s.kind) → (t : Bool) → applies m P s ≡ t → Subclause (entry (leaves m (effect P s) l) i) (entry (effect P s) i) → Subclause (entry (cond t (leaves m (effect P s) l) P) i) (entry P i)
    go o true e r = below_trans r (effect_below m P s e o i)
    go o false e r = below_same refl

-- What a step of kinds 1 to 8 can open among those kinds: a step that is eligible after another one was eligible before it too, or is one of few.
-- Kinds 1 and 2 are never opened. A drop opens only steps whose partner is the clause that lost the literal; of kinds 3 and 5 only
-- where it is now a fact. A deletion opens only kinds 4 and 6, for an atom of the clause's head that is in no kept head now, and kind 7,
-- where the clause fired in the reach and no kept clause fires in its place.
use mathlib.Core.Path.{◌≡◌, refl, sym, ap, subst, ◌∙◌}
use mathlib.Core.Logic.{◌⊎◌, inl, inr, by_cases, ⊎_elim}
use mathlib.Core.Bool.{So, false≢true}
use mathlib.Core.List.Memᴰ
use mathlib.Core.List.{List}
use Prim.Native.Nat.{ℕ}
use native.Mathlib.Decide.{ℕ_discrete}
use Rattle.semantics.specs.Lists.{◌∈◌, all, mem, within}
use Rattle.semantics.specs.Programs.{Clause}
use Rattle.semantics.proofs.Tests.{and_iff, all_iff, mem_iff, null_iff, within_iff, without_out, so_dec}
use Rattle.semantics.proofs.Models.{All}
use Rattle.rewriting.specs.Marked.{Marked, entry, left}
use Rattle.rewriting.specs.Reaches.{reach}
use Rattle.rewriting.specs.Steps.{Step, in_no_head, condition, applies, left_by, effect}
use Rattle.rewriting.specs.Kinds.{Kind, blocked, loop, subsumed, Deed, deletes, drops_pos, drops_neg, removes, row_of, number, kind_of, uses_partner, on_target}
use Rattle.rewriting.specs.Uses.{dropping, drops, asks_no_head}
use Rattle.rewriting.specs.Reducer.{passed_over, eligible}
use Rattle.rewriting.proofs.Rows.{There, drops_there, kind_of_number}
use Rattle.rewriting.proofs.Equal.{PassedOver, passed_iff}
use Rattle.rewriting.proofs.Subclauses.{no_more}
use Rattle.rewriting.proofs.Openings.{ready, opened_by}
use Rattle.rewriting.proofs.Effect.{asks, target_kept_lem, at_target_lem, at_other, partner_asked, effect_below, is_deleted, heads_back, reach_drop, reach_idle, reach_in_place}

-- the target's head is the partner's: the partner of a subsumed clause fires in its place
abbrev pub SameHead : Marked → Step → Type 0
SameHead P s = (s.kind ≡ subsumed) × ((b : ℕ) → b ∈ (entry P s.target).clause.head → b ∈ (entry P s.partner).clause.head)

pub data Opens (P : Marked) (s u : Step) : Type 0 where
  open_partner : So (drops s.kind) → So (uses_partner u.kind) → u.partner ≡ s.target → So (ready u.kind (entry (effect P s) s.target).clause) → Opens P s u
  open_head : ¬ So (drops s.kind) → So (asks_no_head u.kind) → u.atom ∈ (entry P s.target).clause.head → So (in_no_head (left (effect P s)) u.atom) → Opens P s u
  open_reach : ¬ So (drops s.kind) → u.kind ≡ loop → All (reach (left P)) (entry P s.target).clause.pos → ¬ SameHead P s → Opens P s u

-- ---- a target that lost a literal

-- some literal of c's body is not in that of c'
pub record BodyLost (c c' : Clause) : Type 0 where
  pub lost : ¬ (((b : ℕ) → b ∈ c.pos → b ∈ c'.pos) × ((b : ℕ) → b ∈ c.neg → b ∈ c'.neg))

left_lost : (x : Deed) (a : ℕ) (c : Clause) → So (dropping x) → There x a c → BodyLost c (left_by x a c).clause
left_lost deletes a c d m = absurd (false≢true d)
left_lost drops_pos a c d m = record { lost = λ f. without_out a c.pos (f.0 a m) }
left_lost drops_neg a c d m = record { lost = λ f. without_out a c.neg (f.1 a m) }
left_lost removes a c d m = absurd (false≢true d)

dropped_body : (n : ℕ) (P : Marked) (s : Step) (h : So (applies n P s)) → So (on_target s.kind) → So (drops s.kind) → BodyLost (entry P s.target).clause (entry (effect P s) s.target).clause
dropped_body n P s h o d = subst (λ c. BodyLost (entry P s.target).clause c.clause) (sym (at_target_lem n P s h o))
    (left_lost (row_of s.kind).deed s.atom (entry P s.target).clause d (drops_there (left P) (entry P s.target).clause (entry P s.partner).clause s.atom s.kind (asks n P s h)))

-- where a step is passed over, its condition fails of a target that has less of its body
body_lost : (P : Marked) (u : Step) → PassedOver P u → (c : Clause) → BodyLost (entry P u.target).clause c → (cs : List Clause) → ¬ So (condition u.kind cs c (entry P u.partner).clause u.atom)
unfolding condition
body_lost P u r c b cs q = ⊎_elim
    (λ e. let w = simp (and_iff, null_iff) at (asked blocked e) in b.lost (λ x m. absurd (Memᴰ.not-nil (subst (λ l. x ∈ l) w.0.0 m)), λ x m. absurd (Memᴰ.not-nil (subst (λ l. x ∈ l) w.0.1 m))))
    (λ e. let w = simp (and_iff, within_iff) at (asked subsumed e) in b.lost (w.1.0, w.1.1)) r.kind
  where
    asked : (k : Kind) → u.kind ≡ k → So (condition k cs c (entry P u.target).clause u.atom)
    asked k e = subst (λ k. So (condition k cs c (entry P u.target).clause u.atom)) e (subst (λ d. So (condition u.kind cs c d u.atom)) (sym r.equal) q)

-- ---- what a step opens

module _ (n : ℕ) (P : Marked) (s : Step) (h : So (applies n P s)) (on : So (on_target s.kind)) where
  pub same_head_reach : SameHead P s → (a : ℕ) → So (reach (left P) a) → So (reach (left (effect P s)) a)
  unfolding condition
  same_head_reach (e, g) = let v = partner_asked n P s h (subst (λ k. So (uses_partner k)) (sym e) refl) in
      let w = simp and_iff at (subst (λ k. So (condition k (left P) (entry P s.target).clause (entry P s.partner).clause s.atom)) e (asks n P s h)) in
      reach_in_place n P s h on s.partner v.1 v.0 ((within_iff _ _).0 w.1.0) g

  -- the three rules: what is not opened carries back
  open_partner_lem : (u : Step) → So (uses_partner u.kind) → So (entry (effect P s) u.partner).kept → So (ready u.kind (entry (effect P s) u.partner).clause)
      → (entry (effect P s) u.partner ≡ entry P u.partner) ⊎ Opens P s u
  open_partner_lem u x k f = by_cases (ℕ_discrete u.partner s.target)
      (λ e. by_cases (so_dec (drops s.kind))
      (λ d. inr (open_partner d x e (subst (λ j. So (ready u.kind (entry (effect P s) j).clause)) e f)))
      (λ d. absurd (is_deleted n P s h on d (subst (λ j. So (entry (effect P s) j).kept) e k))))
      (λ d. inl (at_other n P s h on u.partner d))

  open_head_lem : (u : Step) → So (asks_no_head u.kind) → So (in_no_head (left (effect P s)) u.atom) → So (in_no_head (left P) u.atom) ⊎ Opens P s u
  open_head_lem u x q = by_cases (so_dec (drops s.kind))
      (λ d. inl (heads_back n P s h on u.atom (λ y. y.0 d) q))
      (λ d. by_cases (so_dec (mem u.atom (entry P s.target).clause.head))
      (λ m. inr (open_head d x ((mem_iff _ _).0 m) q))
      (λ m. inl (heads_back n P s h on u.atom (λ y. m ((mem_iff _ _).1 y.1)) q)))

  open_reach_lem : (u : Step) → u.kind ≡ loop → ((a : ℕ) → So (reach (left P) a) → So (reach (left (effect P s)) a)) ⊎ Opens P s u
  open_reach_lem u e = by_cases (so_dec (drops s.kind))
      (λ d. inl (reach_drop n P s h on d))
      (λ d. by_cases (so_dec (all (reach (left P)) (entry P s.target).clause.pos))
      (λ f. ⊎_elim (λ w. inl (same_head_reach w)) (λ w. inr (open_reach d e ((all_iff _ _).0 f) w)) same_head_dec)
      (λ f. inl (reach_idle n P s h on d (λ g. f ((all_iff _ _).1 g)))))
    where
      kind_dec : (k : Kind) → (k ≡ subsumed) ⊎ ¬ (k ≡ subsumed)
      kind_dec k = by_cases (ℕ_discrete (number k) 8)
          (λ e. inl (sym (kind_of_number k) ∙ ap kind_of e))
          (λ d. inr (λ e. d (ap number e)))

      same_head_dec : SameHead P s ⊎ ¬ SameHead P s
      same_head_dec = ⊎_elim
          (λ e. by_cases (so_dec (within (entry P s.target).clause.head (entry P s.partner).clause.head))
          (λ w. inl (e, (within_iff _ _).0 w)) (λ w. inr (λ g. w ((within_iff _ _).1 g.1))))
          (λ e. inr (λ g. e g.0)) (kind_dec s.kind)

  -- A step that was passed over and still applies, with the partner as it was, is still passed over.
  still_passed : (u : Step) → So (passed_over P u) → entry (effect P s) u.partner ≡ entry P u.partner → So (applies n (effect P s) u) → So (passed_over (effect P s) u)
  still_passed u o e q =
      let r = (passed_iff P u).0 o in
      by_cases (ℕ_discrete u.target s.target)
      (λ d. by_cases (so_dec (drops s.kind))
      (λ x. absurd (body_lost P u r (entry (effect P s) u.target).clause (subst (λ i. BodyLost (entry P i).clause (entry (effect P s) i).clause) (sym d) (dropped_body n P s h on x)) (left (effect P s)) (subst (λ c. So (condition u.kind (left (effect P s)) (entry (effect P s) u.target).clause c.clause u.atom)) e (asks n (effect P s) u q))))
      (λ x. absurd (is_deleted n P s h on x (subst (λ i. So (entry (effect P s) i).kept) d (target_kept_lem n (effect P s) u q)))))
      (λ d. (passed_iff (effect P s) u).1 (record { kind = r.kind; lower = r.lower; equal = ap (λ c. c.clause) (at_other n P s h on u.target d) ∙ r.equal ∙ sym (ap (λ c. c.clause) e) }))

  -- A step of kinds 1 to 8 that is eligible after such a step was eligible before it, or is opened by it.
  pub opened : (u : Step) → So (on_target u.kind) → So (eligible n (effect P s) u) → So (eligible n P u) ⊎ Opens P s u
  opened = opened_by n P (effect P s) (Opens P s) (record { below = λ i. no_more (effect_below n P s h on i); passed = still_passed; partner = open_partner_lem; heads = open_head_lem; reaches = open_reach_lem })

-- Where the targets of a partner or an atom stand: an atom that each of them has, and the walk along that atom's places.
use mathlib.Core.Path.{◌≡◌, refl, sym, ap, subst, ◌∙◌}
use mathlib.Core.Logic.{◌≢◌, by_cases}
use mathlib.Core.Bool.{Bool, true, false, cond, ◌&&◌, So, false≢true}
use mathlib.Core.List.Memᴰ
use mathlib.Core.List.{List, [], ◌∷◌}
use Prim.Native.Nat.{ℕ, ◌+◌, ◌<◌}
use native.Mathlib.Omega.{arith}
use native.Mathlib.Decide.{ℕ_discrete, dec_lt}
use lib.Dec.{eqb}
use lib.ListN.{length, get_or}
use Rattle.semantics.specs.Lists.{◌∈◌, null, mem, within}
use Rattle.semantics.specs.Programs.{Clause}
use Rattle.semantics.proofs.Tests.{and_iff, mem_iff, within_iff, not_so}
use Rattle.rewriting.specs.Marked.{entry, left}
use Rattle.rewriting.specs.Steps.{step, fact, in_no_head, condition}
use Rattle.rewriting.specs.Reducer.{eligible}
use Rattle.rewriting.specs.Kinds.{Kind, success, subsumed, number, uses_atom}
use Rattle.rewriting.proofs.Rows.{number_bounds, succeeds, kinds_partner, kinds_no_head}
use Rattle.rewriting.proofs.Equal.{eligible_ask}
use Rattle.table.specs.Questions.{Passed}
use Rattle.table.specs.View.{view}
use Rattle.table.proofs.Encoding.{passed_limits}
use Rattle.table.proofs.Parts.{view_straight}
use Rattle.step_parts.specs.declared.Part.{Part}
use Rattle.step_parts.specs.declared.Part.TheVariants.{Head, Pos, Neg}
use Rattle.step_parts.specs.Parts.{part_of, Stands, Latest, owner_at}
use Rattle.step_parts.proofs.Index.{stands_in, stands_clause, stands_small, kept_stands}
use Rattle.step_conditions.specs.Known.{Heads}
use Rattle.step_conditions.proofs.Heads.{no_head_is}
use Rattle.search_flags.specs.Flags.{Covered, Raising}
use Rattle.step_kinds.specs.Kinds.{PartnerKind, NoHeadKind, walked_part, target_part}
use Rattle.step_kinds.proofs.Cases.{no_atom}
use Rattle.search_spreads.specs.Spreads.{Clue, NoPartner, Spread, PartnerSpread}
use Rattle.search_flags.proofs.Changes.{raising_none, raising_more, raising_below}
use Rattle.search_spreads.proofs.Limits.{target_lt}
use Rattle.search_spreads.proofs.Spreads.{partner_kept_lem}

-- ---- an atom that each target has

pub first_in_lem : (l : List ℕ) → null l ≡ false → get_or l 0 0 ∈ l
first_in_lem [] e = absurd (false≢true (sym e))
first_in_lem (a ∷ l) e = Memᴰ.head refl

pub part_small : (ws ms : List ℕ) → Passed ws → (t a : ℕ) (x : Part) → a ∈ part_of x (entry (view ws ms) t).clause → a < 1024
part_small ws ms p t a Head m = omega (arith, (view_straight ws ms p t).head_below a m, (passed_limits ws p).few_atoms)
part_small ws ms p t a Pos m = omega (arith, (view_straight ws ms p t).pos_below a m, (passed_limits ws p).few_atoms)
part_small ws ms p t a Neg m = omega (arith, (view_straight ws ms p t).neg_below a m, (passed_limits ws p).few_atoms)

asked_of : (ws ms : List ℕ) (kind : Kind) (t p a : ℕ) → So (eligible (get_or ws 0 0) (view ws ms) (step kind t p a))
    → So (condition kind (left (view ws ms)) (entry (view ws ms) t).clause (entry (view ws ms) p).clause a)
asked_of ws ms kind t p a h = (eligible_ask (get_or ws 0 0) (view ws ms) (step kind t p a) h).2

-- the partner's first head atom is in the part of the target that its kind names
head_clue : (kind : Kind) (cs : List Clause) (c d : Clause) (a : ℕ) → PartnerKind kind → null d.head ≡ false → So (condition kind cs c d a) → get_or d.head 0 0 ∈ part_of (target_part kind) c
unfolding condition
head_clue kind cs c d a k e = kinds_partner (λ i. So (condition i cs c d a) → get_or d.head 0 0 ∈ part_of (target_part i) c)
    (λ h. let w = succeeds cs c d a h in subst (λ l. get_or l 0 0 ∈ c.pos) (sym w.head) w.there)
    (λ h. (within_iff _ _).0 ((and_iff (fact d) (within d.head c.neg)).0 h).1 (get_or d.head 0 0) (first_in_lem d.head e))
    (λ h. (within_iff _ _).0 ((and_iff (within d.head c.head) (within d.pos c.pos && within d.neg c.neg)).0 h).0 (get_or d.head 0 0) (first_in_lem d.head e)) kind k

pub clue_head : (ws ms : List ℕ) (kind : Kind) (x a : ℕ) → PartnerKind kind → null (entry (view ws ms) x).clause.head ≡ false → Clue ws ms kind x a (target_part kind) (get_or (entry (view ws ms) x).clause.head 0 0)
clue_head ws ms kind x a k e t h = head_clue kind (left (view ws ms)) (entry (view ws ms) t).clause (entry (view ws ms) x).clause a k e (asked_of ws ms kind t x a h)

-- a fact without a head serves no step of kind 3
pub spread_headless : (ws ms flags : List ℕ) (kind : Kind) (x a : ℕ) → kind ≡ success → null (entry (view ws ms) x).clause.head ≡ true → Spread ws ms flags flags kind x a
spread_headless ws ms flags kind x a k e = record {
  raising = raising_none flags (number kind) (get_or ws 1 0);
  flagged = λ t h.
      let c = (entry (view ws ms) t).clause in
      let d = (entry (view ws ms) x).clause in
      let w = succeeds (left (view ws ms)) c d a (subst (λ j. So (condition j (left (view ws ms)) c d a)) k (asked_of ws ms kind t x a h)) in
      absurd (false≢true (subst (λ l. null l ≡ true) w.head e));
}

module _ (ws ms flags flags' : List ℕ) (kind : Kind) (x : ℕ) where
  -- the atom named is the partner's
  pub spread_named : (a r : ℕ) → r ≡ cond (uses_atom kind) a 0 → a ≡ get_or (entry (view ws ms) x).clause.head 0 0 → Spread ws ms flags flags' kind x r → PartnerSpread ws ms flags flags' kind x
  spread_named a r e d = subst (Spread ws ms flags flags' kind x) (e ∙ ap (λ b. cond (uses_atom kind) b 0) d)

  -- of the kinds with a partner only 3 names an atom
  pub spread_unnamed : PartnerKind kind → kind ≢ success → Spread ws ms flags flags' kind x 0 → PartnerSpread ws ms flags flags' kind x
  spread_unnamed k e = subst (Spread ws ms flags flags' kind x) (sym (ap (λ b. cond b (get_or (entry (view ws ms) x).clause.head 0 0) 0) (no_atom kind k e)))

pub clue_pos : (ws ms : List ℕ) (x : ℕ) → null (entry (view ws ms) x).clause.pos ≡ false → Clue ws ms subsumed x 0 Pos (get_or (entry (view ws ms) x).clause.pos 0 0)
unfolding condition
clue_pos ws ms x e t h =
    let c = (entry (view ws ms) t).clause in
    let d = (entry (view ws ms) x).clause in
    let w = ((and_iff (within d.head c.head) (within d.pos c.pos && within d.neg c.neg)).0 (asked_of ws ms subsumed t x 0 h)).1 in
    (within_iff _ _).0 ((and_iff (within d.pos c.pos) (within d.neg c.neg)).0 w).0 (get_or d.pos 0 0) (first_in_lem d.pos e)

pub clue_neg : (ws ms : List ℕ) (x : ℕ) → null (entry (view ws ms) x).clause.neg ≡ false → Clue ws ms subsumed x 0 Neg (get_or (entry (view ws ms) x).clause.neg 0 0)
unfolding condition
clue_neg ws ms x e t h =
    let c = (entry (view ws ms) t).clause in
    let d = (entry (view ws ms) x).clause in
    let w = ((and_iff (within d.head c.head) (within d.pos c.pos && within d.neg c.neg)).0 (asked_of ws ms subsumed t x 0 h)).1 in
    (within_iff _ _).0 ((and_iff (within d.pos c.pos) (within d.neg c.neg)).0 w).1 (get_or d.neg 0 0) (first_in_lem d.neg e)

-- kinds 4 and 6: the atom itself, which is in no kept head
no_head_asked : (kind : Kind) (cs : List Clause) (c d : Clause) (a : ℕ) → NoHeadKind kind → So (condition kind cs c d a) → (a ∈ part_of (walked_part kind) c) × So (in_no_head cs a)
unfolding condition
no_head_asked kind cs c d a = kinds_no_head (λ k. So (condition k cs c d a) → (a ∈ part_of (walked_part k) c) × So (in_no_head cs a))
    (λ h. let v = (and_iff (mem a c.neg) (in_no_head cs a)).0 h in ((mem_iff _ _).0 v.0, v.1))
    (λ h. let v = (and_iff (mem a c.pos) (in_no_head cs a)).0 h in ((mem_iff _ _).0 v.0, v.1)) kind

pub clue_atom : (ws ms : List ℕ) (kind : Kind) (a : ℕ) → NoHeadKind kind → Clue ws ms kind 0 a (walked_part kind) a
clue_atom ws ms kind a k t h = (no_head_asked kind (left (view ws ms)) (entry (view ws ms) t).clause (entry (view ws ms) 0).clause a k (asked_of ws ms kind t 0 a h)).0

-- an atom in a kept head has no step
pub spread_headed : (ws ms hs flags : List ℕ) (kind : Kind) (a : ℕ) → NoHeadKind kind → Heads ws ms hs → eqb (get_or hs a 0) 0 ≡ false → Spread ws ms flags flags kind 0 a
spread_headed ws ms hs flags kind a k h e = record {
  raising = raising_none flags (number kind) (get_or ws 1 0);
  flagged = λ t y. absurd (not_so (sym (no_head_is (left (view ws ms)) a (get_or hs a 0) (h.is a)) ∙ e) (no_head_asked kind (left (view ws ms)) (entry (view ws ms) t).clause (entry (view ws ms) 0).clause a k (asked_of ws ms kind t 0 a y)).1);
}

-- ---- the walk

-- the places above i are done
pub record SpreadAlong (ws ms index flags flags' : List ℕ) (kind : Kind) (p atom : ℕ) (x : Part) (a i : ℕ) : Type 0 where
  pub raising : Raising flags flags' (number kind) (get_or ws 1 0)
  pub here : 0 < i → Stands ws x a (get_or index (owner_at i) 0) i
  pub done : (t j : ℕ) → Stands ws x a t j → i < j → So (eligible (get_or ws 0 0) (view ws ms) (step kind t p atom)) → Covered flags' (number kind) t p

pub along_none : (ws ms index flags : List ℕ) (kind : Kind) (p atom : ℕ) (x : Part) (a i : ℕ) → Passed ws → Latest ws index x a (length ws) i → SpreadAlong ws ms index flags flags kind p atom x a i
along_none ws ms index flags kind p atom x a i q l = record {
  raising = raising_none flags (number kind) (get_or ws 1 0);
  here = λ h. (l.some h).1;
  done = λ t j s h. absurd (l.none t j s h (stands_small q s).1);
}

module _ (ws ms index flags flags' : List ℕ) (kind : Kind) (p atom : ℕ) (x : Part) (a i : ℕ) (w : SpreadAlong ws ms index flags flags' kind p atom x a i) (pass : Passed ws) where
  abbrev at : ℕ → Bool
  at t = eligible (get_or ws 0 0) (view ws ms) (step kind t p atom)

  pub along_on : 0 < i → (k : ℕ) → Latest ws index x a i k → (flags'' : List ℕ) (t : ℕ) → t ≡ get_or index (owner_at i) 0
      → Raising flags' flags'' (number kind) (t + 1) × (So (at t) → Covered flags'' (number kind) t p) → SpreadAlong ws ms index flags flags'' kind p atom x a k
  along_on h k q flags'' t e (g, f) =
      let s = w.here h in
      record {
        raising = raising_more flags flags' flags'' (number kind) (get_or ws 1 0) (t + 1) (get_or ws 1 0) (omega arith) (omega (arith, s.clause)) w.raising g;
        here = λ z. (q.some z).1;
        done = λ u j y z c. by_cases (dec_lt i j)
            (λ v. raising_below flags' flags'' (number kind) (t + 1) g (number kind) u p (omega (arith, number_bounds kind)) (stands_small pass y).3 (w.done u j y v c))
            (λ v. by_cases (ℕ_discrete j i)
            (λ d. let r : u ≡ t = stands_clause (subst (λ j. Stands ws x a u j) d y) s ∙ sym e in subst (λ i. Covered flags'' (number kind) i p) (sym r) (f (subst (λ i. So (at i)) r c)))
            (λ d. absurd (q.none u j y z (omega arith))));
      }

  pub along_end : i ≡ 0 → Clue ws ms kind p atom x a → Spread ws ms flags flags' kind p atom
  along_end e c = record {
    raising = w.raising;
    flagged = λ t h.
        let s = kept_stands ws ms x a t (target_lt ws ms (step kind t p atom) h) (c t h) in
        w.done t s.0 s.1 (let v = stands_in s.1 in omega arith) h;
  }

-- ---- a clause that is no partner

fact_asked : (kind : Kind) (cs : List Clause) (c d : Clause) (a : ℕ) → PartnerKind kind → kind ≢ subsumed → So (condition kind cs c d a) → So (fact d)
unfolding condition
fact_asked kind cs c d a k = kinds_partner (λ i. i ≢ subsumed → So (condition i cs c d a) → So (fact d))
    (λ e h. (succeeds cs c d a h).is_fact) (λ e h. ((and_iff (fact d) (within d.head c.neg)).0 h).0) (λ e h. absurd (e refl)) kind k

-- a clause that is gone, or is no fact, is no partner
pub gone_partner : (ws ms : List ℕ) (kind : Kind) (x : ℕ) → PartnerKind kind → (entry (view ws ms) x).kept ≡ false → NoPartner ws ms kind x
gone_partner ws ms kind x k e t a h = not_so e (partner_kept_lem (view ws ms) (get_or ws 0 0) kind t x a k h)

pub open_partner_lem : (ws ms : List ℕ) (kind : Kind) (x : ℕ) → PartnerKind kind → kind ≢ subsumed → fact (entry (view ws ms) x).clause ≡ false → NoPartner ws ms kind x
open_partner_lem ws ms kind x k d e t a h = not_so e (fact_asked kind (left (view ws ms)) (entry (view ws ms) t).clause (entry (view ws ms) x).clause a k d (asked_of ws ms kind t x a h))

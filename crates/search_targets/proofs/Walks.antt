-- The two searches: a walk of a part or of the partners, one target after the other.
use mathlib.Core.Path.{◌≡◌, refl, sym, ap, subst, ◌∙◌}
use mathlib.Core.Logic.{◌≢◌}
use mathlib.Core.Bool.{Bool, true, false, So}
use mathlib.Core.List.{List, [], ◌∷◌}
use mathlib.Core.Option.{none, some}
use Prim.Native.Nat.{ℕ, ◌≤◌, ◌<◌, min}
use native.Mathlib.Omega.{arith}
use lib.ListN.{get_or}
use Rattle.semantics.specs.Lists.{◌∈◌, ascending}
use Rattle.semantics.specs.Programs.{Clause}
use Rattle.semantics.proofs.Tests.{so_false, not_so}
use Rattle.rewriting.specs.Marked.{entry, left}
use Rattle.rewriting.specs.Steps.{Step, step, in_no_head}
use Rattle.rewriting.specs.Reducer.{eligible}
use Rattle.rewriting.specs.Kinds.{Kind, tautology, contradiction, success, loop, number}
use Rattle.rewriting.specs.Search.{step_with, first_partner, first_target}
use Rattle.rewriting.proofs.Order.{first_in, asked, walked, atom_first, target_gone, partner_end, partner_hit, Before, search_end, search_hit}
use Rattle.rewriting.proofs.Equal.{eligible_ask}
use Rattle.rewriting.proofs.Quiet.{key_with}
use Rattle.table.specs.View.{view}
use Rattle.table.proofs.View.{length_view}
use Rattle.table.proofs.Parts.{Straight, view_straight}
use Rattle.step_parts.specs.declared.Part.{Part}
use Rattle.step_parts.specs.declared.Part.TheVariants.{Head, Pos, Neg}
use Rattle.step_parts.specs.declared.marked.Marked.{Marked}
use Rattle.step_parts.specs.Parts.{part_of}
use Rattle.step_parts.specs.Reading.{atom_count, words_of, marks_of, program_of, clause_of, is_kept}
use Rattle.std.specs.Prelude as rust
use Rattle.std.specs.Prelude.{Some, None}
use Rattle.step_conditions.specs.declared.Step as row
use Rattle.search_flags.specs.Flags.{most, Inside}
use Rattle.step_kinds.specs.Kinds.{PartnerKind, AtomKind, walked_part}
use Rattle.search_keys.specs.State.{Calm}
use Rattle.search_targets.specs.Searches.{found_of, stopped_at, PartWalk, Partners}
use Rattle.step_kinds.proofs.Cases.{kinds_atom}
use Rattle.search_spreads.proofs.Spreads.{partner_lt}

-- ---- kinds with an atom

pub walked_is : (kind : Kind) (c : Clause) → AtomKind kind → part_of (walked_part kind) c ≡ walked kind c
walked_is kind c = kinds_atom (λ k. part_of (walked_part k) c ≡ walked k c) refl refl refl refl refl kind

-- kinds 4 and 6
pub asked_heads : (kind : Kind) (cs : List Clause) (c : Clause) (a : ℕ) → AtomKind kind → kind ≢ tautology → kind ≢ contradiction → kind ≢ loop → asked kind cs c a ≡ in_no_head cs a
asked_heads kind cs c a = kinds_atom (λ k. k ≢ tautology → k ≢ contradiction → k ≢ loop → asked k cs c a ≡ in_no_head cs a)
    (λ x y z. absurd (x refl)) (λ x y z. absurd (y refl)) (λ x y z. refl) (λ x y z. refl) (λ x y z. absurd (z refl)) kind

-- ---- the walk of a part

straight_part : (n : ℕ) (c : Clause) → Straight n c → (x : Part) → So (ascending (part_of x c)) × ((a : ℕ) → a ∈ part_of x c → a < n)
straight_part n c s Head = (s.head, s.head_below)
straight_part n c s Pos = (s.pos, s.pos_below)
straight_part n c s Neg = (s.neg, s.neg_below)

module _ (p : Marked) (t : ℕ) (kind : Kind) (k : AtomKind kind) where
  pub walk_kept : is_kept p t ≡ true → PartWalk p kind t (part_of (walked_part kind) (clause_of p t))
  walk_kept e =
      let c = clause_of p t in
      let w = straight_part (atom_count p.table) c (view_straight (words_of p) (marks_of p) p.table.placed.passed t) (walked_part kind) in
      let g = walked_is kind c k in
      ap (first_in (λ a. step kind t 0 a) (asked kind (left (program_of p)) c)) g
      ∙ sym (atom_first (atom_count p.table) (program_of p) kind t k.at_target k.alone e (subst (λ l. So (ascending l)) g w.0) (subst (λ l. (a : ℕ) → a ∈ l → a < atom_count p.table) g w.1))

  pub walk_gone : is_kept p t ≡ false → PartWalk p kind t []
  unfolding first_in
  walk_gone e = sym (target_gone (atom_count p.table) (program_of p) kind t (not_so e))

module _ (p : Marked) (kind : Kind) (t : ℕ) where
  abbrev asks : ℕ → Bool
  asks a = asked kind (left (program_of p)) (clause_of p t) a

  abbrev found : ℕ → Step
  found a = step kind t 0 a

  module _ (rest : List ℕ) (w : PartWalk p kind t rest) where
    pub walk_on : (a : ℕ) (later : List ℕ) → rest ≡ a ∷ later → asks a ≡ false → PartWalk p kind t later
    unfolding first_in
    walk_on a later e q = sym (ap (first_in found asks) e ∙ rw q) ∙ w

    pub walk_hit : (a : ℕ) (later : List ℕ) → rest ≡ a ∷ later → asks a ≡ true → first_partner (atom_count p.table) (program_of p) kind t ≡ some (found a)
    unfolding first_in
    walk_hit a later e q = sym w ∙ ap (first_in found asks) e ∙ rw q

    pub walk_end : rest ≡ [] → first_partner (atom_count p.table) (program_of p) kind t ≡ none
    unfolding first_in
    walk_end e = sym w ∙ ap (first_in found asks) e

-- ---- the walk of the partners

module _ (ws ms : List ℕ) (kind : Kind) (t : ℕ) (k : PartnerKind kind) where
  pub partners_kept : (m : ℕ) → m ≡ get_or ws 1 0 → (entry (view ws ms) t).kept ≡ true → Partners ws ms kind t m
  partners_kept m e y = record { most = omega arith; kept = λ _. y; all = λ p h. omega (arith, partner_lt ws ms kind t p _ k h) }

  -- kind 3: none is above the greatest
  pub partners_most : (flags : List ℕ) (e m : ℕ) → kind ≡ success → Calm ws ms flags kind → m ≡ get_or ws 1 0 → e ≡ min m (most flags t) → (entry (view ws ms) t).kept ≡ true → Partners ws ms kind t e
  partners_most flags e m three c q o y = record {
    most = omega arith;
    kept = λ _. y;
    all = λ p h. omega (
      arith,
      partner_lt ws ms kind t p _ k h,
      c.bounded three (step_with (view ws ms) kind t p) three refl h,
      key_with (view ws ms) kind t p k,
    );
  }

  pub partners_gone : (entry (view ws ms) t).kept ≡ false → Partners ws ms kind t 0
  partners_gone y = record { most = omega arith; kept = λ z. absurd (omega arith); all = λ p h. absurd (not_so y (eligible_ask (get_or ws 0 0) (view ws ms) (step_with (view ws ms) kind t p) h).0) }

module _ (ws ms : List ℕ) (kind : Kind) (t e : ℕ) (q : Partners ws ms kind t e) (k : PartnerKind kind) where
  abbrev eligible_at : ℕ → Bool
  eligible_at p = eligible (get_or ws 0 0) (view ws ms) (step_with (view ws ms) kind t p)

  pub partners_none : ((p : ℕ) → p < e → eligible_at p ≡ false) → first_partner (get_or ws 0 0) (view ws ms) kind t ≡ none
  partners_none h = partner_end (get_or ws 0 0) (view ws ms) kind t k (λ p l. so_false _ (λ y. not_so (h p (q.all p y)) y))

  pub partners_hit : (p : ℕ) → p < e → ((i : ℕ) → i < p → eligible_at i ≡ false) → eligible_at p ≡ true
      → first_partner (get_or ws 0 0) (view ws ms) kind t ≡ some (step_with (view ws ms) kind t p)
  partners_hit p l h a = partner_hit (get_or ws 0 0) (view ws ms) kind t p k (omega (arith, q.most, length_view ws ms)) h a

-- ---- targets

module _ (ws ms : List ℕ) (kind : Kind) where
  pub targets_end : Before (get_or ws 0 0) (view ws ms) kind (get_or ws 1 0) → None ≡ found_of (first_target (get_or ws 0 0) (view ws ms) kind)
  unfolding found_of
  targets_end b = sym (ap found_of (search_end (get_or ws 0 0) (view ws ms) kind (λ j i. b j (omega (arith, length_view ws ms)))))

  pub targets_hit : (t p a : ℕ) → t < get_or ws 1 0 → Before (get_or ws 0 0) (view ws ms) kind t
      → first_partner (get_or ws 0 0) (view ws ms) kind t ≡ some (step kind t p a)
      → Some (record { kind = kind; target = t; partner = p; atom = a }) ≡ found_of (first_target (get_or ws 0 0) (view ws ms) kind)
  unfolding found_of
  targets_hit t p a l b f = sym (ap found_of (search_hit (get_or ws 0 0) (view ws ms) kind t (step kind t p a) (omega (arith, length_view ws ms)) f b))

-- where a search stopped
pub stopped_one : (f : rust.Option (row.Step Kind)) (s : row.Step Kind) (end : ℕ) → f ≡ Some s → stopped_at f end ≡ s.target
unfolding stopped_at
stopped_one f s end e = ap (λ g. stopped_at g end) e

module _ (flags : List ℕ) (kind : Kind) (t end : ℕ) (w : Inside flags (number kind) t end) where
  pub stopped_there : (f : rust.Option (row.Step Kind)) (s : row.Step Kind) → f ≡ Some s → s.target ≡ t → Inside flags (number kind) (stopped_at f end) end
  unfolding stopped_at
  stopped_there f s e q = subst (λ g. Inside flags (number kind) (stopped_at g end) end) (sym e) (subst (λ x. Inside flags (number kind) x end) (sym q) w)

  pub stopped_end : (f : rust.Option (row.Step Kind)) → f ≡ None → end ≤ t → Inside flags (number kind) (stopped_at f end) end
  unfolding stopped_at
  stopped_end f e l = subst (λ g. Inside flags (number kind) (stopped_at g end) end) (sym e) (λ i k h. let q = w i k h in absurd (omega arith))

-- The moves in the code's terms, and one after the other.
use Prim.Native.Nat.{ℕ, ◌-◌, ◌≤◌, ◌<◌}
use mathlib.Core.Path.{◌≡◌, refl, sym, ap, subst, ◌∙◌}
use mathlib.Core.Logic.{◌≢◌}
use mathlib.Core.List.{List}
use native.Mathlib.Omega.{arith}
use lib.ListN.{length, get_or, set}
use Rattle.table.proofs.Encoding.{passed_limits}
use Rattle.step_parts.specs.declared.Part.TheVariants.{Head}
use Rattle.step_parts.specs.Parts.{Stands, owner_at, Latest}
use Rattle.step_parts.proofs.Index.{stands_small}
use Rattle.std.specs.Prelude.{Option, Result}
use Rattle.cycle.specs.declared.search.Cycle.{Cycle}
use Rattle.cycle.specs.Search.{none, numbered, Search, Looked, met, over, on, Nearer, moved, Explored}
use Rattle.cycle.proofs.Moves.{atoms, top_below, finish, stands, pass_clause, b_below, cycle_found, left_some, pass_atom, follow}

module _ {ws index cur state left parent : List ℕ} {t : ℕ} (s : Search ws index cur state left parent t) (x : t ≢ none) (a w : ℕ) (ea : a ≡ t) (ew : w ≡ get_or cur a 0) where
  at_t : w ≡ get_or cur t 0
  at_t = ew ∙ ap (λ a. get_or cur a 0) ea

  pub atom_low : a < 1024
  atom_low = omega (arith, top_below s x, atoms s)

  pub finish_at : w ≡ 0 → Nearer ws index cur state left parent cur (set state a 0) left parent (get_or parent a 0)
  finish_at z = rw ea (finish s x (sym at_t ∙ z))

  module _ (n : w ≢ 0) where
    n' : get_or cur t 0 ≢ 0
    n' z = n (at_t ∙ z)

    pub stands_at : Stands ws Head t (get_or index (owner_at w) 0) w
    stands_at = subst (λ w. Stands ws Head t (get_or index (owner_at w) 0) w) (sym at_t) (stands s x n')

    pub place_low : (w < length ws) × (length ws ≤ 8192)
    place_low = let (i, j, k, l) = stands_small s.placed.passed stands_at in (j, k)

    module _ (c : ℕ) (ec : c ≡ get_or index (owner_at w) 0) where
      c_here : c ≡ get_or index (owner_at (get_or cur t 0)) 0
      c_here = ec ∙ ap (λ w. get_or index (owner_at w) 0) at_t

      pub clause_below : c < get_or ws 1 0
      clause_below = rw ec stands_at.clause

      pub clause_low : c < 2048
      clause_low = omega (arith, clause_below, (passed_limits ws s.placed.passed).few_clauses)

      module _ (i : ℕ) (ei : i ≡ 8192 - get_or left c 0) (pos : List ℕ) (ep : pos ≡ (numbered ws c).pos) where
        pub pass_at : length pos ≤ i → (v : ℕ) → Latest ws index Head t w v → Nearer ws index cur state left parent (set cur a v) state left parent t
        pass_at l v b = rw ea (pass_clause s x n' (subst (λ c. length (numbered ws c).pos ≤ 8192 - get_or left c 0) c_here (rw (ei, ep) at l)) v (subst (λ w. Latest ws index Head t w v) at_t b))

        module _ (l : i < length pos) where
          abbrev b : ℕ
          b = get_or pos i 0

          low : 8192 - get_or left (get_or index (owner_at (get_or cur t 0)) 0) 0 < length (numbered ws (get_or index (owner_at (get_or cur t 0)) 0)).pos
          low = subst (λ c. 8192 - get_or left c 0 < length (numbered ws c).pos) c_here (rw (ei, ep) at l)

          is_b : b ≡ get_or (numbered ws (get_or index (owner_at (get_or cur t 0)) 0)).pos (8192 - get_or left (get_or index (owner_at (get_or cur t 0)) 0) 0) 0
          is_b = ap (λ k. get_or k i 0) ep ∙ ap (λ i. get_or (numbered ws c).pos i 0) ei ∙ ap (λ c. get_or (numbered ws c).pos (8192 - get_or left c 0) 0) c_here

          pub b_low : b < 1024
          b_low = omega (arith, b_below s x n' low b is_b, atoms s)

          pub left_at : 0 < get_or left c 0
          left_at = rw c_here (left_some s x n' low b is_b)

          pub look_at : {state' left' parent' : List ℕ} {r : Result (Option ℕ) Cycle} → Looked state left parent state' left' parent' t c b r → moved ws index cur state left parent cur state' left' parent' r
          look_at (met q) = cycle_found s x n' low b is_b q
          look_at (over q e f g) = rw (e, f, g, c_here) (pass_atom s x n' low b is_b q)
          look_at (on u v e f g) = rw (e, f, g) (follow s x n' low b is_b u v)

-- ---- one move after the other

module _ {ws index cur state left parent : List ℕ} where
  pub explored_start : {t : ℕ} → Search ws index cur state left parent t → Explored ws index cur state left parent cur state left parent t
  explored_start s = record { search = s; falls = λ a. omega arith; curs = refl; states = refl; lefts = refl; parents = refl }

  pub explored_join : {cur' state' left' parent' cur'' state'' left'' parent'' : List ℕ} {t u : ℕ} → Explored ws index cur state left parent cur' state' left' parent' t
      → Explored ws index cur' state' left' parent' cur'' state'' left'' parent'' u → Explored ws index cur state left parent cur'' state'' left'' parent'' u
  explored_join e n = record {
    search = n.search;
    falls = λ a. omega (arith, e.falls a, n.falls a);
    curs = n.curs ∙ e.curs;
    states = n.states ∙ e.states;
    lefts = n.lefts ∙ e.lefts;
    parents = n.parents ∙ e.parents;
  }

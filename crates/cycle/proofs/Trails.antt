-- The trail's states and links as numbers, where one of them is read or written.
use Prim.Native.Nat.{ℕ, ◌<◌}
use mathlib.Core.Path.{◌≡◌, refl, sym, ap, ◌∙◌}
use mathlib.Core.List.{List, map}
use native.Mathlib.Omega.{arith}
use lib.ListN.{length, get_or, set}
use Rattle.std.specs.Prelude.{Option}
use Rattle.std.proofs.lemmas.List.{map-set, get_or-map}
use Rattle.cycle.specs.declared.search.State.{State}
use Rattle.cycle.specs.declared.search.State.TheVariants.{Unmet, OnChain, Ended}
use Rattle.cycle.specs.Search.{atom_number, rank}

-- the place a of an atom is i
module _ (l : List State) (i a : ℕ) (e : i ≡ a) where
  pub state_rank : (d r : State) → i < length l → get_or l i d ≡ r → get_or (map rank l) a 0 ≡ rank r
  state_rank d r h q = ap (λ k. get_or (map rank l) k 0) (sym e) ∙ get_or-map rank l i d 0 h ∙ ap rank q

  pub rank_set : (r : State) → map rank (set l i r) ≡ set (map rank l) a (rank r)
  rank_set r = map-set rank l i r ∙ ap (λ k. set (map rank l) k (rank r)) e

only_ended : (r : State) → rank r ≡ 0 → r ≡ Ended
only_ended Unmet h = absurd (omega arith)
only_ended OnChain h = absurd (omega arith)
only_ended Ended h = refl

pub not_ended : (l : List State) (i : ℕ) (d : State) → i < length l → (get_or l i d ≡ Ended → ⊥) → get_or (map rank l) i 0 ≡ 0 → ⊥
not_ended l i d h n z = n (only_ended (get_or l i d) (sym (get_or-map rank l i d 0 h) ∙ z))

pub link_at : (l : List (Option ℕ)) (i : ℕ) (d : Option ℕ) → i < length l → get_or (map atom_number l) i 0 ≡ atom_number (get_or l i d)
link_at l i d h = get_or-map atom_number l i d 0 h

pub link_set : (l : List (Option ℕ)) (i a : ℕ) → i ≡ a → (v : Option ℕ) → map atom_number (set l i v) ≡ set (map atom_number l) a (atom_number v)
link_set l i a e v = map-set atom_number l i v ∙ ap (λ k. set (map atom_number l) k (atom_number v)) e

-- Along the places of an atom, by the iterator: the atom stands at the place that is given, and the walk goes to the last one before it.
use mathlib.Core.Path.{◌≡◌, sym, subst, ◌∙◌}
use Prim.Native.Nat.{ℕ, ◌<◌}
use lib.ListN.{length, get_or}
use Rattle.step_parts.specs.Parts.{Stands, Latest, owner_at}
use Rattle.step_parts.specs.Reading.{Gone}
use Rattle.step_parts.specs.declared.Part.{Part}
use Rattle.step_parts.specs.declared.marked.Indexed.{Indexed}
use Rattle.step_parts.specs.declared.places.Places.{Places}

-- the walk is one along the places of the atom in such a part
abbrev pub Along : Indexed → Part → ℕ → Places → Type 0
Along p x a s = (s.table ≡ p) × (s.part ≡ x) × (s.atom ≡ a)

module _ {p : Indexed} {x : Part} {a : ℕ} {s next : Places} {i : ℕ} (g : Gone s i next) (e : Along p x a s) where
  pub place_along : Along p x a next
  place_along = (g.same.0 ∙ e.0, g.same.1 ∙ e.1, g.same.2 ∙ e.2)

  pub place_here : (i < length p.words.now) × Stands p.words.now x a (get_or p.index.now (owner_at i) 0) i
  place_here = rw (g.here, sym e.0, sym e.1, sym e.2) (s.stands (subst (λ k. 0 < k) g.here g.there))

  pub place_next : Latest p.words.now p.index.now x a i next.at
  place_next = rw (sym e.0, sym e.1, sym e.2) g.before

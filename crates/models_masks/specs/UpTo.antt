-- A list that has room for so many values.
use Rattle.std.specs.Prelude.{List, ℕ, take}
use Rattle.models_masks.specs.declared.upto.UpTo.{UpTo}

-- the values
abbrev pub items : {T : Type 0} {N : ℕ} → UpTo T N → List T
items l = take l.count l.values

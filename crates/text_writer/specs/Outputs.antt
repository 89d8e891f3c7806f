-- What is written into a lent slice.
use Rattle.std.specs.Prelude.{ℕ, ◌+◌, ◌≤◌, List, length}
use Rattle.text_form.specs.Stored.{Puts}
use Rattle.text_writer.specs.declared.Output.{Output}

-- the bytes bs fit behind what is written
abbrev pub HasRoom : Output → List ℕ → Type 0
HasRoom o bs = o.len + length bs ≤ length o.bytes.now

-- the bytes bs are written behind it, and nothing else has changed
abbrev pub Writes : Output → Output → List ℕ → Type 0
Writes o o' bs = Puts o.bytes.now o'.bytes.now o.len o'.len bs

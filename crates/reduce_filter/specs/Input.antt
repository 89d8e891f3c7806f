-- How much of its input the program reads.
use Rattle.std.specs.Prelude.{ℕ}

-- the bytes that are enough to tell a text that is too long
abbrev pub input_bytes : ℕ
input_bytes = 65537

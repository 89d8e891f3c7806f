-- What the signs of a text and the numbers of a list of marks stand for.
use Rattle.std.specs.Prelude.{ℕ, ◌==◌, nat_lt, if◌then◌else◌}

-- a slash for a line feed and a line feed for a slash, a tilde for a carriage return, a caret for NUL, an underscore for a tab, and any
-- other byte for itself
abbrev pub sign_of : ℕ → ℕ
sign_of b =
    if b == 47 then 10
    else (if b == 10 then 47
    else (if b == 126 then 13
    else (if b == 94 then 0
    else (if b == 95 then 9
    else b))))

-- a number that is a byte for itself, any other for 0
abbrev pub mark_of : ℕ → ℕ
mark_of w = if nat_lt w 256 then w else 0

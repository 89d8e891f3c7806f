-- What is printed of a call: its answer, and the words, marks or bytes of what it was lent.
use Rattle.std.specs.Prelude.{ℕ, ◌/◌, ◌%◌, ◌^◌, ◌++◌, List, flat_map, codes, decimal, encode_utf8, ◌==◌, if◌then◌else◌}
use Rattle.cases_lines.specs.Signs.{sign_of}

-- how many places an answer has room for, beside the number of a question
abbrev pub places : ℕ
places = 2 ^ 48

-- an answer's value, or the number and place of the question that refuses the call
abbrev pub answered_text : ℕ → List ℕ
answered_text a =
    if a / places == 0 then codes "taken=" ++ decimal (a % places)
    else codes "refused=" ++ decimal (a / places) ++ codes "," ++ decimal (a % places)

-- words, each with a comma behind it
abbrev pub words_text : List ℕ → List ℕ
words_text ws = codes " words=" ++ flat_map (λ w. decimal w ++ codes ",") ws

-- marks
abbrev pub marks_text : List ℕ → List ℕ
marks_text ms = codes " marks=" ++ flat_map decimal ms

-- the signs of a text, each the character of that number
abbrev pub text_text : List ℕ → List ℕ
text_text bs = codes " text=" ++ flat_map (λ b. encode_utf8 (sign_of b)) bs

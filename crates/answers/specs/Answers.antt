-- How the calls' definitions ask, what a call leaves in a slice that it writes, and the one number that an answer is.
use Rattle.std.specs.Prelude.{Result, Ok, Err, ℕ, ◌+◌, ◌*◌, ◌≤◌, Bool, true, false, List, ◌++◌, length, drop}
use Rattle.answers.specs.declared.Refusal.{Refusal}
use Rattle.answers.specs.Refusals.{refusal_number, refusal_place}

-- the answer of a call: the value of one that is taken, or the first question that is answered no
abbrev pub Answer : Type 0
Answer = Result ℕ Refusal

-- "The first no gives its number": a question answered yes goes on; answered no, it is what `stop` makes of it
module _ {Q A : Type 0} where
  unfoldable pub ask : (Q → A) → Bool → Q → A → A
  ask stop true q go = go
  ask stop false q go = stop q

-- "Every call that writes a table or a text gives the number of words or bytes written, and what lies past them doesn't change."
abbrev pub written : List ℕ → List ℕ → List ℕ
written vs old = vs ++ drop (length vs) old

-- "Every other refusal changes nothing."
unfoldable pub written_if : Answer → List ℕ → List ℕ → List ℕ
written_if (Ok k) vs old = written vs old
written_if (Err r) vs old = old

-- "the number and place of the first question", in one number: 281474976710656 is 2^48
abbrev pub refusal_code : Refusal → ℕ
refusal_code r = refusal_number r * 281474976710656 + refusal_place r

-- the number that an exported call returns: the value of one that is taken, or its refusal's
abbrev pub answer_code : Answer → ℕ
answer_code (Ok k) = k
answer_code (Err r) = refusal_code r

-- values and places that leave room for a number
abbrev pub Small : Answer → Type 0
Small (Ok k) = k ≤ 65536
Small (Err r) = refusal_place r ≤ 65536

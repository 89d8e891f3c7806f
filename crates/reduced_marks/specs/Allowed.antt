-- Question 10: the marks that are allowed, and the first that is not.
use Rattle.std.specs.Prelude.{Bool, false, ◌&&◌, ◌||◌, List, ℕ, zero, suc, ◌+◌, eqb, ltb, leb, get_or, Ok, Err}
use Rattle.answers.specs.declared.WordQuestion.TheVariants.{MarkAllowed}
use Rattle.answers.specs.declared.Refusal.TheVariants.{Word}
use Rattle.table.specs.Questions.{Walk}
use Rattle.answers.specs.Answers.{ask}
use Rattle.table.specs.Places.{head_at, next_at}

-- "a clause's first word or a body atom", of the clause whose first word is at `at`; slip 8: "question 10 allows 0 at head atoms"
abbrev pub clearable_in : List ℕ → ℕ → ℕ → Bool
clearable_in ws at i = eqb i at || (leb (head_at at) i && ltb i (next_at ws at))

-- of one of m clauses, the first of them at `at`
unfoldable pub clearable_from : List ℕ → ℕ → ℕ → ℕ → Bool
clearable_from ws zero at i = false
clearable_from ws (suc m) at i = clearable_in ws at i || clearable_from ws m (next_at ws at) i

-- "0 or 1, and 0 only at" a place that may be cleared
abbrev pub allowed_where : (ℕ → Bool) → List ℕ → ℕ → Bool
allowed_where f ms i = eqb (get_or ms i 0) 1 || (eqb (get_or ms i 0) 0 && f i)

-- "Is the mark of each table word 0 or 1, and 0 only at a clause's first word or a body atom", or by slip 8 a head atom
abbrev pub allowed : List ℕ → List ℕ → ℕ → Bool
allowed ws ms = allowed_where (clearable_from ws (get_or ws 1 0) 2) ms

-- "(place of the first that isn't)": the test is asked of `left` words from `at`
unfoldable pub marks_from : (ℕ → Bool) → ℕ → ℕ → Walk
marks_from f at zero = Ok at
marks_from f at (suc left) = ask Err (f at) (Word MarkAllowed at) (marks_from f (at + 1) left)

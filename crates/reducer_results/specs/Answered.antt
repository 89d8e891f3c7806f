-- What the reducer's call is proved to leave.
use Rattle.std.specs.Prelude.{◌≡◌, List, ℕ}
use Rattle.answers.specs.Answers.{Answer}
use Rattle.reducer_results.specs.Reductions.{reduction}

-- A call's answer, and what it leaves in the marks and the list.
pub record Answered (ws ms ls ms' ls' : List ℕ) (r : Answer) : Type 0 where
  pub answer : r ≡ (reduction ws ms ls).answer
  pub marks : ms' ≡ (reduction ws ms ls).marks
  pub list : ls' ≡ (reduction ws ms ls).list

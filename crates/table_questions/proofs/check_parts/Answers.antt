-- `table_questions::check_parts` meets its contract.
use Rattle.table.specs.Questions.{parts_from, on_walk}
use Rattle.std.proofs.lemmas.Result.{err_from_is_err_and}
use Rattle.table_questions.proofs.check_parts.Goals as goal

pub returns-in_err-check_part : goal.returns-in_err-check_part
unfolding parts_from on_walk
returns-in_err-check_part c = let p = err_from_is_err_and c.from_residual.result c.from_residual.ensures.1 in rw (p.1, p.2, ← c.check_part.ensures, c.in_err-check_part.was)

pub returns-in_err-check_part-2 : goal.returns-in_err-check_part-2
unfolding parts_from on_walk
returns-in_err-check_part-2 c =
    let p = err_from_is_err_and c.from_residual-in_err-check_part-2.result c.from_residual-in_err-check_part-2.ensures.1 in
    rw (p.1, p.2, ← c.check_part.ensures, c.in_ok-check_part.was, ← c.check_part-2.ensures, c.in_err-check_part-2.was)

pub returns : goal.returns
unfolding parts_from on_walk
returns c = rw (← c.check_part.ensures, c.in_ok-check_part.was, ← c.check_part-2.ensures, c.in_ok-check_part-2.was) c.check_part-3.ensures

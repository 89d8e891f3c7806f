-- `flag_kinds`: from no flag, row after row.
use Rattle.reducer.proofs.Begins.{all_open}
use Rattle.reducer.proofs.flag_kinds.Goals as goal

pub returns : goal.returns
returns c = all_open _ _ _ _ _ _ _ _ _ _ c.requires.none c.requires.clauses (c.flag.ensures.raising, c.flag.ensures.flagged) (c.flag_all.ensures.raising, c.flag_all.ensures.flagged) (c.flag_all-2.ensures.raising, c.flag_all-2.ensures.flagged) (c.flag_all-3.ensures.raising, c.flag_all-3.ensures.flagged) (c.flag_all-4.ensures.raising, c.flag_all-4.ensures.flagged) (c.flag_all-5.ensures.raising, c.flag_all-5.ensures.flagged) (c.flag_all-6.ensures.raising, c.flag_all-6.ensures.flagged) (c.flag_all-7.ensures.raising, c.flag_all-7.ensures.flagged)

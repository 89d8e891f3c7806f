-- `first_of_kind`: prepared, searched between the row's bounds, and these drawn closer.
use mathlib.Core.Path.{subst}
use Rattle.rewriting.specs.Kinds.{number}
use Rattle.search_flags.specs.Flags.{Fenced}
use Rattle.search_keys.proofs.States.{prepared_calm, prepared_swept}
use Rattle.search_first.proofs.first_of_kind.Goals as goal

pub search_row-found-requires-clause-calm : goal.search_row-found-requires-clause-calm
search_row-found-requires-clause-calm c = let k = c.requires.kind in prepared_calm _ _ _ _ _ _ _ c.prepare.ensures k

pub returns : goal.returns
returns c =
    let k = c.requires.kind in
    record {
      found = c.search_row-found.ensures.found;
      state = prepared_swept _ _ _ _ _ _ _ c.prepare.ensures k _ _ _ _ c.search_row-found.ensures.swept c.search_row-found.ensures.inside c.highest-end.ensures.highest
          (subst (λ x. Fenced c.search_row-found.new.flags c.fence.new.self (number c.args.kind) x c.highest-end.result) c.stopped_at.ensures c.fence.ensures);
    }

-- `search_closure::first_full` meets its contract.
use native.Mathlib.Omega.{arith}
use mathlib.Core.Path.{sym}
use lib.ListN.{length-take}
use borrow.Author.Rules.{rules}
use borrow.Author.Tests.{tests}
use Rattle.std.proofs.lemmas.Iterator.{IsFirst-from_position, YieldsList-from_slice, YieldsList-from_zip}
use Rattle.std.proofs.lemmas.Iterator.Consumers.{YieldsList-at}
use Rattle.table.proofs.Encoding.{passed_limits}
use Rattle.search_closure.proofs.Counting.{IsFull, first_by}
use Rattle.search_closure.proofs.first_full.Goals as goal

pub slice_bounds-iter-end : goal.slice_bounds-iter-end
slice_bounds-iter-end c = simp length-take (omega (arith, (passed_limits _ c.args.table.now.placed.passed).few_clauses, c.requires.can, c.clause_count-clauses.ensures))

pub returns : goal.returns
returns c =
    let m = c.clause_count-clauses.result in
    let e = c.clause_count-clauses.ensures in
    let few = (passed_limits _ c.args.table.now.placed.passed).few_clauses in
    rw (c.unwrap_or.ensures, sym e) (first_by c.args.can.now c.args.missing.now m (omega (arith, e, few, c.requires.can)) (omega (arith, e, few, c.requires.missing)) c.position.result
    (IsFirst-from_position {s = c.zip.result} c.position.new.self _ c.position.result IsFull (λ p. IsFull p → ⊥) c.position.ensures.ran (YieldsList-from_zip (YieldsList-at c.zip.ensures.first (YieldsList-from_slice _ c.iter.ensures.rest)) (YieldsList-from_slice _ c.zip.ensures.second.0)) (λ x q k. search (rules, tests)) (λ x q k. search (rules, tests))))

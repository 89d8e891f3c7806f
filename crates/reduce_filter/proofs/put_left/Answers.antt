-- `reduce_filter::put_left` meets its contract. Assumes nothing.
use mathlib.Core.Path.{sym}
use native.Mathlib.Omega.{arith}
use lib.Seq.{length-take-le}
use Rattle.reduced_sizes.proofs.Limits.{left_within}
use Rattle.reduce_filter.proofs.Left.{left_inside, left_passed, left_short, left_puts}
use Rattle.reduce_filter.proofs.put_left.Goals as goal

pub write_reduced-requires : goal.write_reduced-requires
write_reduced-requires c = record { ready = c.requires.ready; room = (left_within c.args.words.now c.args.marks.now c.requires.ready.passed).few_words }

pub slice_bounds-reduced-end : goal.slice_bounds-reduced-end
slice_bounds-reduced-end c = left_inside c.args.words.now c.args.marks.now _ _ c.requires.ready c.write_reduced.ensures c.left_size-k.ensures

pub slice_bounds-put_text-end : goal.slice_bounds-put_text-end
slice_bounds-put_text-end c = sym (length-take-le _ _ (left_inside c.args.words.now c.args.marks.now _ _ c.requires.ready c.write_reduced.ensures c.left_size-k.ensures))

pub put_text-requires-clause-passed : goal.put_text-requires-clause-passed
put_text-requires-clause-passed c = left_passed c.args.words.now c.args.marks.now _ _ c.requires.ready c.write_reduced.ensures c.left_size-k.ensures

pub put_text-requires-clause-room : goal.put_text-requires-clause-room
put_text-requires-clause-room c = omega (arith, c.requires.room, left_short c.args.words.now c.args.marks.now _ _ c.requires.ready c.write_reduced.ensures c.left_size-k.ensures)

pub returns-clause-written : goal.returns-clause-written
returns-clause-written c = left_puts c.args.words.now c.args.marks.now _ _ c.requires.ready c.write_reduced.ensures c.left_size-k.ensures _ _ _ _ c.put_text.ensures.written

-- The words whose mark is 1 are copied. The invariant: the words to come, written from here on, give what all of them give from the start.
use native.Mathlib.Omega.{arith}
use Rattle.std.proofs.lemmas.Slice.Zip.{Zip-more, either_empty_from_Zip}
use Rattle.reduced_copying.proofs.Copying.{copying_start, copying_aside, copying_room, copying_next, copying_end}
use Rattle.reduced_copying.proofs.copy_part.Goals as goal

pub loop-word-init : goal.loop-word-init
loop-word-init c = copying_start _ _ _ _ _ _ (cc) (cc)

pub loop-word-preserved-then-mark-ne1 : goal.loop-word-preserved-then-mark-ne1
loop-word-preserved-then-mark-ne1 c = let (e, q) = Zip-more c.loop-word.word-iterator c.next.new.self _ (c.in-Some.word, c.in-Some.mark) c.in-Some.is c.next.ensures.steps in copying_aside _ _ _ _ _ _ _ _ c.loop-word.invariant _ _ _ _ e q c.if-mark-ne1.true

pub bounds-out-n : goal.bounds-out-n
bounds-out-n c = let (e, q) = Zip-more c.loop-word.word-iterator c.next.new.self _ (c.in-Some.word, c.in-Some.mark) c.in-Some.is c.next.ensures.steps in omega (arith, copying_room _ _ _ _ _ _ _ _ c.loop-word.invariant _ _ _ _ e q c.if-mark-ne1.false, c.requires, c.loop-word.auto.out)

pub overflow_add-n : goal.overflow_add-n
overflow_add-n c = let (e, q) = Zip-more c.loop-word.word-iterator c.next.new.self _ (c.in-Some.word, c.in-Some.mark) c.in-Some.is c.next.ensures.steps in omega (arith, copying_room _ _ _ _ _ _ _ _ c.loop-word.invariant _ _ _ _ e q c.if-mark-ne1.false, c.requires)

pub loop-word-preserved : goal.loop-word-preserved
loop-word-preserved c = let (e, q) = Zip-more c.loop-word.word-iterator c.next.new.self _ (c.in-Some.word, c.in-Some.mark) c.in-Some.is c.next.ensures.steps in copying_next _ _ _ _ _ _ _ _ c.loop-word.invariant _ _ _ _ e q c.if-mark-ne1.false

pub returns : goal.returns
returns c =
    let (p, w) = copying_end _ _ _ _ _ _ _ _ c.loop-word.invariant (either_empty_from_Zip c.loop-word.word-iterator c.next.new.self _ c.in-None.is c.next.ensures.steps) in
    record { place = p; written = w }

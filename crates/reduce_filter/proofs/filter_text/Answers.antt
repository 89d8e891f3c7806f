-- `reduce_filter::filter_text` meets its contract. Assumes nothing.
use mathlib.Core.Path.{refl, sym, ap, ◌∙◌}
use native.Mathlib.Omega.{arith}
use lib.ListN.{length}
use lib.Seq.{length-take-le}
use borrow.Author.Rules.{rules}
use Rattle.answers.specs.Refusals.{refusal_number, refusal_place}
use Rattle.reduce_filter.proofs.Output.{refused_short, output_short}
use Rattle.reduce_filter.proofs.Prints.{words_inside, words_passed, words_output, refused_small, refused_output, puts_prints}
use Rattle.reduce_filter.proofs.filter_text.Goals as goal

pub slice_bounds-words-end : goal.slice_bounds-words-end
slice_bounds-words-end c = words_inside c.args.text.now _ _ (sym c.read_text.ensures.0 ∙ c.in-Ok.is) c.read_text.ensures.1

pub slice_bounds-put_reduced-end : goal.slice_bounds-put_reduced-end
slice_bounds-put_reduced-end c = sym (length-take-le _ _ (words_inside c.args.text.now _ _ (sym c.read_text.ensures.0 ∙ c.in-Ok.is) c.read_text.ensures.1))

pub put_reduced-requires-clause-passed : goal.put_reduced-requires-clause-passed
put_reduced-requires-clause-passed c = words_passed c.args.text.now _ _ (sym c.read_text.ensures.0 ∙ c.in-Ok.is) c.read_text.ensures.1

pub put_refused-requires-clause-near : goal.put_refused-requires-clause-near
put_refused-requires-clause-near c = (refused_small c.args.text.now _ _ (sym c.read_text.ensures.0 ∙ c.in-Err.is)).1

pub put_refused-requires-clause-room : goal.put_refused-requires-clause-room
put_refused-requires-clause-room c =
    omega (arith, c.requires, c.new-output.ensures.empty, ap length c.new-output.ensures.lent, refused_short (refusal_number c.in-Err.refusal) (refusal_place c.in-Err.refusal))

pub returns-in-Ok : goal.returns-in-Ok
returns-in-Ok c =
    puts_prints _ _ _ _ _ _ _ _ _ (sym c.read_text.ensures.0 ∙ c.in-Ok.is) refl c.requires (output_short _ (words_passed c.args.text.now _ _ (sym c.read_text.ensures.0 ∙ c.in-Ok.is) c.read_text.ensures.1)) (words_output c.args.text.now _ _ (sym c.read_text.ensures.0 ∙ c.in-Ok.is) c.read_text.ensures.1)
    c.new-output.ensures.lent c.new-output.ensures.empty c.put_reduced.ensures.written (search rules)

pub returns-in-Err : goal.returns-in-Err
returns-in-Err c =
    puts_prints _ _ _ _ _ _ _ _ _ (sym c.read_text.ensures.0 ∙ c.in-Err.is) refl c.requires (omega (arith, refused_short (refusal_number c.in-Err.refusal) (refusal_place c.in-Err.refusal)))
    (refused_output _ _ (sym c.read_text.ensures.0 ∙ c.in-Err.is)) c.new-output.ensures.lent c.new-output.ensures.empty c.put_refused.ensures.written (search rules)

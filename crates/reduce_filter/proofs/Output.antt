-- The output of a table that was reduced, out of what the reducer's call leaves; and how long an output can be.
use mathlib.Core.Path.{◌≡◌, ap}
use mathlib.Core.List.{List, [], ◌∷◌, ◌++◌}
use Prim.Native.Nat.{ℕ, ◌*◌, ◌≤◌}
use native.Mathlib.Omega.{arith}
use lib.ListN.{length, length-append, replicate, length-replicate}
use Rattle.table.specs.Questions.{Passed}
use Rattle.table.proofs.Encoding.{passed_limits}
use Rattle.reduced_sizes.specs.Leaves.{reduced}
use Rattle.reduced_sizes.proofs.Limits.{reduced_passes}
use Rattle.std.specs.Prelude.{Ok}
use Rattle.reducer_results.specs.Reductions.{steps_of, reduction}
use Rattle.reducer_results.proofs.Room.{room_few}
use Rattle.reducer_results.proofs.Taken.{reducer_taken, always_taken, steps_room, length_words}
use Rattle.text_form.specs.Digits.{digits, commas}
use Rattle.text_form.specs.Render.{line_text}
use Rattle.text_form.specs.Writer.{text_of}
use Rattle.text_form.proofs.Calls.{text_short}
use Rattle.text_form.proofs.Widths.{digits_length, width_five}
use Rattle.text_form.proofs.Texts.{line_length}
use Rattle.reduce_filter.specs.Output.{steps_key, refused_key, list_lines, reduction_of, reduced_lines, reduced_text, refused_text}
use Rattle.reduce_filter.proofs.Bounds.{pair_length, steps_short}
use Rattle.reduce_filter.proofs.Steps.{steps_text, list_lines_lem}

-- The program's own marks and list are long enough for every table.
pub always_reduced : (ws : List ℕ) → Passed ws → (reduction_of ws).answer ≡ Ok (length (steps_of ws))
always_reduced ws p = always_taken ws (replicate 8192 0) (replicate 32768 0) p (omega (arith, (passed_limits ws p).short, length-replicate {A = ℕ} 8192 0)) (omega (arith, room_few ws p, length-replicate {A = ℕ} 32768 0))

-- The reduced program, then the steps.
pub reduced_text_lem : (ws : List ℕ) (s : ℕ) → (reduction_of ws).answer ≡ Ok s → reduced_text ws ≡ text_of (reduced ws (reduction_of ws).marks) ++ list_lines (reduction_of ws).list s
unfolding reduced_text
reduced_text_lem ws s h = ap (λ a. reduced_lines ws a (reduction_of ws).marks (reduction_of ws).list) h

module _ (ws ms ls : List ℕ) (s : ℕ) (h : (reduction ws ms ls).answer ≡ Ok s) where
  list_text : list_lines (reduction ws ms ls).list s ≡ line_text steps_key (digits (length (steps_of ws))) ++ steps_text (steps_of ws)
  list_text =
      let t = reducer_taken ws ms ls s h in
      rw (t.list, t.count) (list_lines_lem ls (steps_of ws) (omega (arith, length_words (steps_of ws), t.roomy, steps_room ws t.passed)))

  -- The steps' lines take at most 180,148 bytes,
  pub list_short : length (list_lines (reduction ws ms ls).list s) ≤ 180148
  list_short =
      let k = length (steps_of ws) in
      rw list_text (omega (arith, length-append (line_text steps_key (digits k)) (steps_text (steps_of ws)), line_length steps_key (digits k), digits_length k, width_five k, steps_short ws (reducer_taken ws ms ls s h).passed))

  -- and the list holds them.
  pub list_long : 4 * s ≤ length ls
  list_long = let t = reducer_taken ws ms ls s h in omega (arith, t.roomy, t.count, steps_room ws t.passed)

  -- The reduced program takes at most 43,022 bytes.
  pub left_short : length (text_of (reduced ws (reduction ws ms ls).marks)) ≤ 43022
  left_short = text_short (reduced ws (reduction ws ms ls).marks) (reduced_passes ws (reduction ws ms ls).marks (reducer_taken ws ms ls s h).passed)

-- The output for a table has at most 223,170 bytes.
pub output_short : (ws : List ℕ) → Passed ws → length (reduced_text ws) ≤ 223170
output_short ws p =
    let s = length (steps_of ws) in
    let h = always_reduced ws p in
    rw (reduced_text_lem ws s h)
    (omega (arith, length-append (text_of (reduced ws (reduction_of ws).marks)) (list_lines (reduction_of ws).list s), left_short ws (replicate 8192 0) (replicate 32768 0) s h, list_short ws (replicate 8192 0) (replicate 32768 0) s h))

-- A refusal's line takes at most 20 bytes.
pub refused_short : (number place : ℕ) → length (refused_text number place) ≤ 20
unfolding refused_text
refused_short number place = omega (arith, line_length refused_key (commas (number ∷ place ∷ [])), pair_length number place, width_five number, width_five place)

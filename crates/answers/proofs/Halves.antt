-- The two halves of an answer: a refusal's number and place come back from it, and a value that is taken is below 2^48.
use Prim.Native.Nat.{◌≤◌, ◌/◌, ◌%◌}
use mathlib.Core.Path.{◌≡◌}
use native.Mathlib.Omega.{arith}
use Rattle.answers.specs.declared.Refusal.{Refusal}
use Rattle.answers.specs.Refusals.{refusal_number, refusal_place}
use Rattle.answers.specs.Answers.{refusal_code}
use Rattle.answers.proofs.Numbers.{number_range}

-- "the refusal's number times 2^48 plus its place": both come back, so the answer is none of a call that is taken
pub halves : (r : Refusal) → refusal_place r ≤ 65536
    → (refusal_code r / 281474976710656 ≡ refusal_number r) × (refusal_code r % 281474976710656 ≡ refusal_place r)
halves r h = (omega arith, omega arith)

pub refused_high : (r : Refusal) → 281474976710656 ≤ refusal_code r
refused_high r = omega (arith, (number_range r).0)

-- What a slice holds after a call has written to it.
use Prim.Native.Nat.{ℕ, ◌≤◌}
use mathlib.Core.Path.{◌≡◌, sym, ap, ◌∙◌}
use mathlib.Core.List.{List, ◌++◌}
use native.Mathlib.Omega.{arith}
use native.Mathlib.Nat.{zero-add}
use lib.ListN.{length, take, drop}
use lib.Seq.{sets, sets-eq, length-sets, take-append_seam}
use Rattle.answers.specs.Answers.{written}

pub take_written : (vs old : List ℕ) (n : ℕ) → n ≡ length vs → take n (written vs old) ≡ vs
take_written vs old n e = rw e (take-append_seam vs (drop (length vs) old))

-- words stored one by one from the start
pub sets_written : (vs old : List ℕ) → length vs ≤ length old → sets old 0 vs ≡ written vs old
sets_written vs old h = sets-eq vs old 0 (omega arith) ∙ rw zero-add

-- what was stored in a local array, and copied from there
pub copied : (out w w' x vs : List ℕ) (n : ℕ) → n ≤ length w' → w' ≡ sets w 0 vs → length vs ≡ n → x ≡ take n w' ++ drop n out → x ≡ written vs out
copied out w w' x vs n b e l h =
    let m : length vs ≤ length w = omega (arith, ap length e, length-sets w 0 vs) in
    h ∙ ap (λ k. k ++ drop n out) (ap (take n) (e ∙ sets_written vs w m) ∙ take_written vs w n (sym l)) ∙ ap (λ k. vs ++ drop k out) (sym l)

-- A read behind what a list was filled with before.
use Rattle.std.proofs.Common.{◌≡◌, ℕ, ◌+◌, ◌≤◌, List, ◌++◌, length, take, sym, ap, ◌∙◌, subst, le_refl, drop_at, length-take-le}
use Rattle.std.proofs.lemmas.Slice.{take-put_mid_below}
use Rattle.std.specs.Io.KnownBytes.{Consumes}
use Rattle.std.proofs.KnownBytes.{Consumes-trans}
use Rattle.std.specs.Prelude.{Option}
use borrow.Rule.Slice.PartMut.{put_mid, post_of}
use lib.Seq.{take-add, take-append-le}

-- the first n elements put at k stand behind the first k
take_put : (k m n : ℕ) (xs ys : List ℕ) → k ≤ length xs → n ≤ length ys → take k xs ++ take n ys ≡ take (k + n) (put_mid k m xs ys)
take_put k m n xs ys within fits =
    let rest = post_of k m xs in
    let front : take k xs ≡ take k (put_mid k m xs ys) = sym (take-put_mid_below _ _ _ _ _ (le_refl _) within) in
    let part = drop_at (take k xs) (ys ++ rest) k (length-take-le k xs within) in
    ap (λ l. l ++ take n ys) front
    ∙ ap (λ l. take k (put_mid k m xs ys) ++ l) (sym (ap (take n) part ∙ take-append-le n ys rest fits))
    ∙ sym (take-add k n (put_mid k m xs ys))

-- what was consumed before and what a read consumed now stand one behind the other
pub filled : (a b c : Option (List ℕ)) (k m n : ℕ) (xs ys : List ℕ) → k ≤ length xs → n ≤ length ys → Consumes a b (take k xs) → Consumes b c (take n ys)
    → Consumes a c (take (k + n) (put_mid k m xs ys))
filled a b c k m n xs ys within fits before now = subst (Consumes a c) (take_put k m n xs ys within fits) (Consumes-trans a b c _ _ before now)

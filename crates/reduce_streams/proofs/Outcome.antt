-- What was read, printed and written, put together.
use Rattle.std.proofs.Common.{◌≡◌, ℕ, List, cond, IfSome, Some, None, length, take, drop, ap, ◌∙◌, subst}
use Rattle.std.specs.Prelude.{Option}
use Rattle.std.specs.Io.KnownBytes.{Appends}
use Rattle.reduce_filter.specs.declared.Printed.{Printed}
use Rattle.reduce_filter.specs.Input.{input_bytes}
use Rattle.reduce_filter.specs.Output.{output_of, Prints}
use Rattle.reduce_streams.specs.Streams.{text_read, status_of}
use lib.Seq.{take-append_seam}

-- the bytes that are written are the output
front : (ts old out : List ℕ) (r : Printed) → Prints ts old out r → take r.bytes out ≡ output_of ts
front ts old out r printed =
    ap (λ n. take n out) printed.count
    ∙ ap (take (length (output_of ts))) printed.bytes
    ∙ take-append_seam (output_of ts) (drop (length (output_of ts)) old)

pub outcome : (a b c : Option (List ℕ)) (ts new old out : List ℕ) (r : Printed) (s : ℕ) → length new ≡ input_bytes → IfSome a (λ xs. ts ≡ take (length new) xs) → Prints ts old out r
    → s ≡ cond r.refused 1 0 → Appends b c (take r.bytes out) → IfSome a (λ xs. (s ≡ status_of (text_read xs)) × Appends b c (output_of (text_read xs)))
outcome None b c ts new old out r s long read printed status wrote = tt
outcome (Some xs) b c ts new old out r s long read printed status wrote =
    let same : ts ≡ text_read xs = read ∙ ap (λ n. take n xs) long in
    subst (λ t. (s ≡ status_of t) × Appends b c (output_of t)) same
    (status ∙ ap (λ q. cond q 1 0) printed.refused, subst (Appends b c) (front ts old out r printed) wrote)

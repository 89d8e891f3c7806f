-- What a function that reads has answered.
use mathlib.Core.Path.{◌≡◌, ap, ◌∙◌}
use Rattle.std.specs.Prelude.{Option, None, Result, Ok, Err, IsErrAnd, ok_or}

-- ---- a question that is asked by `ok_or` and `?`

-- nothing was there, so its refusal is answered
pub asked_no : {T E X : Type 0} (r : Result T E) (o : Option X) (e err : E) → IsErrAnd r (λ y. y ≡ e) → Err e ≡ ok_or o err → o ≡ None → r ≡ Err err
asked_no (Ok x) o e err h q n = absurd h
asked_no {T} {E} {X} (Err y) o e err h q n = let k : e ≡ err = err_is (q ∙ ap (λ z. ok_or z err) n) in ap Err (h ∙ k)
  where
    err_is : {e err : E} → ◌≡◌ {A = Result X E} (Err e) (Err err) → e ≡ err
    err_is h = cc

-- a refusal is handed on
pub handed_on : {T E : Type 0} (r : Result T E) (e : E) → IsErrAnd r (λ y. y ≡ e) → r ≡ Err e
handed_on (Ok x) e h = absurd h
handed_on (Err y) e h = ap Err h

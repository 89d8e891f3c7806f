-- The answer of the call case by case, and what the slice then holds.
use Prim.Native.Nat.{ℕ, ◌≤◌, ◌<◌}
use mathlib.Core.Path.{◌≡◌, refl, ap, ap₂, ◌∙◌}
use mathlib.Core.List.{List, ◌++◌}
use native.Mathlib.Omega.{arith}
use lib.ListN.{length, get_or, drop}
use borrow.Author.Tests.{lt-leb, le-leb}
use Rattle.answers.specs.declared.CallQuestion.TheVariants.{FewAtoms, ModelsRoom}
use Rattle.answers.specs.declared.Refusal.{Refusal}
use Rattle.answers.specs.declared.Refusal.TheVariants.{Call}
use Rattle.std.specs.Prelude.{Ok, Err}
use Rattle.answers.specs.Answers.{ask, written_if}
use Rattle.table.specs.Questions.{Passed, table_of, on_table}
use Rattle.models_list.specs.Answer.{model_words, models_answer, models_out}

module _ (ws out : List ℕ) where
  pub call_refused : (r : Refusal) → table_of ws ≡ Err r → (Err r ≡ models_answer ws (length out)) × (out ≡ models_out ws out)
  unfolding models_answer models_out on_table written_if
  call_refused r h = rw h (refl, refl)

  pub call_many : Passed ws → 16 < get_or ws 0 0 → (Err (Call FewAtoms) ≡ models_answer ws (length out)) × (out ≡ models_out ws out)
  unfolding models_answer models_out on_table ask written_if
  call_many p h = rw (p.valid, lt-leb (get_or ws 0 0) 16 h) (refl, refl)

  module _ (p : Passed ws) (few : get_or ws 0 0 ≤ 16) (w : List ℕ) (f : w ≡ model_words ws) where
    pub call_narrow : length out < length w → (Err (Call ModelsRoom) ≡ models_answer ws (length out)) × (out ≡ models_out ws out)
    unfolding models_answer models_out on_table ask written_if
    call_narrow l = rw (p.valid, le-leb (get_or ws 0 0) 16 few, lt-leb (length (model_words ws)) (length out) (omega (arith, ap length f))) (refl, refl)

    pub call_done : (y : List ℕ) → length w ≤ length out → y ≡ w → (Ok (length w) ≡ models_answer ws (length out)) × (y ++ drop (length w) out ≡ models_out ws out)
    unfolding models_answer models_out on_table ask written_if
    call_done y l q =
        let room : length (model_words ws) ≤ length out = omega (arith, ap length f) in
        rw (p.valid, le-leb (get_or ws 0 0) 16 few, le-leb (length (model_words ws)) (length out) room)
        (ap (λ k. Ok (length k)) f, ap₂ (λ a k. a ++ drop (length k) out) (q ∙ f) f)

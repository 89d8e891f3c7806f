-- Lists as they were checked before slip 6 of document 02: without 32, and with the condition of kind 7 as it was. An answer changes exactly where it is 32 now.
use mathlib.Core.Path.{◌≡◌, refl, sym, ap, ◌∙◌}
use mathlib.Core.Logic.{◌↔◌, ◌≢◌, ◌⊎◌, inl, inr, ⊎_elim}
use mathlib.Core.Bool.{Bool, true, false}
use mathlib.Core.List.{List}
use Prim.Native.Nat.{ℕ, zero, suc, ◌+◌, ◌/◌}
use native.Mathlib.Omega.{arith}
use lib.Dec.{leb}
use lib.ListN.{length, get_or}
use Rattle.rewriting.specs.Marked.{Marked}
use Rattle.rewriting.specs.Steps.{target_kept, partner_kept, atom_known, atom_matches, atom_headed, condition_holds}
use Rattle.rewriting.specs.Steps as steps
use Rattle.rewriting.proofs.Before.{condition_before, condition_same}
use Rattle.answers.specs.declared.CallQuestion.TheVariants.{MarksLength, ListLength}
use Rattle.answers.specs.declared.StepQuestion.{StepQuestion}
use Rattle.answers.specs.declared.StepQuestion.TheVariants.{KindKnown, TargetKept, PartnerKept, AtomKnown, AtomMatches, AtomHeaded, ConditionHolds}
use Rattle.answers.specs.declared.Refusal.TheVariants.{Call, Step}
use Rattle.answers.specs.Answers.{Answer}
use Rattle.std.specs.Prelude.{Ok, Err}
use Rattle.answers.specs.Refusals.{refusal_number}
use Rattle.answers.specs.Answers.{ask}
use Rattle.answers.proofs.Asked.{ask_pair, ask_both}
use Rattle.table.specs.Questions.{Checked}
use Rattle.table.specs.Questions.{table_of, on_table}
use Rattle.table.specs.StepWords.{kind_at, step_at}
use Rattle.table.specs.View.{view, all_kept}
use Rattle.table.specs.Effects.{marks_after}
use Rattle.table.proofs.Refused.{table_refused}
use Rattle.step_questions.specs.Questions.{kind_known, shape_questions, condition_questions, step_questions}
use Rattle.step_questions.proofs.Laws.{shape_pair}
use Rattle.step_lists.specs.Lists.{Outcome, leaving, steps_from, list_fits, check_list}

-- ---- the definition that was there

-- 12 to 15 and 29, then 16
module _ {A : Type 0} where
  unfoldable pub questions_before : (StepQuestion → A) → ℕ → Marked → ℕ → steps.Step → A → A
  unfolding ask shape_questions condition_before
  questions_before stop n P k s go = shape_questions stop n P k s (ask stop (condition_before P s) ConditionHolds go)

unfoldable pub steps_before : List ℕ → List ℕ → List ℕ → ℕ → ℕ → Outcome
unfolding questions_before marks_after
steps_before ws ms ls k zero = record { answer = Ok k; marks = ms }
steps_before ws ms ls k (suc left) =
    questions_before (λ q. leaving ms (Step q k)) (get_or ws 0 0) (view ws ms) (kind_at ls k) (step_at ls k)
    (steps_before ws (marks_after ws ms (step_at ls k)) ls (k + 1) left)

unfoldable pub check_before : List ℕ → List ℕ → List ℕ → Outcome
unfolding table_of on_table ask steps_before
check_before ws ms ls =
    on_table (leaving ms) (table_of ws)
    (ask (leaving ms) (leb (length ws) (length ms)) (Call MarksLength)
    (ask (leaving ms) (list_fits ls) (Call ListLength)
    (steps_before ws (all_kept ws ms) ls 0 (length ls / 4))))

-- ---- as before, or refused by 32

abbrev pub At32 : Outcome → Type 0
At32 o = (k : ℕ) × (o.answer ≡ Err (Step AtomHeaded k))

-- what is answered now, beside what was answered
abbrev Now : Outcome → Outcome → Type 0
Now a b = (a ≡ b) ⊎ At32 a

module _ (n : ℕ) (P : Marked) (s : steps.Step) (ms : List ℕ) (k : ℕ) (a b : Outcome) (h : Now a b) where
  abbrev stop : StepQuestion → Outcome
  stop q = leaving ms (Step q k)

  -- 32 and 16, with what follows them
  condition_on : (x : Bool) → atom_headed P s ≡ x → Now (condition_questions stop P s a) (ask stop (condition_before P s) ConditionHolds b)
  unfolding condition_questions ask
  condition_on true e =
      let q = ap (λ x. ask stop x AtomHeaded (ask stop (condition_holds P s) ConditionHolds a)) e in
      ⊎_elim (λ r. inl (q ∙ r ∙ ap (λ c. ask stop c ConditionHolds b) (condition_same P s e))) (λ (j, r). inr (j, ap (λ o. o.answer) q ∙ r))
      (ask_pair Now stop stop (condition_holds P s) ConditionHolds a b (inl refl) h)
  condition_on false e = inr (k, ap (λ x. (ask stop x AtomHeaded (ask stop (condition_holds P s) ConditionHolds a)).answer) e)

  step_on : (j : ℕ) → Now (step_questions stop n P j s a) (questions_before stop n P j s b)
  unfolding step_questions questions_before
  step_on j = shape_pair Now stop stop (λ q. inl refl) n P j s _ _ (condition_on (atom_headed P s) refl)

steps_on : (ws ls : List ℕ) (left k : ℕ) (ms : List ℕ) → Now (steps_from ws ms ls k left) (steps_before ws ms ls k left)
unfolding steps_from steps_before
steps_on ws ls zero k ms = inl refl
steps_on ws ls (suc left) k ms = step_on (get_or ws 0 0) (view ws ms) (step_at ls k) ms k _ _ (steps_on ws ls left (k + 1) (marks_after ws ms (step_at ls k))) (kind_at ls k)

-- A list is answered as before, and leaves the marks that it left, or is refused by 32.
pub checked_on : (ws ms ls : List ℕ) → (check_list ws ms ls ≡ check_before ws ms ls) ⊎ At32 (check_list ws ms ls)
unfolding check_list check_before on_table
checked_on ws ms ls = table (table_of ws)
    (ask_pair Now (leaving ms) (leaving ms) (leb (length ws) (length ms)) (Call MarksLength) _ _ (inl refl)
    (ask_pair Now (leaving ms) (leaving ms) (list_fits ls) (Call ListLength) _ _ (inl refl) (steps_on ws ls (length ls / 4) 0 (all_kept ws ms))))
  where
    table : (c : Checked) {a b : Outcome} → Now a b → Now (on_table (leaving ms) c a) (on_table (leaving ms) c b)
    table (Ok t) h = h
    table (Err r) h = inl refl

-- ---- and never both

-- the number of the question that was answered no, or 0
abbrev said_number : Answer → ℕ
said_number (Ok k) = 0
said_number (Err r) = refusal_number r

abbrev No32 : Outcome → Type 0
No32 o = said_number o.answer ≢ 32

steps_no : (ws ls : List ℕ) (left k : ℕ) (ms : List ℕ) → No32 (steps_before ws ms ls k left)
unfolding steps_before questions_before shape_questions
steps_no ws ls zero k ms = λ e. omega arith
steps_no ws ls (suc left) k ms =
    ask_both No32 stop (kind_known (kind_at ls k)) KindKnown _ (λ e. omega arith)
    (ask_both No32 stop (target_kept P s) TargetKept _ (λ e. omega arith)
    (ask_both No32 stop (partner_kept P s) PartnerKept _ (λ e. omega arith)
    (ask_both No32 stop (atom_known (get_or ws 0 0) s) AtomKnown _ (λ e. omega arith)
    (ask_both No32 stop (atom_matches P s) AtomMatches _ (λ e. omega arith)
    (ask_both No32 stop (condition_before P s) ConditionHolds _ (λ e. omega arith) (steps_no ws ls left (k + 1) (marks_after ws ms s)))))))
  where
    P : Marked
    P = view ws ms

    s : steps.Step
    s = step_at ls k

    stop : StepQuestion → Outcome
    stop q = leaving ms (Step q k)

checked_no : (ws ms ls : List ℕ) → No32 (check_before ws ms ls)
unfolding check_before on_table
checked_no ws ms ls = table (table_of ws) refl _
    (ask_both No32 (leaving ms) (leb (length ws) (length ms)) (Call MarksLength) _ (λ e. omega arith)
    (ask_both No32 (leaving ms) (list_fits ls) (Call ListLength) _ (λ e. omega arith) (steps_no ws ls (length ls / 4) 0 (all_kept ws ms))))
  where
    table : (c : Checked) → table_of ws ≡ c → (a : Outcome) → No32 a → No32 (on_table (leaving ms) c a)
    table (Ok t) e a h = h
    table (Err r) e a h = λ q. omega (arith, (table_refused ws r e).0, q)

-- What a list is answered, or the marks that it leaves, changes exactly where it is refused by 32 now.
pub changed_exactly : (ws ms ls : List ℕ) → (check_list ws ms ls ≢ check_before ws ms ls) ↔ At32 (check_list ws ms ls)
changed_exactly ws ms ls = (
  λ d. ⊎_elim (λ e. absurd (d e)) (λ h. h) (checked_on ws ms ls),
  λ (k, h) e. checked_no ws ms ls (ap (λ o. said_number o.answer) (sym e) ∙ ap said_number h),
)

-- Checking a list keeps the stable models, whatever its answer; what a refused call leaves; and marks past the table.
use mathlib.Core.Path.{◌≡◌, refl, sym, ap, subst, ◌∙◌}
use mathlib.Core.Logic.Iff
use mathlib.Core.Logic.{◌↔◌, ◌≢◌, ◌⊎◌, inl, inr, by_cases}
use mathlib.Core.Bool.{Bool, true, false, So}
use mathlib.Core.List.{List}
use mathlib.Core.Option.{none, some}
use Prim.Native.Nat.{ℕ, zero, suc, ◌+◌, ◌-◌, ◌/◌, ◌≤◌, ◌<◌}
use native.Mathlib.Omega.{arith}
use lib.Dec.{leb}
use lib.ListN.{length, get_or, drop, replicate, length-replicate, length-drop}
use lib.Seq.{drop-set-lt, drop_at, ext_get_or, get_or-drop}
use borrow.Author.Tests.{leb-true}
use Rattle.semantics.specs.Programs.{Atoms, program, Stable}
use Rattle.rewriting.specs.Marked.{left}
use Rattle.semantics.proofs.Tests.{so_dec, so_false}
use Rattle.rewriting.specs.Kinds.{on_target}
use Rattle.rewriting.specs.Steps.{Step, applies}
use Rattle.rewriting.proofs.Sound.{step_sound}
use Rattle.answers.specs.declared.StepQuestion.{StepQuestion}
use Rattle.answers.specs.declared.StepQuestion.TheVariants.{KindKnown, TargetKept, PartnerKept, AtomKnown, AtomMatches, AtomHeaded, ConditionHolds}
use Rattle.answers.specs.declared.CallQuestion.{CallQuestion}
use Rattle.answers.specs.declared.CallQuestion.TheVariants.{MarksLength, ListLength}
use Rattle.answers.specs.declared.Refusal.{Refusal}
use Rattle.answers.specs.declared.Refusal.TheVariants as refusal
use Rattle.table.specs.Questions.{Checked}
use Rattle.std.specs.Prelude.{Ok, Err}
use Rattle.answers.specs.Refusals.{step_number, refusal_number}
use Rattle.answers.specs.Answers.{ask}
use Rattle.table.specs.Questions.{Passed, table_of, on_table}
use Rattle.table.proofs.Refused.{table_refused}
use Rattle.table.specs.Programs.{program_of}
use Rattle.table.specs.View.{view, all_kept}
use Rattle.table.specs.Clearing.{marks_without}
use Rattle.table.specs.Effects.{marks_after}
use Rattle.table.proofs.Laws.{one_left}
use Rattle.table.proofs.Encoding.{valid_passed}
use Rattle.table.proofs.Cleared.{length_without_marks, without_past}
use Rattle.table.proofs.View.{view_after, length_after, clears_lt, after_on, after_off}
use Rattle.table.proofs.Parts.{left_all_kept, length_all_kept}
use Rattle.step_questions.specs.Verdicts.{Verdict}
use Rattle.reduced_sizes.specs.Leaves.{left_program}
use Rattle.step_lists.specs.Lists.{Outcome, leaving, steps_from, list_fits, check_list}
use Rattle.table.specs.StepWords.{kind_at, step_at}
use Rattle.step_questions.proofs.Laws.{on_verdict, on_no, fine_applies}
use Rattle.step_lists.proofs.Walks.{verdict_on, steps_verdict, check_made}
use Rattle.claims.proofs.Said.{first_no}

-- ---- the steps

module _ (ws ls : List ℕ) (passed : Passed ws) where
  -- what holds of the marks and is kept by every applicable step holds of the marks that the steps leave
  steps_keep : (Q : List ℕ → Type 0) → ((ms : List ℕ) (k : ℕ) → length ws ≤ length ms → So (applies (get_or ws 0 0) (view ws ms) (step_at ls k)) → Q (marks_after ws ms (step_at ls k)) → Q ms)
      → (left k : ℕ) (ms : List ℕ) → length ws ≤ length ms → Q (steps_from ws ms ls k left).marks → Q ms
  unfolding steps_from on_verdict
  steps_keep Q f zero k ms l q = q
  steps_keep Q f (suc left) k ms l q = go (verdict_on ws ms ls k) refl (subst (λ o. Q o.marks) (steps_verdict ws ms ls k left) q)
      (λ a. steps_keep Q f left (k + 1) (marks_after ws ms (step_at ls k)) (omega (arith, length_after ws ms (step_at ls k))) a)
    where
      go : (v : Verdict) → verdict_on ws ms ls k ≡ v
          → Q (on_verdict (λ x. leaving ms (refusal.Step x k)) (steps_from ws (marks_after ws ms (step_at ls k)) ls (k + 1) left) v).marks
          → (Q (steps_from ws (marks_after ws ms (step_at ls k)) ls (k + 1) left).marks → Q (marks_after ws ms (step_at ls k))) → Q ms
      go (Ok u) e q r = f ms k l (fine_applies (get_or ws 0 0) (view ws ms) (kind_at ls k) (step_at ls k) e) (r q)
      go (Err x) e q r = q

  steps_models : (left k : ℕ) (ms : List ℕ) → length ws ≤ length ms → (M : Atoms) → Stable (left_program ws ms) M ↔ Stable (left_program ws (steps_from ws ms ls k left).marks) M
  steps_models left k ms l M = steps_keep (λ x. Stable (left_program ws x) M ↔ Stable (left_program ws (steps_from ws ms ls k left).marks) M)
      (λ x j b h r. Iff.trans (subst (λ P. Stable (left_program ws x) M ↔ Stable (program (get_or ws 0 0) (Rattle.rewriting.specs.Marked.left P)) M) (sym (view_after ws x passed b (get_or ws 0 0) (step_at ls j) h)) (step_sound (get_or ws 0 0) (view ws x) (step_at ls j) h M)) r)
      left k ms l Iff.rfl

  steps_past : (left k : ℕ) (ms : List ℕ) → length ws ≤ length ms → drop (length ws) (steps_from ws ms ls k left).marks ≡ drop (length ws) ms
  steps_past left k ms l = steps_keep (λ x. drop (length ws) (steps_from ws ms ls k left).marks ≡ drop (length ws) x)
      (λ x j b h r. r ∙ after_past x (step_at ls j) b h)
      left k ms l refl
    where
      -- a step changes no mark past the table
      after_past : (x : List ℕ) (s : Step) → length ws ≤ length x → So (applies (get_or ws 0 0) (view ws x) s) → drop (length ws) (marks_after ws x s) ≡ drop (length ws) x
      after_past x s b h = by_cases (so_dec (on_target s.kind))
          (λ q. ap (drop (length ws)) (after_on ws x s q) ∙ drop-set-lt (length ws) x _ 0 (clears_lt ws x passed b (get_or ws 0 0) s q h))
          (λ q. ap (drop (length ws)) (after_off ws x s (so_false _ q)) ∙ ext_get_or 0 (drop (length ws) (marks_without ws x s.atom)) (drop (length ws) x)
          (simp length-drop (ap (λ k. k - length ws) (length_without_marks ws x s.atom)))
          (λ i z. get_or-drop (length ws) (marks_without ws x s.atom) i 0 ∙ without_past ws x s.atom (length ws + i) passed (omega arith) ∙ sym (get_or-drop (length ws) x i 0)))

steps_count : (ws ls : List ℕ) (left k : ℕ) (ms : List ℕ) (s : ℕ) → (steps_from ws ms ls k left).answer ≡ Ok s → s ≡ k + left
unfolding steps_from on_verdict
steps_count ws ls zero k ms s e = let q : k ≡ s = cc in omega arith
steps_count ws ls (suc left) k ms s e = go (verdict_on ws ms ls k) (ap (λ o. o.answer) (sym (steps_verdict ws ms ls k left)) ∙ e) (steps_count ws ls left (k + 1) (marks_after ws ms (step_at ls k)) s)
  where
    go : (v : Verdict) → (on_verdict (λ x. leaving ms (refusal.Step x k)) (steps_from ws (marks_after ws ms (step_at ls k)) ls (k + 1) left) v).answer ≡ Ok s
        → ((steps_from ws (marks_after ws ms (step_at ls k)) ls (k + 1) left).answer ≡ Ok s → s ≡ k + 1 + left) → s ≡ k + suc left
    go (Ok u) e f = let q = f e in omega arith
    go (Err x) e f = let z : ◌≡◌ {A = ℕ} 0 1 = cc in absurd (omega arith)

-- ---- the whole call

-- For every table that passes and every list, accepted or refused at a step: every set is stable for the program given exactly when it is for the
-- program as the marks leave it. ("That the models stay the same is one claim about the whole list, not one for each step.")
pub list_keeps_models : (ws ms ls : List ℕ) → Passed ws → length ws ≤ length ms → So (list_fits ls) → (M : Atoms)
    → Stable (program_of ws) M ↔ Stable (left_program ws (check_list ws ms ls).marks) M
unfolding program_of
list_keeps_models ws ms ls p l f M = subst (λ o. Stable (program_of ws) M ↔ Stable (left_program ws o.marks) M) (sym (check_made ws ms ls _ p.valid l f))
    (subst (λ cs. Stable (program (get_or ws 0 0) cs) M ↔ Stable (left_program ws (steps_from ws (all_kept ws ms) ls 0 (length ls / 4)).marks) M) (left_all_kept ws ms p)
    (steps_models ws ls p (length ls / 4) 0 (all_kept ws ms) (omega (arith, length_all_kept ws ms l)) M))

-- the outcome of a call: refused with the marks as they were, or the steps from all marks 1
data Came (ws ms ls : List ℕ) : Outcome → Type 0 where
  early : (r : Refusal) → ((q : StepQuestion) (k : ℕ) → r ≢ refusal.Step q k) → Came ws ms ls (leaving ms r)
  stepped : Passed ws → length ws ≤ length ms → So (list_fits ls) → Came ws ms ls (steps_from ws (all_kept ws ms) ls 0 (length ls / 4))

-- the refusals of questions 1 to 9 and 11 are not those of a step
call_early : (c : CallQuestion) (q : StepQuestion) (k : ℕ) → refusal.Call c ≢ refusal.Step q k
call_early c q k e = let z : ◌≡◌ {A = ℕ} 0 1 = cc in omega arith

step_late : (q : StepQuestion) → 12 ≤ step_number q
step_late KindKnown = omega arith
step_late TargetKept = omega arith
step_late PartnerKept = omega arith
step_late AtomKnown = omega arith
step_late AtomMatches = omega arith
step_late AtomHeaded = omega arith
step_late ConditionHolds = omega arith

table_early : (ws : List ℕ) (r : Refusal) → table_of ws ≡ Err r → (q : StepQuestion) (k : ℕ) → r ≢ refusal.Step q k
table_early ws r e q k x = omega (arith, (table_refused ws r e).0, step_late q, ap refusal_number x)

came : (ws ms ls : List ℕ) → Came ws ms ls (check_list ws ms ls)
unfolding check_list on_table ask
came ws ms ls = table (table_of ws) refl
  where
    made : Outcome
    made = steps_from ws (all_kept ws ms) ls 0 (length ls / 4)

    list : (b : Bool) → list_fits ls ≡ b → Passed ws → length ws ≤ length ms → Came ws ms ls (ask (leaving ms) b (refusal.Call ListLength) made)
    list true e p l = stepped p l e
    list false e p l = early (refusal.Call ListLength) (call_early ListLength)

    marks : (b : Bool) → leb (length ws) (length ms) ≡ b → Passed ws → Came ws ms ls (ask (leaving ms) b (refusal.Call MarksLength) (ask (leaving ms) (list_fits ls) (refusal.Call ListLength) made))
    marks true e p = list (list_fits ls) refl p (leb-true _ _ e)
    marks false e p = early (refusal.Call MarksLength) (call_early MarksLength)

    table : (c : Checked) → table_of ws ≡ c → Came ws ms ls (on_table (leaving ms) c (ask (leaving ms) (leb (length ws) (length ms)) (refusal.Call MarksLength) (ask (leaving ms) (list_fits ls) (refusal.Call ListLength) made)))
    table (Err r) e = early r (table_early ws r e)
    table (Ok t) e = marks (leb (length ws) (length ms)) refl (valid_passed ws t e).0

-- "Marks past the table never change."
pub marks_past_table : (ws ms ls : List ℕ) → drop (length ws) (check_list ws ms ls).marks ≡ drop (length ws) ms
marks_past_table ws ms ls = go (check_list ws ms ls) (came ws ms ls)
  where
    go : (o : Outcome) → Came ws ms ls o → drop (length ws) o.marks ≡ drop (length ws) ms
    go o (early r n) = refl
    go o (stepped p l f) = steps_past ws ls p (length ls / 4) 0 (all_kept ws ms) (omega (arith, length_all_kept ws ms l)) ∙ drop_at (replicate (length ws) 1) (drop (length ws) ms) (length ws) (length-replicate (length ws) 1)

-- ---- refused at a step

-- steps from `k` on, `left` of them, that leave the outcome o, are refused at a step: the steps before it are accepted and leave these marks, and on these the
-- step's first question that is answered no is the one given
pub record RefusedAt (ws ms ls : List ℕ) (k left : ℕ) (o : Outcome) : Type 0 where
  pub step : ℕ
  pub question : StepQuestion
  pub is : o.answer ≡ Err (refusal.Step question step)
  pub above : k ≤ step
  pub below : step < k + left
  pub before : steps_from ws ms ls k (step - k) ≡ record { answer = Ok step; marks = o.marks }
  pub no : first_no ws o.marks ls step ≡ some question

pub steps_refused : (ws ls : List ℕ) (left k : ℕ) (ms : List ℕ) (r : Refusal) → (steps_from ws ms ls k left).answer ≡ Err r → RefusedAt ws ms ls k left (steps_from ws ms ls k left)
unfolding steps_from on_verdict
steps_refused ws ls zero k ms r e = let z : ◌≡◌ {A = ℕ} 0 1 = cc in absurd (omega arith)
steps_refused ws ls (suc left) k ms r e = subst (RefusedAt ws ms ls k (suc left)) (sym (steps_verdict ws ms ls k left)) (go (verdict_on ws ms ls k) refl (ap (λ o. o.answer) (sym (steps_verdict ws ms ls k left)) ∙ e) (λ h. steps_refused ws ls left (k + 1) (marks_after ws ms (step_at ls k)) r h))
  where
    after : Outcome
    after = steps_from ws (marks_after ws ms (step_at ls k)) ls (k + 1) left

    go : (v : Verdict) → verdict_on ws ms ls k ≡ v → (on_verdict (λ x. leaving ms (refusal.Step x k)) after v).answer ≡ Err r
        → (after.answer ≡ Err r → RefusedAt ws (marks_after ws ms (step_at ls k)) ls (k + 1) left after)
        → RefusedAt ws ms ls k (suc left) (on_verdict (λ x. leaving ms (refusal.Step x k)) after v)
    go (Ok u) q e f = let w = f e in record {
      step = w.step;
      question = w.question;
      is = w.is;
      above = omega (arith, w.above);
      below = omega (arith, w.below);
      before = ap (steps_from ws ms ls k) (one_left k w.step (omega (arith, w.above))) ∙ steps_verdict ws ms ls k (w.step - (k + 1)) ∙ ap (on_verdict (λ x. leaving ms (refusal.Step x k)) (steps_from ws (marks_after ws ms (step_at ls k)) ls (k + 1) (w.step - (k + 1)))) q ∙ w.before;
      no = w.no;
    }
    go (Err x) q e f = record {
      step = k;
      question = x;
      is = refl;
      above = omega arith;
      below = omega arith;
      before = let z : k - k ≡ 0 = omega arith in rw z;
      no = on_no some none (get_or ws 0 0) (view ws ms) (kind_at ls k) (step_at ls k) x q;
    }

-- "A list refused at step k leaves the marks of steps 0 to k-1": where the refusal is one of a step, it is at that step.
pub refused_at_step : (ws ms ls : List ℕ) (q : StepQuestion) (k : ℕ) → (check_list ws ms ls).answer ≡ Err (refusal.Step q k)
    → (e : RefusedAt ws (all_kept ws ms) ls 0 (length ls / 4) (check_list ws ms ls)) × (e.step ≡ k)
refused_at_step ws ms ls q k = go (check_list ws ms ls) (came ws ms ls)
  where
    go : (o : Outcome) → Came ws ms ls o → o.answer ≡ Err (refusal.Step q k) → (e : RefusedAt ws (all_kept ws ms) ls 0 (length ls / 4) o) × (e.step ≡ k)
    go o (early x n) e = absurd (n q k (let z : x ≡ refusal.Step q k = cc in z))
    go o (stepped p l f) e =
        let r = steps_refused ws ls (length ls / 4) 0 (all_kept ws ms) (refusal.Step q k) e in
        (r, (let z = sym r.is ∙ e in let y : r.step ≡ k = cc in y))

-- "That the models stay the same .." needs only that 1 to 9 and 11 are answered yes, which they are where the list is accepted, or refused at a step
pub checked_asked : (ws ms ls : List ℕ) → ((s : ℕ) × ((check_list ws ms ls).answer ≡ Ok s)) ⊎ ((q : StepQuestion) × (k : ℕ) × ((check_list ws ms ls).answer ≡ Err (refusal.Step q k)))
    → Passed ws × (length ws ≤ length ms) × So (list_fits ls)
checked_asked ws ms ls = go (check_list ws ms ls) (came ws ms ls)
  where
    go : (o : Outcome) → Came ws ms ls o → ((s : ℕ) × (o.answer ≡ Ok s)) ⊎ ((q : StepQuestion) × (k : ℕ) × (o.answer ≡ Err (refusal.Step q k))) → Passed ws × (length ws ≤ length ms) × So (list_fits ls)
    go o (stepped p l f) a = (p, l, f)
    go o (early x n) (inl e) = let w = e.1 in let z : ◌≡◌ {A = ℕ} 0 1 = cc in absurd (omega arith)
    go o (early x n) (inr e) = let w = e.2 in absurd (n e.0 e.1 (let z : x ≡ refusal.Step e.0 e.1 = cc in z))

-- "Where the list is accepted, every set of atoms, of any size, is a stable model of the program as given exactly when it is one of the program as the
-- list leaves it. Where it is refused at a step, the same holds for the program as the steps before that one leave it."
pub checked_keeps_models : (ws ms ls : List ℕ) → ((s : ℕ) × ((check_list ws ms ls).answer ≡ Ok s)) ⊎ ((q : StepQuestion) × (k : ℕ) × ((check_list ws ms ls).answer ≡ Err (refusal.Step q k)))
    → (M : Atoms) → Stable (program_of ws) M ↔ Stable (left_program ws (check_list ws ms ls).marks) M
checked_keeps_models ws ms ls a M = let c = checked_asked ws ms ls a in list_keeps_models ws ms ls c.0 c.1 c.2 M

-- what a refused call leaves
pub data Kept (ws ms ls : List ℕ) (o : Outcome) : Type 0 where
  unchanged : o.marks ≡ ms → Kept ws ms ls o
  at_step : RefusedAt ws (all_kept ws ms) ls 0 (length ls / 4) o → Kept ws ms ls o

-- "A list refused at step k leaves the marks of steps 0 to k-1; at k = 0 the table's marks are all 1." "Every other refusal changes nothing."
pub refused_marks : (ws ms ls : List ℕ) (r : Refusal) → (check_list ws ms ls).answer ≡ Err r → Kept ws ms ls (check_list ws ms ls)
refused_marks ws ms ls r = go (check_list ws ms ls) (came ws ms ls)
  where
    go : (o : Outcome) → Came ws ms ls o → o.answer ≡ Err r → Kept ws ms ls o
    go o (early x n) e = unchanged refl
    go o (stepped p l f) e = at_step (steps_refused ws ls (length ls / 4) 0 (all_kept ws ms) r e)

-- "An accepted list leaves the marks of all its steps.", and its answer is their number
pub accepted_marks : (ws ms ls : List ℕ) (s : ℕ) → (check_list ws ms ls).answer ≡ Ok s → (check_list ws ms ls ≡ steps_from ws (all_kept ws ms) ls 0 (length ls / 4)) × (s ≡ length ls / 4)
accepted_marks ws ms ls s = go (check_list ws ms ls) (came ws ms ls)
  where
    go : (o : Outcome) → Came ws ms ls o → o.answer ≡ Ok s → (o ≡ steps_from ws (all_kept ws ms) ls 0 (length ls / 4)) × (s ≡ length ls / 4)
    go o (early x n) e = let z : ◌≡◌ {A = ℕ} 0 1 = cc in absurd (omega arith)
    go o (stepped p l f) e = (refl, omega (arith, steps_count ws ls (length ls / 4) 0 (all_kept ws ms) s e))

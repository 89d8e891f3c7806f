-- Demand 3, of every program within the limits: the same stable models before and after any list; and the reducer's own list, in the order that document 01 and slips 7 and 8 give, is
-- accepted with the same marks, with no further step open, with no more steps than marks at 0, and leaves a table with the same stable models.
use mathlib.Core.Path.{◌≡◌, refl, sym, ap, subst, ◌∙◌}
use mathlib.Core.Logic.{◌↔◌}
use mathlib.Core.Bool.{So}
use mathlib.Core.List.{List, [], ◌∷◌, ◌++◌}
use Prim.Native.Nat.{ℕ, ◌*◌, ◌/◌, ◌≤◌, ◌<◌}
use native.Mathlib.Omega.{arith}
use native.Mathlib.Nat.{sub-zero}
use lib.ListN.{length, take, drop}
use Rattle.semantics.specs.Programs.{Program, Atoms, Stable}
use Rattle.rewriting.specs.Marked.{whole}
use Rattle.rewriting.specs.Steps.{Step}
use Rattle.rewriting.specs.Runs.{without_nine}
use Rattle.rewriting.specs.Reducer.{eligible, Greedy}
use Rattle.answers.specs.declared.StepQuestion.{StepQuestion}
use Rattle.answers.specs.declared.Refusal.TheVariants as refusal
use Rattle.table.specs.Questions.{Passed}
use Rattle.table.specs.Encoding.{Within, encode}
use Rattle.table.specs.Programs.{program_of}
use Rattle.table.specs.View.{all_kept, zeros}
use Rattle.table.proofs.Encoding.{encode_passes, program_encode}
use Rattle.answers.specs.Answers.{Answer}
use Rattle.std.specs.Prelude.{Ok, Err}
use Rattle.step_lists.specs.Lists.{list_fits, steps_from, check_list}
use Rattle.reducer_results.specs.Reductions.{room, steps_of, Reduction, reduction}
use Rattle.table.specs.StepWords.{words_of}
use Rattle.reducer_results.proofs.Taken.{always_taken, steps_greedy}
use Rattle.reduced_table.specs.Reduced.{reduced_answer, reduced_out}
use Rattle.reduced_sizes.specs.Leaves.{left_program, reduced}
use Rattle.step_lists.proofs.Walks.{check_made}
use Rattle.claims.proofs.Lists.{list_keeps_models, RefusedAt, steps_refused, accepted_marks}
use Rattle.claims.proofs.Steps.{front_made}
use Rattle.claims.proofs.Whole.{list_words_lem, reducer_accepted, same_marks, reducer_further, checked_counts, checked_at_most, reducer_list_past}
use Rattle.claims.proofs.Reduced.{reduced_accepted}
use Rattle.claims.proofs.Reductions.{reducer_models}
use Rattle.claims.proofs.Allowed.{reducer_compacts}

-- ---- any list

-- How checking a list that is asked for its steps goes: it is accepted, or refused at a step k; then its first k steps alone are accepted, and leave the same marks.
pub data Checking (ws ms ls : List ℕ) : Type 0 where
  accepted : (check_list ws ms ls).answer ≡ Ok (length ls / 4) → Checking ws ms ls
  refused_at : (q : StepQuestion) (k : ℕ) → k < length ls / 4 → (check_list ws ms ls).answer ≡ Err (refusal.Step q k)
      → check_list ws ms (take (4 * k) ls) ≡ record { answer = Ok k; marks = (check_list ws ms ls).marks } → Checking ws ms ls

-- "Where the list is accepted, every set of atoms, of any size, is a stable model of the program as given exactly when it is one of the program as the list leaves it. Where it
-- is refused at a step, the same holds for the program as the steps before that one leave it."
pub record AnyList (P : Program) (ms ls : List ℕ) : Type 0 where
  pub checking : Checking (encode P) ms ls
  pub models : (M : Atoms) → Stable P M ↔ Stable (left_program (encode P) (check_list (encode P) ms ls).marks) M

-- For every program within the limits, marks that pass 9 and list that passes 11.
pub any_list : (P : Program) → Within P → (ms ls : List ℕ) → length (encode P) ≤ length ms → So (list_fits ls) → AnyList P ms ls
any_list P w ms ls l f =
    let p = encode_passes P w in
    record {
      checking = go (encode P) p l (check_list (encode P) ms ls).answer refl;
      models = λ M. subst (λ Q. Stable Q M ↔ Stable (left_program (encode P) (check_list (encode P) ms ls).marks) M) (program_encode P) (list_keeps_models (encode P) ms ls p l f M);
    }
  where
    go : (ws : List ℕ) → Passed ws → length ws ≤ length ms → (a : Answer) → (check_list ws ms ls).answer ≡ a → Checking ws ms ls
    go ws p l (Ok s) e = accepted (e ∙ ap Ok (accepted_marks ws ms ls s e).1)
    go ws p l (Err r) e =
        let m = check_made ws ms ls _ p.valid l f in
        let x = subst (RefusedAt ws (all_kept ws ms) ls 0 (length ls / 4)) (sym m) (steps_refused ws ls (length ls / 4) 0 (all_kept ws ms) r (ap (λ o. o.answer) (sym m) ∙ e)) in
        refused_at x.question x.step (omega (arith, x.below)) x.is (front_made ws ms ls x.step p l f (omega (arith, x.below)) ∙ ap (steps_from ws (all_kept ws ms) ls 0) (sym (sub-zero x.step)) ∙ x.before)

-- ---- the reducer's own list

-- the reducer's call on a program's words, and its list: "The reducer's list is the 4s words of a call that passes 9 and 17."
abbrev pub call : Program → List ℕ → List ℕ → Reduction
call P ms ls = reduction (encode P) ms ls

abbrev pub own_list : Program → List ℕ → List ℕ → ℕ → List ℕ
own_list P ms ls s = take (4 * s) (call P ms ls).list

-- The reduced table of the marks ms is written to the slice out, holds the program as they leave it, and has the stable models of P.
pub record ReducedTable (P : Program) (ms out : List ℕ) : Type 0 where
  pub k : ℕ
  pub taken : reduced_answer (encode P) ms out ≡ Ok k
  pub holds : program_of (take k (reduced_out (encode P) ms out)) ≡ left_program (encode P) ms
  pub models : (M : Atoms) → Stable P M ↔ Stable (program_of (take k (reduced_out (encode P) ms out))) M

-- What is said of a program P, the marks ms and the list ls lent to the reducer, and the marks ks lent to the checker.
pub record Demand3 (P : Program) (ms ls ks : List ℕ) : Type 0 where
  -- the call is taken: "Its result carries the number s of steps made"
  pub s : ℕ
  pub taken : (call P ms ls).answer ≡ Ok s
  -- "The reducer always takes the applicable step that is smallest by kind, then target, partner, atom, until none applies", but for those that slip 7 passes over; slip 8: "The reducer tries it after 8."
  pub steps : List Step
  pub order : Greedy (eligible P.atoms) (whole P.clauses) steps
  pub list : own_list P ms ls s ≡ words_of steps
  -- "later words don't change"
  pub past : drop (4 * s) (call P ms ls).list ≡ drop (4 * s) ls
  -- the list "is accepted
  pub accepted : (check_list (encode P) ks (own_list P ms ls s)).answer ≡ Ok s
  -- and leaves the same marks as the reducer did"
  pub same : take (length (encode P)) (check_list (encode P) ks (own_list P ms ls s)).marks ≡ take (length (encode P)) (call P ms ls).marks
  -- "No further step of any kind is then open: whatever four words stand behind that list as one step more, that step is refused."
  pub further : (a b c d : ℕ) → (q : StepQuestion) × ((check_list (encode P) ks (own_list P ms ls s ++ a ∷ b ∷ c ∷ d ∷ [])).answer ≡ Err (refusal.Step q s))
  -- slip 8: "The count reported is the number of steps written;
  pub written : s ≡ length steps
  -- without kind 9 among them it equals the marks at 0," those "among the table's words after that list is checked", which are "the clauses deleted plus the body literals dropped",
  pub count : So (without_nine steps) → s ≡ zeros (encode P) (check_list (encode P) ks (own_list P ms ls s)).marks
  -- "and otherwise steps number at most the marks at 0."
  pub few : s ≤ zeros (encode P) (check_list (encode P) ks (own_list P ms ls s)).marks
  -- every set of atoms, of any size, is a stable model of the program as given exactly when it is one of the program as the list leaves it,
  pub models : (M : Atoms) → Stable P M ↔ Stable (left_program (encode P) (call P ms ls).marks) M
  -- and one of the reduced table, wherever that fits: "A reduced table holds exactly the program that its marks leave"
  pub table : (out : List ℕ) → length (reduced (encode P) (call P ms ls).marks) ≤ length out → ReducedTable P (call P ms ls).marks out

-- For every program within the limits, marks that pass 9 and list that passes 17.
pub demand_3 : (P : Program) → Within P → (ms ls ks : List ℕ) → length (encode P) ≤ length ms → 4 * room (encode P) ≤ length ls → length (encode P) ≤ length ks → Demand3 P ms ls ks
unfolding encode
demand_3 P w ms ls ks a b c =
    let ws = encode P in
    let p = encode_passes P w in
    let l = steps_of ws in
    let h = always_taken ws ms ls p a b in
    let e = program_encode P in
    let m : (M : Atoms) → Stable P M ↔ Stable (left_program ws (reduction ws ms ls).marks) M = λ M. subst (λ Q. Stable Q M ↔ Stable (left_program ws (reduction ws ms ls).marks) M) e (reducer_models ws ms ls (length l) h M) in
    record {
      s = length l;
      taken = h;
      steps = l;
      order = subst (λ Q. Greedy (eligible P.atoms) (whole Q.clauses) l) e (steps_greedy ws p);
      list = list_words_lem ws ms ls (length l) h;
      past = reducer_list_past ws ms ls (length l) h;
      accepted = reducer_accepted ws ms ls ks (length l) h c;
      same = same_marks ws ms ls ks (length l) h c;
      further = reducer_further ws ms ls ks (length l) h c;
      written = refl;
      count = checked_counts ws ms ls ks (length l) h c;
      few = checked_at_most ws ms ls ks (length l) h c;
      models = m;
      table = λ out f. held out _ (reducer_compacts ws ms ls out (length l) h f) m;
    }
  where
    held : (out : List ℕ) (k : ℕ) → reduced_answer (encode P) (call P ms ls).marks out ≡ Ok k → ((M : Atoms) → Stable P M ↔ Stable (left_program (encode P) (call P ms ls).marks) M)
        → ReducedTable P (call P ms ls).marks out
    held out k h m =
        let e = ap program_of (reduced_accepted (encode P) (call P ms ls).marks out k h).words ∙ program_encode (left_program (encode P) (call P ms ls).marks) in
        record { k = k; taken = h; holds = e; models = λ M. subst (λ Q. Stable P M ↔ Stable Q M) (sym e) (m M) }

-- The reducer's call: how it goes, question by question; its steps and the marks at 0; and the same stable models.
use mathlib.Core.Path.{◌≡◌, refl, sym, subst}
use mathlib.Core.Logic.{◌↔◌}
use mathlib.Core.Bool.{Bool, true, false, So}
use mathlib.Core.List.{List}
use Prim.Native.Nat.{ℕ, ◌*◌, ◌≤◌, ◌<◌}
use native.Mathlib.Omega.{arith}
use lib.Dec.{leb}
use lib.ListN.{length, get_or}
use borrow.Author.Tests.{leb-true, leb-false}
use Rattle.semantics.specs.Programs.{Atoms, Stable, program}
use Rattle.rewriting.specs.Marked.{left, whole}
use Rattle.rewriting.specs.Runs.{leaves, without_nine}
use Rattle.rewriting.proofs.Left.{left_whole}
use Rattle.rewriting.proofs.Sound.{list_sound}
use Rattle.answers.specs.declared.CallQuestion.TheVariants.{MarksLength, ListRoom}
use Rattle.answers.specs.declared.Refusal.{Refusal}
use Rattle.answers.specs.declared.Refusal.TheVariants.{Call}
use Rattle.table.specs.Questions.{Checked}
use Rattle.std.specs.Prelude.{Ok, Err}
use Rattle.table.specs.Questions.{Passed, table_of}
use Rattle.table.specs.Programs.{program_of}
use Rattle.table.specs.View.{view, zeros}
use Rattle.table.proofs.Encoding.{valid_passed}
use Rattle.reducer_results.specs.Reductions as reductions
use Rattle.reducer_results.specs.Reductions.{steps_of, Reduction, leaving_both, reduced_by_lem, reduction}
use Rattle.table.specs.Questions.{on_table}
use Rattle.answers.specs.Answers.{ask}
use Rattle.reducer_results.proofs.Taken.{reducer_taken, marks_after_lem}

-- ---- how the call goes

-- by the first question that gets a no, or with every question answered yes
pub data ReducerGoes (ws ms ls : List ℕ) : Reduction → Type 0 where
  table : (r : Refusal) → table_of ws ≡ Err r → ReducerGoes ws ms ls (leaving_both ms ls r)
  marks : Passed ws → length ms < length ws → ReducerGoes ws ms ls (leaving_both ms ls (Call MarksLength))
  room : Passed ws → length ws ≤ length ms → length ls < 4 * reductions.room ws → ReducerGoes ws ms ls (leaving_both ms ls (Call ListRoom))
  made : Passed ws → length ws ≤ length ms → 4 * reductions.room ws ≤ length ls
      → ReducerGoes ws ms ls (reduced_by_lem ws ms ls (steps_of ws))

pub reducer_goes : (ws ms ls : List ℕ) → ReducerGoes ws ms ls (reduction ws ms ls)
unfolding reduction on_table ask
reducer_goes ws ms ls = by_table (table_of ws) refl
  where
    done : Reduction
    done = reduced_by_lem ws ms ls (steps_of ws)

    by_room : Passed ws → length ws ≤ length ms → (b : Bool) → leb (4 * reductions.room ws) (length ls) ≡ b → ReducerGoes ws ms ls (ask (leaving_both ms ls) b (Call ListRoom) done)
    by_room p l true e = made p l (leb-true _ _ e)
    by_room p l false e = room p l (leb-false _ _ e)

    by_marks : Passed ws → (b : Bool) → leb (length ws) (length ms) ≡ b → ReducerGoes ws ms ls (ask (leaving_both ms ls) b (Call MarksLength) (ask (leaving_both ms ls) (leb (4 * reductions.room ws) (length ls)) (Call ListRoom) done))
    by_marks p true e = by_room p (leb-true _ _ e) (leb (4 * reductions.room ws) (length ls)) refl
    by_marks p false e = marks p (leb-false _ _ e)

    by_table : (c : Checked) → table_of ws ≡ c
        → ReducerGoes ws ms ls (on_table (leaving_both ms ls) c (ask (leaving_both ms ls) (leb (length ws) (length ms)) (Call MarksLength) (ask (leaving_both ms ls) (leb (4 * reductions.room ws) (length ls)) (Call ListRoom) done)))
    by_table (Ok t) e = by_marks (valid_passed ws t e).0 (leb (length ws) (length ms)) refl
    by_table (Err r) e = table r e

-- "Every other refusal changes nothing."
pub reducer_refused : (ws ms ls : List ℕ) (r : Refusal) → (reduction ws ms ls).answer ≡ Err r → ((reduction ws ms ls).marks ≡ ms) × ((reduction ws ms ls).list ≡ ls)
reducer_refused ws ms ls r = go (reduction ws ms ls) (reducer_goes ws ms ls)
  where
    go : (o : Reduction) → ReducerGoes ws ms ls o → o.answer ≡ Err r → (o.marks ≡ ms) × (o.list ≡ ls)
    go o (table x e) h = (refl, refl)
    go o (marks p l) h = (refl, refl)
    go o (room p l s) h = (refl, refl)
    go o (made p l s) h = let z : ◌≡◌ {A = ℕ} 0 1 = cc in absurd (omega arith)

-- ---- what a call that is taken leaves

-- slip 8: "The count reported is the number of steps written;
pub reducer_written : (ws ms ls : List ℕ) (s : ℕ) → (reduction ws ms ls).answer ≡ Ok s → s ≡ length (steps_of ws)
reducer_written ws ms ls s h = (reducer_taken ws ms ls s h).count

-- without kind 9 among them it equals the marks at 0,
pub reducer_counts : (ws ms ls : List ℕ) (s : ℕ) → (reduction ws ms ls).answer ≡ Ok s → So (without_nine (steps_of ws)) → s ≡ zeros ws (reduction ws ms ls).marks
reducer_counts ws ms ls s h n = sym ((marks_after_lem ws ms ls s (reducer_taken ws ms ls s h)).2 n)

-- and otherwise steps number at most the marks at 0."
pub reducer_at_most : (ws ms ls : List ℕ) (s : ℕ) → (reduction ws ms ls).answer ≡ Ok s → s ≤ zeros ws (reduction ws ms ls).marks
reducer_at_most ws ms ls s h = (marks_after_lem ws ms ls s (reducer_taken ws ms ls s h)).1

-- Every set of atoms is a stable model of the program given exactly when it is one of the program as the reducer's marks leave it.
pub reducer_models : (ws ms ls : List ℕ) (s : ℕ) → (reduction ws ms ls).answer ≡ Ok s → (M : Atoms)
    → Stable (program_of ws) M ↔ Stable (program (get_or ws 0 0) (left (view ws (reduction ws ms ls).marks))) M
unfolding program_of
reducer_models ws ms ls s h M =
    let n = get_or ws 0 0 in
    let cs = (program_of ws).clauses in
    rw (marks_after_lem ws ms ls s (reducer_taken ws ms ls s h)).0
    (subst (λ ds. Stable (program n ds) M ↔ Stable (program n (left (leaves n (whole cs) (steps_of ws)))) M) (left_whole cs) (list_sound n (whole cs) (steps_of ws) M))

-- Any list of steps without kind 9 on a readable and guarded table keeps the stable models with choices in the context, read back.
use mathlib.Core.Path.{subst}
use mathlib.Core.Logic.{◌↔◌}
use mathlib.Core.Bool.{So}
use mathlib.Core.List.{List}
use Prim.Native.Nat.{ℕ}
use Rattle.semantics.specs.Programs.{Clause, Atoms}
use Rattle.rewriting.specs.Marked.{Marked, left}
use Rattle.rewriting.specs.Steps.{Step}
use Rattle.rewriting.specs.Runs.{leaves, without_nine}
use Rattle.shell_choices.specs.Stable.{Context, StableWith, StableIn}
use Rattle.shell_choices.specs.Translation.{restrict, lifted, Exact}
use Rattle.shell_choices.proofs.Below.{restrict_iff}
use Rattle.shell_choices.proofs.Exact.{reads_exact}
use Rattle.shell_guards.specs.Guards.{HeadsIn, clauses_below}
use Rattle.shell_guards.proofs.Guards.{Guarded}
use Rattle.shell_guards.proofs.Steps.{below_list}
use Rattle.shell_guards.proofs.Sound.{list_in}
use Rattle.shell_readback.specs.Readback.{StableRead, StableLeft}
use Rattle.shell_readback.proofs.Readable.{Readable, readable_below, numbered_in, numbered_in_lem, ReadableList, readable_left, reads}

-- the same sets above
pub exact_from : (n : ℕ) (A B C : Atoms → Type 0) → Exact n A B → ((N : Atoms) → A N ↔ C N) → Exact n C B
exact_from n A B C e g = record {
  into = λ M h. e.into M ((g M).1 h);
  onto = λ M h. let w = e.onto M h in (w.0, (g w.0).0 w.1, w.2);
  once = λ M N h k. e.once M N ((g M).1 h) ((g N).1 k);
}

-- are the same restricted
pub exact_same : (n : ℕ) (A B D : Atoms → Type 0) → Exact n A B → Exact n A D → (M : Atoms) → B M ↔ D M
exact_same n A B D e f M = (
  λ h. let w = e.onto M h in subst D w.2 (f.into w.0 w.1),
  λ h. let w = f.onto M h in subst B w.2 (e.into w.0 w.1),
)

-- a context that sees the atoms below n has the heads that it had
pub lifted_heads : (n : ℕ) (H : Atoms) (sat : Context) → HeadsIn H sat → HeadsIn H (lifted n sat)
lifted_heads n H sat hi M X sub f = hi (restrict n M) (restrict n X)
    (λ a h. let w = (restrict_iff n X a).0 h in (restrict_iff n M a).1 (w.0, sub a w.1))
    (λ a q h. let w = (restrict_iff n M a).0 h in (restrict_iff n X a).1 (w.0, f a q w.1))

-- The stable models of readable clauses without the guards are, restricted, those of what they read as, each once.
pub list_exact : (n top : ℕ) (ds : List Clause) → ReadableList n top ds → (sat : Context) → Exact n (StableIn top (clauses_below top ds) (lifted n sat)) (StableRead n top ds sat)
list_exact n top ds o sat = subst (λ ks. Exact n (StableIn top (clauses_below top ds) (lifted n sat)) (StableWith n (clauses_below n ds) ks sat)) (numbered_in_lem n top ds)
    (reads_exact n top (clauses_below top ds) (clauses_below n ds) (numbered_in n top ds) (reads n top ds o) sat)

-- so of a table
pub left_exact : (n top : ℕ) (P : Marked) → Readable n top P → (sat : Context) → Exact n (StableIn top (clauses_below top (left P)) (lifted n sat)) (StableLeft n top P sat)
left_exact n top P o sat = list_exact n top (left P) (readable_left n top P o) sat

pub readable_list : (n top m : ℕ) (P : Marked) (l : List Step) → So (without_nine l) → Readable n top P → Readable n top (leaves m P l)
readable_list n top m P l w = readable_below n top P (leaves m P l) (below_list m P l w)

-- Any list of steps without kind 9, at clauses, choices and guards alike, keeps what is read back.
pub readback_sound : (n top : ℕ) (H U : Atoms) (P : Marked) → Readable n top P → Guarded top H U P → (sat : Context) → HeadsIn H sat
    → (m : ℕ) (l : List Step) → So (without_nine l) → (M : Atoms) → StableLeft n top P sat M ↔ StableLeft n top (leaves m P l) sat M
readback_sound n top H U P o g sat hi m l w M = exact_same n
    (StableIn top (clauses_below top (left (leaves m P l))) (lifted n sat)) (StableLeft n top P sat) (StableLeft n top (leaves m P l) sat)
    (exact_from n (StableIn top (clauses_below top (left P)) (lifted n sat)) (StableLeft n top P sat) (StableIn top (clauses_below top (left (leaves m P l))) (lifted n sat))
    (left_exact n top P o sat) (list_in top H U (lifted n sat) (lifted_heads n H sat hi) m P l w g))
    (left_exact n top (leaves m P l) (readable_list n top m P l w o) sat) M

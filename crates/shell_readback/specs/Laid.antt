-- A table of clauses, choices and guards in any order; and one of clauses and choices alone.
use Rattle.std.specs.Prelude.{◌≡◌, false, List, ℕ, ◌≤◌, ◌<◌}
use Rattle.std.proofs.Math.Bool.{So}
use Rattle.semantics.specs.Lists.{◌∈◌}
use Rattle.semantics.specs.Programs.{Clause, Atoms}
use Rattle.rewriting.specs.Marked.{entry, whole}
use Rattle.shell_choices.specs.Translation.{Numbered, disjunction, OverClause, OverChoice}
use Rattle.shell_guards.specs.Guards.{guard_of, in_body, head_below}

-- A clause over n atoms; a choice's "atom | fresh <- body", whose fresh atom is below top; or a guard "h | fresh <-", whose fresh atom is not.
pub data ClauseForm (n top : ℕ) (c : Clause) : Type 0 where
  plain : OverClause n c → ClauseForm n top c
  choice : (i : Numbered) → c ≡ disjunction i → OverChoice n i.choice → n ≤ i.fresh → i.fresh < top → ClauseForm n top c
  guard : (h x : ℕ) → c ≡ guard_of h x → h < n → top ≤ x → ClauseForm n top c

-- Each clause is one of these, no two clauses have a fresh atom in common, and each atom of H that a body has is guarded.
pub record Laid (n top : ℕ) (H : Atoms) (ds : List Clause) : Type 0 where
  pub room : n ≤ top
  pub form : (c : Clause) → c ∈ ds → ClauseForm n top c
  pub once : (i j x : ℕ) → n ≤ x → x ∈ (entry (whole ds) i).clause.head → x ∈ (entry (whole ds) j).clause.head → i ≡ j
  pub guarded : (h : ℕ) → So (H h) → So (in_body ds h) → (x : ℕ) × (top ≤ x) × (guard_of h x ∈ ds)

-- The same with no guards and no context that asks for one: the table holds everything. It is for lists of the nine kinds.
pub record LaidAlone (n top : ℕ) (ds : List Clause) : Type 0 where
  pub laid : Laid n top (λ a. false) ds
  pub unguarded : (c : Clause) → c ∈ ds → So (head_below top c)

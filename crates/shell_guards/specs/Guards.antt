-- Rules that are led past the reducer are a context of which the possible head atoms are known; guards stand for it in the table.
use Rattle.std.specs.Prelude.{Bool, List, [], ◌∷◌, ◌++◌, ℕ, suc, ltb}
use Rattle.std.proofs.Math.Bool.{So}
use Rattle.semantics.specs.Lists.{any, all, keep, mem}
use Rattle.semantics.specs.Programs.{Clause, Atoms, Subset}
use Rattle.shell_choices.specs.Stable.{Context}

-- "Their head atoms, and atoms that may be set from outside" are all in H: where M satisfies the context, so does each subset of M that has all
-- of M's atoms of H. It is so of rules with heads in H and bodies that are monotone once M fixes their negative atoms.
abbrev pub HeadsIn : Atoms → Context → Type 0
HeadsIn H sat = (M X : Atoms) → Subset X M → ((a : ℕ) → So (H a) → So (M a) → So (X a)) → sat M M → sat M X

-- "each gets a clause in the table, `a | x.` with x fresh"
abbrev pub guard_of : ℕ → ℕ → Clause
guard_of h x = record { head = h ∷ x ∷ []; pos = []; neg = [] }

-- the guards of the atoms, with the fresh atoms x, x + 1, ..
unfoldable pub guards : ℕ → List ℕ → List Clause
guards x [] = []
guards x (h ∷ hs) = guard_of h x ∷ guards (suc x) hs

-- the clauses over n atoms, and the guards
unfoldable pub guarded : ℕ → List Clause → List ℕ → List Clause
unfolding guards
guarded n cs hs = cs ++ guards n hs

-- a body has the atom; one that no body has needs no guard
unfoldable pub in_body : List Clause → ℕ → Bool
in_body cs a = any (λ c. mem a (c.pos ++ c.neg)) cs

-- all head atoms are below n; a guard's are not
abbrev pub head_below : ℕ → Clause → Bool
head_below n c = all (λ a. ltb a n) c.head

-- the clauses without the guards
unfoldable pub clauses_below : ℕ → List Clause → List Clause
clauses_below n cs = keep (head_below n) cs

-- The target and the key of an eligible step are below the limits.
use mathlib.Core.Path.{◌≡◌, refl, subst}
use mathlib.Core.Bool.{Bool, true, false, not, cond, ◌&&◌, So}
use mathlib.Core.List.{List}
use Prim.Native.Nat.{ℕ, ◌<◌}
use native.Mathlib.Omega.{arith}
use lib.Dec.{eqb, ltb}
use borrow.Author.Tests.{ltb-true}
use lib.ListN.{get_or}
use Rattle.semantics.proofs.Tests.{and_iff}
use Rattle.rewriting.specs.Marked.{entry}
use Rattle.rewriting.specs.Steps.{Step, condition_holds, applies}
use Rattle.rewriting.specs.Reducer.{eligible}
use Rattle.rewriting.specs.Kinds.{uses_partner, uses_atom}
use Rattle.rewriting.proofs.Rows.{alone_atom}
use Rattle.rewriting.proofs.Left.{kept_lt}
use Rattle.rewriting.proofs.Sound.{applies_ask}
use Rattle.rewriting.proofs.Equal.{eligible_applies}
use Rattle.rewriting.proofs.Quiet.{key}
use Rattle.table.specs.Questions as Table
use Rattle.table.specs.View.{view}
use Rattle.table.proofs.Encoding.{passed_limits}
use Rattle.table.proofs.View.{length_view}

-- a target that has a step is one of the clauses
pub applied_lt : (ws ms : List ℕ) (u : Step) → So (applies (get_or ws 0 0) (view ws ms) u) → u.target < get_or ws 1 0
applied_lt ws ms u h = omega (arith, kept_lt (view ws ms) u.target (applies_ask (get_or ws 0 0) (view ws ms) u h).0, length_view ws ms)

pub target_lt : (ws ms : List ℕ) (u : Step) → So (eligible (get_or ws 0 0) (view ws ms) u) → u.target < get_or ws 1 0
target_lt ws ms u h = applied_lt ws ms u (eligible_applies (get_or ws 0 0) (view ws ms) u h)

-- so is its partner, and its atom is an atom of the program
pub key_lt : (ws ms : List ℕ) → Table.Passed ws → (u : Step) → So (eligible (get_or ws 0 0) (view ws ms) u) → key u < 2048
unfolding applies condition_holds
key_lt ws ms p u h = let w = simp and_iff at (eligible_applies (get_or ws 0 0) (view ws ms) u h) in go (uses_partner u.kind) (λ e. alone_atom u.kind e) w.1.0 w.1.1.0
  where
    partner : So ((entry (view ws ms) u.partner).kept && not (eqb u.partner u.target)) → u.partner < 2048
    partner q = omega (arith, kept_lt (view ws ms) u.partner ((and_iff (entry (view ws ms) u.partner).kept (not (eqb u.partner u.target))).0 q).0, length_view ws ms, (passed_limits ws p).few_clauses)

    atom : So (ltb u.atom (get_or ws 0 0)) → u.atom < 2048
    atom q = omega (arith, ltb-true u.atom (get_or ws 0 0) q, (passed_limits ws p).few_atoms)

    go : (b : Bool) → (b ≡ false → uses_atom u.kind ≡ true) → So (cond b ((entry (view ws ms) u.partner).kept && not (eqb u.partner u.target)) (eqb u.partner 0)) → So (cond (uses_atom u.kind) (ltb u.atom (get_or ws 0 0)) (eqb u.atom 0))
        → cond b u.partner u.atom < 2048
    go true f a b = partner a
    go false f a b = atom (subst (λ c. So (cond c (ltb u.atom (get_or ws 0 0)) (eqb u.atom 0))) (f refl) b)

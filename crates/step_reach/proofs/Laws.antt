-- Sets of atoms as bytes: what grows within every closed set, and that bytes which are within the reach and closed are the reach.
use mathlib.Core.Path.{◌≡◌, refl, subst, ◌∙◌}
use mathlib.Core.Bool.{false, So, false≢true}
use mathlib.Core.List.{List}
use Prim.Native.Nat.{ℕ, ◌≤◌}
use lib.Dec.{eqb}
use lib.ListN.{length, replicate, get_or-eq_default}
use Rattle.semantics.specs.Programs.{Atoms, Subset}
use Rattle.semantics.proofs.Tests.{so_ext}
use Rattle.rewriting.specs.Marked.{Marked, left}
use Rattle.rewriting.specs.Reach.{closed}
use Rattle.rewriting.specs.Reaches.{reach}
use Rattle.rewriting.proofs.Reach.{reach_is}
use Rattle.table.specs.View.{view}
use Rattle.table.proofs.Slices.{zero_at}
use Rattle.step_reach.specs.Bytes.{in_bytes, Grown, Reached}

pub grown_none : (P : Marked) (s : List ℕ) → Grown P s s
grown_none P s = record { within = λ T k h. h; same = refl }

pub grown_trans : {P : Marked} {s t u : List ℕ} → Grown P s t → Grown P t u → Grown P s u
grown_trans f g = record { within = λ T k h. g.within T k (f.within T k h); same = g.same ∙ f.same }

-- bytes that are all 0 hold no atom
pub none_in : (k a : ℕ) → ¬ So (in_bytes (replicate k 0) a)
none_in k a h = false≢true (subst (λ x. So (eqb x 1)) (zero_at k a) h)

-- what grew from nothing is within every closed set
pub grown_within : (ws ms : List ℕ) (k : ℕ) (s₀ s : List ℕ) → s₀ ≡ replicate k 0 → Grown (view ws ms) s₀ s → (T : Atoms) → So (closed T (left (view ws ms))) → Subset (in_bytes s) T
grown_within ws ms k s₀ s e g T c = g.within T c (rw e (λ b h. absurd (none_in k b h)))

-- and where it is closed it is the reach
pub reached_by : (ws ms s : List ℕ) → ((T : Atoms) → So (closed T (left (view ws ms))) → Subset (in_bytes s) T) → So (closed (in_bytes s) (left (view ws ms))) → Reached ws ms s
reached_by ws ms s w c = record {
  is = λ a. so_ext (in_bytes s a) (reach (left (view ws ms)) a)
      (w (reach (left (view ws ms))) (reach_is (left (view ws ms))).holds a)
      ((reach_is (left (view ws ms))).least (in_bytes s) c a);
}

-- of the same bytes
pub reached_as : {ws ms s s' : List ℕ} → s' ≡ s → Reached ws ms s → Reached ws ms s'
reached_as e r = rw e r

-- ---- bytes past the end, and bytes set to 0

pub is_out : (s : List ℕ) (a : ℕ) → length s ≤ a → in_bytes s a ≡ false
is_out s a h = rw (get_or-eq_default s 0 h)

-- The invariant of the flagged search: where a target's flag is 0 and a key is not fresh, no step of the kind with that target and key is eligible.
-- The key is what a step names beside its target: the partner, or the atom. Flags and fresh keys are given as functions of the number.
use mathlib.Core.Path.{◌≡◌, refl, ap, subst}
use mathlib.Core.Logic.{◌≢◌, by_cases}
use mathlib.Core.Bool.{cond, So}
use mathlib.Core.Option.{Option, none, some}
use Prim.Native.Nat.{ℕ, zero, suc, ◌<◌}
use native.Mathlib.Omega.{arith}
use native.Mathlib.Decide.{ℕ_discrete, dec_lt}
use lib.ListN.{length}
use Rattle.semantics.proofs.Tests.{so_false}
use Rattle.rewriting.specs.Marked.{Marked, entry}
use Rattle.rewriting.specs.Steps.{Step, step}
use Rattle.rewriting.specs.Kinds.{Kind, uses_partner, uses_atom}
use Rattle.rewriting.specs.Reducer.{eligible}
use Rattle.rewriting.specs.Search.{partner_atom, step_with, least, given, first_atom, first_partner}
use Rattle.rewriting.proofs.Search.{no_step}

-- ---- the search's answer

pub least_none : {B : Type 0} (k : ℕ) (f : ℕ → Option B) → ((i : ℕ) → i < k → f i ≡ none) → least k f ≡ none
unfolding least
least_none zero f h = refl
least_none (suc k) f h = rw (least_none k f (λ i l. h i (omega arith))) (h k (omega arith))

pub least_some : {B : Type 0} (k : ℕ) (f : ℕ → Option B) (b : B) (i : ℕ) → i < k → f i ≡ some b → ((j : ℕ) → j < i → f j ≡ none) → least k f ≡ some b
unfolding least
least_some {B = B} zero f b i l e h = elim l [ ]
least_some (suc k) f b i l e h = by_cases (dec_lt i k) (λ x. rw (least_some k f b i x e h))
    (λ x. let d : i ≡ k = omega arith in rw (least_none k f (λ j y. h j (omega arith))) (subst (λ j. f j ≡ some b) d e))

-- ---- the invariant

abbrev pub key : Step → ℕ
key u = cond (uses_partner u.kind) u.partner u.atom

-- the key of a step with a partner is the partner
pub key_with : (P : Marked) (k : Kind) (t p : ℕ) → So (uses_partner k) → key (step_with P k t p) ≡ p
key_with P k t p u = ap (λ b. cond b p (partner_atom k (entry P p).clause)) u

-- nothing that is 0 in the second was more in the first
abbrev pub Raised : (ℕ → ℕ) → (ℕ → ℕ) → Type 0
Raised f g = (i : ℕ) → g i ≡ 0 → f i ≡ 0

pub record Quiet (n : ℕ) (P : Marked) (k : Kind) (may fresh : ℕ → ℕ) : Type 0 where
  pub calm : (u : Step) → u.kind ≡ k → may u.target ≡ 0 → fresh (key u) ≡ 0 → ¬ So (eligible n P u)

-- no key is fresh
abbrev pub stale : ℕ → ℕ
stale i = 0

module _ (n : ℕ) (P : Marked) (k : Kind) (may fresh : ℕ → ℕ) where
  -- Every target flagged.
  pub quiet_all : ((u : Step) → So (eligible n P u) → may u.target ≢ 0) → Quiet n P k may fresh
  quiet_all f = record { calm = λ u e m x h. f u h m }

  module _ (q : Quiet n P k may fresh) where
    pub quiet_more : (may' fresh' : ℕ → ℕ) → Raised may may' → Raised fresh fresh' → Quiet n P k may' fresh'
    quiet_more may' fresh' f g = record { calm = λ u e m x. q.calm u e (f u.target m) (g (key u) x) }

    -- A key spread: every target that has a step with it is flagged.
    pub quiet_spread : (may' fresh' : ℕ → ℕ) (x : ℕ) → Raised may may' → ((i : ℕ) → i ≢ x → fresh' i ≡ 0 → fresh i ≡ 0)
        → ((u : Step) → u.kind ≡ k → key u ≡ x → So (eligible n P u) → may' u.target ≢ 0) → Quiet n P k may' fresh'
    quiet_spread may' fresh' x f g o = record {
      calm = λ u e m y a. by_cases (ℕ_discrete (key u) x) (λ d. o u e d a m)
          (λ d. q.calm u e (f u.target m) (g (key u) d y) a);
    }

    -- A target with no step: its flag is cleared.
    pub quiet_clear : (may' : ℕ → ℕ) (t : ℕ) → ((i : ℕ) → i ≢ t → may' i ≡ 0 → may i ≡ 0) → first_partner n P k t ≡ none → Quiet n P k may' fresh
    quiet_clear may' t f o = record {
      calm = λ u e m y a. by_cases (ℕ_discrete u.target t)
          (λ d. no_step n P k t o u.partner u.atom (subst (λ i. So (eligible n P (step k i u.partner u.atom))) d (subst (λ j. So (eligible n P (step j u.target u.partner u.atom))) e a)))
          (λ d. q.calm u e (f u.target d m) y a);
    }

    -- Nothing fresh: a target without a flag has no step.
    pub quiet_target : ((x : ℕ) → fresh x ≡ 0) → (t : ℕ) → may t ≡ 0 → first_partner n P k t ≡ none
    unfolding first_partner first_atom
    quiet_target f t m = least_none (cond (uses_partner k) (length P) 1) (λ p. first_atom n P k t p)
        (λ p l. least_none (cond (uses_atom k) n 1) (λ a. given (eligible n P (step k t p a)) (step k t p a))
        (λ a i. ap (λ b. given b (step k t p a)) (so_false _ (q.calm (step k t p a) refl m (f (key (step k t p a)))))))

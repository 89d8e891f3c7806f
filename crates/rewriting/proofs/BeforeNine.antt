-- Lists up to their first step of kind 9: they have none, are accepted where the whole list is, and of the reducer's list they are what it was before slip 8 of document 02.
use mathlib.Core.Path.{◌≡◌, refl, ap}
use mathlib.Core.Logic.{by_cases}
use mathlib.Core.Bool.{Bool, true, false, cond, ◌&&◌, So}
use mathlib.Core.List.{List, [], ◌∷◌}
use Prim.Native.Nat.{ℕ, ◌<◌}
use native.Mathlib.Omega.{arith}
use Rattle.semantics.proofs.Tests.{and_iff, so_dec}
use Rattle.rewriting.specs.Marked.{Marked}
use Rattle.rewriting.specs.Steps.{Step, applies, effect}
use Rattle.rewriting.specs.Kinds.{excluded, number, on_target}
use Rattle.rewriting.specs.Runs.{accepted, without_nine, before_nine}
use Rattle.rewriting.specs.Reducer.{less_kind, passed_over, eligible, IsFirst, Greedy, stop, take}
use Rattle.rewriting.proofs.Rows.{target_bounds, not_on_target}
use Rattle.rewriting.proofs.Equal.{eligible_iff, mirror_eligible}

pub without_nine_lem : (s : Step) (l : List Step) → So (without_nine (s ∷ l)) → So (on_target s.kind) × So (without_nine l)
without_nine_lem s l h = (and_iff (on_target s.kind) (without_nine l)).0 h

-- a list that is cut before its first step of kind 9 has none
pub before_nine_lem : (l : List Step) → So (without_nine (before_nine l))
unfolding before_nine
before_nine_lem [] = refl
before_nine_lem (s ∷ l) = go (on_target s.kind) refl (before_nine_lem l)
  where
    go : (t : Bool) → on_target s.kind ≡ t → So (without_nine (before_nine l)) → So (without_nine (cond t (s ∷ before_nine l) []))
    go true e r = (and_iff (on_target s.kind) (without_nine (before_nine l))).1 (e, r)
    go false e r = refl

-- and is accepted where the whole list is
pub cut_accepted : (m : ℕ) (P : Marked) (l : List Step) → So (accepted m P l) → So (accepted m P (before_nine l))
unfolding accepted before_nine
cut_accepted m P [] h = refl
cut_accepted m P (s ∷ l) h = let w = (and_iff (applies m P s) (accepted m (effect P s) l)).0 h in go (on_target s.kind) w.0 (cut_accepted m (effect P s) l w.1)
  where
    go : (t : Bool) → So (applies m P s) → So (accepted m (effect P s) (before_nine l)) → So (accepted m P (cond t (s ∷ before_nine l) []))
    go true e r = (and_iff (applies m P s) (accepted m (effect P s) (before_nine l))).1 (e, r)
    go false e r = refl

-- ---- the reducer's list

-- Where the reducer takes a step of kind 9, no step of kinds 1 to 8 applies.
pub nine_last : (n : ℕ) (P : Marked) (s : Step) → IsFirst (eligible n) P s → s.kind ≡ excluded → (u : Step) → So (on_target u.kind) → ¬ So (applies n P u)
nine_last n P s f k u o h = by_cases (so_dec (passed_over P u))
    (λ p. f.smallest _ (less_kind before) (mirror_eligible n P u h p))
    (λ p. f.smallest u (less_kind before) ((eligible_iff P u n).1 (h, p)))
  where
    before : number u.kind < number s.kind
    before = omega (arith, target_bounds u.kind o, ap number k)

-- what the reducer chose among before the slip
unfoldable pub eligible_of_eight : ℕ → Marked → Step → Bool
unfolding eligible
eligible_of_eight n P s = on_target s.kind && eligible n P s

-- The list that takes the smallest step of kinds 1 to 8 each time, until none is left, is the reducer's list up to its first step of kind 9.
pub before_greedy : (n : ℕ) {P : Marked} {l : List Step} → Greedy (eligible n) P l → Greedy (eligible_of_eight n) P (before_nine l)
unfolding eligible_of_eight before_nine
before_greedy n (stop {P = P} h) = stop (λ u e. h u ((and_iff (on_target u.kind) (eligible n P u)).0 e).1)
before_greedy n (take {P = P} {s = s} {l = l} f g) = go (on_target s.kind) refl (before_greedy n g)
  where
    go : (b : Bool) → on_target s.kind ≡ b → Greedy (eligible_of_eight n) (effect P s) (before_nine l) → Greedy (eligible_of_eight n) P (cond b (s ∷ before_nine l) [])
    go true e r = take (record { applicable = (and_iff (on_target s.kind) (eligible n P s)).1 (e, f.applicable); smallest = λ u l h. f.smallest u l ((and_iff (on_target u.kind) (eligible n P u)).0 h).1 }) r
    go false e r = stop (λ u h. let w = (and_iff (on_target u.kind) (eligible n P u)).0 h in f.smallest u (less_kind (omega (arith, target_bounds u.kind w.0, ap number (not_on_target s.kind e)))) w.1)

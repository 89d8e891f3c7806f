-- Each step keeps the state.
use mathlib.Core.Path.{◌≡◌, sym, ap, subst, ◌∙◌}
use mathlib.Core.Logic.{◌≢◌, ◌⊎◌, ⊎_elim}
use mathlib.Core.Bool.{So}
use mathlib.Core.List.{List}
use Prim.Native.Nat.{ℕ, ◌+◌}
use native.Mathlib.Omega.{arith}
use lib.ListN.{get_or}
use Rattle.semantics.specs.Lists.{◌∈◌}
use Rattle.semantics.proofs.Tests.{so_ext}
use Rattle.semantics.proofs.Models.{All}
use Rattle.rewriting.specs.Marked.{Marked, entry, left}
use Rattle.rewriting.specs.Reaches.{reach}
use Rattle.rewriting.specs.Steps.{Step, applies, effect}
use Rattle.rewriting.specs.Reducer.{eligible}
use Rattle.rewriting.specs.Kinds.{Kind, number, on_target}
use Rattle.rewriting.specs.Uses.{drops}
use Rattle.rewriting.proofs.Effect.{effect_below, reach_less, idle_reach}
use Rattle.rewriting.proofs.Reopen.{Opens, open_partner, open_head, open_reach, opened, same_head_reach, SameHead}
use Rattle.rewriting.proofs.Quiet.{key}
use Rattle.table.specs.View.{view}
use Rattle.table.specs.Effects.{marks_after}
use Rattle.table.proofs.View.{view_after, length_after}
use Rattle.step_parts.specs.Parts.{Ready}
use Rattle.step_conditions.specs.Known.{Tallied}
use Rattle.step_conditions.proofs.After.{heads_stay, heads_lowered, reached_stays}
use Rattle.search_flags.specs.Flags.{flag_at}
use Rattle.search_keys.specs.State.{State, Flagged}
use Rattle.search_openings.specs.Opened.{Opened, PartnerFresh, AllFresh}
use Rattle.search_openings.proofs.Carries.{Leaves, partner_key, atom_key, state_left}

module _ (ws ms index hs rs flags : List ℕ) (z : State ws ms index hs rs flags) (s : Step) (h : So (applies (get_or ws 0 0) (view ws ms) s)) (on : So (on_target s.kind)) where
  abbrev n : ℕ
  n = get_or ws 0 0

  abbrev P : Marked
  P = view ws ms

  abbrev after : List ℕ
  after = marks_after ws ms s

  is_effect : view ws after ≡ effect P s
  is_effect = view_after ws ms z.ready.placed.passed z.ready.marks n s h

  pub ready_after : Ready ws after index
  ready_after = record { placed = z.ready.placed; marks = omega (arith, z.ready.marks, length_after ws ms s) }

  module _ (flags' : List ℕ) (o : Opened flags flags') where
    leaves : ((k : Kind) → Flagged k flags' → (u : Step) → u.kind ≡ k → Opens P s u → flag_at flags' (8 + number k) (key u) ≢ 0) → Leaves ws ms after flags flags' (Opens P s)
    leaves f = record {
      opened = λ u j v. opened n P s h on u j (subst (λ R. So (eligible n R u)) is_effect v);
      kept = λ j k. (effect_below n P s h on j).kept (subst (λ R. So (entry R j).kept) is_effect k);
      raised = o;
      fresh = f;
    }

    reach_up : flag_at flags' 0 0 ≡ 0 → flag_at flags 0 0 ≡ 0
    reach_up e = o.grown 0 0 (omega arith) (omega arith) e

    -- A drop: the clause is a fresh key of the kinds with a partner.
    pub state_dropped : So (drops s.kind) → PartnerFresh flags' s.target → State ws after index hs rs flags'
    state_dropped d f = state_left ws ms index hs rs flags z after flags' (Opens P s) (leaves fresh) hs ready_after.marks
        (heads_stay ws ms z.ready.placed.passed z.ready.marks n s h d hs z.counted) z.atoms
        (λ e. reached_stays ws ms z.ready.placed.passed z.ready.marks n s h d rs (z.reached (reach_up e)))
      where
        fresh : (k : Kind) → Flagged k flags' → (u : Step) → u.kind ≡ k → Opens P s u → flag_at flags' (8 + number k) (key u) ≢ 0
        fresh k g u e (open_partner y p q r) = partner_key flags' k u e p (subst (PartnerFresh flags') (sym q) f)
        fresh k g u e (open_head y a m i) = absurd (y d)
        fresh k g u e (open_reach y q a t) = absurd (y d)

    -- A deletion: the atoms of its head are fresh keys of kinds 4 and 6, and the reach is known only where it is as it was.
    pub state_deleted : (hs' : List ℕ) → ¬ So (drops s.kind) → Tallied (entry P s.target).clause.head hs' hs
        → (flag_at flags' 0 0 ≡ 0 → (¬ All (reach (left P)) (entry P s.target).clause.pos) ⊎ SameHead P s)
        → AllFresh flags' (entry (view ws after) s.target).clause.head → State ws after index hs' rs flags'
    state_deleted hs' d c t f = state_left ws ms index hs rs flags z after flags' (Opens P s) (leaves fresh) hs' ready_after.marks
        (heads_lowered ws ms z.ready.placed.passed z.ready.marks n s on h d hs hs' z.counted c) (omega (arith, z.atoms, c.same))
        (λ e. record { is = λ a. (z.reached (reach_up e)).is a ∙ reach_same (t e) a })
      where
        reach_same : ((¬ All (reach (left P)) (entry P s.target).clause.pos) ⊎ SameHead P s) → (a : ℕ) → reach (left P) a ≡ reach (left (view ws after)) a
        reach_same x a = so_ext (reach (left P) a) (reach (left (effect P s)) a)
            (⊎_elim (λ v. (idle_reach n P s h on d v a).0) (λ v. same_head_reach n P s h on v a) x) (reach_less n P s h on d a) ∙ ap (λ R. reach (left R) a) (sym is_effect)

        in_head : (a : ℕ) → a ∈ (entry P s.target).clause.head → a ∈ (entry (view ws after) s.target).clause.head
        in_head a m = subst (λ R. a ∈ (entry R s.target).clause.head) (sym is_effect) (subst (λ l. a ∈ l) (sym (effect_below n P s h on s.target).head) m)

        fresh : (k : Kind) → Flagged k flags' → (u : Step) → u.kind ≡ k → Opens P s u → flag_at flags' (8 + number k) (key u) ≢ 0
        fresh k g u e (open_partner y p q w) = absurd (d y)
        fresh k g u e (open_head y a m i) = atom_key flags' k u e a (f u.atom (in_head u.atom m))
        fresh k g u e (open_reach y q a w) = absurd (⊎_elim (λ v. v a) w (t (g.1 (sym e ∙ q))))

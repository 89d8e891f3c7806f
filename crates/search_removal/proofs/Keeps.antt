-- A step of kind 9 keeps the state, where what it opens is flagged and the heads are counted.
use mathlib.Core.Path.{◌≡◌, sym, ap, subst, ◌∙◌}
use mathlib.Core.Logic.{◌≢◌, inl, inr}
use mathlib.Core.Bool.{So}
use mathlib.Core.List.{List}
use Prim.Native.Nat.{ℕ, ◌+◌, ◌≤◌, ◌<◌}
use native.Mathlib.Omega.{arith}
use lib.ListN.{length, get_or}
use Rattle.semantics.specs.Lists.{◌∈◌}
use Rattle.rewriting.specs.Marked.{Marked, entry}
use Rattle.rewriting.specs.Steps.{Step}
use Rattle.rewriting.specs.Kinds.{Kind, number}
use Rattle.rewriting.specs.Reducer.{eligible}
use Rattle.rewriting.specs.Exclusion.{lacking_of, removal}
use Rattle.rewriting.proofs.Left.{kept_lt}
use Rattle.rewriting.proofs.Exclusion.{entry_removal, lacks, goes}
use Rattle.rewriting.proofs.ReopenNine.{OpensWithout, open_partner, open_head, open_reach, opened_removal}
use Rattle.rewriting.proofs.Quiet.{key}
use Rattle.table.specs.View.{view}
use Rattle.table.specs.Clearing.{marks_without}
use Rattle.table.proofs.Clearing.{view_without}
use Rattle.table.proofs.Cleared.{length_without_marks}
use Rattle.table.proofs.Encoding.{passed_limits}
use Rattle.table.proofs.Parts.{view_straight}
use Rattle.table.proofs.View.{length_view}
use Rattle.step_parts.specs.declared.Part.TheVariants.{Head, Pos, Neg}
use Rattle.step_parts.proofs.Index.{kept_stands}
use Rattle.step_conditions.specs.Known.{Heads}
use Rattle.search_flags.specs.Flags.{flag_at}
use Rattle.search_keys.specs.State.{State, Flagged}
use Rattle.search_openings.specs.Opened.{Opened, AtomFresh}
use Rattle.search_openings.proofs.Carries.{partner_key, atom_key, state_left}
use Rattle.search_removal.specs.Removed.{RemovalOpen}

module _ (ws ms index hs rs flags : List ℕ) (z : State ws ms index hs rs flags) (a : ℕ) (ms' flags' : List ℕ) (q : ms' ≡ marks_without ws ms a) (o : Opened flags flags') (r : RemovalOpen ws (view ws ms') flags' a) where
  abbrev P : Marked
  P = view ws ms

  is_removal : view ws ms' ≡ removal a P
  is_removal = ap (view ws) q ∙ view_without ws ms a z.ready.placed.passed z.ready.marks

  is_lacking : (t : ℕ) → entry (view ws ms') t ≡ lacking_of a (entry P t)
  is_lacking t = ap (λ R. entry R t) is_removal ∙ entry_removal a P t

  low : (t : ℕ) → So (entry P t).kept → t < get_or ws 1 0
  low t k = omega (arith, kept_lt P t k, length_view ws ms)

  -- what is opened has a fresh key
  fresh : (k : Kind) → Flagged k flags' → (u : Step) → u.kind ≡ k → OpensWithout P a u → flag_at flags' (8 + number k) (key u) ≢ 0
  fresh k g u e (open_partner p w (inl m)) = let (j, st, _) = kept_stands ws ms Head a u.partner (low u.partner w) m in
      partner_key flags' k u e p ((r.parts Head).each u.partner j st)
  fresh k g u e (open_partner p w (inr m)) = let (j, st, _) = kept_stands ws ms Neg a u.partner (low u.partner w) m in
      partner_key flags' k u e p ((r.parts Neg).each u.partner j st)
  fresh k g u e (open_head p t w m (inl d)) = atom_key flags' k u e p (subst (AtomFresh flags') (sym d)
      (r.atom (omega (arith, d, (view_straight ws ms z.ready.placed.passed t).head_below u.atom m, (passed_limits ws z.ready.placed.passed).few_atoms))))
  fresh k g u e (open_head p t w m (inr b)) = let (j, st, _) = kept_stands ws ms Pos a t (low t w) b in
      atom_key flags' k u e p ((r.parts Pos).each t j st u.atom (subst (λ c. u.atom ∈ c.clause.head) (sym (is_lacking t ∙ goes a (entry P t) w b)) m))
  fresh k g u e (open_reach d) = absurd (r.reach (g.1 (sym e ∙ d)))

  pub state_removed : (hs' : List ℕ) → Heads ws ms' hs' → get_or ws 0 0 ≤ length hs' → State ws ms' index hs' rs flags'
  state_removed hs' c n = state_left ws ms index hs rs flags z ms' flags' (OpensWithout P a)
      (record {
        opened = λ u j v. opened_removal (get_or ws 0 0) P a u j (subst (λ R. So (eligible (get_or ws 0 0) R u)) is_removal v);
        kept = λ t k. (lacks a (entry P t) (subst (λ d. So d.kept) (is_lacking t) k)).kept;
        raised = o;
        fresh = fresh;
      })
      hs' (omega (arith, z.ready.marks, ap length q, length_without_marks ws ms a)) c n (λ e. absurd (r.reach e))

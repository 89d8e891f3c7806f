-- What is flagged after a drop and after a deletion.
use mathlib.Core.Path.{◌≡◌, refl, sym, subst, ◌∙◌}
use mathlib.Core.Logic.{◌≢◌, ◌⊎◌, inl, inr, ⊎_elim}
use mathlib.Core.Bool.{true, false, So}
use mathlib.Core.List.Memᴰ
use mathlib.Core.List.{List, [], ◌∷◌}
use Prim.Native.Nat.{ℕ, ◌≤◌, ◌<◌}
use native.Mathlib.Omega.{arith}
use lib.ListN.{get_or}
use Rattle.semantics.specs.Lists.{◌∈◌, all, within}
use Rattle.semantics.proofs.Tests.{not_so, all_iff, within_iff}
use Rattle.rewriting.specs.Marked.{Marked, entry}
use Rattle.rewriting.proofs.Effect.{partner_asked}
use Rattle.rewriting.proofs.Reopen.{SameHead}
use Rattle.rewriting.proofs.Left.{kept_lt}
use Rattle.table.proofs.View.{length_view}
use Rattle.step_reach.specs.Bytes.{in_bytes, Reached}
use Rattle.rewriting.specs.Steps.{applies, Step}
use Rattle.rewriting.specs.declared.Kind.TheVariants.{Subsumed as subsumed}
use Rattle.rewriting.specs.Kinds.{uses_partner}
use Rattle.table.specs.View.{view}
use Rattle.table.specs.Questions.{Passed}
use Rattle.table.proofs.Encoding.{passed_limits}
use Rattle.table.proofs.Parts.{view_straight}
use Rattle.search_flags.specs.Flags.{flag_at, Raising}
use Rattle.search_openings.specs.Opened.{Opened, AtomFresh, AllFresh, Lost}

-- ---- rows

pub opened_by : (flags flags' : List ℕ) (row top : ℕ) → Raising flags flags' row top → (row ≡ 0) ⊎ (9 ≤ row) → Opened flags flags'
opened_by flags flags' row top g o = record { long = g.long; grown = g.grown; lower = g.lower; rows = λ m w. g.rows m (λ a b. ⊎_elim (λ x. absurd (omega arith)) (λ x. absurd (omega arith)) o) w; more = g.more; rest = g.rest }

pub opened_none : (flags : List ℕ) → Opened flags flags
opened_none flags = record { long = refl; grown = λ r i a b e. e; lower = λ r i a b f. omega arith; rows = λ m w. w; more = λ i l. omega arith; rest = λ i l. refl }

pub opened_more : (one two three : List ℕ) → Opened one two → Opened two three → Opened one three
opened_more one two three p q = record { long = q.long ∙ p.long; grown = λ r i a b e. p.grown r i a b (q.grown r i a b e); lower = λ r i a b f. let s = p.lower r i a b f in let t = q.lower r i a b (λ e. f (p.grown r i a b e)) in omega arith; rows = λ m w. q.rows m (p.rows m w); more = λ i l. let s = p.more i l in let t = q.more i l in omega arith; rest = λ i l. q.rest i l ∙ p.rest i l }

pub fresh_more : (flags flags' : List ℕ) (a : ℕ) → a < 2048 → Opened flags flags' → AtomFresh flags a → AtomFresh flags' a
fresh_more flags flags' a l o f = record { no_head = λ e. f.no_head (o.grown 12 a (omega arith) l e); failure = λ e. f.failure (o.grown 14 a (omega arith) l e) }

-- ---- the atoms of a head, one after the other

-- the atoms of l that are not in the rest are done
pub record Opening (flags flags' l rest : List ℕ) : Type 0 where
  pub opened : Opened flags flags'
  pub below : (a : ℕ) → a ∈ l → a < 2048
  pub inside : (a : ℕ) → a ∈ rest → a ∈ l
  pub each : (a : ℕ) → a ∈ l → (a ∈ rest) ⊎ AtomFresh flags' a

pub opening_none : (ws ms flags : List ℕ) (t : ℕ) → Passed ws → Opening flags flags (entry (view ws ms) t).clause.head (entry (view ws ms) t).clause.head
opening_none ws ms flags t p = record {
  opened = opened_none flags;
  below = λ a m. omega (arith, (view_straight ws ms p t).head_below a m, (passed_limits ws p).few_atoms);
  inside = λ a m. m;
  each = λ a m. inl m;
}

module _ (flags flags' l rest : List ℕ) (b : Opening flags flags' l rest) (a : ℕ) (later : List ℕ) (e : rest ≡ a ∷ later) where
  pub opening_first : a < 2048
  opening_first = b.below a (b.inside a (subst (λ xs. a ∈ xs) (sym e) (Memᴰ.head refl)))

  pub opening_on : (flags'' : List ℕ) → Opened flags' flags'' → AtomFresh flags'' a → Opening flags flags'' l later
  opening_on flags'' o f = record {
    opened = opened_more flags flags' flags'' b.opened o;
    below = b.below;
    inside = λ x m. b.inside x (subst (λ xs. x ∈ xs) (sym e) (Memᴰ.tail m));
    each = λ x m. ⊎_elim
        (λ y. ⊎_elim (λ q. inr (subst (AtomFresh flags'') (sym q) f)) inl (Memᴰ.cases_cons (subst (λ xs. x ∈ xs) e y)))
        (λ y. inr (fresh_more flags' flags'' x (b.below x m) o y)) (b.each x m);
  }

pub opening_all : (flags flags' l rest : List ℕ) → Opening flags flags' l rest → rest ≡ [] → Opened flags flags' × AllFresh flags' l
opening_all flags flags' l rest b e = (b.opened, λ a m. ⊎_elim (λ k. absurd (Memᴰ.not-nil (subst (λ xs. a ∈ xs) e k))) (λ k. k) (b.each a m))

-- ---- the reach after a deletion

module _ (ws ms rs flags : List ℕ) (s : Step) (reached : flag_at flags 0 0 ≡ 0 → Reached ws ms rs) where
  pub lost_idle : false ≡ all (in_bytes rs) (entry (view ws ms) s.target).clause.pos → Lost ws ms flags flags s
  lost_idle e = record { opened = opened_none flags; keeps = λ k. inl (λ g. not_so (sym e) ((all_iff (in_bytes rs) (entry (view ws ms) s.target).clause.pos).1 (λ a m. (reached k).is a ∙ g a m))) }

  pub lost_same_head : SameHead (view ws ms) s → Lost ws ms flags flags s
  lost_same_head t = record { opened = opened_none flags; keeps = λ _. inr t }

  pub lost_all : (flags' : List ℕ) → Raising flags flags' 0 1 → flag_at flags' 0 0 ≢ 0 → Lost ws ms flags flags' s
  lost_all flags' g f = record { opened = opened_by flags flags' 0 1 g (inl refl); keeps = λ e. absurd (f e) }

pub same_head_by : (P : Marked) (s : Step) → s.kind ≡ subsumed → within (entry P s.target).clause.head (entry P s.partner).clause.head ≡ true → SameHead P s
same_head_by P s e w = (e, (within_iff _ _).0 w)

pub partner_lt : (ws ms : List ℕ) (s : Step) → s.kind ≡ subsumed → So (applies (get_or ws 0 0) (view ws ms) s) → s.partner < get_or ws 1 0
partner_lt ws ms s e h = omega (arith, kept_lt (view ws ms) s.partner (partner_asked (get_or ws 0 0) (view ws ms) s h (subst (λ k. So (uses_partner k)) (sym e) refl)).0, length_view ws ms)

-- The kinds with a partner: what a test by stamps says.
use mathlib.Core.Path.{◌≡◌, refl, sym, ap, ◌∙◌}
use mathlib.Core.Logic.{◌≢◌}
use mathlib.Core.Bool.{Bool, true, false, not, ◌&&◌, So}
use mathlib.Core.List.Memᴰ
use mathlib.Core.List.{List, [], ◌∷◌}
use Prim.Native.Nat.{ℕ, ◌<◌}
use native.Mathlib.Omega.{arith}
use lib.Dec.{eqb}
use lib.ListN.{get_or, replicate}
use Rattle.semantics.specs.Lists.{◌∈◌, all, mem, single}
use Rattle.semantics.specs.Programs.{Clause}
use borrow.Author.Tests.{eq-eqb}
use Rattle.rewriting.specs.Marked.{entry}
use Rattle.rewriting.specs.Steps.{Step, fact, atom_known, condition, condition_holds, applies}
use Rattle.rewriting.specs.Reducer.{passed_over, eligible}
use Rattle.rewriting.specs.Search.{step_with}
use Rattle.rewriting.specs.Kinds.{Kind, success, blocked, subsumed, uses_partner}
use Rattle.rewriting.proofs.Left.{kept_lt}
use Rattle.rewriting.proofs.Equal.{eligible_not, eligible_rest}
use Rattle.table.specs.Questions.{Passed}
use Rattle.table.specs.View.{view}
use Rattle.table.proofs.Encoding.{passed_limits}
use Rattle.table.proofs.Parts.{view_straight}
use Rattle.table.proofs.View.{length_view}
use Rattle.search_partners.specs.Stamps.{stamped, is_stamped, all_stamped, Stamps}
use Rattle.search_partners.proofs.Stamps.{all_same, stamps_of}
use Rattle.step_kinds.specs.Kinds.{PartnerKind}
use Rattle.step_kinds.proofs.Applies.{with_known, same_applies, gone_applies, other_applies}

-- ---- atoms are below 1,024

module _ (ws ms : List ℕ) (p : Passed ws) (i a : ℕ) where
  abbrev the : Clause
  the = (entry (view ws ms) i).clause

  pub head_below_lem : a ∈ the.head → a < 1024
  head_below_lem m = omega (arith, (view_straight ws ms p i).head_below a m, (passed_limits ws p).few_atoms)

  pub pos_below_lem : a ∈ the.pos → a < 1024
  pos_below_lem m = omega (arith, (view_straight ws ms p i).pos_below a m, (passed_limits ws p).few_atoms)

  pub neg_below_lem : a ∈ the.neg → a < 1024
  neg_below_lem m = omega (arith, (view_straight ws ms p i).neg_below a m, (passed_limits ws p).few_atoms)

-- so 15 is answered yes where the partner settles the atom
pub settled_known : (ws ms : List ℕ) → Passed ws → (k : Kind) → So (uses_partner k) → (t p : ℕ) → So (condition_holds (view ws ms) (step_with (view ws ms) k t p)) → So (atom_known (get_or ws 0 0) (step_with (view ws ms) k t p))
settled_known ws ms ok k u t p = with_known (get_or ws 0 0) (view ws ms) k t p u (view_straight ws ms ok p).head_below

-- ---- a test by stamps is the kind's condition

-- the one atom of a list, by its name
single_named : (f g : ℕ → Bool) (l : List ℕ) → ((a : ℕ) → a ∈ l → f a ≡ g a) → single f l ≡ (single (eqb (get_or l 0 0)) l && g (get_or l 0 0))
single_named f g [] h = refl
single_named f g (b ∷ []) h = h b (Memᴰ.head refl) ∙ ap (λ x. x && g b) (sym (eq-eqb b b refl))
single_named f g (b ∷ c ∷ l) h = refl

module _ (ws ms : List ℕ) (ok : Passed ws) (t p : ℕ) (st : List ℕ) (s : Stamps (entry (view ws ms) t).clause st) where
  abbrev target : Clause
  target = (entry (view ws ms) t).clause

  abbrev partner : Clause
  partner = (entry (view ws ms) p).clause

  abbrev Cond : Kind → Bool
  Cond k = condition_holds (view ws ms) (step_with (view ws ms) k t p)

  pub fit_success : (fact partner && single (is_stamped st 1024) partner.head) ≡ Cond success
  unfolding condition condition_holds
  fit_success = ap (λ b. fact partner && b) (single_named (is_stamped st 1024) (λ b. mem b target.pos) partner.head (λ a m. s.pos a (head_below_lem ws ms ok p a m)))

  pub fit_blocked : (fact partner && all (is_stamped st 2048) partner.head) ≡ Cond blocked
  unfolding condition condition_holds
  fit_blocked = ap (λ b. fact partner && b) (all_same (is_stamped st 2048) (λ b. mem b target.neg) partner.head (λ a m. s.neg a (head_below_lem ws ms ok p a m)))

  pub fit_subsumed : all_stamped st partner ≡ Cond subsumed
  unfolding condition condition_holds
  fit_subsumed = rw (
    all_same (is_stamped st 0) (λ b. mem b target.head) partner.head (λ a m. s.head a (head_below_lem ws ms ok p a m)),
    all_same (is_stamped st 1024) (λ b. mem b target.pos) partner.pos (λ a m. s.pos a (pos_below_lem ws ms ok p a m)),
    all_same (is_stamped st 2048) (λ b. mem b target.neg) partner.neg (λ a m. s.neg a (neg_below_lem ws ms ok p a m)),
  )

-- kinds 3 and 5 ask for a fact, and of its head for r
pub fits_not : (f r c : Bool) → (f && r) ≡ c → r ≡ false → false ≡ c
fits_not true r c e d = sym d ∙ e
fits_not false r c e d = e

pub fits_fact : (f r c : Bool) → (f && r) ≡ c → r ≡ true → f ≡ c
fits_fact true r c e d = sym d ∙ e
fits_fact false r c e d = e

-- ---- the only atom of a head

pub clause_stamps : (ws ms : List ℕ) → Passed ws → (t : ℕ) → let c = (entry (view ws ms) t).clause in
    Stamps c (stamped (stamped (stamped (replicate 3072 0) 0 c.head) 1024 c.pos) 2048 c.neg)
clause_stamps ws ms ok t = stamps_of (entry (view ws ms) t).clause (λ a. head_below_lem ws ms ok t a) (λ a. pos_below_lem ws ms ok t a) (λ a. neg_below_lem ws ms ok t a)

-- ---- whether the step is eligible

module _ (ws ms : List ℕ) (ok : Passed ws) (kind : Kind) (k : PartnerKind kind) (t p : ℕ) (kept : So (entry (view ws ms) t).kept) where
  abbrev with : Step
  with = step_with (view ws ms) kind t p

  abbrev known : So (condition_holds (view ws ms) with) → So (atom_known (get_or ws 0 0) with)
  known = settled_known ws ms ok kind k t p

  -- a kept clause is one of the table's
  pub kept_below : t < get_or ws 1 0
  kept_below = omega (arith, kept_lt (view ws ms) t kept, length_view ws ms)

  pub itself_eligible : p ≡ t → false ≡ eligible (get_or ws 0 0) (view ws ms) with
  itself_eligible e = eligible_not (get_or ws 0 0) (view ws ms) with (same_applies (get_or ws 0 0) (view ws ms) kind k t p known kept e)

  pub gone_eligible : (entry (view ws ms) p).kept ≡ false → false ≡ eligible (get_or ws 0 0) (view ws ms) with
  gone_eligible e = eligible_not (get_or ws 0 0) (view ws ms) with (gone_applies (get_or ws 0 0) (view ws ms) kind k t p known kept e)

  -- another clause that is kept: the condition decides, and whether the step is passed over
  module _ (e : (entry (view ws ms) p).kept ≡ true) (d : p ≢ t) (r : Bool) (fits : r ≡ condition_holds (view ws ms) with) where
    applies_is : r ≡ applies (get_or ws 0 0) (view ws ms) with
    applies_is = fits ∙ other_applies (get_or ws 0 0) (view ws ms) kind k t p known kept e d

    pub unfit_eligible : r ≡ false → false ≡ eligible (get_or ws 0 0) (view ws ms) with
    unfit_eligible n = eligible_not (get_or ws 0 0) (view ws ms) with (sym n ∙ applies_is)

    pub fit_eligible : r ≡ true → (o : Bool) → o ≡ passed_over (view ws ms) with → not o ≡ eligible (get_or ws 0 0) (view ws ms) with
    fit_eligible y o q = ap not q ∙ eligible_rest (get_or ws 0 0) (view ws ms) with (sym applies_is ∙ y)

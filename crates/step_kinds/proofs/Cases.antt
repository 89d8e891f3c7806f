-- Kinds with a partner, and those without, case by case.
use mathlib.Core.Path.{◌≡◌, refl}
use mathlib.Core.Logic.{◌≢◌}
use mathlib.Core.Bool.{true, false, false≢true, true≢false}
use Rattle.rewriting.specs.Kinds.{Kind, tautology, contradiction, success, no_head, blocked, failure, loop, subsumed, uses_partner, uses_atom, on_target}
use Rattle.rewriting.proofs.Rows.{each_kind, kinds_partner, kinds_no_head}
use Rattle.step_kinds.specs.Kinds.{PartnerKind, AtomKind, NoHeadKind}

pub no_head_alone : (k : Kind) → NoHeadKind k → uses_partner k ≡ false
no_head_alone = kinds_no_head (λ k. uses_partner k ≡ false) refl refl

-- such kinds change their target alone
pub partner_at_target : (k : Kind) → PartnerKind k → on_target k ≡ true
partner_at_target = kinds_partner (λ k. on_target k ≡ true) refl refl refl

pub no_head_at_target : (k : Kind) → NoHeadKind k → on_target k ≡ true
no_head_at_target = kinds_no_head (λ k. on_target k ≡ true) refl refl

pub atom_kind : (k : Kind) → on_target k ≡ true → uses_partner k ≡ false → AtomKind k
atom_kind k a u = record { at_target = a; alone = u }

-- what holds of the kinds without a partner
pub kinds_atom : (Q : Kind → Type 0) → Q tautology → Q contradiction → Q no_head → Q failure → Q loop → (k : Kind) → AtomKind k → Q k
kinds_atom Q a b d f g = each_kind (λ k. AtomKind k → Q k)
    (λ _. a) (λ _. b) (λ u. absurd (true≢false u.alone)) (λ _. d) (λ u. absurd (true≢false u.alone)) (λ _. f) (λ _. g) (λ u. absurd (true≢false u.alone)) (λ u. absurd (false≢true u.at_target))

-- of those with a partner the one that is not 3 and not 8
pub is_blocked : (k : Kind) → PartnerKind k → k ≢ success → k ≢ subsumed → k ≡ blocked
is_blocked = kinds_partner (λ k. k ≢ success → k ≢ subsumed → k ≡ blocked) (λ a b. absurd (a refl)) (λ a b. refl) (λ a b. absurd (b refl))

-- of these only 3 names an atom
pub no_atom : (k : Kind) → PartnerKind k → k ≢ success → uses_atom k ≡ false
no_atom = kinds_partner (λ k. k ≢ success → uses_atom k ≡ false) (λ a. absurd (a refl)) (λ a. refl) (λ a. refl)

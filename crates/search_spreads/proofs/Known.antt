-- What a kind asks of the whole program: one with a partner nothing, kinds 4 and 6 the kept heads.
use mathlib.Core.Path.{subst}
use mathlib.Core.Bool.{So, false≢true}
use mathlib.Core.List.{List}
use Prim.Native.Nat.{ℕ}
use Rattle.rewriting.specs.Kinds.{Kind, uses_partner}
use Rattle.rewriting.specs.Uses.{is_heads, is_reach}
use Rattle.rewriting.proofs.Rows.{partner_scope, kinds_no_head}
use Rattle.step_conditions.specs.Known.{Heads, Known}
use Rattle.step_kinds.specs.Kinds.{NoHeadKind}

-- what a kind with a partner asks of the whole program: nothing
pub partner_known : (ws ms hs rs : List ℕ) (k : Kind) → So (uses_partner k) → Known k ws ms hs rs
partner_known ws ms hs rs k p = let e = partner_scope k p in
    record { heads = λ h. absurd (false≢true (subst (λ s. So (is_heads s)) e h)); reached = λ h. absurd (false≢true (subst (λ s. So (is_reach s)) e h)) }

-- kinds 4 and 6 ask for heads alone, and have an atom
pub heads_known : (ws ms hs rs : List ℕ) (kind : Kind) → NoHeadKind kind → Heads ws ms hs → Known kind ws ms hs rs
heads_known ws ms hs rs = kinds_no_head (λ k. Heads ws ms hs → Known k ws ms hs rs)
    (λ h. record { heads = λ _. h; reached = λ x. absurd (false≢true x) }) (λ h. record { heads = λ _. h; reached = λ x. absurd (false≢true x) })

-- Laws of asking: a call that is taken had every question answered yes, and what is said of every answer holds through the questions.
use Prim.Native.Nat.{ℕ, ◌≤◌}
use mathlib.Core.Path.{◌≡◌, refl}
use mathlib.Core.Bool.{Bool, true, false}
use native.Mathlib.Omega.{arith}
use Rattle.answers.specs.declared.Refusal.{Refusal}
use Rattle.std.specs.Prelude.{Ok, Err}
use Rattle.answers.specs.Refusals.{refusal_place}
use Rattle.answers.specs.Answers.{Answer, ask, Small}

module _ {Q A B : Type 0} where
  -- two answers behind one question: they are related where it stops them, and where it lets them through
  pub ask_pair : (R : A → B → Type 0) (f : Q → A) (g : Q → B) (t : Bool) (q : Q) (a : A) (b : B) → R (f q) (g q) → R a b → R (ask f t q a) (ask g t q b)
  unfolding ask
  ask_pair R f g true q a b h k = k
  ask_pair R f g false q a b h k = h

  -- a part of what is answered
  pub ask_part : (g : A → B) (stop : Q → A) (t : Bool) (q : Q) (a : A) → g (ask stop t q a) ≡ ask (λ q. g (stop q)) t q (g a)
  ask_part g stop t q a = ask_pair (λ x y. g x ≡ y) stop (λ q. g (stop q)) t q a (g a) refl refl

module _ {Q A : Type 0} where
  -- what holds of both holds of the answer
  pub ask_both : (S : A → Type 0) (stop : Q → A) (t : Bool) (q : Q) (a : A) → S (stop q) → S a → S (ask stop t q a)
  ask_both S stop t q a h k = ask_pair (λ x y. S x) stop stop t q a a h k

-- a refusal is no value
pub refused_taken : (r : Refusal) (k : ℕ) → Err r ≡ Ok k → ⊥
refused_taken r k h = let z : ◌≡◌ {A = ℕ} 0 1 = cc in omega arith

pub ask_taken : (t : Bool) (r : Refusal) (a : Answer) (k : ℕ) → ask Err t r a ≡ Ok k → (t ≡ true) × (a ≡ Ok k)
unfolding ask
ask_taken true r a k h = (refl, h)
ask_taken false r a k h = absurd (refused_taken r k h)

-- values and places stay small
pub small_ask : (t : Bool) (r : Refusal) (a : Answer) → refusal_place r ≤ 65536 → (t ≡ true → Small a) → Small (ask Err t r a)
unfolding ask
small_ask true r a h y = y refl
small_ask false r a h y = h

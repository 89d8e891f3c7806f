-- A walk that is not refused had every question answered yes.
use Prim.Native.Nat.{ℕ, suc, ◌<◌, ◌-◌, ◌+◌}
use mathlib.Core.Path.{◌≡◌, refl}
use mathlib.Core.Bool.{Bool, true, false}
use native.Mathlib.Omega.{arith}
use Rattle.answers.specs.declared.Refusal.{Refusal}
use Rattle.table.specs.Questions.{Walk}
use Rattle.std.specs.Prelude.{Ok, Err}
use Rattle.table.specs.declared.Table.{Table}
use Rattle.table.specs.Questions.{Checked}
use Rattle.answers.specs.Answers.{ask}
use Rattle.answers.specs.Answers.{Answer}
use Rattle.answers.proofs.Asked.{refused_taken}
use Rattle.table.specs.Questions.{on_walk, on_table}

-- one more than what is left after a step
pub one_left : (i e : ℕ) → i < e → e - i ≡ suc (e - (i + 1))
one_left i e h = omega arith

pub ask_inv : (t : Bool) (r : Refusal) (w : Walk) (e : ℕ) → ask Err t r w ≡ Ok e → (t ≡ true) × (w ≡ Ok e)
unfolding ask
ask_inv true r w e h = (refl, h)
ask_inv false r w e h = let z : ◌≡◌ {A = ℕ} 0 1 = cc in absurd (omega arith)

pub ask_table_inv : (t : Bool) (r : Refusal) (w : Checked) (v : Table) → ask Err t r w ≡ Ok v → (t ≡ true) × (w ≡ Ok v)
unfolding ask
ask_table_inv true r w e h = (refl, h)
ask_table_inv false r w e h = let z : ◌≡◌ {A = ℕ} 0 1 = cc in absurd (omega arith)

pub on_inv : (w : Walk) (f : ℕ → Walk) (e : ℕ) → on_walk Err w f ≡ Ok e → (d : ℕ) × (w ≡ Ok d) × (f d ≡ Ok e)
unfolding on_walk
on_inv (Ok d) f e h = (d, refl, h)
on_inv (Err r) f e h = let z : ◌≡◌ {A = ℕ} 0 1 = cc in absurd (omega arith)

-- ---- a call that is taken

pub walk_taken : (w : Walk) (f : ℕ → Answer) (k : ℕ) → on_walk Err w f ≡ Ok k → (e : ℕ) × (w ≡ Ok e) × (f e ≡ Ok k)
unfolding on_walk
walk_taken (Ok e) f k h = (e, refl, h)
walk_taken (Err r) f k h = absurd (refused_taken r k h)

pub on_taken : (c : Checked) (a : Answer) (k : ℕ) → on_table Err c a ≡ Ok k → (t : Table) × (c ≡ Ok t) × (a ≡ Ok k)
unfolding on_table
on_taken (Ok t) a k h = (t, refl, h)
on_taken (Err r) a k h = absurd (refused_taken r k h)

module _ {A B : Type 0} where
  -- a part of what is answered
  pub table_part : (g : A → B) (stop : Refusal → A) (c : Checked) (a : A) → g (on_table stop c a) ≡ on_table (λ r. g (stop r)) c (g a)
  unfolding on_table
  table_part g stop (Ok t) a = refl
  table_part g stop (Err r) a = refl

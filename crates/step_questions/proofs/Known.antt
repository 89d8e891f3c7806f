-- What is known after a step is made.
use mathlib.Core.Path.{◌≡◌, refl, sym, subst, ◌∙◌}
use mathlib.Core.Bool.{Bool, true, not, So}
use mathlib.Core.List.{List}
use Prim.Native.Nat.{ℕ, ◌≤◌, ◌<◌}
use native.Mathlib.Omega.{arith}
use lib.Dec.{eqb}
use lib.ListN.{length, get_or}
use Rattle.rewriting.specs.Marked.{entry, left}
use Rattle.rewriting.specs.Steps.{Step, atom_headed, applies}
use Rattle.rewriting.specs.Kinds.{loop, on_target}
use Rattle.rewriting.specs.Uses.{drops, asks_heads}
use Rattle.rewriting.proofs.Effect.{target_kept_lem}
use Rattle.table.specs.Questions.{Passed}
use Rattle.table.specs.View.{view}
use Rattle.table.specs.Effects.{marks_after}
use Rattle.step_reach.specs.Bytes.{Reached}
use Rattle.step_conditions.specs.Known.{Tallied, Known}
use Rattle.step_conditions.proofs.After.{heads_stay, heads_lowered, reached_stays, reached_idle}
use Rattle.step_conditions.proofs.Heads.{no_head_is}
use Rattle.step_conditions.proofs.Tests.{step_fits}
use Rattle.step_questions.specs.declared.memory.Memory.{Memory}
use Rattle.step_questions.specs.Remembered.{Holding}

-- 32 by the count of the kept heads, which kind 7 asks for
pub headed_loop : (ws ms hs rs : List ℕ) (s : Step) (b : Bool) → s.kind ≡ loop → Known s.kind ws ms hs rs → b ≡ eqb (get_or hs s.atom 0) 0 → not b ≡ atom_headed (view ws ms) s
unfolding atom_headed
headed_loop ws ms hs rs s b k h e = rw (k, e, no_head_is (left (view ws ms)) s.atom (get_or hs s.atom 0) ((h.heads (subst (λ j. So (asks_heads j)) (sym k) refl)).is s.atom))

module _ (ws ms : List ℕ) (passed : Passed ws) (long : length ws ≤ length ms) (s : Step) (ok : So (applies (get_or ws 0 0) (view ws ms) s)) where
  pub target_fits : (t : ℕ) → t ≡ s.target → (t < get_or ws 1 0) × So (entry (view ws ms) t).kept
  target_fits t e = rw e ((step_fits (get_or ws 0 0) ws ms s ok).0, target_kept_lem (get_or ws 0 0) (view ws ms) s ok)

  -- a literal was dropped
  pub after_drop : So (drops s.kind) → (m : Memory) → Holding ws ms m → Holding ws (marks_after ws ms s) m
  after_drop d m h = record {
    room = h.room;
    heads = λ q. heads_stay ws ms passed long (get_or ws 0 0) s ok d m.heads.now (h.heads q);
    reached = λ q. reached_stays ws ms passed long (get_or ws 0 0) s ok d m.reached.now (h.reached q);
  }

  -- a clause was deleted: the numbers of kept heads were lowered, and the reach is as it was where it is known still
  pub after_deletion : So (on_target s.kind) → ¬ So (drops s.kind) → (t : ℕ) → t ≡ s.target → (m m' : Memory) → Holding ws ms m
      → (m.known.heads ≡ true → Tallied (entry (view ws ms) t).clause.head m'.heads.now m.heads.now) → m'.known.heads ≡ m.known.heads → length m'.heads.now ≡ length m.heads.now
      → m'.reached.now ≡ m.reached.now → (m'.known.reached ≡ true → So (asks_heads s.kind) × (m'.known.reached ≡ m.known.reached))
      → Holding ws (marks_after ws ms s) m'
  after_deletion on d t e m m' h f k l r g = record {
    room = (omega (arith, h.room.0, l), rw r h.room.1);
    heads = λ q. let x = sym k ∙ q in heads_lowered ws ms passed long (get_or ws 0 0) s on ok d m.heads.now m'.heads.now (h.heads x) (subst (λ i. Tallied (entry (view ws ms) i).clause.head m'.heads.now m.heads.now) e (f x));
    reached = λ q. let w = g q in subst (Reached ws (marks_after ws ms s)) (sym r) (reached_idle ws ms passed long (get_or ws 0 0) s ok d w.0 m.reached.now (h.reached (sym w.1 ∙ q)));
  }

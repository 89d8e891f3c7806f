-- The reducer's loop: what is done so far, with what is left to do, is the whole.
use mathlib.Core.Path.{◌≡◌, refl, sym, ap, subst, ◌∙◌}
use mathlib.Core.List.{List, [], ◌∷◌}
use mathlib.Core.Bool.{So}
use mathlib.Core.Option.{Option, none, some}
use Prim.Native.Nat.{ℕ, zero, suc, ◌+◌, ◌-◌, ◌*◌, ◌≤◌, ◌<◌}
use native.Mathlib.Omega.{arith}
use native.Mathlib.Nat.{sub-zero}
use lib.ListN.{length, get_or, set}
use lib.Seq.{sets, length-sets}
use Rattle.rewriting.specs.Marked.{Marked}
use Rattle.rewriting.specs.Steps.{Step, applies, effect}
use Rattle.rewriting.specs.Kinds.{Kind, number}
use Rattle.rewriting.specs.Search.{reduce, first_step}
use Rattle.rewriting.specs.Measure.{measure}
use Rattle.rewriting.proofs.Search.{first_step_some}
use Rattle.rewriting.proofs.Equal.{eligible_applies}
use Rattle.rewriting.proofs.Measure.{step_less}
use Rattle.table.specs.Questions.{Passed}
use Rattle.table.specs.View.{view}
use Rattle.table.specs.Effects.{marks_after, marks_after_all}
use Rattle.table.proofs.View.{view_after, length_after}
use Rattle.table.proofs.Parts.{view_tidy}
use Rattle.step_conditions.specs.declared.Step as row
use Rattle.step_conditions.specs.Known.{step_of}
use Rattle.std.specs.Prelude.{Some}
use Rattle.search_targets.specs.Searches.{found_of}
use Rattle.reducer_results.specs.Reductions.{room, steps_of}
use Rattle.table.specs.StepWords.{words_of}
use Rattle.reducer.specs.Runs.{Begun, Reduced, StepFound}
use Rattle.reducer_results.proofs.Room.{room_measure}

-- what is left to do after s steps
unfoldable pub rest : List ℕ → List ℕ → ℕ → List Step
rest ws ms s = reduce (get_or ws 0 0) (room ws - s) (view ws ms)

pub record Running (ws ms₀ ls₀ ms ls : List ℕ) (s : ℕ) : Type 0 where
  pub number : s + length (rest ws ms s) ≡ length (steps_of ws)
  pub marks : marks_after_all ws ms (rest ws ms s) ≡ marks_after_all ws ms₀ (steps_of ws)
  pub list : sets ls (4 * s) (words_of (rest ws ms s)) ≡ sets ls₀ 0 (words_of (steps_of ws))
  pub left : s + measure (view ws ms) ≤ room ws
  pub long : length ws ≤ length ms
  pub room : 4 * room ws ≤ length ls

pub running_none : (ws ms ls : List ℕ) → length ws ≤ length ms → Begun ws ms ls → Running ws ms ls ms ls 0
unfolding rest steps_of
running_none ws ms ls l b = record {
  number = omega (arith, ap length same);
  marks = ap (marks_after_all ws ms) same;
  list = ap (λ l. sets ls 0 (words_of l)) same;
  left = omega (arith, ap measure b.whole, room_measure ws);
  long = l;
  room = b.room;
}
  where
    same : rest ws ms 0 ≡ steps_of ws
    same = rw (sub-zero, b.whole)

-- a step that was found
pub found_made : (ws ms : List ℕ) (s : row.Step Kind) → Some s ≡ found_of (first_step (get_or ws 0 0) (view ws ms)) → StepFound ws ms s × (first_step (get_or ws 0 0) (view ws ms) ≡ some (step_of s))
unfolding found_of
found_made ws ms s e = go (first_step (get_or ws 0 0) (view ws ms)) refl e
  where
    go : (x : Option Step) → first_step (get_or ws 0 0) (view ws ms) ≡ x → Some s ≡ found_of x → StepFound ws ms s × (first_step (get_or ws 0 0) (view ws ms) ≡ some (step_of s))
    go none q h = absurd (let z : ◌≡◌ {A = ℕ} 0 1 = cc in omega arith)
    go (some u) q h =
        let r : s ≡ record { kind = u.kind; target = u.target; partner = u.partner; atom = u.atom } = cc in
        let k : step_of s ≡ u = ap step_of r in
        (record { applies = subst (λ v. So (applies (get_or ws 0 0) (view ws ms) v)) (sym k) (eligible_applies (get_or ws 0 0) (view ws ms) u (first_step_some (get_or ws 0 0) (view ws ms) u q).applicable) }, q ∙ ap some (sym k))

stops : (n k : ℕ) (P : Marked) → first_step n P ≡ none → reduce n k P ≡ []
unfolding reduce
stops n zero P q = refl
stops n (suc k) P q = ap (λ o. elim o [ none ↦ [] | some s ↦ s ∷ reduce n k (effect P s) ]) q

goes : (n k : ℕ) (P : Marked) (u : Step) → first_step n P ≡ some u → reduce n (suc k) P ≡ u ∷ reduce n k (effect P u)
unfolding reduce
goes n k P u q = ap (λ o. elim o [ none ↦ [] | some s ↦ s ∷ reduce n k (effect P s) ]) q

module _ (ws ms₀ ls₀ ms ls : List ℕ) (s : ℕ) (p : Passed ws) (r : Running ws ms₀ ls₀ ms ls s) where
  abbrev n : ℕ
  n = get_or ws 0 0

  -- no step is left
  pub running_end : first_step n (view ws ms) ≡ none → Reduced ws ms₀ ls₀ ms ls s
  unfolding rest words_of marks_after_all
  running_end e = record {
    number = omega (arith, r.number, ap length over);
    marks = sym (ap (marks_after_all ws ms) over) ∙ r.marks;
    list = sym (ap (λ l. sets ls (4 * s) (words_of l)) over) ∙ r.list;
  }
    where
      over : rest ws ms s ≡ []
      over = stops n (room ws - s) (view ws ms) e

  module _ (u : Step) (h : So (applies n (view ws ms) u)) where
    less : suc (s + measure (effect (view ws ms) u)) ≤ room ws
    less = omega (arith, r.left, step_less n (view ws ms) u (view_tidy ws ms p) h)

    -- there is room for its words
    pub running_room : (s < room ws) × (4 * s + 3 < length ls)
    running_room = let l = less in (omega arith, omega (arith, r.room))

    pub running_on : first_step n (view ws ms) ≡ some u
        → Running ws ms₀ ls₀ (marks_after ws ms u) (sets ls (4 * s) (number u.kind ∷ u.target ∷ u.partner ∷ u.atom ∷ [])) (s + 1)
    unfolding rest words_of marks_after_all
    running_on e = record {
      number = omega (arith, r.number, ap length more);
      marks = sym (ap (marks_after_all ws ms) more) ∙ r.marks;
      list = let z : 4 * (s + 1) ≡ suc (suc (suc (suc (4 * s)))) = omega arith in rw z (sym (ap (λ l. sets ls (4 * s) (words_of l)) more) ∙ r.list);
      left = omega (arith, less, ap measure (view_after ws ms p r.long n u h));
      long = omega (arith, r.long, length_after ws ms u);
      room = rw (length-sets ls (4 * s) (number u.kind ∷ u.target ∷ u.partner ∷ u.atom ∷ [])) r.room;
    }
      where
        more : rest ws ms s ≡ u ∷ rest ws (marks_after ws ms u) (s + 1)
        more = let x = less in let z : room ws - s ≡ suc (room ws - (s + 1)) = omega arith in
            ap (λ k. reduce n k (view ws ms)) z ∙ goes n (room ws - (s + 1)) (view ws ms) u e ∙ ap (λ R. u ∷ reduce n (room ws - (s + 1)) R) (sym (view_after ws ms p r.long n u h))

-- four stores
pub four_words : (ls : List ℕ) (at a b c d : ℕ) → set (set (set (set ls at a) (at + 1) b) (at + 2) c) (at + 3) d ≡ sets ls at (a ∷ b ∷ c ∷ d ∷ [])
four_words ls at a b c d =
    let x : at + 1 ≡ suc at = omega arith in
    let y : at + 2 ≡ suc (suc at) = omega arith in
    let z : at + 3 ≡ suc (suc (suc at)) = omega arith in
    rw (x, y, z)

-- a step that was found, written and made
pub running_step : (ws ms₀ ls₀ ms ls : List ℕ) (s : ℕ) → Passed ws → Running ws ms₀ ls₀ ms ls s → (u : row.Step Kind) → StepFound ws ms u → first_step (get_or ws 0 0) (view ws ms) ≡ some (step_of u)
    → Running ws ms₀ ls₀ (marks_after ws ms (step_of u)) (sets ls (4 * s) (number u.kind ∷ u.target ∷ u.partner ∷ u.atom ∷ [])) (s + 1)
running_step ws ms₀ ls₀ ms ls s p r u t e = running_on ws ms₀ ls₀ ms ls s p r (step_of u) t.applies e

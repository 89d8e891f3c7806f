-- Where the search starts, and the cycle answer case by case.
use Prim.Native.Nat.{ℕ, zero, suc, ◌+◌, ◌≤◌, ◌<◌}
use mathlib.Core.Path.{◌≡◌, sym, ap, ◌∙◌}
use mathlib.Core.Logic.{◌↔◌, by_cases}
use mathlib.Core.Bool.{Bool}
use mathlib.Core.List.{List, map}
use native.Mathlib.Omega.{arith}
use native.Mathlib.Decide.{dec_lt}
use native.Mathlib.Nat.{le_refl, le_of_eq}
use lib.ListN.{length, get_or, set, replicate, length-replicate, get_or-replicate}
use Rattle.answers.specs.declared.Refusal.{Refusal}
use Rattle.table.specs.declared.Table.{Table}
use Rattle.std.specs.Prelude.{Option, None, Ok, Err}
use Rattle.std.proofs.lemmas.List.{length-map, get_or-map}
use Rattle.cycle.specs.declared.search.State.{State}
use Rattle.cycle.specs.declared.search.State.TheVariants.{Unmet}
use Rattle.semantics.specs.Lists.{bit}
use Rattle.semantics.proofs.Tests.{bit_same}
use Rattle.table.specs.Questions.{table_numbers, table_of, on_table, Passed}
use Rattle.table.proofs.Laws.{on_taken}
use Rattle.table.specs.Programs.{program_of}
use Rattle.table.proofs.Encoding.{valid_passed}
use Rattle.dependency.specs.Decide.{cyclic}
use Rattle.step_parts.specs.declared.Part.TheVariants.{Head}
use Rattle.step_parts.specs.Parts.{Latest, Placed}
use Rattle.cycle.specs.Search.{atom_number, rank, AtLast, SearchReady}
use Rattle.cycle.proofs.Updates.{at_set}
use Rattle.cycle.specs.Answer.{cycle_of}

-- no element is above the one that is repeated
repeated : (n v i : ℕ) → get_or (replicate n v) i 0 ≤ v
repeated zero v i = omega arith
repeated (suc n) v zero = le_refl v
repeated (suc n) v (suc i) = repeated n v i

-- ---- where the search starts

pub latest_low : {ws index : List ℕ} {a k v : ℕ} → k ≤ 8192 → Latest ws index Head a k v → v < 65536
latest_low {v = v} h l = by_cases (dec_lt 0 v) (λ n. omega (arith, (l.some n).0)) (λ n. omega arith)

pub last_next : (ws index cur : List ℕ) (k i v : ℕ) → i ≡ k → i < length cur → AtLast ws index cur k → Latest ws index Head k (length ws) v → AtLast ws index (set cur i v) (k + 1)
last_next ws index cur k i v e h l q = rw e (at_set cur k v (omega arith) (λ a w. a < k + 1 → Latest ws index Head a (length ws) w) (λ x. q) (λ a n x. l a (omega arith)))

pub ready_start : {ws index cur : List ℕ} → Placed ws index → 1024 ≤ length cur → AtLast ws index cur (get_or ws 0 0)
    → SearchReady ws index cur (map rank (replicate 1024 Unmet)) (replicate 2048 8192) (map atom_number (replicate 1024 None))
ready_start p h l =
    let states : length (replicate 1024 Unmet) ≡ 1024 = length-replicate {A = State} 1024 Unmet in
    let parents : length {A = Option ℕ} (replicate 1024 None) ≡ 1024 = length-replicate {A = Option ℕ} 1024 None in
    record {
      placed = p;
      places = h;
      last = l;
      states = simp length-map (le_of_eq (sym states));
      lefts = le_of_eq (sym (length-replicate {A = ℕ} 2048 8192));
      parents = simp length-map (le_of_eq (sym parents));
      unmet = λ a k. get_or-map rank (replicate 1024 Unmet) a Unmet 0 (omega arith) ∙ ap rank (get_or-replicate 1024 a Unmet Unmet k);
      whole = λ c k. get_or-replicate 2048 c 8192 0 k;
      most = repeated 2048 8192;
    }

pub table_refused : (ws : List ℕ) (r : Refusal) → table_of ws ≡ Err r → cycle_of ws ≡ Err r
unfolding cycle_of on_table
table_refused ws r h = rw h

pub searched : (ws : List ℕ) (t : Table) → table_of ws ≡ Ok t → cycle_of ws ≡ Ok (bit (cyclic (program_of ws).clauses))
unfolding cycle_of on_table
searched ws t h = rw h

pub passed_answer : (ws : List ℕ) → Passed ws → cycle_of ws ≡ Ok (bit (cyclic (program_of ws).clauses))
passed_answer ws p = searched ws (table_numbers ws) p.valid

-- a call that is taken asked a table that passed
pub taken_passed : (ws : List ℕ) (k : ℕ) → cycle_of ws ≡ Ok k → Passed ws
unfolding cycle_of
taken_passed ws k h = let (t, c, d) = on_taken (table_of ws) _ k h in (valid_passed ws t c).0

pub accepted_iff : (ws : List ℕ) (b : Bool) → (cycle_of ws ≡ Ok (bit b)) ↔ (Passed ws × (cyclic (program_of ws).clauses ≡ b))
unfolding cycle_of
accepted_iff ws b = (
  λ h.
      let (t, c, d) = on_taken (table_of ws) _ (bit b) h in
      let q : bit (cyclic (program_of ws).clauses) ≡ bit b = cc in
      ((valid_passed ws t c).0, bit_same _ b q),
  λ h. passed_answer ws h.0 ∙ ap (λ x. Ok (bit x)) h.1,
)

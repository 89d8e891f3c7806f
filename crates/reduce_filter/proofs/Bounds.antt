-- How long the lines of the steps can be: at most 8,188 steps, each a line of at most 22 bytes.
use mathlib.Core.Path.{◌≡◌, refl, ap, subst, ◌∙◌}
use mathlib.Core.Bool.{Bool, true, false, cond, So}
use mathlib.Core.List.{List, [], ◌∷◌, ◌++◌}
use Prim.Native.Nat.{ℕ, suc, ◌+◌, ◌*◌, ◌≤◌, ◌<◌}
use native.Mathlib.Omega.{arith}
use lib.ListN.{length, length-append, get_or}
use Rattle.semantics.specs.Programs.{Clause}
use Rattle.semantics.proofs.Tests.{and_iff}
use Rattle.rewriting.specs.Marked.{Marked, whole}
use Rattle.rewriting.specs.Steps.{Step, applies, effect}
use Rattle.rewriting.specs.Runs.{accepted}
use Rattle.rewriting.specs.Kinds.{number, uses_partner, uses_atom}
use Rattle.rewriting.proofs.Effect.{length_effect}
use Rattle.rewriting.proofs.Left.{kept_lt}
use Rattle.rewriting.proofs.Search.{partner_lt, atom_lt}
use Rattle.rewriting.proofs.Rows.{number_bounds}
use Rattle.table.specs.Questions.{Passed}
use Rattle.table.specs.Programs.{program_of}
use Rattle.table.proofs.Encoding.{passed_limits, passed_within}
use Rattle.reducer_results.specs.Reductions.{steps_of}
use Rattle.reducer_results.proofs.Taken.{steps_accepted, steps_few}
use Rattle.text_form.specs.Digits.{width, digits, others, commas}
use Rattle.text_form.proofs.Widths.{one_digit, digits_length, width_four}
use Rattle.text_form.proofs.Texts.{line_length}
use Rattle.reduce_filter.specs.Output.{step_key}
use Rattle.reduce_filter.proofs.Steps.{step_text, steps_text}

-- ---- the words of a step

-- the words of an applicable step on m clauses and n atoms
pub record Small (n m : ℕ) (s : Step) : Type 0 where
  pub target : s.target < m
  pub partner : s.partner ≤ m
  pub atom : s.atom ≤ n

applies_small : (n : ℕ) (P : Marked) (s : Step) → So (applies n P s) → Small n (length P) s
unfolding applies
applies_small n P s h =
    let w = simp and_iff at h in
    record {
      target = kept_lt P s.target w.0;
      partner = low (uses_partner s.kind) (length P) s.partner (partner_lt (uses_partner s.kind) P s.target s.partner w.1.0) (kept_lt P s.target w.0);
      atom = below (uses_atom s.kind) n s.atom (atom_lt (uses_atom s.kind) n s.atom w.1.1.0);
    }
  where
    low : (b : Bool) (m x : ℕ) → x < cond b m 1 → s.target < m → x ≤ m
    low true m x h t = omega arith
    low false m x h t = omega arith

    below : (b : Bool) (n x : ℕ) → x < cond b n 1 → x ≤ n
    below true n x h = omega arith
    below false n x h = omega arith

abbrev pub AllSmall : ℕ → ℕ → List Step → Type 0
AllSmall n m [] = Unit {0}
AllSmall n m (s ∷ l) = Small n m s × AllSmall n m l

accepted_small : (n m : ℕ) (P : Marked) (l : List Step) → length P ≡ m → So (accepted n P l) → AllSmall n m l
unfolding accepted
accepted_small n m P [] e h = tt
accepted_small n m P (s ∷ l) e h =
    let w = (and_iff (applies n P s) (accepted n (effect P s) l)).0 h in
    (subst (λ x. Small n x s) e (applies_small n P s w.0), accepted_small n m (effect P s) l (length_effect P s ∙ e) w.1)

length_whole : (cs : List Clause) → length (whole cs) ≡ length cs
length_whole [] = refl
length_whole (c ∷ cs) = ap suc (length_whole cs)

-- those of the reducer's list
pub list_small : (ws : List ℕ) → Passed ws → AllSmall (get_or ws 0 0) (length (program_of ws).clauses) (steps_of ws)
list_small ws p = accepted_small (get_or ws 0 0) (length (program_of ws).clauses) (whole (program_of ws).clauses) (steps_of ws) (length_whole (program_of ws).clauses) (steps_accepted ws p)

-- ---- a step's line

pub pair_length : (a b : ℕ) → length (commas (a ∷ b ∷ [])) ≡ width a + (1 + width b)
unfolding commas others
pair_length a b = omega (arith, length-append (digits a) (44 ∷ digits b ++ []), length-append (digits b) [], digits_length a, digits_length b)

four : (a b c d : ℕ) → length (commas (a ∷ b ∷ c ∷ d ∷ [])) ≡ width a + width b + width c + width d + 3
unfolding commas others
four a b c d = omega (
  arith,
  length-append (digits a) (44 ∷ digits b ++ (44 ∷ digits c ++ (44 ∷ digits d ++ []))),
  length-append (digits b) (44 ∷ digits c ++ (44 ∷ digits d ++ [])),
  length-append (digits c) (44 ∷ digits d ++ []),
  length-append (digits d) [],
  digits_length a,
  digits_length b,
  digits_length c,
  digits_length d,
)

step_short : (n m : ℕ) (s : Step) → n ≤ 1024 → m ≤ 2048 → Small n m s → length (step_text s) ≤ 22
unfolding step_text
step_short n m s a b q =
    let k = number_bounds s.kind in
    omega (
      arith,
      line_length step_key (commas (number s.kind ∷ s.target ∷ s.partner ∷ s.atom ∷ [])),
      four (number s.kind) s.target s.partner s.atom,
      one_digit (number s.kind) (omega arith),
      width_four s.target (omega (arith, q.target)),
      width_four s.partner (omega (arith, q.partner)),
      width_four s.atom (omega (arith, q.atom)),
    )

steps_lines : (n m : ℕ) (l : List Step) → n ≤ 1024 → m ≤ 2048 → AllSmall n m l → length (steps_text l) ≤ 22 * length l
unfolding steps_text
steps_lines n m [] a b q = omega arith
steps_lines n m (s ∷ l) a b q = omega (arith, length-append (step_text s) (steps_text l), step_short n m s a b q.0, steps_lines n m l a b q.1)

-- ---- the reducer's list

-- Its lines take at most 180,136 bytes.
pub steps_short : (ws : List ℕ) → Passed ws → length (steps_text (steps_of ws)) ≤ 180136
steps_short ws p = omega (
  arith,
  steps_few ws p,
  steps_lines (get_or ws 0 0) (length (program_of ws).clauses) (steps_of ws) (passed_limits ws p).few_atoms (passed_within ws p).few_clauses (list_small ws p),
)

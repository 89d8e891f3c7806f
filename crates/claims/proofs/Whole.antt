-- Demand 3 whole, for the reducer and the checker together: the checker takes the reducer's list, with any marks that pass 9, and leaves
-- the marks that the reducer left; with any four words behind it, it is refused at step s.
use mathlib.Core.Path.{◌≡◌, refl, sym, ap, subst, ◌∙◌}
use mathlib.Core.Bool.{true, So}
use mathlib.Core.List.{List, [], ◌∷◌, ◌++◌, append-nil}
use Prim.Native.Nat.{ℕ, suc, ◌+◌, ◌*◌, ◌/◌, ◌%◌, ◌≤◌, ◌<◌}
use native.Mathlib.Omega.{arith}
use native.Mathlib.Nat.{add-zero, mul-div_right, mul-mod_right}
use lib.ListN.{length, get_or, take, drop, length-append}
use lib.Seq.{drop_at, ext_get_or, get_or-take, length-take-le}
use borrow.Author.Tests.{eq-eqb, le-leb}
use Rattle.semantics.proofs.Tests.{and_iff}
use Rattle.rewriting.specs.Marked.{Marked, whole}
use Rattle.rewriting.specs.Steps.{Step, step, applies}
use Rattle.rewriting.specs.Runs.{accepted, leaves, without_nine}
use Rattle.rewriting.specs.Kinds.{number}
use Rattle.rewriting.proofs.Rows.{kind_of_number, number_bounds, condition_matches, condition_headed}
use Rattle.rewriting.proofs.Greedy.{greedy_end}
use Rattle.answers.specs.declared.StepQuestion.{StepQuestion}
use Rattle.answers.specs.declared.Refusal.TheVariants as refusal
use Rattle.table.specs.Questions.{Passed}
use Rattle.table.specs.Programs.{program_of}
use Rattle.table.specs.View.{view, all_kept, zeros}
use Rattle.table.specs.Effects.{marks_after, marks_after_all}
use Rattle.table.proofs.Stands.{past, word_at}
use Rattle.table.proofs.View.{view_after, view_after_all, length_after}
use Rattle.table.proofs.Parts.{all_kept_one, view_all_kept, length_all_kept}
use Rattle.answers.specs.Answers.{Answer}
use Rattle.std.specs.Prelude.{Ok, Err}
use Rattle.reducer_results.specs.Reductions.{steps_of, reduction}
use Rattle.table.specs.StepWords.{words_of}
use Rattle.reducer_results.proofs.Taken.{reducer_taken, steps_greedy, steps_accepted, steps_few, zeros_all_kept, length_words, length_after_all}
use Rattle.step_questions.specs.Verdicts.{Verdict}
use Rattle.step_lists.specs.Lists.{leaving, steps_from, list_fits, check_list}
use Rattle.table.specs.StepWords.{kind_at, step_at}
use Rattle.answers.specs.Answers.{ask}
use Rattle.step_questions.specs.Questions.{kind_known, shape_questions, condition_questions, step_questions}
use Rattle.step_questions.specs.Verdicts.{verdict_at}
use Rattle.step_questions.proofs.Laws.{on_verdict, kind_has_number, fine_applies}
use Rattle.step_lists.specs.Leaves.{Words, words_at, step_named}
use Rattle.step_lists.proofs.Walks.{verdict_on, steps_verdict, check_made}
use Rattle.answers.proofs.Slices.{take_written}
use Rattle.claims.proofs.Lists.{marks_past_table}
use Rattle.claims.proofs.Reductions.{reducer_refused}
use Rattle.claims.proofs.Agree.{after_all_agree}

-- ---- a step as four words

abbrev words_step : Step → Words
words_step s = record { kind = number s.kind; target = s.target; partner = s.partner; atom = s.atom }

step_words : (s : Step) → step_named (words_step s) ≡ s
step_words s = ap (λ k. step k s.target s.partner s.atom) (kind_of_number s.kind)

step_at_lem : (ls r : List ℕ) (k : ℕ) (s : Step) (l : List Step) → drop (4 * k) ls ≡ words_of (s ∷ l) ++ r → words_at ls k ≡ words_step s
unfolding words_of
step_at_lem ls r k s l e = rw (
  ap (λ i. get_or ls i 0) (sym (add-zero (4 * k))) ∙ word_at ls (4 * k) 0 (number s.kind) _ e refl,
  word_at ls (4 * k) 1 s.target _ e refl,
  word_at ls (4 * k) 2 s.partner _ e refl,
  word_at ls (4 * k) 3 s.atom _ e refl,
)

-- the words of the next step
next_words : (ls r : List ℕ) (k : ℕ) (s : Step) (l : List Step) → drop (4 * k) ls ≡ words_of (s ∷ l) ++ r → drop (4 * (k + 1)) ls ≡ words_of l ++ r
unfolding words_of
next_words ls r k s l e =
    let f : 4 * (k + 1) ≡ 4 * k + 4 = omega arith in
    ap (λ i. drop i ls) f ∙ past ls (number s.kind ∷ s.target ∷ s.partner ∷ s.atom ∷ []) (words_of l ++ r) (4 * k) e

-- a step that applies gets a yes to every question
pub applies_fine : (n : ℕ) (P : Marked) (k : ℕ) (s : Step) → kind_known k ≡ true → So (applies n P s) → verdict_at n P k s ≡ Ok tt
unfolding step_questions shape_questions condition_questions ask applies
applies_fine n P k s e h =
    let v = simp and_iff at h in
    rw (e, v.0, v.1.0, v.1.1.0, condition_matches P s v.1.1.1, condition_headed P s v.1.1.1, v.1.1.1)

step_fine : (n : ℕ) (P : Marked) (s : Step) → So (applies n P s) → verdict_at n P (number s.kind) s ≡ Ok tt
step_fine n P s h = applies_fine n P (number s.kind) s (kind_has_number s.kind) h

-- ---- the steps of a list, one after the other

-- an applicable step is taken
step_made : (ws ms ls : List ℕ) (k x : ℕ) (s : Step) → words_at ls k ≡ words_step s → So (applies (get_or ws 0 0) (view ws ms) s)
    → steps_from ws ms ls k (suc x) ≡ steps_from ws (marks_after ws ms s) ls (k + 1) x
unfolding on_verdict
step_made ws ms ls k x s q h =
    let n = get_or ws 0 0 in
    steps_verdict ws ms ls k x
    ∙ ap (on_verdict (λ x. leaving ms (refusal.Step x k)) (steps_from ws (marks_after ws ms (step_at ls k)) ls (k + 1) x)) (ap (λ (w : Words). verdict_at n (view ws ms) w.kind (step_named w)) q ∙ ap (verdict_at n (view ws ms) (number s.kind)) (step_words s) ∙ step_fine n (view ws ms) s h)
    ∙ ap (λ u. steps_from ws (marks_after ws ms u) ls (k + 1) x) (ap step_named q ∙ step_words s)

-- a step that is refused
step_refused : (ws ms ls : List ℕ) (k : ℕ) (q : StepQuestion) → verdict_on ws ms ls k ≡ Err q → steps_from ws ms ls k 1 ≡ record { answer = Err (refusal.Step q k); marks = ms }
unfolding on_verdict
step_refused ws ms ls k q e = steps_verdict ws ms ls k 0 ∙ ap (on_verdict (λ x. leaving ms (refusal.Step x k)) (steps_from ws (marks_after ws ms (step_at ls k)) ls (k + 1) 0)) e

-- an accepted list of steps is taken whole, whatever words stand behind it
follow : (ws : List ℕ) → Passed ws → (l : List Step) (ls r : List ℕ) (k x : ℕ) (ms : List ℕ) → length ws ≤ length ms → drop (4 * k) ls ≡ words_of l ++ r
    → So (accepted (get_or ws 0 0) (view ws ms) l) → steps_from ws ms ls k (length l + x) ≡ steps_from ws (marks_after_all ws ms l) ls (k + length l) x
unfolding accepted marks_after_all
follow ws p [] ls r k x ms b e h =
    let z : 0 + x ≡ x = omega arith in let y : k ≡ k + 0 = omega arith in
    ap (steps_from ws ms ls k) z ∙ ap (λ i. steps_from ws ms ls i x) y
follow ws p (s ∷ l) ls r k x ms b e h =
    let n = get_or ws 0 0 in
    let w = (and_iff (applies n (view ws ms) s) _).0 h in
    let v = view_after ws ms p b n s w.0 in
    let z : length (s ∷ l) + x ≡ suc (length l + x) = omega arith in
    let y : k + 1 + length l ≡ k + length (s ∷ l) = omega arith in
    ap (steps_from ws ms ls k) z
    ∙ step_made ws ms ls k (length l + x) s (step_at_lem ls r k s l e) w.0
    ∙ follow ws p l ls r (k + 1) x (marks_after ws ms s) (omega (arith, length_after ws ms s)) (next_words ls r k s l e) (subst (λ P. So (accepted n P l)) (sym v) w.1)
    ∙ ap (λ i. steps_from ws (marks_after_all ws (marks_after ws ms s) l) ls i x) y

-- ---- lists that pass question 11

fits_of : (ls : List ℕ) (k : ℕ) → length ls ≡ 4 * k → k ≤ 8190 → (list_fits ls ≡ true) × (length ls / 4 ≡ k)
fits_of ls k e h = (
  rw (e, eq-eqb (4 * k % 4) 0 (mul-mod_right 4 k), le-leb (4 * k) 32760 (omega arith)),
  rw (e, mul-div_right k (let z : 0 < 4 = omega arith in z)),
)

-- ---- the reducer's list

module _ (ws ms : List ℕ) (p : Passed ws) (l : length ws ≤ length ms) where
  -- the marks that the reducer's list leaves, from all marks 1
  abbrev pub marks_left : List ℕ
  marks_left = marks_after_all ws (all_kept ws ms) (steps_of ws)

  -- the checker on the reducer's list, with x steps more in the words behind it
  behind : (r : List ℕ) (x : ℕ) → length r ≡ 4 * x → x ≤ 1
      → check_list ws ms (words_of (steps_of ws) ++ r) ≡ steps_from ws marks_left (words_of (steps_of ws) ++ r) (length (steps_of ws)) x
  behind r x e h =
      let n = get_or ws 0 0 in
      let s = steps_of ws in
      let ls = words_of s ++ r in
      let c : length ls ≡ 4 * (length s + x) = omega (arith, length-append (words_of s) r, length_words s) in
      let f = fits_of ls (length s + x) c (omega (arith, steps_few ws p)) in
      let z : 0 + length s ≡ length s = omega arith in
      check_made ws ms ls _ p.valid l f.0
      ∙ ap (steps_from ws (all_kept ws ms) ls 0) f.1
      ∙ follow ws p s ls r 0 x (all_kept ws ms) (omega (arith, length_all_kept ws ms l)) refl (subst (λ P. So (accepted n P s)) (sym (view_all_kept ws ms p)) (steps_accepted ws p))
      ∙ ap (λ i. steps_from ws marks_left ls i x) z

  -- "Checked with marks that pass 9, it is accepted", with the number of its steps, and leaves the reducer's marks
  pub list_accepted : check_list ws ms (words_of (steps_of ws)) ≡ record { answer = Ok (length (steps_of ws)); marks = marks_left }
  unfolding steps_from
  list_accepted = ap (check_list ws ms) (sym (append-nil (words_of (steps_of ws)))) ∙ behind [] 0 refl (omega arith)

  -- "and with any four words behind it, it is refused at step s", and leaves the same marks
  pub further_refused : (a b c d : ℕ)
      → (q : StepQuestion) × (check_list ws ms (words_of (steps_of ws) ++ a ∷ b ∷ c ∷ d ∷ []) ≡ record { answer = Err (refusal.Step q (length (steps_of ws))); marks = marks_left })
  further_refused a b c d =
      let ls = words_of (steps_of ws) ++ a ∷ b ∷ c ∷ d ∷ [] in
      let k = length (steps_of ws) in
      let r = no (verdict_on ws marks_left ls k) refl in
      (r.0, behind (a ∷ b ∷ c ∷ d ∷ []) 1 refl (omega arith) ∙ step_refused ws marks_left ls k r.0 r.1)
    where
      left_is : view ws marks_left ≡ leaves (get_or ws 0 0) (whole (program_of ws).clauses) (steps_of ws)
      left_is =
          let e = view_all_kept ws ms p in
          (view_after_all (get_or ws 0 0) ws (all_kept ws ms) (steps_of ws) p (omega (arith, length_all_kept ws ms l)) (subst (λ P. So (accepted (get_or ws 0 0) P (steps_of ws))) (sym e) (steps_accepted ws p))).0
          ∙ ap (λ P. leaves (get_or ws 0 0) P (steps_of ws)) e

      none_open : (u : Step) → ¬ So (applies (get_or ws 0 0) (view ws marks_left) u)
      none_open u h = greedy_end (get_or ws 0 0) (steps_greedy ws p) u (subst (λ P. So (applies (get_or ws 0 0) P u)) left_is h)

      ls : List ℕ
      ls = words_of (steps_of ws) ++ a ∷ b ∷ c ∷ d ∷ []

      no : (v : Verdict) → verdict_on ws marks_left ls (length (steps_of ws)) ≡ v → (q : StepQuestion) × (verdict_on ws marks_left ls (length (steps_of ws)) ≡ Err q)
      no (Ok u) e = absurd (none_open (step_at ls (length (steps_of ws))) (fine_applies (get_or ws 0 0) (view ws marks_left) (kind_at ls (length (steps_of ws))) (step_at ls (length (steps_of ws))) e))
      no (Err q) e = (q, e)

-- the marks of the table's words that the reducer's list leaves don't depend on the marks before
left_agree : (ws ks ms : List ℕ) → Passed ws → length ws ≤ length ks → length ws ≤ length ms
    → take (length ws) (marks_after_all ws (all_kept ws ks) (steps_of ws)) ≡ take (length ws) (marks_after_all ws (all_kept ws ms) (steps_of ws))
left_agree ws ks ms p a b =
    let x = marks_after_all ws (all_kept ws ks) (steps_of ws) in
    let y = marks_after_all ws (all_kept ws ms) (steps_of ws) in
    let u : length (take (length ws) x) ≡ length ws = length-take-le (length ws) x (omega (arith, length_after_all ws (steps_of ws) (all_kept ws ks), length_all_kept ws ks a)) in
    let v : length (take (length ws) y) ≡ length ws = length-take-le (length ws) y (omega (arith, length_after_all ws (steps_of ws) (all_kept ws ms), length_all_kept ws ms b)) in
    ext_get_or 0 (take (length ws) x) (take (length ws) y) (u ∙ sym v) (λ i h.
    get_or-take (length ws) x i 0 (omega arith)
    ∙ after_all_agree ws p (steps_of ws) (all_kept ws ks) (all_kept ws ms) (omega (arith, length_all_kept ws ks a)) (omega (arith, length_all_kept ws ms b)) (λ j _ k. all_kept_one ws ks j k ∙ sym (all_kept_one ws ms j k)) i (omega arith) (omega arith)
    ∙ sym (get_or-take (length ws) y i 0 (omega arith)))

-- the marks at 0 that the reducer's list leaves are no fewer than its steps, and without kind 9 among them just as many
zeros_left : (ws ms : List ℕ) → Passed ws → length ws ≤ length ms
    → (length (steps_of ws) ≤ zeros ws (marks_after_all ws (all_kept ws ms) (steps_of ws))) × (So (without_nine (steps_of ws)) → zeros ws (marks_after_all ws (all_kept ws ms) (steps_of ws)) ≡ length (steps_of ws))
zeros_left ws ms p l =
    let w = view_after_all (get_or ws 0 0) ws (all_kept ws ms) (steps_of ws) p (omega (arith, length_all_kept ws ms l)) (subst (λ P. So (accepted (get_or ws 0 0) P (steps_of ws))) (sym (view_all_kept ws ms p)) (steps_accepted ws p)) in
    (omega (arith, w.1, zeros_all_kept ws ms), λ n. omega (arith, w.2 n, zeros_all_kept ws ms))

-- ---- the reducer's call, and the checker's on its list

-- the reducer's list: "the 4s words of a call that passes 9 and 17"
pub list_words_lem : (ws ms ls : List ℕ) (s : ℕ) → (reduction ws ms ls).answer ≡ Ok s → take (4 * s) (reduction ws ms ls).list ≡ words_of (steps_of ws)
list_words_lem ws ms ls s h =
    let t = reducer_taken ws ms ls s h in
    rw t.list (take_written (words_of (steps_of ws)) ls (4 * s) (omega (arith, length_words (steps_of ws), t.count)))

module _ (ws ms ls ks : List ℕ) (s : ℕ) (h : (reduction ws ms ls).answer ≡ Ok s) (l : length ws ≤ length ks) where
  -- The reducer's list is accepted with any marks that pass 9, with its number of steps,
  pub reducer_accepted : (check_list ws ks (take (4 * s) (reduction ws ms ls).list)).answer ≡ Ok s
  reducer_accepted =
      let t = reducer_taken ws ms ls s h in
      ap (λ x. (check_list ws ks x).answer) (list_words_lem ws ms ls s h) ∙ ap (λ o. o.answer) (list_accepted ws ks t.passed l) ∙ ap Ok (sym t.count)

  -- and leaves the marks of the table's words as the reducer did.
  pub same_marks : take (length ws) (check_list ws ks (take (4 * s) (reduction ws ms ls).list)).marks ≡ take (length ws) (reduction ws ms ls).marks
  same_marks =
      let t = reducer_taken ws ms ls s h in
      ap (λ x. take (length ws) (check_list ws ks x).marks) (list_words_lem ws ms ls s h)
      ∙ ap (λ o. take (length ws) o.marks) (list_accepted ws ks t.passed l)
      ∙ left_agree ws ks ms t.passed l t.marked
      ∙ ap (take (length ws)) (sym t.marks)

  -- the marks after that list is checked are those that the reducer's list leaves
  checked_zeros : zeros ws (check_list ws ks (take (4 * s) (reduction ws ms ls).list)).marks ≡ zeros ws (marks_after_all ws (all_kept ws ks) (steps_of ws))
  checked_zeros = ap (λ x. zeros ws (check_list ws ks x).marks) (list_words_lem ws ms ls s h) ∙ ap (λ o. zeros ws o.marks) (list_accepted ws ks (reducer_taken ws ms ls s h).passed l)

  -- "s is exactly the marks at 0 among the table's words after that list is checked.", by slip 8 without kind 9 among the steps,
  pub checked_counts : So (without_nine (steps_of ws)) → s ≡ zeros ws (check_list ws ks (take (4 * s) (reduction ws ms ls).list)).marks
  checked_counts n = let t = reducer_taken ws ms ls s h in t.count ∙ sym (checked_zeros ∙ (zeros_left ws ks t.passed l).1 n)

  -- "and otherwise steps number at most the marks at 0"
  pub checked_at_most : s ≤ zeros ws (check_list ws ks (take (4 * s) (reduction ws ms ls).list)).marks
  checked_at_most = let t = reducer_taken ws ms ls s h in omega (arith, t.count, checked_zeros, (zeros_left ws ks t.passed l).0)

  -- With any four words behind it, it is refused at step s.
  pub reducer_further : (a b c d : ℕ) → (q : StepQuestion) × ((check_list ws ks (take (4 * s) (reduction ws ms ls).list ++ a ∷ b ∷ c ∷ d ∷ [])).answer ≡ Err (refusal.Step q s))
  reducer_further a b c d =
      let t = reducer_taken ws ms ls s h in
      let r = further_refused ws ks t.passed l a b c d in
      (r.0, ap (λ x. (check_list ws ks (x ++ a ∷ b ∷ c ∷ d ∷ [])).answer) (list_words_lem ws ms ls s h) ∙ ap (λ o. o.answer) r.1 ∙ ap (λ k. Err (refusal.Step r.0 k)) (sym t.count))

-- ---- what lies past the table and past the list

-- "Marks past the table never change.", of the reducer
pub reducer_marks_past : (ws ms ls : List ℕ) → drop (length ws) (reduction ws ms ls).marks ≡ drop (length ws) ms
reducer_marks_past ws ms ls = go (reduction ws ms ls).answer refl
  where
    go : (a : Answer) → (reduction ws ms ls).answer ≡ a → drop (length ws) (reduction ws ms ls).marks ≡ drop (length ws) ms
    go (Err r) e = ap (drop (length ws)) (reducer_refused ws ms ls r e).0
    go (Ok s) e =
        let t = reducer_taken ws ms ls s e in
        ap (drop (length ws)) t.marks ∙ sym (ap (λ o. drop (length ws) o.marks) (list_accepted ws ms t.passed t.marked)) ∙ marks_past_table ws ms (words_of (steps_of ws))

-- "the list's first 4s words are written, later words don't change"
pub reducer_list_past : (ws ms ls : List ℕ) (s : ℕ) → (reduction ws ms ls).answer ≡ Ok s → drop (4 * s) (reduction ws ms ls).list ≡ drop (4 * s) ls
reducer_list_past ws ms ls s h =
    let t = reducer_taken ws ms ls s h in
    let w = words_of (steps_of ws) in
    let n : length w ≡ 4 * s = omega (arith, length_words (steps_of ws), t.count) in
    ap (drop (4 * s)) t.list ∙ drop_at w (drop (length w) ls) (4 * s) n ∙ ap (λ k. drop k ls) n

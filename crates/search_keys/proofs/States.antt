-- The state between two steps: what a search, a fresh reach and a spread key leave of it.
use mathlib.Core.Path.{◌≡◌, refl, sym, ap, subst, ◌∙◌}
use mathlib.Core.Logic.{◌≢◌, ◌⊎◌, inl, inr, by_cases, ⊎_elim}
use mathlib.Core.Bool.{So, false≢true}
use mathlib.Core.List.{List}
use Prim.Native.Nat.{ℕ, ◌+◌, ◌*◌, ◌≤◌, ◌<◌}
use native.Mathlib.Omega.{arith}
use native.Mathlib.Decide.{ℕ_discrete, dec_lt}
use lib.ListN.{length, get_or, set, length-set}
use lib.Seq.{get_or-set_same, get_or-set_other}
use Rattle.rewriting.specs.Kinds.{Kind, success, loop, number, kind_of, uses_partner, on_target}
use Rattle.rewriting.proofs.Rows.{kind_of_number, target_bounds, partner_on_target}
use Rattle.rewriting.proofs.Quiet.{Quiet, stale, key, quiet_more, quiet_spread, quiet_all}
use Rattle.table.specs.Questions as Table
use Rattle.table.specs.View.{view}
use Rattle.table.proofs.Encoding.{passed_limits}
use Rattle.step_reach.specs.Bytes.{Reached}
use Rattle.search_flags.specs.Flags.{flag_at, most, next, highest, Inside, Rows, Raising, AllFlagged, Fenced, mosts, nexts}
use Rattle.search_keys.specs.State.{Arrays, Calm, Swept, KeySpread, KeyPassed, Settled, Least, Most, Gaps, Flagged, State, Prepared}
use Rattle.search_flags.proofs.Changes.{apart, outside, rows_set}
use Rattle.search_spreads.proofs.Limits.{key_lt, target_lt}

-- ---- flags and keys by their numbers

-- only flags of targets and keys below 2,048 count
pub quiet_same : (ws ms : List ℕ) → Table.Passed ws → (k : Kind) (f g f' g' : ℕ → ℕ) → Quiet (get_or ws 0 0) (view ws ms) k f g
    → ((i : ℕ) → i < 2048 → f' i ≡ 0 → f i ≡ 0) → ((i : ℕ) → i < 2048 → g' i ≡ 0 → g i ≡ 0) → Quiet (get_or ws 0 0) (view ws ms) k f' g'
quiet_same ws ms p k f g f' g' q a b = record { calm = λ u e m x h. q.calm u e (a u.target (omega (arith, target_lt ws ms u h, (passed_limits ws p).few_clauses)) m) (b (key u) (key_lt ws ms p u h) x) h }

-- kinds of one number are one
number_same : (k j : Kind) → number k ≡ number j → k ≡ j
number_same k j e = sym (kind_of_number k) ∙ ap kind_of e ∙ kind_of_number j

-- the rows of a kind
row_low : (k : Kind) → So (on_target k) → number k ≤ 16
row_low k o = omega (arith, target_bounds k o)

row_high : (k : Kind) → So (on_target k) → 8 + number k ≤ 16
row_high k o = omega (arith, target_bounds k o)

-- a kind with a partner is not the loop's
pub partner_loop : (flags : List ℕ) (k : Kind) → So (uses_partner k) → Flagged k flags
partner_loop flags k p = (partner_on_target k p, λ e. absurd (false≢true (subst (λ j. So (uses_partner j)) e p)))

module _ (ws ms index hs rs flags : List ℕ) (z : State ws ms index hs rs flags) where
  pub few_clauses_lem : get_or ws 1 0 ≤ 2048
  few_clauses_lem = (passed_limits ws z.ready.placed.passed).few_clauses

  -- the searches' requirements
  pub state_arrays : (kind : Kind) → (kind ≡ loop → flag_at flags 0 0 ≡ 0) → Arrays ws ms index hs rs kind
  state_arrays kind h = record { ready = z.ready; counted = z.counted; reached = λ e. z.reached (h e) }

  pub state_calm : (kind : Kind) → So (on_target kind) → (kind ≡ loop → flag_at flags 0 0 ≡ 0) → Settled flags kind → Calm ws ms flags kind
  state_calm kind o h s = record {
    rows = z.rows;
    quiet = quiet_same ws ms z.ready.placed.passed kind (flag_at flags (number kind)) (flag_at flags (8 + number kind)) (flag_at flags (number kind)) stale (z.quiet kind (o, h)) (λ i l e. e) (λ i l e. s i l);
    least = λ p u e f h. z.least kind p u e (s (key u) (key_lt ws ms z.ready.placed.passed u h)) h;
    bounded = λ e u f _ h. z.bounded u f (subst (λ j. flag_at flags (8 + number j) (key u) ≡ 0) e (s (key u) (key_lt ws ms z.ready.placed.passed u h))) h;
    gaps = z.gaps;
  }

  -- other flags of the same words and marks
  state_with : (flags' : List ℕ) → Rows (get_or ws 1 0) flags' → (flag_at flags' 0 0 ≡ 0 → flag_at flags 0 0 ≡ 0)
      → ((k : Kind) → Flagged k flags → Quiet (get_or ws 0 0) (view ws ms) k (flag_at flags (number k)) (flag_at flags (8 + number k)) → Quiet (get_or ws 0 0) (view ws ms) k (flag_at flags' (number k)) (flag_at flags' (8 + number k)))
      → ((k : Kind) → Flagged k flags → Least ws ms k (flag_at flags' (number k)) (flag_at flags' (8 + number k))) → Most ws ms (most flags') (flag_at flags' 11) → Gaps ws ms flags' → State ws ms index hs rs flags'
  state_with flags' r e q w b g = record {
    ready = z.ready;
    counted = z.counted;
    atoms = z.atoms;
    bytes = z.bytes;
    rows = r;
    reached = λ h. z.reached (e h);
    quiet = λ k h. q k (h.0, λ x. e (h.1 x)) (z.quiet k (h.0, λ x. e (h.1 x)));
    least = λ k p. w k (partner_loop flags k p) p;
    bounded = b;
    gaps = g;
  }

  -- a target that has a step with a key that is not fresh is flagged, so its flag can only have become less
  least_at : (flags' : List ℕ) (k : Kind) → Flagged k flags → ((i : ℕ) → i < 2048 → flag_at flags (number k) i ≢ 0 → flag_at flags' (number k) i ≤ flag_at flags (number k) i) → ((i : ℕ) → i < 2048 → flag_at flags' (8 + number k) i ≡ 0 → flag_at flags (8 + number k) i ≡ 0)
      → Least ws ms k (flag_at flags' (number k)) (flag_at flags' (8 + number k))
  least_at flags' k n a b p u e f h =
      let t = target_lt ws ms u h in
      let g = b (key u) (key_lt ws ms z.ready.placed.passed u h) f in
      let y = z.least k p u e g h in
      let x = a u.target (omega (arith, few_clauses_lem)) (λ m. (z.quiet k n).calm u e m g h) in
      omega arith

  -- the bound of a target can only have become more
  most_at : (flags' : List ℕ) → ((i : ℕ) → i < 2048 → most flags i ≤ most flags' i) → ((i : ℕ) → i < 2048 → flag_at flags' 11 i ≡ 0 → flag_at flags 11 i ≡ 0) → Most ws ms (most flags') (flag_at flags' 11)
  most_at flags' a b u e f h =
      let x = z.bounded u e (b (key u) (key_lt ws ms z.ready.placed.passed u h) f) h in
      let y = a u.target (omega (arith, target_lt ws ms u h, few_clauses_lem)) in omega arith

  gaps_at : (flags' : List ℕ) → ((i : ℕ) → i < 2048 → next flags' i ≡ next flags i) → Gaps ws ms flags'
  gaps_at flags' e p j l a b = z.gaps p j l a (omega (arith, e p l, b))

  same_at : (flags' : List ℕ) (k : Kind) → ((i : ℕ) → i < 2048 → flag_at flags' (number k) i ≡ 0 → flag_at flags (number k) i ≡ 0) → ((i : ℕ) → i < 2048 → flag_at flags' (8 + number k) i ≡ 0 → flag_at flags (8 + number k) i ≡ 0)
      → Quiet (get_or ws 0 0) (view ws ms) k (flag_at flags (number k)) (flag_at flags (8 + number k)) → Quiet (get_or ws 0 0) (view ws ms) k (flag_at flags' (number k)) (flag_at flags' (8 + number k))
  same_at flags' k a b q = quiet_same ws ms z.ready.placed.passed k (flag_at flags (number k)) (flag_at flags (8 + number k)) (flag_at flags' (number k)) (flag_at flags' (8 + number k)) q a b

  -- after a flag or more: nothing is lost
  pub state_raised : (flags' : List ℕ) (row top : ℕ) → Raising flags flags' row top → (1 ≤ row → row ≤ 8 → top ≤ get_or ws 1 0) → State ws ms index hs rs flags'
  state_raised flags' row top g h = state_with flags' (g.rows (get_or ws 1 0) h z.rows) (λ e. g.grown 0 0 (omega arith) (omega arith) e)
      (λ k n. same_at flags' k (λ i l e. g.grown (number k) i (row_low k n.0) l e) (λ i l e. g.grown (8 + number k) i (row_high k n.0) l e))
      (λ k n. least_at flags' k n (λ i l f. g.lower (number k) i (row_low k n.0) l f) (λ i l e. g.grown (8 + number k) i (row_high k n.0) l e))
      (most_at flags' g.more (λ i l e. g.grown 11 i (omega arith) l e)) (gaps_at flags' g.rest)

  -- after bounds were drawn closer
  pub state_fenced : (flags' : List ℕ) (row low end : ℕ) → Fenced flags flags' row low end → Inside flags row low end → end ≤ 2048 → (row ≤ 8 → end ≤ get_or ws 1 0) → State ws ms index hs rs flags'
  state_fenced flags' row low end f n h g = state_with flags' (f.rows (get_or ws 1 0) z.rows n h g) (λ e. sym (f.same 0 0 (omega arith) (omega arith)) ∙ e)
      (λ k n. same_at flags' k (λ i l e. sym (f.same (number k) i (row_low k n.0) l) ∙ e) (λ i l e. sym (f.same (8 + number k) i (row_high k n.0) l) ∙ e))
      (λ k n. least_at flags' k n (λ i l _. omega (arith, f.same (number k) i (row_low k n.0) l)) (λ i l e. sym (f.same (8 + number k) i (row_high k n.0) l) ∙ e))
      (most_at flags' f.more (λ i l e. sym (f.same 11 i (omega arith) l) ∙ e)) (gaps_at flags' f.rest)

  -- after a search
  pub state_swept : (flags' : List ℕ) (kind : Kind) → 1 ≤ number kind → number kind ≤ 8 → Swept ws ms flags flags' kind → State ws ms index hs rs flags'
  state_swept flags' kind a b s = state_with flags' s.calm.rows (λ e. sym (s.frame 0 (omega arith) (inl (omega arith))) ∙ e) (λ k n q. by_cases (ℕ_discrete (number k) (number kind))
      (λ e. quiet_more (get_or ws 0 0) (view ws ms) k (flag_at flags' (number k)) stale
      (subst (λ j. Quiet (get_or ws 0 0) (view ws ms) j (flag_at flags' (number j)) stale) (sym (number_same k kind e)) s.calm.quiet)
      (flag_at flags' (number k)) (flag_at flags' (8 + number k)) (λ i e. e) (λ i e. refl))
      (λ d. same_at flags' k (λ i l e. sym (s.frame (number k * 2048 + i) (omega (arith, target_bounds k n.0)) (aside (number k) i l d)) ∙ e)
      (λ i l e. sym (s.frame ((8 + number k) * 2048 + i) (omega (arith, target_bounds k n.0)) (aside (8 + number k) i l (λ x. omega (arith, target_bounds k n.0)))) ∙ e) q))
      (λ k n. by_cases (ℕ_discrete (number k) (number kind))
      (λ e p u f g h. subst (λ j. flag_at flags' (number j) u.target ≤ key u + 1) (sym (number_same k kind e)) (s.calm.least (subst (λ j. So (uses_partner j)) (number_same k kind e) p) u (f ∙ number_same k kind e) refl h))
      (λ d. least_at flags' k n (λ i l _. omega (arith, s.frame (number k * 2048 + i) (omega (arith, target_bounds k n.0)) (aside (number k) i l d)))
      (λ i l e. sym (s.frame ((8 + number k) * 2048 + i) (omega (arith, target_bounds k n.0)) (aside (8 + number k) i l (λ x. omega (arith, target_bounds k n.0)))) ∙ e)))
      (most_at flags' (λ i l. omega (arith, s.frame (mosts + i) (omega arith) (inr (omega arith)))) (λ i l e. sym (s.frame (11 * 2048 + i) (omega arith) (inr (omega arith))) ∙ e)) s.calm.gaps
    where
      aside : (r i : ℕ) → i < 2048 → r ≢ number kind → (r * 2048 + i < number kind * 2048) ⊎ (number kind * 2048 + 2048 ≤ r * 2048 + i)
      aside r i l d = by_cases (dec_lt r (number kind)) (λ x. inl (omega arith)) (λ x. inr (omega arith))

  -- a key spread
  module _ (flags' : List ℕ) (kind : Kind) (x : ℕ) (a : 1 ≤ number kind) (b : number kind ≤ 8) (l : x < 2048) (s : KeySpread ws ms flags flags' kind x) where
    abbrev gone : List ℕ
    gone = set flags' ((8 + number kind) * 2048 + x) 0

    elsewhere : (r i : ℕ) → i < 2048 → (r ≢ 8 + number kind) ⊎ (i ≢ x) → flag_at gone r i ≡ flag_at flags' r i
    elsewhere r i k o = get_or-set_other flags' ((8 + number kind) * 2048 + x) (r * 2048 + i) 0 0 (λ e. ⊎_elim (λ d. apart r (8 + number kind) i x k l d e) (λ d. by_cases (ℕ_discrete r (8 + number kind)) (λ q. d (omega arith)) (λ q. apart r (8 + number kind) i x k l q e)) o)

    after_spread : State ws ms index hs rs flags'
    after_spread = state_raised flags' (number kind) (get_or ws 1 0) s.raising (λ _ _. omega arith)

    key_quiet : (k : Kind) → Flagged k flags → Quiet (get_or ws 0 0) (view ws ms) k (flag_at flags (number k)) (flag_at flags (8 + number k)) → Quiet (get_or ws 0 0) (view ws ms) k (flag_at gone (number k)) (flag_at gone (8 + number k))
    key_quiet k n q = by_cases (ℕ_discrete (number k) (number kind))
        (λ e. quiet_same ws ms z.ready.placed.passed k (flag_at flags' (number k)) (flag_at gone (8 + number k)) (flag_at gone (number k)) (flag_at gone (8 + number k))
        (quiet_spread (get_or ws 0 0) (view ws ms) k (flag_at flags' (number k)) (flag_at flags' (8 + number k)) (raised q) (flag_at flags' (number k)) (flag_at gone (8 + number k)) x (λ i e. e)
        (λ i d h. by_cases (dec_lt i 2048) (λ j. sym (elsewhere (8 + number k) i j (inr d)) ∙ h)
        (λ j. sym (get_or-set_other flags' ((8 + number kind) * 2048 + x) ((8 + number k) * 2048 + i) 0 0 (λ y. omega arith)) ∙ h))
        (λ u f d h. subst (λ r. flag_at flags' r u.target ≢ 0) (sym e) (s.flagged u (f ∙ number_same k kind e) d h).0))
        (λ i j h. sym (elsewhere (number k) i j (inl (λ y. omega (arith, target_bounds k n.0)))) ∙ h) (λ i j h. h))
        (λ d. same_with k (raised q) (λ i j h. sym (elsewhere (number k) i j (inl (λ y. omega (arith, target_bounds k n.0)))) ∙ h) (λ i j h. sym (elsewhere (8 + number k) i j (inl (λ y. d (omega arith)))) ∙ h))
      where
        raised : Quiet (get_or ws 0 0) (view ws ms) k (flag_at flags (number k)) (flag_at flags (8 + number k)) → Quiet (get_or ws 0 0) (view ws ms) k (flag_at flags' (number k)) (flag_at flags' (8 + number k))
        raised q = same_at flags' k (λ i j e. s.raising.grown (number k) i (row_low k n.0) j e) (λ i j e. s.raising.grown (8 + number k) i (row_high k n.0) j e) q

        same_with : (k : Kind) → Quiet (get_or ws 0 0) (view ws ms) k (flag_at flags' (number k)) (flag_at flags' (8 + number k)) → ((i : ℕ) → i < 2048 → flag_at gone (number k) i ≡ 0 → flag_at flags' (number k) i ≡ 0)
            → ((i : ℕ) → i < 2048 → flag_at gone (8 + number k) i ≡ 0 → flag_at flags' (8 + number k) i ≡ 0) → Quiet (get_or ws 0 0) (view ws ms) k (flag_at gone (number k)) (flag_at gone (8 + number k))
        same_with k q c d = quiet_same ws ms z.ready.placed.passed k (flag_at flags' (number k)) (flag_at flags' (8 + number k)) (flag_at gone (number k)) (flag_at gone (8 + number k)) q c d

    key_least : (k : Kind) → Flagged k flags → Least ws ms k (flag_at gone (number k)) (flag_at gone (8 + number k))
    key_least k n p u e f h =
        let t : u.target < 2048 = omega (arith, target_lt ws ms u h, few_clauses_lem) in
        let l' = key_lt ws ms z.ready.placed.passed u h in
        let same = elsewhere (number k) u.target t (inl (λ y. omega (arith, target_bounds k n.0))) in
        by_cases (ℕ_discrete (number k) (number kind))
        (λ q. by_cases (ℕ_discrete (key u) x)
        (λ d. let w = ((s.flagged u (e ∙ number_same k kind q) d h).1 (subst (λ j. So (uses_partner j)) (number_same k kind q) p)).0.1 in
        let v : flag_at flags' (number k) u.target ≡ flag_at flags' (number kind) u.target = ap (λ r. flag_at flags' r u.target) q in omega (arith, w, v, same, d))
        (λ d. let w = after_spread.least k p u e (sym (elsewhere (8 + number k) (key u) l' (inr d)) ∙ f) h in omega (arith, w, same)))
        (λ q. let w = after_spread.least k p u e (sym (elsewhere (8 + number k) (key u) l' (inl (λ y. q (omega arith)))) ∙ f) h in omega (arith, w, same))

    key_bounded : Most ws ms (most gone) (flag_at gone 11)
    key_bounded u e f h =
        let l' = key_lt ws ms z.ready.placed.passed u h in
        let same : most gone u.target ≡ most flags' u.target = get_or-set_other flags' ((8 + number kind) * 2048 + x) (mosts + u.target) 0 0 (λ y. omega arith) in
        by_cases (ℕ_discrete (number kind) 3)
        (λ q. by_cases (ℕ_discrete (key u) x)
        (λ d. let w = ((s.flagged u (e ∙ sym (number_same kind success q)) d h).1 (subst (λ j. So (uses_partner j)) (sym (number_same kind success q)) refl)).1 q in omega (arith, w, same, d))
        (λ d. let w = after_spread.bounded u e (sym (elsewhere 11 (key u) l' (inr d)) ∙ f) h in omega (arith, w, same)))
        (λ q. let w = after_spread.bounded u e (sym (elsewhere 11 (key u) l' (inl (λ y. q (omega arith)))) ∙ f) h in omega (arith, w, same))

    pub key_passed : KeyPassed ws ms index hs rs flags gone kind x
    key_passed = record {
      state = state_with gone (rows_set flags' (8 + number kind) x 0 (omega arith) l (λ _. refl) (get_or ws 1 0) after_spread.rows)
          (λ e. s.raising.grown 0 0 (omega arith) (omega arith) (sym (elsewhere 0 0 (omega arith) (inl (λ y. omega arith))) ∙ e)) key_quiet key_least key_bounded
          (gaps_at gone (λ i k. get_or-set_other flags' ((8 + number kind) * 2048 + x) (nexts + i) 0 0 (λ y. omega arith) ∙ s.raising.rest i k));
      long = simp length-set s.raising.long;
      reach = elsewhere 0 0 (omega arith) (inl (λ y. omega arith)) ∙ s.raising.frame 0 0 (omega arith) (omega arith) (λ e. omega arith);
      gone = get_or-set_same flags' ((8 + number kind) * 2048 + x) 0 0 (omega (arith, after_spread.rows.long));
      rest = λ i k d. elsewhere (8 + number kind) i k (inr d) ∙ s.raising.frame (8 + number kind) i (omega arith) k (λ e. omega arith);
    }

  -- a key that was not fresh
  pub key_stale : (kind : Kind) (x : ℕ) → flag_at flags (8 + number kind) x ≡ 0 → KeyPassed ws ms index hs rs flags flags kind x
  key_stale kind x e = record { state = z; long = refl; reach = refl; gone = e; rest = λ i l d. refl }

  -- the reach found anew, and every target of kind 7 flagged
  pub state_reached : (rs' flags' : List ℕ) → Reached ws ms rs' → length rs' ≡ length rs → Raising flags flags' 7 (get_or ws 1 0) → AllFlagged flags' 7 (get_or ws 1 0) → State ws ms index hs rs' (set flags' 0 0)
  state_reached rs' flags' r lr g f = record {
    ready = z.ready;
    counted = z.counted;
    atoms = z.atoms;
    bytes = omega (arith, z.bytes);
    rows = rows_set flags' 0 0 0 (omega arith) (omega arith) (λ _. refl) (get_or ws 1 0) (g.rows (get_or ws 1 0) (λ _ _. omega arith) z.rows);
    reached = λ _. r;
    quiet = λ k n. by_cases (ℕ_discrete (number k) 7)
        (λ e. quiet_all (get_or ws 0 0) (view ws ms) k (flag_at after (number k)) (flag_at after (8 + number k)) (λ u h x. f u.target (target_lt ws ms u h) (sym (other (7 * 2048 + u.target) (omega arith)) ∙ subst (λ j. flag_at after j u.target ≡ 0) e x)))
        (λ d. same_at after k (λ i l e. g.grown (number k) i (row_low k n.0) l (sym (other (number k * 2048 + i) (omega (arith, target_bounds k n.0))) ∙ e))
        (λ i l e. g.grown (8 + number k) i (row_high k n.0) l (sym (other ((8 + number k) * 2048 + i) (omega (arith, target_bounds k n.0))) ∙ e)) (z.quiet k (n.0, λ e. absurd (d (ap number e)))));
    least = λ k p. let n = partner_loop flags k p in least_at after k n (λ i l f. let w = g.lower (number k) i (row_low k n.0) l f in omega (arith, w, other (number k * 2048 + i) (omega (arith, target_bounds k n.0))))
        (λ i l e. g.grown (8 + number k) i (row_high k n.0) l (sym (other ((8 + number k) * 2048 + i) (omega (arith, target_bounds k n.0))) ∙ e)) p;
    bounded = most_at after (λ i l. omega (arith, g.more i l, other (mosts + i) (omega arith))) (λ i l e. g.grown 11 i (omega arith) l (sym (other (11 * 2048 + i) (omega arith)) ∙ e));
    gaps = gaps_at after (λ i l. other (nexts + i) (omega arith) ∙ g.rest i l);
  }
    where
      after : List ℕ
      after = set flags' 0 0

      other : (j : ℕ) → 0 < j → get_or after j 0 ≡ get_or flags' j 0
      other j l = get_or-set_other flags' 0 j 0 0 (λ e. omega arith)

-- ---- the keys of a kind, one after the other

-- the keys below x are fresh no more
pub record Settling (ws ms index hs rs flags flags' : List ℕ) (kind : Kind) (x end : ℕ) : Type 0 where
  pub state : State ws ms index hs rs flags'
  pub long : length flags' ≡ length flags
  pub inside : Inside flags' (8 + number kind) x end
  pub reach : flag_at flags 0 0 ≡ 0 → flag_at flags' 0 0 ≡ 0

pub settling_none : (ws ms index hs rs flags : List ℕ) (kind : Kind) (low end : ℕ) → State ws ms index hs rs flags → Inside flags (8 + number kind) low end → Settling ws ms index hs rs flags flags kind low end
settling_none ws ms index hs rs flags kind low end z w = record { state = z; long = refl; inside = w; reach = λ e. e }

module _ (ws ms index hs rs flags flags' : List ℕ) (kind : Kind) (x end : ℕ) (s : Settling ws ms index hs rs flags flags' kind x end) where
  pub settling_on : (flags'' : List ℕ) → KeyPassed ws ms index hs rs flags' flags'' kind x → Settling ws ms index hs rs flags flags'' kind (x + 1) end
  settling_on flags'' k = record {
    state = k.state;
    long = k.long ∙ s.long;
    inside = λ i l f. by_cases (ℕ_discrete i x) (λ d. absurd (f (subst (λ j. flag_at flags'' (8 + number kind) j ≡ 0) (sym d) k.gone)))
        (λ d. let q = s.inside i l (λ e. f (k.rest i l d ∙ e)) in (omega arith, q.1));
    reach = λ e. k.reach ∙ s.reach e;
  }

  pub settling_end : 1 ≤ number kind → number kind ≤ 8 → end ≤ 2048 → end ≤ x → (flags'' : List ℕ) → Fenced flags' flags'' (8 + number kind) end end
      → State ws ms index hs rs flags'' × (Settled flags'' kind × (flag_at flags 0 0 ≡ 0 → flag_at flags'' 0 0 ≡ 0))
  settling_end a b c l flags'' f = (
    state_fenced ws ms index hs rs flags' s.state flags'' (8 + number kind) end end f (λ i k h. let q = s.inside i k h in absurd (omega arith)) c (λ h. absurd (omega arith)),
    (
      λ y k. f.same (8 + number kind) y (omega arith) k ∙ outside flags' (8 + number kind) x end y s.inside k (λ p q. omega arith),
      λ e. f.same 0 0 (omega arith) (omega arith) ∙ s.reach e,
    ),
  )

-- ---- the search of a kind

module _ (ws ms index hs rs flags : List ℕ) (kind : Kind) (p : Prepared ws ms index hs rs flags kind) (o : So (on_target kind)) where
  pub prepared_arrays : Arrays ws ms index hs rs kind
  prepared_arrays = state_arrays ws ms index hs rs flags p.state kind p.known

  pub prepared_calm : Calm ws ms flags kind
  prepared_calm = state_calm ws ms index hs rs flags p.state kind o p.known p.settled

  -- the search, then the row's bounds drawn closer
  pub prepared_swept : (flags' flags'' : List ℕ) (low end : ℕ) → Swept ws ms flags flags' kind → Inside flags' (number kind) low end → end ≡ highest flags (number kind) → Fenced flags' flags'' (number kind) low end → State ws ms index hs rs flags''
  prepared_swept flags' flags'' low end s n e f = state_fenced ws ms index hs rs flags' (state_swept ws ms index hs rs flags p.state flags' kind a b s) flags'' (number kind) low end f n
      (omega (arith, p.state.rows.high (number kind) a (omega (arith, b)))) (λ _. omega (arith, p.state.rows.few (number kind) a b))
    where
      a : 1 ≤ number kind
      a = (target_bounds kind o).0

      b : number kind ≤ 8
      b = (target_bounds kind o).1

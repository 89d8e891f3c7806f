-- The clauses that can be targets as bytes, those that are idle, and the first that fits.
use mathlib.Core.Path.{◌≡◌, refl, sym, ap, subst, ◌∙◌}
use mathlib.Core.Logic.{inl, inr, ⊎_elim, by_cases}
use mathlib.Core.Bool.{Bool, true, false, not, ◌&&◌, cond, So}
use mathlib.Core.List.{List}
use Prim.Native.Nat.{ℕ, ◌+◌, ◌≤◌, ◌<◌}
use native.Mathlib.Omega.{arith}
use native.Mathlib.Decide.{ℕ_discrete, dec_lt}
use mir.Val.{bool_byte}
use lib.Dec.{eqb, ltb}
use lib.ListN.{length, get_or, set, take}
use lib.Seq.{get_or-set_same, get_or-set_other}
use borrow.Author.Tests.{eq-eqb, lt-ltb, le-ltb}
use Rattle.semantics.specs.Lists.{all, null}
use Rattle.semantics.specs.Programs.{Atoms}
use Rattle.semantics.proofs.Tests.{and_iff, not_iff, all_iff}
use Rattle.rewriting.specs.Marked.{Marked, entry, left}
use Rattle.rewriting.proofs.Left.{kept_lt}
use Rattle.rewriting.proofs.Exclusion.{excludes_iff}
use Rattle.table.specs.View.{view}
use Rattle.step_reach.specs.Bytes.{in_bytes}
use Rattle.step_reach.specs.Counts.{Queued, WithSettled}
use Rattle.step_reach.proofs.Queue.{queued_same}
use Rattle.step_reach.proofs.Counts.{lacks_none}
use Rattle.search_closure.specs.Back.{Full, First, Cleared}
use Rattle.search_exclusion.specs.Smallest.{Idle}
use Rattle.search_exclusion.specs.Tries.{Best, plain_kept, Targets, Fits, Improves, Trial, BestOf, Remembered}

-- ---- a clause that can be a target

-- whether clause t can be one, with the idle clauses s
abbrev pub can_be : Marked → List ℕ → ℕ → Bool
can_be P s t = not (in_bytes s t) && plain_kept (entry P t)

-- ---- bytes

-- a test as a byte
pub byte_test : (b : Bool) → eqb (bool_byte b) 1 ≡ b
byte_test true = refl
byte_test false = refl

pub bytes_on : (f : ℕ → Bool) (s : List ℕ) (t v : ℕ) (b : Bool) → t < length s → eqb v 1 ≡ b → b ≡ f t → ((u : ℕ) → u < t → in_bytes s u ≡ f u) → (u : ℕ) → u < t + 1 → in_bytes (set s t v) u ≡ f u
bytes_on f s t v b l e q h u k = by_cases (ℕ_discrete u t)
    (λ d. rw (d, get_or-set_same s t v 0 l) (e ∙ q))
    (λ d. ap (λ x. eqb x 1) (get_or-set_other s t u v 0 d) ∙ h u (omega arith))

pub targets_end : (n : ℕ) (P : Marked) (s can : List ℕ) → Idle n P s → ((u : ℕ) → u < length P → in_bytes can u ≡ can_be P s u) → Targets n P can
targets_end n P s can i h = record {
  plain = λ t l m. ((and_iff (not (in_bytes s t)) _).0 (sym (h t l) ∙ m)).1;
  each = λ t a x. h t (kept_lt P t x.kept) ∙ (and_iff (not (in_bytes s t)) _).1 ((not_iff (in_bytes s t)).1 (λ m. i.none t a m x), (and_iff (entry P t).kept _).1 (x.kept, ((excludes_iff (left P) (entry P t).clause a).0 x.applies).constraint));
}

-- ---- the first that fits

-- a clause that lacks none of the atoms taken fits the set of these
first_fits : (ws ms can : List ℕ) {s q : List ℕ} {k r : ℕ} → Queued s q k → First (Full ws ms can (take k q)) (get_or ws 1 0) r → First (Fits (view ws ms) can (in_bytes s)) (get_or ws 1 0) r
first_fits ws ms can {s} {q} {k} {r} z f = record {
  within = f.within;
  hit = λ l. let x = f.hit l in (x.1.0, (all_iff (in_bytes s) (entry (view ws ms) r).clause.pos).1 (λ a m. (queued_same z a).1 ((lacks_none (take k q) (entry (view ws ms) r).clause.pos).0 x.1.1 a m)));
  before = λ u l x. f.before u l (omega (arith, f.within), (x.0, (lacks_none (take k q) (entry (view ws ms) u).clause.pos).1 (λ a m. (queued_same z a).0 ((all_iff (in_bytes s) (entry (view ws ms) u).clause.pos).0 x.1 a m))));
}

module _ {P : Marked} {s : List ℕ} {D : Atoms} {atom : ℕ} {old new : Best} where
  -- the better of the pair and the first clause that fits
  improves_by : {end : ℕ} (t : ℕ) → old.target ≤ end → First (Fits P s D) end t → new ≡ cond (ltb t old.target) (record { target = t; atom = atom }) old → Improves P s D atom old new
  improves_by t l f e = by_cases (dec_lt t old.target)
      (λ k. subst (Improves P s D atom old) (sym (e ∙ rw (lt-ltb t old.target k))) (now_t k))
      (λ k. subst (Improves P s D atom old) (sym (e ∙ rw (le-ltb t old.target (omega arith)))) (still (omega arith)))
    where
      now_t : t < old.target → Improves P s D atom old (record { target = t; atom = atom })
      now_t k = record { within = omega arith; hit = λ _. (f.hit (omega arith), refl); stays = λ d. absurd (omega arith); before = f.before }

      still : old.target ≤ t → Improves P s D atom old old
      still k = record { within = omega arith; hit = λ h. absurd (omega arith); stays = λ _. refl; before = λ u h. f.before u (omega arith) }

  -- which clauses are kept does not count
  pub improves_as : {Q : Marked} → ((t : ℕ) → (entry P t).clause ≡ (entry Q t).clause) → Improves P s D atom old new → Improves Q s D atom old new
  improves_as e m = record {
    within = m.within;
    hit = λ l. let x = m.hit l in ((x.0.0, subst (λ c. So (all D c.pos)) (e new.target) x.0.1), x.1);
    stays = m.stays;
    before = λ u l x. m.before u l (x.0, subst (λ c. So (all D c.pos)) (sym (e u)) x.1);
  }

-- what follows from the atom joined, and was taken back
pub trial_by : (ws ms can : List ℕ) {atom : ℕ} {q s' missing' q' todo todo' : List ℕ} {top end t : ℕ} {old new : Best} → old.target ≤ get_or ws 1 0 → WithSettled ws ms atom q top s' missing' q' end
    → First (Full ws ms can (take end q')) (get_or ws 1 0) t → new ≡ cond (ltb t old.target) (record { target = t; atom = atom }) old → Cleared (take end q') todo todo' → Trial ws ms can atom old todo todo' new
trial_by ws ms can {s' = s'} {t = t} l w f e c = record {
  follows = s';
  reached = w.reached;
  better = improves_by t l (first_fits ws ms can w.rest.queued f) e;
  less = c.less;
  struck = λ b m n. (queued_same w.rest.queued b).1 (c.gone b m n);
}

-- ---- idle clauses

pub remember_none : (can s : List ℕ) → Remembered can 0 s s
remember_none can s = record { is = λ t m. inl m }

module _ (can : List ℕ) (i : ℕ) (s₀ s : List ℕ) (r : Remembered can i s₀ s) where
  pub remember_past : Remembered can (i + 1) s₀ s
  remember_past = record { is = λ t m. ⊎_elim (λ x. inl x) (λ x. inr (omega (arith, x.0), x.1)) (r.is t m) }

  pub remember_on : get_or can i 0 ≡ 1 → Remembered can (i + 1) s₀ (set s i 1)
  remember_on e = record {
    is = λ t m. by_cases (ℕ_discrete t i)
        (λ d. inr (omega arith, subst (λ x. So (in_bytes can x)) (sym d) (eq-eqb _ _ e)))
        (λ d. remember_past.is t (subst (λ x. So (eqb x 1)) (get_or-set_other s i t 1 0 d) m));
  }

-- Targets before the smallest step's exclude no atom.
pub idle_on : (n : ℕ) (P : Marked) (can : List ℕ) (best : Best) (s s' : List ℕ) → Idle n P s → Targets n P can → BestOf n P best → Remembered can best.target s s' → Idle n P s'
idle_on n P can best s s' h g b r = record {
  headless = λ t m k. ⊎_elim (λ x. h.headless t x k) (λ x. (plain t x).0) (r.is t m);
  positive = λ t m k. ⊎_elim (λ x. h.positive t x k) (λ x. ((and_iff (null (entry P t).clause.neg) _).0 (plain t x).1).0) (r.is t m);
  none = λ t a m x. ⊎_elim (λ y. h.none t a y x) (λ y. omega (arith, y.0, (b.before t a x).0)) (r.is t m);
}
  where
    plain : (t : ℕ) → (t < best.target) × So (in_bytes can t) → So (null (entry P t).clause.head) × So (null (entry P t).clause.neg && not (null (entry P t).clause.pos))
    plain t x = (and_iff (null (entry P t).clause.head) _).0 ((and_iff (entry P t).kept _).0 (g.plain t (omega (arith, x.0, b.within)) x.1)).1

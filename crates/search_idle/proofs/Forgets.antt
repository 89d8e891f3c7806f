-- The set of what may follow, grown atom by atom along the index, and the constraints that are forgotten on the way.
use mathlib.Core.Path.{◌≡◌, refl, sym, subst, ◌∙◌}
use mathlib.Core.Logic.{by_cases, ⊎_elim}
use mathlib.Core.Bool.{true, false, So, false≢true}
use mathlib.Core.List.Memᴰ
use mathlib.Core.List.{List}
use Prim.Native.Nat.{ℕ, ◌+◌, ◌≤◌, ◌<◌}
use native.Mathlib.Omega.{arith}
use native.Mathlib.Decide.{dec_lt}
use lib.ListN.{length, get_or, take, get_or-eq_default}
use Rattle.semantics.specs.Lists.{◌∈◌, mem, null, single}
use Rattle.semantics.proofs.Tests.{and_iff, mem_iff, so_dec, not_so, without_none}
use Rattle.semantics.specs.Programs.{Atoms, Subset}
use Rattle.rewriting.specs.Marked.{Entry, Marked, entry, gone}
use Rattle.rewriting.specs.Consequences.{definite}
use Rattle.rewriting.specs.Exclusion.{removal}
use Rattle.rewriting.proofs.Left.{kept_lt}
use Rattle.rewriting.proofs.Exclusion.{Lacks, lacks, entry_removal}
use Rattle.table.specs.Questions.{Passed}
use Rattle.table.specs.View.{view}
use Rattle.table.proofs.View.{length_view}
use Rattle.step_parts.specs.declared.Part.TheVariants.{Head, Pos, Neg}
use Rattle.step_parts.proofs.Index.{stands_small, kept_stands}
use Rattle.step_reach.specs.Bytes.{in_bytes}
use Rattle.step_reach.specs.Counts.{Queued}
use Rattle.step_reach.proofs.Laws.{is_out}
use Rattle.step_reach.proofs.Queue.{queued_same, take_more, queued_few}
use Rattle.search_exclusion.specs.Tries.{Unset}
use Rattle.search_idle.specs.Forgets.{definite_kept, Heads, NewHeads, Later, Onward, Met, MetAt, MetAll, Spread, HeadsWith, Forgets}

-- ---- the set and the queue grow

pub later_none : (s q : List ℕ) (top : ℕ) → Queued s q top → Later s q top s q top
later_none s q top z = record { more = λ a m. m; long = refl; longer = omega arith; before = λ j h. refl; queued = z }

pub heads_not : (e : Entry) (F : Atoms) → definite_kept e ≡ false → Heads F e
heads_not e F h k = absurd (not_so h k)

-- ---- on to the next atom

pub onward_none : (s q : List ℕ) (top : ℕ) (x : List ℕ) → Queued s q top → Onward s q top x s q top x
onward_none s q top x z = record { later = later_none s q top z; less = λ t m. m }

pub onward_trans : {s q x s' q' x' s'' q'' x'' : List ℕ} {k k' k'' : ℕ} → Onward s q k x s' q' k' x' → Onward s' q' k' x' s'' q'' k'' x'' → Onward s q k x s'' q'' k'' x''
onward_trans f g = record {
  later = record {
    more = λ a m. g.later.more a (f.later.more a m);
    long = g.later.long ∙ f.later.long;
    longer = omega (arith, f.later.longer, g.later.longer);
    before = λ j h. g.later.before j (omega (arith, f.later.longer)) ∙ f.later.before j h;
    queued = g.later.queued;
  };
  less = λ t m. f.less t (g.less t m);
}

-- a clause that is met stays so
pub met_later : (Q : Marked) {s q x s' q' x' : List ℕ} {k k' : ℕ} (t : ℕ) → Onward s q k x s' q' k' x' → Met Q (in_bytes s) x t → Met Q (in_bytes s') x' t
met_later Q t g m = record { out = λ z. m.out (g.less t z); heads = λ k b n. g.later.more b (m.heads k b n) }

-- ---- along the places of an atom

pub met_all : (ws ms : List ℕ) (a : ℕ) (s y : List ℕ) → MetAt ws (view ws ms) Pos a s y → MetAll (view ws ms) (in_bytes s) y a
met_all ws ms a s y w t m = by_cases (dec_lt t (get_or ws 1 0))
    (λ l. let (j, st, e) = kept_stands ws ms Pos a t l m in w.each t j st)
    (λ l. absurd (Memᴰ.not-nil (subst (λ e. a ∈ e.clause.pos) (get_or-eq_default (view ws ms) gone (omega (arith, length_view ws ms))) m)))

-- ---- along the queue

module _ (Q : Marked) where
  -- the clauses of the first k atoms are met
  abbrev pub MetFirst : List ℕ → List ℕ → ℕ → List ℕ → Type 0
  MetFirst s q k x = (a : ℕ) → a ∈ take k q → MetAll Q (in_bytes s) x a

  pub first_on : {s q x s' q' x' : List ℕ} {top top' : ℕ} (k : ℕ) → k < top → Queued s q top → Onward s q top x s' q' top' x' → MetAll Q (in_bytes s') x' (get_or q k 0) → MetFirst s q k x → MetFirst s' q' (k + 1) x'
  first_on {q = q} {s' = s'} {x' = x'} k l z g w h a m t p = ⊎_elim
      (λ o. met_later Q t g (h a o t p))
      (λ e. w t (subst (λ c. c ∈ (entry Q t).clause.pos) e p))
      ((take_more q k a (omega (arith, queued_few z, z.room))).0 (subst (λ u. a ∈ u) (g.later.before (k + 1) (omega arith)) m))

  pub first_end : {s q x s' q' x' : List ℕ} {top top' : ℕ} (k : ℕ) → k ≡ top' → Onward s q top x s' q' top' x' → MetFirst s' q' k x' → Spread Q s x s' x'
  first_end {s' = s'} {q' = q'} {x' = x'} k e g h = record { more = g.later.more; less = g.less; all = λ a m. h a (subst (λ u. a ∈ take u q') (sym e) ((queued_same g.later.queued a).0 m)) }

-- ---- what is forgotten

module _ (H : Atoms → Type 0) (Q : Marked) where
  pub forgets_by : (s x s' x' : List ℕ) → (Subset (in_bytes s) (in_bytes s') → H (in_bytes s')) → Spread Q s x s' x' → Forgets H Q x x'
  forgets_by s x s' x' h g = record { set = in_bytes s'; heads = h g.more; less = g.less; all = g.all }

  -- nothing, where the set may be empty
  pub forgets_none : (x : List ℕ) → H (λ _. false) → Forgets H Q x x
  forgets_none x h = record { set = λ _. false; heads = h; less = λ t m. m; all = λ a m. absurd (false≢true m) }

  -- nothing, where nothing is idle
  pub forgets_nothing : (x : List ℕ) → H (λ _. true) → Unset x (length x) → Forgets H Q x x
  forgets_nothing x h u = record {
    set = λ _. true;
    heads = h;
    less = λ t m. m;
    all = λ a m t w. record { out = λ i. by_cases (dec_lt t (length x)) (λ l. u.before t l i) (λ l. not_so (is_out x t (omega arith)) i); heads = λ k b n. refl };
  }

pub forgets_as : (G H : Atoms → Type 0) (Q : Marked) (x y : List ℕ) → ((F : Atoms) → G F → H F) → Forgets G Q x y → Forgets H Q x y
forgets_as G H Q x y h f = record { set = f.set; heads = h f.set f.heads; less = f.less; all = f.all }

-- ---- the clauses that lose an atom

module _ (ws : List ℕ) (Q : Marked) (a : ℕ) where
  -- no clause of the table has so large an atom
  pub with_none : (F : Atoms) → Passed ws → 1024 ≤ a → HeadsWith ws Q a F
  with_none F p l = record { head = λ t j st. absurd (omega (arith, (stands_small p st).0)); neg = λ t j st. absurd (omega (arith, (stands_small p st).0)) }

  -- nothing, where nothing is idle
  pub with_nothing : (x : List ℕ) → Unset x (length x) → Forgets (HeadsWith ws Q a) Q x x
  with_nothing x = forgets_nothing (HeadsWith ws Q a) Q x (record { head = λ t j st k b m. refl; neg = λ t j st k b m. refl })

  -- from the clauses with it in the head, then in the negative body, then on
  pub forgets_two : {s q y s' q' y' s'' q'' y'' s''' y''' : List ℕ} {k k' k'' : ℕ} → Onward s q k y s' q' k' y' → MetAt ws Q Head a s' y' → Onward s' q' k' y' s'' q'' k'' y'' → MetAt ws Q Neg a s'' y'' → Spread Q s'' y'' s''' y''' → Forgets (HeadsWith ws Q a) Q y y'''
  forgets_two {s''' = s'''} f h g n w = record {
    set = in_bytes s''';
    heads = record {
      head = λ t j st k b m. w.more b (g.later.more b ((h.each t j st).heads k b m));
      neg = λ t j st k b m. w.more b ((n.each t j st).heads k b m);
    };
    less = λ t m. f.less t (g.less t (w.less t m));
    all = w.all;
  }

definite_same : (a : ℕ) (d e : Entry) → Lacks a d e → ¬ (a ∈ e.clause.head) → ¬ (a ∈ e.clause.neg) → So (definite d.clause) → So (definite e.clause)
definite_same a d e l h n x = let w = (and_iff (single (λ _. true) d.clause.head) _).0 x in
    (and_iff (single (λ _. true) e.clause.head) _).1 (subst (λ u. So (single (λ _. true) u)) (l.head ∙ without_none a e.clause.head h) w.0, subst (λ u. So (null u)) (l.neg ∙ without_none a e.clause.neg n) w.1)

-- Only such a clause gets definite by a step of kind 9.
pub new_without : (ws ms : List ℕ) (a : ℕ) (F : Atoms) → HeadsWith ws (removal a (view ws ms)) a F → NewHeads (view ws ms) (removal a (view ws ms)) F
new_without ws ms a F g = record {
  fresh = λ t w k. let l = lost t k in
      by_cases (so_dec (mem a (entry (view ws ms) t).clause.head))
      (λ h. let (j, st, e) = kept_stands ws ms Head a t (low t l) ((mem_iff _ _).0 h) in g.head t j st k)
      (λ h. by_cases (so_dec (mem a (entry (view ws ms) t).clause.neg))
      (λ n. let (j, st, e) = kept_stands ws ms Neg a t (low t l) ((mem_iff _ _).0 n) in g.neg t j st k)
      (λ n. absurd (w (definite_same a _ _ l (λ m. h ((mem_iff _ _).1 m)) (λ m. n ((mem_iff _ _).1 m)) ((and_iff (entry (removal a (view ws ms)) t).kept _).0 k).1))));
}
  where
    lost : (t : ℕ) → So (definite_kept (entry (removal a (view ws ms)) t)) → Lacks a (entry (removal a (view ws ms)) t) (entry (view ws ms) t)
    lost t k = subst (λ d. Lacks a d (entry (view ws ms) t)) (sym (entry_removal a (view ws ms) t)) (lacks a (entry (view ws ms) t) (subst (λ d. So d.kept) (entry_removal a (view ws ms) t) ((and_iff (entry (removal a (view ws ms)) t).kept _).0 k).0))

    low : (t : ℕ) → Lacks a (entry (removal a (view ws ms)) t) (entry (view ws ms) t) → t < get_or ws 1 0
    low t l = omega (arith, kept_lt (view ws ms) t l.kept, length_view ws ms)

-- Lists of the nine kinds on a table of clauses and choices alone: what is left, read back, has the stable models that there were.
use mathlib.Core.Path.{◌≡◌, refl, sym, ap, subst, ◌∙◌}
use mathlib.Core.Logic.{◌↔◌, by_cases}
use mathlib.Core.Bool.{not, So}
use mathlib.Core.List.Memᴰ
use mathlib.Core.List.{List, [], ◌∷◌}
use Prim.Native.Nat.{ℕ, ◌≤◌}
use native.Mathlib.Omega.{arith}
use Rattle.semantics.specs.Lists.{◌∈◌, any, keep, mem}
use Rattle.semantics.specs.Programs.{Clause, Atoms, Stable, program}
use Rattle.semantics.proofs.Tests.{not_iff, any_iff, mem_iff, keep_iff, so_dec}
use Rattle.semantics.proofs.Models.{Models}
use Rattle.rewriting.specs.Marked.{Marked, entry, left, whole}
use Rattle.rewriting.specs.Steps.{Step}
use Rattle.rewriting.specs.Runs.{leaves}
use Rattle.rewriting.proofs.Left.{left_each, left_whole}
use Rattle.rewriting.proofs.Sound.{list_sound}
use Rattle.shell_choices.specs.Stable.{free, StableIn}
use Rattle.shell_choices.specs.Translation.{Exact}
use Rattle.shell_choices.proofs.Members.{free_iff}
use Rattle.shell_guards.specs.Guards.{head_below, clauses_below}
use Rattle.shell_readback.specs.Readback.{is_choice, StableRead, fresh_alone, told}
use Rattle.shell_readback.specs.Laid.{ClauseForm, LaidAlone}
use Rattle.shell_readback.specs.Beside.{Apart}
use Rattle.shell_readback.proofs.Readable.{fresh_of, Disjunction, ReadableList, place_of, readable_left}
use Rattle.shell_readback.proofs.Sound.{exact_from, exact_same, list_exact}
use Rattle.shell_readback.proofs.Laid.{laid_readable}
use Rattle.shell_readback.proofs.Parts.{Shrunk, shrunk_list}
use Rattle.shell_readback.proofs.Apart.{apart_by}
use Rattle.shell_readback.proofs.Private.{Private, private_exact}
use Rattle.shell_readback.proofs.Forms.{LeftForm, part_form, fresh_high, left_clause, left_choice, left_top, left_pos, left_neg, left_fresh}

-- ---- clauses without guards

below_self : (n : ℕ) (cs : List Clause) → ((c : Clause) → c ∈ cs → So (head_below n c)) → clauses_below n cs ≡ cs
unfolding clauses_below
below_self n [] h = refl
below_self n (c ∷ cs) h = rw (h c (Memᴰ.head refl), below_self n cs (λ d m. h d (Memᴰ.tail m)))

unguarded_exact : (n top : ℕ) (es : List Clause) → ReadableList n top es → ((c : Clause) → c ∈ es → So (head_below top c)) → Exact n (Stable (program top es)) (StableRead n top es free)
unguarded_exact n top es o h = exact_from n (StableIn top es free) (StableRead n top es free) (Stable (program top es))
    (subst (λ ds. Exact n (StableIn top ds free) (StableRead n top es free)) (below_self top es h) (list_exact n top es o free)) (free_iff top es)

pub told_of : (n : ℕ) (ds : List Clause) (c : Clause) → c ∈ told n ds → (c ∈ ds) × (¬ So (fresh_alone n c))
unfolding told
told_of n ds c m = let w = (keep_iff (λ c. not (fresh_alone n c)) ds c).0 m in (w.0, (not_iff _).0 w.1)

told_in : (n : ℕ) (ds : List Clause) (c : Clause) → c ∈ ds → ¬ So (fresh_alone n c) → c ∈ told n ds
unfolding told
told_in n ds c m f = (keep_iff (λ c. not (fresh_alone n c)) ds c).1 (m, (not_iff _).1 f)

-- ---- clauses of these forms, no two with a fresh atom in common, are read back exactly

module _ (n top : ℕ) (ds : List Clause) (room : n ≤ top) (form : (c : Clause) → c ∈ ds → LeftForm n top c)
    (once : (c d : Clause) → c ∈ ds → d ∈ ds → (x : ℕ) → n ≤ x → x ∈ c.head → x ∈ d.head → c ≡ d) where
  pub told_readable : ReadableList n top (told n ds)
  told_readable = record {
    room = room;
    clause = λ c m k. left_clause n top room c (form c (told_of n ds c m).0) k;
    choice = disjunction_of;
    one = λ c d p q x y e. let v = disjunction_of c p x in let w = disjunction_of d q y in
        once c d (told_of n ds c p).0 (told_of n ds d q).0 (fresh_of c) v.low (fresh_of_lem c v) (subst (λ z. z ∈ d.head) (sym e) (fresh_of_lem d w));
  }
    where
      disjunction_of : (c : Clause) → c ∈ told n ds → So (is_choice n top c) → Disjunction n c
      disjunction_of c m k = let w = told_of n ds c m in left_choice n top room c (form c w.0) k w.1

      fresh_of_lem : (c : Clause) → Disjunction n c → fresh_of c ∈ c.head
      fresh_of_lem c v = subst (λ l. fresh_of c ∈ l) (sym v.head) (Memᴰ.tail (Memᴰ.head refl))

  abbrev defining : List Clause
  defining = keep (fresh_alone n) ds

  abbrev G : Atoms
  G a = any (λ c. mem a c.head) defining

  defining_of : (a : ℕ) → So (G a) → (c : Clause) × (c ∈ ds) × So (fresh_alone n c) × (a ∈ c.head)
  defining_of a h =
      let w = (any_iff (λ (c : Clause). mem a c.head) defining).0 h in let v = (keep_iff (fresh_alone n) ds w.0).0 w.1 in (w.0, v.0, v.1, (mem_iff a w.0.head).0 w.2)

  low : (a : ℕ) → So (G a) → n ≤ a
  low a h = let w = defining_of a h in fresh_high n w.0 w.2 a w.3

  told_apart : (c : Clause) → c ∈ told n ds → Apart G c
  told_apart c m = let v = told_of n ds c m in apart_by G c
      (λ a q y. let w = defining_of a y in v.1 (subst (λ d. So (fresh_alone n d)) (once w.0 c w.1 v.0 a (low a y) w.3 q) w.2))
      (λ a q y. omega (arith, low a y, left_pos n top room c (form c v.0) a q))
      (λ a q y. omega (arith, low a y, left_neg n top room c (form c v.0) a q))

  defining_private : (c : Clause) → c ∈ defining → Private top G c
  defining_private c m = let v = (keep_iff (fresh_alone n) ds c).0 m in let w = left_fresh n top room c (form c v.0) v.1 in record {
    fresh = w.0;
    head = w.1;
    own = (any_iff (λ (c : Clause). mem w.0 c.head) defining).1 (c, m, (mem_iff w.0 c.head).1 (subst (λ l. w.0 ∈ l) (sym w.1) (Memᴰ.head refl)));
    high = w.3;
    pos = λ a q y. omega (arith, low a y, left_pos n top room c (form c v.0) a q);
    neg = λ a q y. omega (arith, low a y, left_neg n top room c (form c v.0) a q);
  }

  splits : (M X : Atoms) → Models M X ds ↔ (Models M X (told n ds) × Models M X defining)
  splits M X = (
    λ h. (λ c m. h c (told_of n ds c m).0, λ c m. h c ((keep_iff (fresh_alone n) ds c).0 m).0),
    λ h c m. by_cases (so_dec (fresh_alone n c)) (λ k. h.1 c ((keep_iff (fresh_alone n) ds c).1 (m, k))) (λ k. h.0 c (told_in n ds c m k)),
  )

  pub told_exact : Exact n (Stable (program top ds)) (StableRead n top (told n ds) free)
  told_exact = private_exact n top G ds (told n ds) defining splits told_apart defining_private low (StableRead n top (told n ds) free)
      (unguarded_exact n top (told n ds) told_readable (λ c m. left_top n top room c (form c (told_of n ds c m).0)))

-- ---- the table

module _ (n top : ℕ) (ds : List Clause) (laid : LaidAlone n top ds) where
  abbrev P : Marked
  P = whole ds

  pub start_readable : ReadableList n top ds
  start_readable = subst (ReadableList n top) (left_whole ds) (readable_left n top P (laid_readable n top _ ds laid.laid))

  form_at : (i : ℕ) → So (entry P i).kept → ClauseForm n top (entry P i).clause
  form_at = (left_each (ClauseForm n top) P).0 (rw left_whole laid.laid.form)

  below_at : (i : ℕ) → So (entry P i).kept → So (head_below top (entry P i).clause)
  below_at = (left_each (λ c. So (head_below top c)) P).0 (rw left_whole laid.unguarded)

  module _ (Q : Marked) (shrunk : Shrunk Q P) where
    pub form_left : (c : Clause) → c ∈ left Q → LeftForm n top c
    form_left = (left_each (LeftForm n top) Q).1 (λ i k. let p = shrunk i k in part_form n top (entry Q i) (entry P i) p (form_at i p.kept) (below_at i p.kept))

    head_before : (i : ℕ) → So (entry Q i).kept → (x : ℕ) → x ∈ (entry Q i).clause.head → x ∈ (entry P i).clause.head
    head_before i k x m = let p = shrunk i k in ((keep_iff p.test (entry P i).clause.head x).0 (subst (λ l. x ∈ l) p.head m)).0

    pub once_left : (c d : Clause) → c ∈ left Q → d ∈ left Q → (x : ℕ) → n ≤ x → x ∈ c.head → x ∈ d.head → c ≡ d
    once_left c d p q x l y z =
        let v = place_of Q c p in let w = place_of Q d q in
        sym v.2 ∙ (ap (λ i. (entry Q i).clause) (laid.laid.once v.0 w.0 x l
        (head_before v.0 v.1 x (subst (λ (b : Clause). x ∈ b.head) (sym v.2) y)) (head_before w.0 w.1 x (subst (λ (b : Clause). x ∈ b.head) (sym w.2) z))) ∙ w.2)

    -- What is left is read back exactly.
    pub left_read : Exact n (Stable (program top (left Q))) (StableRead n top (told n (left Q)) free)
    left_read = told_exact n top (left Q) laid.laid.room form_left once_left

  module _ (l : List Step) where
    -- Whatever list of steps of the nine kinds is taken, the stable models of what is left, restricted, are exactly those of the clauses with the choices, each once.
    pub nine_exact : Exact n (Stable (program top (left (leaves top P l)))) (StableRead n top ds free)
    nine_exact = exact_from n (Stable (program top ds)) (StableRead n top ds free) (Stable (program top (left (leaves top P l)))) (unguarded_exact n top ds start_readable laid.unguarded)
        (λ M. subst (λ es. Stable (program top es) M ↔ Stable (program top (left (leaves top P l))) M) (left_whole ds) (list_sound top P l M))

    -- What the table reads as before has the stable models of what is read back.
    pub nine_sound : (M : Atoms) → StableRead n top ds free M ↔ StableRead n top (told n (left (leaves top P l))) free M
    nine_sound = exact_same n (Stable (program top (left (leaves top P l)))) (StableRead n top ds free) (StableRead n top (told n (left (leaves top P l))) free)
        nine_exact (left_read (leaves top P l) (shrunk_list top P l))

-- A table laid out in any order is readable and guarded; so any list of steps without kind 9 on it, read back, keeps the stable models.
use mathlib.Core.Path.{refl, sym, subst}
use mathlib.Core.Logic.{◌↔◌}
use mathlib.Core.Bool.{not, So}
use mathlib.Core.List.Memᴰ
use mathlib.Core.List.{List, [], ◌∷◌, ◌++◌}
use Prim.Native.Nat.{ℕ, ◌≤◌, ◌<◌}
use native.Mathlib.Omega.{arith}
use Rattle.semantics.specs.Lists.{◌∈◌}
use Rattle.semantics.specs.Programs.{Clause, Atoms}
use Rattle.semantics.proofs.Tests.{and_iff, not_iff, so_by}
use Rattle.rewriting.specs.Marked.{Entry, Marked, entry, whole}
use Rattle.rewriting.specs.Steps.{Step, fact}
use Rattle.rewriting.specs.Runs.{leaves, without_nine}
use Rattle.rewriting.proofs.Left.{left_each, left_whole}
use Rattle.shell_choices.specs.Stable.{Context}
use Rattle.shell_choices.specs.Translation.{OverClause}
use Rattle.shell_guards.specs.Guards.{HeadsIn, guard_of, in_body, head_below}
use Rattle.shell_guards.proofs.Guards.{Guard, Guarded, head_below_iff}
use Rattle.shell_guards.proofs.Start.{body_in, whole_at, fact_at}
use Rattle.shell_readback.specs.Readback.{is_choice, StableRead, StableLeft}
use Rattle.shell_readback.specs.Laid.{ClauseForm, plain, choice, guard, Laid}
use Rattle.shell_readback.proofs.Readable.{fresh_of, Disjunction, Readable}
use Rattle.shell_readback.proofs.Sound.{readback_sound}

-- ---- one clause

-- the second atom of a head of two
second : (n a x : ℕ) (p q : List ℕ) → So (head_below n (record { head = a ∷ x ∷ []; pos = p; neg = q })) → x < n
second n a x p q k = (head_below_iff n (record { head = a ∷ x ∷ []; pos = p; neg = q })).0 k x (Memᴰ.tail (Memᴰ.head refl))

module _ (n top : ℕ) (room : n ≤ top) where
  form_clause : (c : Clause) → ClauseForm n top c → So (head_below n c) → OverClause n c
  form_clause c (plain o) k = o
  form_clause c (choice i e o l u) k = absurd (omega (arith, l, second n i.choice.atom i.fresh i.choice.pos i.choice.neg (subst (λ d. So (head_below n d)) e k)))
  form_clause c (guard h x e b l) k = absurd (omega (arith, room, l, second n h x [] [] (subst (λ d. So (head_below n d)) e k)))

  form_choice : (c : Clause) → ClauseForm n top c → So (is_choice n top c) → Disjunction n c
  form_choice c (plain o) k = absurd ((not_iff (head_below n c)).0 ((and_iff (head_below top c) _).0 k).1 ((head_below_iff n c).1 o.head))
  form_choice c (choice i e o l u) k = subst (Disjunction n) (sym e) (record { head = refl; over = o; low = l })
  form_choice c (guard h x e b l) k = absurd (omega (arith, l, second top h x [] [] (subst (λ d. So (head_below top d)) e ((and_iff (head_below top c) _).0 k).0)))

  form_over : (c : Clause) → ClauseForm n top c → So (head_below top c) → OverClause top c
  form_over c (plain o) k = record { head = λ a q. omega (arith, room, o.head a q); pos = λ a q. omega (arith, room, o.pos a q); neg = λ a q. omega (arith, room, o.neg a q) }
  form_over c (choice i e o l u) k = record {
    head = (head_below_iff top c).0 k;
    pos = λ a q. omega (arith, room, o.pos a (subst (λ (d : Clause). a ∈ d.pos) e q));
    neg = λ a q. omega (arith, room, o.neg a (subst (λ (d : Clause). a ∈ d.neg) e q));
  }
  form_over c (guard h x e b l) k = absurd (omega (arith, l, second top h x [] [] (subst (λ d. So (head_below top d)) e k)))

  form_fact : (c : Clause) → ClauseForm n top c → ¬ So (head_below top c) → So (fact c)
  form_fact c (plain o) k = absurd (k ((head_below_iff top c).1 (λ a q. omega (arith, room, o.head a q))))
  form_fact c (choice i e o l u) k = absurd (k ((head_below_iff top c).1 (λ a q. two a (subst (λ (d : Clause). a ∈ d.head) e q))))
    where
      two : (a : ℕ) → a ∈ i.choice.atom ∷ i.fresh ∷ [] → a < top
      two a (Memᴰ.head q) = omega (arith, q, room, o.atom)
      two a (Memᴰ.tail (Memᴰ.tail x10)) = elim x10 [ ]
      two a (Memᴰ.tail (Memᴰ.head q)) = omega (arith, q, u)
  form_fact c (guard h x e b l) k = subst (λ d. So (fact d)) (sym e) refl

-- ---- the table

module _ (n top : ℕ) (H : Atoms) (ds : List Clause) (laid : Laid n top H ds) where
  abbrev P : Marked
  P = whole ds

  each : (Q : Clause → Type 0) → ((c : Clause) → ClauseForm n top c → Q c) → (i : ℕ) → So (entry P i).kept → Q (entry P i).clause
  each Q f = (left_each Q P).0 (rw left_whole (λ c m. f c (laid.form c m)))

  -- a choice's fresh atom is in its head
  fresh_in : (i : ℕ) → So (entry P i).kept → So (is_choice n top (entry P i).clause) → (n ≤ fresh_of (entry P i).clause) × (fresh_of (entry P i).clause ∈ (entry P i).clause.head)
  fresh_in i k x =
      let d = each (λ c. So (is_choice n top c) → Disjunction n c) (form_choice n top laid.room) i k x in
      (d.low, subst (λ l. fresh_of (entry P i).clause ∈ l) (sym d.head) (Memᴰ.tail (Memᴰ.head refl)))

  pub laid_readable : Readable n top P
  laid_readable = record {
    room = laid.room;
    clause = each (λ c. So (head_below n c) → OverClause n c) (form_clause n top laid.room);
    choice = each (λ c. So (is_choice n top c) → Disjunction n c) (form_choice n top laid.room);
    one = λ i j k l x y e. let v = fresh_in i k x in let w = fresh_in j l y in
        laid.once i j (fresh_of (entry P i).clause) v.0 v.1 (subst (λ z. z ∈ (entry P j).clause.head) (sym e) w.1);
  }

  guard_at : (h x : ℕ) → top ≤ x → guard_of h x ∈ ds → Guard P h
  guard_at h x l m = record {
    fresh = x;
    stands = fact_at ds (h ∷ x ∷ []) (guard_of h x) m refl (λ a q. q);
    beside = λ i k z. let w = whole_at ds (guard_of h x) m in
        subst (λ j. h ∈ (entry P j).clause.head) (laid.once w.0 i x (omega (arith, laid.room)) (subst (λ (e : Entry). x ∈ e.clause.head) (sym w.1) (Memᴰ.tail (Memᴰ.head refl))) z)
        (subst (λ (e : Entry). h ∈ e.clause.head) (sym w.1) (Memᴰ.head refl));
  }

  pub laid_guarded : Guarded top H (λ a. not (in_body ds a)) P
  laid_guarded = record {
    guard = λ h q u. let w = laid.guarded h q (so_by _ (λ x. u ((not_iff _).1 x))) in guard_at h w.0 w.1 w.2;
    bodies = (left_each (λ c. (a : ℕ) → a ∈ c.pos ++ c.neg → ¬ So (not (in_body ds a))) P).0 (rw left_whole (λ c m a q u. (not_iff _).0 u (body_in ds c m a q)));
    over = each (λ c. So (head_below top c) → OverClause top c) (form_over n top laid.room);
    other = each (λ c. ¬ So (head_below top c) → So (fact c)) (form_fact n top laid.room);
  }

  -- Whatever the table's order and whatever list of steps without kind 9 is taken: what it reads as before has in the context the stable models of what it reads as after.
  pub layout_sound : (sat : Context) → HeadsIn H sat → (m : ℕ) (l : List Step) → So (without_nine l) → (M : Atoms)
      → StableRead n top ds sat M ↔ StableLeft n top (leaves m P l) sat M
  layout_sound sat hi m l w M = subst (λ es. StableRead n top es sat M ↔ StableLeft n top (leaves m P l) sat M) (left_whole ds)
      (readback_sound n top H (λ a. not (in_body ds a)) P laid_readable laid_guarded sat hi m l w M)

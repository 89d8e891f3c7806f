-- Guards: at work; clauses with the guards beside them are guarded, so any list of steps without kind 9 keeps the clauses' stable models within the context.
use mathlib.Core.Path.{◌≡◌, refl, sym, ap, subst, ◌∙◌}
use mathlib.Core.Logic.{◌↔◌, ⊎_elim}
use mathlib.Core.Bool.{true, false, not, So}
use mathlib.Core.List.Memᴰ
use mathlib.Core.List.{List, [], ◌∷◌, ◌++◌}
use Prim.Native.Nat.{ℕ, zero, suc, ◌≤◌, ◌<◌}
use native.Mathlib.Omega.{arith}
use Rattle.semantics.specs.Lists.{◌∈◌, mem}
use Rattle.semantics.specs.Programs.{Clause, Atoms}
use Rattle.semantics.proofs.Tests.{not_iff, any_iff, mem_iff, so_by, so_false}
use Rattle.rewriting.specs.Marked.{Entry, Marked, entry, left, whole}
use Rattle.rewriting.specs.Steps.{Step, step, fact, in_no_head, condition, condition_holds, applies}
use Rattle.rewriting.specs.Runs.{accepted, leaves, without_nine}
use Rattle.rewriting.specs.Kinds.{no_head, failure, subsumed}
use Rattle.rewriting.proofs.Left.{left_each, left_whole}
use Rattle.shell_choices.specs.Stable.{Context, StableIn}
use Rattle.shell_choices.specs.Translation.{OverClause}
use Rattle.shell_choices.proofs.Members.{when}
use Rattle.shell_guards.specs.Guards.{HeadsIn, guard_of, guards, guarded, in_body, head_below, clauses_below}
use Rattle.shell_guards.proofs.Steps.{HasFact}
use Rattle.shell_guards.proofs.Guards.{Guard, Guarded, head_below_iff}
use Rattle.shell_guards.proofs.Sound.{list_in}

-- ---- at work

-- 0 <- 1. with the guard "1 | 2 <-": kind 6 is refused
guarded_refused : applies 3 (whole (guarded 2 (when (0 ∷ []) (1 ∷ []) [] ∷ []) (1 ∷ []))) (step failure 0 0 1) ≡ false
unfolding left in_no_head condition condition_holds applies guards guarded
guarded_refused = refl

-- 0 <- ~1.: a body has 1, so it is guarded, and kind 4 is refused
negative_refused : (in_body (when (0 ∷ []) [] (1 ∷ []) ∷ []) 1 ≡ true) × (applies 3 (whole (guarded 2 (when (0 ∷ []) [] (1 ∷ []) ∷ []) (1 ∷ []))) (step no_head 0 0 1) ≡ false)
unfolding in_body left in_no_head condition condition_holds applies guards guarded
negative_refused = (refl, refl)

-- 0. with the guard "0 | 1 <-": kind 8 deletes the guard, and the fact does its work
guard_deleted : accepted 2 (whole (guarded 1 (when (0 ∷ []) [] [] ∷ []) (0 ∷ []))) (step subsumed 1 0 0 ∷ []) ≡ true
unfolding left condition condition_holds applies accepted guards guarded
guard_deleted = refl

-- ---- the guards

pub guards_of : (x : ℕ) (hs : List ℕ) (c : Clause) → c ∈ guards x hs → (h : ℕ) × (y : ℕ) × (h ∈ hs) × (x ≤ y) × (c ≡ guard_of h y)
unfolding guards
guards_of x [] c x3 = elim x3 [ ]
guards_of x (h ∷ hs) c (Memᴰ.head e) = (h, x, Memᴰ.head refl, omega arith, e)
guards_of x (h ∷ hs) c (Memᴰ.tail m) = let w = guards_of (suc x) hs c m in (w.0, w.1, Memᴰ.tail w.2, omega (arith, w.3), w.4)

pub guards_high : (n : ℕ) (hs : List ℕ) (c : Clause) → c ∈ guards n hs → ¬ So (head_below n c)
guards_high n hs c m k =
    let w = guards_of n hs c m in
    omega (arith, w.3, (head_below_iff n c).0 k w.1 (subst (λ (d : Clause). w.1 ∈ d.head) (sym w.4) (Memᴰ.tail (Memᴰ.head refl))))

guards_fact : (n : ℕ) (hs : List ℕ) (c : Clause) → c ∈ guards n hs → So (fact c)
guards_fact n hs c m = subst (λ d. So (fact d)) (sym (guards_of n hs c m).4) refl

-- an atom that is neither of the two
not_two : (y h x : ℕ) → y ∈ h ∷ x ∷ [] → h < y → ((y ≡ x) → ⊥) → ⊥
not_two y h x m p q = ⊎_elim (λ e. omega arith) (λ r. q (Memᴰ.eq_of_singleton r)) (Memᴰ.cases_cons m)

-- a guard's fresh atom is in the head of guards of its atom alone
pub guard_found : (n x : ℕ) (hs : List ℕ) (h : ℕ) → n ≤ x → ((a : ℕ) → a ∈ hs → a < n) → h ∈ hs
    → (y : ℕ) × (x ≤ y) × (guard_of h y ∈ guards x hs) × ((c : Clause) → c ∈ guards x hs → y ∈ c.head → h ∈ c.head)
unfolding guards
guard_found n x [] h l o x5 = elim x5 [ ]
guard_found n x (k ∷ hs) h l o (Memᴰ.head e) = (x, omega arith, Memᴰ.head (ap (λ z. guard_of z x) e), only)
  where
    only : (c : Clause) → c ∈ guard_of k x ∷ guards (suc x) hs → x ∈ c.head → h ∈ c.head
    only c (Memᴰ.head q) z = subst (λ (d : Clause). h ∈ d.head) (sym q) (Memᴰ.head e)
    only c (Memᴰ.tail q) z =
        let w = guards_of (suc x) hs c q in
        absurd (not_two x w.0 w.1 (subst (λ (d : Clause). x ∈ d.head) w.4 z) (omega (arith, o w.0 (Memᴰ.tail w.2))) (λ r. omega (arith, w.3)))
guard_found n x (k ∷ hs) h l o (Memᴰ.tail m) =
    let v = guard_found n (suc x) hs h (omega arith) (λ a q. o a (Memᴰ.tail q)) m in
    (v.0, omega (arith, v.1), Memᴰ.tail v.2, only v.0 v.1 v.3)
  where
    only : (y : ℕ) → suc x ≤ y → ((c : Clause) → c ∈ guards (suc x) hs → y ∈ c.head → h ∈ c.head) → (c : Clause) → c ∈ guard_of k x ∷ guards (suc x) hs → y ∈ c.head → h ∈ c.head
    only y p f c (Memᴰ.head q) z =
        absurd (not_two y k x (subst (λ (d : Clause). y ∈ d.head) q z) (omega (arith, o k (Memᴰ.head refl))) (λ r. omega arith))
    only y p f c (Memᴰ.tail q) z = f c q z

-- ---- the clauses with heads below n

pub below_all : (n : ℕ) (cs ds : List Clause) → ((c : Clause) → c ∈ cs → So (head_below n c)) → clauses_below n (cs ++ ds) ≡ cs ++ clauses_below n ds
unfolding clauses_below
below_all n [] ds h = refl
below_all n (c ∷ cs) ds h = rw (h c (Memᴰ.head refl), below_all n cs ds (λ d m. h d (Memᴰ.tail m)))

pub below_none : (n : ℕ) (ds : List Clause) → ((c : Clause) → c ∈ ds → ¬ So (head_below n c)) → clauses_below n ds ≡ []
unfolding clauses_below
below_none n [] h = refl
below_none n (d ∷ ds) h = rw (so_false (head_below n d) (h d (Memᴰ.head refl)), below_none n ds (λ c m. h c (Memᴰ.tail m)))

pub append_nil : (cs : List Clause) → cs ++ [] ≡ cs
append_nil [] = refl
append_nil (c ∷ cs) = rw (append_nil cs)

-- clauses below n beside others
pub below_append : (n : ℕ) (cs ds : List Clause) → ((c : Clause) → c ∈ cs → So (head_below n c)) → ((c : Clause) → c ∈ ds → ¬ So (head_below n c)) → clauses_below n (cs ++ ds) ≡ cs
below_append n cs ds h k = below_all n cs ds h ∙ (ap (λ es. cs ++ es) (below_none n ds k) ∙ append_nil cs)

pub body_in : (cs : List Clause) (c : Clause) → c ∈ cs → (a : ℕ) → a ∈ c.pos ++ c.neg → So (in_body cs a)
unfolding in_body
body_in cs c m a q = (any_iff _ cs).1 (c, m, (mem_iff a _).1 q)

pub in_body_lem : (cs : List Clause) (a : ℕ) → So (in_body cs a) → (c : Clause) × (c ∈ cs) × (a ∈ c.pos ++ c.neg)
unfolding in_body
in_body_lem cs a h = let w = (any_iff (λ (c : Clause). mem a (c.pos ++ c.neg)) cs).0 h in (w.0, w.1, (mem_iff a (w.0.pos ++ w.0.neg)).0 w.2)

pub whole_at : (cs : List Clause) (c : Clause) → c ∈ cs → (i : ℕ) × (entry (whole cs) i ≡ record { kept = true; clause = c })
whole_at [] c x' = elim x' [ ]
whole_at (d ∷ cs) c (Memᴰ.head e) = (zero, ap (λ (x : Clause). record { kept = true; clause = x }) (sym e))
whole_at (d ∷ cs) c (Memᴰ.tail m) = let w = whole_at cs c m in (suc w.0, w.1)

pub fact_at : (ds : List Clause) (l : List ℕ) (c : Clause) → c ∈ ds → So (fact c) → ((a : ℕ) → a ∈ c.head → a ∈ l) → HasFact (whole ds) l
fact_at ds l c m f k = let w = whole_at ds c m in let e = sym w.1 in record {
  place = w.0;
  kept = subst (λ (x : Entry). So x.kept) e refl;
  is_fact = subst (λ (x : Entry). So (fact x.clause)) e f;
  head = subst (λ (x : Entry). (a : ℕ) → a ∈ x.clause.head → a ∈ l) e k;
}

-- ---- the theorem

module _ (n : ℕ) (cs : List Clause) (hs : List ℕ) (o : (c : Clause) → c ∈ cs → OverClause n c) (b : (a : ℕ) → a ∈ hs → a < n) where
  below_guarded : clauses_below n (guarded n cs hs) ≡ cs
  unfolding guarded
  below_guarded = below_append n cs (guards n hs) (λ c m. (head_below_iff n c).1 (o c m).head) (guards_high n hs)

  abbrev P : Marked
  P = whole (guarded n cs hs)

  -- what holds of every clause
  each : (Q : Clause → Type 0) → ((c : Clause) → c ∈ cs → Q c) → ((c : Clause) → c ∈ guards n hs → Q c) → (i : ℕ) → So (entry P i).kept → Q (entry P i).clause
  unfolding guarded
  each Q f g = (left_each Q P).0 (rw left_whole (λ c m. ⊎_elim (f c) (g c) (Memᴰ.append_cases cs m)))

  guard_of_lem : (h : ℕ) → h ∈ hs → Guard P h
  unfolding guarded
  guard_of_lem h m = let w = guard_found n n hs h (omega arith) b m in record {
    fresh = w.0;
    stands = fact_at (guarded n cs hs) (h ∷ w.0 ∷ []) (guard_of h w.0) (Memᴰ.append_right cs w.2) refl (λ a q. q);
    beside = each (λ c. w.0 ∈ c.head → h ∈ c.head) (λ c q z. absurd (omega (arith, w.1, (o c q).head w.0 z))) w.3;
  }

  module _ (H : Atoms) (all-guarded : (h : ℕ) → So (H h) → So (in_body cs h) → h ∈ hs) where
    -- Clauses over n atoms, with a guard of each atom of H that a body has, are guarded.
    pub guarded_start : Guarded n H (λ a. not (in_body cs a)) P
    guarded_start = record {
      guard = λ h q u. guard_of_lem h (all-guarded h q (so_by _ (λ x. u ((not_iff _).1 x))));
      bodies = each (λ c. (a : ℕ) → a ∈ c.pos ++ c.neg → ¬ So (not (in_body cs a))) (λ c m a q u. (not_iff _).0 u (body_in cs c m a q))
          (λ c m a q u. Memᴰ.not-nil (subst (λ (d : Clause). a ∈ d.pos ++ d.neg) (guards_of n hs c m).4 q));
      over = each (λ c. So (head_below n c) → OverClause n c) (λ c m k. o c m) (λ c m k. absurd (guards_high n hs c m k));
      other = each (λ c. ¬ So (head_below n c) → So (fact c)) (λ c m k. absurd (k ((head_below_iff n c).1 (o c m).head))) (λ c m k. guards_fact n hs c m);
    }

    -- Any list of steps without kind 9 on the clauses with the guards, over any number of atoms, keeps the stable models of the clauses within the context.
    pub guards_sound : (sat : Context) → HeadsIn H sat → (m : ℕ) (l : List Step) → So (without_nine l) → (M : Atoms)
        → StableIn n cs sat M ↔ StableIn n (clauses_below n (left (leaves m P l))) sat M
    guards_sound sat hi m l w M = subst (λ ds. StableIn n ds sat M ↔ StableIn n (clauses_below n (left (leaves m P l))) sat M)
        (ap (clauses_below n) (left_whole (guarded n cs hs)) ∙ below_guarded) (list_in n H (λ a. not (in_body cs a)) sat hi m P l w guarded_start M)

-- The table of clauses, then choices, then guards is laid out so; what any list of steps without kind 9 leaves of it, read back, has the stable models that there were.
use mathlib.Core.Path.{◌≡◌, refl, sym, subst}
use mathlib.Core.Logic.{◌↔◌, ⊎_elim}
use mathlib.Core.Bool.{So}
use mathlib.Core.List.Memᴰ
use mathlib.Core.List.{List, [], ◌∷◌, ◌++◌, map, append_assoc}
use Prim.Native.Nat.{ℕ, zero, suc, ◌+◌, ◌≤◌, ◌<◌}
use native.Mathlib.Omega.{arith}
use lib.ListN.{length}
use Rattle.semantics.specs.Lists.{◌∈◌}
use Rattle.semantics.specs.Programs.{Clause, Atoms}
use Rattle.semantics.proofs.Decide.{map_mem, map_of}
use Rattle.rewriting.specs.Marked.{Marked, entry, left, whole}
use Rattle.rewriting.specs.Steps.{Step}
use Rattle.rewriting.specs.Runs.{leaves, without_nine}
use Rattle.shell_choices.specs.Stable.{Choice, Context, StableWith, StableIn}
use Rattle.shell_choices.specs.Translation.{Numbered, numbered, disjunction, translated, OverClause, OverChoice, Over, lifted, Exact}
use Rattle.shell_choices.proofs.Fresh.{numbered_low, numbered_high, numbered_choices}
use Rattle.shell_choices.proofs.Exact.{choices_exact_in}
use Rattle.shell_guards.specs.Guards.{HeadsIn, guard_of, guards, guarded, in_body, clauses_below}
use Rattle.shell_guards.proofs.Start.{guards_of, guard_found, body_in, in_body_lem, guards_sound}
use Rattle.shell_readback.specs.Readback.{table, StableLeft}
use Rattle.shell_readback.specs.Laid.{ClauseForm, plain, choice, guard, Laid}
use Rattle.shell_readback.proofs.Sound.{exact_from, exact_same, lifted_heads, left_exact, readable_list}
use Rattle.shell_readback.proofs.Laid.{laid_readable}

-- ---- a fresh atom tells its clause's place

abbrev HeadAt : List Clause → ℕ → List ℕ
HeadAt cs i = (entry (whole cs) i).clause.head

of_two : (n a x y : ℕ) → a < n → n ≤ y → y ∈ a ∷ x ∷ [] → y ≡ x
of_two n a x y l k (Memᴰ.head e) = absurd (omega arith)
of_two n a x y l k (Memᴰ.tail (Memᴰ.tail x9)) = elim x9 [ ]
of_two n a x y l k (Memᴰ.tail (Memᴰ.head e)) = e

place_guards : (n x : ℕ) (hs : List ℕ) → ((a : ℕ) → a ∈ hs → a < n) → (i y : ℕ) → n ≤ y → y ∈ HeadAt (guards x hs) i → y ≡ x + i
unfolding guards
place_guards n x [] b i y l m = absurd (Memᴰ.not-nil m)
place_guards n x (h ∷ hs) b zero y l m = omega (arith, of_two n h x y (b h (Memᴰ.head refl)) l m)
place_guards n x (h ∷ hs) b (suc i) y l m = omega (arith, place_guards n (suc x) hs (λ a q. b a (Memᴰ.tail q)) i y l m)

place_choices : (n x z : ℕ) (ks : List Choice) (hs : List ℕ) → z ≡ x + length ks → ((k : Choice) → k ∈ ks → k.atom < n) → ((a : ℕ) → a ∈ hs → a < n)
    → (i y : ℕ) → n ≤ y → y ∈ HeadAt (map disjunction (numbered x ks) ++ guards z hs) i → y ≡ x + i
unfolding numbered
place_choices n x z [] hs e f b i y l m = omega (arith, e, place_guards n z hs b i y l m)
place_choices n x z (k ∷ ks) hs e f b zero y l m = omega (arith, of_two n k.atom x y (f k (Memᴰ.head refl)) l m)
place_choices n x z (k ∷ ks) hs e f b (suc i) y l m =
    omega (arith, place_choices n (suc x) z ks hs (omega (arith, e)) (λ j q. f j (Memᴰ.tail q)) b i y l m)

place_all : (n x z : ℕ) (cs : List Clause) (ks : List Choice) (hs : List ℕ) → z ≡ x + length ks → ((c : Clause) → c ∈ cs → (a : ℕ) → a ∈ c.head → a < n) → ((k : Choice) → k ∈ ks → k.atom < n) → ((a : ℕ) → a ∈ hs → a < n)
    → (i y : ℕ) → n ≤ y → y ∈ HeadAt (cs ++ (map disjunction (numbered x ks) ++ guards z hs)) i → y + length cs ≡ x + i
place_all n x z [] ks hs e g f b i y l m = omega (arith, place_choices n x z ks hs e f b i y l m)
place_all n x z (c ∷ cs) ks hs e g f b zero y l m = absurd (omega (arith, g c (Memᴰ.head refl) y m))
place_all n x z (c ∷ cs) ks hs e g f b (suc i) y l m = omega (arith, place_all n x z cs ks hs e (λ d q. g d (Memᴰ.tail q)) f b i y l m)

-- ---- the table

module _ (n : ℕ) (cs : List Clause) (ks : List Choice) (hs : List ℕ) (o : Over n cs ks) (b : (a : ℕ) → a ∈ hs → a < n) where
  abbrev top : ℕ
  top = n + length ks

  abbrev P : Marked
  P = whole (table n cs ks hs)

  over_of : (i : Numbered) → i ∈ numbered n ks → OverChoice n i.choice
  over_of i m = o.choices i.choice (subst (λ l. i.choice ∈ l) (numbered_choices n ks) (map_mem (λ (i : Numbered). i.choice) m))

  each_of : (Q : Clause → Type 0) → ((c : Clause) → c ∈ cs → Q c) → ((i : Numbered) → i ∈ numbered n ks → Q (disjunction i)) → (c : Clause) → c ∈ translated n cs ks → Q c
  unfolding translated
  each_of Q f g c m = ⊎_elim (f c)
      (λ q. let w = map_of disjunction (numbered n ks) q in subst Q (sym w.2) (g w.0 w.1)) (Memᴰ.append_cases cs m)

  pub over_top : (c : Clause) → c ∈ translated n cs ks → OverClause top c
  over_top = each_of (OverClause top)
      (λ c m. let w = o.clauses c m in record { head = λ a q. omega (arith, w.head a q); pos = λ a q. omega (arith, w.pos a q); neg = λ a q. omega (arith, w.neg a q) })
      (λ i m. let w = over_of i m in record {
        head = λ a q. two a i.choice.atom i.fresh top (omega (arith, w.atom)) (numbered_high n ks i m) q;
        pos = λ a q. omega (arith, w.pos a q);
        neg = λ a q. omega (arith, w.neg a q);
      })
    where
      two : (a x y t : ℕ) → x < t → y < t → a ∈ x ∷ y ∷ [] → a < t
      two a x y t p q (Memᴰ.head e) = omega (arith, e)
      two a x y t p q (Memᴰ.tail (Memᴰ.tail x9)) = elim x9 [ ]
      two a x y t p q (Memᴰ.tail (Memᴰ.head e)) = omega (arith, e)

  table_form : (c : Clause) → c ∈ table n cs ks hs → ClauseForm n top c
  unfolding guarded
  table_form c m = ⊎_elim
      (each_of (ClauseForm n top) (λ c q. plain (o.clauses c q)) (λ i q. choice i refl (over_of i q) (numbered_low n ks i q) (numbered_high n ks i q)) c)
      (λ q. let w = guards_of top hs c q in guard w.0 w.1 w.4 (b w.0 w.2) w.3) (Memᴰ.append_cases (translated n cs ks) m)

  table_place : (i y : ℕ) → n ≤ y → y ∈ HeadAt (table n cs ks hs) i → y + length cs ≡ n + i
  unfolding translated guarded
  table_place i y l m = place_all n n top cs ks hs refl (λ c q. (o.clauses c q).head) (λ k q. (o.choices k q).atom) b i y l
      (subst (λ ds. y ∈ HeadAt ds i) (append_assoc cs (map disjunction (numbered n ks)) (guards top hs)) m)

  module _ (H : Atoms) (all-guarded : (h : ℕ) → So (H h) → So (in_body (translated n cs ks) h) → h ∈ hs) where
    guard_in : (h : ℕ) → So (H h) → So (in_body (table n cs ks hs) h) → (x : ℕ) × (top ≤ x) × (guard_of h x ∈ table n cs ks hs)
    unfolding guarded
    guard_in h q k =
        let w = in_body_lem (table n cs ks hs) h k in
        let v = guard_found top top hs h (omega arith) (λ a r. omega (arith, b a r)) (⊎_elim
        (λ m. all-guarded h q (body_in (translated n cs ks) w.0 m h w.2))
        (λ m. absurd (Memᴰ.not-nil (subst (λ (d : Clause). h ∈ d.pos ++ d.neg) (guards_of top hs w.0 m).4 w.2)))
        (Memᴰ.append_cases (translated n cs ks) w.1)) in
        (v.0, v.1, Memᴰ.append_right (translated n cs ks) v.2)

    pub table_laid : Laid n top H (table n cs ks hs)
    table_laid = record {
      room = omega arith;
      form = table_form;
      once = λ i j x l p q. omega (arith, table_place i x l p, table_place j x l q);
      guarded = guard_in;
    }

    module _ (sat : Context) (hi : HeadsIn H sat) (m : ℕ) (l : List Step) (w : So (without_nine l)) where
      abbrev Q : Marked
      Q = leaves m P l

      -- Let each head atom of the context that a body has be guarded. Whatever list of steps without kind 9 is taken, the stable models of what is left without the
      -- guards, restricted, are exactly those of the clauses with the choices in the context, each once.
      pub table_exact : Exact n (StableIn top (clauses_below top (left Q)) (lifted n sat)) (StableWith n cs ks sat)
      table_exact = exact_from n (StableIn top (translated n cs ks) (lifted n sat)) (StableWith n cs ks sat) (StableIn top (clauses_below top (left Q)) (lifted n sat))
          (choices_exact_in n cs ks o sat)
          (guards_sound top (translated n cs ks) hs over_top (λ a q. omega (arith, b a q)) H all-guarded (lifted n sat) (lifted_heads n H sat hi) m l w)

      -- Choices and guards in one table: M is a stable model of the clauses with the choices in the context exactly when it is one of what is left,
      -- read back: the clauses without fresh atoms, and the choices of the clauses with a choice's fresh atom.
      pub table_sound : (M : Atoms) → StableWith n cs ks sat M ↔ StableLeft n top Q sat M
      table_sound = exact_same n (StableIn top (clauses_below top (left Q)) (lifted n sat)) (StableWith n cs ks sat) (StableLeft n top Q sat)
          table_exact (left_exact n top Q (readable_list n top m P l w (laid_readable n top H (table n cs ks hs) table_laid)) sat)

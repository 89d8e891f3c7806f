-- Instances: choices with no context, and the nine kinds there; rules with monotone bodies, weight bodies and externals as a context; clauses led round the table.
use mathlib.Core.Path.{◌≡◌, refl, sym, subst, ◌∙◌}
use mathlib.Core.Logic.Iff
use mathlib.Core.Logic.{◌↔◌}
use mathlib.Core.Bool.{false, not, So, false≢true}
use mathlib.Core.List.Memᴰ
use mathlib.Core.List.{List, [], ◌∷◌, ◌++◌, map}
use Prim.Native.Nat.{ℕ, suc, ◌+◌, ◌≤◌, ◌<◌}
use native.Mathlib.Omega.{arith}
use lib.ListN.{length}
use Rattle.semantics.specs.Lists.{◌∈◌}
use Rattle.semantics.specs.Programs.{Clause, Atoms, Subset}
use Rattle.semantics.proofs.Tests.{and_iff, not_iff, so_false}
use Rattle.semantics.proofs.Models.{All}
use Rattle.semantics.proofs.Decide.{map_of}
use Rattle.rewriting.specs.Marked.{Marked, left, whole}
use Rattle.rewriting.specs.Exclusion.{occurs}
use Rattle.rewriting.specs.Steps.{Step}
use Rattle.rewriting.specs.Runs.{leaves, without_nine}
use Rattle.shell_choices.specs.Stable.{Choice, Context, free, StableWith, StableChoice}
use Rattle.shell_choices.specs.Translation.{numbered, disjunction, translated, Over}
use Rattle.shell_choices.proofs.Fresh.{numbered_low}
use Rattle.shell_guards.specs.Guards.{HeadsIn, guards, guarded, head_below, clauses_below}
use Rattle.shell_guards.specs.Contexts.{Rules, Clauses, WeightRule, Both, Outside}
use Rattle.shell_guards.proofs.Guards.{head_below_iff}
use Rattle.shell_guards.proofs.Start.{append_nil, below_append}
use Rattle.shell_guards.proofs.Contexts.{rules_heads, clauses_heads, clauses_in, both_heads, outside_heads}
use Rattle.shell_readback.specs.Readback.{table, is_choice, choices_in, StableLeft, told}
use Rattle.shell_readback.specs.Laid.{Laid, LaidAlone}
use Rattle.shell_readback.proofs.Start.{over_top, table_laid, table_sound}
use Rattle.shell_readback.proofs.Lone.{lone_sound}

bare_table : (n : ℕ) (cs : List Clause) (ks : List Choice) → table n cs ks [] ≡ translated n cs ks
unfolding guards guarded
bare_table n cs ks = append_nil (translated n cs ks)

-- Any list of steps without kind 9 on the translation of choices, read back, keeps the stable models of the clauses with the choices.
pub choices_sound : (n : ℕ) (cs : List Clause) (ks : List Choice) → Over n cs ks → (m : ℕ) (l : List Step) → So (without_nine l) → (M : Atoms)
    → StableChoice n cs ks M ↔ StableLeft n (n + length ks) (leaves m (whole (translated n cs ks)) l) free M
choices_sound n cs ks o m l w M = subst (λ ds. StableChoice n cs ks M ↔ StableLeft n (n + length ks) (leaves m (whole ds) l) free M) (bare_table n cs ks)
    (table_sound n cs ks [] o (λ a q. absurd (Memᴰ.not-nil q)) (λ a. false) (λ h q. absurd (false≢true q)) free (λ M X sub f h. h) m l w M)

-- ---- the nine kinds

disjunction_choice : (n top x : ℕ) (k : Choice) → n ≤ x → x < top → k.atom < n → So (is_choice n top (disjunction (record { fresh = x; choice = k })))
disjunction_choice n top x k l u b = (and_iff (head_below top c) (not (head_below n c))).1
    ((head_below_iff top c).1 two, (not_iff (head_below n c)).1 (λ h. omega (arith, l, (head_below_iff n c).0 h x (Memᴰ.tail (Memᴰ.head refl)))))
  where
    c : Clause
    c = disjunction (record { fresh = x; choice = k })

    two : (a : ℕ) → a ∈ k.atom ∷ x ∷ [] → a < top
    two a (Memᴰ.head e) = omega (arith, e, b, l, u)
    two a (Memᴰ.tail (Memᴰ.tail x9)) = elim x9 [ ]
    two a (Memᴰ.tail (Memᴰ.head e)) = omega (arith, e, u)

disjunctions_read : (n top x : ℕ) (ks : List Choice) → n ≤ x → x + length ks ≤ top → ((k : Choice) → k ∈ ks → k.atom < n) → choices_in n top (map disjunction (numbered x ks)) ≡ ks
unfolding numbered choices_in
disjunctions_read n top x [] l u o = refl
disjunctions_read n top x (k ∷ ks) l u o = rw (disjunction_choice n top x k l (omega (arith, u)) (o k (Memᴰ.head refl)), disjunctions_read n top (suc x) ks (omega (arith, l)) (omega (arith, u)) (λ j m. o j (Memᴰ.tail m)))

clauses_pass : (n top : ℕ) (cs ds : List Clause) → ((c : Clause) → c ∈ cs → So (head_below n c)) → choices_in n top (cs ++ ds) ≡ choices_in n top ds
unfolding choices_in
clauses_pass n top [] ds h = refl
clauses_pass n top (c ∷ cs) ds h = rw (so_false (is_choice n top c) (λ k. (not_iff (head_below n c)).0 ((and_iff (head_below top c) _).0 k).1 (h c (Memᴰ.head refl))), clauses_pass n top cs ds (λ d m. h d (Memᴰ.tail m)))

module _ (n : ℕ) (cs : List Clause) (ks : List Choice) (o : Over n cs ks) where
  abbrev top : ℕ
  top = n + length ks

  abbrev ds : List Clause
  ds = translated n cs ks

  below : (c : Clause) → c ∈ cs → So (head_below n c)
  below c m = (head_below_iff n c).1 (o.clauses c m).head

  -- the translation reads as the clauses and the choices
  pub translated_clauses : clauses_below n ds ≡ cs
  unfolding translated
  translated_clauses = below_append n cs (map disjunction (numbered n ks)) below (λ c m h. let w = map_of disjunction (numbered n ks) m in
      omega (arith, numbered_low n ks w.0 w.1, (head_below_iff n c).0 h w.0.fresh (subst (λ (d : Clause). w.0.fresh ∈ d.head) (sym w.2) (Memᴰ.tail (Memᴰ.head refl)))))

  pub translated_choices : choices_in n top ds ≡ ks
  unfolding translated
  translated_choices = clauses_pass n top cs (map disjunction (numbered n ks)) below ∙ disjunctions_read n top n ks (omega arith) (omega arith) (λ k m. (o.choices k m).atom)

  -- and is a table without guards
  pub translated_laid : LaidAlone n top ds
  translated_laid = record {
    laid = subst (Laid n top (λ a. false)) (bare_table n cs ks) (table_laid n cs ks [] o (λ a q. absurd (Memᴰ.not-nil q)) (λ a. false) (λ h q. absurd (false≢true q)));
    unguarded = λ c m. (head_below_iff top c).1 (over_top n cs ks [] o (λ a q. absurd (Memᴰ.not-nil q)) c m).head;
  }

  -- Any list of steps of the nine kinds on the translation of choices, read back, keeps the stable models of the clauses with the choices, beside clauses
  -- that have no atom in common with them: "A fact that no other clause mentions is led round the table".
  pub nine_choices_sound : (fs : List Clause) → ((f : Clause) → f ∈ fs → (a : ℕ) → So (occurs a f) → (c : Clause) → c ∈ ds → ¬ So (occurs a c)) → (l : List Step) (M : Atoms)
      → StableChoice n (fs ++ cs) ks M ↔ StableChoice n (fs ++ clauses_below n (told n (left (leaves top (whole ds) l)))) (choices_in n top (told n (left (leaves top (whole ds) l)))) M
  nine_choices_sound fs apart l M = subst (λ es. StableChoice n (fs ++ es) ks M ↔ After) translated_clauses
      (subst (λ js. StableChoice n (fs ++ clauses_below n ds) js M ↔ After) translated_choices (lone_sound n top ds translated_laid l fs apart M))
    where
      After : Type 0
      After = StableChoice n (fs ++ clauses_below n (told n (left (leaves top (whole ds) l)))) (choices_in n top (told n (left (leaves top (whole ds) l)))) M

-- ---- contexts, without kind 9

-- Q is what is left by a list without kind 9 of a table of clauses cs and choices ks over n atoms, as table_sound and layout_sound have it for each context with heads in H.
module _ (n top : ℕ) (cs : List Clause) (ks : List Choice) (H : Atoms) (Q : Marked)
    (kept : (sat : Context) → HeadsIn H sat → (M : Atoms) → StableWith n cs ks sat M ↔ StableLeft n top Q sat M) (M : Atoms) where
  -- Rules with any bodies that are monotone once their negative atoms are fixed.
  pub rules_sound : (I : Type 0) (body : I → Context) (head : I → List ℕ) → ((i : I) (M X : Atoms) → Subset X M → body i M X → body i M M) → ((i : I) → All H (head i))
      → StableWith n cs ks (Rules I body head) M ↔ StableLeft n top Q (Rules I body head) M
  rules_sound I body head mono k = kept (Rules I body head) (rules_heads I body head H mono k) M

  -- Rules and choices with weight bodies, and externals.
  pub outside_sound : (rs ws : List WeightRule) (allowed : Atoms → Type 0) (es : List ℕ)
      → ((r : WeightRule) → r ∈ rs → All H r.head) → ((r : WeightRule) → r ∈ ws → All H r.head) → All H es
      → StableWith n cs ks (Outside rs ws allowed es) M ↔ StableLeft n top Q (Outside rs ws allowed es) M
  outside_sound rs ws allowed es f g h = kept (Outside rs ws allowed es) (outside_heads H rs ws allowed es f g h) M

  -- Clauses ds that are led round the table, in any such context. Facts that no body has need no guard: they "take no room in the table".
  pub clauses_sound : (ds : List Clause) → ((d : Clause) → d ∈ ds → All H d.head) → (sat : Context) → HeadsIn H sat
      → StableWith n (ds ++ cs) ks sat M ↔ StableWith n (ds ++ clauses_below n (left Q)) (choices_in n top (left Q)) sat M
  clauses_sound ds k sat hi = Iff.trans (clauses_in n ds cs ks sat M) (Iff.trans
      (kept (Both (Clauses ds) sat) (both_heads H (Clauses ds) sat (clauses_heads H ds k) hi) M)
      (Iff.symm (clauses_in n ds (clauses_below n (left Q)) (choices_in n top (left Q)) sat M)))

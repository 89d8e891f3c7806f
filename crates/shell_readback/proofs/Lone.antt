-- Beside a table of clauses and choices, what has no atom in common with it, lone facts among it, is nothing to lists of the nine kinds.
use mathlib.Core.Path.{refl, sym, subst}
use mathlib.Core.Logic.Iff
use mathlib.Core.Logic.{◌↔◌}
use mathlib.Core.Bool.{◌||◌, So}
use mathlib.Core.List.Memᴰ
use mathlib.Core.List.{List, ◌++◌}
use Prim.Native.Nat.{ℕ}
use lib.ListN.{get_or}
use Rattle.semantics.specs.Lists.{◌∈◌, any, keep, mem}
use Rattle.semantics.specs.Programs.{Clause, Atoms}
use Rattle.semantics.proofs.Tests.{any_iff, mem_iff, keep_iff, or_left, or_right}
use Rattle.semantics.proofs.Models.{models_iff}
use Rattle.semantics.proofs.Decide.{map_of}
use Rattle.rewriting.specs.Marked.{Marked, entry, left, whole}
use Rattle.rewriting.specs.Exclusion.{occurs}
use Rattle.rewriting.specs.Steps.{Step}
use Rattle.rewriting.specs.Runs.{leaves}
use Rattle.rewriting.proofs.Left.{left_each, left_whole}
use Rattle.shell_choices.specs.Stable.{Choice, rule, Context, free, StableChoice}
use Rattle.shell_guards.specs.Guards.{clauses_below}
use Rattle.shell_guards.specs.Contexts.{Clauses, Both}
use Rattle.shell_guards.proofs.Sound.{below_of}
use Rattle.shell_guards.proofs.Contexts.{clauses_in}
use Rattle.shell_readback.specs.Readback.{choice_of, is_choice, choices_in, StableRead, told}
use Rattle.shell_readback.specs.Laid.{LaidAlone}
use Rattle.shell_readback.specs.Beside.{Apart, Sees}
use Rattle.shell_readback.proofs.Readable.{ReadableList}
use Rattle.shell_readback.proofs.Parts.{Shrunk, shrunk_list}
use Rattle.shell_readback.proofs.Apart.{head_off, pos_off, neg_off, apart_by, all_on, any_on, beside}
use Rattle.shell_readback.proofs.Nine.{told_of, told_readable, start_readable, form_left, once_left, nine_sound}

-- clauses whose atoms are all of F ask for those alone
clauses_see : (fs : List Clause) (F : Atoms) → ((c : Clause) → c ∈ fs → (a : ℕ) → So (occurs a c) → So (F a)) → Sees F (Clauses fs)
clauses_see fs F o M N X Y e f h = (models_iff N Y fs).1 (λ c m g p. any_on F X Y c.head (λ a q. o c m a (or_left _ _ ((mem_iff _ _).1 q))) f
    ((models_iff M X fs).0 h c m (λ w. g (any_on F M N c.neg (λ a q. o c m a (in_neg c a q)) e w)) (all_on F Y X c.pos (λ a q. o c m a (in_pos c a q)) (λ a y. sym (f a y)) p)))
  where
    in_pos : (c : Clause) (a : ℕ) → a ∈ c.pos → So (occurs a c)
    in_pos c a q = or_right (mem a c.head) (mem a c.pos || mem a c.neg) (or_left _ _ ((mem_iff _ _).1 q))

    in_neg : (c : Clause) (a : ℕ) → a ∈ c.neg → So (occurs a c)
    in_neg c a q = or_right (mem a c.head) (mem a c.pos || mem a c.neg) (or_right (mem a c.pos) (mem a c.neg) ((mem_iff _ _).1 q))

-- ---- what is read has no other atoms

module _ (F : Atoms) (n top : ℕ) (es : List Clause) (o : ReadableList n top es) (apart : (c : Clause) → c ∈ es → Apart F c) where
  clauses_apart : (c : Clause) → c ∈ clauses_below n es → Apart F c
  clauses_apart c m = apart c ((below_of n es c).0 m).0

  choice_apart : (c : Clause) → c ∈ es → So (is_choice n top c) → Apart F (rule (choice_of c))
  choice_apart c m k = apart_by F (rule (choice_of c))
      (λ a q. head_off F c (apart c m) a (subst (λ b. b ∈ c.head) (sym (Memᴰ.eq_of_singleton q)) (subst (λ l. get_or c.head 0 0 ∈ l) (sym (o.choice c m k).head) (Memᴰ.head refl))))
      (pos_off F c (apart c m)) (neg_off F c (apart c m))

  choices_apart : (k : Choice) → k ∈ choices_in n top es → Apart F (rule k)
  unfolding choices_in
  choices_apart k m =
      let w = map_of choice_of (keep (is_choice n top) es) m in let v = (keep_iff (is_choice n top) es w.0).0 w.1 in
      subst (λ k. Apart F (rule k)) (sym w.2) (choice_apart w.0 v.0 v.1)

-- nor has what is left
part_apart : (F : Atoms) (P Q : Marked) → Shrunk Q P → ((c : Clause) → c ∈ left P → Apart F c) → (c : Clause) → c ∈ left Q → Apart F c
part_apart F P Q s h = (left_each (Apart F) Q).1 (λ i k. let p = s i k in let o = (left_each (Apart F) P).0 h i p.kept in apart_by F (entry Q i).clause
    (λ a m. head_off F (entry P i).clause o a ((keep_iff p.test (entry P i).clause.head a).0 (subst (λ l. a ∈ l) p.head m)).0)
    (λ a m. pos_off F (entry P i).clause o a (p.pos a m)) (λ a m. neg_off F (entry P i).clause o a (p.neg a m)))

-- ---- the table

module _ (n top : ℕ) (ds : List Clause) (laid : LaidAlone n top ds) (l : List Step) where
  abbrev Q : Marked
  Q = leaves top (whole ds) l

  abbrev read : List Clause
  read = told n (left Q)

  read_readable : ReadableList n top read
  read_readable = let s = shrunk_list top (whole ds) l in told_readable n top (left Q) laid.laid.room (form_left n top ds laid Q s) (once_left n top ds laid Q s)

  -- Let the context ask for atoms of F alone, none of which occurs in the table. Whatever list of steps of the nine kinds is taken: what the table reads as
  -- before has beside the context the stable models of what is read back.
  pub beside_sound : (F : Atoms) → ((c : Clause) → c ∈ ds → Apart F c) → (sat : Context) → Sees F sat → (M : Atoms) → StableRead n top ds sat M ↔ StableRead n top read sat M
  beside_sound F apart sat see M = (
    beside n F sat see cs es ks js (clauses_apart F n top ds start apart) (choices_apart F n top ds start apart) (clauses_apart F n top read read_readable after) (choices_apart F n top read read_readable after)
        (λ N. (nine_sound n top ds laid l N).0) M,
    beside n F sat see es cs js ks (clauses_apart F n top read read_readable after) (choices_apart F n top read read_readable after) (clauses_apart F n top ds start apart) (choices_apart F n top ds start apart)
        (λ N. (nine_sound n top ds laid l N).1) M,
  )
    where
      cs : List Clause
      cs = clauses_below n ds

      es : List Clause
      es = clauses_below n read

      ks : List Choice
      ks = choices_in n top ds

      js : List Choice
      js = choices_in n top read

      start : ReadableList n top ds
      start = start_readable n top ds laid

      after : (c : Clause) → c ∈ read → Apart F c
      after c m = part_apart F (whole ds) Q (shrunk_list top (whole ds) l) (rw left_whole apart) c (told_of n (left Q) c m).0

  -- Clauses fs that have no atom in common with the table, such as lone facts, are led round it.
  pub lone_sound : (fs : List Clause) → ((f : Clause) → f ∈ fs → (a : ℕ) → So (occurs a f) → (c : Clause) → c ∈ ds → ¬ So (occurs a c)) → (M : Atoms)
      → StableChoice n (fs ++ clauses_below n ds) (choices_in n top ds) M ↔ StableChoice n (fs ++ clauses_below n read) (choices_in n top read) M
  lone_sound fs apart M = Iff.trans (clauses_in n fs (clauses_below n ds) (choices_in n top ds) free M) (Iff.trans
      (beside_sound F (λ c m a y. let w = (any_iff (occurs a) fs).0 y in apart w.0 w.1 a w.2 c m) (Both (Clauses fs) free) see M)
      (Iff.symm (clauses_in n fs (clauses_below n read) (choices_in n top read) free M)))
    where
      F : Atoms
      F a = any (occurs a) fs

      see : Sees F (Both (Clauses fs) free)
      see M N X Y e f h = (clauses_see fs F (λ c m a o. (any_iff (occurs a) fs).1 (c, m, o)) M N X Y e f h.0, tt)

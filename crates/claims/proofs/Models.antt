-- Slip 3 of document 02, "List all packs of a small order", of every table and every slice: which calls are taken and what they say, and that the words
-- listed are those of the stable models.
use mathlib.Core.Path.{◌≡◌, refl, sym, ap, subst, ◌∙◌}
use mathlib.Core.Logic.{◌↔◌}
use mathlib.Core.Bool.{Bool, true, false, So}
use mathlib.Core.List.{List}
use Prim.Native.Nat.{ℕ, ◌^◌, ◌≤◌, ◌<◌}
use native.Mathlib.Omega.{arith}
use lib.Dec.{leb}
use lib.ListN.{length, get_or, take, drop}
use lib.Seq.{drop_at}
use borrow.Author.Tests.{leb-true, leb-false, le-leb}
use Rattle.semantics.specs.Lists.{◌∈◌, ascending}
use Rattle.semantics.specs.Programs.{Program, Atoms, among, Stable}
use Rattle.answers.specs.declared.CallQuestion.TheVariants.{FewAtoms, ModelsRoom}
use Rattle.answers.specs.declared.Refusal.{Refusal}
use Rattle.answers.specs.declared.Refusal.TheVariants.{Call}
use Rattle.answers.specs.Answers.{Answer}
use Rattle.std.specs.Prelude.{Ok, Err}
use Rattle.answers.specs.Answers.{ask, written, written_if}
use Rattle.answers.proofs.Asked.{refused_taken}
use Rattle.answers.proofs.Slices.{take_written}
use Rattle.table.specs.Questions.{Checked}
use Rattle.table.specs.Questions.{Passed, table_of, on_table}
use Rattle.table.specs.Encoding.{Within, encode}
use Rattle.table.specs.Programs.{program_of}
use Rattle.table.proofs.Encoding.{valid_passed}
use Rattle.models_test.specs.Answer.{test_of}
use Rattle.sorting.specs.Sorting.{below}
use Rattle.models_words.specs.Words.{word, set_of_word, entries_of, models_of}
use Rattle.sorting.proofs.Ascending.{length_below, keep_shorter}
use Rattle.models_words.proofs.Sets.{entries_ordered, word_entries, among_entries}
use Rattle.models_words.proofs.Listed.{listed_iff, listed_ascends, listed_every, listed_once, listed_same}
use Rattle.models_words.proofs.Antichains.{few_models}
use Rattle.models_list.specs.Answer.{model_words, models_answer, models_out}
use Rattle.step_lists.specs.Lists.{list_fits, check_list}
use Rattle.reduced_sizes.specs.Leaves.{left_program}
use Rattle.claims.proofs.Demand2.{Asked, test_yes}
use Rattle.claims.proofs.Demand3.{any_list}

-- ---- how the call goes

-- by the first question that gets a no, or with every question answered yes
pub data ListingGoes (ws : List ℕ) (room : ℕ) : Answer → Type 0 where
  table : (r : Refusal) → table_of ws ≡ Err r → ListingGoes ws room (Err r)
  many : Passed ws → 16 < get_or ws 0 0 → ListingGoes ws room (Err (Call FewAtoms))
  short : Passed ws → get_or ws 0 0 ≤ 16 → room < length (model_words ws) → ListingGoes ws room (Err (Call ModelsRoom))
  made : Passed ws → get_or ws 0 0 ≤ 16 → length (model_words ws) ≤ room → ListingGoes ws room (Ok (length (model_words ws)))

pub listing_goes : (ws : List ℕ) (room : ℕ) → ListingGoes ws room (models_answer ws room)
unfolding models_answer on_table ask
listing_goes ws room = by_table (table_of ws) refl
  where
    by_room : Passed ws → get_or ws 0 0 ≤ 16 → (b : Bool) → leb (length (model_words ws)) room ≡ b → ListingGoes ws room (ask Err b (Call ModelsRoom) (Ok (length (model_words ws))))
    by_room p f true e = made p f (leb-true _ _ e)
    by_room p f false e = short p f (leb-false _ _ e)

    by_atoms : Passed ws → (b : Bool) → leb (get_or ws 0 0) 16 ≡ b
        → ListingGoes ws room (ask Err b (Call FewAtoms) (ask Err (leb (length (model_words ws)) room) (Call ModelsRoom) (Ok (length (model_words ws)))))
    by_atoms p true e = by_room p (leb-true _ _ e) (leb (length (model_words ws)) room) refl
    by_atoms p false e = many p (leb-false _ _ e)

    by_table : (c : Checked) → table_of ws ≡ c
        → ListingGoes ws room (on_table Err c (ask Err (leb (get_or ws 0 0) 16) (Call FewAtoms) (ask Err (leb (length (model_words ws)) room) (Call ModelsRoom) (Ok (length (model_words ws))))))
    by_table (Ok t) e = by_atoms (valid_passed ws t e).0 (leb (get_or ws 0 0) 16) refl
    by_table (Err r) e = table r e

-- 12,870 words are always enough: "31 .. is for a slice shorter than the count", and the count is at most that.
pub models_enough : (ws : List ℕ) (room : ℕ) → Passed ws → (program_of ws).atoms ≤ 16 → 12870 ≤ room → models_answer ws room ≡ Ok (length (models_of (program_of ws)))
unfolding models_answer on_table ask program_of
models_enough ws room p few h = rw (p.valid, le-leb (get_or ws 0 0) 16 few, le-leb (length (model_words ws)) room (omega (arith, few_models (program_of ws) few)))

-- "31 .. a slice shorter than the count, which stays unwritten": a refused call changes nothing.
pub models_refused : (ws out : List ℕ) (r : Refusal) → models_answer ws (length out) ≡ Err r → models_out ws out ≡ out
unfolding models_out written_if
models_refused ws out r h = rw h

-- ---- what a call that is taken writes

module _ (ws out : List ℕ) (k : ℕ) (h : models_answer ws (length out) ≡ Ok k) where
  taken : (Passed ws) × ((program_of ws).atoms ≤ 16) × (k ≡ length (model_words ws))
  unfolding program_of
  taken = go (models_answer ws (length out)) (listing_goes ws (length out)) h
    where
      go : (a : Answer) → ListingGoes ws (length out) a → a ≡ Ok k → (Passed ws) × (get_or ws 0 0 ≤ 16) × (k ≡ length (model_words ws))
      go a (table r e) q = absurd (refused_taken _ _ q)
      go a (many p s) q = absurd (refused_taken _ _ q)
      go a (short p f s) q = absurd (refused_taken _ _ q)
      go a (made p f s) q = let e : length (model_words ws) ≡ k = cc in (p, f, sym e)

  after : models_out ws out ≡ written (model_words ws) out
  unfolding models_out written_if
  after = rw h

  -- the words that the call has written
  abbrev pub words_listed : List ℕ
  words_listed = take k (models_out ws out)

  pub listed_words : words_listed ≡ models_of (program_of ws)
  listed_words = rw after (take_written (model_words ws) out k taken.2)

  -- "the count is in the result"
  pub listed_count : k ≡ length words_listed
  listed_count = taken.2 ∙ ap length (sym listed_words)

  -- "Words of the slice past the count don't change."
  pub listed_past : drop k (models_out ws out) ≡ drop k out
  listed_past = rw after (drop_at (model_words ws) (drop (length (model_words ws)) out) k (sym taken.2) ∙ ap (λ i. drop i out) (sym taken.2))

  -- A word is listed exactly when it is below 2 to the power of n and its set is a stable model.
  pub listed_stable : (x : ℕ) → (x ∈ words_listed) ↔ ((x < 2 ^ (program_of ws).atoms) × Stable (program_of ws) (set_of_word x))
  listed_stable x = subst (λ l. (x ∈ l) ↔ ((x < 2 ^ (program_of ws).atoms) × Stable (program_of ws) (set_of_word x))) (sym listed_words) (listed_iff (program_of ws) x)

  -- "write every stable model"
  pub listed_model : (M : Atoms) → Stable (program_of ws) M → (x : ℕ) × (x ∈ words_listed) × (set_of_word x ≡ M)
  listed_model M s = let (x, m, e) = listed_every (program_of ws) M s in (x, subst (λ l. x ∈ l) (sym listed_words) m, e)

  -- "as one word, the sum of 2 to the power of each atom in it": the atoms of its set, ascending
  pub listed_sum : (x : ℕ) → x ∈ words_listed → (word (entries_of (program_of ws).atoms x) ≡ x) × (among (entries_of (program_of ws).atoms x) ≡ set_of_word x)
  listed_sum x m = let b = ((listed_stable x).0 m).0 in (word_entries (program_of ws).atoms x b, among_entries (program_of ws).atoms x b)

  -- "Words ascend"
  pub listed_ascend : So (ascending words_listed)
  listed_ascend = subst (λ l. So (ascending l)) (sym listed_words) (listed_ascends (program_of ws))

  -- "each model stands once"
  pub listed_single : (x y : ℕ) → x ∈ words_listed → y ∈ words_listed → set_of_word x ≡ set_of_word y → x ≡ y
  listed_single x y m n = listed_once (program_of ws) x y (subst (λ l. x ∈ l) listed_words m) (subst (λ l. y ∈ l) listed_words n)

  few_entries : (x : ℕ) → length (entries_of (program_of ws).atoms x) ≤ 16
  unfolding entries_of
  few_entries x = omega (arith, keep_shorter (set_of_word x) (below (program_of ws).atoms), length_below (program_of ws).atoms, taken.1)

  -- "A set is listed exactly when the test of demand 2 would say yes": the test of its atoms, ascending
  pub listed_tested : (x : ℕ) → x < 2 ^ (program_of ws).atoms → (x ∈ words_listed) ↔ (test_of ws (entries_of (program_of ws).atoms x) ≡ Ok 1)
  listed_tested x b =
      let n = (program_of ws).atoms in
      let e = among_entries n x b in
      let asked : Asked ws (entries_of n x) = record { table = taken.0; few = few_entries x; ordered = entries_ordered n x } in (
        λ m. (test_yes ws (entries_of n x)).1 (asked, subst (Stable (program_of ws)) (sym e) ((listed_stable x).0 m).1),
        λ t. (listed_stable x).1 (b, subst (Stable (program_of ws)) e ((test_yes ws (entries_of n x)).0 t).1),
      )

-- ---- after a reduction

-- Whatever list of steps is checked, and wherever it is refused, the program that its steps leave has the same list.
pub left_lists : (P : Program) → Within P → (ms ls : List ℕ) → length (encode P) ≤ length ms → So (list_fits ls)
    → models_of (left_program (encode P) (check_list (encode P) ms ls).marks) ≡ models_of P
unfolding encode
left_lists P w ms ls l f = sym (listed_same P (left_program (encode P) (check_list (encode P) ms ls).marks) refl (any_list P w ms ls l f).models)

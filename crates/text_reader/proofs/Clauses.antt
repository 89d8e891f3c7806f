-- The answers for a clause and for clauses, by what its lines give.
use Prim.Native.Nat.{ℕ, suc, ◌+◌, ◌-◌, ◌≤◌, ◌<◌}
use mathlib.Core.Path.{◌≡◌, refl, sym, ap, ◌∙◌}
use mathlib.Core.List.{List, [], ◌∷◌, ◌++◌, append_assoc, append-nil}
use native.Mathlib.Omega.{arith}
use native.Mathlib.Numerals.{add-one, add-two, add-three}
use lib.ListN.{length, length-append, set}
use lib.Seq.{sets}
use Rattle.answers.specs.declared.Refusal.{Refusal}
use Rattle.text_form.specs.declared.Unread.{Unread}
use Rattle.semantics.specs.Programs.{Clause}
use Rattle.table.specs.Encoding.{clause_words, clauses_words}
use Rattle.text_form.specs.Render.{head_key, pos_key, neg_key}
use Rattle.text_form.specs.Reader.{Read, done, stop, then, list_at, clause_at, clauses_at}
use Rattle.text_form.specs.declared.Line.{Line}
use Rattle.text_form.specs.Stored.{Held, list_words}
use Rattle.text_form.proofs.Lines.{list_inv}
use Rattle.table.proofs.Slices.{sets_append, set_sets}
use Rattle.text_form.proofs.Texts.{clause_inv}

-- a clause's words, the counts stored last
pub clause_stored : (w H P Q : List ℕ) (u h p q : ℕ) → length H ≡ h → length P ≡ p → length Q ≡ q
    → set (set (set (sets (sets (sets w (u + 3) H) (u + 3 + h) P) (u + 3 + h + p) Q) u h) (u + 1) p) (u + 2) q ≡ sets w u (length H ∷ length P ∷ length Q ∷ H ++ (P ++ Q))
clause_stored w H P Q u h p q eh ep eq =
    let n : sets (sets (sets w (u + 3) H) (u + 3 + h) P) (u + 3 + h + p) Q ≡ sets w (u + 3) (H ++ (P ++ Q)) =
    sym (sets_append w (u + 3) H (P ++ Q) ∙ rw eh (sets_append (sets w (u + 3) H) (u + 3 + h) P Q ∙ rw ep)) in
    rw (n, set_sets w (u + 3) u h (H ++ (P ++ Q)) (omega arith), set_sets (set w u h) (u + 3) (u + 1) p (H ++ (P ++ Q)) (omega arith), set_sets (set (set w u h) (u + 1) p) (u + 3) (u + 2) q (H ++ (P ++ Q)) (omega arith), add-one u, add-two u, add-three u, eh, ep, eq)

-- ---- a part that was read

module _ (ts t key : List ℕ) (n used at : ℕ) (line : Line) (w w' : List ℕ) (H : Held list_words (list_at ts key n used at) t line used w w') where
  pub part_room : used + line.count ≤ 8192
  part_room = omega (arith, (list_inv ts key H.thing n used at line.next.at H.read).fits, H.count)

-- ---- a clause

module _ (ts : List ℕ) (n used at : ℕ) where
  pub head_stop : (r : Refusal) → list_at ts head_key n (used + 3) at ≡ stop r → clause_at ts n used at ≡ stop r
  unfolding clause_at then
  head_stop r e = rw e

  module _ (h : Line) (w w1 : List ℕ) (H : Held list_words (list_at ts head_key n (used + 3) at) ts h (used + 3) w w1) where
    pub pos_stop : (r : Refusal) → list_at ts pos_key n (used + 3 + h.count) h.next.at ≡ stop r → clause_at ts n used at ≡ stop r
    unfolding clause_at then
    pos_stop r e = rw (H.read, H.count, e)

    module _ (p : Line) (w2 : List ℕ) (P : Held list_words (list_at ts pos_key n (used + 3 + h.count) h.next.at) ts p (used + 3 + h.count) w1 w2) where
      pub neg_stop : (r : Refusal) → list_at ts neg_key n (used + 3 + h.count + p.count) p.next.at ≡ stop r → clause_at ts n used at ≡ stop r
      unfolding clause_at then
      neg_stop r e = rw (H.read, H.count, P.read, P.count, e)

      pub clause_read : (q : Line) (w3 w' : List ℕ) → Held list_words (list_at ts neg_key n (used + 3 + h.count + p.count) p.next.at) ts q (used + 3 + h.count + p.count) w2 w3
          → w' ≡ set (set (set w3 used h.count) (used + 1) p.count) (used + 2) q.count
          → Held clause_words (clause_at ts n used at) ts (record { count = 3 + h.count + p.count + q.count; next = q.next }) used w w'
      unfolding clause_at then
      clause_read q w3 w' Q e =
          let s : w3 ≡ sets (sets (sets w (used + 3) H.thing) (used + 3 + h.count) P.thing) (used + 3 + h.count + p.count) Q.thing = rw (← H.stored, ← P.stored, ← Q.stored) in
          record {
            thing = record { head = H.thing; pos = P.thing; neg = Q.thing };
            read = rw (H.read, H.count, P.read, P.count, Q.read);
            count = omega (arith, length-append H.thing (P.thing ++ Q.thing), length-append P.thing Q.thing, H.count, P.count, Q.count);
            stored = e ∙ ap (λ z. set (set (set z used h.count) (used + 1) p.count) (used + 2) q.count) s ∙ clause_stored w H.thing P.thing Q.thing used h.count p.count q.count H.count P.count Q.count;
            same_text = Q.same_text;
          }

-- ---- clauses, as far as they are read

abbrev pub join_all : List Clause → Read (List Clause) → Read (List Clause)
join_all cs (done ds e) = done (cs ++ ds) e
join_all cs (stop r) = stop r

join_one : (cs : List Clause) (c : Clause) (x : Read (List Clause)) → join_all cs (then x (λ ds e. done (c ∷ ds) e)) ≡ join_all (cs ++ c ∷ []) x
unfolding then
join_one cs c (done ds e) = ap (λ z. done z e) (sym (append_assoc cs (c ∷ []) ds))
join_one cs c (stop r) = refl

words_one : (cs : List Clause) (c : Clause) → clauses_words (cs ++ c ∷ []) ≡ clauses_words cs ++ clause_words c
unfolding clauses_words
words_one [] c = append-nil (clause_words c)
words_one (d ∷ cs) c = rw (words_one cs c) (sym (append_assoc (clause_words d) (clauses_words cs) (clause_words c)))

pub record Going (ts : List ℕ) (n m at₀ k used at : ℕ) (w₀ w : List ℕ) : Type 0 where
  pub cs : List Clause
  pub whole : clauses_at ts n m 2 at₀ ≡ join_all cs (clauses_at ts n (m - k) used at)
  pub stored : w ≡ sets w₀ 2 (clauses_words cs)
  pub count : used ≡ 2 + length (clauses_words cs)
  pub room : used ≤ 8192
  pub next : at ≤ length ts

pub going_start : (ts : List ℕ) (n m at : ℕ) (w : List ℕ) → at ≤ length ts → Going ts n m at 0 2 at w w
unfolding clauses_words
going_start ts n m at w l = let q : m - 0 ≡ m = omega arith in
    record { cs = []; whole = rw q (same (clauses_at ts n m 2 at)); stored = refl; count = omega arith; room = omega arith; next = l }
  where
    same : (x : Read (List Clause)) → x ≡ join_all [] x
    same (done ds e) = refl
    same (stop r) = refl

clauses_one : (ts : List ℕ) (n m k used at j e : ℕ) (c : Clause) → k < m → clause_at ts n used at ≡ done c e → length (clause_words c) ≡ j
    → clauses_at ts n (m - k) used at ≡ then (clauses_at ts n (m - (k + 1)) (used + j) e) (λ ds e. done (c ∷ ds) e)
unfolding clauses_at then
clauses_one ts n m k used at j e c l d t = let q : m - k ≡ suc (m - (k + 1)) = omega arith in rw (q, d, t)

module _ (ts : List ℕ) (n m at₀ k used at : ℕ) (w₀ w : List ℕ) (l : k < m) (g : Going ts n m at₀ k used at w₀ w) where
  pub going_on : (w' : List ℕ) (t : List ℕ) (line : Line) → Held clause_words (clause_at ts n used at) t line used w w' → Going ts n m at₀ (k + 1) (used + line.count) line.next.at w₀ w'
  going_on w' t line h =
      let c = h.thing in
      let i = clause_inv ts n used at line.next.at c h.read in
      record {
        cs = g.cs ++ c ∷ [];
        whole = g.whole ∙ ap (join_all g.cs) (clauses_one ts n m k used at line.count line.next.at c l h.read h.count) ∙ join_one g.cs c (clauses_at ts n (m - (k + 1)) (used + line.count) line.next.at);
        stored = h.stored ∙ ap (λ z. sets z used (clause_words c)) g.stored ∙ ap (λ z. sets (sets w₀ 2 (clauses_words g.cs)) z (clause_words c)) g.count ∙ sym (sets_append w₀ 2 (clauses_words g.cs) (clause_words c)) ∙ ap (sets w₀ 2) (sym (words_one g.cs c));
        count = omega (arith, ap length (words_one g.cs c), length-append (clauses_words g.cs) (clause_words c), g.count, h.count);
        room = omega (arith, i.fits, h.count);
        next = i.next;
      }

  pub going_stop : (r : Refusal) → clause_at ts n used at ≡ stop r → clauses_at ts n m 2 at₀ ≡ stop r
  unfolding clauses_at then
  going_stop r d =
      let q : m - k ≡ suc (m - (k + 1)) = omega arith in
      let a : clauses_at ts n (m - k) used at ≡ stop r = rw (q, d) in
      g.whole ∙ ap (join_all g.cs) a

pub going_end : (ts : List ℕ) (n m at₀ k used : ℕ) (next : Unread) (w₀ w : List ℕ) → m ≤ k → Going ts n m at₀ k used next.at w₀ w → next.text.now ≡ ts
    → Held clauses_words (clauses_at ts n m 2 at₀) ts (record { count = used - 2; next = next }) 2 w₀ w
unfolding clauses_at
going_end ts n m at₀ k used next w₀ w l g e =
    let z : m - k ≡ 0 = omega arith in
    record {
      thing = g.cs;
      read = g.whole ∙ rw z (ap (λ x. done x next.at) (append-nil g.cs));
      count = omega (arith, g.count);
      stored = g.stored;
      same_text = e;
    }

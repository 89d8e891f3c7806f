-- A clause's words, where they stand: its counts, its parts, and what follows them.
use Prim.Native.Nat.{ℕ, ◌+◌}
use mathlib.Core.Path.{◌≡◌, refl, sym, ap, ◌∙◌}
use mathlib.Core.List.{List, [], ◌∷◌, ◌++◌, append_assoc}
use native.Mathlib.Nat.{add-zero}
use lib.ListN.{length, get_or, drop}
use lib.Seq.{drop-drop, get_or-drop, take-append_seam, drop-append_seam}
use Rattle.semantics.specs.Programs.{Clause}
use Rattle.table.specs.Encoding.{clause_words, clauses_words}
use Rattle.table.specs.Places.{cut}
use Rattle.table.specs.Programs.{clause_of, clauses_of}

-- past the first of two parts
pub past : (ws xs r : List ℕ) (at : ℕ) → drop at ws ≡ xs ++ r → drop (at + length xs) ws ≡ r
past ws xs r at e = sym (drop-drop (length xs) at ws) ∙ ap (drop (length xs)) e ∙ drop-append_seam xs r

pub word_at : (ws : List ℕ) (at i x : ℕ) (l : List ℕ) → drop at ws ≡ l → get_or l i 0 ≡ x → get_or ws (at + i) 0 ≡ x
word_at ws at i x l e h = sym (get_or-drop at ws i 0) ∙ ap (λ l. get_or l i 0) e ∙ h

cut_is : (ws xs r : List ℕ) (at : ℕ) → drop at ws ≡ xs ++ r → cut ws at (length xs) ≡ xs
cut_is ws xs r at e = rw e (take-append_seam xs r)

pub record ClauseStands (ws : List ℕ) (at : ℕ) (c : Clause) (r : List ℕ) : Type 0 where
  pub h : get_or ws at 0 ≡ length c.head
  pub p : get_or ws (at + 1) 0 ≡ length c.pos
  pub q : get_or ws (at + 2) 0 ≡ length c.neg
  pub head : drop (at + 3) ws ≡ c.head ++ (c.pos ++ (c.neg ++ r))
  pub pos : drop (at + 3 + length c.head) ws ≡ c.pos ++ (c.neg ++ r)
  pub neg : drop (at + 3 + length c.head + length c.pos) ws ≡ c.neg ++ r
  pub next : drop (at + 3 + length c.head + length c.pos + length c.neg) ws ≡ r

pub stands : (ws : List ℕ) (at : ℕ) (c : Clause) (r : List ℕ) → drop at ws ≡ clause_words c ++ r → ClauseStands ws at c r
stands ws at c r e =
    let d : drop at ws ≡ length c.head ∷ length c.pos ∷ length c.neg ∷ (c.head ++ (c.pos ++ (c.neg ++ r))) =
    e ∙ ap (λ l. length c.head ∷ length c.pos ∷ length c.neg ∷ l) (append_assoc c.head (c.pos ++ c.neg) r ∙ ap (λ l. c.head ++ l) (append_assoc c.pos c.neg r)) in
    let a = past ws (length c.head ∷ length c.pos ∷ length c.neg ∷ []) (c.head ++ (c.pos ++ (c.neg ++ r))) at d in
    let b = past ws c.head (c.pos ++ (c.neg ++ r)) (at + 3) a in
    let f = past ws c.pos (c.neg ++ r) (at + 3 + length c.head) b in
    record {
      h = ap (λ i. get_or ws i 0) (sym (add-zero at)) ∙ word_at ws at 0 (length c.head) _ d refl;
      p = word_at ws at 1 (length c.pos) _ d refl;
      q = word_at ws at 2 (length c.neg) _ d refl;
      head = a;
      pos = b;
      neg = f;
      next = past ws c.neg r (at + 3 + length c.head + length c.pos) f;
    }

pub clause_stands : (ws : List ℕ) (at : ℕ) (c : Clause) (r : List ℕ) → ClauseStands ws at c r → clause_of ws at ≡ c
clause_stands ws at c r s =
    rw (s.h, s.p, s.q, cut_is ws c.head _ _ s.head, cut_is ws c.pos _ _ s.pos, cut_is ws c.neg _ _ s.neg)

pub clauses_stand : (ws : List ℕ) (at : ℕ) (cs : List Clause) (r : List ℕ) → drop at ws ≡ clauses_words cs ++ r → clauses_of ws (length cs) at ≡ cs
unfolding clauses_words clauses_of
clauses_stand ws at [] r e = refl
clauses_stand ws at (c ∷ cs) r e =
    let s = stands ws at c (clauses_words cs ++ r) (e ∙ append_assoc (clause_words c) (clauses_words cs) r) in
    rw (clause_stands ws at c _ s, s.h, s.p, s.q, clauses_stand ws (at + 3 + length c.head + length c.pos + length c.neg) cs r s.next)

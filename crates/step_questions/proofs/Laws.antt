-- Laws of a step: its questions in their order, and what they come to.
use mathlib.Core.Path.{◌≡◌, refl, sym, ap, subst, ◌∙◌}
use mathlib.Core.Logic.{◌≢◌}
use mathlib.Core.Bool.{Bool, true, false, not, cond, ◌&&◌, So}
use mathlib.Core.List.{List}
use Prim.Native.Nat.{ℕ, zero, suc, ◌≤◌, ◌<◌}
use native.Mathlib.Omega.{arith}
use lib.Dec.{eqb, leb}
use lib.ListN.{length, get_or, get_or-eq_default}
use borrow.Author.Tests.{leb-true}
use Rattle.std.specs.Prelude.{Ok, Err}
use Rattle.semantics.proofs.Tests.{and_iff}
use Rattle.rewriting.specs.Marked.{Marked, gone, entry, left}
use Rattle.rewriting.specs.Steps.{Step, step, in_no_head, target_kept, partner_kept, atom_known, atom_matches, atom_headed, condition_holds, applies}
use Rattle.rewriting.specs.Kinds.{Kind, success, loop, excluded, number, kind_of, uses_partner, on_target}
use Rattle.rewriting.proofs.Left.{kept_lt}
use Rattle.rewriting.proofs.Rows.{each_kind, number_kind_of, kind_of_number}
use Rattle.rewriting.proofs.Search.{partner_lt}
use Rattle.answers.specs.declared.StepQuestion.{StepQuestion}
use Rattle.answers.specs.declared.StepQuestion.TheVariants.{KindKnown, TargetKept, PartnerKept, AtomKnown, AtomMatches, AtomHeaded, ConditionHolds}
use Rattle.answers.specs.Answers.{ask}
use Rattle.answers.proofs.Asked.{ask_pair}
use Rattle.table.specs.View.{view}
use Rattle.table.specs.Effects.{marks_after}
use Rattle.table.proofs.View.{length_view}
use Rattle.step_questions.specs.Questions.{kind_known, shape_questions, condition_questions, step_questions}
use Rattle.step_questions.specs.Verdicts.{Verdict, shape_of, condition_of, verdict_at, Shaped, Taken, WordsTaken}

-- ---- two answers to one step: what relates them wherever a question stops them, and in what follows, relates them

pub shape_pair : {A B : Type 0} (R : A → B → Type 0) (f : StepQuestion → A) (g : StepQuestion → B) → ((q : StepQuestion) → R (f q) (g q))
    → (n : ℕ) (P : Marked) (k : ℕ) (s : Step) (a : A) (b : B) → R a b → R (shape_questions f n P k s a) (shape_questions g n P k s b)
unfolding shape_questions
shape_pair R f g h n P k s a b x =
    ask_pair R f g (kind_known k) KindKnown _ _ (h KindKnown)
    (ask_pair R f g (target_kept P s) TargetKept _ _ (h TargetKept)
    (ask_pair R f g (partner_kept P s) PartnerKept _ _ (h PartnerKept)
    (ask_pair R f g (atom_known n s) AtomKnown _ _ (h AtomKnown)
    (ask_pair R f g (atom_matches P s) AtomMatches a b (h AtomMatches) x))))

-- the whole of the questions
pub questions_pair : {A B : Type 0} (R : A → B → Type 0) (f : StepQuestion → A) (g : StepQuestion → B) → ((q : StepQuestion) → R (f q) (g q))
    → (n : ℕ) (P : Marked) (k : ℕ) (s : Step) (a : A) (b : B) → R a b → R (step_questions f n P k s a) (step_questions g n P k s b)
unfolding step_questions condition_questions
questions_pair R f g h n P k s a b x = shape_pair R f g h n P k s _ _
    (ask_pair R f g (atom_headed P s) AtomHeaded _ _ (h AtomHeaded)
    (ask_pair R f g (condition_holds P s) ConditionHolds a b (h ConditionHolds) x))

-- ---- 12: a number is that of a kind, or none's

pub kind_has_number : (k : Kind) → kind_known (number k) ≡ true
kind_has_number = each_kind (λ k. kind_known (number k) ≡ true) refl refl refl refl refl refl refl refl refl

pub known_number : (w : ℕ) → kind_known w ≡ true → number (kind_of w) ≡ w
known_number w e = let b = (and_iff (leb 1 w) (leb w 9)).0 e in go w (leb-true _ _ b.0) (leb-true _ _ b.1)
  where
    go : (w : ℕ) → 1 ≤ w → w ≤ 9 → number (kind_of w) ≡ w
    go zero a b = absurd (omega arith)
    go (suc i) a b = number_kind_of i (omega arith)

pub no_kind : (w : ℕ) → ((k : Kind) → number k ≡ w → ⊥) → kind_known w ≡ false
no_kind w h = go (kind_known w) refl
  where
    go : (b : Bool) → kind_known w ≡ b → b ≡ false
    go true e = absurd (h (kind_of w) (known_number w e))
    go false e = refl

pub kind_numbered : (k : Kind) (w : ℕ) → number k ≡ w → kind_of w ≡ k
kind_numbered k w e = ap kind_of (sym e) ∙ kind_of_number k

-- every kind but 9 changes its target alone
pub on_target_unless : (k : Kind) → k ≢ excluded → So (on_target k)
on_target_unless = each_kind (λ k. k ≢ excluded → So (on_target k)) (λ d. refl) (λ d. refl) (λ d. refl) (λ d. refl) (λ d. refl) (λ d. refl) (λ d. refl) (λ d. refl) (λ d. absurd (d refl))

-- ---- 13 to 15 and 29

pub kept_out : (ws ms : List ℕ) (t : ℕ) → get_or ws 1 0 ≤ t → false ≡ (entry (view ws ms) t).kept
kept_out ws ms t h = sym (ap (λ e. e.kept) (get_or-eq_default (view ws ms) gone (let q : length (view ws ms) ≤ t = omega (arith, length_view ws ms) in q)))

-- 29 is asked of kind 3, and of a partner with exactly one head atom
pub success_partner : (ws ms : List ℕ) (s : Step) → s.kind ≡ success → So (partner_kept (view ws ms) s) → s.partner < get_or ws 1 0
success_partner ws ms s k h =
    let w = subst (λ j. So (cond (uses_partner j) ((entry (view ws ms) s.partner).kept && not (eqb s.partner s.target)) (eqb s.partner 0))) k h in
    omega (arith, kept_lt (view ws ms) s.partner ((and_iff _ _).0 w).0, length_view ws ms)

-- ---- what is answered yes where no question stops the step

ask_inv : (b : Bool) (q : StepQuestion) (v : Verdict) → ask Err b q v ≡ Ok tt → (b ≡ true) × (v ≡ Ok tt)
unfolding ask
ask_inv true q v e = (refl, e)
ask_inv false q v e = let z : ◌≡◌ {A = ℕ} 0 1 = cc in absurd (omega arith)

-- the questions of a step whose kind is given as a number
pub shape_all : (n : ℕ) (P : Marked) (k : ℕ) (s : Step) (v : Verdict) → shape_questions Err n P k s v ≡ Ok tt
    → (kind_known k ≡ true) × (target_kept P s ≡ true) × (partner_kept P s ≡ true) × (atom_known n s ≡ true) × (atom_matches P s ≡ true) × (v ≡ Ok tt)
unfolding shape_questions
shape_all n P k s v e =
    let (a, e1) = ask_inv _ _ _ e in
    let (b, e2) = ask_inv _ _ _ e1 in
    let (c, e3) = ask_inv _ _ _ e2 in
    let (d, e4) = ask_inv _ _ _ e3 in
    let (x, e5) = ask_inv _ _ _ e4 in
    (a, b, c, d, x, e5)

pub condition_inv : (P : Marked) (s : Step) → condition_of P s ≡ Ok tt → condition_holds P s ≡ true
unfolding condition_questions
condition_inv P s e = (ask_inv (condition_holds P s) ConditionHolds (Ok tt) (ask_inv (atom_headed P s) AtomHeaded _ e).1).0

applies_by : (n : ℕ) (P : Marked) (s : Step) → So (target_kept P s) → So (partner_kept P s) → So (atom_known n s) → So (condition_holds P s) → So (applies n P s)
unfolding applies
applies_by n P s t p a c = (and_iff (target_kept P s) (partner_kept P s && (atom_known n s && condition_holds P s))).1
    (t, (and_iff (partner_kept P s) (atom_known n s && condition_holds P s)).1 (p, (and_iff (atom_known n s) (condition_holds P s)).1 (a, c)))

-- A step that no question is answered no of is applicable.
pub fine_applies : (n : ℕ) (P : Marked) (k : ℕ) (s : Step) → verdict_at n P k s ≡ Ok tt → So (applies n P s)
unfolding step_questions
fine_applies n P k s e = let (a, b, c, d, x, y) = shape_all n P k s (condition_of P s) e in applies_by n P s b c d (condition_inv P s y)

module _ (n : ℕ) (P : Marked) (s : Step) where
  pub shape_inv : shape_of n P s (Ok tt) ≡ Ok tt → Shaped n P s
  shape_inv e = let (a, b, c, d, x, y) = shape_all n P (number s.kind) s (Ok tt) e in record { target = b; partner = c; atom = d; matches = x }

  pub applies_of : Shaped n P s → condition_of P s ≡ Ok tt → So (applies n P s)
  applies_of h e = applies_by n P s h.target h.partner h.atom (condition_inv P s e)

  -- a question up to 29 has the last word where it is answered no, and else 32 and 16
  pub verdict_no : (q : StepQuestion) → Err q ≡ shape_of n P s (Ok tt) → Err q ≡ verdict_at n P (number s.kind) s
  unfolding step_questions
  verdict_no q e = shape_pair (λ x y. Err q ≡ x → Err q ≡ y) Err Err (λ r e. e) n P (number s.kind) s (Ok tt) (condition_of P s) (λ e. let z : ◌≡◌ {A = ℕ} 0 1 = cc in absurd (omega arith)) e

  pub verdict_last : Shaped n P s → (v : Verdict) → v ≡ condition_of P s → v ≡ verdict_at n P (number s.kind) s
  unfolding step_questions shape_questions ask
  verdict_last h v e = e ∙ rw (kind_has_number s.kind, h.target, h.partner, h.atom) (rw h.matches)

-- ---- 32 and 16

-- 32 is asked of kind 7
pub headed_kind : (P : Marked) (s : Step) → s.kind ≢ loop → true ≡ atom_headed P s
unfolding atom_headed
headed_kind P s = each_kind (λ k. k ≢ loop → true ≡ not (eqb (number k) 7 && in_no_head (left P) s.atom))
    (λ d. refl) (λ d. refl) (λ d. refl) (λ d. refl) (λ d. refl) (λ d. refl) (λ d. absurd (d refl)) (λ d. refl) (λ d. refl) s.kind

pub shape_fits : (n : ℕ) (ws ms : List ℕ) (s : Step) → Shaped n (view ws ms) s → (s.target < get_or ws 1 0) × (s.partner < get_or ws 1 0)
shape_fits n ws ms s h =
    let t : s.target < get_or ws 1 0 = omega (arith, kept_lt (view ws ms) s.target h.target, length_view ws ms) in
    (t, go (uses_partner s.kind) (partner_lt (uses_partner s.kind) (view ws ms) s.target s.partner h.partner) t)
  where
    go : (b : Bool) → s.partner < cond b (length (view ws ms)) 1 → s.target < get_or ws 1 0 → s.partner < get_or ws 1 0
    go true l t = omega (arith, length_view ws ms)
    go false l t = omega arith

-- ---- a step

module _ (ws ms : List ℕ) (s : Step) where
  abbrev P : Marked
  P = view ws ms

  abbrev pub n : ℕ
  n = get_or ws 0 0

  pub not_shaped : (q : StepQuestion) → Err q ≡ shape_of n P s (Ok tt) → Taken ws ms ms (number s.kind) s (Err q)
  not_shaped q e = record { verdict = verdict_no n P s q e; marks = refl }

  pub not_holding : (q : StepQuestion) → Shaped n P s → Err q ≡ condition_of P s → Taken ws ms ms (number s.kind) s (Err q)
  not_holding q h c = record { verdict = verdict_last n P s h (Err q) c; marks = refl }

  pub made : (ms' : List ℕ) → Shaped n P s → condition_of P s ≡ Ok tt → ms' ≡ marks_after ws ms s → Taken ws ms ms' (number s.kind) s (Ok tt)
  made ms' h c e = record { verdict = verdict_last n P s h (Ok tt) (sym c); marks = e }

module _ (ws ms : List ℕ) (words : List ℕ) where
  -- the words name a kind, or 12 is answered no
  pub not_known : ((k : Kind) → number k ≡ get_or words 0 0 → ⊥) → WordsTaken ws ms ms words (Err KindKnown)
  unfolding step_questions shape_questions ask
  not_known h = record { verdict = rw (no_kind (get_or words 0 0) h); marks = refl }

  pub words_taken : (ms' : List ℕ) (k : Kind) (r : Verdict) → number k ≡ get_or words 0 0 → Taken ws ms ms' (number k) (step k (get_or words 1 0) (get_or words 2 0) (get_or words 3 0)) r → WordsTaken ws ms ms' words r
  words_taken ms' k r e t = subst (λ j. Taken ws ms ms' (get_or words 0 0) (step j (get_or words 1 0) (get_or words 2 0) (get_or words 3 0)) r) (sym (kind_numbered k (get_or words 0 0) e))
      (subst (λ w. Taken ws ms ms' w (step k (get_or words 1 0) (get_or words 2 0) (get_or words 3 0)) r) e t)

-- ---- a verdict, whatever follows the questions

module _ {A : Type 0} (stop : StepQuestion → A) (go : A) where
  unfoldable pub on_verdict : Verdict → A
  on_verdict (Ok u) = go
  on_verdict (Err q) = stop q

  pub by_verdict : (n : ℕ) (P : Marked) (k : ℕ) (s : Step) → step_questions stop n P k s go ≡ on_verdict (verdict_at n P k s)
  unfolding on_verdict
  by_verdict n P k s = questions_pair (λ x v. x ≡ on_verdict v) stop Err (λ q. refl) n P k s go (Ok tt) refl

  pub on_fine : (n : ℕ) (P : Marked) (k : ℕ) (s : Step) → verdict_at n P k s ≡ Ok tt → step_questions stop n P k s go ≡ go
  unfolding on_verdict
  on_fine n P k s e = by_verdict n P k s ∙ ap on_verdict e

  pub on_no : (n : ℕ) (P : Marked) (k : ℕ) (s : Step) (q : StepQuestion) → verdict_at n P k s ≡ Err q → step_questions stop n P k s go ≡ stop q
  unfolding on_verdict
  on_no n P k s q e = by_verdict n P k s ∙ ap on_verdict e

-- what holds of every refusal and of what follows
pub questions_all : {A : Type 0} (S : A → Type 0) (stop : StepQuestion → A) (n : ℕ) (P : Marked) (k : ℕ) (s : Step) (go : A) → ((q : StepQuestion) → S (stop q)) → S go → S (step_questions stop n P k s go)
questions_all S stop n P k s go h = questions_pair (λ x y. S x) stop stop h n P k s go go

-- The computed `leads` is the existence of a chain, and `cyclic` that of a chain from an atom to itself.
use Prim.Native.Nat.{ℕ, zero, suc, ◌≤◌, ◌<◌}
use mathlib.Core.Path.{◌≡◌, refl, sym, subst}
use mathlib.Core.Logic.{◌↔◌, ◌≢◌, ⊎_elim}
use mathlib.Core.Bool.{Bool, true, false, cond, So}
use mathlib.Core.List.Memᴰ
use mathlib.Core.List.{List, [], ◌∷◌, ◌++◌, map}
use native.Mathlib.Omega.{arith}
use native.Mathlib.Nat.{le_refl}
use lib.Dec.{eqb}
use borrow.Author.Tests.{eqb-true, eqb-false}
use Rattle.semantics.specs.Lists.{◌∈◌, count}
use Rattle.semantics.specs.Programs.{Clause, Atoms, strip}
use Rattle.semantics.proofs.Tests.{any_iff, so_ext, count_lt}
use Rattle.rewriting.specs.Reaches.{reach}
use Rattle.rewriting.proofs.Reach.{reach_least, reach_closed}
use Rattle.dependency.specs.Chains.{Link, Leads, link, chain, Cyclic}
use Rattle.dependency.specs.Decide.{turn, turned, leads, cyclic}
use Rattle.dependency.specs.Ends.{Ends, ends}
use Rattle.dependency.proofs.Chains.{leads_join, leads_head, strip_cyclic}

-- the turned clauses are those of a clause and one of its head atoms
turned_of : (a : ℕ) (cs : List Clause) (d : Clause) → d ∈ turned a cs → (c : Clause) × (c ∈ cs) × (h : ℕ) × (h ∈ c.head) × (turn a c h ≡ d)
unfolding turned
turned_of a [] d m = elim m [ ]
turned_of a (c ∷ cs) d m = ⊎_elim
    (λ l. let (h, k, e) = Memᴰ.of_map (turn a c) c.head l in (c, Memᴰ.head refl, h, k, e))
    (λ r. let (b, q, h, k, e) = turned_of a cs d r in (b, Memᴰ.tail q, h, k, e))
    (Memᴰ.append_cases (map (turn a c) c.head) m)

turned_in : (a : ℕ) (cs : List Clause) (c : Clause) (h : ℕ) → c ∈ cs → h ∈ c.head → turn a c h ∈ turned a cs
unfolding turned
turned_in a [] c h x'' k = elim x'' [ ]
turned_in a (d ∷ cs) c h (Memᴰ.head e) k = Memᴰ.append_left (turned a cs) (subst (λ (x : Clause). turn a c h ∈ map (turn a x) x.head) e (Memᴰ.map (turn a c) k))
turned_in a (d ∷ cs) c h (Memᴰ.tail q) k = Memᴰ.append_right (map (turn a d) d.head) (turned_in a cs c h q k)

module _ (cs : List Clause) (a : ℕ) where
  -- what is computed is on a chain
  onward : (h b : ℕ) (t : Bool) → eqb a h ≡ t → ((x : ℕ) → x ∈ cond t [] (h ∷ []) → Leads cs a x) → Link cs h b → Leads cs a b
  onward h b true e f l = link (subst (λ x. Link cs x b) (sym (eqb-true a h e)) l)
  onward h b false e f l = chain (f h (Memᴰ.head refl)) l

  sound : (b : ℕ) → So (reach (turned a cs) b) → Leads cs a b
  sound = reach_least (Leads cs a) (turned a cs) (λ d m f b k.
      let (c, q, h, r, e) = turned_of a cs d m in
      onward h b (eqb a h) refl (λ x i. f x (subst (λ (y : Clause). x ∈ y.pos) e i))
      (record { via = c; member = q; head = r; into = subst (λ (y : Clause). b ∈ y.head) (sym e) k }))

  -- and all that is on one
  held : (R : Atoms) (h : ℕ) (t : Bool) → eqb a h ≡ t → (h ≢ a → So (R h)) → (x : ℕ) → x ∈ cond t [] (h ∷ []) → So (R x)
  held R h true e f x m = absurd (Memᴰ.not-nil m)
  held R h false e f x m = subst (λ y. So (R y)) (sym (Memᴰ.eq_of_singleton m)) (f (λ z. eqb-false a h e (sym z)))

  next : {h b : ℕ} → (h ≢ a → So (reach (turned a cs) h)) → Link cs h b → So (reach (turned a cs) b)
  next {h} {b} f l = reach_closed (turned a cs) (turn a l.via h) (turned_in a cs l.via h l.member l.head) (held (reach (turned a cs)) h (eqb a h) refl f) b l.into

  complete : {b : ℕ} → Leads cs a b → So (reach (turned a cs) b)
  complete (link l) = next (λ n. absurd (n refl)) l
  complete (chain g l) = next (λ n. complete g) l

-- The computed test is the existence of a chain.
pub leads_iff : (cs : List Clause) (a b : ℕ) → So (leads cs a b) ↔ Leads cs a b
unfolding leads
leads_iff cs a b = (sound cs a b, complete cs a)

-- The computed answer is that some atom leads back to itself.
pub cyclic_iff : (cs : List Clause) → So (cyclic cs) ↔ Cyclic cs
unfolding cyclic
cyclic_iff cs = (
  λ h.
      let w = (any_iff _ cs).0 h in
      let v = (any_iff _ w.0.head).0 w.2 in
      (v.0, (leads_iff cs v.0 v.0).0 v.2),
  λ w.
      let (c, m, h) = leads_head w.1 in
      (any_iff _ cs).1 (c, m, (any_iff _ c.head).1 (w.0, h, (leads_iff cs w.0 w.0).1 w.1)),
)

-- Where none does, every chain ends: induction along chains.
module _ (cs : List Clause) (tight : ¬ Cyclic cs) where
  abbrev bodies : List Clause → List ℕ
  bodies [] = []
  bodies (c ∷ ds) = c.pos ++ bodies ds

  in_bodies : (ds : List Clause) {c : Clause} {b : ℕ} → c ∈ ds → b ∈ c.pos → b ∈ bodies ds
  in_bodies [] {c = c} {b = b} x'' m = elim x'' [ ]
  in_bodies (d ∷ ds) {b = b} (Memᴰ.head e) m = Memᴰ.append_left (bodies ds) (subst (λ (c : Clause). b ∈ c.pos) e m)
  in_bodies (d ∷ ds) (Memᴰ.tail q) m = Memᴰ.append_right d.pos (in_bodies ds q m)

  abbrev length_ahead : ℕ → ℕ
  length_ahead a = count (leads cs a) (bodies cs)

  nearer : {a b : ℕ} → Link cs a b → length_ahead b < length_ahead a
  nearer {a} {b} l = count_lt (leads cs b) (leads cs a) (λ x q. (leads_iff cs a x).1 (leads_join (link l) ((leads_iff cs b x).0 q))) (bodies cs) b
      (in_bodies cs l.member l.into) ((leads_iff cs a b).1 (link l)) (λ q. tight (b, (leads_iff cs b b).0 q))

  ends_within : (k a : ℕ) → length_ahead a ≤ k → Ends cs a
  ends_within zero a h = ends {a = a} (λ b l. absurd (omega (arith, nearer l)))
  ends_within (suc k) a h = ends {a = a} (λ b l. ends_within k b (omega (arith, nearer l)))

  pub tight_ends : (a : ℕ) → Ends cs a
  tight_ends a = ends_within (length_ahead a) a (le_refl (length_ahead a))

-- Negative atoms don't count.
pub cyclic_strip : (cs : List Clause) → cyclic cs ≡ cyclic (map strip cs)
cyclic_strip cs = so_ext (cyclic cs) (cyclic (map strip cs))
    (λ h. (cyclic_iff (map strip cs)).1 ((strip_cyclic cs).0 ((cyclic_iff cs).0 h)))
    (λ h. (cyclic_iff cs).1 ((strip_cyclic cs).1 ((cyclic_iff (map strip cs)).0 h)))

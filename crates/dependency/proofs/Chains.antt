-- Laws of chains: they join, they begin in a head, an atom whose chains all end is on no cycle, and negative atoms make none.
use Prim.Native.Nat.{ℕ}
use mathlib.Core.Path.{◌≡◌, refl, sym, subst}
use mathlib.Core.Logic.{◌↔◌, ◌⊎◌, inl, inr, ⊎_elim}
use mathlib.Core.List.Memᴰ
use mathlib.Core.List.{List, map}
use Rattle.semantics.specs.Lists.{◌∈◌}
use Rattle.semantics.specs.Programs.{Clause, strip}
use Rattle.dependency.specs.Chains.{Link, Leads, link, chain, Cyclic}
use Rattle.dependency.specs.Ends.{Ends, ends}

module _ {cs : List Clause} where
  pub leads_join : {a b c : ℕ} → Leads cs a b → Leads cs b c → Leads cs a c
  leads_join g (link l) = chain g l
  leads_join g (chain h l) = chain (leads_join g h) l

  -- the first link of a chain, and what is left of it
  first_link : {a c : ℕ} → Leads cs a c → (b : ℕ) × Link cs a b × ((b ≡ c) ⊎ Leads cs b c)
  first_link {a} {c} (link l) = (c, l, inl refl)
  first_link {a} {c} (chain g l) =
      let w = first_link g in
      (w.0, w.1, inr (⊎_elim (λ e. link (subst (λ b. Link cs b c) (sym e) l)) (λ h. chain h l) w.2))

  -- an atom that leads anywhere is in a head
  pub leads_head : {a b : ℕ} → Leads cs a b → (c : Clause) × (c ∈ cs) × (a ∈ c.head)
  leads_head g = let l = (first_link g).1 in (l.via, l.member, l.head)

  -- an atom whose chains all end doesn't lead back to itself
  pub ends_not : {a : ℕ} → Ends cs a → ¬ Leads cs a a
  ends_not (ends f) g =
      let (b, l, r) = first_link g in
      ends_not (f b l) (⊎_elim (λ e. subst (λ x. Leads cs x x) (sym e) g) (λ h. chain h l) r)

-- ---- negative atoms

-- the clauses without their negative atoms have the same links
strip_link : (cs : List Clause) (a b : ℕ) → Link cs a b ↔ Link (map strip cs) a b
strip_link cs a b = (
  λ l. record { via = strip l.via; member = Memᴰ.map strip l.member; head = l.head; into = l.into },
  λ l.
      let (c, m, e) = Memᴰ.of_map strip cs l.member in
      record { via = c; member = m; head = subst (λ (d : Clause). a ∈ d.head) (sym e) l.head; into = subst (λ (d : Clause). b ∈ d.pos) (sym e) l.into },
)

-- links of the one are links of the other: so are chains
leads_by : {cs ds : List Clause} → ((a b : ℕ) → Link cs a b → Link ds a b) → {a b : ℕ} → Leads cs a b → Leads ds a b
leads_by f (link l) = link (f _ _ l)
leads_by f (chain g l) = chain (leads_by f g) (f _ _ l)

pub strip_cyclic : (cs : List Clause) → Cyclic cs ↔ Cyclic (map strip cs)
strip_cyclic cs = (λ w. (w.0, leads_by (λ a b. (strip_link cs a b).0) w.1), λ w. (w.0, leads_by (λ a b. (strip_link cs a b).1) w.1))

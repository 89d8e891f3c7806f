-- The end of the search: where every atom ends, none leads back to itself.
use Prim.Native.Nat.{ℕ, ◌+◌, ◌-◌, ◌≤◌, ◌<◌}
use mathlib.Core.Path.{◌≡◌, refl, sym, ap, subst, ◌∙◌}
use mathlib.Core.Logic.{◌≢◌, inl}
use mathlib.Core.Bool.{false}
use mathlib.Core.List.Memᴰ
use mathlib.Core.List.{List, []}
use native.Mathlib.Omega.{arith}
use lib.ListN.{length, get_or, set, take}
use lib.Seq.{get_or-set_same}
use borrow.Author.Count.{below_more}
use Rattle.std.specs.Prelude.{Result, Ok, Err}
use Rattle.cycle.specs.declared.search.Cycle.{Cycle}
use Rattle.semantics.specs.Lists.{◌∈◌}
use Rattle.semantics.proofs.Tests.{so_false}
use Rattle.table.specs.Questions.{Passed}
use Rattle.table.specs.Programs.{program_of}
use Rattle.table.proofs.Encoding.{passed_within, passed_limits}
use Rattle.dependency.specs.Chains.{Leads}
use Rattle.dependency.specs.Ends.{Ends}
use Rattle.dependency.specs.Decide.{cyclic}
use Rattle.cycle.specs.Search.{none, numbered, start, Search, Nearer, Explored, explored, Visited, visited, SearchReady}
use Rattle.dependency.proofs.Chains.{leads_head, ends_not}
use Rattle.dependency.proofs.Reached.{cyclic_iff}
use Rattle.cycle.proofs.Pending.{pending_start}
use Rattle.cycle.proofs.Paths.{some}
use Rattle.cycle.proofs.Moves.{known, push, atoms}
use Rattle.cycle.proofs.Advance.{explored_start, explored_join}

module _ (ws : List ℕ) where
  leads_below : Passed ws → {a b : ℕ} → Leads (program_of ws).clauses a b → a < get_or ws 0 0
  unfolding program_of
  leads_below p {a} g = let (c, m, h) = leads_head g in ((passed_within ws p).ordered c m).head.below a h

  -- every atom ends: no cycle
  pub no_cycle : Passed ws → ((a : ℕ) → a < get_or ws 0 0 → Ends (program_of ws).clauses a) → false ≡ cyclic (program_of ws).clauses
  no_cycle p e = sym (so_false _ (λ h. let w = (cyclic_iff _).0 h in ends_not (e w.0 (leads_below p w.1)) w.1))

-- ---- from atom to atom

-- nothing is on the chain that is followed
idle : {ws index cur state left parent : List ℕ} → Search ws index cur state left parent none → (a : ℕ) → a < get_or ws 0 0 → get_or state a 0 ≢ 1
idle s a l e = some s.path (known s) refl a (s.onto a l e)

module _ {ws index cur state left parent : List ℕ} where
  pub ready_search : SearchReady ws index cur state left parent → Search ws index cur state left parent none
  ready_search r =
      let limit = passed_limits ws r.placed.passed in
      record {
        placed = r.placed;
        places = r.places;
        states = r.states;
        lefts = r.lefts;
        parents = r.parents;
        most = r.most;
        unended = λ a l n. pending_start r.placed.passed (r.last a l);
        ended = λ a l z. absurd (omega (arith, r.unmet a (omega (arith, limit.few_atoms))));
        seen = λ c k b m.
            let e : 8192 - get_or left c 0 ≡ 0 = omega (arith, r.whole c (omega (arith, limit.few_clauses))) in
            absurd (Memᴰ.not-nil (subst (λ i. b ∈ take i (numbered ws c).pos) e m));
        stack = [];
        path = start;
        onto = λ a l z. absurd (omega (arith, r.unmet a (omega (arith, limit.few_atoms))));
        «from» = λ a m. absurd (Memᴰ.not-nil m);
      }

  module _ (s : Search ws index cur state left parent none) (a i : ℕ) (e : i ≡ a) (l : a < get_or ws 0 0) where
    pub atom_fits : i < 1024
    atom_fits = omega (arith, atoms s)

    -- an atom that ends already
    pub visit_none : get_or state i 0 ≡ 0 → Visited ws index cur state left parent cur state left parent a
    visit_none z = record { explored = explored_start s; ends = ap (λ a. get_or state a 0) (sym e) ∙ z }

    module _ (n : get_or state i 0 ≢ 0) where
      visit_begin : Nearer ws index cur state left parent cur (set state i 1) left (set parent i none) i
      visit_begin = push s i (omega arith) (inl refl) (idle s i (omega arith)) n

      pub visit_search : Search ws index cur (set state i 1) left (set parent i none) a
      visit_search = subst (Search ws index cur (set state i 1) left (set parent i none)) e visit_begin.explored.search

      pub visit_end : (cur' state' left' parent' : List ℕ) (r : Result (Unit {0}) Cycle) → explored ws index cur (set state i 1) left (set parent i none) cur' state' left' parent' r
          → visited ws index cur state left parent cur' state' left' parent' a r
      visit_end cur' state' left' parent' (Err e) x = x
      visit_end cur' state' left' parent' (Ok u) x =
          let h : i < length state = omega (arith, atom_fits, s.states) in
          let d : get_or state' i 0 ≢ 1 = idle x.search i (omega arith) in
          let z : get_or state' i 0 ≡ 0 = omega (arith, x.falls i, get_or-set_same state i 1 0 h) in
          record { explored = explored_join visit_begin.explored x; ends = ap (λ a. get_or state' a 0) (sym e) ∙ z }

-- ---- all atoms

-- the atoms below k end
pub record AtomsEnded (ws index cur state left parent cur' state' left' parent' : List ℕ) (k : ℕ) : Type 0 where
  pub explored : Explored ws index cur state left parent cur' state' left' parent' none
  pub ended : (a : ℕ) → a < k → get_or state' a 0 ≡ 0

module _ {ws index cur state left parent : List ℕ} where
  pub swept_start : SearchReady ws index cur state left parent → AtomsEnded ws index cur state left parent cur state left parent 0
  swept_start r = record { explored = explored_start (ready_search r); ended = λ a l. absurd (omega arith) }

  module _ {cur' state' left' parent' : List ℕ} {k : ℕ} (s : AtomsEnded ws index cur state left parent cur' state' left' parent' k) where
    pub swept_next : {cur'' state'' left'' parent'' : List ℕ} → Visited ws index cur' state' left' parent' cur'' state'' left'' parent'' k → AtomsEnded ws index cur state left parent cur'' state'' left'' parent'' (k + 1)
    swept_next {cur''} {state''} v = record {
      explored = explored_join s.explored v.explored;
      ended = below_more (λ a. get_or state'' a 0 ≡ 0) k (λ a l. omega (arith, s.ended a l, v.explored.falls a)) v.ends;
    }

    pub swept_end : get_or ws 0 0 ≤ k → false ≡ cyclic (program_of ws).clauses
    swept_end h = no_cycle ws s.explored.search.placed.passed (λ a l. s.explored.search.ended a l (s.ended a (omega arith)))

-- Each move of the search keeps what the search knows, and comes nearer to its end.
use Prim.Native.Nat.{ℕ, suc, ◌+◌, ◌-◌, ◌≤◌, ◌<◌}
use mathlib.Core.Path.{◌≡◌, refl, sym, ap, subst, ◌∙◌}
use mathlib.Core.Logic.{◌≢◌, ◌⊎◌, inr, ⊎_elim, by_cases}
use mathlib.Core.List.Memᴰ
use mathlib.Core.List.{List, ◌∷◌}
use native.Mathlib.Omega.{arith}
use native.Mathlib.Decide.{dec_lt}
use lib.ListN.{length, get_or, take, set, length-set}
use lib.Seq.{take-suc, take_all, get_or-set_same, get_or-set_other}
use Rattle.semantics.specs.Lists.{◌∈◌}
use Rattle.table.specs.Places.{pos_at, start_of}
use Rattle.table.specs.Programs.{program_of}
use Rattle.table.proofs.Encoding.{passed_limits, cut_length}
use Rattle.table.proofs.Places.{get_d_mem, passed_sound}
use Rattle.step_parts.specs.declared.Part.TheVariants.{Head}
use Rattle.step_parts.specs.Parts.{Stands, owner_at, Latest}
use Rattle.dependency.specs.Chains.{Link, link, chain, Cyclic}
use Rattle.dependency.specs.Ends.{Ends, ends}
use Rattle.cycle.specs.Search.{none, numbered, Pending, step, AllEnd, Search, Nearer}
use Rattle.cycle.proofs.Updates.{at_set, total_set}
use Rattle.cycle.proofs.Pending.{link_below, numbered_in_lem, stands_head, pending_end, pending_next, pending_on}
use Rattle.cycle.proofs.Paths.{popped, path_leads, path_set}

module _ {ws index cur state left parent : List ℕ} {t : ℕ} (s : Search ws index cur state left parent t) where
  pub atoms : get_or ws 0 0 ≤ 1024
  atoms = (passed_limits ws s.placed.passed).few_atoms

  pub known : (a : ℕ) → a ∈ s.stack → a ≢ none
  known a m e = omega (arith, (s.«from» a m).0, atoms)

  -- an atom that was not met goes on the chain
  pub push : (b : ℕ) → b < get_or ws 0 0 → (t ≡ none) ⊎ Link (program_of ws).clauses t b → get_or state b 0 ≢ 1 → get_or state b 0 ≢ 0
      → Nearer ws index cur state left parent cur (set state b 1) left (set parent b t) b
  push b b_below joins u w =
      let h : b < length state = omega (arith, b_below, atoms, s.states) in
      let g : b < length parent = omega (arith, b_below, atoms, s.parents) in
      let new : ¬ (b ∈ s.stack) = λ m. u (s.«from» b m).1 in
      let keeps : (y : ℕ) → get_or state y 0 ≡ 0 → get_or (set state b 1) y 0 ≡ 0 = at_set state b 1 h (λ y v. get_or state y 0 ≡ 0 → v ≡ 0) (λ q. absurd (w q)) (λ y o q. q) in
      record {
        explored = record {
          search = record {
            placed = s.placed;
            places = s.places;
            states = omega (arith, length-set state b 1, s.states);
            lefts = s.lefts;
            parents = omega (arith, length-set parent b t, s.parents);
            most = s.most;
            unended = at_set state b 1 h (λ a v. a < get_or ws 0 0 → v ≢ 0 → Pending ws index (AllEnd (set state b 1)) a (get_or cur a 0))
                (λ k q. pending_on (λ c d y m. keeps y (d y m)) (s.unended b k w))
                (λ a o k q. pending_on (λ c d y m. keeps y (d y m)) (s.unended a k q));
            ended = at_set state b 1 h (λ a v. a < get_or ws 0 0 → v ≡ 0 → Ends (program_of ws).clauses a) (λ k q. absurd (omega arith)) (λ a o k q. s.ended a k q);
            seen = λ c k y m. keeps y (s.seen c k y m);
            stack = b ∷ s.stack;
            path = step (path_set b t new s.path) joins (get_or-set_same parent b t 0 g) new;
            onto = at_set state b 1 h (λ a v. a < get_or ws 0 0 → v ≡ 1 → a ∈ b ∷ s.stack) (λ k q. Memᴰ.head refl) (λ a o k q. Memᴰ.tail (s.onto a k q));
            «from» = λ a m. ⊎_elim
                (λ i. (subst (λ y. y < get_or ws 0 0) (sym i) b_below, ap (λ y. get_or (set state b 1) y 0) i ∙ get_or-set_same state b 1 0 h))
                (λ i. ((s.«from» a i).0, get_or-set_other state b a 1 0 (λ z. new (subst (λ y. y ∈ s.stack) z i)) ∙ (s.«from» a i).1))
                (Memᴰ.cases_cons m);
          };
          falls = at_set state b 1 h (λ a v. v ≤ get_or state a 0) (let d : get_or state b 0 ≢ 1 = u in let f : get_or state b 0 ≢ 0 = w in omega arith) (λ a o. omega arith);
          curs = refl;
          states = length-set state b 1;
          lefts = refl;
          parents = length-set parent b t;
        };
        less = let d : get_or state b 0 ≢ 1 = u in let f : get_or state b 0 ≢ 0 = w in omega (arith, total_set state b 1 h);
      }

  module _ (x : t ≢ none) where
    top : t ∈ s.stack
    top = let w = popped s.path x in subst (λ l. t ∈ l) (sym w.1) (Memᴰ.head refl)

    pub top_below : t < get_or ws 0 0
    top_below = (s.«from» t top).0

    top_on : get_or state t 0 ≡ 1
    top_on = (s.«from» t top).1

    chain_on : Pending ws index (AllEnd state) t (get_or cur t 0)
    chain_on = s.unended t top_below (λ z. omega (arith, top_on))

    -- the chain of t is at its end: so is t
    pub finish : get_or cur t 0 ≡ 0 → Nearer ws index cur state left parent cur (set state t 0) left parent (get_or parent t 0)
    finish z =
        let h : t < length state = omega (arith, top_below, atoms, s.states) in
        let (k, e, p, f) = popped s.path x in
        let keeps : (b : ℕ) → get_or state b 0 ≡ 0 → get_or (set state t 0) b 0 ≡ 0 = at_set state t 0 h (λ b v. get_or state b 0 ≡ 0 → v ≡ 0) (λ q. refl) (λ b n q. q) in
        record {
          explored = record {
            search = record {
              placed = s.placed;
              places = s.places;
              states = omega (arith, length-set state t 0, s.states);
              lefts = s.lefts;
              parents = s.parents;
              most = s.most;
              unended = at_set state t 0 h (λ a v. a < get_or ws 0 0 → v ≢ 0 → Pending ws index (AllEnd (set state t 0)) a (get_or cur a 0))
                  (λ l n. absurd (n refl)) (λ a o l n. pending_on (λ c d b m. keeps b (d b m)) (s.unended a l n));
              ended = at_set state t 0 h (λ a v. a < get_or ws 0 0 → v ≡ 0 → Ends (program_of ws).clauses a)
                  (λ l q. ends (λ b k. s.ended b (link_below ws s.placed.passed k) (pending_end s.placed.passed z chain_on k.via k.member k.head b k.into)))
                  (λ a o l q. s.ended a l q);
              seen = λ c k b m. keeps b (s.seen c k b m);
              stack = k;
              path = p;
              onto = at_set state t 0 h (λ a v. a < get_or ws 0 0 → v ≡ 1 → a ∈ k)
                  (λ l q. absurd (omega arith))
                  (λ a o l q. ⊎_elim (λ i. absurd (o i)) (λ i. i) (Memᴰ.cases_cons (subst (λ l. a ∈ l) e (s.onto a l q))));
              «from» = λ a m. (
                (s.«from» a (subst (λ l. a ∈ l) (sym e) (Memᴰ.tail m))).0,
                get_or-set_other state t a 0 0 (λ i. f (subst (λ y. y ∈ k) i m)) ∙ (s.«from» a (subst (λ l. a ∈ l) (sym e) (Memᴰ.tail m))).1,
              );
            };
            falls = at_set state t 0 h (λ a v. v ≤ get_or state a 0) (omega arith) (λ a o. omega arith);
            curs = refl;
            states = length-set state t 0;
            lefts = refl;
            parents = refl;
          };
          less = omega (arith, total_set state t 0 h, top_on);
        }

    -- the clause at which t is
    abbrev here : ℕ
    here = get_or index (owner_at (get_or cur t 0)) 0

    module _ (n : get_or cur t 0 ≢ 0) where
      pub stands : Stands ws Head t here (get_or cur t 0)
      stands = chain_on.here (omega arith)

      -- its whole positive body ends: on to the place before
      pub pass_clause : length (numbered ws here).pos ≤ 8192 - get_or left here 0 → (v : ℕ) → Latest ws index Head t (get_or cur t 0) v
          → Nearer ws index cur state left parent (set cur t v) state left parent t
      pass_clause l v b =
          let h : t < length cur = omega (arith, top_below, atoms, s.places) in
          let d : AllEnd state (numbered ws here) = λ b m. s.seen here stands.clause b (subst (λ k. b ∈ k) (sym (take_all (8192 - get_or left here 0) (numbered ws here).pos l)) m) in
          record {
            explored = record {
              search = record {
                placed = s.placed;
                places = omega (arith, length-set cur t v, s.places);
                states = s.states;
                lefts = s.lefts;
                parents = s.parents;
                most = s.most;
                unended = at_set cur t v h (λ a w. a < get_or ws 0 0 → get_or state a 0 ≢ 0 → Pending ws index (AllEnd state) a w)
                    (λ k q. pending_next (omega arith) chain_on b d) (λ a o k q. s.unended a k q);
                ended = s.ended;
                seen = s.seen;
                stack = s.stack;
                path = s.path;
                onto = s.onto;
                «from» = s.«from»;
              };
              falls = λ a. omega arith;
              curs = length-set cur t v;
              states = refl;
              lefts = refl;
              parents = refl;
            };
            less = by_cases (dec_lt 0 v) (λ k. omega (arith, total_set cur t v h, (b.some k).0)) (λ k. omega (arith, total_set cur t v h));
          }

      -- the next atom b of its positive body
      module _ (l : 8192 - get_or left here 0 < length (numbered ws here).pos) (b : ℕ) (e : b ≡ get_or (numbered ws here).pos (8192 - get_or left here 0) 0) where
        at_b : b ∈ (numbered ws here).pos
        at_b = subst (λ y. y ∈ (numbered ws here).pos) (sym e) (get_d_mem (numbered ws here).pos (8192 - get_or left here 0) l)

        step_on : Link (program_of ws).clauses t b
        step_on = record { via = numbered ws here; member = numbered_in_lem ws here stands.clause; head = stands_head s.placed.passed stands; into = at_b }

        pub b_below : b < get_or ws 0 0
        b_below = link_below ws s.placed.passed step_on

        -- b is on the chain that is followed
        pub cycle_found : get_or state b 0 ≡ 1 → Cyclic (program_of ws).clauses
        cycle_found q = (
          b,
          ⊎_elim (λ i. link (subst (λ y. Link (program_of ws).clauses y b) (sym i) step_on)) (λ g. chain g step_on)
              (path_leads s.path known b (s.onto b b_below q)),
        )

        pub left_some : 0 < get_or left here 0
        left_some =
            let f = (passed_sound ws s.placed.passed here stands.clause).fits in
            omega (arith, cut_length ws (pos_at ws (start_of ws here)) (get_or ws (start_of ws here + 1) 0) (omega arith), (passed_limits ws s.placed.passed).short)

        -- b ends: past it
        pub pass_atom : get_or state b 0 ≡ 0 → Nearer ws index cur state left parent cur state (set left here (get_or left here 0 - 1)) parent t
        pass_atom q =
            let h : here < length left = omega (arith, stands.clause, (passed_limits ws s.placed.passed).few_clauses, s.lefts) in
            let v = get_or left here 0 - 1 in
            let i = 8192 - get_or left here 0 in
            let j : 8192 - v ≡ suc i = omega (arith, left_some, s.most here) in
            record {
              explored = record {
                search = record {
                  placed = s.placed;
                  places = s.places;
                  states = s.states;
                  lefts = omega (arith, length-set left here v, s.lefts);
                  parents = s.parents;
                  most = at_set left here v h (λ a w. w ≤ 8192) (omega (arith, s.most here)) (λ a o. s.most a);
                  unended = s.unended;
                  ended = s.ended;
                  seen = at_set left here v h (λ c w. c < get_or ws 1 0 → (y : ℕ) → y ∈ take (8192 - w) (numbered ws c).pos → get_or state y 0 ≡ 0)
                      (λ k y m. ⊎_elim (s.seen here k y) (λ r. ap (λ z. get_or state z 0) (Memᴰ.eq_of_singleton r ∙ sym e) ∙ q)
                      (Memᴰ.append_cases (take i (numbered ws here).pos) (subst (λ z. y ∈ z) (ap (λ z. take z (numbered ws here).pos) j ∙ take-suc (numbered ws here).pos i 0 l) m)))
                      (λ c o k y m. s.seen c k y m);
                  stack = s.stack;
                  path = s.path;
                  onto = s.onto;
                  «from» = s.«from»;
                };
                falls = λ a. omega arith;
                curs = refl;
                states = refl;
                lefts = length-set left here v;
                parents = refl;
              };
              less = omega (arith, total_set left here v h, left_some);
            }

        -- b was not met: the chain goes on to it
        pub follow : get_or state b 0 ≢ 1 → get_or state b 0 ≢ 0 → Nearer ws index cur state left parent cur (set state b 1) left (set parent b t) b
        follow = push b b_below (inr step_on)

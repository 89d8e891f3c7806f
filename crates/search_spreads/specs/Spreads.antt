-- What a partner or an atom flags: every target that has an eligible step with it.
use Rattle.std.proofs.Math.Bool.{So}
use Rattle.std.specs.Prelude.{List, ℕ, get_or}
use Rattle.rewriting.specs.Marked.{entry}
use Rattle.rewriting.specs.Steps.{step}
use Rattle.rewriting.specs.Reducer.{eligible}
use Rattle.rewriting.specs.Kinds.{Kind, number}
use Rattle.rewriting.specs.Search.{partner_atom}
use Rattle.table.specs.View.{view}
use Rattle.semantics.specs.Lists.{◌∈◌}
use Rattle.step_parts.specs.declared.Part.{Part}
use Rattle.step_parts.specs.Parts.{part_of}
use Rattle.search_flags.specs.Flags.{Covered, Raising}

-- Every target that has an eligible step with the partner p and the atom has atom a in a part.
abbrev pub Clue : List ℕ → List ℕ → Kind → ℕ → ℕ → Part → ℕ → Type 0
Clue ws ms kind p atom x a = (t : ℕ) → So (eligible (get_or ws 0 0) (view ws ms) (step kind t p atom)) → a ∈ part_of x (entry (view ws ms) t).clause

-- No eligible step of the kind has the partner.
abbrev pub NoPartner : List ℕ → List ℕ → Kind → ℕ → Type 0
NoPartner ws ms kind p = (t a : ℕ) → ¬ So (eligible (get_or ws 0 0) (view ws ms) (step kind t p a))

-- No eligible step of the kind has the target and the partner.
abbrev pub NoTarget : List ℕ → List ℕ → Kind → ℕ → ℕ → Type 0
NoTarget ws ms kind t p = (a : ℕ) → ¬ So (eligible (get_or ws 0 0) (view ws ms) (step kind t p a))

-- Every target that has an eligible step with the partner p and the atom is flagged.
pub record Spread (ws ms flags flags' : List ℕ) (kind : Kind) (p a : ℕ) : Type 0 where
  pub raising : Raising flags flags' (number kind) (get_or ws 1 0)
  pub flagged : (t : ℕ) → So (eligible (get_or ws 0 0) (view ws ms) (step kind t p a)) → Covered flags' (number kind) t p

-- Every target that has an eligible step with the partner p, which settles the atom, is flagged.
abbrev pub PartnerSpread : List ℕ → List ℕ → List ℕ → List ℕ → Kind → ℕ → Type 0
PartnerSpread ws ms flags flags' kind p = Spread ws ms flags flags' kind p (partner_atom kind (entry (view ws ms) p).clause)

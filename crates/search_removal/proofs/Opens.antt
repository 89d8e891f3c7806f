-- What was flagged stays so, clause by clause and part by part.
use mathlib.Core.Logic.{◌≢◌}
use mathlib.Core.List.{List}
use Prim.Native.Nat.{ℕ, ◌≤◌, ◌<◌}
use native.Mathlib.Omega.{arith}
use Rattle.rewriting.specs.Marked.{Marked}
use Rattle.table.specs.Questions.{Passed}
use Rattle.table.specs.View.{view}
use Rattle.table.proofs.Encoding.{passed_limits}
use Rattle.table.proofs.Parts.{view_straight}
use Rattle.step_parts.specs.declared.Part.{Part}
use Rattle.step_parts.specs.declared.Part.TheVariants.{Head, Pos, Neg}
use Rattle.step_parts.proofs.Index.{stands_small}
use Rattle.search_flags.specs.Flags.{flag_at}
use Rattle.search_openings.specs.Opened.{Opened, PartnerFresh, AtomFresh}
use Rattle.search_openings.proofs.Opens.{fresh_more}
use Rattle.search_removal.specs.Removed.{OpenAt, OpenAll, OpenParts, RemovalOpen}

module _ (ws ms flags flags' : List ℕ) (p : Passed ws) (o : Opened flags flags') where
  partner_more : (t : ℕ) → t < 2048 → PartnerFresh flags t → PartnerFresh flags' t
  partner_more t l f = record {
    success = λ e. f.success (o.grown 11 t (omega arith) l e);
    blocked = λ e. f.blocked (o.grown 13 t (omega arith) l e);
    subsumed = λ e. f.subsumed (o.grown 16 t (omega arith) l e);
  }

  pub open_more : (x : Part) (t : ℕ) → t < 2048 → OpenAt (view ws ms) flags x t → OpenAt (view ws ms) flags' x t
  open_more Head t l f = partner_more t l f
  open_more Pos t l f = λ a m. fresh_more flags flags' a (omega (arith, (view_straight ws ms p t).head_below a m, (passed_limits ws p).few_atoms)) o (f a m)
  open_more Neg t l f = partner_more t l f

  pub all_more : (x : Part) (a : ℕ) → OpenAll ws (view ws ms) flags x a → OpenAll ws (view ws ms) flags' x a
  all_more x a w = record { each = λ t j st. open_more x t (stands_small p st).3 (w.each t j st) }

pub parts_all : (ws : List ℕ) (Q : Marked) (flags : List ℕ) (a : ℕ) → OpenAll ws Q flags Head a → OpenAll ws Q flags Pos a → OpenAll ws Q flags Neg a → OpenParts ws Q flags a
parts_all ws Q flags a f g h Head = f
parts_all ws Q flags a f g h Pos = g
parts_all ws Q flags a f g h Neg = h

-- no clause of the table has so large an atom
pub removal_none : (ws : List ℕ) (Q : Marked) (flags : List ℕ) (a : ℕ) → Passed ws → 1024 ≤ a → flag_at flags 0 0 ≢ 0 → RemovalOpen ws Q flags a
removal_none ws Q flags a p l f = record {
  reach = f;
  atom = λ h. absurd (omega arith);
  parts = λ x. record { each = λ t j st. absurd (omega (arith, (stands_small p st).0)) };
}

-- the reach, then the atom, then the clauses
pub removal_all : (ws : List ℕ) (Q : Marked) (one two three : List ℕ) (a : ℕ) → flag_at one 0 0 ≢ 0 → Opened one two → AtomFresh two a → Opened two three → OpenParts ws Q three a → RemovalOpen ws Q three a
removal_all ws Q one two three a f o g p w = record {
  reach = λ e. f (o.grown 0 0 (omega arith) (omega arith) (p.grown 0 0 (omega arith) (omega arith) e));
  atom = λ h. fresh_more two three a (omega arith) p g;
  parts = w;
}

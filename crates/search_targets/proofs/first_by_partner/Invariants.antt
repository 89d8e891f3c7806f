-- `first_by_partner`: targets passed have no step; in the walk, the partners passed make none, and the flags stay.
use Prim.Native.Nat.{ℕ, ◌-◌, ◌<◌}
use mathlib.Core.Path.{◌≡◌}
use mathlib.Core.Bool.{false}
use lib.ListN.{get_or}
use Rattle.rewriting.specs.Marked.{entry}
use Rattle.rewriting.specs.Reducer.{eligible}
use Rattle.rewriting.specs.Search.{step_with}
use Rattle.rewriting.specs.Kinds.{number}
use Rattle.table.specs.View.{view}
use Rattle.std.specs.Prelude.{None}
use Rattle.search_partners.specs.Stamps.{Stamps}
use Rattle.search_keys.specs.State.{Swept}
use Rattle.search_targets.specs.Searches.{Partners}
use Rattle.search_flags.specs.Flags.{Inside}
use Rattle.search_targets.proofs.first_by_partner.Given as goal

abbrev pub invariant-loop-p : goal.invariant-loop-p
invariant-loop-p l = (l.found ≡ None) × (Partners l.program.table.words.now l.program.marks.now l.kind l.t l.e × (Stamps (entry (view l.program.table.words.now l.program.marks.now) l.t).clause l.stamps × ((l.flags ≡ l.initial.flags) × ((q : ℕ) → q < l.p → eligible (get_or l.program.table.words.now 0 0) (view l.program.table.words.now l.program.marks.now) (step_with (view l.program.table.words.now l.program.marks.now) l.kind l.t q) ≡ false))))

abbrev pub decreases-loop-p : goal.decreases-loop-p
decreases-loop-p l = l.e - l.p

abbrev pub invariant-search : goal.invariant-search
invariant-search l = (l.found ≡ None) × (Swept l.program.table.words.now l.program.marks.now l.initial.flags l.flags l.kind × Inside l.flags (number l.kind) l.t l.end)

abbrev pub decreases-search : goal.decreases-search
decreases-search l = l.end - l.t

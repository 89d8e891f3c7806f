-- A program with what is known of it, and a key, in short words.
use Rattle.std.specs.Prelude.{List, ℕ}
use Rattle.rewriting.specs.Kinds.{Kind}
use Rattle.step_parts.specs.declared.marked.Marked.{Marked}
use Rattle.step_parts.specs.Reading.{words_of, marks_of}
use Rattle.step_conditions.specs.Known.{Known}
use Rattle.search_spreads.specs.declared.Facts.{Facts}
use Rattle.search_spreads.specs.declared.Key.{Key}
use Rattle.search_spreads.specs.Spreads.{Spread}

-- what the kind asks of the whole program is known
abbrev pub KnownFor : Facts → Kind → Type 0
KnownFor f kind = Known kind (words_of f.program.now) (marks_of f.program.now) f.heads.now f.reach.now

-- every target that has an eligible step with the key is flagged
abbrev pub KeySpread : Marked → List ℕ → List ℕ → Key → Type 0
KeySpread p flags flags' k = Spread (words_of p) (marks_of p) flags flags' k.kind k.partner k.atom

-- The number and place of every refusal: document 01's, 29 of slip 1, 30 and 31 of slip 3, 32 of slip 6.
use Rattle.std.specs.Prelude.{ℕ}
use Rattle.answers.specs.declared.CallQuestion.{CallQuestion}
use Rattle.answers.specs.declared.CallQuestion.TheVariants.{TableLength, MarksLength, ListLength, ListRoom, TableRoom, SetLength, TextLength, TableSlice, TextRoom, FewAtoms, ModelsRoom}
use Rattle.answers.specs.declared.WordQuestion.{WordQuestion}
use Rattle.answers.specs.declared.WordQuestion.TheVariants.{AtomLimit, ClauseLimit, CountsLeft, LiteralsLeft, AtomBelow, Ascending, AllUsed, MarkAllowed}
use Rattle.answers.specs.declared.StepQuestion.{StepQuestion}
use Rattle.answers.specs.declared.StepQuestion.TheVariants.{KindKnown, TargetKept, PartnerKept, AtomKnown, AtomMatches, AtomHeaded, ConditionHolds}
use Rattle.answers.specs.declared.EntryQuestion.{EntryQuestion}
use Rattle.answers.specs.declared.EntryQuestion.TheVariants.{EntryBelow, EntryAscending}
use Rattle.answers.specs.declared.ByteQuestion.{ByteQuestion}
use Rattle.answers.specs.declared.ByteQuestion.TheVariants.{TextAtomLimit, TextClauseLimit, TextAtomBelow, LineThere, ValueInForm, WordLimit, TextAllUsed}
use Rattle.answers.specs.declared.Refusal.{Refusal}
use Rattle.answers.specs.declared.Refusal.TheVariants.{Call, Word, Step, Entry, Byte}

abbrev pub call_number : CallQuestion → ℕ
call_number TableLength = 1
call_number MarksLength = 9
call_number ListLength = 11
call_number ListRoom = 17
call_number TableRoom = 18
call_number SetLength = 19
call_number TextLength = 22
call_number TableSlice = 23
call_number TextRoom = 28
call_number FewAtoms = 30
call_number ModelsRoom = 31

abbrev pub word_number : WordQuestion → ℕ
word_number AtomLimit = 2
word_number ClauseLimit = 3
word_number CountsLeft = 4
word_number LiteralsLeft = 5
word_number AtomBelow = 6
word_number Ascending = 7
word_number AllUsed = 8
word_number MarkAllowed = 10

abbrev pub step_number : StepQuestion → ℕ
step_number KindKnown = 12
step_number TargetKept = 13
step_number PartnerKept = 14
step_number AtomKnown = 15
step_number AtomMatches = 29
step_number AtomHeaded = 32
step_number ConditionHolds = 16

abbrev pub entry_number : EntryQuestion → ℕ
entry_number EntryBelow = 20
entry_number EntryAscending = 21

abbrev pub byte_number : ByteQuestion → ℕ
byte_number TextAtomLimit = 2
byte_number TextClauseLimit = 3
byte_number TextAtomBelow = 6
byte_number LineThere = 24
byte_number ValueInForm = 25
byte_number WordLimit = 26
byte_number TextAllUsed = 27

-- "The first no gives its number."
abbrev pub refusal_number : Refusal → ℕ
refusal_number (Call q) = call_number q
refusal_number (Word q at) = word_number q
refusal_number (Step q at) = step_number q
refusal_number (Entry q at) = entry_number q
refusal_number (Byte q at) = byte_number q

-- "The place is 0 unless named."
abbrev pub refusal_place : Refusal → ℕ
refusal_place (Call q) = 0
refusal_place (Word q at) = at
refusal_place (Step q at) = at
refusal_place (Entry q at) = at
refusal_place (Byte q at) = at

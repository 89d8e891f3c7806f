-- The number of a refusal is 1 to 32.
use Prim.Native.Nat.{◌≤◌}
use native.Mathlib.Omega.{arith}
use Rattle.answers.specs.declared.CallQuestion.{CallQuestion}
use Rattle.answers.specs.declared.CallQuestion.TheVariants.{TableLength, MarksLength, ListLength, ListRoom, TableRoom, SetLength, TextLength, TableSlice, TextRoom, FewAtoms, ModelsRoom}
use Rattle.answers.specs.declared.WordQuestion.{WordQuestion}
use Rattle.answers.specs.declared.WordQuestion.TheVariants.{AtomLimit, ClauseLimit, CountsLeft, LiteralsLeft, AtomBelow, Ascending, AllUsed, MarkAllowed}
use Rattle.answers.specs.declared.StepQuestion.{StepQuestion}
use Rattle.answers.specs.declared.StepQuestion.TheVariants.{KindKnown, TargetKept, PartnerKept, AtomKnown, AtomMatches, AtomHeaded, ConditionHolds}
use Rattle.answers.specs.declared.EntryQuestion.{EntryQuestion}
use Rattle.answers.specs.declared.EntryQuestion.TheVariants.{EntryBelow, EntryAscending}
use Rattle.answers.specs.declared.ByteQuestion.{ByteQuestion}
use Rattle.answers.specs.declared.ByteQuestion.TheVariants.{TextAtomLimit, TextClauseLimit, TextAtomBelow, LineThere, ValueInForm, WordLimit, TextAllUsed}
use Rattle.answers.specs.declared.Refusal.{Refusal}
use Rattle.answers.specs.declared.Refusal.TheVariants.{Call, Word, Step, Entry, Byte}
use Rattle.answers.specs.Refusals.{call_number, word_number, step_number, entry_number, byte_number, refusal_number}

call_range : (q : CallQuestion) → (1 ≤ call_number q) × (call_number q ≤ 32)
call_range TableLength = (omega arith, omega arith)
call_range MarksLength = (omega arith, omega arith)
call_range ListLength = (omega arith, omega arith)
call_range ListRoom = (omega arith, omega arith)
call_range TableRoom = (omega arith, omega arith)
call_range SetLength = (omega arith, omega arith)
call_range TextLength = (omega arith, omega arith)
call_range TableSlice = (omega arith, omega arith)
call_range TextRoom = (omega arith, omega arith)
call_range FewAtoms = (omega arith, omega arith)
call_range ModelsRoom = (omega arith, omega arith)

word_range : (q : WordQuestion) → (1 ≤ word_number q) × (word_number q ≤ 32)
word_range AtomLimit = (omega arith, omega arith)
word_range ClauseLimit = (omega arith, omega arith)
word_range CountsLeft = (omega arith, omega arith)
word_range LiteralsLeft = (omega arith, omega arith)
word_range AtomBelow = (omega arith, omega arith)
word_range Ascending = (omega arith, omega arith)
word_range AllUsed = (omega arith, omega arith)
word_range MarkAllowed = (omega arith, omega arith)

step_range : (q : StepQuestion) → (1 ≤ step_number q) × (step_number q ≤ 32)
step_range KindKnown = (omega arith, omega arith)
step_range TargetKept = (omega arith, omega arith)
step_range PartnerKept = (omega arith, omega arith)
step_range AtomKnown = (omega arith, omega arith)
step_range AtomMatches = (omega arith, omega arith)
step_range AtomHeaded = (omega arith, omega arith)
step_range ConditionHolds = (omega arith, omega arith)

entry_range : (q : EntryQuestion) → (1 ≤ entry_number q) × (entry_number q ≤ 32)
entry_range EntryBelow = (omega arith, omega arith)
entry_range EntryAscending = (omega arith, omega arith)

byte_range : (q : ByteQuestion) → (1 ≤ byte_number q) × (byte_number q ≤ 32)
byte_range TextAtomLimit = (omega arith, omega arith)
byte_range TextClauseLimit = (omega arith, omega arith)
byte_range TextAtomBelow = (omega arith, omega arith)
byte_range LineThere = (omega arith, omega arith)
byte_range ValueInForm = (omega arith, omega arith)
byte_range WordLimit = (omega arith, omega arith)
byte_range TextAllUsed = (omega arith, omega arith)

pub number_range : (r : Refusal) → (1 ≤ refusal_number r) × (refusal_number r ≤ 32)
number_range (Call q) = call_range q
number_range (Word q at) = word_range q
number_range (Step q at) = step_range q
number_range (Entry q at) = entry_range q
number_range (Byte q at) = byte_range q

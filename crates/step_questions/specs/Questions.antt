-- One step: questions 12 to 16 of document 01, with 29 of slip 1 and 32 of slip 6, in their order, and kind 9 of slip 8.
use Rattle.std.specs.Prelude.{Bool, ◌&&◌, ℕ, leb}
use Rattle.rewriting.specs.Marked.{Marked}
use Rattle.rewriting.specs.Steps.{Step, target_kept, partner_kept, atom_known, atom_matches, atom_headed, condition_holds}
use Rattle.answers.specs.declared.StepQuestion.{StepQuestion}
use Rattle.answers.specs.declared.StepQuestion.TheVariants.{KindKnown, TargetKept, PartnerKept, AtomKnown, AtomMatches, AtomHeaded, ConditionHolds}
use Rattle.answers.specs.Answers.{ask}

-- "12 Is the kind 1 to 8?"; slip 8: "Question 12 allows 9"
abbrev pub kind_known : ℕ → Bool
kind_known k = leb 1 k && leb k 9

module _ {A : Type 0} where
  -- "13 Is the target below m and kept? 14 Is the partner below m, kept and another clause, or 0 where unused? 15 Is the atom below n, or 0
  -- where unused?" Slip 1: "Refusal 29 comes after 15". The questions of a step s whose kind is the number k, and what follows them
  unfoldable pub shape_questions : (StepQuestion → A) → ℕ → Marked → ℕ → Step → A → A
  unfolding ask
  shape_questions stop n P k s go =
      ask stop (kind_known k) KindKnown
      (ask stop (target_kept P s) TargetKept
      (ask stop (partner_kept P s) PartnerKept
      (ask stop (atom_known n s) AtomKnown
      (ask stop (atom_matches P s) AtomMatches go))))

  -- Slip 6: "Such steps get 32, asked after 29 and before 16." "16 Does the kind's condition hold?"
  unfoldable pub condition_questions : (StepQuestion → A) → Marked → Step → A → A
  unfolding ask
  condition_questions stop P s go =
      ask stop (atom_headed P s) AtomHeaded
      (ask stop (condition_holds P s) ConditionHolds go)

  unfoldable pub step_questions : (StepQuestion → A) → ℕ → Marked → ℕ → Step → A → A
  unfolding shape_questions condition_questions
  step_questions stop n P k s go = shape_questions stop n P k s (condition_questions stop P s go)

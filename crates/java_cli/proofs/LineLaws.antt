-- What the err sink took of the line of a run's answer.
use Rattle.std.proofs.Common.{◌≡◌, ℕ, ◌<◌, List, [], ◌++◌, length, take, Option, Some, None, refl, ap, subst, arith}
use Rattle.jvm_edges.specs.Bytes.{Appends}
use Rattle.answers.specs.Taken.{TakesLine, taken_of}
use Rattle.command_line.specs.declared.answer.SinkName.TheVariants.{Err as ErrSink}
use Rattle.command_line.specs.declared.answer.Why.{Why}
use Rattle.command_line.specs.declared.answer.Why.TheVariants.{SinkFault}
use Rattle.command_line.specs.Commands.{Names}
use Rattle.command_line.specs.Answers.{line_of}
use Rattle.java_cli.specs.Headline.{answer_with, line_after}

-- of a line that comes after a fault nothing was taken, so it is as any other
any_line : {E : Type 0} (contents : E → Option (List ℕ)) (faults : E → ℕ) (old new : E) (line other text : List ℕ) (n : ℕ) → n < length text → TakesLine contents faults old new line text n → TakesLine contents faults old new other text n
any_line contents faults old new line other text n short told =
    let none : taken_line (told.taken) ≡ [] = ap taken_line (told.part short).0 in
    record {
      taken = 0;
      takes = subst (λ (piece : List ℕ). Appends (contents old) (take n text ++ piece) (contents new)) none told.takes;
      part = λ lt. (refl, (told.part short).1);
      whole = λ all lt. absurd (omega (arith, all, short));
      kept = λ all le. absurd (omega (arith, all, short));
    }
  where
    taken_line : ℕ → List ℕ
    taken_line m = take m line

-- the line is that of the answer, and others follow it
pub answer_told : {E : Type 0} (contents : E → Option (List ℕ)) (faults : E → ℕ) (old new : E) (names : Names) (why : Why) (line others text : List ℕ) (out_fault err_fault : Option ℕ) → line ≡ line_of names why
    → ((n : ℕ) → err_fault ≡ Some n → n < length text) → TakesLine contents faults old new (line_after out_fault line ++ others) text (taken_of err_fault (length text))
    → TakesLine contents faults old new (line_of names (answer_with why out_fault err_fault) ++ others) text (taken_of err_fault (length text))
answer_told contents faults old new names why line others text (Some n) err_fault is short told = told
answer_told contents faults old new names why line others text None None is short told = subst (λ (l : List ℕ). TakesLine contents faults old new (l ++ others) text (length text)) is told
answer_told contents faults old new names why line others text None (Some n) is short told =
    any_line contents faults old new (line ++ others) (line_of names (SinkFault ErrSink n) ++ others) text n (short n refl) told

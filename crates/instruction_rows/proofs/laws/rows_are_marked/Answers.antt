use Rattle.instruction_rows.proofs.TableLaws.{marked}
use Rattle.instruction_rows.proofs.DivisionLaws.{zero_divisors, undefined_by_zero}
use Rattle.instruction_rows.proofs.laws.rows_are_marked.Goals as goal

pub returns-clause-marks : goal.returns-clause-marks
returns-clause-marks c = λ op. marked op

pub returns-clause-zero : goal.returns-clause-zero
returns-clause-zero c = λ op r contents e. (zero_divisors op r contents e, undefined_by_zero r contents)

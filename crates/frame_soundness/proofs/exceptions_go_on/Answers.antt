use Rattle.frame_soundness.proofs.Exceptions.{thrown, left, handled}
use Rattle.frame_soundness.proofs.Raises.{raises_keep}
use Rattle.frame_soundness.proofs.ThreadLaws.{throwing_keeps}
use Rattle.frame_soundness.proofs.exceptions_go_on.Goals as goal

pub returns-clause-throws : goal.returns-clause-throws
returns-clause-throws c = thrown

pub returns-clause-left : goal.returns-clause-left
returns-clause-left c = left

pub returns-clause-handled : goal.returns-clause-handled
returns-clause-handled c = λ w f below class o h typed t found. handled w f below class o h typed t found

pub returns-clause-raises : goal.returns-clause-raises
returns-clause-raises c = λ w r q t e typed good made. raises_keep w r q t e typed good made

pub returns-clause-throwing : goal.returns-clause-throwing
returns-clause-throwing c = λ w r t o typed good. throwing_keeps w r t o typed good

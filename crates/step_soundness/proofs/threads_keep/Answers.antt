use Rattle.frame_soundness.proofs.ThreadLaws.{frames_keep}
use Rattle.step_soundness.proofs.Steps.{running_is_typed}
use Rattle.step_soundness.proofs.threads_keep.Goals as goal

pub returns-clause-running : goal.returns-clause-running
returns-clause-running c = λ w r t frames typed e. running_is_typed w r t frames typed e

pub returns-clause-frames : goal.returns-clause-frames
returns-clause-frames c = λ w r t frames typed good. frames_keep w r t frames typed good

use Rattle.ref_model.proofs.NativeLaws.{rows_take}
use Rattle.frame_soundness.proofs.NativeCalls.{natives_go_on}
use Rattle.frame_soundness.proofs.NativeKinds.{type_kind}
use Rattle.frame_soundness.proofs.NativeLaws.{natives_keep}
use Rattle.frame_soundness.proofs.natives_keep_kinds.Goals as goal

pub returns-clause-answers : goal.returns-clause-answers
returns-clause-answers c = λ w r n row fits e. natives_keep w r n row fits e

pub returns-clause-operands : goal.returns-clause-operands
returns-clause-operands c = λ w r n takes act back ts rest xs effect fits row types of fit made.
    natives_go_on w r n takes act back ts rest xs effect fits row types of fit made

pub returns-clause-takes : goal.returns-clause-takes
returns-clause-takes c = λ w r n. rows_take w r n

pub returns-clause-types : goal.returns-clause-types
returns-clause-types c = λ w t has. type_kind w t has

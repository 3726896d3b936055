use Rattle.frame_soundness.proofs.LocalRowLaws.{row_goes, narrow_goes, wide_goes}
use Rattle.frame_soundness.proofs.CallLaws.{static_goes}
use Rattle.frame_soundness.proofs.KeepLaws.{row_keeps, rows_keep}
use Rattle.frame_soundness.proofs.ReturnLaws.{return_goes}
use Rattle.frame_soundness.proofs.local_instructions_go_on.Goals as goal

pub returns-clause-rows : goal.returns-clause-rows
returns-clause-rows c = λ w f below r typed t known nonzero. row_goes w f below r typed t known nonzero

pub returns-clause-constants : goal.returns-clause-constants
returns-clause-constants c = λ w f below index typed t known. narrow_goes w f below index typed t known

pub returns-clause-wide_constants : goal.returns-clause-wide_constants
returns-clause-wide_constants c = λ w f below index typed t known. wide_goes w f below index typed t known

pub returns-clause-returns : goal.returns-clause-returns
returns-clause-returns c = λ w f below kind typed t known root. return_goes w f below kind typed t known root

pub returns-clause-static_calls : goal.returns-clause-static_calls
returns-clause-static_calls c = λ w f below index m code typed t known named flag code_is local few.
    static_goes w f below index m code typed t known named flag code_is local few

pub returns-clause-row : goal.returns-clause-row
returns-clause-row c = λ w f below after typed names t moves. row_keeps w f below after typed names t moves

pub returns-clause-keep : goal.returns-clause-keep
returns-clause-keep c = λ w n frames after typed static first moves. rows_keep w n frames after typed static first moves

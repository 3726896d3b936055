use Rattle.ref_run.proofs.AgreementLaws as agreement
use Rattle.ref_run.proofs.laws.replays_agree.Goals as goal

pub returns : goal.returns
returns c = agreement.replays_agree

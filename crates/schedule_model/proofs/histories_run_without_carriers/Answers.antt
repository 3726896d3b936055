use Rattle.schedule_model.proofs.RunLaws.{runs_without_carriers}
use Rattle.schedule_model.proofs.histories_run_without_carriers.Goals as goal

pub returns : goal.returns
returns g c = λ m. runs_without_carriers m

use Rattle.program_files.specs.LinkCauses.{NotTyped}
use Rattle.program_files.proofs.LoadLaws.{err_is}
use Rattle.program_files.proofs.program.accept_world.Goals as goal

pub returns-in_err-named-in-Err-Fault-clause-refused : goal.returns-in_err-named-in-Err-Fault-clause-refused
returns-in_err-named-in-Err-Fault-clause-refused c = err_is c.from_residual.result _ (NotTyped c.args.world) c.from_residual.ensures.1 tt

use Rattle.std.proofs.Common.{◌∙◌}
use Rattle.program_files.proofs.StartLaws.{started_is}
use Rattle.program_files.proofs.program.start.Goals as goal

pub returns-in-Some-clause-started : goal.returns-in-Some-clause-started
returns-in-Some-clause-started c classes same =
    started_is _ _ _ classes _ _ (c.deref.ensures.value ∙ c.in_ok-name.ensures) same c.main_of.ensures.found c.in-Some.is

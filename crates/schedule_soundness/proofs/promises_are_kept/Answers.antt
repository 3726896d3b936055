use Rattle.schedule_soundness.proofs.Promises.{promises_are_kept}
use Rattle.schedule_soundness.proofs.Unpinned.{linked_programs_begin_unpinned}
use Rattle.schedule_soundness.proofs.promises_are_kept.Goals as goal

pub returns-clause-kept : goal.returns-clause-kept
returns-clause-kept c = λ p first plain begins. promises_are_kept p first plain begins

pub returns-clause-unpinned : goal.returns-clause-unpinned
returns-clause-unpinned c = λ p name methods found. linked_programs_begin_unpinned p name methods found

use Rattle.vthread_state.proofs.TableLaws.{changed_here, others_kept, count_kept}
use Rattle.vthread_state.proofs.laws.one_thread_changes.Goals as goal

pub returns : goal.returns
returns c = record { here = changed_here; others = others_kept; count = count_kept }

-- The history of a machine as one of its program.
use Rattle.std.proofs.Common.{◌≡◌, Option, Some, sym, ◌∙◌}
use Rattle.schedule_model.specs.Run.{Scheduled}
use Rattle.ref_model.specs.State.{State}
use Rattle.schedule_soundness.specs.HistoryLaws.{IsProgramAfter}
use Rattle.machine.specs.Legal.{IsLegal}
use Rattle.machine.specs.Machines.{Known, scheduled}
use Rattle.carrier_turns.proofs.EndingLaws.{is_scheduled}

inner : (v w : Scheduled State) → ◌≡◌ {A = Option (Scheduled State)} (Some v) (Some w) → v ≡ w
inner v w e = cc

pub is_program_after : (m : Known) (v : Scheduled State) → (x : IsLegal m) → scheduled m ≡ Some v → IsProgramAfter m.setting x.first v
is_program_after m v x at =
    record {
      begins = x.begins;
      plain = x.accepted.unpinned;
      carriers = m.carriers;
      some = x.some;
      history = m.history;
      runs = x.runs ∙ sym (is_scheduled m x) ∙ at;
    }

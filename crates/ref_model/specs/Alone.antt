-- The main thread alone, with its steps one after the other.
use Rattle.std.specs.Prelude.{ℕ, zero, suc, Bool, true, false, ◌||◌, Option, Some, None, is_some, if◌then◌else◌}
use Rattle.items.specs.Options.{◌>>=◌}
use Rattle.ref_model.specs.Setting.{Setting}
use Rattle.ref_model.specs.State.{State}
use Rattle.ref_model.specs.Ending.{ending}
use Rattle.ref_model.specs.Opening.{opening}
use Rattle.ref_model.specs.Requests.{Request, starts, reads_clock}
use Rattle.ref_model.specs.Resuming.{next_asks}
use Rattle.ref_model.specs.Step.{step}

-- with the step that asks this other threads, or the time, come into play
abbrev pub is_start : Request → Bool
is_start (starts u) = true
is_start q = false

abbrev pub needs_others : Request → Bool
needs_others q = is_start q || reads_clock q

-- A step of thread 0, where the program hasn't ended. It is undefined where the step starts a thread or reads the clock.
abbrev pub stepped_alone : Setting → State → Option State
stepped_alone p r =
    if is_some (ending r) then Some r
    else if next_asks p.world r 0 needs_others then None
    else step p r 0 None

-- So many steps of thread 0 from the opening on, or fewer where the program ends. It is defined where each step is.
abbrev pub alone : Setting → ℕ → Option State
alone p zero = opening p
alone p (suc n) = alone p n >>= stepped_alone p

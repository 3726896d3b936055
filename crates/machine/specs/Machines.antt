-- A machine as callers see it, and what its history gives.
use Rattle.std.specs.Prelude.{◌≡◌, ◌+◌, ◌-◌, ℕ, List, [], ◌∷◌, ◌++◌, Option, Some, None, length, nat_lt, if◌then◌else◌}
use Rattle.std.specs.Option.{option_map_or, option_or}
use Rattle.items.specs.Options.{◌>>=◌}
use Rattle.history.specs.declared.entry.Entry.{Entry}
use Rattle.history.specs.declared.entry.What.{What}
use Rattle.schedule_model.specs.Run.{Scheduled, schedule_of}
use Rattle.ref_model.specs.declared.ending.Ending.{Ending}
use Rattle.ref_model.specs.declared.ending.Ending.TheVariants.{Limit}
use Rattle.ref_model.specs.declared.ending.Which.TheVariants.{Events}
use Rattle.ref_model.specs.declared.limits.Limits.{Limits}
use Rattle.ref_model.specs.Setting.{Setting}
use Rattle.ref_model.specs.State.{State}
use Rattle.ref_model.specs.Opening.{opening}
use Rattle.ref_model.specs.Ending.{ending}
use Rattle.ref_model.specs.Looks.{machine_from}

-- What a machine was given, and its history. The state of the program and its schedule are no part of it, since these give them.
pub record Known : Type 0 where
  pub setting : Setting
  pub carriers : ℕ
  pub history : List Entry
  -- how many more entries the history has memory for
  pub spare : ℕ
  -- an ending that isn't the program's own: it can't go on, or came to the limit of threads, or the run was given up
  pub told : Option Ending

-- a machine that begins
abbrev pub at_first : Setting → ℕ → Known
at_first p carriers = record { setting = p; carriers = carriers; history = []; spare = 0; told = None }

-- one more entry of a carrier, in memory that was there
abbrev pub with_entry : Known → ℕ → What → Known
with_entry m c what = record m { history = m.history ++ record { carrier = c; what = what } ∷ []; spare = m.spare - 1 }

-- an ending that isn't the program's own
abbrev pub with_ending : Known → Ending → Known
with_ending m e = record m { told = Some e }

-- ---- what the history gives

-- the program under the schedule of its threads, after the history
abbrev pub scheduled : Known → Option (Scheduled State)
scheduled m = opening m.setting >>= λ first. schedule_of (machine_from m.setting first) m.carriers m.history

-- so it is of what the history gives
abbrev pub Given : Known → (Scheduled State → Type 0) → Type 0
Given m P = (v : Scheduled State) → scheduled m ≡ Some v → P v

-- how many entries a carrier makes in its turn at most
abbrev pub entries_left : ℕ
entries_left = 3

-- fewer entries are left than that
abbrev pub limit_reached : Limits → ℕ → Option Ending
limit_reached limits entries =
    if nat_lt limits.events (entries + entries_left) then Some (Limit Events limits.events) else None

-- How the run has ended in this state: as was told, else as the program did, else at the limit of events.
abbrev pub ending_in : Known → State → Option Ending
ending_in m r = option_or m.told (option_or (ending r) (limit_reached m.setting.limits (length m.history)))

abbrev pub machine_ending : Known → Option Ending
machine_ending m = scheduled m >>= λ v. ending_in m v.state

-- what the program wrote to its two streams
abbrev pub output : Known → List ℕ
output m = option_map_or (λ (v : Scheduled State). v.state.memory.out) (scheduled m) []

abbrev pub errors : Known → List ℕ
errors m = option_map_or (λ (v : Scheduled State). v.state.memory.err) (scheduled m) []

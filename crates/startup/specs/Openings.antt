-- The state in which a program begins, by its parts.
use Rattle.std.specs.Prelude.{ℕ, ◌-◌, false, List, [], ◌∷◌, Option, None, Some, if◌then◌else◌}
use Rattle.link_model.specs.declared.members.MethodInfo.{MethodInfo}
use Rattle.link_model.specs.Initializers.{is_synchronized}
use Rattle.instruction_rows.specs.declared.value.Value.{Value}
use Rattle.link_model.specs.World.{World}
use Rattle.state_model.specs.Frames.{Frame}
use Rattle.state_model.specs.Objects.{Object}
use Rattle.ref_model.specs.declared.limits.Limits.{Limits}
use Rattle.ref_model.specs.Monitors.{class_monitor}
use Rattle.ref_model.specs.Setting.{Setting}
use Rattle.ref_model.specs.State.{State}
use Rattle.ref_model.specs.Opening.{opening_owners, opening_thread}
use Rattle.startup.specs.declared.begin.Opened.{Opened}

-- what a run is given
abbrev pub setting : World → ℕ → Limits → Setting
setting w main limits = record { world = w; main = main; limits = limits }

-- One thread runs, nothing is written yet, the thread alone owns a monitor, where main holds one, and no time has passed.
abbrev pub first_state : ℕ → List Object → ℕ → List Value → List Frame → Option ℕ → State
first_state most_threads heap room statics frames monitor = record {
  memory = record { heap = heap; room = room; statics = statics; out = []; err = []; exited = None };
  threads = opening_thread frames ∷ [];
  most_threads = most_threads;
  unnamed = 0;
  owners = opening_owners monitor;
  now = 0;
  main_threw = false;
}

abbrev pub opened_state : Limits → Opened → State
opened_state limits o = first_state limits.threads o.heap.objects (o.heap.cells - o.heap.used) o.statics.items o.mounted.stack.frames o.monitor

-- the monitor that a static method holds while it runs
abbrev pub monitor_held : MethodInfo → Option ℕ
monitor_held m = if is_synchronized m then Some (class_monitor m.class) else None

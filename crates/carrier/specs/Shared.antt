-- What the carriers of a run share: a machine in a lock, and a clock.
use Rattle.std.specs.Prelude.{ℕ, Bool}
use Rattle.atomic_table.specs.Seated.{TableId}
use Rattle.link_model.specs.World.{World}
use Rattle.ref_model.specs.declared.limits.Limits.{Limits}
use Rattle.turn_lock.specs.Seats.{LockState}
use Rattle.machine.specs.Machines.{Known}

pub record MachineAndClock (C : Type 0) : Type 0 where
  pub machine : Known
  pub clock : C

-- what a machine was given, and how many carriers it has
abbrev pub machine_parts : Known → World × ℕ × Limits × ℕ
machine_parts m = (m.setting.world, m.setting.main, m.setting.limits, m.carriers)

-- which lock it is, the machine that it was made with, and which times the clock gives
pub record SharedRun : Type 0 where
  pub lock : TableId
  pub first : Known
  pub gives : ℕ → Bool

abbrev pub shared_run : {C : Type 0} → (C → ℕ → Bool) → LockState (MachineAndClock C) → SharedRun
shared_run gives l = record { lock = l.id; first = l.initial.machine; gives = gives l.initial.clock }

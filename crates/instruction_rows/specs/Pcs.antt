-- Where a row leads in the code. A code array has at most 65,535 bytes (JVMS 4.7.3).
use Rattle.std.specs.Prelude.{ℕ, ℤ, pos, negsuc, nat_le, Option, Some, None, if◌then◌else◌}
use Rattle.instruction_rows.specs.SlotEffect.{Way, on, to}

-- the pc that a target is
abbrev pub pc_of : ℤ → Option ℕ
pc_of (pos pc) = if nat_le pc 65535 then Some pc else None
pc_of (negsuc n) = None

-- the pc after a row, where that of the next instruction is `next`
abbrev pub pc_after : ℕ → Way → Option ℕ
pc_after next on = Some next
pc_after next (to target) = pc_of target

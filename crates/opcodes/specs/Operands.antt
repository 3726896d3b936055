-- How operands are read from left to right. The first fault is met first: a field that is cut off, or that isn't allowed.
use Rattle.std.specs.Prelude.{ℕ, ◌&&◌, ◌==◌, ℤ, pos, negsuc, ◌+ℤ◌, unsigned_abs, int_lt, int_le, List, Bool, Ok, Err, nat_lt, nat_le}
use Rattle.std.specs.Int.{w8, w16, w32}
use Rattle.byte_reader.specs.Reader.{Reader, ◌>>=◌, fault_at, number_at, signed_at, bytes_at, map_value, both, verify, list_by, many}
use Rattle.opcodes.specs.declared.error.CodeWhy.{CodeWhy}
use Rattle.opcodes.specs.declared.error.CodeWhy.TheVariants.{Opcode, Short, Operand}
use Rattle.opcodes.specs.declared.op.Op.{Op}
use Rattle.opcodes.specs.declared.op.Op.TheVariants.{PushInt, PushConstant, InvokeDynamic}
use Rattle.opcodes.specs.declared.switch.Match.{Match}
use Rattle.opcodes.specs.Formats.{Format, undefined, plain, byte, short, constant, index, local, increment, branch, far_branch, table, lookup, interface, dynamic, primitive, dimensions, wide, format}
use Rattle.opcodes.specs.Encoding.{padding_of, count_of, Table, table_op, Lookup, lookup_op, increment_op, interface_op, primitive_op, dimensions_op}

abbrev pub u1_at : Reader CodeWhy ℕ
u1_at = number_at Short 1

abbrev pub u2_at : Reader CodeWhy ℕ
u2_at = number_at Short 2

abbrev pub s1_at : Reader CodeWhy ℤ
s1_at = signed_at Short w8

abbrev pub s2_at : Reader CodeWhy ℤ
s2_at = signed_at Short w16

abbrev pub s4_at : Reader CodeWhy ℤ
s4_at = signed_at Short w32

-- where the offset leads from the instruction's own pc
abbrev pub target : ℕ → ℤ → ℤ
target pc offset = pos pc +ℤ offset

-- a target by an offset in two bytes, and in four
abbrev pub near_target_at : ℕ → Reader CodeWhy ℤ
near_target_at pc = map_value (target pc) s2_at

abbrev pub target_at : ℕ → Reader CodeWhy ℤ
target_at pc = map_value (target pc) s4_at

-- a byte that is 0
abbrev pub zero_at : Reader CodeWhy (Unit {0})
zero_at = map_value (λ byte. tt) (verify (λ byte. byte == 0) Operand u1_at)

-- a value, and a byte of 0 after it
abbrev pub before_zero : {A : Type 0} → Reader CodeWhy A → Reader CodeWhy A
before_zero reader = map_value (λ x. x.0) (both reader zero_at)

-- ---- switches

abbrev pub targets_at : ℕ → ℕ → Reader CodeWhy (List ℤ)
targets_at pc = many (target_at pc)

-- the highest int of a tableswitch, which is at least the lowest
abbrev pub high_at : ℤ → Reader CodeWhy ℤ
high_at low = verify (int_le low) Operand s4_at

unfoldable pub table_at : ℕ → Reader CodeWhy Table
table_at pc bytes = do
  padding ← bytes_at Short (padding_of pc) bytes
  default ← target_at pc padding.1
  low ← s4_at default.1
  high ← high_at low.0 low.1
  targets ← targets_at pc (count_of low.0 high.0) high.1
  Ok (record { padding = padding.0; default = default.0; low = low.0; high = high.0; targets = targets.0 }, targets.1)

abbrev pub match_with : ℤ × ℤ → Match
match_with x = record { value = x.0; target = x.1 }

-- an int above the floor
abbrev pub value_at : ℤ → Reader CodeWhy ℤ
value_at floor = verify (int_lt floor) Operand s4_at

-- a match above the one before
abbrev pub match_at : ℕ → ℤ → Reader CodeWhy Match
match_at pc floor = map_value match_with (both (value_at floor) (target_at pc))

abbrev pub next_floor : ℤ → Match → ℤ
next_floor floor m = m.value

abbrev pub matches_at : ℕ → ℤ → ℕ → Reader CodeWhy (List Match)
matches_at pc floor = list_by (λ (floor : ℤ) (more : ℕ). match_at pc floor) next_floor floor

-- below each number of four bytes
abbrev pub below_all : ℤ
below_all = negsuc 2147483648

unfoldable pub lookup_at : ℕ → Reader CodeWhy Lookup
lookup_at pc bytes = do
  padding ← bytes_at Short (padding_of pc) bytes
  default ← target_at pc padding.1
  count ← verify (int_le (pos 0)) Operand s4_at default.1
  matches ← matches_at pc below_all (unsigned_abs count.0) count.1
  Ok (record { padding = padding.0; default = default.0; matches = matches.0 }, matches.1)

-- ---- instructions

abbrev pub is_primitive : ℕ → Bool
is_primitive code = nat_le 4 code && nat_lt code 12

-- the operands of an opcode after wide
abbrev pub wide_operands_at : Format → Reader CodeWhy Op
wide_operands_at (local op_of) bytes = map_value op_of u2_at bytes
wide_operands_at increment bytes = map_value increment_op (both u2_at s2_at) bytes
wide_operands_at other bytes = Err (fault_at bytes Operand)

-- an opcode after wide, and its operands
abbrev pub wide_at : Reader CodeWhy Op
wide_at bytes = do
  opcode ← u1_at bytes
  wide_operands_at (format opcode.0) opcode.1

-- the operands of an instruction at pc
abbrev pub operands_at : ℕ → Format → Reader CodeWhy Op
operands_at pc undefined bytes = Err (fault_at bytes Opcode)
operands_at pc (plain op) bytes = Ok (op, bytes)
operands_at pc byte bytes = map_value PushInt s1_at bytes
operands_at pc short bytes = map_value PushInt s2_at bytes
operands_at pc constant bytes = map_value PushConstant u1_at bytes
operands_at pc (index op_of) bytes = map_value op_of u2_at bytes
operands_at pc (local op_of) bytes = map_value op_of u1_at bytes
operands_at pc increment bytes = map_value increment_op (both u1_at s1_at) bytes
operands_at pc (branch op_of) bytes = map_value op_of (near_target_at pc) bytes
operands_at pc (far_branch op_of) bytes = map_value op_of (target_at pc) bytes
operands_at pc table bytes = map_value table_op (table_at pc) bytes
operands_at pc lookup bytes = map_value lookup_op (lookup_at pc) bytes
operands_at pc interface bytes = map_value interface_op (before_zero (both u2_at u1_at)) bytes
operands_at pc dynamic bytes = map_value InvokeDynamic (before_zero (before_zero u2_at)) bytes
operands_at pc primitive bytes = map_value primitive_op (verify is_primitive Operand u1_at) bytes
operands_at pc dimensions bytes =
    map_value dimensions_op (both u2_at (verify (nat_lt 0) Operand u1_at)) bytes
operands_at pc wide bytes = wide_at bytes

-- the instruction at the front of the code from pc on
unfoldable pub op_at : ℕ → Reader CodeWhy Op
op_at pc bytes = do
  opcode ← u1_at bytes
  operands_at pc (format opcode.0) opcode.1

-- The state after an instruction (JVMS 4.10.1.9), or the first rule that it breaks.
use Rattle.std.specs.Prelude.{ℕ, List, Option, Some, None, Result, Ok, Err}
use Rattle.opcodes.specs.declared.op.ValueKind.{ValueKind}
use Rattle.stack_maps.specs.declared.types.VType.{VType}
use Rattle.instruction_rows.specs.declared.row_why.RowWhy.{RowWhy}
use Rattle.instruction_rows.specs.declared.row_why.RowWhy.TheVariants as whys
use Rattle.instruction_rows.specs.Results.{◌then◌}
use Rattle.instruction_rows.specs.Rows.{Row, local, constant, wide_constant, returns, invoke, event, refused}
use Rattle.instruction_rows.specs.TypeEffect.{typed, type_popped, type_pushed}
use Rattle.instruction_rows.specs.Table.{row}
use Rattle.link_model.specs.declared.sites.Resolution.{Resolution}
use Rattle.link_model.specs.World.{World}
use Rattle.verify_types.specs.TypeStates.{TypeState, with_stack, with_types}
use Rattle.verify_types.specs.Environment.{Instruction, Environment}
use Rattle.verify_types.specs.Objects.{constant_type, event_state}
use Rattle.verify_types.specs.Calls.{invoke_state}

-- what lies below a value that is returned
abbrev pub returned_from : Option ValueKind → List VType → Result (List VType) RowWhy
returned_from None stack = Ok stack
returned_from (Some k) stack = type_popped k stack then λ x. Ok x.1

abbrev pub constant_pushed : World → Resolution → TypeState → Result TypeState RowWhy
constant_pushed w resolution s =
    constant_type w resolution.site then λ t. Ok (with_stack s (type_pushed t s.types.stack))

-- the instruction at this pc, whose constant means this
abbrev pub row_state : Environment → ℕ → Resolution → Row → TypeState → Result TypeState RowWhy
row_state env pc resolution (local r) s = typed r s.types then λ types. Ok (with_types s types)
row_state env pc resolution (constant index) s = constant_pushed env.world resolution s
row_state env pc resolution (wide_constant index) s = constant_pushed env.world resolution s
row_state env pc resolution (returns kind) s = returned_from kind s.types.stack then λ stack. Ok (with_stack s stack)
row_state env pc resolution (invoke invocation index) s = invoke_state env pc resolution invocation s
row_state env pc resolution (event e) s = event_state env.world env.method.class pc resolution e s
row_state env pc resolution refused s = Err whys.Kind

abbrev pub row_of : Instruction → Row
row_of i = row i.instr.op

abbrev pub state_after : Environment → Instruction → TypeState → Result TypeState RowWhy
state_after env i s = row_state env i.instr.pc i.resolution (row_of i) s

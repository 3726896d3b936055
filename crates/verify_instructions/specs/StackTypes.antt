-- The types of an operand stack, as `OperandStack` holds them.
use Rattle.std.specs.Prelude.{List, reverse}
use Rattle.stack_maps.specs.declared.types.VType.{VType}
use Rattle.verify_instructions.specs.Marks.{AreMarkedWhere}
use Rattle.verify_instructions.specs.declared.operand_stack.OperandStack.TheInside.{Inside}

abbrev pub types_in : Inside → List VType
types_in a = reverse a.types

abbrev pub IsMarked : Inside → Type 0
IsMarked a = AreMarkedWhere a.are_marked a.types a.made.items

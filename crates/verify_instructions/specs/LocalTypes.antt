-- The types of local variables, as `Locals` holds them.
use Rattle.std.specs.Prelude.{List}
use Rattle.stack_maps.specs.declared.types.VType.{VType}
use Rattle.verify_instructions.specs.declared.locals.Locals.TheInside.{Inside}
use Rattle.verify_instructions.specs.Unfinished.{AreListed}

abbrev pub types_in : Inside → List VType
types_in a = a.types.items

abbrev pub HasUnfinished : Inside → Type 0
HasUnfinished a = AreListed a.unfinished.items a.types.items

use Rattle.std.proofs.Common.{sym, ap}
use Rattle.link_tables.specs.ResolutionTables.{primitive_number}
use Rattle.link_tables.proofs.resolution_table.primitive_number.Goals as goal

pub returns-in-Boolean : goal.returns-in-Boolean
returns-in-Boolean c = sym (ap primitive_number c.in-Boolean.is)

pub returns-in-Char : goal.returns-in-Char
returns-in-Char c = sym (ap primitive_number c.in-Char.is)

pub returns-in-Float : goal.returns-in-Float
returns-in-Float c = sym (ap primitive_number c.in-Float.is)

pub returns-in-Double : goal.returns-in-Double
returns-in-Double c = sym (ap primitive_number c.in-Double.is)

pub returns-in-Byte : goal.returns-in-Byte
returns-in-Byte c = sym (ap primitive_number c.in-Byte.is)

pub returns-in-Short : goal.returns-in-Short
returns-in-Short c = sym (ap primitive_number c.in-Short.is)

pub returns-in-Int : goal.returns-in-Int
returns-in-Int c = sym (ap primitive_number c.in-Int.is)

pub returns-in-Long : goal.returns-in-Long
returns-in-Long c = sym (ap primitive_number c.in-Long.is)

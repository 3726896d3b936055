-- The code of methods, each decoded.
use Rattle.std.specs.Prelude.{List, Option, IfSome}
use Rattle.std.specs.List.{AllByRecursion}
use Rattle.link_model.specs.declared.members.MethodCode.{MethodCode}
use Rattle.link_model.specs.Decoded.{IsDecoded}
use Rattle.link_numbers.specs.declared.codes.Codes.TheInside.{Inside}

abbrev pub codes_in : Inside → List (Option MethodCode)
codes_in a = a.codes.items

-- the code of one method, where it has code
abbrev pub IsWhole : Option MethodCode → Type 0
IsWhole code = IfSome code IsDecoded

abbrev pub AreDecoded : Inside → Type 0
AreDecoded a = AllByRecursion IsWhole a.codes.items

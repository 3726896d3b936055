-- The class initializer that a class declares.
use Rattle.std.specs.Prelude.{ℕ, Option}
use Rattle.link_rules.specs.declared.place.MemberPlace.{MemberPlace}
use Rattle.link_rules.specs.Program.{Program}
use Rattle.link_rules.specs.Members.{declared_method}
use Rattle.ref_model.specs.Opening.{initializer_key}

abbrev pub initializer_place : Program → ℕ → Option MemberPlace
initializer_place p class = declared_method p initializer_key class

-- Methods by their numbers, and what runs on an object (JVMS 5.4.6).
use Rattle.std.specs.Prelude.{ℕ, ◌-◌, Option, Some, slice_get, if◌then◌else◌}
use Rattle.items.specs.Options.{◌>>=◌}
use Rattle.class_grammar.specs.Names.{object_class}
use Rattle.link_rules.specs.declared.choice.Choice.{Choice}
use Rattle.link_rules.specs.declared.place.MemberPlace.{MemberPlace}
use Rattle.link_rules.specs.Members.{place, methods_before}
use Rattle.link_rules.specs.Selection.{select}
use Rattle.link_model.specs.World.{World, name_number}
use Rattle.link_model.specs.Subtypes.{is_array}

-- where the method of a number is declared
abbrev pub method_place : World → ℕ → Option MemberPlace
method_place w n = slice_get w.methods n >>= λ m. Some (place m.class (n - methods_before w.program.classes m.class))

-- the class in which selection begins: an array has the methods of Object (JVMS 4.4.1, 5.3.3)
abbrev pub selecting_class : World → ℕ → Option ℕ
selecting_class w class = if is_array w class then name_number w object_class else Some class

-- what invokevirtual or invokeinterface of a method selects on an object of a class
abbrev pub choice_of : World → ℕ → ℕ → Option Choice
choice_of w class n =
    selecting_class w class >>= λ start. method_place w n >>= λ at. Some (select w.program start at)

-- The class of main, by the argument that names it.
use Rattle.std.specs.Prelude.{ℕ, List, ◌==◌, if◌then◌else◌}
use Rattle.std.specs.List.{flat_map}
use Rattle.std.specs.Str.{chars}
use Rattle.std.specs.Char.Escape.{encode_utf16}

abbrev pub dot : ℕ
dot = 46  -- .

abbrev pub slash : ℕ
slash = 47  -- /

-- a character of MAIN in the units of a class name: a dot is a slash
abbrev pub name_units : ℕ → List ℕ
name_units c = encode_utf16 (if c == dot then slash else c)

-- the name of the class that an argument in UTF-8 names, in units of UTF-16
abbrev pub class_named : List ℕ → List ℕ
class_named text = flat_map name_units (chars text)

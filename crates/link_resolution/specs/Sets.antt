-- The invariant of a set of classes.
use Rattle.std.specs.Prelude.{◌≡◌, ℕ, false, List, get_or}
use Rattle.link_rules.specs.Hierarchy.{is_among}
use Rattle.link_resolution.specs.declared.class_set.ClassSet.TheInside.{Inside}

abbrev pub list_of : Inside → List ℕ
list_of a = a.list.items

-- a class is marked exactly where it is in the list; one past the end of the marks isn't
abbrev pub IsMarked : Inside → Type 0
IsMarked a = (c : ℕ) → get_or a.flags.items c false ≡ is_among a.list.items c

-- The part of a history that the Java program can tell.
use Rattle.std.specs.Prelude.{Bool, true, false, List}
use Rattle.std.specs.List.{filter}
use Rattle.history.specs.declared.entry.Entry.{Entry}
use Rattle.history.specs.declared.entry.What.{What}
use Rattle.history.specs.declared.entry.What.TheVariants.{Mount, Unmount, Step, Clock}

abbrev pub is_java : What → Bool
is_java (Mount t) = false
is_java (Unmount t) = false
is_java (Step t n pick) = true
is_java (Clock now) = true

-- the entries that change the state of the Java program
abbrev pub java : List Entry → List Entry
java entries = filter (λ (e : Entry). is_java e.what) entries

-- The built-in classes in their order.
use Rattle.std.specs.Prelude.{List, [], ◌∷◌}
use Rattle.lib_table.specs.Declarations.{Class}
use Rattle.lib_table.specs.Objects as objects
use Rattle.lib_table.specs.Texts as texts
use Rattle.lib_table.specs.System as system
use Rattle.lib_table.specs.Threads as threads
use Rattle.lib_table.specs.ThreadBuilders as thread_builders
use Rattle.lib_table.specs.Throwables as throwables

-- by subject
abbrev pub groups : List (List Class)
groups = objects.classes ∷ texts.classes ∷ system.classes ∷ threads.classes ∷ thread_builders.classes ∷ throwables.classes ∷ []

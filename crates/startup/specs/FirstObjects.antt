-- The opening heap, by the numbers of the classes of which it has objects.
use Rattle.std.specs.Prelude.{ℕ, List, [], ◌∷◌, ◌++◌, Option, Some, codes, map}
use Rattle.std.specs.List.{range_with_len}
use Rattle.items.specs.Options.{◌>>=◌}
use Rattle.link_model.specs.Strings.{strings_of}
use Rattle.link_model.specs.World.{World, name_number}
use Rattle.state_model.specs.Objects.{Object, instance, text}
use Rattle.heap_objs.specs.Heap.{Heap}
use Rattle.ref_model.specs.Members.{new_values}
use Rattle.ref_model.specs.Opening.{words_class, thread_state}
use Rattle.startup.specs.declared.library.Library.{Library}

abbrev pub library_of : Option ℕ → Option ℕ → Option ℕ → Option ℕ → Option ℕ → Option Library
library_of error stream thread state words =
    error >>= λ a. stream >>= λ b. thread >>= λ c. state >>= λ d. words >>= λ e.
    Some (record { error = a; stream = b; thread = c; state = d; words = e })

abbrev pub library : World → Option Library
library w =
    library_of (name_number w (codes "java/lang/OutOfMemoryError")) (name_number w (codes "java/io/PrintStream"))
    (name_number w (codes "java/lang/Thread")) (name_number w (codes "java/lang/Thread$State")) (words_class w)

abbrev pub new_object : World → ℕ → Object
new_object w class = instance class (new_values w class)

-- the objects before the Strings
abbrev pub machine_objects : World → Library → List Object
machine_objects w l =
    new_object w l.error ∷ new_object w l.stream ∷ new_object w l.stream ∷ new_object w l.thread
    ∷ map (thread_state l.state) (range_with_len 0 6)

abbrev pub first_objects : World → Library → List Object
first_objects w l = machine_objects w l ++ map text (strings_of w.program) ++ instance l.words [] ∷ []

-- a heap of these objects, which use none of its cells
abbrev pub heap_of : ℕ → List Object → Heap
heap_of cells objects = record { objects = objects; cells = cells; used = 0 }

-- the heap with these objects too, which use no cell
abbrev pub with_objects : List Object → Heap → Heap
with_objects objects h = record h { objects = h.objects ++ objects }

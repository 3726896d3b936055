-- The opening heap, by the classes of its objects.
use Rattle.std.proofs.Common.{◌≡◌, ℕ, List, [], ◌∷◌, ◌++◌, Option, Some, None, ap}
use Rattle.std.specs.Prelude.{codes, map}
use Rattle.std.specs.List.{range_with_len}
use Rattle.std.specs.Option.{option_map_or}
use Rattle.items.specs.Options.{◌>>=◌}
use Rattle.link_model.specs.Strings.{strings_of}
use Rattle.link_model.specs.World.{World, name_number}
use Rattle.state_model.specs.Objects.{Object, instance, text}
use Rattle.ref_model.specs.Opening.{opening_heap, words_class, thread_state}
use Rattle.startup.specs.declared.library.Library.{Library}
use Rattle.startup.specs.FirstObjects.{library, library_of, new_object, first_objects}

-- the heap by the numbers of the classes
abbrev heap_by : World → Option ℕ → Option ℕ → Option ℕ → Option ℕ → Option ℕ → Option (List Object)
heap_by w a b c d e =
    (a >>= λ class. Some (new_object w class)) >>= λ error.
    (b >>= λ class. Some (new_object w class)) >>= λ stream.
    (c >>= λ class. Some (new_object w class)) >>= λ thread.
    (d >>= λ class. Some (map (thread_state class) (range_with_len 0 6))) >>= λ states.
    e >>= λ words.
    Some (error ∷ stream ∷ stream ∷ thread ∷ states ++ map text (strings_of w.program) ++ instance words [] ∷ [])

by_numbers : (w : World) (l : Library) (a b c d e : Option ℕ) → library_of a b c d e ≡ Some l
    → heap_by w a b c d e ≡ Some (first_objects w l)
by_numbers w l None b c d e is = absurd cc
by_numbers w l (Some a) None c d e is = absurd cc
by_numbers w l (Some a) (Some b) None d e is = absurd cc
by_numbers w l (Some a) (Some b) (Some c) None e is = absurd cc
by_numbers w l (Some a) (Some b) (Some c) (Some d) None is = absurd cc
by_numbers w l (Some a) (Some b) (Some c) (Some d) (Some e) is =
    let made : Library = record { error = a; stream = b; thread = c; state = d; words = e } in
    ap (λ (o : Option Library). Some (first_objects w (option_map_or (λ (k : Library). k) o made))) is

-- a program that has these classes has an opening heap
pub heap_is : (w : World) (l : Library) → library w ≡ Some l → opening_heap w ≡ Some (first_objects w l)
heap_is w l is =
    by_numbers w l (name_number w (codes "java/lang/OutOfMemoryError")) (name_number w (codes "java/io/PrintStream"))
    (name_number w (codes "java/lang/Thread")) (name_number w (codes "java/lang/Thread$State")) (words_class w) is

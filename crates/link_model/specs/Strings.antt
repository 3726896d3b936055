-- The numbers of the Strings that constants are (JVMS 5.1, 5.4.3.1). The heap begins with objects of the machine's own, the names of
-- main and of the states of a thread among them; after these come the String constants by class and index, each text once.
use Rattle.std.specs.Prelude.{ℕ, ◌+◌, List, [], ◌∷◌, Option, codes}
use Rattle.std.specs.Option.{option_map, option_to_list}
use Rattle.std.specs.List.{flat_map, fold}
use Rattle.class_model.specs.declared.constant.Const.{Const}
use Rattle.class_model.specs.declared.constant.Const.TheVariants.{Text}
use Rattle.class_model.specs.declared.class_file.ClassFile.{ClassFile}
use Rattle.class_grammar.specs.Pool.{text_at}
use Rattle.link_rules.specs.Program.{Program}
use Rattle.link_model.specs.Numbering.{number_of, with_name}

-- how many objects come before the first String: the OutOfMemoryError, the streams out and err, main's Thread, the six states
abbrev pub objects_before : ℕ
objects_before = 10

-- the names of main and of the states (java.lang.Thread.State)
abbrev pub first_strings : List (List ℕ)
first_strings =
    codes "main" ∷ codes "NEW" ∷ codes "RUNNABLE" ∷ codes "BLOCKED" ∷ codes "WAITING" ∷ codes "TIMED_WAITING"
    ∷ codes "TERMINATED" ∷ []

abbrev pub text_in : List Const → Const → List (List ℕ)
text_in pool (Text index) = option_to_list (text_at pool index)
text_in pool c = []

abbrev pub texts_in : ClassFile → List (List ℕ)
texts_in f = flat_map (text_in f.pool) f.pool

-- the texts of the Strings in the order of their numbers
abbrev pub strings_of : Program → List (List ℕ)
strings_of p = fold with_name first_strings (flat_map texts_in p.classes)

-- the number of the String of this text
abbrev pub string_number : List (List ℕ) → List ℕ → Option ℕ
string_number strings text = option_map (λ place. objects_before + place) (number_of strings text)

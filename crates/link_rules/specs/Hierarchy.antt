-- The superclasses and superinterfaces of a class (JVMS 5.3.5). These definitions have a meaning in every list of classes, also
-- where a class is missing or above itself: the faults of such a list are named by them.
use Rattle.std.specs.Prelude.{ℕ, zero, suc, ◌+◌, Bool, List, [], ◌∷◌, ◌++◌, Option, None, length, option_and_then, filter_map, ◌==◌, if◌then◌else◌}
use Rattle.std.specs.Option.{option_map_or, option_to_list}
use Rattle.std.specs.List.{list_any}
use Rattle.class_model.specs.declared.class_file.ClassFile.{ClassFile}
use Rattle.class_grammar.specs.Pool.{class_name_at}
use Rattle.link_rules.specs.Program.{Program, class_named, class_at}

-- whether the class is in the list
abbrev pub is_among : List ℕ → ℕ → Bool
is_among cs c = list_any (λ d. d == c) cs

-- ---- direct

-- the class at an index of a file's pool, where the program has it
abbrev pub class_in : Program → ClassFile → ℕ → Option ℕ
class_in p f index = option_and_then (class_named p) (class_name_at f.pool index)

-- the superclass that a file names, where the program has it
abbrev pub parent_in : Program → ClassFile → Option ℕ
parent_in p f = class_in p f f.parent

abbrev pub parent_of : Program → ℕ → Option ℕ
parent_of p c = class_at (parent_in p) None p c

-- the direct superinterfaces that a file names and the program has, in their order
abbrev pub interfaces_in : Program → ClassFile → List ℕ
interfaces_in p f = filter_map (class_in p f) f.interfaces

abbrev pub interfaces_of : Program → ℕ → List ℕ
interfaces_of p c = class_at (interfaces_in p) [] p c

-- both, in the order in which a field is looked for (JVMS 5.4.3.2)
abbrev pub directs : Program → ℕ → List ℕ
directs p c = interfaces_of p c ++ option_to_list (parent_of p c)

-- how many direct superclasses and superinterfaces the first n classes have
abbrev pub edges : Program → ℕ → ℕ
edges p zero = 0
edges p (suc n) = edges p n + length (directs p n)

-- ---- all

-- The classes that are met from those to do on, each once: a class, what is above its first superinterface, and so on, and then
-- what is above its superclass. `seen` is what has been met so far.
abbrev pub visit : (ℕ → List ℕ) → ℕ → List ℕ → List ℕ → List ℕ
visit above zero todo seen = seen
visit above (suc n) [] seen = seen
visit above (suc n) (c ∷ todo) seen =
    if is_among seen c then visit above n todo seen else visit above n (above c ++ todo) (seen ++ c ∷ [])

-- The class, its superclasses and its superinterfaces, each once, in the order in which a field is looked for. A class is
-- to do once for each class directly below it, which bounds the number of visits.
abbrev pub supers : Program → ℕ → List ℕ
supers p c = class_at (λ f. visit (directs p) (edges p (length p.classes) + 1) (c ∷ []) []) [] p c

-- whether a is b, or b is among its superclasses and superinterfaces
abbrev pub is_below : Program → ℕ → ℕ → Bool
is_below p a b = is_among (supers p a) b

-- the class and its superclasses from the class up, at most n classes
abbrev pub climb : (ℕ → Option ℕ) → ℕ → ℕ → List ℕ
climb parent zero c = []
climb parent (suc n) c = c ∷ option_map_or (climb parent n) (parent c) []

-- the class and its superclasses, from the class up
abbrev pub superclasses : Program → ℕ → List ℕ
superclasses p c = class_at (λ f. climb (parent_of p) (length p.classes) c) [] p c

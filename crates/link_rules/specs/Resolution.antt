-- The field or method that a name means in a class (JVMS 5.4.3.2 to 5.4.3.4). Access isn't checked.
use Rattle.std.specs.Prelude.{ℕ, Bool, not, List, [], ◌∷◌, Option, Some, None, filter, filter_map, ◌==◌, ◌&&◌, if◌then◌else◌}
use Rattle.std.specs.Option.{option_or, option_and_then}
use Rattle.std.specs.List.{list_any}
use Rattle.items.specs.First.{first_in}
use Rattle.class_grammar.specs.Names.{object_class}
use Rattle.link_rules.specs.declared.place.MemberPlace.{MemberPlace}
use Rattle.link_rules.specs.Program.{Program, class_named, is_interface}
use Rattle.link_rules.specs.Hierarchy.{supers, superclasses, is_below}
use Rattle.link_rules.specs.Members.{Key, declared_field, declared_method, has_method, is_open, is_public_instance, is_abstract_method}

-- A field (JVMS 5.4.3.2): that of the class itself, else of what is above its superinterfaces in their order, else of what is
-- above its superclass.
abbrev pub field_of : Program → ℕ → Key → Option MemberPlace
field_of p c key = first_in (declared_field p key) (supers p c)

-- ---- methods that come from superinterfaces

-- the method, where it is neither private nor static
abbrev pub if_open : Program → MemberPlace → Option MemberPlace
if_open p at = if has_method is_open p at then Some at else None

-- the method of this key that the interface declares, neither private nor static
abbrev pub open_method : Program → Key → ℕ → Option MemberPlace
open_method p key c = if is_interface p c then option_and_then (if_open p) (declared_method p key c) else None

-- those of the class's superinterfaces
abbrev pub inherited : Program → ℕ → Key → List MemberPlace
inherited p c key = filter_map (open_method p key) (supers p c)

-- whether an interface below declares one as well
abbrev pub is_hidden : Program → List MemberPlace → MemberPlace → Bool
is_hidden p all at = list_any (λ other. not (other.class == at.class) && is_below p other.class at.class) all

-- whether the method is maximally specific among them (JVMS 5.4.3.3) and isn't abstract
abbrev pub is_specific_body : Program → List MemberPlace → MemberPlace → Bool
is_specific_body p all at = not (is_hidden p all at) && not (has_method is_abstract_method p at)

abbrev pub specific_bodies : Program → List MemberPlace → List MemberPlace
specific_bodies p all = filter (is_specific_body p all) all

-- the maximally specific methods of the class's superinterfaces that aren't abstract
abbrev pub most_specific_bodies : Program → ℕ → Key → List MemberPlace
most_specific_bodies p c key = specific_bodies p (inherited p c key)

-- The only one with a body; else any, here the first that is met.
abbrev pub chosen : List MemberPlace → List MemberPlace → Option MemberPlace
chosen (at ∷ []) all = Some at
chosen bodies [] = None
chosen bodies (at ∷ all) = Some at

abbrev pub from_interfaces : Program → ℕ → Key → Option MemberPlace
from_interfaces p c key = chosen (most_specific_bodies p c key) (inherited p c key)

-- ---- a method of a class and of an interface

-- a method of a class (JVMS 5.4.3.3)
abbrev pub class_method : Program → ℕ → Key → Option MemberPlace
class_method p c key = option_or (first_in (declared_method p key) (superclasses p c)) (from_interfaces p c key)

-- the public instance method of Object
abbrev pub object_method : Program → Key → Option MemberPlace
object_method p key =
    option_and_then (λ at. if has_method is_public_instance p at then Some at else None)
    (option_and_then (declared_method p key) (class_named p object_class))

-- a method of an interface (JVMS 5.4.3.4)
abbrev pub interface_method : Program → ℕ → Key → Option MemberPlace
interface_method p c key =
    option_or (declared_method p key c) (option_or (object_method p key) (from_interfaces p c key))

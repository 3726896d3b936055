-- The method that an invocation runs on an object of a class (JVMS 5.4.5, 5.4.6, 6.5).
use Rattle.std.specs.Prelude.{ℕ, Bool, not, List, [], ◌∷◌, Option, Some, None, codes, drop, unwrap_or, slice_get, ◌&&◌, if◌then◌else◌}
use Rattle.std.specs.Option.{option_or, option_map_or, option_and_then}
use Rattle.items.specs.First.{first_in}
use Rattle.class_model.specs.declared.constant.Const.{Const}
use Rattle.class_model.specs.declared.member.Member.{Member}
use Rattle.class_grammar.specs.Pool.{text_at}
use Rattle.class_grammar.specs.Text.{same_text}
use Rattle.link_rules.specs.declared.place.MemberPlace.{MemberPlace}
use Rattle.link_rules.specs.declared.choice.Choice.{Choice}
use Rattle.link_rules.specs.declared.choice.Choice.TheVariants.{Method, Abstract, Several}
use Rattle.link_rules.specs.Program.{Program, class_at, is_interface}
use Rattle.link_rules.specs.Hierarchy.{is_among, parent_of, superclasses}
use Rattle.link_rules.specs.Members.{Key, declared_method, has_method, is_private, is_static, is_abstract_method}
use Rattle.link_rules.specs.Resolution.{if_open, most_specific_bodies, object_method}

-- the name and the descriptor of a member
abbrev pub key_in : List Const → Member → Key
key_in pool m = record { name = unwrap_or (text_at pool m.name) []; descriptor = unwrap_or (text_at pool m.descriptor) [] }

-- The method of this key that the class declares, neither private nor static. It overrides each of the same key in a
-- superclass; packages aren't looked at (JVMS 5.4.5; own).
abbrev pub override : Program → Key → ℕ → Option MemberPlace
override p key c = option_and_then (if_open p) (declared_method p key c)

abbrev pub by_body : Program → MemberPlace → Choice
by_body p at = if has_method is_abstract_method p at then Abstract else Method at

abbrev pub sole_body : List MemberPlace → Choice
sole_body [] = Abstract
sole_body (at ∷ []) = Method at
sole_body (at ∷ other ∷ rest) = Several

-- the one maximally specific method of the superinterfaces that isn't abstract
abbrev pub interface_choice : Program → ℕ → Key → Choice
interface_choice p c key = sole_body (most_specific_bodies p c key)

-- what is selected by a key: the first override, going up from the class; else what its superinterfaces give
abbrev pub select_by_key : Program → ℕ → Key → Choice
select_by_key p c key = option_map_or (by_body p) (first_in (override p key) (superclasses p c)) (interface_choice p c key)

-- what is selected of a method of a file with this pool
abbrev pub select_in : Program → ℕ → MemberPlace → List Const → Member → Choice
select_in p c at pool m = if is_private m then by_body p at else select_by_key p c (key_in pool m)

-- The method that invokevirtual or invokeinterface of the method at a place runs on an object of class c (JVMS 5.4.6): the method
-- itself where it is private, else what is selected by its key.
abbrev pub select : Program → ℕ → MemberPlace → Choice
select p c at =
    class_at (λ f. option_map_or (select_in p c at f.pool) (slice_get f.methods at.index) Abstract) Abstract p at.class

-- ---- invokespecial (JVMS 6.5)

-- whether the class named is above the class c
abbrev pub is_superclass : Program → ℕ → ℕ → Bool
is_superclass p c named = is_among (drop 1 (superclasses p c)) named

-- The class in which the search begins: that above the class c whose code it is, where the constant names a class above c and no
-- constructor; else the class named. ACC_SUPER counts as set (JVMS 4.1).
abbrev pub special_start : Program → ℕ → ℕ → Key → ℕ
special_start p c named key =
    if not (same_text key.name (codes "<init>")) && is_superclass p c named then unwrap_or (parent_of p c) named else named

-- the method of instances of this key that the class declares
abbrev pub instance_method : Program → Key → ℕ → Option MemberPlace
instance_method p key c =
    option_and_then (λ at. if has_method is_static p at then None else Some at) (declared_method p key c)

-- the method of instances of this key that is declared from a class on: in it or above it; of an interface in it, or else in Object
abbrev pub special_declared : Program → Key → ℕ → Option MemberPlace
special_declared p key start =
    if is_interface p start
    then option_or (instance_method p key start) (object_method p key)
    else first_in (instance_method p key) (superclasses p start)

-- what is selected from a class on: what is declared, else what the superinterfaces give
abbrev pub special_from : Program → Key → ℕ → Choice
special_from p key start = option_map_or (by_body p) (special_declared p key start) (interface_choice p start key)

-- what invokespecial in the code of class c selects, where its constant names this class and a method of this key
abbrev pub select_special : Program → ℕ → ℕ → Key → Choice
select_special p c named key = special_from p key (special_start p c named key)

-- A program: its classes in order, the built-in ones first. A class is known by its index in this list.
use Rattle.std.specs.Prelude.{ℕ, Bool, false, not, List, [], ◌++◌, length, Option, codes, unwrap_or, slice_get, position, bit_and, nat_lt, nat_le, ◌==◌, ◌&&◌}
use Rattle.std.specs.Option.{option_map_or}
use Rattle.class_model.specs.declared.access_flags.TheConstants.{ACC_FINAL, ACC_INTERFACE, ACC_ABSTRACT, ACC_PUBLIC}
use Rattle.class_model.specs.declared.class_file.ClassFile.{ClassFile}
use Rattle.class_grammar.specs.Text.{same_text}
use Rattle.class_grammar.specs.Pool.{class_name_at}
use Rattle.class_grammar.specs.Names.{begins_with}

pub record Program : Type 0 where
  pub classes : List ClassFile
  -- how many of them are built in
  pub built_in : ℕ

-- the program that these built-in classes and these files are
abbrev pub program : List ClassFile → List ClassFile → Program
program built_in files = record { classes = built_in ++ files; built_in = length built_in }

-- ---- names of classes

-- the name of a class, as its file has it
abbrev pub own_name : ClassFile → List ℕ
own_name f = unwrap_or (class_name_at f.pool f.own) []

-- the name of its superclass, which Object alone lacks (JVMS 4.1)
abbrev pub parent_name : ClassFile → Option (List ℕ)
parent_name f = class_name_at f.pool f.parent

-- the name of an array class, which is its descriptor (JVMS 4.4.1)
abbrev pub is_array_name : List ℕ → Bool
is_array_name name = begins_with (codes "[") name

-- ---- classes of the program

-- the class of this name, the first if there are several
abbrev pub class_named : Program → List ℕ → Option ℕ
class_named p name = position (λ f. same_text (own_name f) name) p.classes

-- what the function says of a class, or this where there is no such class
abbrev pub class_at : {A : Type 0} → (ClassFile → A) → A → Program → ℕ → A
class_at of otherwise p c = option_map_or of (slice_get p.classes c) otherwise

abbrev pub has_flag : ℕ → ℕ → Bool
has_flag flag flags = bit_and flags flag == flag

abbrev pub is_interface : Program → ℕ → Bool
is_interface p c = class_at (λ f. has_flag ACC_INTERFACE f.flags) false p c

abbrev pub is_abstract : Program → ℕ → Bool
is_abstract p c = class_at (λ f. has_flag ACC_ABSTRACT f.flags) false p c

abbrev pub is_final : Program → ℕ → Bool
is_final p c = class_at (λ f. has_flag ACC_FINAL f.flags) false p c

-- whether the class comes from a file
abbrev pub is_from_file : Program → ℕ → Bool
is_from_file p c = nat_le p.built_in c

-- A built-in class that isn't public serves the other built-in classes alone: no class of a file may name it.
abbrev pub is_internal : Program → ℕ → Bool
is_internal p c = nat_lt c p.built_in && class_at (λ f. not (has_flag ACC_PUBLIC f.flags)) false p c

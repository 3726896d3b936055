-- Which class files are accepted as a program, after the built-in classes: they link (JVMS 5.3, 5.4), and the world that they are is
-- well typed (JVMS 4.10.1).
use Rattle.std.specs.Prelude.{◌≡◌, ℕ, ◌-◌, List, [], ◌∷◌, ◌++◌, Some, length, nat_lt, slice_get, unwrap_or, if◌then◌else◌}
use Rattle.std.specs.Option.{option_map_or}
use Rattle.class_model.specs.declared.member.Member.{Member}
use Rattle.class_model.specs.declared.class_file.ClassFile.{ClassFile}
use Rattle.class_grammar.specs.Pool.{text_at}
use Rattle.lib_table.specs.Library.{library}
use Rattle.link_rules.specs.declared.why.LinkWhy.{LinkWhy}
use Rattle.link_rules.specs.Program.{Program, program, own_name, class_at}
use Rattle.link_rules.specs.Faults.{Links, link_fault}
use Rattle.link_model.specs.Worlds.{world_of}
use Rattle.verify_types.specs.declared.why.VerifyWhy.{VerifyWhy}
use Rattle.verify_types.specs.declared.fault.VerifyFault.{VerifyFault}
use Rattle.verify_types.specs.Faults.{IsWellTyped, first_fault}

-- the built-in classes
unfoldable pub built_in : List ClassFile
built_in = library

-- the program that class files are
abbrev pub program_of : List ClassFile → Program
program_of classes = program built_in classes

-- The first thing that is wrong with them as a program is this, in the class of this name.
abbrev pub IsLinkFault : List ClassFile → List ℕ → LinkWhy → Type 0
IsLinkFault classes class reason = link_fault (program_of classes) ≡ Some (record { class = class; why = reason })

-- ---- the names of a class and of a method

-- the name of the class with this number
abbrev pub class_text : Program → ℕ → List ℕ
class_text p class = class_at own_name [] p class

-- the name of a member, and after it its descriptor
abbrev pub member_text : ClassFile → Member → List ℕ
member_text f m = unwrap_or (text_at f.pool m.name) [] ++ unwrap_or (text_at f.pool m.descriptor) []

-- the same of the method with this number, counted over the classes in their order
abbrev pub method_text : List ClassFile → ℕ → List ℕ
method_text [] n = []
method_text (f ∷ classes) n =
    if nat_lt n (length f.methods) then option_map_or (member_text f) (slice_get f.methods n) []
    else method_text classes (n - length f.methods)

-- ---- typing

-- The first place where a program isn't well typed is this, in the class and the method of these names.
pub record IsTypingFault (p : Program) (class method : List ℕ) (pc : ℕ) (reason : VerifyWhy) : Type 0 where
  pub fault : VerifyFault
  pub first : first_fault (world_of p) ≡ Some fault
  pub class_is : class ≡ class_text p fault.class
  pub method_is : method ≡ method_text p.classes fault.method
  pub pc_is : pc ≡ fault.pc
  pub reason_is : reason ≡ fault.why

-- They link, and this is where they aren't well typed first.
abbrev pub IsVerifyFault : List ClassFile → List ℕ → List ℕ → ℕ → VerifyWhy → Type 0
IsVerifyFault classes class method pc reason =
    Links (program_of classes) × IsTypingFault (program_of classes) class method pc reason

pub record AreAccepted (classes : List ClassFile) : Type 0 where
  pub links : Links (program_of classes)
  pub typed : IsWellTyped (world_of (program_of classes))

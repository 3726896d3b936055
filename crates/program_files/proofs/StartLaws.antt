-- The start of a program: its main, by a name and by class files that are equal to those that were looked at.
use Rattle.std.proofs.Common.{◌≡◌, ℕ, Bool, true, false, List, Option, Some, None, refl, sym, ap, subst, ◌∙◌}
use Rattle.std.specs.Prelude.{IfSome, is_some}
use Rattle.class_model.specs.declared.class_file.ClassFile.{ClassFile}
use Rattle.link_rules.specs.Program.{Program}
use Rattle.link_model.specs.World.{World}
use Rattle.link_model.specs.Worlds.{world_of}
use Rattle.link_model.specs.MainMethod.{main_of}
use Rattle.step_soundness.specs.OpeningLaws.{IsMain, MainIsFound}
use Rattle.program_files.specs.declared.errors.StartError.{StartError}
use Rattle.program_files.specs.declared.errors.StartError.TheVariants as start
use Rattle.program_files.specs.Linking.{program_of}
use Rattle.program_files.specs.LinkCauses.{NotStarted}
use Rattle.program_files.specs.Programs.{IsStarted, has_main}

-- what is found is a main method
pub main_is : (w : World) (name : List ℕ) (found : Option ℕ) → MainIsFound → found ≡ main_of w name → IfSome found (IsMain w)
main_is w name None law is = tt
main_is w name (Some n) law is = law w name n (sym is)

-- what was found is the main of the files
pub main_by : (name other : List ℕ) (p : Program) (classes : List ClassFile) (found : Option ℕ) → name ≡ other → p ≡ program_of classes → found ≡ main_of (world_of p) name
    → main_of (world_of (program_of classes)) other ≡ found
main_by name other p classes found names same is = sym (is ∙ ap (λ q. main_of (world_of q) name) same ∙ ap (main_of (world_of (program_of classes))) names)

pub started_is : (name other : List ℕ) (p : Program) (classes : List ClassFile) (found : Option ℕ) (main : ℕ) → name ≡ other → p ≡ program_of classes → found ≡ main_of (world_of p) name → found ≡ Some main
    → IsStarted other classes main
started_is name other p classes found main names same is some = main_by name other p classes found names same is ∙ some

-- no main was found
pub no_main_is : (name other : List ℕ) (p : Program) (classes : List ClassFile) (found : Option ℕ) → name ≡ other → p ≡ program_of classes → found ≡ main_of (world_of p) name → found ≡ None → has_main other classes ≡ false
no_main_is name other p classes found names same is none = ap is_some (main_by name other p classes found names same is ∙ none)

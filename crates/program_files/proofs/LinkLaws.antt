-- From what linking and typing say of a program to what they say of class files.
use Rattle.std.proofs.Common.{◌≡◌, ℕ, List, drop, Some, Result, Ok, Err, refl, ap, subst, ◌∙◌}
use Rattle.std.specs.Prelude.{All, IfOk, IfErr}
use Rattle.class_model.specs.declared.class_file.ClassFile.{ClassFile}
use Rattle.class_world.specs.declared.error.LinkError.{LinkError}
use Rattle.class_world.specs.declared.error.LinkError.TheVariants.{Fault, NoMemory}
use Rattle.link_rules.specs.declared.why.LinkWhy.{LinkWhy}
use Rattle.link_rules.specs.Program.{Program, program}
use Rattle.link_rules.specs.Faults.{Links, link_fault}
use Rattle.link_model.specs.World.{World}
use Rattle.link_model.specs.Worlds.{world_of}
use Rattle.verify_types.specs.Faults.{IsWellTyped}
use Rattle.lib_table.specs.Spelled.{IsSpelled}
use Rattle.link_soundness.specs.Library.{HasLibrary}
use Rattle.program_files.specs.declared.errors.AcceptError.{AcceptError}
use Rattle.program_files.specs.declared.errors.AcceptError.TheVariants as accept
use Rattle.program_files.specs.Errors.{unlinked}
use Rattle.program_files.specs.Linking.{built_in, program_of, AreAccepted}
use Rattle.program_files.specs.LinkCauses.{NotAccepted, NotTyped}

-- the program that was linked is that of the files
pub program_is : (library classes : List ClassFile) (p : Program) → library ≡ built_in → p ≡ program library classes → p ≡ program_of classes
program_is library classes p same found = found ∙ ap (λ (l : List ClassFile). program l classes) same

-- what was typed, of the files
pub accepted_is : (classes : List ClassFile) (p : Program) (r : Result World AcceptError) → p ≡ program_of classes → Links p → IfOk r (λ w. w ≡ world_of p) → IfOk r IsWellTyped → IfOk r (λ w. AreAccepted classes)
accepted_is classes p (Ok w) same links found typed =
    record { links = subst Links same links; typed = subst IsWellTyped (found ∙ ap world_of same) typed }
accepted_is classes p (Err error) same links found typed = tt

-- the world that was typed is that of the files
pub world_is : (classes : List ClassFile) (p : Program) (r : Result World AcceptError) → p ≡ program_of classes → IfOk r (λ w. w ≡ world_of p) → IfOk r (λ w. w ≡ world_of (program_of classes))
world_is classes p (Ok w) same found = found ∙ ap world_of same
world_is classes p (Err error) same found = tt

pub program_in : (classes : List ClassFile) (p : Program) (r : Result World AcceptError) → p ≡ program_of classes → IfOk r (λ w. w ≡ world_of p) → IfOk r (λ w. w.program ≡ program_of classes)
program_in classes p (Ok w) same found = ap (λ (v : World). v.program) found ∙ same
program_in classes p (Err error) same found = tt

-- it has the built-in classes
pub has_library : (classes : List ClassFile) (r : Result World AcceptError) → All IsSpelled classes → IfOk r (λ w. w.program ≡ program_of classes)
    → IfOk r (λ w. HasLibrary w.program)
unfolding built_in
has_library classes (Ok w) spelled found = record { files = classes; is = found; spelled = spelled }
has_library classes (Err error) spelled found = tt

-- a program that is refused, of the files
pub not_typed : (classes : List ClassFile) (p : Program) (r : Result World AcceptError) → p ≡ program_of classes → Links p → IfErr r (NotTyped p) → IfErr r (NotAccepted classes)
not_typed classes p (Ok w) same links refused = tt
not_typed classes p (Err accept.NoMemory) same links refused = tt
not_typed classes p (Err (accept.LinkFault class why)) same links refused = absurd refused
not_typed classes p (Err (accept.VerifyFault class method pc why)) same links refused =
    (subst Links same links, subst (λ (q : Program). NotTyped q (accept.VerifyFault class method pc why)) same refused)

pub not_linked : (library classes : List ClassFile) (error : LinkError) → library ≡ built_in
    → ((class : List ℕ) (why : LinkWhy) → error ≡ Fault class why → link_fault (program library classes) ≡ Some (record { class = class; why = why })) → NotAccepted classes (unlinked error)
not_linked library classes NoMemory same bad = tt
not_linked library classes (Fault class why) same bad =
    subst (λ (l : List ClassFile). link_fault (program l classes) ≡ Some (record { class = class; why = why })) same (bad class why refl)

-- Why class files were not accepted, or why their program was not started, or that memory ran out.
use Rattle.std.specs.Prelude.{◌≡◌, ℕ, List, false}
use Rattle.class_model.specs.declared.class_file.ClassFile.{ClassFile}
use Rattle.link_rules.specs.Program.{Program}
use Rattle.program_files.specs.declared.errors.AcceptError.{AcceptError}
use Rattle.program_files.specs.declared.errors.AcceptError.TheVariants as accept
use Rattle.program_files.specs.declared.errors.StartError.{StartError}
use Rattle.program_files.specs.declared.errors.StartError.TheVariants as start
use Rattle.program_files.specs.Linking.{IsLinkFault, IsTypingFault, IsVerifyFault}
use Rattle.program_files.specs.Programs.{has_main}

abbrev pub NotAccepted : List ClassFile → AcceptError → Type 0
NotAccepted classes accept.NoMemory = Unit {0}
NotAccepted classes (accept.LinkFault class reason) = IsLinkFault classes class reason
NotAccepted classes (accept.VerifyFault class method pc reason) = IsVerifyFault classes class method pc reason

-- a program that links, and isn't accepted
abbrev pub NotTyped : Program → AcceptError → Type 0
NotTyped p accept.NoMemory = Unit {0}
NotTyped p (accept.LinkFault class reason) = ⊥
NotTyped p (accept.VerifyFault class method pc reason) = IsTypingFault p class method pc reason

abbrev pub NotStarted : List ℕ → List ClassFile → StartError → Type 0
NotStarted name classes start.NoMemory = Unit {0}
NotStarted name classes start.NoMain = has_main name classes ≡ false

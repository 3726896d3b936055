-- The answers to the errors of linking and typing, and of the start.
use Rattle.class_world.specs.declared.error.LinkError.{LinkError}
use Rattle.class_world.specs.declared.error.LinkError.TheVariants as link
use Rattle.program_files.specs.declared.errors.AcceptError.{AcceptError}
use Rattle.program_files.specs.declared.errors.AcceptError.TheVariants as accept
use Rattle.program_files.specs.declared.errors.StartError.{StartError}
use Rattle.program_files.specs.declared.errors.StartError.TheVariants as start
use Rattle.command_line.specs.declared.answer.Why.{Why}
use Rattle.command_line.specs.declared.answer.Why.TheVariants.{NoMain, LinkFault, VerifyFault, NoMemory}
use Rattle.link_rules.specs.Program.{Program}
use Rattle.verify_types.specs.declared.fault.VerifyFault as faults
use Rattle.program_files.specs.Linking.{class_text, method_text}

-- what an error of linking says of files that are not accepted
abbrev pub unlinked : LinkError → AcceptError
unlinked (link.Fault class why) = accept.LinkFault class why
unlinked link.NoMemory = accept.NoMemory

-- a fault of typing, by the names of its class and its method
abbrev pub verify_fault : Program → faults.VerifyFault → AcceptError
verify_fault p f = accept.VerifyFault (class_text p f.class) (method_text p.classes f.method) f.pc f.why

abbrev pub accept_answer : AcceptError → Why
accept_answer (accept.LinkFault class why) = LinkFault class why
accept_answer (accept.VerifyFault class method pc why) = VerifyFault class method pc why
accept_answer accept.NoMemory = NoMemory

abbrev pub start_answer : StartError → Why
start_answer start.NoMain = NoMain
start_answer start.NoMemory = NoMemory

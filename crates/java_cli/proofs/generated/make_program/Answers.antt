use Rattle.std.proofs.Common.{rules, string_bytes, ◌≡◌, ℕ, List, refl, ap, subst, ◌∙◌, codes}
use Rattle.class_model.specs.declared.class_file.ClassFile.{ClassFile}
use Rattle.link_model.specs.World.{World}
use Rattle.link_rules.specs.Program.{Program}
use Rattle.step_soundness.specs.OpeningLaws.{IsMain}
use Rattle.program_files.specs.Errors.{accept_answer, start_answer}
use Rattle.program_files.specs.Linking.{AreAccepted}
use Rattle.program_files.specs.MainClass.{class_named}
use Rattle.program_files.specs.Programs.{IsStarted, world_of_files}
use Rattle.gen_load.specs.Program.{program}
use Rattle.java_cli.specs.Generated.{IsGenRefusal, main_name}
use Rattle.java_cli.proofs.AnswerLaws.{answer_is}
use Rattle.java_cli.proofs.GenLaws.{accept_refused, has_made, start_refused}
use Rattle.java_cli.proofs.generated.make_program.Goals as goal

-- the program of a world
abbrev program_in_world : World → Program
program_in_world w = w.program

pub returns-clause-made : goal.returns-clause-made
returns-clause-made c =
    let classes = c.in_ok-classes.classes.items in
    has_made c.args.count classes (record { checked = c.in_ok-checked.checked; main = c.in_ok-main.main }) c.in_ok-classes.ensures.exact c.in_ok-checked.ensures.accepted
    (c.in_ok-main.ensures.started classes (ap program_in_world c.world.ensures.world ∙ c.in_ok-checked.ensures.program)) c.in_ok-checked.ensures.world c.in_ok-checked.ensures.library
    (subst (λ (w : World). IsMain w c.in_ok-main.main) c.world.ensures.world c.in_ok-main.ensures.main)

pub returns-in_err-checked-clause-refusal : goal.returns-in_err-checked-clause-refusal
returns-in_err-checked-clause-refusal c =
    answer_is c.from_residual-in_err-checked.result (accept_answer c.in_err-checked.field-0.0) (IsGenRefusal c.args.count) c.from_residual-in_err-checked.ensures.1
    (accept_refused c.args.count c.in_ok-classes.classes.items c.in_err-checked.field-0.0 c.in_ok-classes.ensures.exact c.in_err-checked.ensures.refused)

pub returns-in_err-main-clause-refusal : goal.returns-in_err-main-clause-refusal
returns-in_err-main-clause-refusal c =
    let classes = c.in_ok-classes.classes.items in
    answer_is c.from_residual-in_err-main.result (start_answer c.in_err-main.field-0.0) (IsGenRefusal c.args.count) c.from_residual-in_err-main.ensures.1
    (start_refused c.args.count classes c.in_err-main.field-0.0 c.in_ok-classes.ensures.exact c.in_ok-checked.ensures.accepted
    (c.in_err-main.ensures.refused classes (ap program_in_world c.world.ensures.world ∙ c.in_ok-checked.ensures.program)))

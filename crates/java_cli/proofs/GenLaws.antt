-- What the call answers to the command of the generated program.
use Rattle.std.proofs.Common.{◌≡◌, ◌⊎◌, inl, inr, ℕ, Bool, List, Option, Some, None, Result, Ok, Err, refl, sym, ap, subst, ◌∙◌}
use Rattle.class_model.specs.declared.class_file.ClassFile.{ClassFile}
use Rattle.link_rules.specs.Faults.{link_fault}
use Rattle.ref_model.specs.Setting.{Setting}
use Rattle.arguments.specs.Commands as commands
use Rattle.arguments.specs.Commands.{Command, Gen}
use Rattle.arguments.specs.Meanings.{IsRefusal}
use Rattle.arguments.specs.declared.command.CommandError.{CommandError}
use Rattle.arguments.specs.declared.command.CommandError.TheVariants as errors
use Rattle.command_line.specs.declared.answer.Why.{Why}
use Rattle.command_line.specs.declared.answer.Why.TheVariants.{Ended, MainThrew, Exited, Stalled, Starved, Limit, LinkFault, VerifyFault, NoMain, SinkFault, Usage, NoMemory}
use Rattle.command_line.specs.declared.answer.Which.TheVariants.{Threads, Events}
use Rattle.answers.specs.declared.report.Report.{Report}
use Rattle.answers.specs.Reports.{IsSameOrNoMemory, refusal_of}
use Rattle.answers.specs.Taken.{OutFaults}
use Rattle.input_files.specs.StoreFaults.{StoreFaults}
use Rattle.program_files.specs.Linking.{program_of}
use Rattle.program_files.specs.declared.errors.AcceptError.{AcceptError}
use Rattle.program_files.specs.declared.errors.AcceptError.TheVariants as accept
use Rattle.program_files.specs.declared.errors.StartError.{StartError}
use Rattle.program_files.specs.declared.errors.StartError.TheVariants as start
use Rattle.program_files.specs.Errors.{accept_answer, start_answer}
use Rattle.program_files.specs.Linking.{AreAccepted}
use Rattle.program_files.specs.LinkCauses.{NotAccepted, NotStarted}
use Rattle.program_files.specs.Programs.{IsProgram, IsStarted, world_of_files}
use Rattle.step_soundness.specs.OpeningLaws.{IsMain}
use Rattle.link_soundness.specs.Library.{HasLibrary}
use Rattle.gen_load.specs.Program.{program}
use Rattle.ref_model.specs.declared.limits.Limits.{Limits}
use Rattle.java_cli.specs.Causes.{Due, answered, runs, IsOfRun, IsProgramRefusal}
use Rattle.java_cli.specs.Causes.{IsRefusal as IsRefusalAnswer}
use Rattle.java_cli.specs.Headline.{IfGen, IsRunOrNoMemory, OnRun, RanProgram}
use Rattle.java_cli.specs.Generated.{HasMade, IsDueOrNoMemory, IsGenDue, IsGenExact, IsGenRefusal, RanGenerated, main_name, most}
use Rattle.java_cli.specs.declared.runnable.Runnable.{Runnable}
use Rattle.java_cli.proofs.AnswerLaws.{one_program_due}
use Rattle.java_cli.proofs.DueLaws.{by_fault}
use Rattle.java_cli.proofs.RunLaws.{of_run_faults}

-- ---- what is due

-- something is
due_is : (count : ℕ) → (what : Due) × IsGenDue count what
due_is count = by_fault most main_name (program count) (link_fault (program_of (program count))) refl

-- memory ran out, or the program was run, or its classes are refused
abbrev Answered : ℕ → Why → Type 0
Answered count why = (why ≡ NoMemory) ⊎ IsOfRun why ⊎ IsProgramRefusal main_name (program count) why

answered_so : (count : ℕ) (why : Why) → IsGenExact count why → Answered count why
answered_so count why exact = by (due_is count)
  where
    by_why : (what : Due) → IsGenDue count what → (w : Why) → IsDueOrNoMemory what w → Answered count w
    by_why (answered a) due NoMemory is = inl refl
    by_why (answered a) due w is = inr (inr (subst (IsProgramRefusal main_name (program count)) is due))
    by_why (runs p) due NoMemory is = inl refl
    by_why (runs p) due w is = inr (inl is)

    by : (what : Due) × IsGenDue count what → Answered count why
    by x = by_why x.0 x.1 why (exact x.0 x.1)

pub gen_not_usage : (count : ℕ) (why : Why) → IsGenExact count why → why ≡ Usage → ⊥
gen_not_usage count why exact is = by (subst (Answered count) is (answered_so count why exact))
  where
    by : Answered count Usage → ⊥
    by (inl e) = absurd cc
    by (inr (inl of)) = of
    by (inr (inr refused)) = refused

pub gen_store : (count : ℕ) (why : Why) (n : ℕ) → IsGenExact count why → StoreFaults why n n
gen_store count why n exact = by (answered_so count why exact)
  where
    of_refusal : (w : Why) → IsProgramRefusal main_name (program count) w → StoreFaults w n n
    of_refusal NoMain r = refl
    of_refusal (LinkFault class reason) r = refl
    of_refusal (VerifyFault class method pc reason) r = refl
    of_refusal w r = absurd r

    by : Answered count why → StoreFaults why n n
    by (inl is) = subst (λ (w : Why). StoreFaults w n n) (sym is) tt
    by (inr (inl of)) = of_run_faults why n n of refl
    by (inr (inr refused)) = of_refusal why refused

-- ---- a refusal of the classes

pub accept_refused : (count : ℕ) (classes : List ClassFile) (error : AcceptError) → classes ≡ program count → NotAccepted classes error → IsGenRefusal count (accept_answer error)
accept_refused count classes accept.NoMemory same is = tt
accept_refused count classes (accept.LinkFault class reason) same is = subst (λ fs. NotAccepted fs (accept.LinkFault class reason)) same is
accept_refused count classes (accept.VerifyFault class method pc reason) same is = subst (λ fs. NotAccepted fs (accept.VerifyFault class method pc reason)) same is

pub start_refused : (count : ℕ) (classes : List ClassFile) (error : StartError) → classes ≡ program count → AreAccepted classes → NotStarted main_name classes error → IsGenRefusal count (start_answer error)
start_refused count classes start.NoMemory same accepted is = tt
start_refused count classes start.NoMain same accepted is = subst (λ fs. IsProgramRefusal main_name fs NoMain) same (accepted, is)

-- the program that was made
pub has_made : (count : ℕ) (classes : List ClassFile) (x : Runnable) → classes ≡ program count → AreAccepted classes → IsStarted main_name classes x.main
    → x.checked ≡ world_of_files classes → HasLibrary x.checked.program → IsMain x.checked x.main → HasMade count x
has_made count classes x same accepted started world library main = record {
  program = subst (λ (fs : List ClassFile). IsProgram most main_name fs (record { world = x.checked; main = x.main; limits = most })) same
      (record { accepted = accepted; main = started; world = world; limits = refl });
  library = library;
  has_main = main;
}

-- what is due is what was answered
same_due : (count : ℕ) (why : Why) (what : Due) → IsDueOrNoMemory (answered why) why → IsProgramRefusal main_name (program count) why → IsGenDue count what → IsDueOrNoMemory what why
same_due count why what holds is due =
    subst (λ (d : Due). IsDueOrNoMemory d why) (one_program_due most main_name (program count) (answered why) what is due) holds

refused_due : (count : ℕ) (why : Why) → IsGenRefusal count why → (what : Due) → IsGenDue count what → IsDueOrNoMemory what why
refused_due count NoMemory is what due = tt
refused_due count NoMain is what due = same_due count NoMain what refl is due
refused_due count (LinkFault class reason) is what due = same_due count (LinkFault class reason) what refl is due
refused_due count (VerifyFault class method pc reason) is what due = same_due count (VerifyFault class method pc reason) what refl is due
refused_due count why is what due = absurd is

pub gen_refusal : (count : ℕ) (why : Why) → IsGenRefusal count why → IsRefusalAnswer why
gen_refusal count NoMemory is = tt
gen_refusal count NoMain is = tt
gen_refusal count (LinkFault class reason) is = tt
gen_refusal count (VerifyFault class method pc reason) is = tt
gen_refusal count why is = absurd is

pub kept_gen : (count : ℕ) (before after : Why) → IsSameOrNoMemory before after → IsGenRefusal count before → IsGenExact count after
kept_gen count before after (inl e) is = λ what due. subst (IsDueOrNoMemory what) (sym e) (refused_due count before is what due)
kept_gen count before after (inr e) is = λ what due. subst (IsDueOrNoMemory what) (sym e.1) tt

-- ---- a run

of_run_due : (p : Setting) (why : Why) → IsOfRun why → IsDueOrNoMemory (runs p) why
of_run_due p Ended of = tt
of_run_due p MainThrew of = tt
of_run_due p (Exited status) of = tt
of_run_due p (Stalled threads) of = tt
of_run_due p (Starved threads) of = tt
of_run_due p (Limit Threads number) of = tt
of_run_due p (Limit Events number) of = tt
of_run_due p (SinkFault which written) of = tt
of_run_due p why of = absurd of

pub run_gen : (count : ℕ) (x : Runnable) (why : Why) → HasMade count x → IsRunOrNoMemory why → IsGenExact count why
run_gen count x why made (inl of) = λ what due.
    let p : Setting = record { world = x.checked; main = x.main; limits = most } in
    subst (λ (d : Due). IsDueOrNoMemory d why) (one_program_due most main_name (program count) (runs p) what made.program due) (of_run_due p why of)
run_gen count x why made (inr is) = λ what due. subst (IsDueOrNoMemory what) (sym is) tt

pub ran_generated : (c : Gen) (gives : ℕ → Bool) (before after : Option (List ℕ)) (Errs : List ℕ → Type 0) (r : Report) (x : Runnable) (limits : Limits) → HasMade c.count x → limits ≡ most
    → OnRun r.why ((p : Setting) → p.world ≡ x.checked → p.main ≡ x.main → p.limits ≡ limits → RanProgram p gives c.carriers before after Errs r)
    → OnRun r.why (RanGenerated c gives before after Errs r)
ran_generated c gives before after Errs r x limits made same ran = λ of. record {
  setting = record { world = x.checked; main = x.main; limits = most };
  given = made.program;
  ran = ran of (record { world = x.checked; main = x.main; limits = most }) refl refl (sym same);
}

-- ---- memory ran out before the command was known

pub refused_gen : (o : Option Command) (e : CommandError) (why : Why) (fact : Gen → Type 0) → IsRefusal o e → why ≡ refusal_of e → (why ≡ NoMemory → (c : Gen) → fact c) → IfGen o fact
refused_gen o (errors.Usage text) why fact unspelled is each = subst (λ (x : Option Command). IfGen x fact) (sym unspelled) tt
refused_gen o errors.NoMemory why fact unspelled is each = by o
  where
    by : (o : Option Command) → IfGen o fact
    by None = tt
    by (Some commands.help) = tt
    by (Some (commands.run c)) = tt
    by (Some (commands.asm file)) = tt
    by (Some (commands.list file)) = tt
    by (Some (commands.gen c)) = each is c

pub memory_generated : (why : Why) (fact : Type 0) → why ≡ NoMemory → OnRun why fact
memory_generated why fact is = λ of. absurd (subst IsOfRun is of)

pub memory_gen : (count : ℕ) (why : Why) → why ≡ NoMemory → IsGenExact count why
memory_gen count why is = λ what due. subst (IsDueOrNoMemory what) (sym is) tt

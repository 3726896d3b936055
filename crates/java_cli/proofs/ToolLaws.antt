-- What the call answers to the commands on one file, and to that of the generated program.
use Rattle.std.proofs.Common.{◌≡◌, inl, inr, ℕ, List, [], Option, Some, None, sym, ap, subst, ◌∙◌}
use Rattle.arguments.specs.Commands as commands
use Rattle.arguments.specs.Commands.{Command, Gen, Run}
use Rattle.arguments.specs.Meanings.{IsRefusal, command_meaning}
use Rattle.arguments.specs.declared.command.Command.{Command as CodeCommand}
use Rattle.arguments.specs.declared.command.CommandError.{CommandError}
use Rattle.arguments.specs.declared.command.CommandError.TheVariants as errors
use Rattle.jvm_edges.specs.Files.{Files}
use Rattle.command_line.specs.Answers.{line_of}
use Rattle.command_line.specs.Commands.{names_in}
use Rattle.command_line.specs.declared.answer.Which.TheVariants.{FileSize}
use Rattle.command_line.specs.declared.answer.Why.{Why}
use Rattle.command_line.specs.declared.answer.Why.TheVariants.{Missing, Limit, Usage, NoMemory}
use Rattle.answers.specs.declared.report.Report.{Report}
use Rattle.answers.specs.Reports.{IsOfText, refusal_of}
use Rattle.answers.specs.Taken.{TakesAnswer, TakesLine}
use Rattle.input_files.specs.Contents.{Contents}
use Rattle.input_files.specs.Limits.{most_bytes}
use Rattle.class_tools.specs.Due as tools
use Rattle.class_tools.specs.Exact as exact
use Rattle.class_tools.specs.Exact.{HasCause, IsCaused, IsExact}
use Rattle.java_cli.specs.Headline.{IfAsm, IfGen, IfHelp, IfList, IfRun, IsUsageExact}
use Rattle.java_cli.specs.Tools.{Converts}
use Rattle.java_cli.proofs.CommandLaws.{line_alone, spelled}

-- ---- the command that the words spell

-- The words spell the command that was read, and it is this one.
module _ {o : Option Command} {read one : CodeCommand} (spells : o ≡ Some (command_meaning read)) (is : read ≡ one) where
  pub spelled_by : o ≡ Some (command_meaning one)
  spelled_by = spells ∙ ap (λ (c : CodeCommand). Some (command_meaning c)) is

  pub run_by : (fact : Run → Type 0) → IfRun (Some (command_meaning one)) fact → IfRun o fact
  run_by fact holds = subst (λ (x : Option Command). IfRun x fact) (sym spelled_by) holds

  pub asm_by : (fact : List ℕ → Type 0) → IfAsm (Some (command_meaning one)) fact → IfAsm o fact
  asm_by fact holds = subst (λ (x : Option Command). IfAsm x fact) (sym spelled_by) holds

  pub list_by : (fact : List ℕ → Type 0) → IfList (Some (command_meaning one)) fact → IfList o fact
  list_by fact holds = subst (λ (x : Option Command). IfList x fact) (sym spelled_by) holds

  pub gen_by : (fact : Gen → Type 0) → IfGen (Some (command_meaning one)) fact → IfGen o fact
  gen_by fact holds = subst (λ (x : Option Command). IfGen x fact) (sym spelled_by) holds

  pub help_by : (fact : Type 0) → IfHelp (Some (command_meaning one)) fact → IfHelp o fact
  help_by fact holds = subst (λ (x : Option Command). IfHelp x fact) (sym spelled_by) holds

-- ---- Usage is no answer to them

usage_not_due : (of : List ℕ → tools.Due → Type 0) → ((bytes : List ℕ) → of bytes (tools.answered Usage) → ⊥) → (contents : Contents)
    → tools.IsDue of contents (tools.answered Usage) → ⊥
usage_not_due of none None due = no_missing due
  where
    no_missing : tools.answered Usage ≡ tools.answered (Missing 0) → ⊥
    no_missing e = absurd cc
usage_not_due of none (Some bytes) (inl large) = no_limit large.1
  where
    no_limit : tools.answered Usage ≡ tools.answered (Limit FileSize most_bytes) → ⊥
    no_limit e = absurd cc
usage_not_due of none (Some bytes) (inr small) = none bytes small.1

-- their answers, where `none` says that Usage is never due by the bytes
module _ {of : List ℕ → tools.Due → Type 0} {known : Option Files} {faulty : Type 0} {file : List ℕ} {why : Why} (x : IsExact of known faulty file why)
    (none : (bytes : List ℕ) → of bytes (tools.answered Usage) → ⊥) where
  not_usage : why ≡ Usage → ⊥
  not_usage is =
      let cause : HasCause of known file (tools.answered Usage) = subst (IsCaused of known faulty file) is x.cause in
      usage_not_due of none cause.contents cause.due

  pub tool_usage : {o : Option Command} {c : Command} → o ≡ Some c → IsUsageExact o why
  tool_usage {o} {c} is = spelled o c why is not_usage

  pub tool_line : {E : Type 0} {contents : E → Option (List ℕ)} {faults : E → ℕ} {old new : E} {o : Option Command} {c : Command} {written : ℕ} → o ≡ Some c → written ≡ 0
      → TakesLine contents faults old new (line_of (names_in (Some c)) why) [] 0 → TakesAnswer contents faults old new why (line_of (names_in o) why) written
  tool_line {E} {contents} {faults} {old} {new} {o} {c} {written} is unwritten line =
      line_alone contents faults old new o c why written is not_usage (subst (λ (n : ℕ). TakesLine contents faults old new (line_of (names_in (Some c)) why) [] n) (sym unwritten) line)

-- ---- memory ran out before the command was known

memory_converts : (of : List ℕ → tools.Due → Type 0) (known : Option Files) (faulty : Type 0) (file : List ℕ) (before after : Option (List ℕ)) (r : Report)
    → r.history.items ≡ [] → r.why ≡ NoMemory → Converts of known faulty file before after r
memory_converts of known faulty file before after r none is = record {
  history = none;
  exact = record {
    cause = subst (IsCaused of known faulty file) (sym is) tt;
    due = λ files what same due. subst (exact.IsDueOrFault what) (sym is) (anything what);
  };
  written = λ of_text. absurd (subst IsOfText is of_text);
}
  where
    anything : (what : tools.Due) → exact.IsDueOrFault what NoMemory
    anything (tools.writes text) = tt
    anything (tools.answered why) = tt

module _ (of : List ℕ → tools.Due → Type 0) (known : Option Files) (faulty : Type 0) (before after : Option (List ℕ)) (r : Report) (none : r.history.items ≡ []) where
  each_asm : (o : Option Command) → r.why ≡ NoMemory → IfAsm o (λ file. Converts of known faulty file before after r)
  each_asm None is = tt
  each_asm (Some commands.help) is = tt
  each_asm (Some (commands.run c)) is = tt
  each_asm (Some (commands.asm file)) is = memory_converts of known faulty file before after r none is
  each_asm (Some (commands.list file)) is = tt
  each_asm (Some (commands.gen c)) is = tt

  each_list : (o : Option Command) → r.why ≡ NoMemory → IfList o (λ file. Converts of known faulty file before after r)
  each_list None is = tt
  each_list (Some commands.help) is = tt
  each_list (Some (commands.run c)) is = tt
  each_list (Some (commands.asm file)) is = tt
  each_list (Some (commands.list file)) is = memory_converts of known faulty file before after r none is
  each_list (Some (commands.gen c)) is = tt

  pub refused_asm : (o : Option Command) (e : CommandError) → IsRefusal o e → r.why ≡ refusal_of e → IfAsm o (λ file. Converts of known faulty file before after r)
  refused_asm o (errors.Usage text) unspelled is = subst (λ (x : Option Command). IfAsm x (λ file. Converts of known faulty file before after r)) (sym unspelled) tt
  refused_asm o errors.NoMemory unspelled is = each_asm o is

  pub refused_list : (o : Option Command) (e : CommandError) → IsRefusal o e → r.why ≡ refusal_of e → IfList o (λ file. Converts of known faulty file before after r)
  refused_list o (errors.Usage text) unspelled is = subst (λ (x : Option Command). IfList x (λ file. Converts of known faulty file before after r)) (sym unspelled) tt
  refused_list o errors.NoMemory unspelled is = each_list o is

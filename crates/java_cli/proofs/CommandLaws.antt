-- What the call answers, by what its arguments spell.
use Rattle.std.proofs.Common.{◌≡◌, ◌⊎◌, inl, inr, ℕ, List, [], Option, Some, None, refl, sym, ap, subst, ◌∙◌}
use Rattle.std.proofs.lemmas.List.{append-nil}
use Rattle.arguments.specs.Commands as commands
use Rattle.arguments.specs.Commands.{Command, Run}
use Rattle.arguments.specs.Meanings.{IsRefusal}
use Rattle.arguments.specs.declared.command.CommandError.{CommandError}
use Rattle.arguments.specs.declared.command.CommandError.TheVariants as errors
use Rattle.jvm_edges.specs.Files as store
use Rattle.command_line.specs.Answers.{line_of}
use Rattle.command_line.specs.Commands.{Names, names_in, no_names}
use Rattle.command_line.specs.declared.answer.Why.{Why}
use Rattle.command_line.specs.declared.answer.SinkName.TheVariants.{Out}
use Rattle.command_line.specs.declared.answer.Why.TheVariants.{Ended, SinkFault, Usage, NoMemory}
use Rattle.input_files.specs.StoreFaults.{StoreFaults}
use Rattle.java_cli.specs.Causes.{IsCaused, IsExact, IsOfRun}
use Rattle.answers.specs.Taken.{IsMore, OutFaults, TakesAnswer, TakesLine}
use Rattle.answers.specs.Reports.{IsOfText, refusal_of}
use Rattle.java_cli.specs.Headline.{IfHelp, IfRun, IsUsageExact, OnRun}
use Rattle.java_cli.proofs.AnswerLaws.{memory_exact}

-- ---- a command

-- a command is spelled, and so the answer is not Usage
pub spelled : (o : Option Command) (c : Command) (why : Why) → o ≡ Some c → (why ≡ Usage → ⊥) → IsUsageExact o why
spelled o c why is not_usage = record {
  only = λ usage. absurd (not_usage usage);
  due = λ none. let bad : None ≡ Some c = sym none ∙ is in absurd cc;
}

-- an answer with its cause is not Usage
pub exact_not_usage : (known : Option store.Files) (faulty : Type 0) (c : Run) (why : Why) → IsExact known faulty c why → why ≡ Usage → ⊥
exact_not_usage known faulty c why exact is = subst (IsCaused known faulty c) is exact.cause

-- nothing but the line
pub line_alone : {E : Type 0} (contents : E → Option (List ℕ)) (faults : E → ℕ) (old new : E) (o : Option Command) (c : Command) (why : Why) (written : ℕ) → o ≡ Some c → (why ≡ Usage → ⊥)
    → TakesLine contents faults old new (line_of (names_in (Some c)) why) [] written → TakesAnswer contents faults old new why (line_of (names_in o) why) written
line_alone contents faults old new o c why written is not_usage line = record {
  more = [];
  is_more = is_more why not_usage;
  takes = subst (λ (l : List ℕ). TakesLine contents faults old new l [] written) (ap (λ (x : Option Command). line_of (names_in x) why) (sym is) ∙ sym (append-nil (line_of (names_in o) why))) line;
}
  where
    is_more : (why : Why) → (why ≡ Usage → ⊥) → IsMore why []
    is_more Usage other = absurd (other refl)
    is_more why other = refl

-- ---- no command

each_run : (o : Option Command) (fact : Run → Type 0) → ((c : Run) → fact c) → IfRun o fact
each_run None fact each = tt
each_run (Some commands.help) fact each = tt
each_run (Some (commands.asm file)) fact each = tt
each_run (Some (commands.list file)) fact each = tt
each_run (Some (commands.gen c)) fact each = tt
each_run (Some (commands.run c)) fact each = each c

not_of_run : (e : CommandError) → IsOfRun (refusal_of e) → ⊥
not_of_run (errors.Usage text) of = of
not_of_run errors.NoMemory of = of

pub refused_headline : (o : Option Command) (e : CommandError) (why : Why) (fact : Run → Type 0) → why ≡ refusal_of e → IfRun o (λ c. OnRun why (fact c))
refused_headline o e why fact is = each_run o (λ c. OnRun why (fact c)) (λ c of. absurd (not_of_run e (subst IsOfRun is of)))

pub refused_usage : (o : Option Command) (e : CommandError) (why : Why) → IsRefusal o e → why ≡ refusal_of e → IsUsageExact o why
refused_usage o (errors.Usage text) why none is = record { only = λ usage. none; due = λ same. inl is }
refused_usage o errors.NoMemory why none is = record { only = λ usage. let bad : Usage ≡ NoMemory = sym usage ∙ is in absurd cc; due = λ same. inr is }

pub refused_exact : (known : Option store.Files) (faulty : Type 0) (o : Option Command) (e : CommandError) (why : Why) → IsRefusal o e → why ≡ refusal_of e → IfRun o (λ c. IsExact known faulty c why)
refused_exact known faulty o (errors.Usage text) why none is = subst (λ (x : Option Command). IfRun x (λ c. IsExact known faulty c why)) (sym none) tt
refused_exact known faulty o errors.NoMemory why none is = each_run o (λ c. IsExact known faulty c why) (λ c. subst (λ (w : Why). IsExact known faulty c w) (sym is) (memory_exact known faulty c))

pub refused_store : (e : CommandError) (why : Why) (n : ℕ) → why ≡ refusal_of e → StoreFaults why n n
refused_store (errors.Usage text) why n is = subst (λ (w : Why). StoreFaults w n n) (sym is) refl
refused_store errors.NoMemory why n is = subst (λ (w : Why). StoreFaults w n n) (sym is) tt

pub refused_out : (e : CommandError) (why : Why) (n : ℕ) → why ≡ refusal_of e → OutFaults why n n
refused_out (errors.Usage text) why n is = subst (λ (w : Why). OutFaults w n n) (sym is) refl
refused_out errors.NoMemory why n is = subst (λ (w : Why). OutFaults w n n) (sym is) refl

module _ {E : Type 0} (contents : E → Option (List ℕ)) (faults : E → ℕ) (old new : E) where
  -- the line of such an answer names nothing
  no_name : (e : CommandError) (names : Names) → line_of no_names (refusal_of e) ≡ line_of names (refusal_of e)
  no_name (errors.Usage text) names = refl
  no_name errors.NoMemory names = refl

  pub refused_line : (o : Option Command) (e : CommandError) (why : Why) (written : ℕ) → why ≡ refusal_of e → written ≡ 0
      → TakesAnswer contents faults old new (refusal_of e) (line_of no_names (refusal_of e)) 0 → TakesAnswer contents faults old new why (line_of (names_in o) why) written
  refused_line o e why written is none line =
      subst (λ (n : ℕ). TakesAnswer contents faults old new why (line_of (names_in o) why) n) (sym none)
      (subst (λ (w : Why). TakesAnswer contents faults old new w (line_of (names_in o) w) 0) (sym is)
      (subst (λ (l : List ℕ). TakesAnswer contents faults old new (refusal_of e) l 0) (no_name e (names_in o)) line))

-- ---- a text that is shown

each_help : (o : Option Command) (fact : Type 0) → fact → IfHelp o fact
each_help None fact holds = tt
each_help (Some commands.help) fact holds = holds
each_help (Some (commands.run c)) fact holds = tt
each_help (Some (commands.asm file)) fact holds = tt
each_help (Some (commands.list file)) fact holds = tt
each_help (Some (commands.gen c)) fact holds = tt

pub refused_help : (o : Option Command) (e : CommandError) (why : Why) (fact : Type 0) → IsRefusal o e → why ≡ refusal_of e → IfHelp o ((why ≡ NoMemory) ⊎ fact)
refused_help o (errors.Usage text) why fact none is = subst (λ (x : Option Command). IfHelp x ((why ≡ NoMemory) ⊎ fact)) (sym none) tt
refused_help o errors.NoMemory why fact none is = each_help o ((why ≡ NoMemory) ⊎ fact) (inl is)

-- such an answer may be one to a run too
pub help_of_run : (why : Why) → IsOfText why → IsOfRun why
help_of_run Ended of = tt
help_of_run (SinkFault Out written) of = tt
help_of_run why of = absurd of

pub help_not_usage : (why : Why) → IsOfText why → why ≡ Usage → ⊥
help_not_usage why of is = subst IsOfText is of

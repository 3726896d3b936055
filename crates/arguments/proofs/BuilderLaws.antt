-- What clap's builder makes of a command.
use Rattle.std.proofs.Common.{◌≡◌, false, Result, Ok, Err, IfOk, ap, ap₂, ◌∙◌, ◌||◌}
use Rattle.clap.specs.Built.{AddsArg, AddsSubcommand}
use Rattle.clap.specs.Simple.{App, app_of, with_rule, with_subcommand}
use Rattle.clap.specs.Walk.{Rule, rule_of}
use Rattle.clap.specs.declared.builder.arg.Arg.{Arg}
use Rattle.clap.specs.declared.builder.command.Command.{Command}
use Rattle.arguments.specs.CommandLine.{IsReadAs}

-- the command with one more argument
pub with_arg : (old new : Command) (x : Arg) (a : App) (r : Rule) → AddsArg old x new → rule_of x ≡ r → x.global ≡ false → IsReadAs old a → IsReadAs new (with_rule a r)
with_arg old new x a r added rule local was = record {
  app = added.shape local ∙ ap₂ with_rule was.app rule;
  local = added.globals ∙ ap₂ (λ p q. p || q) was.local local;
}

-- and with the last one
pub with_last : {E : Type 0} (old : Command) (x : Arg) (a : App) (r : Rule) (result : Result Command E) → IfOk result (AddsArg old x) → rule_of x ≡ r → x.global ≡ false → IsReadAs old a
    → IfOk result (λ c. IsReadAs c (with_rule a r))
with_last old x a r (Ok c) added rule local was = with_arg old c x a r added rule local was
with_last old x a r (Err e) added rule local was = tt

-- the command with one more command below it
pub with_command : (old sub new : Command) (a b : App) → AddsSubcommand old sub new → app_of old ≡ a → IsReadAs sub b → app_of new ≡ with_subcommand a b.top
with_command old sub new a b added was read = added.shape read.local ∙ ap₂ with_subcommand was (ap (λ x. x.top) read.app)

-- and with the last one
pub with_last_command : {E : Type 0} (old sub : Command) (a b : App) (result : Result Command E) → IfOk result (AddsSubcommand old sub) → app_of old ≡ a → IsReadAs sub b
    → IfOk result (λ c. app_of c ≡ with_subcommand a b.top)
with_last_command old sub a b (Ok c) added was read = with_command old sub c a b added was read
with_last_command old sub a b (Err e) added was read = tt

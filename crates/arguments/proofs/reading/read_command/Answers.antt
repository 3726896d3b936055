use Rattle.std.proofs.Common.{sym, subst, ◌∙◌}
use Rattle.std.proofs.lemmas.Result.{IfErr-weaker, IfOk-weaker}
use Rattle.arguments.specs.Commands.{texts}
use Rattle.arguments.specs.Meanings.{IsRefusal}
use Rattle.arguments.proofs.ReadingLaws.{no_arguments, refused, spelled_by, when_ok, when_err}
use Rattle.arguments.proofs.reading.read_command.Goals as goal

pub returns-in-Ok-clause-command : goal.returns-in-Ok-clause-command
returns-in-Ok-clause-command c =
    let is = spelled_by _ (texts c.args.args.now) c.in-Ok.matches c.in_ok-command_line.ensures c.in-Ok.ensures.kinds c.in-Ok.ensures.matches in
    IfOk-weaker c.read_matches.result _ _ (λ x h. sym is ∙ h) c.read_matches.ensures.command

pub returns-in-Ok-clause-refusal : goal.returns-in-Ok-clause-refusal
returns-in-Ok-clause-refusal c =
    let is = spelled_by _ (texts c.args.args.now) c.in-Ok.matches c.in_ok-command_line.ensures c.in-Ok.ensures.kinds c.in-Ok.ensures.matches in
    IfErr-weaker c.read_matches.result _ _ (λ e h. subst (λ o. IsRefusal o e) is h) c.read_matches.ensures.refusal

pub returns-in-Err-clause-command : goal.returns-in-Err-clause-command
returns-in-Err-clause-command c =
    when_ok _ c.without_matches.result
    (refused _ (texts c.args.args.now) c.in-Err.error c.without_matches.result c.in_ok-command_line.ensures c.in-Err.ensures.kinds c.without_matches.ensures)

pub returns-in-Err-clause-refusal : goal.returns-in-Err-clause-refusal
returns-in-Err-clause-refusal c =
    when_err _ c.without_matches.result
    (refused _ (texts c.args.args.now) c.in-Err.error c.without_matches.result c.in_ok-command_line.ensures c.in-Err.ensures.kinds c.without_matches.ensures)

pub returns-then-is_empty-clause-refusal : goal.returns-then-is_empty-clause-refusal
returns-then-is_empty-clause-refusal c = no_arguments c.args.args.now (sym c.is_empty.ensures ∙ c.if-is_empty.true)

use Rattle.arguments.proofs.BuilderLaws.{with_command, with_last_command}
use Rattle.arguments.proofs.clap_command.command_line.Goals as goal

pub returns : goal.returns
returns c =
    let first = with_command _ _ _ _ _ c.in_ok-subcommand.ensures c.program.ensures c.in_ok-run.ensures in
    let second = with_command _ _ _ _ _ c.in_ok-subcommand-2.ensures first c.in_ok-asm.ensures in
    let third = with_command _ _ _ _ _ c.in_ok-subcommand-3.ensures second c.in_ok-list.ensures in
    with_last_command _ _ _ _ c.subcommand-4.result c.subcommand-4.ensures third c.in_ok-generated.ensures

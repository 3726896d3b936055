use Rattle.std.proofs.Common.{codes, ap, ◌∙◌}
use Rattle.clap.specs.Simple.{app_of_fields, new_app}
use Rattle.arguments.specs.CommandLine.{IsReadAs}
use Rattle.arguments.proofs.BuilderLaws.{with_arg, with_last}
use Rattle.arguments.proofs.clap_command.run_command.Goals as goal

pub returns : goal.returns
returns c =
    let named : IsReadAs c.after_long_help.result (new_app (codes "run")) = record {
      app = ap app_of_fields c.after_long_help.ensures ∙ ap app_of_fields c.about.ensures ∙ c.new.ensures.app;
      local = ap (λ f. f.has_globals) c.after_long_help.ensures ∙ ap (λ f. f.has_globals) c.about.ensures ∙ c.new.ensures.local;
    } in
    let first = with_arg _ c.in_ok-arg.field-0 _ _ _ c.in_ok-arg.ensures c.carriers.ensures.rule c.carriers.ensures.local named in
    let second = with_arg _ c.in_ok-arg-2.field-0 _ _ _ c.in_ok-arg-2.ensures c.events.ensures.rule c.events.ensures.local first in
    let third = with_arg _ c.in_ok-arg-3.field-0 _ _ _ c.in_ok-arg-3.ensures c.trace.ensures.rule c.trace.ensures.local second in
    let fourth = with_arg _ c.in_ok-arg-4.field-0 _ _ _ c.in_ok-arg-4.ensures c.main_class.ensures.rule c.main_class.ensures.local third in
    with_last _ _ _ _ c.arg-5.result c.arg-5.ensures c.files.ensures.rule c.files.ensures.local fourth

use Rattle.std.proofs.Common.{◌≡◌, take, ap, sym, ◌∙◌}
use Rattle.std.proofs.lemmas.Grind.{common_steps}
use Rattle.std.specs.Option.{option_or}
use Rattle.std.specs.Bool.{if◌then◌else◌}
use Rattle.std.proofs.Common.{Some, None, arith}
use Rattle.class_grammar.specs.Text.{same_text}
use Rattle.link_rules.specs.Program.{own_name}
use Rattle.link_resolution.specs.Names.{first_named}
use Rattle.link_resolution.specs.TextNumbers.{number_at}
use Rattle.link_resolution.proofs.NameLaws.{one_more}
use Rattle.link_resolution.proofs.classes.by_name.Goals as goal

pub loop-index-preserved : goal.loop-index-preserved
loop-index-preserved c = λ name.
    c.in_ok-add.ensures.ok name
    ∙ ap (λ own. option_or (number_at c.loop-index.names name) (if same_text own name then Some c.loop-index.index else None)) c.own_name.ensures
    ∙ ap (λ o. option_or o (if same_text (own_name c.index-files-index.result) name then Some c.loop-index.index else None)) (c.loop-index.invariant name)
    ∙ sym (one_more c.args.files.now c.loop-index.index c.index-files-index.result name c.loop-index-test.true c.index-files-index.is)

pub returns : goal.returns
returns c = λ name.
    let all : take c.loop-index.index c.args.files.now ≡ c.args.files.now = grind (arith, common_steps) in
    c.loop-index.invariant name ∙ ap (λ fs. first_named fs name) all

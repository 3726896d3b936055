use Rattle.std.proofs.Common.{◌≡◌, [], ap, refl, ◌∙◌}
use Rattle.std.specs.Prelude.{unwrap_or}
use Rattle.std.proofs.lemmas.Result.{IfOk-weaker}
use Rattle.clap.specs.Matches.{found_of}
use Rattle.clap.proofs.WalkLemmas.{first_value-rows}
use Rattle.arguments.specs.Commands.{word_of}
use Rattle.clap.specs.Walk.{rows_of}
use Rattle.arguments.proofs.MatchLaws.{text_or}
use Rattle.arguments.proofs.reading.word.Goals as goal

pub returns : goal.returns
returns c =
    let found = found_of c.args.matches.now in
    let id = c.args.id.now in
    let is : c.unwrap_or.result.now ≡ word_of id (rows_of found) =
    ap (λ s. s.now) c.unwrap_or.ensures ∙ text_or c.get_str.result _ refl ∙ ap (λ o. unwrap_or o []) (c.get_str.ensures ∙ first_value-rows found id) in
    IfOk-weaker c.from_str.result _ _ (λ s h. h ∙ is) c.from_str.ensures.ok

use Rattle.std.proofs.Common.{◌≡◌, [], ap, refl, map, ◌∙◌}
use Rattle.std.specs.Prelude.{unwrap_or}
use Rattle.std.proofs.lemmas.Result.{IfOk-weaker}
use Rattle.clap.specs.Matches.{found_of}
use Rattle.clap.proofs.WalkLemmas.{raw_values-rows}
use Rattle.arguments.specs.Commands.{words_of}
use Rattle.clap.specs.Walk.{rows_of}
use Rattle.arguments.proofs.MatchLaws.{texts_or}
use Rattle.arguments.proofs.reading.words.Goals as goal

pub returns : goal.returns
returns c =
    let found = found_of c.args.matches.now in
    let id = c.args.id.now in
    let is : map (λ s. s.now) c.unwrap_or.result.now ≡ words_of id (rows_of found) =
    ap (λ s. map (λ w. w.now) s.now) c.unwrap_or.ensures ∙ texts_or c.get_strs.result _ refl ∙ ap (λ o. unwrap_or o []) (c.get_strs.ensures ∙ raw_values-rows found id) in
    IfOk-weaker c.copies.result _ _ (λ v h. h ∙ is) c.copies.ensures

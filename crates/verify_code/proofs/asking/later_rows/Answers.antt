use Rattle.std.proofs.Common.{Bool, slice_index_or, ap, sym, ◌∙◌}
use Rattle.std.specs.List.{list_all}
use Rattle.std.proofs.lemmas.List.Folds.{list_all-map}
use Rattle.verify_code.specs.declared.guards.Guard.{Guard}
use Rattle.verify_code.specs.Guards.{guard_in}
use Rattle.verify_code.specs.Handlers.{keeps_more}
use Rattle.verify_code.proofs.AskingLaws.{asks_earlier, behind}
use Rattle.verify_code.proofs.asking.later_rows.Goals as goal

pub returns : goal.returns
returns c env s =
    let gs = c.args.guards.now in
    let K : Guard → Bool = λ g. keeps_more env c.args.twice c.args.pc s (guard_in g) in
    list_all-map (keeps_more env c.args.twice c.args.pc s) guard_in c.split_at.result.1.now
    ∙ ap (list_all K) c.split_at.ensures.back
    ∙ behind K gs c.started.result c.started.ensures.within (λ k d low high. asks_earlier env c.args.twice c.args.pc c.args.at s (slice_index_or gs k d) c.requires.lower (c.started.ensures.point.0 k d low high))
    ∙ sym (list_all-map (keeps_more env c.args.twice c.args.pc s) guard_in gs)

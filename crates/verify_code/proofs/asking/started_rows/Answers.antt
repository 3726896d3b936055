use Rattle.std.proofs.Common.{Bool, slice_index_or, ap, sym, ◌∙◌}
use Rattle.std.specs.List.{list_all}
use Rattle.std.proofs.lemmas.List.Folds.{list_all-map}
use Rattle.verify_code.specs.declared.guards.Guard.{Guard}
use Rattle.verify_code.specs.Guards.{guard_in}
use Rattle.verify_code.specs.Handlers.{keeps_more}
use Rattle.verify_code.proofs.AskingLaws.{asks_later, front}
use Rattle.verify_code.proofs.asking.started_rows.Goals as goal

pub returns-clause-asks : goal.returns-clause-asks
returns-clause-asks c env twice s =
    let gs = c.args.guards.now in
    let K : Guard → Bool = λ g. keeps_more env twice c.args.pc s (guard_in g) in
    list_all-map (keeps_more env twice c.args.pc s) guard_in c.split_at.result.0.now
    ∙ ap (list_all K) c.split_at.ensures.front
    ∙ front K gs c.started.result (λ k d low high. asks_later env twice c.args.pc s (slice_index_or gs k d) (c.started.ensures.point.1 k d low high))
    ∙ sym (list_all-map (keeps_more env twice c.args.pc s) guard_in gs)

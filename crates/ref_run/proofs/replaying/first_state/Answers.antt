use Rattle.std.proofs.Common.{◌++◌, [], ◌∷◌, List, ap, ◌∙◌}
use Rattle.startup.specs.Openings.{opened_state}
use Rattle.ref_model.specs.State.{JavaThread, State}
use Rattle.ref_run.proofs.replaying.first_state.Goals as goal

pub returns : goal.returns
returns c =
    let r : State = opened_state c.args.limits c.args.opened in
    let threads =
    c.in_ok-push.ensures.items ∙ ap (λ (xs : List JavaThread). xs ++ c.first_thread.result ∷ []) c.new-threads.ensures.items
    ∙ ap (λ (x : JavaThread). x ∷ []) c.first_thread.ensures in
    λ i. record r {
      memory = record r.memory { out = c.new.ensures.items i; err = c.new-2.ensures.items i };
      threads = threads i;
      owners = λ o. c.in_ok-owners.ensures o i;
    }

use Rattle.verify_code.proofs.BetweenLaws.{store_in}
use Rattle.verify_code.proofs.satisfied.store_at.Goals as goal

pub returns-in-Some : goal.returns-in-Some
returns-in-Some c = λ env all.
    let read = c.in-Some.ensures.lookup in
    store_in env c.args.stores.now _ c.in-Some.store.now read.3.0 read.3.1 all

use Rattle.std.proofs.Common.{ap, sym, subst, ◌∙◌, ◌<◌}
use Rattle.thread_lists.specs.Lists.{Lists, count, total}
use Rattle.thread_lists.proofs.CountLaws.{is_below, total-without}
use Rattle.thread_lists.proofs.lists.ThreadLists.move_last.Goals as goal

pub push-requires-clause-thread : goal.push-requires-clause-thread
push-requires-clause-thread c =
    let old = c.args.self.now in
    subst (λ (v : Lists). c.args.thread < v.threads) (sym c.remove.ensures)
    (is_below c.args.thread old.threads old.lists c.args.from c.requires.from (c.once.ensures.within c.args.thread) c.requires.held)

pub push-requires-clause-free : goal.push-requires-clause-free
push-requires-clause-free c =
    ap (λ (v : Lists). total (count c.args.thread) v.lists) c.remove.ensures
    ∙ total-without c.args.thread c.args.self.now.lists c.args.from c.requires.from (c.once.ensures.once c.args.thread) c.requires.held

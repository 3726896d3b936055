use Rattle.std.proofs.Common.{ap, arith, sym, ◌≤◌, slice_set}
use Rattle.thread_lists.specs.Lists.{count, list_at}
use Rattle.thread_lists.proofs.CountLaws.{first-held, total-le, without-first}
use Rattle.thread_lists.proofs.lists.ThreadLists.take_first.Goals as goal

pub remove-requires-clause-held : goal.remove-requires-clause-held
remove-requires-clause-held c =
    first-held (list_at c.args.self.now.lists c.args.list) c.in_ok-thread.thread (sym c.in_ok-thread.ensures)

pub returns-clause-lists : goal.returns-clause-lists
returns-clause-lists c =
    let lists = c.args.self.now.lists in
    let once : count c.in_ok-thread.thread (list_at lists c.args.list) ≤ 1 = omega (arith, c.once.ensures.once c.in_ok-thread.thread, total-le c.in_ok-thread.thread lists c.args.list c.requires) in
    rw c.remove.ensures (ap (λ xs. record c.args.self.now { lists = slice_set lists c.args.list xs }) (without-first (list_at lists c.args.list) c.in_ok-thread.thread (sym c.in_ok-thread.ensures) once))

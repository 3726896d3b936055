use Rattle.std.proofs.Common.{[], ◌∷◌, ap, cond, length, ◌∙◌}
use Rattle.thread_lists.specs.Lists.{push}
use Rattle.machine.proofs.PlaceLaws.{push_length}
use Rattle.machine.proofs.PutFacts.{to_go_is, to_go_loose}
use Rattle.machine.proofs.puts.put_if_to_go.Goals as goal

pub put_if-requires-clause-free : goal.put_if-requires-clause-free
put_if-requires-clause-free c = λ wanted.
    to_go_loose c.args.deques.now.lists c.args.t c.lies-lies.result c.may_step-goes.result c.holds-loose.result c.holds-loose.ensures wanted

pub returns-clause-lists : goal.returns-clause-lists
returns-clause-lists c = λ r out is.
    c.put_if.ensures.lists
    ∙ ap (λ b. push c.args.deques.now.lists c.args.c (cond b (c.args.t ∷ []) []))
    (to_go_is c.args.state.now r c.args.deques.now.lists c.args.t c.lies-lies.result c.may_step-goes.result c.holds-loose.result c.lies-lies.ensures
    (c.may_step-goes.ensures r out is) c.holds-loose.ensures)

pub returns-clause-carriers : goal.returns-clause-carriers
returns-clause-carriers c = ap (λ ls. length ls) c.put_if.ensures.lists ∙ push_length c.args.deques.now.lists c.args.c _

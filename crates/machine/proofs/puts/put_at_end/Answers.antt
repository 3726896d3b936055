use Rattle.std.proofs.Common.{◌≤◌, ℕ, List, ap, sym, subst, ◌∙◌}
use Rattle.std.specs.Prelude.{Contains, filter}
use Rattle.thread_lists.specs.Lists.{count, push}
use Rattle.machine.specs.Puts.{is_loose}
use Rattle.machine.proofs.PutFacts.{put_joined, put_over, woken_below, woken_once}
use Rattle.machine.proofs.puts.put_at_end.Goals as goal

pub returns-then-is_some-clause-put : goal.returns-then-is_some-clause-put
returns-then-is_some-clause-put c =
    put_over c.args.state.now c.args.t c.args.c c.args.first c.args.deques.now.lists c.put_first.new.deques.lists c.ending.result c.ending.ensures
    (sym c.is_some.ensures ∙ c.if-is_some.true) c.put_first.ensures.lists

pub add_first-requires : goal.add_first-requires
add_first-requires c = c.in_ok-woken.ensures.rising

pub put_loose-requires-clause-room : goal.put_loose-requires-clause-room
put_loose-requires-clause-room c = λ u here.
    woken_below c.args.state.now c.args.t c.args.deques.now.threads c.args.first c.in_ok-woken.woken.items c.add_first.new.threads.items c.in_ok-woken.ensures c.in_ok-add_first.ensures
    c.requires.below c.requires.room u (subst (λ (us : List ℕ). Contains us u) c.as_slice.ensures.value here)

pub put_loose-requires-clause-once : goal.put_loose-requires-clause-once
put_loose-requires-clause-once c = λ u.
    subst (λ (us : List ℕ). count u us ≤ 1) (sym c.as_slice.ensures.value)
    (woken_once c.args.state.now c.args.first c.in_ok-woken.woken.items c.add_first.new.threads.items c.in_ok-add_first.ensures u)

pub returns-clause-put : goal.returns-clause-put
returns-clause-put c =
    let lists = c.args.deques.now.lists in
    put_joined c.args.state.now c.args.t c.args.c c.args.first lists c.put_loose.new.deques.lists c.ending.result c.in_ok-woken.woken.items c.add_first.new.threads.items c.ending.ensures
    (sym c.is_some.ensures ∙ c.if-is_some.false) c.requires.done c.in_ok-woken.ensures c.in_ok-add_first.ensures
    (c.put_loose.ensures.lists ∙ ap (λ us. push lists c.args.c (filter (is_loose lists) us)) c.as_slice.ensures.value)

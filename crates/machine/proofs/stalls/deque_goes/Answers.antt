use Rattle.std.proofs.Common.{◌≡◌, Some, ap, arith, drop, length, slice_get, sym, ◌∙◌}
use Rattle.std.specs.List.{list_any}
use Rattle.std.proofs.lemmas.Option.{slice_get_within}
use Rattle.thread_lists.specs.Lists.{list_at}
use Rattle.thread_lists.proofs.CountLaws.{total-le}
use Rattle.ref_model.specs.Step.{enabled}
use Rattle.machine.proofs.AnyLaws.{any_end, any_found, any_past, held_at, once_in, place_at, place_behind, place_of}
use Rattle.machine.proofs.stalls.deque_goes.Goals as goal

pub loop-next-init : goal.loop-next-init
loop-next-init c =
    let lists = c.args.deques.now.lists in
    let xs = list_at lists c.args.c in
    let once = once_in lists c.args.c c.requires.deque c.once.ensures.once in
    let first : place_of c.first-next.result xs ≡ 0 = ap (λ o. place_of o xs) c.first-next.ensures ∙ place_at xs 0 once (omega arith) in
    record {
      at = c.first-next.ensures ∙ ap (slice_get xs) (sym first);
      any = λ r out is. ap (λ k. list_any (enabled r) (drop k xs)) (sym first);
    }

pub may_step-requires : goal.may_step-requires
may_step-requires c =
    let lists = c.args.deques.now.lists in
    let xs = list_at lists c.args.c in
    let held = held_at xs (place_of c.loop-next.next xs) c.in-Some.t (sym c.loop-next.invariant.at ∙ c.in-Some.is) in
    c.requires.below c.in-Some.t (omega (arith, held, total-le c.in-Some.t lists c.args.c c.requires.deque))

pub returns-then-may_step : goal.returns-then-may_step
returns-then-may_step c = λ r out is.
    let xs = list_at c.args.deques.now.lists c.args.c in
    sym (c.loop-next.invariant.any r out is
    ∙ any_found (enabled r) xs (place_of c.loop-next.next xs) c.in-Some.t (sym c.loop-next.invariant.at ∙ c.in-Some.is) (sym (c.may_step.ensures r out is) ∙ c.if-may_step.true))

pub loop-next-smaller : goal.loop-next-smaller
loop-next-smaller c =
    let lists = c.args.deques.now.lists in
    let xs = list_at lists c.args.c in
    let i = place_of c.loop-next.next xs in
    let at : slice_get xs i ≡ Some c.in-Some.t = sym c.loop-next.invariant.at ∙ c.in-Some.is in
    let once = once_in lists c.args.c c.requires.deque c.once.ensures.once in
    let behind = place_behind xs c.loop-next.next c.behind-next.result c.in-Some.t once c.loop-next.invariant.at c.in-Some.is
    (c.behind-next.ensures c.args.c i c.requires.deque at) in
    omega (arith, behind, slice_get_within xs i c.in-Some.t at)

pub loop-next-preserved : goal.loop-next-preserved
loop-next-preserved c =
    let lists = c.args.deques.now.lists in
    let xs = list_at lists c.args.c in
    let i = place_of c.loop-next.next xs in
    let at : slice_get xs i ≡ Some c.in-Some.t = sym c.loop-next.invariant.at ∙ c.in-Some.is in
    let once = once_in lists c.args.c c.requires.deque c.once.ensures.once in
    let comes = c.behind-next.ensures c.args.c i c.requires.deque at in
    let behind = place_behind xs c.loop-next.next c.behind-next.result c.in-Some.t once c.loop-next.invariant.at c.in-Some.is comes in
    record {
      at = comes ∙ ap (slice_get xs) (sym behind);
      any = λ r out is.
          c.loop-next.invariant.any r out is
          ∙ any_past (enabled r) xs i c.in-Some.t at (sym (c.may_step.ensures r out is) ∙ c.if-may_step.false)
          ∙ ap (λ k. list_any (enabled r) (drop k xs)) (sym behind);
    }

pub returns : goal.returns
returns c = λ r out is.
    let xs = list_at c.args.deques.now.lists c.args.c in
    let past : place_of c.loop-next.next xs ≡ length xs = ap (λ o. place_of o xs) c.in_default.is in
    sym (c.loop-next.invariant.any r out is ∙ any_end (enabled r) xs (place_of c.loop-next.next xs) (omega arith))

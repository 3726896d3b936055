use Rattle.std.proofs.Common.{◌≡◌, ◌+◌, ◌∙◌, length, arith}
use Rattle.heap_instructions.proofs.ArrayMakingLaws.{outer_made}
use Rattle.heap_instructions.proofs.array_making.make_outer.Goals as goal

pub returns-in-Ok-object : goal.returns-in-Ok-object
returns-in-Ok-object c =
    let number = c.in-Ok.ensures in
    let next = c.in-Some-checked_add.ensures in
    let start : c.in-Some-checked_add.first ≡ length c.args.heap.now.objects + 1 = omega arith in
    outer_made c.args.below.now c.args.n c.args.class c.in-Some-checked_add.first c.in-Some.step c.deref.result.now c.args.heap.now c.object.new.self start c.in-Some.ensures
    (c.deref.ensures ∙ c.in_ok-values.ensures) c.in-Ok-object.ensures.ok

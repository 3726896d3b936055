use Rattle.std.proofs.Common.{ℕ, ◌≡◌, ◌<◌, length, subst, arith, rules}
use Rattle.std.proofs.lemmas.Grind.{common_steps}
use Rattle.heap_instructions.proofs.ArrayMakingLaws.{AreSomeMade, lengths_made, none_made, one_more_made, outer_length}
use Rattle.heap_instructions.proofs.array_making.+make_arrays.Goals as goal

pub loop-init : goal.loop-init
loop-init g t c =
    none_made (g.W.EventWorld.world c.args.world.now) c.in-Some.below.now c.in-Some-element_class.inner (length c.args.heap.now.objects) c.make_outer.new.heap

pub loop-preserved : goal.loop-preserved
loop-preserved g t c =
    one_more_made (g.W.EventWorld.world c.args.world.now) c.in-Some.below.now c.in-Some-element_class.inner (length c.args.heap.now.objects) c.loop.counter c.make_outer.new.heap
    c.loop.heap c.make_arrays.new.heap (outer_length c.in-Some.below.now c.in-Some.n.now c.args.class c.args.heap.now c.make_outer.new.heap c.in_ok-make_outer.ensures)
    c.loop.invariant c.in_ok-make_arrays.ensures

pub returns : goal.returns
returns g t c =
    let w = g.W.EventWorld.world c.args.world.now in
    let A : ℕ → Type 0 = λ k. AreSomeMade w c.in-Some.below.now c.in-Some-element_class.inner (length c.args.heap.now.objects) k c.make_outer.new.heap c.loop.heap in
    let last : c.loop.counter ≡ c.in-Some.n.now = omega arith in
    let more : 0 < length c.in-Some.below.now = first_of (omega arith, search rules, grind (arith, common_steps)) in
    lengths_made w c.in-Some.n.now c.in-Some.below.now c.args.lengths.now c.args.class c.in-Some-element_class.inner c.args.heap.now c.make_outer.new.heap c.loop.heap
    more c.in-Some.ensures.cases.0 c.in-Some-element_class.ensures c.in_ok-make_outer.ensures (subst A last c.loop.invariant)

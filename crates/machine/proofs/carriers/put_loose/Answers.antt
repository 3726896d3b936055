use Rattle.std.proofs.Common.{ℕ, true, ◌<◌, ◌∙◌, ap, arith, length, take, List, ◌∷◌, []}
use Rattle.std.specs.Prelude.{filter, slice_index_or}
use Rattle.thread_lists.specs.Lists.{push}
use Rattle.machine.specs.Puts.{is_loose}
use Rattle.machine.proofs.PlaceLaws.{push_length}
use Rattle.machine.proofs.PushLaws.{is_one, one_more}
use Rattle.machine.proofs.carriers.put_loose.Goals as goal

pub put_if_loose-requires-clause-carrier : goal.put_if_loose-requires-clause-carrier
put_if_loose-requires-clause-carrier c =
    let ts = c.args.threads.now in
    let lists = c.args.deques.now.lists in
    let same = ap (λ ls. length ls) c.loop-t.invariant.lists ∙ push_length lists c.args.c (filter (is_loose lists) (take c.loop-t.t-index ts)) in
    omega (arith, same, c.requires.carrier)

pub put_if_loose-requires-clause-room : goal.put_if_loose-requires-clause-room
put_if_loose-requires-clause-room c =
    let ts = c.args.threads.now in
    let i = c.loop-t.t-index in
    let within : i < length ts = omega arith in
    let below = c.requires.room (slice_index_or ts i 0) (is_one ts i within) in
    omega (arith, below, c.loop-t.invariant.room)

pub loop-t-preserved : goal.loop-t-preserved
loop-t-preserved c =
    let ts = c.args.threads.now in
    let i = c.loop-t.t-index in
    let within : i < length ts = omega arith in
    record {
      lists =
          c.put_if_loose.ensures.lists ∙ ap (λ (ls : List (List ℕ)). push ls c.args.c (filter (is_loose ls) (slice_index_or ts i 0 ∷ []))) c.loop-t.invariant.lists
          ∙ one_more (λ u. true) c.args.deques.now.lists c.args.c ts i within c.requires.carrier (c.requires.once (slice_index_or ts i 0));
      room = c.put_if_loose.ensures.room ∙ c.loop-t.invariant.room;
    }

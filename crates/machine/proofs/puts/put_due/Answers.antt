use Rattle.std.proofs.Common.{ℕ, ◌≡◌, ◌<◌, ◌∙◌, ◌&&◌, ap, arith, length, take, List, ◌∷◌, []}
use Rattle.std.specs.Prelude.{filter, slice_index_or}
use Rattle.std.proofs.lemmas.Grind.{common_steps}
use Rattle.thread_lists.specs.Lists.{push}
use Rattle.ref_model.specs.Enabled.{enabled}
use Rattle.program_state.specs.Waiting.{lies_in}
use Rattle.machine.specs.Puts.{is_to_go}
use Rattle.machine.proofs.PushLaws.{is_one, one_more}
use Rattle.machine.proofs.puts.put_due.Goals as goal

pub put_if_to_go-requires-clause-thread : goal.put_if_to_go-requires-clause-thread
put_if_to_go-requires-clause-thread c =
    let ts = c.args.threads.now in
    let i = c.loop-t.t-index in
    let within : i < length ts = omega arith in
    c.requires.below (slice_index_or ts i 0) (is_one ts i within)

pub put_if_to_go-requires-clause-carrier : goal.put_if_to_go-requires-clause-carrier
put_if_to_go-requires-clause-carrier c = omega (arith, c.loop-t.invariant.carriers, c.requires.carrier)

pub put_if_to_go-requires-clause-room : goal.put_if_to_go-requires-clause-room
put_if_to_go-requires-clause-room c =
    let ts = c.args.threads.now in
    let i = c.loop-t.t-index in
    let within : i < length ts = omega arith in
    let below = c.requires.room (slice_index_or ts i 0) (is_one ts i within) in
    omega (arith, below, c.loop-t.invariant.room)

pub loop-t-preserved : goal.loop-t-preserved
loop-t-preserved c =
    let ts = c.args.threads.now in
    let i = c.loop-t.t-index in
    let state = c.args.state.now in
    let within : i < length ts = omega arith in
    record {
      lists = λ r out is.
          c.put_if_to_go.ensures.lists r out is
          ∙ ap (λ (ls : List (List ℕ)). push ls c.args.c (filter (is_to_go state r ls) (slice_index_or ts i 0 ∷ []))) (c.loop-t.invariant.lists r out is)
          ∙ one_more (λ u. lies_in state.frozen.items u && enabled r u) c.args.deques.now.lists c.args.c ts i within c.requires.carrier (c.requires.once (slice_index_or ts i 0));
      carriers = c.put_if_to_go.ensures.carriers ∙ c.loop-t.invariant.carriers;
      room = c.put_if_to_go.ensures.room ∙ c.loop-t.invariant.room;
    }

pub returns-clause-lists : goal.returns-clause-lists
returns-clause-lists c = λ r out is.
    let ts = c.args.threads.now in
    let past = c.loop-t-test.false in
    let all : take c.loop-t.t-index ts ≡ ts = grind (arith, common_steps) in
    let lists = c.args.deques.now.lists in
    c.loop-t.invariant.lists r out is ∙ ap (λ (us : List ℕ). push lists c.args.c (filter (is_to_go c.args.state.now r lists) us)) all

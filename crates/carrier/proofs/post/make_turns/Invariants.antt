use Rattle.std.proofs.Common.{◌≡◌, true}
use Rattle.std.specs.Prelude.{IsTrue, is_some}
use Rattle.carrier_turns.specs.Turns.{is_over}
use Rattle.carrier.specs.Posts.{IsPost}
use Rattle.carrier.specs.Shared.{shared_run}
use Rattle.carrier.proofs.post.make_turns.Given as goal

abbrev pub invariant-loop : goal.invariant-loop
invariant-loop g l = record {
  post : IsPost (shared_run g.C.Clock.gives l.lock) l.post;
  number : l.post.seat.number ≡ l.fn.post.seat.number;
  reading : IsTrue (g.C.Clock.gives l.clock l.reading.now);
  over : is_over l.answer ≡ true → is_some l.post.met ≡ true;
}

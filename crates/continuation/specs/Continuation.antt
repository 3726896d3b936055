-- What a thread's continuation holds: the thread's number, and its whole stack.
use Rattle.std.specs.Prelude.{ℕ}
use Rattle.frames.specs.Frames.{Frames}

pub record Continuation : Type 0 where
  pub thread : ℕ
  pub stack : Frames

-- A frame of which only its method and its pc are looked at.
use Rattle.std.specs.Prelude.{ℕ, Bool, [], ◌||◌}
use Rattle.link_model.specs.World.{World}
use Rattle.state_model.specs.Frames.{Frame}
use Rattle.ref_model.specs.Frames.{is_guarded_frame, is_initializer_frame}

abbrev pub frame_at : ℕ → ℕ → Frame
frame_at method pc = record { method = method; pc = pc; locals = []; stack = []; room = 0 }

-- whether a return from the method of a number is no local instruction, wherever its frame lies: it is a class initializer, or guarded
abbrev pub is_open : World → ℕ → Bool
is_open w n = is_initializer_frame w (frame_at n 0) || is_guarded_frame w (frame_at n 0)

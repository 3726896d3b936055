-- Which threads were started.
use Rattle.std.specs.Prelude.{◌≡◌, ◌≢◌, ◌||◌, ℕ, Bool, false}
use Rattle.schedule_model.specs.Look.{Look, Spot, is_done, is_live}

-- it is live, or has ended
abbrev pub was_started : Spot → Bool
was_started spot = is_live spot || is_done spot

-- no thread but main was started
abbrev pub OnlyMain : Look → Type 0
OnlyMain l = (t : ℕ) → t ≢ 0 → was_started (l.spot t) ≡ false

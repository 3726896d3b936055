-- When a program that hasn't ended can go on no more.
use Rattle.std.specs.Prelude.{ℕ, ◌&&◌, ◌||◌, Bool, false, Option, None, Some, nat_lt, not}
use Rattle.std.specs.List.{list_all, list_any}
use Rattle.schedule_model.specs.Look.{Look, is_live}
use Rattle.schedule_model.specs.Schedule.{Schedule}
use Rattle.schedule_model.specs.Puts.{all_threads}

-- the thread has a deadline that is still to come
abbrev pub has_time : Look → ℕ → Bool
has_time l t = is_live (l.spot t) && is_to_come (l.deadline t)
  where
    is_to_come : Option ℕ → Bool
    is_to_come None = false
    is_to_come (Some deadline) = nat_lt l.now deadline

-- it may step, or will by itself
abbrev pub can_go_on : Look → ℕ → Bool
can_go_on l t = l.enabled t || has_time l t

-- No thread is enabled, and no live thread has a deadline to come.
abbrev pub is_stalled : Look → Bool
is_stalled l = not l.ended && not (list_any (can_go_on l) (all_threads l))

-- a carrier holds on to a thread that can't go on by itself
abbrev pub is_stuck : Look → Option ℕ → Bool
is_stuck l None = false
is_stuck l (Some t) = l.pinned t && not (can_go_on l t)

-- Each carrier has a pinned thread mounted that isn't enabled and has no deadline to come, while another live thread has one or is enabled.
abbrev pub is_starved : Look → Schedule → Bool
is_starved l s = not l.ended && (list_all (is_stuck l) s.mounted && list_any (can_go_on l) (all_threads l))

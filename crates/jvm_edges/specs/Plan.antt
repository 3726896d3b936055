-- Which calls of a store or a sink in memory fail. Calls are counted from 1, and each count stops at the greatest
-- u64.
use Rattle.std.specs.Prelude.{ℕ, ◌+◌, ◌-◌, ◌^◌, min, List, Contains}

pub record Plan : Type 0 where
  -- the numbers of the calls that fail
  pub fail_at : List ℕ
  pub calls : ℕ
  pub faults : ℕ

-- the count after one more
abbrev pub next_count : ℕ → ℕ
next_count n = min (n + 1) (2 ^ 64 - 1)

abbrev pub new_plan : List ℕ → Plan
new_plan fail_at = record { fail_at = fail_at; calls = 0; faults = 0 }

-- whether the next call is to fail
abbrev pub FailsNext : Plan → Type 0
FailsNext plan = Contains plan.fail_at (next_count plan.calls)

abbrev pub after_call : Plan → Plan
after_call plan = record { fail_at = plan.fail_at; calls = next_count plan.calls; faults = plan.faults }

abbrev pub after_fault : Plan → Plan
after_fault plan = record { fail_at = plan.fail_at; calls = plan.calls; faults = next_count plan.faults }

-- the plan after a call that fails
abbrev pub after_failed_call : Plan → Plan
after_failed_call plan = after_fault (after_call plan)

-- How steps lie in entries: all steps of an entry but the last are local instructions. The last is an event; or it is an invokestatic
-- that is local; or it is the step after ten thousand local instructions, of whichever kind.
use Rattle.std.specs.Prelude.{ℕ, zero, suc, Bool, true, false, List, [], ◌∷◌, Option, Some, None, is_some, nat_le, not, ◌==◌, ◌&&◌, ◌||◌}
use Rattle.std.specs.Option.{option_map_or}
use Rattle.history.specs.declared.entry.Entry.{Entry}
use Rattle.history.specs.declared.entry.What.{What}
use Rattle.history.specs.declared.entry.What.TheVariants.{Mount, Unmount, Step, Clock}
use Rattle.instruction_rows.specs.Rows.{Row, invoke, static}
use Rattle.instruction_rows.specs.Table.{row as row_of}
use Rattle.link_model.specs.World.{World}
use Rattle.verify_types.specs.Environment.{Instruction}
use Rattle.state_model.specs.Frames.{Frame}
use Rattle.ref_model.specs.Setting.{Setting}
pub use Rattle.ref_model.specs.State.{running_frames, frames_at}
use Rattle.ref_model.specs.State.{State}
use Rattle.ref_model.specs.Fetch.{fetched}
use Rattle.ref_model.specs.LocalRows.{row, rows}
use Rattle.ref_model.specs.Run.{Outcome, outcome_after}

-- how many local instructions come before the last step of an entry at most
abbrev pub most_local_steps : ℕ
most_local_steps = 10000

-- ---- the last step

abbrev pub is_static_call : Row → Bool
is_static_call (invoke static index) = true
is_static_call r = false

-- whether the top frame is at an invokestatic
abbrev pub stands_at_static_call : World → List Frame → Bool
stands_at_static_call w [] = false
stands_at_static_call w (f ∷ below) =
    option_map_or (λ (i : Instruction). is_static_call (row_of i.instr.op)) (fetched w f) false

-- after so many local instructions, with these frames, an entry may end with the next step
abbrev pub may_be_last : World → ℕ → List Frame → Bool
may_be_last w n frames =
    not (is_some (row w frames)) || stands_at_static_call w frames || n == most_local_steps

abbrev pub ends_behind : World → ℕ → Option (List Frame) → Bool
ends_behind w n None = false
ends_behind w n (Some frames) = nat_le n most_local_steps && may_be_last w n frames

-- ---- entries

-- A thread that isn't in phase Run makes one step.
abbrev pub are_grouped_steps : World → ℕ → Option (List Frame) → Bool
are_grouped_steps w zero None = true
are_grouped_steps w (suc n) None = false
are_grouped_steps w n (Some frames) = ends_behind w n (rows w n frames)

-- so many steps of a thread lie so in an entry, of which there is one at least
abbrev pub is_grouped : World → State → ℕ → ℕ → Bool
is_grouped w r t zero = false
is_grouped w r t (suc n) = are_grouped_steps w n (frames_at r t)

abbrev pub is_grouped_entry : World → State → What → Bool
is_grouped_entry w r (Mount t) = true
is_grouped_entry w r (Unmount t) = true
is_grouped_entry w r (Step t n pick) = is_grouped w r t n
is_grouped_entry w r (Clock now) = true

-- whether each entry of a history is such, from an outcome on; what lies after an entry that isn't defined isn't looked at
abbrev pub are_grouped_from : Setting → List Entry → Outcome → Bool
are_grouped_from p [] o = true
are_grouped_from p (e ∷ es) o =
    is_grouped_entry p.world o.state e.what && option_map_or (are_grouped_from p es) (outcome_after p o e.what) true

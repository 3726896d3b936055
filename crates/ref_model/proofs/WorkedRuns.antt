-- Runs of small programs, step by step (JVMS 2.6, 2.10, 6.5).
use Rattle.std.proofs.Common.{◌≡◌, ℕ, pos, negsuc, true, false, List, [], ◌∷◌, ◌++◌, Option, Some, None, refl}
use Rattle.std.specs.Char.{encode_utf8}
use Rattle.std.specs.Int.{int_wrap}
use Rattle.std.specs.Prelude.{codes, option_map, slice_get}
use Rattle.items.specs.Options.{◌>>=◌}
use Rattle.history.specs.declared.entry.Entry.{Entry}
use Rattle.history.specs.declared.entry.What.TheVariants.{Step, Clock}
use Rattle.instruction_rows.specs.declared.value.Value.TheVariants.{Int, Ref}
use Rattle.instruction_rows.specs.declared.value.Slot.{Slot}
use Rattle.instruction_rows.specs.declared.value.Slot.TheVariants.{One}
use Rattle.vthread_state.specs.declared.phase.Phase.TheVariants.{Run, Throwing}
use Rattle.vthread_state.specs.declared.thread.Status.{Status}
use Rattle.vthread_state.specs.declared.thread.Status.TheVariants.{Live, Done}
use Rattle.state_model.specs.Frames.{Frame}
use Rattle.ref_model.specs.declared.ending.Ending.TheVariants.{Ended, MainThrew}
use Rattle.ref_model.specs.Setting.{Setting}
use Rattle.ref_model.specs.State.{JavaThread, State}
use Rattle.ref_model.specs.Ending.{ending}
use Rattle.ref_model.specs.Run.{run}
use Rattle.ref_model.specs.Entries.{is_grouped}
use Rattle.ref_model.specs.Alone.{alone}
use Rattle.ref_model.proofs.WorkedWorld.{world}

-- a run with this main method, and room for so many cells
abbrev of_main : ℕ → ℕ → Setting
of_main main cells = record { world = world; main = main; limits = record { heap_cells = cells; threads = 1; events = 1000 } }

-- what the main thread is at
abbrev at : State → Option (Status × List Frame)
at r = option_map (λ (t : JavaThread). (t.thread.status, t.frames)) (slice_get r.threads 0)

-- after so many steps
abbrev After : Setting → ℕ → Status → List Frame → Type 0
After p n status frames = (alone p n >>= at) ≡ Some (status, frames)

abbrev frame : ℕ → ℕ → List Slot → Frame
frame method pc stack = record { method = method; pc = pc; locals = One (Ref 17) ∷ []; stack = stack; room = 2 }

-- ---- the opening: main's frame alone, with the array for main, the last of 18 objects

opened : After (of_main 0 10) 0 (Live Run) (frame 0 0 [] ∷ [])
opened = refl

-- ---- a division by zero that nothing catches

at_division : After (of_main 0 10) 2 (Live Run) (frame 0 3 (One (Int (pos 0)) ∷ One (Int (pos 7)) ∷ []) ∷ [])
at_division = refl

-- a new object is on its way, and the frame is as it was
divided : After (of_main 0 10) 3 (Live (Throwing 18)) (frame 0 3 (One (Int (pos 0)) ∷ One (Int (pos 7)) ∷ []) ∷ [])
divided = refl

-- without room the OutOfMemoryError of the opening is
divided_without_room : After (of_main 0 0) 3 (Live (Throwing 0)) (frame 0 3 (One (Int (pos 0)) ∷ One (Int (pos 7)) ∷ []) ∷ [])
divided_without_room = refl

dropped : After (of_main 0 10) 4 Done []
dropped = refl

told : option_map (λ (r : State). r.memory.err) (alone (of_main 0 10) 4)
    ≡ Some (codes "Exception in thread \"main\" java.lang.ArithmeticException" ++ 10 ∷ [])
unfolding encode_utf8
told = refl

threw : (alone (of_main 0 10) 4 >>= ending) ≡ Some MainThrew
threw = refl

-- the program has ended, and no more steps are made
no_more : After (of_main 0 10) 9 Done []
no_more = refl

-- ---- the same with a handler

caught : After (of_main 1 10) 4 (Live Run) (frame 1 4 (One (Ref 18) ∷ []) ∷ [])
caught = refl

ended : (alone (of_main 1 10) 6 >>= ending) ≡ Some Ended
ended = refl

-- ---- a call, and what it returns: a byte keeps the low eight bits of 200

called : After (of_main 3 10) 1 (Live Run)
    (record { method = 2; pc = 0; locals = []; stack = []; room = 1 }
    ∷ record { method = 3; pc = 0; locals = One (Ref 17) ∷ []; stack = []; room = 1 } ∷ [])
called = refl

returned : After (of_main 3 10) 3 (Live Run)
    (record { method = 3; pc = 3; locals = One (Ref 17) ∷ []; stack = One (Int (negsuc 55)) ∷ []; room = 1 } ∷ [])
unfolding int_wrap
returned = refl

-- ---- histories of one entry: of main 0 two local instructions and the division; then the exception, which drops the frame

abbrev steps_of : ℕ → Entry
steps_of n = record { carrier = 0; what = Step 0 n None }

ran : option_map (λ (r : State). r.main_threw) (run (of_main 0 10) (steps_of 3 ∷ steps_of 1 ∷ [])) ≡ Some true
ran = refl

-- no step is defined after the end, and time goes on
nothing_after_the_end : run (of_main 0 10) (steps_of 3 ∷ steps_of 1 ∷ steps_of 1 ∷ []) ≡ None
nothing_after_the_end = refl

time_goes_on : option_map (λ (r : State). r.now) (run (of_main 0 10) (record { carrier = 0; what = Clock 5 } ∷ [])) ≡ Some 5
time_goes_on = refl

time_never_stands : run (of_main 0 10) (record { carrier = 0; what = Clock 5 } ∷ record { carrier = 0; what = Clock 5 } ∷ []) ≡ None
time_never_stands = refl

-- the division ends its entry, a local instruction before it doesn't, and an invokestatic may
grouped : option_map (λ r. is_grouped world r 0 3) (alone (of_main 0 10) 0) ≡ Some true
grouped = refl

too_short : option_map (λ r. is_grouped world r 0 2) (alone (of_main 0 10) 0) ≡ Some false
too_short = refl

too_long : option_map (λ r. is_grouped world r 0 4) (alone (of_main 0 10) 0) ≡ Some false
too_long = refl

by_a_call : option_map (λ r. is_grouped world r 0 1) (alone (of_main 3 10) 0) ≡ Some true
by_a_call = refl

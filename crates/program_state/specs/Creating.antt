-- A thread that is made.
use Rattle.std.specs.Prelude.{◌≡◌, ◌+◌, ◌++◌, ◌∷◌, [], Bool, false, None, length, nat_lt}
use Rattle.vthread_state.specs.declared.thread.Thread.{Thread}
use Rattle.program_state.specs.declared.state.ProgramState.{ProgramState}

-- whether one more thread may be made
abbrev pub has_room : ProgramState → Bool
has_room a = nat_lt (length a.threads.threads) a.most_threads

-- the table has this thread too, which has no frames
pub record IsAdded (thread : Thread) (old new : ProgramState) : Type 0 where
  pub memory : new.memory ≡ old.memory
  pub threads : new.threads ≡ record old.threads { threads = old.threads.threads ++ thread ∷ [] }
  pub most_threads : new.most_threads ≡ old.most_threads
  pub frozen : new.frozen.items ≡ old.frozen.items ++ None ∷ []
  pub permits : new.wakes.permits ≡ old.wakes.permits ++ false ∷ []
  pub interrupts : new.wakes.interrupts ≡ old.wakes.interrupts ++ false ∷ []
  pub monitors : new.monitors ≡ record old.monitors { threads = old.monitors.threads + 1 }
  pub wheel : new.wheel ≡ old.wheel
  pub keys : new.keys.items ≡ old.keys.items ++ None ∷ []
  pub time : new.time ≡ old.time
  pub unnamed : new.unnamed ≡ old.unnamed

-- What the table keeps.
use Rattle.std.specs.Prelude.{◌≡◌, ◌≤◌, ◌<◌, ◌^◌, filter, length}
use Rattle.vthread_state.specs.declared.table.ThreadTable.TheInside.{Inside}
use Rattle.vthread_state.specs.Threads.{Threads, keeps_going}
use Rattle.vthread_state.specs.Joiners.{IsJoined}

abbrev pub table_view : Inside → Threads
table_view a = record { threads = a.threads.items; limit = a.limit }

pub record IsTable (a : Inside) : Type 0 where
  pub joined : IsJoined a.threads.items a.joiners
  pub few : length a.threads.items ≤ a.limit
  pub bound : a.limit < 2 ^ 32
  pub going : a.going ≡ length (filter keeps_going a.threads.items)

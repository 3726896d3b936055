-- What native methods ask of the thread of a Thread object, or of the monitor of an object.
use Rattle.std.specs.Prelude.{ℕ, ◌≡◌, Option, Some, None, Result, Ok, Err}
use Rattle.lib_table.specs.declared.native.Native.{Native}
use Rattle.lib_table.specs.declared.native.Native.TheVariants as natives
use Rattle.ref_model.specs.Memory.{Memory}
use Rattle.ref_model.specs.NativeRows as rows
use Rattle.ref_model.specs.Requests.{Request, starts, joins, interrupts, tells_interrupt, tells_alive, tells_virtual, tells_daemon, tells_name, tells_state, waits_on, notifies, notifies_all}
use Rattle.ref_model.specs.ThreadNatives.{on_object, on_thread}
use Rattle.ref_model.specs.declared.exception.Exception.{Exception}
use Rattle.native_methods.specs.NativeStates.{with_natives}
use Rattle.native_methods.specs.declared.state.NativeState.{NativeState}

-- what a native method asks that takes a Thread alone, and only asks something of its thread
abbrev pub asked_of_thread : Native → Option (ℕ → Request)
asked_of_thread natives.ThreadStart = Some starts
asked_of_thread natives.ThreadInterrupt = Some interrupts
asked_of_thread natives.ThreadIsInterrupted = Some tells_interrupt
asked_of_thread natives.ThreadJoin = Some (λ t. joins t None)
asked_of_thread natives.ThreadIsAlive = Some tells_alive
asked_of_thread natives.ThreadIsVirtual = Some tells_virtual
asked_of_thread natives.ThreadIsDaemon = Some tells_daemon
asked_of_thread natives.ThreadGetName = Some tells_name
asked_of_thread natives.ThreadGetState = Some tells_state
asked_of_thread n = None

-- the same of an object and its monitor
abbrev pub asked_of_monitor : Native → Option (ℕ → Request)
asked_of_monitor natives.ObjectWait = Some (λ o. waits_on o None)
asked_of_monitor natives.ObjectNotify = Some notifies
asked_of_monitor natives.ObjectNotifyAll = Some notifies_all
asked_of_monitor n = None

-- what is done with a number that was found; otherwise this is thrown
abbrev pub given_number : (ℕ → rows.Answer) → Result ℕ Exception → rows.Answer
given_number act (Ok n) = act n
given_number act (Err e) = rows.fails e

-- the number of an object, and that of the thread of a Thread object
abbrev pub IsObject : Option ℕ → Result ℕ Exception → Type 0
IsObject this found = (act : ℕ → rows.Answer) → on_object this act ≡ given_number act found

abbrev pub IsThread : NativeState → Option ℕ → Result ℕ Exception → Type 0
IsThread s this found = (r : Memory) (act : ℕ → rows.Answer) → on_thread (with_natives s r) this act ≡ given_number act found

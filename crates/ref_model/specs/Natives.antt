-- The native methods, by their names in the table of built-in classes.
use Rattle.std.specs.Prelude.{List, [], ◌∷◌, Option, Some, None}
use Rattle.opcodes.specs.declared.op.ValueKind.{ValueKind}
use Rattle.opcodes.specs.declared.op.ValueKind.TheVariants as kinds
use Rattle.lib_table.specs.declared.native.Native.{Native}
use Rattle.lib_table.specs.declared.native.Native.TheVariants as natives
use Rattle.link_model.specs.World.{World}
use Rattle.vthread_state.specs.declared.thread.ThreadKind.TheVariants.{Platform, Virtual}
use Rattle.ref_model.specs.Memory.{Memory}
use Rattle.ref_model.specs.Requests.{current, yields, takes_interrupt, parks, tells_nanos, tells_millis}
use Rattle.ref_model.specs.NativeRows.{NativeRow}
use Rattle.ref_model.specs.ObjectNatives.{object_init, object_equals, object_hash_code, object_to_string}
use Rattle.ref_model.specs.StringNatives.{string_length, string_char_at, string_is_empty, string_equals, string_hash_code, string_concat, string_to_string, string_of_int, string_of_long, string_of_char, string_of_boolean}
use Rattle.ref_model.specs.BuilderNatives.{builder_init, append_int, append_long, append_char, append_boolean, append_string, builder_length, builder_to_string}
use Rattle.ref_model.specs.ThreadNatives.{asks_alone, thread_created, thread_start, thread_interrupt, thread_is_interrupted, thread_join, thread_join_millis, thread_is_alive, thread_is_virtual, thread_is_daemon, thread_set_daemon, thread_get_name, thread_set_name, thread_id, thread_get_state, thread_on_spin_wait, thread_sleep, park_blocker, park_nanos, park_nanos_blocker, unpark, object_wait, object_wait_millis, object_notify, object_notify_all}
use Rattle.ref_model.specs.Printing.{println_nothing, println_int, println_long, println_char, println_boolean, println_string, print_int, print_long, print_char, print_boolean, print_string, exit}

abbrev pub native_row : World → Memory → Native → Option NativeRow
-- java.lang.Object
native_row w r natives.ObjectInit = Some (object_init r)
native_row w r natives.ObjectEquals = Some (object_equals r)
native_row w r natives.ObjectHashCode = Some (object_hash_code r)
native_row w r natives.ObjectToString = Some (object_to_string w r)
native_row w r natives.ObjectWait = Some object_wait
native_row w r natives.ObjectWaitMillis = Some object_wait_millis
native_row w r natives.ObjectNotify = Some object_notify
native_row w r natives.ObjectNotifyAll = Some object_notify_all
-- java.lang.String
native_row w r natives.StringLength = Some (string_length r)
native_row w r natives.StringCharAt = Some (string_char_at r)
native_row w r natives.StringIsEmpty = Some (string_is_empty r)
native_row w r natives.StringEquals = Some (string_equals r)
native_row w r natives.StringHashCode = Some (string_hash_code r)
native_row w r natives.StringConcat = Some (string_concat r)
native_row w r natives.StringToString = Some (string_to_string r)
native_row w r natives.StringValueOfInt = Some (string_of_int r)
native_row w r natives.StringValueOfLong = Some (string_of_long r)
native_row w r natives.StringValueOfChar = Some (string_of_char r)
native_row w r natives.StringValueOfBoolean = Some (string_of_boolean r)
-- java.lang.StringBuilder
native_row w r natives.StringBuilderInit = Some (builder_init r)
native_row w r natives.StringBuilderAppendInt = Some (append_int r)
native_row w r natives.StringBuilderAppendLong = Some (append_long r)
native_row w r natives.StringBuilderAppendChar = Some (append_char r)
native_row w r natives.StringBuilderAppendBoolean = Some (append_boolean r)
native_row w r natives.StringBuilderAppendString = Some (append_string r)
native_row w r natives.StringBuilderLength = Some (builder_length r)
native_row w r natives.StringBuilderToString = Some (builder_to_string r)
-- java.lang.System, java.io.PrintStream
native_row w r natives.SystemExit = Some (exit r)
native_row w r natives.SystemNanoTime = Some (asks_alone tells_nanos)
native_row w r natives.SystemCurrentTimeMillis = Some (asks_alone tells_millis)
native_row w r natives.PrintStreamPrintln = Some (println_nothing r)
native_row w r natives.PrintStreamPrintlnInt = Some (println_int r)
native_row w r natives.PrintStreamPrintlnLong = Some (println_long r)
native_row w r natives.PrintStreamPrintlnChar = Some (println_char r)
native_row w r natives.PrintStreamPrintlnBoolean = Some (println_boolean r)
native_row w r natives.PrintStreamPrintlnString = Some (println_string r)
native_row w r natives.PrintStreamPrintInt = Some (print_int r)
native_row w r natives.PrintStreamPrintLong = Some (print_long r)
native_row w r natives.PrintStreamPrintChar = Some (print_char r)
native_row w r natives.PrintStreamPrintBoolean = Some (print_boolean r)
native_row w r natives.PrintStreamPrintString = Some (print_string r)
-- java.lang.Thread
native_row w r natives.ThreadCreatePlatform = Some (thread_created Platform r)
native_row w r natives.ThreadCreateVirtual = Some (thread_created Virtual r)
native_row w r natives.ThreadStart = Some (thread_start r)
native_row w r natives.ThreadInterrupt = Some (thread_interrupt r)
native_row w r natives.ThreadIsInterrupted = Some (thread_is_interrupted r)
native_row w r natives.ThreadJoin = Some (thread_join r)
native_row w r natives.ThreadJoinMillis = Some (thread_join_millis r)
native_row w r natives.ThreadIsAlive = Some (thread_is_alive r)
native_row w r natives.ThreadIsVirtual = Some (thread_is_virtual r)
native_row w r natives.ThreadIsDaemon = Some (thread_is_daemon r)
native_row w r natives.ThreadSetDaemon = Some (thread_set_daemon r)
native_row w r natives.ThreadGetName = Some (thread_get_name r)
native_row w r natives.ThreadSetName = Some (thread_set_name r)
native_row w r natives.ThreadId = Some (thread_id r)
native_row w r natives.ThreadGetState = Some (thread_get_state r)
native_row w r natives.ThreadCurrentThread = Some (asks_alone current)
native_row w r natives.ThreadYield = Some (asks_alone yields)
native_row w r natives.ThreadOnSpinWait = Some (thread_on_spin_wait r)
native_row w r natives.ThreadSleep = Some thread_sleep
native_row w r natives.ThreadInterrupted = Some (asks_alone takes_interrupt)
-- java.util.concurrent.locks.LockSupport
native_row w r natives.LockSupportPark = Some (asks_alone (parks None))
native_row w r natives.LockSupportParkBlocker = Some park_blocker
native_row w r natives.LockSupportParkNanos = Some park_nanos
native_row w r natives.LockSupportParkNanosBlocker = Some park_nanos_blocker
native_row w r natives.LockSupportUnpark = Some (unpark r)

-- the kinds that a native method takes, the topmost first, and a reference to the receiver below them
abbrev pub native_takes : Native → Option (List ValueKind)
native_takes natives.ObjectInit = Some (kinds.Reference ∷ [])
native_takes natives.ObjectEquals = Some (kinds.Reference ∷ kinds.Reference ∷ [])
native_takes natives.ObjectHashCode = Some (kinds.Reference ∷ [])
native_takes natives.ObjectToString = Some (kinds.Int ∷ kinds.Reference ∷ [])
native_takes natives.StringLength = Some (kinds.Reference ∷ [])
native_takes natives.StringCharAt = Some (kinds.Int ∷ kinds.Reference ∷ [])
native_takes natives.StringIsEmpty = Some (kinds.Reference ∷ [])
native_takes natives.StringEquals = Some (kinds.Reference ∷ kinds.Reference ∷ [])
native_takes natives.StringHashCode = Some (kinds.Reference ∷ [])
native_takes natives.StringConcat = Some (kinds.Reference ∷ kinds.Reference ∷ [])
native_takes natives.StringToString = Some (kinds.Reference ∷ [])
native_takes natives.StringValueOfInt = Some (kinds.Int ∷ [])
native_takes natives.StringValueOfLong = Some (kinds.Long ∷ [])
native_takes natives.StringValueOfChar = Some (kinds.Int ∷ [])
native_takes natives.StringValueOfBoolean = Some (kinds.Int ∷ [])
native_takes natives.StringBuilderInit = Some (kinds.Reference ∷ [])
native_takes natives.StringBuilderAppendInt = Some (kinds.Int ∷ kinds.Reference ∷ [])
native_takes natives.StringBuilderAppendLong = Some (kinds.Long ∷ kinds.Reference ∷ [])
native_takes natives.StringBuilderAppendChar = Some (kinds.Int ∷ kinds.Reference ∷ [])
native_takes natives.StringBuilderAppendBoolean = Some (kinds.Int ∷ kinds.Reference ∷ [])
native_takes natives.StringBuilderAppendString = Some (kinds.Reference ∷ kinds.Reference ∷ [])
native_takes natives.StringBuilderLength = Some (kinds.Reference ∷ [])
native_takes natives.StringBuilderToString = Some (kinds.Reference ∷ [])
native_takes natives.SystemExit = Some (kinds.Int ∷ [])
native_takes natives.PrintStreamPrintln = Some (kinds.Reference ∷ [])
native_takes natives.PrintStreamPrintlnInt = Some (kinds.Int ∷ kinds.Reference ∷ [])
native_takes natives.PrintStreamPrintlnLong = Some (kinds.Long ∷ kinds.Reference ∷ [])
native_takes natives.PrintStreamPrintlnChar = Some (kinds.Int ∷ kinds.Reference ∷ [])
native_takes natives.PrintStreamPrintlnBoolean = Some (kinds.Int ∷ kinds.Reference ∷ [])
native_takes natives.PrintStreamPrintlnString = Some (kinds.Reference ∷ kinds.Reference ∷ [])
native_takes natives.PrintStreamPrintInt = Some (kinds.Int ∷ kinds.Reference ∷ [])
native_takes natives.PrintStreamPrintLong = Some (kinds.Long ∷ kinds.Reference ∷ [])
native_takes natives.PrintStreamPrintChar = Some (kinds.Int ∷ kinds.Reference ∷ [])
native_takes natives.PrintStreamPrintBoolean = Some (kinds.Int ∷ kinds.Reference ∷ [])
native_takes natives.PrintStreamPrintString = Some (kinds.Reference ∷ kinds.Reference ∷ [])
native_takes natives.ObjectWait = Some (kinds.Reference ∷ [])
native_takes natives.ObjectWaitMillis = Some (kinds.Long ∷ kinds.Reference ∷ [])
native_takes natives.ObjectNotify = Some (kinds.Reference ∷ [])
native_takes natives.ObjectNotifyAll = Some (kinds.Reference ∷ [])
native_takes natives.SystemNanoTime = Some []
native_takes natives.SystemCurrentTimeMillis = Some []
native_takes natives.ThreadCreatePlatform = Some (kinds.Reference ∷ kinds.Reference ∷ [])
native_takes natives.ThreadCreateVirtual = Some (kinds.Reference ∷ kinds.Reference ∷ [])
native_takes natives.ThreadStart = Some (kinds.Reference ∷ [])
native_takes natives.ThreadInterrupt = Some (kinds.Reference ∷ [])
native_takes natives.ThreadIsInterrupted = Some (kinds.Reference ∷ [])
native_takes natives.ThreadJoin = Some (kinds.Reference ∷ [])
native_takes natives.ThreadJoinMillis = Some (kinds.Long ∷ kinds.Reference ∷ [])
native_takes natives.ThreadIsAlive = Some (kinds.Reference ∷ [])
native_takes natives.ThreadIsVirtual = Some (kinds.Reference ∷ [])
native_takes natives.ThreadIsDaemon = Some (kinds.Reference ∷ [])
native_takes natives.ThreadSetDaemon = Some (kinds.Int ∷ kinds.Reference ∷ [])
native_takes natives.ThreadGetName = Some (kinds.Reference ∷ [])
native_takes natives.ThreadSetName = Some (kinds.Reference ∷ kinds.Reference ∷ [])
native_takes natives.ThreadId = Some (kinds.Reference ∷ [])
native_takes natives.ThreadGetState = Some (kinds.Reference ∷ [])
native_takes natives.ThreadCurrentThread = Some []
native_takes natives.ThreadYield = Some []
native_takes natives.ThreadOnSpinWait = Some []
native_takes natives.ThreadSleep = Some (kinds.Long ∷ [])
native_takes natives.ThreadInterrupted = Some []
native_takes natives.LockSupportPark = Some []
native_takes natives.LockSupportParkBlocker = Some (kinds.Reference ∷ [])
native_takes natives.LockSupportParkNanos = Some (kinds.Long ∷ [])
native_takes natives.LockSupportParkNanosBlocker = Some (kinds.Long ∷ kinds.Reference ∷ [])
native_takes natives.LockSupportUnpark = Some (kinds.Reference ∷ [])

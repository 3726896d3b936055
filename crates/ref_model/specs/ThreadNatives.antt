-- The native methods of java.lang.Thread, LockSupport and the clock, and those of Object that concern monitors. All but two ask: what they
-- do is a request. The number of a Thread object's thread is its second field. (own)
use Rattle.std.specs.Prelude.{ℕ, suc, pos, not, [], ◌∷◌, Option, Some, None, slice_get}
use Rattle.items.specs.Options.{◌>>=◌}
use Rattle.jvm_words.specs.Words.{is_zero}
use Rattle.opcodes.specs.declared.op.ValueKind.TheVariants.{Int, Long, Reference}
use Rattle.instruction_rows.specs.declared.value.Value.{Value}
use Rattle.instruction_rows.specs.declared.value.Value.TheVariants as values
use Rattle.vthread_state.specs.declared.thread.ThreadKind.{ThreadKind}
use Rattle.ref_model.specs.declared.exception.Exception.TheVariants as exceptions
use Rattle.ref_model.specs.Memory.{Memory}
use Rattle.ref_model.specs.Heap.{values_at, units_at, with_value}
use Rattle.ref_model.specs.Requests.{Request, creates, starts, joins, sleeps, interrupts, tells_interrupt, tells_alive, tells_virtual, tells_daemon, tells_name, tells_state, sets_daemon, sets_name, parks, unparks, waits_on, notifies, notifies_all}
use Rattle.ref_model.specs.NativeRows.{Answer, NativeRow, native, returns, returns_value, fails, asks_for, on_units}

-- ---- the thread of a Thread object

abbrev pub number_field : ℕ
number_field = 1

abbrev pub number_in : Value → Option ℕ
number_in (values.Int (pos n)) = Some n
number_in v = None

abbrev pub thread_number : Memory → ℕ → Option ℕ
thread_number r o = values_at r o >>= λ fields. slice_get fields number_field >>= number_in

-- the object has this number now, in the place of another one
abbrev pub with_number : Memory → ℕ → ℕ → Option Memory
with_number r o n = thread_number r o >>= λ before. with_value r o number_field (values.Int (pos n))

-- ---- what natives share

-- an object that isn't null
abbrev pub on_object : Option ℕ → (ℕ → Answer) → Answer
on_object None act = fails exceptions.NullPointerException
on_object (Some o) act = act o

-- The number that was found. Where there is another object, it is as with the late check of an instruction. (own: a typed program has a
-- Thread there)
abbrev pub on_number : Option ℕ → (ℕ → Answer) → Answer
on_number None act = fails exceptions.VerifyError
on_number (Some t) act = act t

-- the thread of a Thread object that isn't null
abbrev pub on_thread : Memory → Option ℕ → (ℕ → Answer) → Answer
on_thread r this act = on_object this (λ o. on_number (thread_number r o) act)

-- a native of a thread that only asks
abbrev pub thread_asks : (ℕ → Request) → Memory → NativeRow
thread_asks q r = native (Reference ∷ []) (λ this. on_thread r this (λ t. asks_for (q t)))

-- a static native without arguments that only asks
abbrev pub asks_alone : Request → NativeRow
asks_alone q = native [] (asks_for q)

-- ---- constructors: a name may be null

abbrev pub on_name : Memory → Option ℕ → Answer → Answer
on_name r None answer = answer
on_name r (Some name) answer = on_units (units_at r name) (λ units. answer)

abbrev pub thread_created : ThreadKind → Memory → NativeRow
thread_created kind r = native (Reference ∷ Reference ∷ []) (λ name this.
    on_object this (λ o. on_number (thread_number r o) (λ t. on_name r name (asks_for (creates kind o name)))))

-- ---- java.lang.Thread

abbrev pub thread_start : Memory → NativeRow
thread_start r = thread_asks starts r

abbrev pub thread_interrupt : Memory → NativeRow
thread_interrupt r = thread_asks interrupts r

abbrev pub thread_is_interrupted : Memory → NativeRow
thread_is_interrupted r = thread_asks tells_interrupt r

abbrev pub thread_join : Memory → NativeRow
thread_join r = thread_asks (λ t. joins t None) r

abbrev pub thread_join_millis : Memory → NativeRow
thread_join_millis r = native (Long ∷ Reference ∷ []) (λ millis this. on_thread r this (λ t. asks_for (joins t (Some millis))))

abbrev pub thread_is_alive : Memory → NativeRow
thread_is_alive r = thread_asks tells_alive r

abbrev pub thread_is_virtual : Memory → NativeRow
thread_is_virtual r = thread_asks tells_virtual r

abbrev pub thread_is_daemon : Memory → NativeRow
thread_is_daemon r = thread_asks tells_daemon r

-- a boolean that isn't 0 is true
abbrev pub thread_set_daemon : Memory → NativeRow
thread_set_daemon r = native (Int ∷ Reference ∷ []) (λ daemon this.
    on_thread r this (λ t. asks_for (sets_daemon t (not (is_zero daemon)))))

abbrev pub thread_get_name : Memory → NativeRow
thread_get_name r = thread_asks tells_name r

-- the String that is to be a name, which isn't null
abbrev pub named : Memory → ℕ → Option ℕ → Answer
named r t None = fails exceptions.NullPointerException
named r t (Some name) = on_units (units_at r name) (λ units. asks_for (sets_name t name))

abbrev pub thread_set_name : Memory → NativeRow
thread_set_name r = native (Reference ∷ Reference ∷ []) (λ name this. on_thread r this (λ t. named r t name))

-- threadId(): the number of the thread, and 1 (own)
abbrev pub thread_id : Memory → NativeRow
thread_id r = native (Reference ∷ []) (λ this. on_thread r this (λ t. returns_value r (values.Long (pos (suc t)))))

abbrev pub thread_get_state : Memory → NativeRow
thread_get_state r = thread_asks tells_state r

-- onSpinWait(): nothing
abbrev pub thread_on_spin_wait : Memory → NativeRow
thread_on_spin_wait r = native [] (returns r)

abbrev pub thread_sleep : NativeRow
thread_sleep = native (Long ∷ []) (λ millis. asks_for (sleeps millis))

-- ---- java.util.concurrent.locks.LockSupport: the blocker means nothing

abbrev pub park_blocker : NativeRow
park_blocker = native (Reference ∷ []) (λ blocker. asks_for (parks None))

abbrev pub park_nanos : NativeRow
park_nanos = native (Long ∷ []) (λ nanos. asks_for (parks (Some nanos)))

abbrev pub park_nanos_blocker : NativeRow
park_nanos_blocker = native (Long ∷ Reference ∷ []) (λ nanos blocker. asks_for (parks (Some nanos)))

-- unpark(null) does nothing
abbrev pub unparked : Memory → Option ℕ → Answer
unparked r None = returns r
unparked r (Some o) = on_number (thread_number r o) (λ t. asks_for (unparks t))

abbrev pub unpark : Memory → NativeRow
unpark r = native (Reference ∷ []) (λ thread. unparked r thread)

-- ---- java.lang.Object: the monitor of an object has its number

abbrev pub object_wait : NativeRow
object_wait = native (Reference ∷ []) (λ this. on_object this (λ o. asks_for (waits_on o None)))

abbrev pub object_wait_millis : NativeRow
object_wait_millis = native (Long ∷ Reference ∷ []) (λ millis this. on_object this (λ o. asks_for (waits_on o (Some millis))))

abbrev pub object_notify : NativeRow
object_notify = native (Reference ∷ []) (λ this. on_object this (λ o. asks_for (notifies o)))

abbrev pub object_notify_all : NativeRow
object_notify_all = native (Reference ∷ []) (λ this. on_object this (λ o. asks_for (notifies_all o)))

-- What native methods ask of a thread or a monitor, by the number that was found.
use Rattle.std.proofs.Common.{ℕ, ◌≡◌, Option, Some, None, refl, ap, ◌∙◌}
use Rattle.std.specs.Prelude.{Result, Ok, Err, is_some, true}
use Rattle.std.specs.Option.{option_map}
use Rattle.opcodes.specs.declared.op.ValueKind.TheVariants as kinds
use Rattle.lib_table.specs.declared.native.Native.{Native}
use Rattle.lib_table.specs.declared.native.Native.TheVariants as natives
use Rattle.link_model.specs.World.{World}
use Rattle.ref_model.specs.Memory.{Memory}
use Rattle.ref_model.specs.NativeRows as rows
use Rattle.ref_model.specs.declared.exception.Exception.{Exception}
use Rattle.ref_model.specs.Requests.{Request}
use Rattle.ref_model.specs.ThreadNatives.{on_object, on_thread}
use Rattle.native_methods.specs.Arguments.{answer_to}
use Rattle.native_methods.specs.Asked.{asked_of_thread, asked_of_monitor, given_number, IsObject, IsThread}
use Rattle.native_methods.specs.NativeStates.{with_natives}
use Rattle.native_methods.specs.declared.state.NativeState.{NativeState}

of_thread : (r : Memory) (this : Option ℕ) (p q : ℕ → Request) → ◌≡◌ {A = Option (ℕ → Request)} (Some p) (Some q)
    → ◌≡◌ {A = Option rows.Answer} (Some (on_thread r this (λ t. rows.asks_for (p t)))) (Some (on_thread r this (λ t. rows.asks_for (q t))))
of_thread r this p q e = let same : p ≡ q = cc in ap (λ (f : ℕ → Request). Some (on_thread r this (λ t. rows.asks_for (f t)))) same

pub thread_row : (w : World) (r : Memory) (this : Option ℕ) (n : Native) (q : ℕ → Request) → asked_of_thread n ≡ Some q
    → answer_to w r n kinds.Reference this ≡ Some (on_thread r this (λ t. rows.asks_for (q t)))
thread_row w r this natives.ThreadStart q e = of_thread r this _ q e
thread_row w r this natives.ThreadInterrupt q e = of_thread r this _ q e
thread_row w r this natives.ThreadIsInterrupted q e = of_thread r this _ q e
thread_row w r this natives.ThreadJoin q e = of_thread r this _ q e
thread_row w r this natives.ThreadIsAlive q e = of_thread r this _ q e
thread_row w r this natives.ThreadIsVirtual q e = of_thread r this _ q e
thread_row w r this natives.ThreadIsDaemon q e = of_thread r this _ q e
thread_row w r this natives.ThreadGetName q e = of_thread r this _ q e
thread_row w r this natives.ThreadGetState q e = of_thread r this _ q e
thread_row w r this n q e = cc

of_monitor : (this : Option ℕ) (p q : ℕ → Request) → ◌≡◌ {A = Option (ℕ → Request)} (Some p) (Some q)
    → ◌≡◌ {A = Option rows.Answer} (Some (on_object this (λ o. rows.asks_for (p o)))) (Some (on_object this (λ o. rows.asks_for (q o))))
of_monitor this p q e = let same : p ≡ q = cc in ap (λ (f : ℕ → Request). Some (on_object this (λ o. rows.asks_for (f o)))) same

pub monitor_row : (w : World) (r : Memory) (this : Option ℕ) (n : Native) (q : ℕ → Request) → asked_of_monitor n ≡ Some q
    → answer_to w r n kinds.Reference this ≡ Some (on_object this (λ o. rows.asks_for (q o)))
monitor_row w r this natives.ObjectWait q e = of_monitor this _ q e
monitor_row w r this natives.ObjectNotify q e = of_monitor this _ q e
monitor_row w r this natives.ObjectNotifyAll q e = of_monitor this _ q e
monitor_row w r this n q e = cc

-- ---- by the number that was found

-- what is done with a number, where this one was found, or none
abbrev Finds : ((ℕ → rows.Answer) → rows.Answer) → Result ℕ Exception → Type 0
Finds on found = (act : ℕ → rows.Answer) → on act ≡ given_number act found

pub asks_found : (on : (ℕ → rows.Answer) → rows.Answer) (found : Result ℕ Exception) (n : ℕ) (act : ℕ → rows.Answer) (a : rows.Answer) → Finds on found → found ≡ Ok n → act n ≡ a
    → ◌≡◌ {A = Option rows.Answer} (Some (on act)) (Some a)
asks_found on found n act a finds is same = ap (λ (x : rows.Answer). Some x) (finds act ∙ ap (given_number act) is ∙ same)

pub throws_found : (on : (ℕ → rows.Answer) → rows.Answer) (found : Result ℕ Exception) (e : Exception) (act : ℕ → rows.Answer) → Finds on found → found ≡ Err e
    → ◌≡◌ {A = Option rows.Answer} (Some (on act)) (Some (rows.fails e))
throws_found on found e act finds is = ap (λ (x : rows.Answer). Some x) (finds act ∙ ap (given_number act) is)

-- a method that does with the number what this request says, if there is one
asked_alike : (on : (ℕ → rows.Answer) → rows.Answer) (found : Result ℕ Exception) (n : ℕ) (q : Request) (ask : Option (ℕ → Request)) (answer : Option rows.Answer) → Finds on found → found ≡ Ok n
    → ((f : ℕ → Request) → ask ≡ Some f → answer ≡ Some (on (λ k. rows.asks_for (f k)))) → option_map (λ (f : ℕ → Request). f n) ask ≡ Some q → answer ≡ Some (rows.asks_for q)
asked_alike on found n q None answer finds is does asked = absurd cc
asked_alike on found n q (Some f) answer finds is does asked =
    let same : f n ≡ q = cc in
    does f refl ∙ asks_found on found n (λ k. rows.asks_for (f k)) (rows.asks_for q) finds is (ap rows.asks_for same)

thrown_alike : (on : (ℕ → rows.Answer) → rows.Answer) (found : Result ℕ Exception) (e : Exception) (ask : Option (ℕ → Request)) (answer : Option rows.Answer) → Finds on found → found ≡ Err e
    → ((f : ℕ → Request) → ask ≡ Some f → answer ≡ Some (on (λ k. rows.asks_for (f k)))) → is_some ask ≡ true → answer ≡ Some (rows.fails e)
thrown_alike on found e None answer finds is does some = absurd cc
thrown_alike on found e (Some f) answer finds is does some = does f refl ∙ throws_found on found e (λ k. rows.asks_for (f k)) finds is

pub thread_asks : (w : World) (s : NativeState) (r : Memory) (this : Option ℕ) (n : Native) (t : ℕ) (q : Request) (found : Result ℕ Exception) → IsThread s this found → found ≡ Ok t
    → option_map (λ (f : ℕ → Request). f t) (asked_of_thread n) ≡ Some q → answer_to w (with_natives s r) n kinds.Reference this ≡ Some (rows.asks_for q)
thread_asks w s r this n t q found finds is asked =
    asked_alike (on_thread (with_natives s r) this) found t q (asked_of_thread n) (answer_to w (with_natives s r) n kinds.Reference this) (finds r) is (thread_row w (with_natives s r) this n) asked

pub thread_throws : (w : World) (s : NativeState) (r : Memory) (this : Option ℕ) (n : Native) (e : Exception) (found : Result ℕ Exception) → IsThread s this found → found ≡ Err e
    → is_some (asked_of_thread n) ≡ true → answer_to w (with_natives s r) n kinds.Reference this ≡ Some (rows.fails e)
thread_throws w s r this n e found finds is some =
    thrown_alike (on_thread (with_natives s r) this) found e (asked_of_thread n) (answer_to w (with_natives s r) n kinds.Reference this) (finds r) is (thread_row w (with_natives s r) this n) some

pub monitor_asks : (w : World) (r : Memory) (this : Option ℕ) (n : Native) (o : ℕ) (q : Request) (found : Result ℕ Exception) → IsObject this found → found ≡ Ok o
    → option_map (λ (f : ℕ → Request). f o) (asked_of_monitor n) ≡ Some q → answer_to w r n kinds.Reference this ≡ Some (rows.asks_for q)
monitor_asks w r this n o q found finds is asked =
    asked_alike (on_object this) found o q (asked_of_monitor n) (answer_to w r n kinds.Reference this) finds is (monitor_row w r this n) asked

pub monitor_throws : (w : World) (r : Memory) (this : Option ℕ) (n : Native) (e : Exception) (found : Result ℕ Exception) → IsObject this found → found ≡ Err e
    → is_some (asked_of_monitor n) ≡ true → answer_to w r n kinds.Reference this ≡ Some (rows.fails e)
monitor_throws w r this n e found finds is some =
    thrown_alike (on_object this) found e (asked_of_monitor n) (answer_to w r n kinds.Reference this) finds is (monitor_row w r this n) some

-- How many threads keep the program going, where one of them is changed or comes to the others.
use Rattle.std.proofs.Common.{◌≡◌, ℕ, zero, suc, ◌+◌, ◌<◌, Bool, true, false, List, [], ◌∷◌, ◌++◌, length, set, slice_get, Option, Some, nat_lt, refl, ap, arith}
use Rattle.std.specs.Prelude.{filter}
use Rattle.std.specs.List.{list_any}
use Rattle.std.proofs.lemmas.Bool.{lt-ltb}
use Rattle.std.specs.Option.{option_map_or}
use Rattle.vthread_state.specs.declared.thread.Thread.{Thread}
use Rattle.vthread_state.specs.Threads.{keeps_going, times_true}

-- how many of them keep it going
abbrev pub going : List Thread → ℕ
going threads = length (filter keeps_going threads)

first : (x : Thread) (threads : List Thread) → going (x ∷ threads) ≡ times_true (keeps_going x) + going threads
first x threads = by (keeps_going x) refl
  where
    by : (b : Bool) → keeps_going x ≡ b → going (x ∷ threads) ≡ times_true (keeps_going x) + going threads
    by true e = rw e (omega arith)
    by false e = rw e (omega arith)

pub going_set : (threads : List Thread) (t : ℕ) (old new : Thread) → slice_get threads t ≡ Some old
    → going (set threads t new) + times_true (keeps_going old) ≡ going threads + times_true (keeps_going new)
going_set [] t old new e = absurd cc
going_set (x ∷ threads) zero old new e =
    omega (arith, first new threads, first x threads, ap (λ (y : Option Thread). option_map_or (λ (z : Thread). times_true (keeps_going z)) y 0) e)
going_set (x ∷ threads) (suc t) old new e =
    omega (arith, first x (set threads t new), first x threads, going_set threads t old new e)

pub going_some : (threads : List Thread) (t : ℕ) (old : Thread) → slice_get threads t ≡ Some old → keeps_going old ≡ true → 0 < going threads
going_some [] t old e is = absurd cc
going_some (x ∷ threads) zero old e is = omega (arith, first x threads, ap (λ (y : Option Thread). option_map_or (λ (z : Thread). times_true (keeps_going z)) y 0) e, ap times_true is)
going_some (x ∷ threads) (suc t) old e is = omega (arith, first x threads, going_some threads t old e is)

at_most_one : (b : Bool) → times_true b < 2
at_most_one true = omega arith
at_most_one false = omega arith

going_few : (threads : List Thread) → going threads < suc (length threads)
going_few [] = omega arith
going_few (x ∷ threads) = omega (arith, first x threads, at_most_one (keeps_going x), going_few threads)

pub going_fewer : (threads : List Thread) (t : ℕ) (old : Thread) → slice_get threads t ≡ Some old → keeps_going old ≡ false → going threads < length threads
going_fewer [] t old e is = absurd cc
going_fewer (x ∷ threads) zero old e is = omega (arith, first x threads, going_few threads, ap (λ (y : Option Thread). option_map_or (λ (z : Thread). times_true (keeps_going z)) y 0) e, ap times_true is)
going_fewer (x ∷ threads) (suc t) old e is = omega (arith, first x threads, at_most_one (keeps_going x), going_fewer threads t old e is)

pub going_more : (threads : List Thread) (new : Thread) → keeps_going new ≡ false → going (threads ++ new ∷ []) ≡ going threads
going_more [] new is = rw is refl
going_more (x ∷ threads) new is = omega (arith, first x (threads ++ new ∷ []), first x threads, going_more threads new is)

any_first : (x : Thread) (threads : List Thread) (b : Bool) → keeps_going x ≡ b → nat_lt 0 (going threads) ≡ list_any keeps_going threads
    → nat_lt 0 (going (x ∷ threads)) ≡ list_any keeps_going (x ∷ threads)
any_first x threads true e rest = rw e (lt-ltb 0 (suc (going threads)) (omega arith))
any_first x threads false e rest = rw e rest

pub going_any : (threads : List Thread) → nat_lt 0 (going threads) ≡ list_any keeps_going threads
going_any [] = refl
going_any (x ∷ threads) = any_first x threads (keeps_going x) refl (going_any threads)

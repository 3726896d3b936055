-- The live threads of a machine and those in its deques, by what its history gives.
use Rattle.std.proofs.Common.{◌≡◌, ◌<◌, ◌==◌, ℕ, List, length, not, Bool, Option, Some, Result, Ok, Err, ap, sym, ◌∙◌, arith}
use Rattle.std.specs.Prelude.{IfOk}
use Rattle.items.proofs.Binds.{bind_is}
use Rattle.schedule_model.specs.Run.{Scheduled, schedule_of}
use Rattle.thread_lists.specs.Lists.{count, first, total}
use Rattle.ref_model.specs.Opening.{opening}
use Rattle.ref_model.specs.State.{State}
use Rattle.ref_model.specs.Looks.{machine_from}
use Rattle.machine.specs.declared.machine.Machine.TheInside.{Inside}
use Rattle.machine.specs.Insides.{AreParts, IsSound, known}
use Rattle.machine.specs.Hands.{IsFirstInDeque, TellsIfInDeque}
use Rattle.machine.specs.Legal.{Works}
use Rattle.machine.specs.Live.{ListsLive, ListsMounted, live_below, live_threads, mounted_threads}
use Rattle.machine.specs.Machines.{Known, scheduled}
use Rattle.machine.proofs.LiveLaws.{live_of_state}

pub if_ok : {A E : Type 0} (r : Result A E) (P Q : A → Type 0) → ((x : A) → P x → Q x) → IfOk r P → IfOk r Q
if_ok (Ok x) P Q f p = f x p
if_ok (Err e) P Q f p = p

inner : (v w : Scheduled State) → ◌≡◌ {A = Option (Scheduled State)} (Some v) (Some w) → v ≡ w
inner v w e = cc

-- what the history gives
given : (a : Inside) (m : Known) → known a ≡ m → (x : IsSound a) → scheduled m ≡ Some x.sound.after
given a m same x =
    ap scheduled (sym same)
    ∙ bind_is (opening (known a).setting) (λ first. schedule_of (machine_from (known a).setting first) a.carriers a.history.items) x.sound.first (Some x.sound.after) x.sound.begins x.sound.runs

parts_of : (a : Inside) (m : Known) → known a ≡ m → (x : IsSound a) → Works m → AreParts a.carriers a.state a.deques a.mounted.items x.sound.after
parts_of a m same x works = x.sound.parts (λ halted. works (sym (ap (λ (k : Known). k.told) same) ∙ halted))

pub lists_live : (a : Inside) (m : Known) (live : List ℕ) → known a ≡ m → IsSound a → Works m
    → live ≡ live_below a.state.threads.threads (length a.state.threads.threads) → ListsLive m live
lists_live a m live same x works is = λ v at.
    is ∙ live_of_state a.state.threads.threads x.sound.after.state (parts_of a m same x works).state.rows
    ∙ ap (λ (w : Scheduled State). live_threads w.state) (inner x.sound.after v (sym (given a m same x) ∙ at))

pub lists_mounted : (a : Inside) (m : Known) (threads : List ℕ) → known a ≡ m → IsSound a → Works m → threads ≡ mounted_threads a.mounted.items → ListsMounted m threads
lists_mounted a m threads same x works is = λ v at.
    is ∙ ap mounted_threads (parts_of a m same x works).mounted
    ∙ ap (λ (w : Scheduled State). mounted_threads w.schedule.mounted) (inner x.sound.after v (sym (given a m same x) ∙ at))

-- ---- the deques

-- each carrier has one
pub deque_there : (a : Inside) (m : Known) (c : ℕ) → known a ≡ m → IsSound a → Works m → c < m.carriers → c < length a.deques.lists
deque_there a m c same x works below =
    let parts = parts_of a m same x works in
    let lists = ap (λ (ls : List (List ℕ)). length ls) parts.deques in
    let has = parts.carriers in
    let of = ap (λ (k : Known). k.carriers) same in
    omega arith

pub first_given : (a : Inside) (m : Known) (c : ℕ) (thread : Option ℕ) → known a ≡ m → IsSound a → Works m → thread ≡ first a.deques.lists c → IsFirstInDeque m c thread
first_given a m c thread same x works is = λ v at.
    is ∙ ap (λ ls. first ls c) (parts_of a m same x works).deques
    ∙ ap (λ (w : Scheduled State). first w.schedule.deques c) (inner x.sound.after v (sym (given a m same x) ∙ at))

pub in_deque_given : (a : Inside) (m : Known) (t : ℕ) (b : Bool) → known a ≡ m → IsSound a → Works m → b ≡ not (total (count t) a.deques.lists == 0) → TellsIfInDeque m t b
in_deque_given a m t b same x works is = λ v at.
    is ∙ ap (λ ls. not (total (count t) ls == 0)) (parts_of a m same x works).deques
    ∙ ap (λ (w : Scheduled State). not (total (count t) w.schedule.deques == 0)) (inner x.sound.after v (sym (given a m same x) ∙ at))

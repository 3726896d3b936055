-- A machine whose idle carrier takes up a thread.
use Rattle.std.proofs.Common.{◌≡◌, ◌<◌, ℕ, false, List, [], ◌∷◌, ◌++◌, Option, None, Some, length, slice_get, refl, ap, sym, subst, arith, cond}
use Rattle.std.specs.Prelude.{All, is_some, slice_set}
use Rattle.std.proofs.lemmas.Bool.{eq-eqb}
use Rattle.history.specs.declared.entry.Entry.{Entry}
use Rattle.history.specs.declared.entry.What.TheVariants.{Mount}
use Rattle.continuation.specs.Continuation.{Continuation}
use Rattle.thread_lists.specs.Lists.{Lists}
use Rattle.run_deques.specs.Take.{after_take, next}
use Rattle.schedule_model.specs.Run.{Scheduled}
use Rattle.ref_model.specs.declared.ending.Ending.{Ending}
use Rattle.ref_model.specs.Setting.{Setting}
use Rattle.ref_model.specs.State.{State}
use Rattle.ref_model.specs.Ending.{ending}
use Rattle.program_state.specs.declared.state.ProgramState.{ProgramState}
use Rattle.machine.specs.Hands.{AreDequesEmpty, HasHand, Holds, Idle, IsLive, IsLoose, Lives, OwesNothing}
use Rattle.machine.specs.Insides.{AreParts, IsConsistent, IsFrozen}
use Rattle.machine.specs.Legal.{GoesOn}
use Rattle.machine.specs.Machines.{Given, Known, machine_ending, scheduled}
use Rattle.machine.proofs.EndingLaws.{HasNone, has_none}
use Rattle.machine.proofs.EntryLaws.{entry_of, given, gives, goes_on, parts_are, program_after, with_one_more}
use Rattle.ref_model.specs.Looks.{look_of}
use Rattle.machine.proofs.LooseLaws.{taken_is_loose}
use Rattle.machine.proofs.MountLaws.{Before, is_frozen, is_live, mount_enters, mounted_hand, mounted_number, mounted_parts, then}
use Rattle.machine.proofs.PlaceLaws.{idle_within}
use Rattle.machine.proofs.StateLaws.{SameBut}

abbrev pub known_of : Setting → ℕ → List Entry → ℕ → Option Ending → Known
known_of p n h spare told = record { setting = p; carriers = n; history = h; spare = spare; told = told }

module _ (p : Setting) (n : ℕ) (state : ProgramState) (deques : Lists) (mounted : List (Option ℕ)) (h : List Entry) (told : Option Ending) (spare : ℕ) (x : IsConsistent p n state deques mounted h told) where
  pub there : scheduled (known_of p n h spare told) ≡ Some x.after
  there = gives (known_of p n h spare told) x.first x.after x.begins x.runs

  pub none_there : machine_ending (known_of p n h spare told) ≡ None → HasNone told (ending x.after.state) p.limits (length h)
  none_there none = has_none (known_of p n h spare told) x.after there none

  pub parts_there : machine_ending (known_of p n h spare told) ≡ None → AreParts n state deques mounted x.after
  parts_there none = parts_are p n state deques mounted h told x (none_there none).told

  pub idle_inside : (c : ℕ) → machine_ending (known_of p n h spare told) ≡ None → Idle (known_of p n h spare told) c → c < length mounted
  idle_inside c none idle =
      subst (λ ms. c < length ms) (sym (parts_there none).mounted) (idle_within x.after.schedule c (idle x.after there))

  pub deques_inside : (c : ℕ) → machine_ending (known_of p n h spare told) ≡ None → c < n → c < length deques.lists
  deques_inside c none below =
      let a = parts_there none in
      let same = ap (λ ls. length ls) a.deques in
      let count = a.carriers in
      omega arith

  pub empty_there : (c : ℕ) → machine_ending (known_of p n h spare told) ≡ None → All (λ deque. deque ≡ []) deques.lists → AreDequesEmpty (known_of p n h spare told)
  empty_there c none empty =
      given (known_of p n h spare told) x.first x.after (λ v. All (λ deque. deque ≡ []) v.schedule.deques) x.begins x.runs
      (subst (λ ls. All (λ deque. deque ≡ []) ls) (parts_there none).deques empty)

  module _ (c d t : ℕ) (none : machine_ending (known_of p n h spare told) ≡ None) (idle : Idle (known_of p n h spare told) c) (found : next deques.lists c ≡ Some (d, t)) where
    pub before : Before p x.first x.after n state deques mounted c d t
    before = record {
      after = program_after p n state deques mounted h told x;
      parts = parts_there none;
      going = (none_there none).going;
      idle = idle x.after there;
      found = found;
    }

    pub frozen_there : IsFrozen state.frozen.items t
    frozen_there = is_frozen p x.first x.after n state deques mounted c d t before

    pub next_kept : (new : ProgramState) (left : Lists) (on : List (Option ℕ)) (taken : Option (ℕ × ℕ)) → taken ≡ Some (d, t) → SameBut state new
        → new.frozen.items ≡ slice_set state.frozen.items t None → left ≡ record deques { lists = after_take deques.lists taken } → on ≡ slice_set mounted c (Some t)
        → IsConsistent p n new left on (h ++ entry_of c (Mount t) ∷ []) told
    next_kept new left on taken is same frozen lists puts =
        let z = none_there none in
        subst (λ e. IsConsistent p n new left on (h ++ entry_of c (Mount t) ∷ []) e) (sym z.told)
        (with_one_more p n state new deques left mounted on h told x c (Mount t) (then p x.first x.after n state deques mounted c d t before)
        (mount_enters p x.first x.after n state deques mounted c d t before) (let few = z.room in omega arith)
        (mounted_parts p x.first x.after n state deques mounted c d t before new left on taken is same frozen lists puts))

    pub number : (k : Continuation) → slice_get state.frozen.items t ≡ Some (Some k) → k.thread ≡ t
    number k at = mounted_number p x.first x.after n state deques mounted c d t before k at

    -- what is told of the new machine
    after_mount : (room : ℕ) (P : Scheduled State → Type 0) → P (then p x.first x.after n state deques mounted c d t before)
        → Given (known_of p n (h ++ entry_of c (Mount t) ∷ []) room told) P
    after_mount room P is =
        let w = then p x.first x.after n state deques mounted c d t before in
        given (known_of p n (h ++ entry_of c (Mount t) ∷ []) room told) x.first w P x.begins
        (goes_on p n state deques mounted h told x c (Mount t) w (mount_enters p x.first x.after n state deques mounted c d t before)) is

    pub next_holds : (room : ℕ) (k : Continuation) → slice_get state.frozen.items t ≡ Some (Some k)
        → Holds (known_of p n (h ++ entry_of c (Mount t) ∷ []) room told) c k.thread 0 k.stack.frames
    next_holds room k at =
        subst (λ u. Holds (known_of p n (h ++ entry_of c (Mount t) ∷ []) room told) c u 0 k.stack.frames) (sym (number k at))
        (after_mount room (λ v. HasHand p v c t 0 k.stack.frames) (mounted_hand p x.first x.after n state deques mounted c d t before k at))

    pub next_lives : (room : ℕ) → Lives (known_of p n (h ++ entry_of c (Mount t) ∷ []) room told) t
    next_lives room = after_mount room (λ v. IsLive v.state t) (is_live p x.first x.after n state deques mounted c d t before)

    pub next_free : (room : ℕ) → OwesNothing (known_of p n (h ++ entry_of c (Mount t) ∷ []) room told) t
    next_free room = after_mount room (λ v. v.schedule.owes t ≡ false) (ap (λ b. cond b false (x.after.schedule.owes t)) (eq-eqb t t refl))

    pub next_loose : (room : ℕ) → IsLoose (known_of p n (h ++ entry_of c (Mount t) ∷ []) room told) t
    next_loose room =
        after_mount room (λ v. (look_of p.world v.state).pinned t ≡ false)
        (taken_is_loose p x.first x.after (then p x.first x.after n state deques mounted c d t before) before.after c t
        (mount_enters p x.first x.after n state deques mounted c d t before) (ap is_some before.going))

    pub next_going : (room : ℕ) → GoesOn (known_of p n (h ++ entry_of c (Mount t) ∷ []) room told)
    next_going room = record {
      told = (none_there none).told;
      going = after_mount room (λ v. ending v.state ≡ None) (none_there none).going;
    }

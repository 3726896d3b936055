-- The history of a machine with one entry more.
use Rattle.std.proofs.Common.{◌≡◌, ◌+◌, ◌<◌, ◌-◌, ℕ, List, [], ◌∷◌, ◌++◌, Option, None, Some, length, refl, ap, subst, ◌∙◌, arith}
use Rattle.items.proofs.Binds.{bind_is}
use Rattle.history.specs.declared.entry.Entry.{Entry}
use Rattle.history.specs.declared.entry.What.{What}
use Rattle.thread_lists.specs.Lists.{Lists}
use Rattle.schedule_model.specs.Run.{Scheduled, schedule_from, schedule_of, scheduled_after}
use Rattle.schedule_model.specs.Woken.{IsScheduled}
use Rattle.schedule_model.proofs.PrefixLaws.{histories_go_on as schedule_goes_on}
use Rattle.schedule_model.proofs.RunLaws.{scheduled as scheduled_by}
use Rattle.ref_model.specs.declared.ending.Ending.{Ending}
use Rattle.ref_model.specs.declared.ending.Ending.TheVariants.{Halted}
use Rattle.ref_model.specs.Setting.{Setting}
use Rattle.ref_model.specs.State.{State}
use Rattle.ref_model.specs.Opening.{opening}
use Rattle.ref_model.specs.Looks.{look_of, machine_from}
use Rattle.schedule_soundness.specs.HistoryLaws.{IsProgramAfter}
use Rattle.schedule_soundness.proofs.Histories.{is_after}
use Rattle.program_state.specs.declared.state.ProgramState.{ProgramState}
use Rattle.machine.specs.Insides.{AreParts, IsConsistent}
use Rattle.machine.specs.Machines.{Given, Known, scheduled}

-- ---- lists

pub one_longer : {A : Type 0} (xs : List A) (x : A) → length (xs ++ x ∷ []) ≡ length xs + 1
one_longer [] x = refl
one_longer (y ∷ ys) x = let more = one_longer ys x in omega arith

-- ---- what a history gives

pub program_after : (p : Setting) (n : ℕ) (state : ProgramState) (deques : Lists) (mounted : List (Option ℕ)) (h : List Entry) (told : Option Ending)
    (x : IsConsistent p n state deques mounted h told) → IsProgramAfter p x.first x.after
program_after p n state deques mounted h told x =
    record { begins = x.begins; plain = x.accepted.unpinned; carriers = n; some = x.some; history = h; runs = x.runs }

pub is_scheduled : (p : Setting) (first : State) (v : Scheduled State) → IsProgramAfter p first v → IsScheduled (look_of p.world v.state) v.schedule
is_scheduled p first v a = (scheduled_by (machine_from p first) v (is_after p first v a)).1

pub gives : (m : Known) (first : State) (v : Scheduled State) → opening m.setting ≡ Some first
    → schedule_of (machine_from m.setting first) m.carriers m.history ≡ Some v → scheduled m ≡ Some v
gives m first v begins runs =
    bind_is (opening m.setting) (λ first. schedule_of (machine_from m.setting first) m.carriers m.history) first (Some v) begins runs

same_after : (o : Option (Scheduled State)) (v w : Scheduled State) → o ≡ Some v → o ≡ Some w → v ≡ w
same_after o v w e f = cc

-- a fact of what it gives is one of all that it gives
pub given : (m : Known) (first : State) (v : Scheduled State) (P : Scheduled State → Type 0) → opening m.setting ≡ Some first
    → schedule_of (machine_from m.setting first) m.carriers m.history ≡ Some v → P v → Given m P
given m first v P begins runs is w there = subst P (same_after (scheduled m) v w (gives m first v begins runs) there) is

-- the parts are there, unless the run was given up
pub parts_are : (p : Setting) (n : ℕ) (state : ProgramState) (deques : Lists) (mounted : List (Option ℕ)) (h : List Entry) (told : Option Ending)
    (x : IsConsistent p n state deques mounted h told) → told ≡ None → AreParts n state deques mounted x.after
parts_are p n state deques mounted h told x none = x.parts (λ given_up. absurd (some_none told given_up none))
  where
    some_none : (o : Option Ending) → o ≡ Some Halted → o ≡ None → ⊥
    some_none o e f = absurd cc

-- ---- one entry more

abbrev pub entry_of : ℕ → What → Entry
entry_of c what = record { carrier = c; what = what }

pub goes_on : (p : Setting) (n : ℕ) (state : ProgramState) (deques : Lists) (mounted : List (Option ℕ)) (h : List Entry) (told : Option Ending)
    (x : IsConsistent p n state deques mounted h told) (c : ℕ) (what : What) (w : Scheduled State)
    → scheduled_after (machine_from p x.first) x.after c what ≡ Some w
    → schedule_of (machine_from p x.first) n (h ++ entry_of c what ∷ []) ≡ Some w
goes_on p n state deques mounted h told x c what w e =
    let m = machine_from p x.first in
    schedule_goes_on m n h (entry_of c what ∷ [])
    ∙ bind_is (schedule_of m n h) (λ v. schedule_from m v (entry_of c what ∷ [])) x.after (Some w) x.runs
    (bind_is (scheduled_after m x.after c what) (λ v. schedule_from m v []) w (Some w) e refl)

pub with_one_more : (p : Setting) (n : ℕ) (state new : ProgramState) (deques left : Lists) (mounted on : List (Option ℕ)) (h : List Entry) (told : Option Ending)
    (x : IsConsistent p n state deques mounted h told) (c : ℕ) (what : What) (w : Scheduled State)
    → scheduled_after (machine_from p x.first) x.after c what ≡ Some w → length h < p.limits.events → AreParts n new left on w
    → IsConsistent p n new left on (h ++ entry_of c what ∷ []) None
with_one_more p n state new deques left mounted on h told x c what w e room parts = record {
  accepted = x.accepted;
  some = x.some;
  first = x.first;
  begins = x.begins;
  after = w;
  runs = goes_on p n state deques mounted h told x c what w e;
  few = let longer = one_longer h (entry_of c what) in omega arith;
  cause = λ e is. absurd cc;
  parts = λ works. parts;
}

-- there is room for one entry less
pub room_less : (before after : ℕ) (h entries : List Entry) (e : Entry) → after ≡ before → entries ≡ h ++ e ∷ [] → after - length entries ≡ before - length h - 1
room_less before after h entries e same is =
    let count = ap (λ es. length es) is in
    let longer = one_longer h e in
    omega arith

-- The endings of a machine, by what its history gives.
use Rattle.std.proofs.Common.{◌≡◌, ◌⊎◌, inl, inr, ℕ, ◌+◌, ◌≤◌, Bool, true, false, Option, Some, None, length, refl, ap, sym, ◌∙◌}
use Rattle.std.proofs.lemmas.Bool.{ltb-false}
use Rattle.std.specs.Option.{option_or}
use Rattle.std.specs.Prelude.{is_some, nat_lt, if◌then◌else◌}
use Rattle.items.proofs.Binds.{bind_is}
use Rattle.schedule_model.specs.Run.{Scheduled, schedule_of}
use Rattle.ref_model.specs.declared.ending.Ending.{Ending}
use Rattle.ref_model.specs.declared.ending.Ending.TheVariants.{Halted, Limit}
use Rattle.ref_model.specs.declared.ending.Which.TheVariants.{Events}
use Rattle.ref_model.specs.declared.limits.Limits.{Limits}
use Rattle.ref_model.specs.State.{State}
use Rattle.ref_model.specs.Ending.{ending}
use Rattle.ref_model.specs.Opening.{opening}
use Rattle.ref_model.specs.Looks.{machine_from}
use Rattle.machine.specs.Legal.{GoesOn, IsLegal}
use Rattle.machine.specs.Machines.{Known, ending_in, limit_reached, machine_ending, scheduled, with_ending}
use Rattle.carrier_turns.specs.Turns.{StallsAreTold}

-- ---- what the history gives

pub is_scheduled : (m : Known) → (x : IsLegal m) → scheduled m ≡ Some x.after
is_scheduled m x =
    bind_is (opening m.setting) (λ first. schedule_of (machine_from m.setting first) m.carriers m.history) x.first (Some x.after) x.begins x.runs

pub ending_at : (m : Known) (v : Scheduled State) → scheduled m ≡ Some v → machine_ending m ≡ ending_in m v.state
ending_at m v at = bind_is (scheduled m) (λ (w : Scheduled State). ending_in m w.state) v (ending_in m v.state) at refl

-- ---- with an ending, or without

pub ends_or_goes : {A : Type 0} (o : Option A) → (is_some o ≡ true) ⊎ (o ≡ None)
ends_or_goes None = inr refl
ends_or_goes (Some x) = inl refl

pub not_both : {A : Type 0} (o : Option A) → is_some o ≡ true → o ≡ None → ⊥
not_both None e f = absurd cc
not_both (Some x) e f = absurd cc

pub none_is_no : {A : Type 0} (o : Option A) → o ≡ None → is_some o ≡ false
none_is_no None e = refl
none_is_no (Some x) e = absurd cc

pub none_by : {A : Type 0} (o : Option A) → is_some o ≡ false → o ≡ None
none_by None e = refl
none_by (Some x) e = absurd cc

-- an ending that was told is one
pub told_ends : (m : Known) (e : Ending) → IsLegal m → is_some (machine_ending (with_ending m e)) ≡ true
told_ends m e x = ap is_some (ending_at (with_ending m e) x.after (is_scheduled m x))

both_none : {A : Type 0} (a b : Option A) → option_or a b ≡ None → (a ≡ None) × (b ≡ None)
both_none None b e = (refl, e)
both_none (Some x) b e = absurd cc

room_within : (limits : Limits) (n : ℕ) → limit_reached limits n ≡ None → n + 3 ≤ limits.events
room_within limits n none = by (nat_lt limits.events (n + 3)) refl none
  where
    by : (b : Bool) → nat_lt limits.events (n + 3) ≡ b → (if b then Some (Limit Events limits.events) else None) ≡ None → n + 3 ≤ limits.events
    by true is none = absurd cc
    by false is none = ltb-false limits.events (n + 3) is

-- nothing was told, the program goes on, and there is room for three entries
pub record Going (m : Known) (v : Scheduled State) : Type 0 where
  pub told : m.told ≡ None
  pub own : ending v.state ≡ None
  pub room : length m.history + 3 ≤ m.setting.limits.events

pub going : (m : Known) (v : Scheduled State) → scheduled m ≡ Some v → machine_ending m ≡ None → Going m v
going m v at none =
    let rest = option_or (ending v.state) (limit_reached m.setting.limits (length m.history)) in
    let all = both_none m.told rest (sym (ending_at m v at) ∙ none) in
    let own = both_none (ending v.state) (limit_reached m.setting.limits (length m.history)) all.1 in
    record { told = all.0; own = own.0; room = room_within m.setting.limits (length m.history) own.1 }

-- while the program goes on, the run ends at the limit of events alone
pub ends_by_limit : (m : Known) → IsLegal m → GoesOn m → machine_ending m ≡ limit_reached m.setting.limits (length m.history)
ends_by_limit m x goes =
    let at = is_scheduled m x in
    let limit = limit_reached m.setting.limits (length m.history) in
    ending_at m x.after at ∙ ap (λ o. option_or o (option_or (ending x.after.state) limit)) goes.told ∙ ap (λ o. option_or o limit) (goes.going x.after at)

pub goes_on : (m : Known) → IsLegal m → machine_ending m ≡ None → GoesOn m
goes_on m x none = record { told = (going m x.after (is_scheduled m x) none).told; going = λ v at. (going m v at none).own }

pub room_for : (m : Known) → IsLegal m → machine_ending m ≡ None → length m.history + 3 ≤ m.setting.limits.events
room_for m x none = (going m x.after (is_scheduled m x) none).room

-- a program that has ended has an ending, whatever was told
pub own_ends : (m : Known) (v : Scheduled State) (e : Ending) → scheduled m ≡ Some v → ending v.state ≡ Some e → is_some (machine_ending m) ≡ true
own_ends m v e at own =
    ap is_some (ending_at m v at) ∙ by m.told (ending v.state) (limit_reached m.setting.limits (length m.history)) own
  where
    by : (told own limit : Option Ending) → own ≡ Some e → is_some (option_or told (option_or own limit)) ≡ true
    by (Some x) own limit is = refl
    by None (Some x) limit is = refl
    by None None limit is = absurd cc

-- ---- stalls

-- where there is an ending nothing has to be told
pub told_over : (m : Known) → is_some (machine_ending m) ≡ true → StallsAreTold m
told_over m over = λ v at stalled. over

-- a run that was given up has an ending
pub halted_ends : (m : Known) → IsLegal m → m.told ≡ Some Halted → is_some (machine_ending m) ≡ true
halted_ends m x halted =
    ap is_some (ending_at m x.after (is_scheduled m x)) ∙ ap (λ o. is_some (option_or o (option_or (ending x.after.state) (limit_reached m.setting.limits (length m.history))))) halted

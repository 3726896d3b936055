-- What it means that a run has no ending yet.
use Rattle.std.proofs.Common.{inl, inr, ◌≡◌, ◌+◌, ◌≤◌, ℕ, Bool, true, false, Option, None, Some, length, refl, ap, sym, ◌∙◌, cond, not}
use Rattle.std.specs.Prelude.{is_none, is_some, nat_lt}
use Rattle.std.specs.Option.{option_or}
use Rattle.std.proofs.lemmas.Bool.{cases_Bool, ltb-false}
use Rattle.items.specs.Options.{◌>>=◌}
use Rattle.schedule_model.specs.Run.{Scheduled}
use Rattle.ref_model.specs.declared.ending.Ending.{Ending}
use Rattle.ref_model.specs.declared.ending.Ending.TheVariants.{Limit}
use Rattle.ref_model.specs.declared.ending.Which.TheVariants.{Events}
use Rattle.ref_model.specs.declared.limits.Limits.{Limits}
use Rattle.ref_model.specs.State.{State}
use Rattle.ref_model.specs.Ending.{ending}
use Rattle.machine.specs.Machines.{Known, ending_in, limit_reached, machine_ending, scheduled}

-- nothing was told, the program hasn't ended, and the limit isn't reached
pub record HasNone (other : Option Ending) (ended : Option Ending) (limits : Limits) (entries : ℕ) : Type 0 where
  pub told : other ≡ None
  pub going : ended ≡ None
  pub room : entries + 3 ≤ limits.events

limit_room : (limits : Limits) (n : ℕ) → limit_reached limits n ≡ None → n + 3 ≤ limits.events
limit_room limits n e =
    elim (cases_Bool (nat_lt limits.events (n + 3))) [
      | inl over ↦ let no : ◌≡◌ {A = Option Ending} (Some (Limit Events limits.events)) None = sym (ap (λ b. cond b (Some (Limit Events limits.events)) None) over) ∙ e in absurd cc
      | inr room ↦ ltb-false limits.events (n + 3) room
    ]

none_of : (told ended : Option Ending) (limits : Limits) (n : ℕ) → option_or told (option_or ended (limit_reached limits n)) ≡ None → HasNone told ended limits n
none_of (Some x) ended limits n e = absurd cc
none_of None (Some x) limits n e = absurd cc
none_of None None limits n e = record { told = refl; going = refl; room = limit_room limits n e }

pub has_none : (m : Known) (v : Scheduled State) → scheduled m ≡ Some v → machine_ending m ≡ None
    → HasNone m.told (ending v.state) m.setting.limits (length m.history)
has_none m v there none =
    none_of m.told (ending v.state) m.setting.limits (length m.history)
    (sym (ap (λ o. o >>= λ v. ending_in m v.state) there) ∙ none)

pub ending_is : (m : Known) (v : Scheduled State) → scheduled m ≡ Some v → machine_ending m ≡ ending_in m v.state
ending_is m v there = ap (λ o. o >>= λ v. ending_in m v.state) there

pub not_ended : (r : State) → ending r ≡ None → is_some (ending r) ≡ false
not_ended r going = ap is_some going

-- what a test tells of an ending
pub none_from : (o : Option Ending) (b : Bool) → is_some o ≡ not b → b ≡ true → o ≡ None
none_from None b e f = refl
none_from (Some x) b e f = let bad : true ≡ false = e ∙ ap not f in absurd cc

pub some_from : (o : Option Ending) (b : Bool) → is_some o ≡ not b → b ≡ false → is_none o ≡ false
some_from None b e f = let bad : false ≡ true = e ∙ ap not f in absurd cc
some_from (Some x) b e f = refl

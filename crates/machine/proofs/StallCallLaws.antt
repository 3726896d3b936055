-- A machine that looks whether its program can go on.
use Rattle.std.proofs.Common.{◌≡◌, ℕ, Bool, true, false, List, Option, None, Some, length, slice_get, refl, ap, sym, subst, ◌∙◌}
use Rattle.std.specs.Prelude.{◌↔◌, IfNone, IfSome, IsNone, is_some}
use Rattle.std.specs.List.{list_any}
use Rattle.std.proofs.lemmas.Bool.{eq-eqb}
use Rattle.history.specs.declared.entry.Entry.{Entry}
use Rattle.thread_lists.specs.Lists.{Lists}
use Rattle.schedule_model.specs.Entries.{holds}
use Rattle.schedule_model.specs.Stalled.{is_starved}
use Rattle.ref_model.specs.declared.ending.Ending.{Ending}
use Rattle.ref_model.specs.declared.ending.Ending.TheVariants.{Stalled, Starved}
use Rattle.ref_model.specs.Setting.{Setting}
use Rattle.ref_model.specs.State.{State}
use Rattle.ref_model.specs.Step.{enabled}
use Rattle.ref_model.specs.Looks.{is_stalled, look_of}
use Rattle.program_state.specs.declared.state.ProgramState.{ProgramState}
use Rattle.program_state.specs.Deadlines.{IsLeast, deadlines_of}
use Rattle.program_state.specs.States.{IsState}
use Rattle.machine.specs.Insides.{AreParts, IsConsistent, is_out}
use Rattle.machine.specs.Legal.{HasNotStalled, HasNotStarved, IsCause}
use Rattle.machine.specs.Machines.{Given, machine_ending}
use Rattle.machine.specs.Pins.{ArePins, KnowsPins}
use Rattle.machine.specs.Stalls.{AreBelow, AreKeptBack, DequesAreBelow, GoesOnHere, goes_on}
use Rattle.machine.proofs.EndingLaws.{not_ended}
use Rattle.machine.proofs.EntryLaws.{given, is_scheduled, program_after}
use Rattle.machine.proofs.NextLaws.{known_of, none_there, parts_there, there}
use Rattle.machine.proofs.PlaceLaws.{mounted_out}
use Rattle.machine.proofs.StallLaws.{deque_goes, deques_below, mounted_goes, none_goes, timed_goes}
use Rattle.machine.proofs.StarveLaws.{feeds, starves}
use Rattle.machine.proofs.StateLaws.{out_below}

same_ending : (a b : Ending) → ◌≡◌ {A = Option Ending} (Some a) (Some b) → a ≡ b
same_ending a b e = cc

pub kept_by_none : (o : Option ℕ) (P : Type 0) → IfNone o P → is_some o ≡ false → P
kept_by_none None P holds none = holds
kept_by_none (Some c) P holds none = absurd cc

module _ (p : Setting) (n : ℕ) (state : ProgramState) (deques : Lists) (mounted : List (Option ℕ)) (h : List Entry) (told : Option Ending) (spare : ℕ) (x : IsConsistent p n state deques mounted h told)
    (none : machine_ending (known_of p n h spare told) ≡ None) where
  parts : AreParts n state deques mounted x.after
  parts = parts_there p n state deques mounted h told spare x none

  pub mounted_below_all : AreBelow mounted (length state.threads.threads)
  mounted_below_all c t at =
      let there : slice_get x.after.schedule.mounted c ≡ Some (Some t) = ap (λ ms. slice_get ms c) (sym parts.mounted) ∙ at in
      out_below state x.after.state (is_out x.after.schedule) t parts.state
      (mounted_out x.after.schedule c t (ap (holds t) there ∙ eq-eqb t t refl))

  not_stalled : is_stalled p.world x.after.state ≡ false → HasNotStalled (known_of p n h spare told) (known_of p n h spare told)
  not_stalled goes = record {
    same = refl;
    going = given (known_of p n h spare told) x.first x.after (λ v. is_stalled p.world v.state ≡ false) x.begins x.runs goes;
  }

  pub carriers_all : n ≡ length deques.lists
  carriers_all = sym (ap length parts.deques ∙ parts.carriers)

  pub deques_below_all : DequesAreBelow deques.lists (length state.threads.threads)
  deques_below_all =
      subst (λ ls. DequesAreBelow ls (length state.threads.threads)) (sym parts.deques)
      (deques_below p x.first x.after state (is_out x.after.schedule) (program_after p n state deques mounted h told x)
      (none_there p n state deques mounted h told spare x none).going parts.state)

  pub by_deque : (b : Bool) → ((r : State) (out : ℕ → Bool) → IsState state r out → b ≡ list_any (list_any (enabled r)) deques.lists) → b ≡ true
      → HasNotStalled (known_of p n h spare told) (known_of p n h spare told)
  by_deque b tells some =
      not_stalled (deque_goes p x.after.state deques.lists (sym (tells x.after.state (is_out x.after.schedule) parts.state) ∙ some))

  pub by_mounted : (b : Bool) → ((r : State) (out : ℕ → Bool) → IsState state r out → b ≡ list_any (goes_on r) mounted) → b ≡ true
      → HasNotStalled (known_of p n h spare told) (known_of p n h spare told)
  by_mounted b tells some =
      not_stalled (mounted_goes p x.after.state mounted (sym (tells x.after.state (is_out x.after.schedule) parts.state) ∙ some))

  pub by_time : (o : Option ℕ) → ((r : State) (out : ℕ → Bool) → IsState state r out → IfSome o (IsLeast (deadlines_of r.now r.threads))) → is_some o ≡ true
      → HasNotStalled (known_of p n h spare told) (known_of p n h spare told)
  by_time None tells some = absurd cc
  by_time (Some d) tells some =
      let least = tells x.after.state (is_out x.after.schedule) parts.state in
      not_stalled (timed_goes p x.after.state least.thread d least.is)

  pub stalled_kept : (a b : Bool) (time : Option ℕ)
      → ((r : State) (out : ℕ → Bool) → IsState state r out → a ≡ list_any (list_any (enabled r)) deques.lists) → a ≡ false
      → ((r : State) (out : ℕ → Bool) → IsState state r out → b ≡ list_any (goes_on r) mounted) → b ≡ false
      → ((r : State) (out : ℕ → Bool) → IsState state r out → IsNone time ↔ ((t : ℕ) → deadlines_of r.now r.threads t ≡ None)) → is_some time ≡ false
      → IsConsistent p n state deques mounted h (Some Stalled)
  stalled_kept a b time ready nobody tells off times never = record {
    accepted = x.accepted;
    some = x.some;
    first = x.first;
    begins = x.begins;
    after = x.after;
    runs = x.runs;
    few = x.few;
    cause = λ e there. subst (IsCause p x.after) (same_ending Stalled e there)
        (none_goes p x.first x.after (program_after p n state deques mounted h told x) (none_there p n state deques mounted h told spare x none).going
        ((times x.after.state (is_out x.after.schedule) parts.state).0 never)
        (ap (list_any (list_any (enabled x.after.state))) (sym parts.deques) ∙ sym (ready x.after.state (is_out x.after.schedule) parts.state) ∙ nobody)
        (ap (list_any (goes_on x.after.state)) (sym parts.mounted) ∙ sym (tells x.after.state (is_out x.after.schedule) parts.state) ∙ off));
    parts = λ works. parts;
  }

  -- ---- pinned threads

  goes_on_still : (look_of p.world x.after.state).ended ≡ false
  goes_on_still = not_ended x.after.state (none_there p n state deques mounted h told spare x none).going

  module _ (pins : List Bool) (known : KnowsPins (known_of p n h spare told) pins) where
    are_pins : ArePins (look_of p.world x.after.state) x.after.schedule.mounted pins
    are_pins = known.known x.after (there p n state deques mounted h told spare x)

    pub pins_match : length pins ≡ length mounted
    pins_match =
        let deques_are = is_scheduled p x.first x.after (program_after p n state deques mounted h told x) in
        known.sizes ∙ sym parts.carriers ∙ deques_are.sizes ∙ ap length (sym parts.mounted)

    pub starved_kept : Given (known_of p n h spare told) (λ v. is_stalled p.world v.state ≡ false)
        → ((r : State) (out : ℕ → Bool) → IsState state r out → AreKeptBack r mounted pins) → IsConsistent p n state deques mounted h (Some Starved)
    starved_kept going kept = record {
      accepted = x.accepted;
      some = x.some;
      first = x.first;
      begins = x.begins;
      after = x.after;
      runs = x.runs;
      few = x.few;
      cause = λ e told_is. subst (IsCause p x.after) (same_ending Starved e told_is)
          (starves p x.after pins are_pins goes_on_still (going x.after (there p n state deques mounted h told spare x))
          (subst (λ ms. AreKeptBack x.after.state ms pins) parts.mounted (kept x.after.state (is_out x.after.schedule) parts.state)));
      parts = λ works. parts;
    }

    pub not_starved : (c : ℕ) → ((r : State) (out : ℕ → Bool) → IsState state r out → GoesOnHere r mounted pins c)
        → HasNotStarved (known_of p n h spare told) (known_of p n h spare told)
    not_starved c goes = record {
      same = refl;
      going = given (known_of p n h spare told) x.first x.after (λ v. is_starved (look_of p.world v.state) v.schedule ≡ false) x.begins x.runs
          (feeds p x.after pins are_pins goes_on_still c
          (subst (λ ms. GoesOnHere x.after.state ms pins c) parts.mounted (goes x.after.state (is_out x.after.schedule) parts.state)));
    }

    pub by_first : (o : Option ℕ) → IfSome o (λ c. (r : State) (out : ℕ → Bool) → IsState state r out → GoesOnHere r mounted pins c) → is_some o ≡ true
        → HasNotStarved (known_of p n h spare told) (known_of p n h spare told)
    by_first None goes some = absurd cc
    by_first (Some c) goes some = not_starved c goes

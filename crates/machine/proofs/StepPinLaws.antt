-- Whether mounted threads are pinned, after a step that was tried.
use Rattle.std.proofs.Common.{◌≡◌, ◌≢◌, ◌<◌, ℕ, suc, Bool, false, List, [], ◌∷◌, ◌++◌, Option, None, Some, get_or, length, slice_get, refl, ap, sym, subst, ◌∙◌, arith}
use Rattle.std.specs.Prelude.{Err, IfOk, Ok, Result}
use Rattle.std.proofs.lemmas.Option.{slice_get_within}
use Rattle.items.specs.declared.no_memory.NoMemory.{NoMemory}
use Rattle.history.specs.declared.entry.Entry.{Entry}
use Rattle.history.specs.declared.entry.What.TheVariants.{Step}
use Rattle.vthread_state.specs.declared.phase.Phase.TheVariants.{Run}
use Rattle.thread_lists.specs.Lists.{Lists}
use Rattle.state_model.specs.Frames.{Frame}
use Rattle.ref_model.specs.declared.ending.Ending.{Ending}
use Rattle.schedule_model.specs.Run.{Scheduled}
use Rattle.schedule_model.proofs.EntryLaws.{holds_is}
use Rattle.ref_model.specs.Setting.{Setting}
use Rattle.ref_model.specs.State.{JavaThread, State}
use Rattle.program_state.specs.declared.state.ProgramState.{ProgramState}
use Rattle.interp_local.specs.declared.fetched.Fetched.{Fetched}
use Rattle.schedule_soundness.proofs.Histories.{histories_go_on}
use Rattle.machine.specs.declared.after.After.{After}
use Rattle.machine.specs.declared.made.Attempt.{Attempt}
use Rattle.machine.specs.declared.made.Attempt.TheVariants.{Made, LacksThreads, ReadsClock}
use Rattle.machine.specs.declared.made.StepResult.{StepResult}
use Rattle.machine.specs.declared.made.StepResult.TheVariants as results
use Rattle.machine.specs.Hands.{Holds, MayStep, OwesNothing}
use Rattle.machine.specs.Insides.{AreParts, IsConsistent, is_out}
use Rattle.machine.specs.Machines.{Known}
use Rattle.machine.specs.Pins.{KnowsPins, NotesOwn}
use Rattle.machine.specs.Steps.{Enters, IsEntered, told_of}
use Rattle.machine.specs.Turns.{IsStepReady}
use Rattle.machine.proofs.EntryLaws.{entry_of, is_scheduled, parts_are, program_after}
use Rattle.machine.proofs.NextLaws.{known_of, there}
use Rattle.machine.proofs.PinLaws.{knows_by, noted_so}
use Rattle.machine.proofs.StepCallLaws.{steps_from}
use Rattle.machine.proofs.StateLaws.{rows_length}
use Rattle.machine.proofs.StepEndLaws.{HasMade}

module _ (p : Setting) (n : ℕ) (state : ProgramState) (deques : Lists) (on : List (Option ℕ)) (h : List Entry) (told : Option Ending) (spare : ℕ) (x : IsConsistent p n state deques on h told)
    (c t k now : ℕ) (frames : List Frame) (next : Option Fetched) (none : told ≡ None) (holds : Holds (known_of p n h spare told) c t k frames)
    (free : OwesNothing (known_of p n h spare told) t) (may : MayStep (known_of p n h spare told) t)
    (ready : IsStepReady (known_of p n h spare told) t k frames next) where
  -- the carrier is there, and so is the thread
  pub carrier_there : (pins : List Bool) → KnowsPins (known_of p n h spare told) pins → c < length pins
  carrier_there pins known =
      let v = x.after in
      let hand = holds v (there p n state deques on h told spare x) in
      let within = slice_get_within v.schedule.mounted c (Some t) (holds_is t (slice_get v.schedule.mounted c) hand.mounted) in
      let sizes = (is_scheduled p x.first v (program_after p n state deques on h told x)).sizes in
      let carriers = (parts_are p n state deques on h told x none).carriers in
      let pins_are = known.sizes in
      omega arith

  there_by : (new : ProgramState) (v : Scheduled State) (y : JavaThread) (left : Lists) → AreParts n new left on v → slice_get v.state.threads t ≡ Some y
      → t < length new.threads.threads
  there_by new v y left parts at =
      let rows = rows_length new v.state (is_out v.schedule) parts.state in
      let within = slice_get_within v.state.threads t y at in
      omega arith

  pub thread_there : (made : Result (Attempt After) NoMemory) (pick : Option ℕ) (new : ProgramState) (left : Lists) (after : List Frame)
      → HasMade p n state deques on h told spare x c t k now frames next none holds free may ready made pick new left after → IfOk made (λ o. t < length new.threads.threads)
  thread_there (Ok (Made a)) pick new left after enters = there_by new enters.then enters.hand.thread left enters.parts enters.hand.at
  thread_there (Ok LacksThreads) pick new left after lacks =
      let from = steps_from p n state deques on h told spare x c t k frames next none holds free may ready in
      there_by new from.before from.hand.thread left lacks.parts from.hand.at
  thread_there (Ok ReadsClock) pick new left after waits =
      let from = steps_from p n state deques on h told spare x c t k frames next none holds free may ready in
      there_by new from.before from.hand.thread left waits.parts from.hand.at
  thread_there (Err e) pick new left after nothing = tt

  module _ (new : ProgramState) (left : Lists) (after : List Frame) (entries : List Entry) (tells : Option Ending) (result : After) (pick : Option ℕ) (room : ℕ)
      (y : IsConsistent p n new left on entries tells) (pins noted : List Bool) (known : KnowsPins (known_of p n h spare told) pins) (sizes : length noted ≡ length pins)
      (rest : (j : ℕ) → j ≢ c → get_or noted j false ≡ get_or pins j false) where
    -- nothing was made
    unmade : entries ≡ h → noted ≡ pins → KnowsPins (known_of p n entries room tells) noted
    unmade same stays =
        subst (λ es. KnowsPins (known_of p n es room tells) noted) (sym same) (subst (λ ps. KnowsPins (known_of p n h room tells) ps) (sym stays)
        (record { sizes = known.sizes; known = known.known }))

    step_made : (made : StepResult) (told_is : After) → told_of made ≡ Ok (Made told_is)
        → Enters p.world n state deques on c t k frames (steps_from p n state deques on h told spare x c t k frames next none holds free may ready) now told_is pick new left after
        → entries ≡ h ++ entry_of c (Step t (suc k) pick) ∷ [] → NotesOwn p.world new t after made c pins noted → KnowsPins (known_of p n entries room tells) noted
    step_made made told_is e enters longer notes =
        let before = program_after p n state deques on h told x in
        let then = histories_go_on p x.first x.after enters.then before c (Step t (suc k) pick) enters.makes in
        knows_by p n state deques on h told x new left on entries tells y c (Step t (suc k) pick) longer spare room pins noted enters.then enters.makes known sizes rest
        (λ goes. noted_so p x.first enters.then then c t after enters.hand new (is_out enters.then.schedule) enters.parts.state made told_is pins noted e enters.outcome notes goes)

    pub step_knows : (made : StepResult) → HasMade p n state deques on h told spare x c t k now frames next none holds free may ready (told_of made) pick new left after
        → IsEntered (told_of made) h told c (Step t (suc k) pick) p.limits.threads entries tells result → NotesOwn p.world new t after made c pins noted
        → KnowsPins (known_of p n entries room tells) noted
    step_knows results.Goes has is notes = step_made results.Goes _ refl has is.0 notes
    step_knows results.Runs has is notes = step_made results.Runs _ refl has is.0 notes
    step_knows (results.Notifies u) has is notes = step_made (results.Notifies u) _ refl has is.0 notes
    step_knows results.Leaves has is notes = step_made results.Leaves _ refl has is.0 notes
    step_knows results.Waits has is notes = step_made results.Waits _ refl has is.0 notes
    step_knows results.Ends has is notes = step_made results.Ends _ refl has is.0 notes
    step_knows results.LacksThreads has is notes = unmade is.0 notes
    step_knows results.ReadsClock has is notes = unmade is.0 notes
    step_knows results.LacksMemory has is notes = unmade is.0 notes

-- The replay of a legal history.
use Rattle.std.proofs.Common.{◌≡◌, ℕ, suc, true, List, ◌++◌, Option, Some, None, Ok, Err, take, drop, refl, ap, sym, subst, ◌∙◌}
use Rattle.std.specs.Prelude.{is_some}
use Rattle.std.proofs.lemmas.List.{take-append-drop}
use Rattle.history.specs.declared.entry.Entry.{Entry}
use Rattle.history.specs.Java.{java}
use Rattle.schedule_model.specs.Run.{Scheduled, is_legal, schedule_of}
use Rattle.ref_model.specs.Looks.{machine_from}
use Rattle.ref_model.specs.Opening.{opening}
use Rattle.ref_model.specs.Run.{run}
use Rattle.ref_model.specs.Setting.{Setting}
use Rattle.ref_model.specs.State.{State}
use Rattle.schedule_soundness.proofs.Histories.{histories_run, history_prefixes}
use Rattle.ref_run.specs.declared.replaying.ReplayError.TheVariants as errors
use Rattle.ref_run.specs.Agreement.{ReplaysAgree}
use Rattle.ref_run.specs.Replays.{StopsAt}

same_state : (a b : State) → ◌≡◌ {A = Option State} (Some a) (Some b) → a ≡ b
same_state a b e = cc

-- a legal history doesn't stop
module _ (p : Setting) (first : State) (carriers : ℕ) (history : List Entry) (after : Scheduled State) (begins : opening p ≡ Some first)
    (runs : schedule_of (machine_from p first) carriers history ≡ Some after) where
  front_runs : (front : List Entry) (o : Option (Scheduled State)) → schedule_of (machine_from p first) carriers front ≡ o → is_some o ≡ true
      → run p (java front) ≡ None → ⊥
  front_runs front None is legal stops = absurd cc
  front_runs front (Some v) is legal stops =
      let e : ◌≡◌ {A = Option State} (Some v.state) None = sym (histories_run p first carriers front v begins is) ∙ stops in absurd cc

  never_stops : (i : ℕ) → StopsAt p history i → ⊥
  never_stops i stops =
      let front = take (suc i) history in
      let whole : front ++ drop (suc i) history ≡ history = take-append-drop (suc i) history in
      let legal : is_legal (machine_from p first) carriers history ≡ true = ap is_some runs in
      front_runs front (schedule_of (machine_from p first) carriers front) refl
      (history_prefixes p first carriers front (drop (suc i) history) (subst (λ l. is_legal (machine_from p first) carriers l ≡ true) (sym whole) legal)) stops.stops

pub replays_agree : ReplaysAgree
replays_agree p first carriers history after (Ok a) begins runs replayed = same_state _ _ (sym replayed ∙ histories_run p first carriers history after begins runs)
replays_agree p first carriers history after (Err (errors.NoStep i)) begins runs replayed = never_stops p first carriers history after begins runs i replayed
replays_agree p first carriers history after (Err errors.NoMemory) begins runs replayed = tt

-- The entry of as many local instructions as an entry may have.
use Rattle.std.proofs.Common.{◌≡◌, ◌==◌, ◌<◌, ◌-◌, ℕ, zero, suc, Bool, true, false, List, [], ◌∷◌, ◌++◌, Option, None, Some, length, slice_get, refl, ap, sym, subst, ◌∙◌, arith, ◌||◌, inl}
use Rattle.std.specs.Prelude.{is_none, nat_le, nat_lt}
use Rattle.std.specs.Option.{option_map_or}
use Rattle.std.proofs.lemmas.Bool.{and_from, eq-eqb, le-leb}
use Rattle.items.specs.Options.{◌>>=◌}
use Rattle.items.proofs.Binds.{some_is}
use Rattle.history.specs.declared.entry.Entry.{Entry}
use Rattle.history.specs.declared.entry.What.TheVariants.{Step}
use Rattle.vthread_state.specs.declared.phase.Phase.TheVariants.{Run}
use Rattle.vthread_state.specs.declared.thread.Status.TheVariants.{Live}
use Rattle.thread_lists.specs.Lists.{Lists}
use Rattle.link_model.specs.World.{World}
use Rattle.state_model.specs.Frames.{Frame}
use Rattle.schedule_model.specs.Run.{Scheduled, scheduled_after}
use Rattle.ref_model.specs.declared.ending.Ending.{Ending}
use Rattle.ref_model.specs.Setting.{Setting}
use Rattle.ref_model.specs.State.{JavaThread, State, with_frames}
use Rattle.ref_model.specs.Enabled.{has_ended, is_ready}
use Rattle.ref_model.specs.Ending.{ending}
use Rattle.ref_model.specs.Entries.{are_grouped_steps, ends_behind, may_be_last, most_local_steps}
use Rattle.ref_model.specs.LocalRows.{row, rows}
use Rattle.ref_model.specs.Step.{enabled, row_or_event, status_step, thread_step}
use Rattle.ref_model.specs.Looks.{machine_from, pins_of, yields_next}
use Rattle.ref_model.proofs.StateLaws.{frames_is, frames_twice, get_set}
use Rattle.schedule_soundness.specs.PutLaws.{OthersStay, Stays, no_thread, is_kept}
use Rattle.schedule_soundness.proofs.ThreadLists.{set_other}
use Rattle.thread_steps.specs.States.{memory_of}
use Rattle.program_state.specs.declared.state.ProgramState.{ProgramState}
use Rattle.program_state.specs.States.{IsState}
use Rattle.program_state.proofs.StateLaws.{frames_had, other_frames}
use Rattle.machine.specs.declared.after.After.TheVariants.{Goes}
use Rattle.machine.specs.declared.made.Move.{Move}
use Rattle.machine.specs.declared.made.Others.TheVariants as moves
use Rattle.machine.specs.Hands.{HasHand, Holds, IsLiveIn, OwesNothing}
use Rattle.machine.specs.Insides.{AreParts, IsConsistent, is_out}
use Rattle.machine.specs.Legal.{GoesOn}
use Rattle.machine.specs.Machines.{Given, scheduled}
use Rattle.machine.specs.Moves.{IsMoved}
use Rattle.machine.specs.Puts.{HasPut, nobody}
use Rattle.machine.specs.Steps.{IsTold, StepsFrom}
use Rattle.machine.specs.Turns.{HasStepped}
use Rattle.machine.proofs.AheadLaws.{ahead_enabled, enabled_alive, frames_running, hand_ahead}
use Rattle.machine.proofs.EntryLaws.{entry_of, given, goes_on, parts_are, program_after, with_one_more}
use Rattle.machine.proofs.LocalLaws.{row_quiet}
use Rattle.monitor_steps.specs.Outcomes.{others_stay}
use Rattle.machine.proofs.MoveLaws.{quiet_yields, same_lists}
use Rattle.machine.proofs.NextLaws.{known_of, there}
use Rattle.machine.proofs.PlaceLaws.{push_none}
use Rattle.machine.proofs.StateLaws.{rows_length}
use Rattle.machine.specs.Pins.{KnowsPins}
use Rattle.machine.proofs.OutcomeLaws.{goes_by}
use Rattle.machine.proofs.PinLaws.{knows_by, runs_freely}
use Rattle.machine.proofs.StepLaws.{ahead_is, ahead_out, ended_in, step_enters, then, then_hand, then_outcome, then_parts}

or_true : (a b : Bool) → b ≡ true → (a || b) ≡ true
or_true true b e = refl
or_true false b e = e

pub grouped_last : (w : World) (k : ℕ) (base mid : List Frame) → rows w k base ≡ Some mid → k ≡ most_local_steps → are_grouped_steps w k (Some base) ≡ true
grouped_last w zero base mid ahead most = absurd cc
grouped_last w (suc k) base mid ahead most =
    ap (λ o. ends_behind w (suc k) o) ahead
    ∙ and_from (nat_le (suc k) most_local_steps) (may_be_last w (suc k) mid) (le-leb (suc k) most_local_steps (omega (arith, most)))
    (or_true _ (suc k == most_local_steps) (eq-eqb (suc k) most_local_steps most))

stays_same : (o : Option JavaThread) → Stays o o
stays_same None = no_thread refl refl
stays_same (Some y) = is_kept y y refl refl refl refl refl

module _ (p : Setting) (n : ℕ) (state : ProgramState) (deques : Lists) (on : List (Option ℕ)) (h : List Entry) (told : Option Ending) (spare : ℕ) (x : IsConsistent p n state deques on h told) where
  module _ (c t k : ℕ) (frames : List Frame) (most : k ≡ most_local_steps) (goes : GoesOn (known_of p n h spare told)) (holds : Holds (known_of p n h spare told) c t (suc k) frames)
      (free : OwesNothing (known_of p n h spare told) t) where
    abbrev pub v : Scheduled State
    v = x.after

    pub there_is : scheduled (known_of p n h spare told) ≡ Some x.after
    there_is = there p n state deques on h told spare x

    abbrev pub hand : HasHand p x.after c t (suc k) frames
    hand = holds x.after (there p n state deques on h told spare x)

    abbrev pub last : (mid : List Frame) × (rows p.world k hand.thread.frames ≡ Some mid) × (row p.world mid ≡ Some frames)
    last = some_is (rows p.world k hand.thread.frames) (row p.world) frames hand.ahead

    pub running : hand.thread.thread.status ≡ Live Run
    running = hand.running (omega arith)

    pub on_again : enabled x.after.state t ≡ true
    on_again =
        and_from (is_none (ending v.state)) _ (ap is_none (goes.going v there_is))
        (ap (λ o. option_map_or (λ (y : JavaThread). is_ready v.state y y.thread.status) o false) hand.at ∙ ap (is_ready v.state hand.thread) running)

    abbrev pub slice_from : StepsFrom p.world n state deques on c t k last.0
    slice_from = record {
      setting = p;
      world = refl;
      accepted = x.accepted;
      first = x.first;
      before = x.after;
      after = program_after p n state deques on h told x;
      parts = parts_are p n state deques on h told x goes.told;
      hand = record { mounted = hand.mounted; thread = hand.thread; at = hand.at; running = λ some. running; ahead = last.1 };
      owes = free v there_is;
      may = on_again;
      grouped =
          ap (are_grouped_steps p.world k) (frames_running v.state t hand.thread hand.at running)
          ∙ grouped_last p.world k hand.thread.frames last.0 last.1 most;
    }

    -- ---- the last of them as a step

    abbrev pub r : State
    r = with_frames x.after.state t last.0

    abbrev pub out : ℕ → Bool
    out = is_out x.after.schedule

    pub at_r : slice_get (with_frames x.after.state t last.0).threads t ≡ Some (record hand.thread { frames = last.0 })
    at_r =
        ap (λ (s : State). slice_get s.threads t) (frames_is x.after.state t hand.thread last.0 hand.at)
        ∙ get_set x.after.state.threads t hand.thread (record hand.thread { frames = last.0 }) hand.at

    pub is_r : IsState state r out
    is_r = ahead_is p.world n state deques on c t k last.0 slice_from

    pub out_r : out t ≡ true
    out_r = ahead_out p.world n state deques on c t k last.0 slice_from

    made : Move
    made = record { others = moves.Stay; yields = false }

    pub makes_it : thread_step p.world r t ≡ Some (with_frames r t frames)
    makes_it =
        ap (λ o. o >>= λ (z : JavaThread). status_step p.world r t z.frames z.thread.status) at_r
        ∙ ap (status_step p.world r t last.0) running ∙ ap (row_or_event p.world r t last.0) last.2

    pub others : OthersStay t r (with_frames r t frames)
    others = subst (OthersStay t r) (sym (frames_is r t (record hand.thread { frames = last.0 }) frames at_r)) (record {
      threads = λ u ne.
          subst (Stays (slice_get r.threads u)) (sym (set_other r.threads t u (record hand.thread { frames = frames }) ne)) (stays_same (slice_get r.threads u));
      owners = refl;
      now = refl;
    })

    pub quiet : yields_next p.world r t ≡ false
    quiet =
        quiet_yields p.world state r out t last.0 is_r (record { thread = record hand.thread { frames = last.0 }; at = at_r; status = running; has = refl })
        (row_quiet p.world (memory_of state.memory) last.0 frames last.2)

    abbrev pub moved : IsMoved p.world (record { others = moves.Stay; yields = false }) t state frames r out
    moved = record {
      leads = record {
        next = with_frames r t frames;
        makes = makes_it;
        is = other_frames state r out t frames is_r out_r;
        has = frames_had r t (record hand.thread { frames = last.0 }) frames at_r;
        others = others_stay others;
      };
      yields = quiet;
    }

    abbrev pub slice_then : Scheduled State
    slice_then = then p.world n state deques on c t k last.0 slice_from (record { others = moves.Stay; yields = false }) state frames (same_lists state.monitors state.monitors refl) tt moved

    slice_enters : scheduled_after (machine_from p x.first) x.after c (Step t (suc k) None) ≡ Some slice_then
    slice_enters = step_enters p.world n state deques on c t k last.0 slice_from (record { others = moves.Stay; yields = false }) state frames (same_lists state.monitors state.monitors refl) tt moved

    nobody_put : HasPut state t moves.Stay c deques.lists deques.lists
    nobody_put = record {
      threads = [];
      who = nobody refl (ended_in state v.state out t (slice_from.parts.state) ∙ enabled_alive v.state t hand.thread hand.at on_again) refl;
      lists = sym (push_none deques.lists c);
    }

    slice_parts : AreParts n state deques on slice_then
    slice_parts =
        then_parts p.world n state deques on c t k last.0 slice_from (record { others = moves.Stay; yields = false }) state frames (same_lists state.monitors state.monitors refl) tt moved deques nobody_put
        (let same = rows_length state v.state out slice_from.parts.state in let room = slice_from.parts.room in omega arith)

    -- afterwards the thread may step as before
    after_is : with_frames r t frames ≡ with_frames x.after.state t frames
    after_is = frames_twice x.after.state t hand.thread last.0 frames hand.at

    after_on : enabled (with_frames r t frames) t ≡ true
    after_on = ap (λ s. enabled s t) after_is ∙ ahead_enabled p.world x.after.state t (suc k) frames (hand_ahead p x.after c t (suc k) frames hand) ∙ on_again

    after_alive : has_ended (with_frames r t frames) t ≡ false
    after_alive = enabled_alive (with_frames r t frames) t moved.leads.has.thread moved.leads.has.at after_on

    slice_goes : (slice_then.schedule.owes t ≡ false) × (enabled slice_then.state t ≡ true)
    slice_goes =
        subst (λ a. IsTold p.world a slice_then t)
        (sym (goes_by (has_ended (with_frames r t frames) t) (nat_lt 0 (pins_of p.world frames)) false (enabled (with_frames r t frames) t) after_alive refl after_on))
        (then_outcome p.world n state deques on c t k last.0 slice_from (record { others = moves.Stay; yields = false }) state frames (same_lists state.monitors state.monitors refl) tt moved)

    pub slice_kept : length h < p.limits.events → IsConsistent p n state deques on (h ++ entry_of c (Step t (suc k) None) ∷ []) told
    slice_kept few =
        subst (λ e. IsConsistent p n state deques on (h ++ entry_of c (Step t (suc k) None) ∷ []) e) (sym goes.told)
        (with_one_more p n state state deques deques on on h told x c (Step t (suc k) None) slice_then slice_enters few slice_parts)

    -- the thread runs on
    slice_runs : IsLiveIn (with_frames r t frames) t Run
    slice_runs =
        record { thread = record hand.thread { frames = frames }; at = with_at; status = running }
      where
        with_at : slice_get (with_frames r t frames).threads t ≡ Some (record hand.thread { frames = frames })
        with_at =
            ap (λ (s : State). slice_get s.threads t) (frames_is r t (record hand.thread { frames = last.0 }) frames at_r)
            ∙ get_set r.threads t (record hand.thread { frames = last.0 }) (record hand.thread { frames = frames }) at_r

    pub slice_knows : (entries : List Entry) → entries ≡ h ++ entry_of c (Step t (suc k) None) ∷ [] → IsConsistent p n state deques on entries told → (room : ℕ) (pins : List Bool)
        → KnowsPins (known_of p n h spare told) pins → KnowsPins (known_of p n entries room told) pins
    slice_knows entries longer y room pins known =
        knows_by p n state deques on h told x state deques on entries told y c (Step t (suc k) None) longer spare room pins pins slice_then slice_enters known refl (λ j ne. refl)
        (λ goes. inl (runs_freely p slice_then.state t slice_runs goes))

    pub slice_stepped : (room : ℕ) → room ≡ spare - 1
        → HasStepped Goes (known_of p n h spare told) (known_of p n (h ++ entry_of c (Step t (suc k) None) ∷ []) room told) c t k frames frames
    slice_stepped room less = record {
      pick = None;
      unread = λ w there reads. refl;
      entry = ap (λ i. known_of p n (h ++ entry_of c (Step t (suc k) None) ∷ []) i told) less;
      hand = gives_after (λ w. HasHand p w c t 0 frames) (then_hand p.world n state deques on c t k last.0 slice_from (record { others = moves.Stay; yields = false }) state frames (same_lists state.monitors state.monitors refl) tt moved);
      outcome = (gives_after (λ w. w.schedule.owes t ≡ false) slice_goes.0, gives_after (λ w. enabled w.state t ≡ true) slice_goes.1);
    }
      where
        gives_after : (P : Scheduled State → Type 0) → P slice_then → Given (known_of p n (h ++ entry_of c (Step t (suc k) None) ∷ []) room told) P
        gives_after P is =
            given (known_of p n (h ++ entry_of c (Step t (suc k) None) ∷ []) room told) x.first slice_then P x.begins
            (goes_on p n state deques on h told x c (Step t (suc k) None) slice_then slice_enters) is

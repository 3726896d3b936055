-- What the exits of a turn come to.
use Rattle.std.proofs.Common.{◌≡◌, ◌⊎◌, inl, inr, ℕ, suc, ◌+◌, ◌-◌, ◌*◌, ◌<◌, ◌≤◌, Bool, true, false, not, List, [], ◌∷◌, ◌++◌, length, Option, Some, None, refl, ap, sym, ◌∙◌, subst, arith, length-append, ◌||◌}
use Rattle.std.specs.Prelude.{is_some, if◌then◌else◌}
use Rattle.std.proofs.lemmas.Bool.{or_left, or_right}
use Rattle.std.proofs.lemmas.List.{append-nil}
use Rattle.std.proofs.Math.Seq.{append_snoc}
use Rattle.history.specs.declared.entry.Entry.{Entry}
use Rattle.history.specs.declared.entry.What.{What}
use Rattle.history.specs.declared.entry.What.TheVariants.{Mount, Step, Unmount, Clock}
use Rattle.continuation.specs.Continuation.{Continuation}
use Rattle.state_model.specs.Frames.{Frame}
use Rattle.schedule_model.specs.Run.{Scheduled}
use Rattle.schedule_model.specs.Stalled.{is_starved}
use Rattle.ref_model.specs.declared.ending.Ending.{Ending}
use Rattle.ref_model.specs.declared.ending.Ending.TheVariants.{Halted, Limit, Stalled, Starved}
use Rattle.ref_model.specs.declared.ending.Which.TheVariants.{Threads}
use Rattle.ref_model.specs.Setting.{Setting}
use Rattle.ref_model.specs.State.{State, with_frames}
use Rattle.ref_model.specs.Looks.{is_stalled, lacks_threads_next, look_of, reads_clock_next}
use Rattle.machine.specs.declared.after.After.TheVariants as afters
use Rattle.machine.specs.declared.after.After.TheVariants.{Goes, Leaves, Ends, Halts}
use Rattle.machine.specs.Hands.{AreDequesEmpty, Holds, Idle, IsLoose, MayStep, OwesUnmount, Waits}
use Rattle.machine.specs.Legal.{IsLegal}
use Rattle.machine.specs.Machines.{Given, Known, machine_ending, with_ending, with_entry}
use Rattle.machine.specs.Turns.{HasHalted, HasStepped, given_up, lacks_threads}
use Rattle.carrier_turns.specs.declared.ask.Ask.{Ask}
use Rattle.carrier_turns.specs.declared.ask.Ask.TheVariants.{Nothing, Local, Freeze}
use Rattle.carrier_turns.specs.declared.hand.Hand.{Hand}
use Rattle.carrier_turns.specs.declared.ask.Turn.{Turn}
use Rattle.carrier_turns.specs.declared.ask.Turn.TheVariants.{Run, Nap, Over}
use Rattle.carrier_turns.specs.Hands.{HasDone}
use Rattle.carrier_turns.specs.Turns as turns
use Rattle.carrier_turns.specs.Acts.{IsAct, IsGivenUpWith, StepLacks}
use Rattle.carrier_turns.specs.Turns.{Appends, AreActs, AreOfTurn, HoldsFrozen, HoldsNothing, IsActDue, IsDue, IsNap, IsTurn, MayNotStep, MayTick, StallsAreTold, StepReads, asked_by, entry_by, goes_no_more, goes_on, is_freeze, is_over, is_pressing, turns_left, wants_nothing}
use Rattle.carrier_turns.specs.Steps.{AnswersUnlessOver, AnswersUnlessStalled, GoesOnBy, HasGone, IsGivenUp, MayAct, MayGoOn, MountedBy, NapsUnlessStalled, ran, waits, was_over, gives_up, goes_over, goes_to_run, goes_to_wait, answers_over, answers, looks_over, looks_stalled, looks_starved, looks_on, naps_over, naps_on}
use Rattle.carrier_turns.proofs.EndingLaws.{going, is_scheduled, none_is_no, not_both, room_for, told_ends, told_over}
use Rattle.carrier_turns.proofs.EntryLaws.{LastEntry, last_entry, mounted_is, unmounted_state}
use Rattle.carrier_turns.proofs.FitLaws.{mounted_by}
use Rattle.carrier_turns.proofs.StepLaws.{same_kept, thread_kept}
use Rattle.carrier_turns.proofs.StallLaws.{enabled_feeds, enabled_goes, goes_more, idle_feeds, stalls_by, unpinned_feeds}

-- ---- how far the end is

pressing_or_not : (b : Bool) → (if b then 0 else 1) ≤ 1
pressing_or_not true = omega arith
pressing_or_not false = omega arith

-- an entry more
pub nearer_by_entry : (old new : Known) (h g : Hand) → length old.history + 1 ≤ old.setting.limits.events → length old.history < length new.history
    → new.setting ≡ old.setting → turns_left new g < turns_left old h
nearer_by_entry old new h g room longer same =
    let events : new.setting.limits.events ≡ old.setting.limits.events = ap (λ (p : Setting). p.limits.events) same in
    let one = pressing_or_not (is_pressing g) in
    omega arith

-- no entry, and a freezing
nearer_by_freeze : (m : Known) (h g : Hand) → is_pressing h ≡ false → is_pressing g ≡ true → turns_left m g < turns_left m h
nearer_by_freeze m h g rests presses =
    let after : turns_left m g ≡ 2 * (m.setting.limits.events - length m.history) + 0 =
    ap (λ b. 2 * (m.setting.limits.events - length m.history) + (if b then 0 else 1)) presses in
    let before : turns_left m h ≡ 2 * (m.setting.limits.events - length m.history) + 1 =
    ap (λ b. 2 * (m.setting.limits.events - length m.history) + (if b then 0 else 1)) rests in
    omega (arith, after, before)

pub one_longer : (xs : List Entry) (e : Entry) (rest : List Entry) → length xs < length (xs ++ e ∷ rest)
one_longer xs e rest = omega (arith, length-append xs (e ∷ rest))

-- ---- stalls

-- an entry that leaves the state as it was
told_same : (old : Known) (c : ℕ) (what : What) → machine_ending old ≡ None
    → ((w : Scheduled State) (last : LastEntry old c what w) → w.state ≡ last.before.state)
    → Given (with_entry old c what) (λ w. is_starved (look_of old.setting.world w.state) w.schedule ≡ false) → StallsAreTold old → StallsAreTold (with_entry old c what)
told_same old c what none stays fed told = λ w at stops.
    let last = last_entry old c what w at in
    let before = last.before in
    let stalled : is_stalled old.setting.world before.state ≡ true =
    subst (λ r. is_stalled old.setting.world r ≡ true) (stays w last) (stalls_by old.setting.world w stops (fed w at)) in
    absurd (not_both (machine_ending old)
    (told before last.at (or_left (is_stalled old.setting.world before.state) (is_starved (look_of old.setting.world before.state) before.schedule) stalled)) none)

-- a thread that is taken up isn't pinned
pub told_mount : (old : Known) (c t : ℕ) (frames : List Frame) → machine_ending old ≡ None → Holds (with_entry old c (Mount t)) c t 0 frames
    → IsLoose (with_entry old c (Mount t)) t → StallsAreTold old → StallsAreTold (with_entry old c (Mount t))
told_mount old c t frames none holds loose told =
    told_same old c (Mount t) none (λ w last. (mounted_is old.setting last.first last.before w c t last.after).state)
    (λ w at. unpinned_feeds old.setting.world w c t (holds w at).mounted (loose w at)) told

pub told_unmount : (old : Known) (c t : ℕ) → machine_ending old ≡ None → Idle (with_entry old c (Unmount t)) c → StallsAreTold old
    → StallsAreTold (with_entry old c (Unmount t))
told_unmount old c t none idle told =
    told_same old c (Unmount t) none (λ w last. unmounted_state old.setting last.first last.before w c t last.after)
    (λ w at. idle_feeds old.setting.world w c (idle w at)) told

no_true : (b : Bool) → b ≡ true → b ≡ false → ⊥
no_true b e f = absurd cc

-- a thread that may step
pub told_enabled : (m : Known) (c t n : ℕ) (frames : List Frame) → Holds m c t n frames → MayStep m t → StallsAreTold m
told_enabled m c t n frames holds may = λ v at stops.
    let w = m.setting.world in
    absurd (no_true (goes_no_more w v) stops
    (goes_more w v (enabled_goes w v.state t (may v at)) (enabled_feeds w v c t (holds v at).mounted (may v at))))

-- after a look
pub told_looked : (old new : Known) (ask : Ask) (answer : Turn) → IsLegal old → AnswersUnlessStalled old new ask answer → StallsAreTold new
told_looked old new ask answer legal (looks_over ended same is) = subst StallsAreTold (sym same) (told_over old ended)
told_looked old new ask answer legal (looks_stalled none same is) =
    subst StallsAreTold (sym same) (told_over (with_ending old Stalled) (told_ends old Stalled legal))
told_looked old new ask answer legal (looks_starved none same is) =
    subst StallsAreTold (sym same) (told_over (with_ending old Starved) (told_ends old Starved legal))
told_looked old new ask answer legal (looks_on none not fed same is) =
    subst StallsAreTold (sym same)
    (λ v at stops. absurd (no_true (goes_no_more old.setting.world v) stops (goes_more old.setting.world v (not v at) (fed v at))))

-- ---- the answer

over_so : (m : Known) (answer : Turn) → is_some (machine_ending m) ≡ true → answer ≡ Over → is_over answer ≡ is_some (machine_ending m)
over_so m answer ended is = ap is_over is ∙ sym ended

runs_so : (m : Known) (answer : Turn) (ask : Ask) → machine_ending m ≡ None → answer ≡ Run ask → is_over answer ≡ is_some (machine_ending m)
runs_so m answer ask none is = ap is_over is ∙ sym (none_is_no (machine_ending m) none)

pub over_by : (m : Known) (t : ℕ) (answer : Turn) → GoesOnBy m t answer → is_over answer ≡ is_some (machine_ending m)
over_by m t answer (goes_over ended is) = over_so m answer ended is
over_by m t answer (goes_to_run none phase is) = runs_so m answer (Local t) none is
over_by m t answer (goes_to_wait none not is) = runs_so m answer Nothing none is

pub over_unless : (m : Known) (ask : Ask) (answer : Turn) → AnswersUnlessOver m ask answer → is_over answer ≡ is_some (machine_ending m)
over_unless m ask answer (answers_over ended is) = over_so m answer ended is
over_unless m ask answer (answers none is) = runs_so m answer ask none is

pub over_looked : (old new : Known) (ask : Ask) (answer : Turn) → IsLegal old → AnswersUnlessStalled old new ask answer
    → is_over answer ≡ is_some (machine_ending new)
over_looked old new ask answer legal (looks_over ended same is) = over_so new answer (ap (λ m. is_some (machine_ending m)) same ∙ ended) is
over_looked old new ask answer legal (looks_stalled none same is) =
    over_so new answer (ap (λ m. is_some (machine_ending m)) same ∙ told_ends old Stalled legal) is
over_looked old new ask answer legal (looks_starved none same is) =
    over_so new answer (ap (λ m. is_some (machine_ending m)) same ∙ told_ends old Starved legal) is
over_looked old new ask answer legal (looks_on none not fed same is) = runs_so new answer ask (ap machine_ending same ∙ none) is

-- ---- turns that append nothing

nothing_lacks : (o : Option Ending) → o ≡ None → wants_nothing o ≡ false → ⊥
nothing_lacks None e f = absurd cc
nothing_lacks (Some x) e f = absurd cc

-- where there is no ending none was told
pub nothing_told : (m : Known) → IsLegal m → machine_ending m ≡ None → m.told ≡ None
nothing_told m x none = (going m x.after (is_scheduled m x) none).told

pub over_turn : (m : Known) (c now : ℕ) (h : Hand) → is_some (machine_ending m) ≡ true → HasDone h → IsTurn m m c now h h Over
over_turn m c now h ended done =
    record {
      appends = record { entries = []; of_turn = turns.acts (turns.none refl); history = sym (append-nil m.history); setting = refl; carriers = refl };
      reason = λ later is. absurd cc;
      over = sym ended;
      asks = done;
      works = λ goes. absurd cc;
      due = λ none works wants. absurd (not_both (machine_ending m) ended none);
      told = λ told. told;
      nearer = λ goes. absurd cc;
    }

legal_spare : (m : Known) (spare : ℕ) → IsLegal m → IsLegal (record m { spare = spare })
legal_spare m spare x =
    record {
      accepted = x.accepted;
      some = x.some;
      first = x.first;
      begins = x.begins;
      after = x.after;
      runs = x.runs;
      few = x.few;
      cause = x.cause;
    }

-- the run was given up
pub stopped_turn : (old : Known) (spare : ℕ) (c now : ℕ) (h g : Hand) → IsLegal old → g.asked ≡ Nothing
    → IsTurn old (record old { spare = spare; told = Some Halted }) c now h g Over
stopped_turn old spare c now h g legal asks =
    let new : Known = record old { spare = spare; told = Some Halted } in
    let ended : is_some (machine_ending new) ≡ true = told_ends (record old { spare = spare }) Halted (legal_spare old spare legal) in
    record {
      appends = record { entries = []; of_turn = turns.acts (turns.none refl); history = sym (append-nil old.history); setting = refl; carriers = refl };
      reason = λ later is. absurd cc;
      over = sym ended;
      asks = asks;
      works = λ goes. absurd cc;
      due = λ none works nothing. absurd cc;
      told = λ told. told_over new ended;
      nearer = λ goes. absurd cc;
    }

-- with memory that was made ready
pub room_turn : (old new : Known) (spare : ℕ) (c now : ℕ) (h g : Hand) (answer : Turn) → IsTurn (record old { spare = spare }) new c now h g answer
    → IsTurn old new c now h g answer
room_turn old new spare c now h g answer x =
    record {
      appends = record {
        entries = x.appends.entries;
        of_turn = x.appends.of_turn;
        history = x.appends.history;
        setting = x.appends.setting;
        carriers = x.appends.carriers;
      };
      reason = x.reason;
      over = x.over;
      asks = x.asks;
      works = x.works;
      due = λ none works wants. by (x.due none works wants);
      told = x.told;
      nearer = x.nearer;
    }
  where
    before : Known
    before = record old { spare = spare }

    by_act : IsActDue before new c now h answer → IsActDue old new c now h answer
    by_act (turns.puts_down k holds history) = turns.puts_down k holds history
    by_act (turns.takes_up t none history) = turns.takes_up t none history
    by_act (turns.naps nanos none empty history is nap) = turns.naps nanos none empty history is nap
    by_act (turns.steps k n pick rest mounted ahead may unread history owes naps) =
        turns.steps k n pick rest mounted ahead may (λ r. unread (record { kept = r.kept; mounted = r.mounted; few = r.few; reads = r.reads })) history owes naps
    by_act (turns.freezes k mounted may loose history is) = turns.freezes k mounted may loose history is
    by_act (turns.keeps k nanos mounted waits_ history is nap) = turns.keeps k nanos mounted waits_ history is nap

    by_tick : MayTick before now h → MayTick old now h
    by_tick (turns.awaited is) = turns.awaited is
    by_tick (turns.reads r later) = turns.reads (record { kept = r.kept; mounted = r.mounted; few = r.few; reads = r.reads }) later

    other : (mid : Known) → mid ≡ with_entry before c (Clock now) → IsActDue mid new c now h answer → IsActDue (with_entry old c (Clock now)) new c now h answer
    other mid is due = by (subst (λ m. IsActDue m new c now h answer) is due)
      where
        by : IsActDue (with_entry before c (Clock now)) new c now h answer → IsActDue (with_entry old c (Clock now)) new c now h answer
        by (turns.puts_down k holds history) = turns.puts_down k holds history
        by (turns.takes_up t none history) = turns.takes_up t none history
        by (turns.naps nanos none empty history is nap) = turns.naps nanos none empty history is nap
        by (turns.steps k n pick rest mounted ahead may unread history owes naps) =
            turns.steps k n pick rest mounted ahead may (λ r. unread (record { kept = r.kept; mounted = r.mounted; few = r.few; reads = r.reads })) history owes naps
        by (turns.freezes k mounted may loose history is) = turns.freezes k mounted may loose history is
        by (turns.keeps k nanos mounted waits_ history is nap) = turns.keeps k nanos mounted waits_ history is nap

    by : IsDue before new c now h answer → IsDue old new c now h answer
    by (turns.acts nothing in_time due) = turns.acts nothing (λ r. in_time (record { kept = r.kept; mounted = r.mounted; few = r.few; reads = r.reads })) (by_act due)
    by (turns.ticks mid may is due) = turns.ticks (with_entry old c (Clock now)) (by_tick may) refl (other mid is due)
    by (turns.ends awaits history ended) = turns.ends awaits history ended

-- ---- what a carrier does with its thread, where it appends nothing

-- no thread is there to be taken up
pub nap_act : (m : Known) (c now : ℕ) (nanos : Option ℕ) (h : Hand) → machine_ending m ≡ None → m.told ≡ None → HasDone h → HoldsNothing h → AreDequesEmpty m → IsNap m now nanos
    → IsAct m m c now h h (Nap nanos)
nap_act m c now nanos h none told_none done nothing empty nap =
    record {
      entries = [];
      are_acts = turns.none refl;
      history = sym (append-nil m.history);
      setting = refl;
      carriers = refl;
      over = sym (none_is_no (machine_ending m) none);
      asks = done;
      works = λ goes. absurd cc;
      due = λ wants. turns.naps nanos nothing empty refl refl nap;
      stops = λ lacks. absurd (nothing_lacks m.told told_none lacks);
      told = λ told. told;
      nearer = λ goes. absurd cc;
    }

-- the carrier naps with its thread, which is pinned and can't step
pub keep_act : (m : Known) (c now : ℕ) (nanos : Option ℕ) (k : Continuation) (h : Hand) → MayAct m c h → h.mounted ≡ Some k → Waits m k.thread → IsNap m now nanos
    → IsAct m m c now h h (Nap nanos)
keep_act m c now nanos k h act mounted held nap =
    record {
      entries = [];
      are_acts = turns.none refl;
      history = sym (append-nil m.history);
      setting = refl;
      carriers = refl;
      over = sym (none_is_no (machine_ending m) act.going);
      asks = act.done;
      works = λ goes. absurd cc;
      due = λ wants. turns.keeps k nanos mounted held refl refl nap;
      stops = λ lacks. absurd (nothing_lacks m.told (nothing_told m act.legal act.going) lacks);
      told = λ told. told;
      nearer = λ goes. absurd cc;
    }

-- the mounted thread can't step, and is to be frozen
pub freeze_act : (m : Known) (c now : ℕ) (k : Continuation) (h g : Hand) → MayAct m c h → h.mounted ≡ Some k → MayNotStep m k.thread → IsLoose m k.thread → g.asked ≡ Freeze → g.failed ≡ false
    → IsAct m m c now h g (Run Freeze)
freeze_act m c now k h g act mounted off loose asks works =
    record {
      entries = [];
      are_acts = turns.none refl;
      history = sym (append-nil m.history);
      setting = refl;
      carriers = refl;
      over = sym (none_is_no (machine_ending m) act.going);
      asks = asks;
      works = λ goes. works;
      due = λ wants. turns.freezes k mounted off loose refl refl;
      stops = λ lacks. absurd (nothing_lacks m.told (nothing_told m act.legal act.going) lacks);
      told = λ told. told;
      nearer = λ goes. nearer_by_freeze m h g rests (or_right g.failed (is_some g.frozen || is_freeze g.asked) (or_right (is_some g.frozen) (is_freeze g.asked) (ap is_freeze asks)));
    }
  where
    frozen_none : MountedBy m c h k → h.frozen ≡ None
    frozen_none (ran run parts holds owes phase has) = parts.frozen_is
    frozen_none (waits parts holds owes not) = parts.frozen_is

    rests : is_pressing h ≡ false
    rests =
        ap (λ b. b || (is_some h.frozen || is_freeze h.asked)) act.works
        ∙ ap (λ o. is_some o || is_freeze h.asked) (frozen_none (mounted_by m c h k act mounted))
        ∙ ap is_freeze act.done

-- ---- with an entry

pub one_entry : (old new : Known) (c now : ℕ) (what : What) (h g : Hand) (answer : Turn) → length old.history + 1 ≤ old.setting.limits.events
    → new.history ≡ old.history ++ entry_by c what ∷ [] → new.setting ≡ old.setting → new.carriers ≡ old.carriers
    → AreActs c (entry_by c what ∷ []) → is_over answer ≡ is_some (machine_ending new) → g.asked ≡ asked_by answer
    → (goes_on answer ≡ true → g.failed ≡ false) → IsActDue old new c now h answer → (wants_nothing new.told ≡ false → IsGivenUpWith new h (entry_by c what ∷ []) ⊎ StepLacks old h)
    → (StallsAreTold old → StallsAreTold new) → IsAct old new c now h g answer
one_entry old new c now what h g answer room history setting carriers are_acts over asks works due stops told =
    record {
      entries = entry_by c what ∷ [];
      are_acts = are_acts;
      history = history;
      setting = setting;
      carriers = carriers;
      over = over;
      asks = asks;
      works = works;
      due = λ wants. due;
      stops = stops;
      told = told;
      nearer = λ goes. nearer_by_entry old new h g room
          (subst (λ (es : List Entry). length old.history < length es) (sym history) (one_longer old.history (entry_by c what) [])) setting;
    }

pub history_is : (old new : Known) (c : ℕ) (what : What) → new ≡ with_entry old c what → new.history ≡ old.history ++ entry_by c what ∷ []
history_is old new c what is = ap (λ (m : Known). m.history) is

pub setting_is : (old new : Known) (c : ℕ) (what : What) → new ≡ with_entry old c what → new.setting ≡ old.setting
setting_is old new c what is = ap (λ (m : Known). m.setting) is

pub carriers_is : (old new : Known) (c : ℕ) (what : What) → new ≡ with_entry old c what → new.carriers ≡ old.carriers
carriers_is old new c what is = ap (λ (m : Known). m.carriers) is

room_one : (m : Known) {c : ℕ} {h : Hand} → MayAct m c h → length m.history + 1 ≤ m.setting.limits.events
room_one m act = let room = room_for m act.legal act.going in omega arith

-- what was told stays as it was
told_is : (old new : Known) (c : ℕ) (what : What) → new ≡ with_entry old c what → new.told ≡ old.told
told_is old new c what is = ap (λ (m : Known). m.told) is

-- a frozen continuation was put down
pub settle_act : (old new : Known) (c now : ℕ) (k : Continuation) (h g : Hand) (answer : Turn) → MayAct old c h → h.frozen ≡ Some k
    → new ≡ with_entry old c (Unmount k.thread) → Idle new c → AnswersUnlessOver new Nothing answer → g.asked ≡ Nothing → g.failed ≡ false
    → IsAct old new c now h g answer
settle_act old new c now k h g answer act holds entry idle tells asks works =
    one_entry old new c now (Unmount k.thread) h g answer (room_one old act) (history_is old new c (Unmount k.thread) entry) (setting_is old new c (Unmount k.thread) entry)
    (carriers_is old new c (Unmount k.thread) entry) (turns.unmount k.thread refl) (over_unless new Nothing answer tells) (asks ∙ asked tells) (λ goes. works)
    (turns.puts_down k holds (history_is old new c (Unmount k.thread) entry))
    (λ lacks. absurd (nothing_lacks new.told (told_is old new c (Unmount k.thread) entry ∙ nothing_told old act.legal act.going) lacks))
    (λ told. subst StallsAreTold (sym entry) (told_unmount old c k.thread act.going (subst (λ m. Idle m c) entry idle) told))
  where
    asked : AnswersUnlessOver new Nothing answer → Nothing ≡ asked_by answer
    asked (answers_over ended is) = sym (ap asked_by is)
    asked (answers none is) = sym (ap asked_by is)

-- a thread was taken up
pub mount_act : (old new : Known) (c t now : ℕ) (frames : List Frame) (h g : Hand) (answer : Turn) → MayAct old c h → HoldsNothing h → new ≡ with_entry old c (Mount t)
    → Holds new c t 0 frames → IsLoose new t → GoesOnBy new t answer → g.asked ≡ asked_by answer → g.failed ≡ false → IsAct old new c now h g answer
mount_act old new c t now frames h g answer act nothing entry hand loose way asks works =
    one_entry old new c now (Mount t) h g answer (room_one old act) (history_is old new c (Mount t) entry) (setting_is old new c (Mount t) entry)
    (carriers_is old new c (Mount t) entry) (turns.mount t refl) (over_by new t answer way) asks (λ goes. works)
    (turns.takes_up t nothing (history_is old new c (Mount t) entry))
    (λ lacks. absurd (nothing_lacks new.told (told_is old new c (Mount t) entry ∙ nothing_told old act.legal act.going) lacks))
    (λ told. subst StallsAreTold (sym entry) (told_mount old c t frames act.going (subst (λ m. Holds m c t 0 frames) entry hand) (subst (λ m. IsLoose m t) entry loose) told))

-- a thread was taken up, and there was no memory to hold it
pub mount_fails_act : (old mid new : Known) (c t now : ℕ) (h g : Hand) → MayAct old c h → HoldsNothing h → mid ≡ with_entry old c (Mount t) → IsLegal mid
    → IsGivenUp mid new → g.asked ≡ Nothing → IsAct old new c now h g Over
mount_fails_act old mid new c t now h g act nothing entry legal given asks =
    one_entry old new c now (Mount t) h g Over (room_one old act) history setting carriers (turns.mount t refl) (sym ended) asks (λ goes. absurd cc)
    (turns.takes_up t nothing history) (λ lacks. stops_by given lacks) (λ told. told_over new ended)
  where
    history_by : IsGivenUp mid new → new.history ≡ mid.history
    history_by (was_over over same) = ap (λ (m : Known). m.history) same
    history_by (gives_up none same) = ap (λ (m : Known). m.history) same

    setting_by : IsGivenUp mid new → new.setting ≡ mid.setting
    setting_by (was_over over same) = ap (λ (m : Known). m.setting) same
    setting_by (gives_up none same) = ap (λ (m : Known). m.setting) same

    carriers_by : IsGivenUp mid new → new.carriers ≡ mid.carriers
    carriers_by (was_over over same) = ap (λ (m : Known). m.carriers) same
    carriers_by (gives_up none same) = ap (λ (m : Known). m.carriers) same

    ended_by : IsGivenUp mid new → is_some (machine_ending new) ≡ true
    ended_by (was_over over same) = ap (λ m. is_some (machine_ending m)) same ∙ over
    ended_by (gives_up none same) = ap (λ m. is_some (machine_ending m)) same ∙ told_ends mid Halted legal

    stops_by : IsGivenUp mid new → wants_nothing new.told ≡ false → IsGivenUpWith new h (entry_by c (Mount t) ∷ []) ⊎ StepLacks old h
    stops_by (was_over over same) lacks =
        absurd (nothing_lacks new.told (ap (λ (m : Known). m.told) same ∙ told_is old mid c (Mount t) entry ∙ nothing_told old act.legal act.going) lacks)
    stops_by (gives_up none same) lacks = inl (ap (λ (m : Known). m.told) same, inr nothing.mounted)

    history : new.history ≡ old.history ++ entry_by c (Mount t) ∷ []
    history = history_by given ∙ history_is old mid c (Mount t) entry

    setting : new.setting ≡ old.setting
    setting = setting_by given ∙ setting_is old mid c (Mount t) entry

    carriers : new.carriers ≡ old.carriers
    carriers = carriers_by given ∙ carriers_is old mid c (Mount t) entry

    ended : is_some (machine_ending new) ≡ true
    ended = ended_by given

-- ---- with a step

pub record Kept (old new : Known) : Type 0 where
  pub history : new.history ≡ old.history
  pub setting : new.setting ≡ old.setting
  pub carriers : new.carriers ≡ old.carriers

kept_same : (old new : Known) → new ≡ old → Kept old new
kept_same old new is =
    record { history = ap (λ (m : Known). m.history) is; setting = ap (λ (m : Known). m.setting) is; carriers = ap (λ (m : Known). m.carriers) is }

pub looked_keeps : (old new : Known) (ask : Ask) (answer : Turn) → AnswersUnlessStalled old new ask answer → Kept old new
looked_keeps old new ask answer (looks_over ended same is) = kept_same old new same
looked_keeps old new ask answer (looks_stalled none same is) =
    record { history = ap (λ (m : Known). m.history) same; setting = ap (λ (m : Known). m.setting) same; carriers = ap (λ (m : Known). m.carriers) same }
looked_keeps old new ask answer (looks_starved none same is) =
    record { history = ap (λ (m : Known). m.history) same; setting = ap (λ (m : Known). m.setting) same; carriers = ap (λ (m : Known). m.carriers) same }
looked_keeps old new ask answer (looks_on none not fed same is) = kept_same old new same

-- nothing was told but that the program can go on no more
looked_lacks : (old new : Known) (ask : Ask) (answer : Turn) → AnswersUnlessStalled old new ask answer → old.told ≡ None → wants_nothing new.told ≡ false → ⊥
looked_lacks old new ask answer (looks_over ended same is) none lacks = nothing_lacks new.told (ap (λ (m : Known). m.told) same ∙ none) lacks
looked_lacks old new ask answer (looks_stalled going same is) none lacks = let e = sym (ap (λ (m : Known). wants_nothing m.told) same) ∙ lacks in absurd cc
looked_lacks old new ask answer (looks_starved going same is) none lacks = let e = sym (ap (λ (m : Known). wants_nothing m.told) same) ∙ lacks in absurd cc
looked_lacks old new ask answer (looks_on going on fed same is) none lacks = nothing_lacks new.told (ap (λ (m : Known). m.told) same ∙ none) lacks

-- after a look a carrier doesn't nap
looked_wakes : (old new : Known) (ask : Ask) (answer : Turn) (nanos : Option ℕ) → AnswersUnlessStalled old new ask answer → answer ≡ Nap nanos → ⊥
looked_wakes old new ask answer nanos (looks_over ended same over) is = let e = sym is ∙ over in cc
looked_wakes old new ask answer nanos (looks_stalled none same over) is = let e = sym is ∙ over in cc
looked_wakes old new ask answer nanos (looks_starved none same over) is = let e = sym is ∙ over in cc
looked_wakes old new ask answer nanos (looks_on none not fed same goes) is = let e = sym is ∙ goes in cc

left_one : (n k : ℕ) → n + 2 ≤ k → n + 1 ≤ k
left_one n k few = omega arith

-- a step that reads the clock picks nobody
unread_by : (old : Known) (h : Hand) (t : ℕ) {c : ℕ} (was : Continuation) (pick : Option ℕ) → MayGoOn old c h t → h.mounted ≡ Some was
    → Given old (λ v. reads_clock_next old.setting.world (with_frames v.state t was.stack.frames) t ≡ true → pick ≡ None) → StepReads old h → pick ≡ None
unread_by old h t was pick may had none r =
    let v = may.legal.after in
    let there = is_scheduled old may.legal in
    let thread : was.thread ≡ t = ap (λ (k : Continuation). k.thread) (same_kept was may.mounted.kept (sym had ∙ may.mounted.mounted)) ∙ may.mounted.thread in
    none v there
    (subst (λ (u : ℕ). reads_clock_next old.setting.world (with_frames v.state u was.stack.frames) u ≡ true) thread
    (subst (λ (k : Continuation). reads_clock_next old.setting.world (with_frames v.state k.thread k.stack.frames) k.thread ≡ true) (same_kept r.kept was (sym r.mounted ∙ had))
    (r.reads v there)))

-- the thread goes on
pub goes_act : (old mid : Known) (c t now least : ℕ) (h g x : Hand) (answer : Turn) → MayGoOn old c h t → HasGone Goes old mid c t least h g
    → MayStep mid t → GoesOnBy mid t answer → x.asked ≡ asked_by answer → x.failed ≡ false → IsAct old mid c now h x answer
goes_act old mid c t now least h g x answer may gone still way asks works =
    let s = gone.steps in
    let what = Step t (suc gone.local) s.pick in
    let has = may.mounted in
    one_entry old mid c now what h x answer (left_one (length old.history) old.setting.limits.events may.left) (history_is old mid c what s.entry) (setting_is old mid c what s.entry)
    (carriers_is old mid c what s.entry) (turns.step t gone.local s.pick refl) (over_by mid t answer way) asks (λ goes. works)
    (turns.steps has.kept gone.local s.pick [] has.mounted gone.ahead (subst (MayStep old) (sym has.thread) may.enabled) (unread_by old h t gone.was s.pick may gone.had s.unread)
    (history_is old mid c what s.entry ∙ ap (λ u. old.history ++ entry_by c (Step u (suc gone.local) s.pick) ∷ []) (sym has.thread)) (λ is. absurd (no_freeze is way))
    (λ nanos is. absurd (no_nap nanos is way)))
    (λ lacks. absurd (nothing_lacks mid.told (told_is old mid c what s.entry ∙ may.going.told) lacks))
    (λ told. told_enabled mid c t 0 gone.kept.stack.frames s.hand still)
  where
    no_nap : (nanos : Option ℕ) → answer ≡ Nap nanos → GoesOnBy mid t answer → ⊥
    no_nap nanos is (goes_over ended over) = absurd (let e = sym is ∙ over in cc)
    no_nap nanos is (goes_to_run none phase runs) = absurd (let e = sym is ∙ runs in cc)
    no_nap nanos is (goes_to_wait none not goes) = absurd (let e = sym is ∙ goes in cc)

    no_freeze : answer ≡ Run Freeze → GoesOnBy mid t answer → ⊥
    no_freeze is (goes_over ended over) = absurd (let e = sym is ∙ over in cc)
    no_freeze is (goes_to_run none phase runs) = absurd (let e = sym is ∙ runs in cc)
    no_freeze is (goes_to_wait none not goes) = absurd (let e = sym is ∙ goes in cc)

-- the thread has to leave
pub leaves_act : (old mid new : Known) (c t now least : ℕ) (h g x : Hand) (answer : Turn) → MayGoOn old c h t → HasGone Leaves old mid c t least h g
    → IsLegal mid → AnswersUnlessStalled mid new Freeze answer → x.asked ≡ asked_by answer → x.failed ≡ false → IsAct old new c now h x answer
leaves_act old mid new c t now least h g x answer may gone legal look asks works =
    let s = gone.steps in
    let what = Step t (suc gone.local) s.pick in
    let keeps = looked_keeps mid new Freeze answer look in
    let history = keeps.history ∙ history_is old mid c what s.entry in
    let has = may.mounted in
    one_entry old new c now what h x answer (left_one (length old.history) old.setting.limits.events may.left) history (keeps.setting ∙ setting_is old mid c what s.entry)
    (keeps.carriers ∙ carriers_is old mid c what s.entry) (turns.step t gone.local s.pick refl) (over_looked mid new Freeze answer legal look) asks (λ goes. works)
    (turns.steps has.kept gone.local s.pick [] has.mounted gone.ahead (subst (MayStep old) (sym has.thread) may.enabled) (unread_by old h t gone.was s.pick may gone.had s.unread)
    (history ∙ ap (λ u. old.history ++ entry_by c (Step u (suc gone.local) s.pick) ∷ []) (sym has.thread))
    (λ is. subst (OwesUnmount new) (sym has.thread) (owed is look)) (λ nanos is. absurd (looked_wakes mid new Freeze answer nanos look is)))
    (λ lacks. absurd (looked_lacks mid new Freeze answer look (told_is old mid c what s.entry ∙ may.going.told) lacks))
    (λ told. told_looked mid new Freeze answer legal look)
  where
    owed : answer ≡ Run Freeze → AnswersUnlessStalled mid new Freeze answer → OwesUnmount new t
    owed is (looks_over ended same over) = absurd (let e = sym is ∙ over in cc)
    owed is (looks_stalled none same over) = absurd (let e = sym is ∙ over in cc)
    owed is (looks_starved none same over) = absurd (let e = sym is ∙ over in cc)
    owed is (looks_on none not fed same goes) = subst (λ m. OwesUnmount m t) (sym same) gone.steps.outcome.0

-- the thread is pinned and can't go on
pub waits_act : (old mid new : Known) (c t now least : ℕ) (h g : Hand) (answer : Turn) → MayGoOn old c h t → HasGone afters.Waits old mid c t least h g → IsLegal mid
    → NapsUnlessStalled mid new now answer → IsAct old new c now h g answer
waits_act old mid new c t now least h g answer may gone legal way = by way
  where
    s : HasStepped afters.Waits old mid c t gone.local gone.was.stack.frames gone.kept.stack.frames
    s = gone.steps

    what : What
    what = Step t (suc gone.local) s.pick

    act_by : (r : Turn) → AnswersUnlessStalled mid new Nothing r → is_over answer ≡ is_over r → asked_by answer ≡ Nothing → (answer ≡ Run Freeze → ⊥)
        → ((nanos : Option ℕ) → answer ≡ Nap nanos → Waits new t × IsNap new now nanos) → IsAct old new c now h g answer
    act_by r look over asks no_freeze naps =
        let keeps = looked_keeps mid new Nothing r look in
        let history = keeps.history ∙ history_is old mid c what s.entry in
        let has = may.mounted in
        one_entry old new c now what h g answer (left_one (length old.history) old.setting.limits.events may.left) history (keeps.setting ∙ setting_is old mid c what s.entry)
        (keeps.carriers ∙ carriers_is old mid c what s.entry) (turns.step t gone.local s.pick refl) (over ∙ over_looked mid new Nothing r legal look)
        (gone.parts.asked_is ∙ sym asks) (λ goes. gone.works)
        (turns.steps has.kept gone.local s.pick [] has.mounted gone.ahead (subst (MayStep old) (sym has.thread) may.enabled) (unread_by old h t gone.was s.pick may gone.had s.unread)
        (history ∙ ap (λ u. old.history ++ entry_by c (Step u (suc gone.local) s.pick) ∷ []) (sym has.thread))
        (λ is. absurd (no_freeze is)) (λ nanos is. (subst (Waits new) (sym has.thread) (naps nanos is).0, (naps nanos is).1)))
        (λ lacks. absurd (looked_lacks mid new Nothing r look (told_is old mid c what s.entry ∙ may.going.told) lacks))
        (λ told. told_looked mid new Nothing r legal look)

    same_machine : AnswersUnlessStalled mid new Nothing (Run Nothing) → new ≡ mid
    same_machine (looks_over ended same is) = same
    same_machine (looks_stalled none same is) = absurd cc
    same_machine (looks_starved none same is) = absurd cc
    same_machine (looks_on none not fed same is) = same

    by : NapsUnlessStalled mid new now answer → IsAct old new c now h g answer
    by (naps_over look is) =
        act_by Over look (ap is_over is) (ap asked_by is) (λ e. let f = sym is ∙ e in cc) (λ nanos e. absurd (let f = sym is ∙ e in cc))
    by (naps_on nanos look nap is) =
        act_by (Run Nothing) look (ap is_over is) (ap asked_by is) (λ e. let f = sym is ∙ e in cc)
        (λ other e. (subst (λ m. Waits m t) (sym (same_machine look)) s.outcome.1, subst (IsNap new now) (let f = sym is ∙ e in cc) nap))

-- the thread has ended, and was put down
pub ends_act : (old mid put new : Known) (c t now least : ℕ) (h g x : Hand) (answer : Turn) → MayGoOn old c h t → HasGone Ends old mid c t least h g
    → put ≡ with_entry mid c (Unmount t) → IsLegal put → AnswersUnlessStalled put new Nothing answer → x.asked ≡ Nothing → x.failed ≡ false
    → IsAct old new c now h x answer
ends_act old mid put new c t now least h g x answer may gone entry legal look asks works =
    record {
      entries = entry_by c what ∷ entry_by c (Unmount t) ∷ [];
      are_acts = turns.last_step t gone.local s.pick refl;
      history = history;
      setting = setting;
      carriers = keeps.carriers ∙ carriers_is mid put c (Unmount t) entry ∙ carriers_is old mid c what s.entry;
      over = over_looked put new Nothing answer legal look;
      asks = asks ∙ asked look;
      works = λ goes. works;
      due = λ wants. turns.steps may.mounted.kept gone.local s.pick (entry_by c (Unmount t) ∷ []) may.mounted.mounted gone.ahead (subst (MayStep old) (sym may.mounted.thread) may.enabled)
          (unread_by old h t gone.was s.pick may gone.had s.unread)
          (history ∙ ap (λ u. old.history ++ entry_by c (Step u (suc gone.local) s.pick) ∷ entry_by c (Unmount t) ∷ []) (sym may.mounted.thread)) (λ is. absurd (no_freeze is look))
          (λ nanos is. absurd (looked_wakes put new Nothing answer nanos look is));
      stops = λ lacks.
          absurd (looked_lacks put new Nothing answer look (told_is mid put c (Unmount t) entry ∙ told_is old mid c what s.entry ∙ may.going.told) lacks);
      told = λ told. told_looked put new Nothing answer legal look;
      nearer = λ goes. nearer_by_entry old new h x (left_one (length old.history) old.setting.limits.events may.left)
          (subst (λ (es : List Entry). length old.history < length es) (sym history) (one_longer old.history (entry_by c what) (entry_by c (Unmount t) ∷ []))) setting;
    }
  where
    s : HasStepped Ends old mid c t gone.local gone.was.stack.frames gone.kept.stack.frames
    s = gone.steps

    what : What
    what = Step t (suc gone.local) s.pick

    keeps : Kept put new
    keeps = looked_keeps put new Nothing answer look

    setting : new.setting ≡ old.setting
    setting = keeps.setting ∙ setting_is mid put c (Unmount t) entry ∙ setting_is old mid c what s.entry

    history : new.history ≡ old.history ++ entry_by c (Step t (suc gone.local) s.pick) ∷ entry_by c (Unmount t) ∷ []
    history =
        keeps.history ∙ history_is mid put c (Unmount t) entry
        ∙ ap (λ (es : List Entry). es ++ entry_by c (Unmount t) ∷ []) (history_is old mid c (Step t (suc gone.local) s.pick) s.entry)
        ∙ append_snoc old.history (entry_by c (Step t (suc gone.local) s.pick)) (entry_by c (Unmount t) ∷ [])

    asked : AnswersUnlessStalled put new Nothing answer → Nothing ≡ asked_by answer
    asked (looks_over ended same is) = sym (ap asked_by is)
    asked (looks_stalled none same is) = sym (ap asked_by is)
    asked (looks_starved none same is) = sym (ap asked_by is)
    asked (looks_on none not fed same is) = sym (ap asked_by is)

    no_freeze : answer ≡ Run Freeze → AnswersUnlessStalled put new Nothing answer → ⊥
    no_freeze is (looks_over ended same over) = absurd (let e = sym is ∙ over in cc)
    no_freeze is (looks_stalled none same over) = absurd (let e = sym is ∙ over in cc)
    no_freeze is (looks_starved none same over) = absurd (let e = sym is ∙ over in cc)
    no_freeze is (looks_on none not fed same goes) = absurd (let e = sym is ∙ goes in cc)

-- the run was given up, or came to the limit of threads
pub halts_act : (old mid : Known) (c t now least : ℕ) (h g x : Hand) → MayGoOn old c h t → HasGone Halts old mid c t least h g → x.asked ≡ Nothing → IsAct old mid c now h x Over
halts_act old mid c t now least h g x may gone asks = by gone.steps
  where
    same_thread : gone.was.thread ≡ t
    same_thread = thread_kept old c h t gone.was may gone.had

    stopped : (e : Ending) → mid ≡ with_ending old e → (wants_nothing (Some e) ≡ false) → IsGivenUpWith (with_ending old e) h [] ⊎ StepLacks old h → IsAct old mid c now h x Over
    stopped e is lacks why = subst (λ m. IsAct old m c now h x Over) (sym is) (record {
      entries = [];
      are_acts = turns.none refl;
      history = sym (append-nil old.history);
      setting = refl;
      carriers = refl;
      over = sym (told_ends old e may.legal);
      asks = asks;
      works = λ goes. absurd cc;
      due = λ wants. absurd (no_true (wants_nothing (Some e)) wants lacks);
      stops = λ _. why;
      told = λ told. told_over (with_ending old e) (told_ends old e may.legal);
      nearer = λ goes. absurd cc;
    })

    by : HasHalted old mid t gone.was.stack.frames → IsAct old mid c now h x Over
    by (given_up is) = stopped Halted is refl (inl (refl, inl refl))
    by (lacks_threads is lacks) =
        stopped (Limit Threads old.setting.limits.threads) is refl (inr (record {
          kept = gone.was;
          mounted = gone.had;
          lacks = subst (λ u. Given old (λ v. lacks_threads_next old.setting.world (with_frames v.state u gone.was.stack.frames) u ≡ true)) (sym same_thread) lacks;
        }))

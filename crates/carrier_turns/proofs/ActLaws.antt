-- What each way through a turn gives its callers.
use Rattle.std.proofs.Common.{◌≡◌, ◌⊎◌, inl, inr, ◌<◌, ◌≤◌, ℕ, suc, arith, Bool, true, false, Option, Some, None, Result, Ok, Err, refl, ap, sym, ◌∙◌, subst}
use Rattle.std.specs.Prelude.{OnOk, is_err, is_none, is_some}
use Rattle.std.proofs.lemmas.Bool.{and_parts}
use Rattle.continuation.specs.Continuation.{Continuation}
use Rattle.invocation.specs.InvocationCache.{AreSelected, Kept}
use Rattle.history.specs.declared.entry.What.TheVariants.{Mount, Step}
use Rattle.ref_model.specs.declared.ending.Ending.{Ending}
use Rattle.ref_model.specs.declared.ending.Ending.TheVariants.{Halted, Stalled, Starved}
use Rattle.ref_model.specs.Ending.{ending}
use Rattle.ref_model.specs.Looks.{look_of}
use Rattle.ref_model.specs.Setting.{Setting}
use Rattle.ref_model.specs.Step.{enabled}
use Rattle.machine.specs.declared.after.After.{After}
use Rattle.machine.specs.declared.after.After.TheVariants.{Goes, Runs, Leaves, Waits, Ends, Halts, ReadsClock}
use Rattle.machine.specs.Hands.{HasEnded, Holds, IsLoose, IsMounted, Lives, MayStep, MayUnmount, OwesNothing, OwesUnmount, Waits as Rests}
use Rattle.machine.specs.Legal.{GoesOn, IsLegal}
use Rattle.machine.specs.Machines.{Given, Known, machine_ending, with_ending, with_entry}
use Rattle.machine.specs.Turns.{HasStepped}
use Rattle.carrier_turns.specs.declared.ask.Ask.{Ask}
use Rattle.carrier_turns.specs.declared.ask.Ask.TheVariants.{Nothing, Freeze}
use Rattle.carrier_turns.specs.declared.ask.Turn.{Turn}
use Rattle.carrier_turns.specs.declared.ask.Turn.TheVariants.{Run, Over}
use Rattle.carrier_turns.specs.declared.hand.Hand.{Hand}
use Rattle.carrier_turns.specs.Hands.{Fits, HasDone, HasParts, HasThread}
use Rattle.carrier_turns.specs.Steps.{AnswersUnlessStalled, GoesOnBy, HasGone, MayAct, MayGoOn, MountedBy, NapsUnlessStalled, is_runs, ran, waits, looks_over, looks_stalled, looks_starved, looks_on, naps_over, naps_on}
use Rattle.carrier_turns.specs.Turns.{HoldsNothing, IsTurn, MayNotStep, asked_by}
use Rattle.carrier_turns.proofs.EndingLaws.{goes_on, is_scheduled, room_for, told_ends}
use Rattle.carrier_turns.proofs.FitLaws.{empty_by, fits_told, goes_fits, held_rests, leaving_fits, mounted_by, over_fits, owed_leaves, running_steps, waiting_fits}
use Rattle.carrier_turns.proofs.StepLaws.{enabled_lives, is_mounted, may_retire, mounted_lives, off_leaves}
use Rattle.carrier_turns.proofs.TurnLaws.{carriers_is, room_turn, setting_is, stopped_turn}

-- ---- whether the mounted thread may step

-- one that has executed local instructions may
pub on_by_local : (m : Known) (c t : ℕ) (h : Hand) → MayAct m c h → HasThread h t → is_some h.local ≡ true → MayStep m t
on_by_local m c t h act has some = subst (MayStep m) has.thread (by (mounted_by m c h has.kept act has.mounted))
  where
    by : MountedBy m c h has.kept → MayStep m has.kept.thread
    by (ran run parts holds owes phase stops) = running_steps m has.kept.thread act.going phase
    by (waits parts holds owes not) = absurd (let e = sym some ∙ ap is_some parts.local_is in cc)

pub thread_mounted : (m : Known) (c t : ℕ) (h : Hand) → MayAct m c h → HasThread h t → IsMounted m t
thread_mounted m c t h act has = subst (IsMounted m) has.thread (by (mounted_by m c h has.kept act has.mounted))
  where
    by : MountedBy m c h has.kept → IsMounted m has.kept.thread
    by (ran run parts holds owes phase stops) = is_mounted m c has.kept.thread run.steps has.kept.stack.frames holds
    by (waits parts holds owes not) = is_mounted m c has.kept.thread 0 has.kept.stack.frames holds

no_true : (b : Bool) → b ≡ true → b ≡ false → ⊥
no_true b e f = absurd cc

-- one that may not is to be frozen, unless it is pinned
pub off_fits : (m : Known) (c t : ℕ) (h g : Hand) → MayAct m c h → HasThread h t → MayNotStep m t → IsLoose m t → HasParts g h.mounted h.frozen h.local Freeze
    → g.failed ≡ h.failed → g.cache ≡ h.cache → Fits m c g
off_fits m c t h g act has off loose parts failed cache = by (mounted_by m c h has.kept act has.mounted)
  where
    off_k : MayNotStep m has.kept.thread
    off_k = subst (MayNotStep m) (sym has.thread) off

    by : MountedBy m c h has.kept → Fits m c g
    by (ran run was holds owes phase stops) =
        let v = act.legal.after in
        let at = is_scheduled m act.legal in
        absurd (no_true (enabled v.state has.kept.thread) (running_steps m has.kept.thread act.going phase v at) (off_k v at))
    by (waits was holds owes not) =
        leaving_fits m c has.kept.thread has.kept g act.fits.below refl holds (mounted_lives m c h has.kept (waits was holds owes not))
        (off_leaves m c has.kept.thread 0 has.kept.stack.frames act.legal holds owes (subst (IsLoose m) (sym has.thread) loose) off_k) (record {
          mounted_is = parts.mounted_is ∙ was.mounted_is;
          frozen_is = parts.frozen_is ∙ was.frozen_is;
          local_is = parts.local_is ∙ was.local_is;
          asked_is = parts.asked_is;
        }) (failed ∙ act.works) (subst (AreSelected m.setting.world) (sym cache) act.fits.selected)

same_kept : (x y : Continuation) → ◌≡◌ {A = Option Continuation} (Some x) (Some y) → x ≡ y
same_kept x y e = cc

same_number : (h : Hand) (t : ℕ) (k : Continuation) → HasThread h t → h.mounted ≡ Some k → k.thread ≡ t
same_number h t k has mounted = ap (λ (x : Continuation). x.thread) (same_kept k has.kept (sym mounted ∙ has.mounted)) ∙ has.thread

pub there_is : (h : Hand) (t : ℕ) → HasThread h t → h.mounted ≡ None → ⊥
there_is h t has none = let e = sym has.mounted ∙ none in cc

-- one that may not has executed nothing ahead
pub off_holds : (m : Known) (c t : ℕ) (h : Hand) (k : Continuation) → MayAct m c h → HasThread h t → MayNotStep m t → h.mounted ≡ Some k
    → Holds m c k.thread 0 k.stack.frames
off_holds m c t h k act has off mounted = by (mounted_by m c h k act mounted)
  where
    off_k : MayNotStep m k.thread
    off_k = subst (MayNotStep m) (sym (same_number h t k has mounted)) off

    by : MountedBy m c h k → Holds m c k.thread 0 k.stack.frames
    by (ran run was holds owes phase stops) =
        let v = act.legal.after in
        let at = is_scheduled m act.legal in
        absurd (no_true (enabled v.state k.thread) (running_steps m k.thread act.going phase v at) (off_k v at))
    by (waits was holds owes not) = holds

pub has_lives : (m : Known) (c t : ℕ) (h : Hand) → MayAct m c h → HasThread h t → Lives m t
has_lives m c t h act has = subst (Lives m) has.thread (mounted_lives m c h has.kept (mounted_by m c h has.kept act has.mounted))

-- whether it is pinned is told by its frames
pub held_by : (m : Known) (c t : ℕ) (h : Hand) (k : Continuation) (b : Bool) → MayAct m c h → HasThread h t → MayNotStep m t → h.mounted ≡ Some k
    → Given m (λ v. b ≡ (look_of m.setting.world v.state).pinned k.thread) → b ≡ true → Rests m t
held_by m c t h k b act has off mounted is pins = λ v at.
    record {
      live = has_lives m c t h act has v at;
      pinned = subst (λ u. (look_of m.setting.world v.state).pinned u ≡ true) (same_number h t k has mounted) (sym (is v at) ∙ pins);
      off = off v at;
    }

pub loose_by : (m : Known) (t : ℕ) (h : Hand) (k : Continuation) (b : Bool) → HasThread h t → h.mounted ≡ Some k
    → Given m (λ v. b ≡ (look_of m.setting.world v.state).pinned k.thread) → b ≡ false → IsLoose m t
loose_by m t h k b has mounted is free = λ v at.
    subst (λ u. (look_of m.setting.world v.state).pinned u ≡ false) (same_number h t k has mounted) (sym (is v at) ∙ free)

-- it may make a step
pub may_go : (m : Known) (c t : ℕ) (h : Hand) → MayAct m c h → HasThread h t → MayStep m t → MayGoOn m c h t
may_go m c t h act has enabled = record {
  legal = act.legal;
  below = act.fits.below;
  selected = act.fits.selected;
  done = act.done;
  works = act.works;
  going = goes_on m act.legal act.going;
  left = let room = room_for m act.legal act.going in omega arith;
  spare = act.spare;
  mounted = has;
  by = mounted_by m c h has.kept act has.mounted;
  enabled = enabled;
}

-- ---- after a step

pub gone_at : {after b : After} {old mid : Known} {c t now : ℕ} {h g : Hand} → after ≡ b → HasGone after old mid c t now h g → HasGone b old mid c t now h g
gone_at {old = old} {mid = mid} {c = c} {t = t} {now = now} {h = h} {g = g} e gone = subst (λ a. HasGone a old mid c t now h g) e gone

-- what was gone without a step halted the run
pub gone_halts : {after : After} {old mid : Known} {c t now : ℕ} {h g : Hand} → (after ≡ Halts) ⊎ (after ≡ ReadsClock) → HasGone after old mid c t now h g
    → HasGone Halts old mid c t now h g
gone_halts (inl e) gone = gone_at e gone
gone_halts (inr e) gone = absurd (gone.tried e)

pub goes_may : (old mid : Known) (c t now : ℕ) (h g : Hand) → HasGone Goes old mid c t now h g → IsLegal mid → MayStep mid t
goes_may old mid c t now h g gone legal = gone.steps.outcome.1

pub goes_lives : (old mid : Known) (c t now : ℕ) (h g : Hand) → HasGone Goes old mid c t now h g → IsLegal mid → Lives mid t
goes_lives old mid c t now h g gone legal = enabled_lives mid t (goes_may old mid c t now h g gone legal)

pub retire_may : (old mid : Known) (c t now : ℕ) (h g : Hand) → HasGone Ends old mid c t now h g → MayUnmount mid c t
retire_may old mid c t now h g gone =
    let s = gone.steps in
    let entered = with_entry old c (Step t (suc gone.local) s.pick) in
    subst (λ m. MayUnmount m c t) (sym s.entry)
    (may_retire old c t (suc gone.local) 0 s.pick gone.kept.stack.frames (subst (λ m. Holds m c t 0 gone.kept.stack.frames) s.entry s.hand)
    (subst (λ m. OwesUnmount m t) s.entry s.outcome.0) (subst (λ m. HasEnded m t) s.entry s.outcome.1))

below_after : (old mid : Known) (c t n : ℕ) (pick : Option ℕ) → mid ≡ with_entry old c (Step t n pick) → c < old.carriers → c < mid.carriers
below_after old mid c t n pick entry below = subst (λ k. c < k) (sym (carriers_is old mid c (Step t n pick) entry)) below

selected_after : (old mid : Known) (c t n : ℕ) (pick : Option ℕ) (s : Kept) → mid ≡ with_entry old c (Step t n pick) → AreSelected old.setting.world s → AreSelected mid.setting.world s
selected_after old mid c t n pick s entry selected = subst (λ (p : Setting). AreSelected p.world s) (sym (setting_is old mid c (Step t n pick) entry)) selected

parts_after : (g x : Hand) (k : Continuation) (ask : Ask) → HasParts g (Some k) None None Nothing → HasParts x g.mounted g.frozen g.local ask
    → HasParts x (Some k) None None ask
parts_after g x k ask was parts =
    record {
      mounted_is = parts.mounted_is ∙ was.mounted_is;
      frozen_is = parts.frozen_is ∙ was.frozen_is;
      local_is = parts.local_is ∙ was.local_is;
      asked_is = parts.asked_is;
    }

pub goes_on_fits : (old mid : Known) (c t now : ℕ) (h g x : Hand) (answer : Turn) → MayGoOn old c h t → HasGone Goes old mid c t now h g → IsLegal mid
    → GoesOnBy mid t answer → HasParts x g.mounted g.frozen g.local (asked_by answer) → x.failed ≡ g.failed → x.cache ≡ g.cache → Fits mid c x
goes_on_fits old mid c t now h g x answer act gone legal way parts failed cache =
    let s = gone.steps in
    goes_fits mid c t gone.kept x answer legal (below_after old mid c t (suc gone.local) s.pick s.entry act.below) (gone.thread (λ e. cc)) s.hand s.outcome.0 way
    (parts_after g x gone.kept (asked_by answer) gone.parts parts) (failed ∙ gone.works)
    (subst (AreSelected mid.setting.world) (sym cache) (selected_after old mid c t (suc gone.local) s.pick g.cache s.entry gone.selected))

pub leaves_on_fits : (old mid new : Known) (c t now : ℕ) (h g x : Hand) (answer : Turn) → MayGoOn old c h t → HasGone Leaves old mid c t now h g → IsLegal mid
    → AnswersUnlessStalled mid new Freeze answer → HasParts x g.mounted g.frozen g.local (asked_by answer) → x.failed ≡ g.failed → x.cache ≡ g.cache
    → Fits new c x
leaves_on_fits old mid new c t now h g x answer act gone legal look parts failed cache = by look
  where
    s : HasStepped Leaves old mid c t gone.local gone.was.stack.frames gone.kept.stack.frames
    s = gone.steps

    below : c < mid.carriers
    below = below_after old mid c t (suc gone.local) s.pick s.entry act.below

    works : x.failed ≡ false
    works = failed ∙ gone.works

    selected : AreSelected mid.setting.world x.cache
    selected = subst (AreSelected mid.setting.world) (sym cache) (selected_after old mid c t (suc gone.local) s.pick g.cache s.entry gone.selected)

    asks : (ask : Ask) → asked_by answer ≡ ask → HasParts x (Some gone.kept) None None ask
    asks ask is = subst (HasParts x (Some gone.kept) None None) is (parts_after g x gone.kept (asked_by answer) gone.parts parts)

    by : AnswersUnlessStalled mid new Freeze answer → Fits new c x
    by (looks_over ended same is) =
        subst (λ m. Fits m c x) (sym same) (over_fits mid c t gone.kept x below (gone.thread (λ e. cc)) s.hand ended (asks Nothing (ap asked_by is)) works selected)
    by (looks_stalled none same is) =
        subst (λ m. Fits m c x) (sym same)
        (over_fits (with_ending mid Stalled) c t gone.kept x below (gone.thread (λ e. cc)) s.hand (told_ends mid Stalled legal) (asks Nothing (ap asked_by is)) works selected)
    by (looks_starved none same is) =
        subst (λ m. Fits m c x) (sym same)
        (over_fits (with_ending mid Starved) c t gone.kept x below (gone.thread (λ e. cc)) s.hand (told_ends mid Starved legal) (asks Nothing (ap asked_by is)) works selected)
    by (looks_on none not fed same is) =
        subst (λ m. Fits m c x) (sym same)
        (leaving_fits mid c t gone.kept x below (gone.thread (λ e. cc)) s.hand s.outcome.1 (owed_leaves mid c t 0 gone.kept.stack.frames s.hand s.outcome.0)
        (asks Freeze (ap asked_by is)) works selected)

-- one that is pinned and can't go on stays in the hand
pub waits_on_fits : (old mid new : Known) (c t now time : ℕ) (h g : Hand) (answer : Turn) → MayGoOn old c h t → HasGone Waits old mid c t now h g → IsLegal mid
    → NapsUnlessStalled mid new time answer → Fits new c g
waits_on_fits old mid new c t now time h g answer act gone legal way = by way
  where
    s : HasStepped Waits old mid c t gone.local gone.was.stack.frames gone.kept.stack.frames
    s = gone.steps

    below : c < mid.carriers
    below = below_after old mid c t (suc gone.local) s.pick s.entry act.below

    selected : AreSelected mid.setting.world g.cache
    selected = selected_after old mid c t (suc gone.local) s.pick g.cache s.entry gone.selected

    looked : (r : Turn) → AnswersUnlessStalled mid new Nothing r → Fits new c g
    looked r (looks_over ended same is) =
        subst (λ m. Fits m c g) (sym same) (over_fits mid c t gone.kept g below (gone.thread (λ e. cc)) s.hand ended gone.parts gone.works selected)
    looked r (looks_stalled none same is) =
        subst (λ m. Fits m c g) (sym same)
        (over_fits (with_ending mid Stalled) c t gone.kept g below (gone.thread (λ e. cc)) s.hand (told_ends mid Stalled legal) gone.parts gone.works selected)
    looked r (looks_starved none same is) =
        subst (λ m. Fits m c g) (sym same)
        (over_fits (with_ending mid Starved) c t gone.kept g below (gone.thread (λ e. cc)) s.hand (told_ends mid Starved legal) gone.parts gone.works selected)
    looked r (looks_on none not fed same is) =
        subst (λ m. Fits m c g) (sym same)
        (waiting_fits mid c t gone.kept g below (gone.thread (λ e. cc)) s.hand s.outcome.0 (held_rests mid t none s.outcome.1) gone.parts gone.works selected)

    by : NapsUnlessStalled mid new time answer → Fits new c g
    by (naps_over look is) = looked Over look
    by (naps_on nanos look nap is) = looked (Run Nothing) look

-- ---- a thread that goes on and runs

pub runs_so : (after : After) → is_runs after ≡ true → after ≡ Runs
runs_so Runs e = refl
runs_so Goes e = absurd cc
runs_so Leaves e = absurd cc
runs_so Waits e = absurd cc
runs_so Ends e = absurd cc
runs_so ReadsClock e = absurd cc
runs_so Halts e = absurd cc

pub runs_too : {old mid : Known} {c t now : ℕ} {h g : Hand} → HasGone Runs old mid c t now h g → HasGone Goes old mid c t now h g
runs_too gone =
    record {
      tried = λ e. cc;
      was = gone.was;
      had = gone.had;
      kept = gone.kept;
      thread = λ goes. gone.thread (λ e. cc);
      parts = gone.parts;
      works = gone.works;
      selected = gone.selected;
      local = gone.local;
      ahead = gone.ahead;
      in_time = gone.in_time;
      steps = record {
        pick = gone.steps.pick;
        entry = gone.steps.entry;
        unread = gone.steps.unread;
        hand = gone.steps.hand;
        outcome = (gone.steps.outcome.0, gone.steps.outcome.2);
      };
    }

no_ending : (o : Option Ending) → is_none o ≡ true → o ≡ None
no_ending None e = refl
no_ending (Some x) e = absurd cc

-- the program goes on, since the thread may step
pub runs_going : (old mid : Known) (c t now : ℕ) (h g : Hand) → MayGoOn old c h t → HasGone Runs old mid c t now h g → IsLegal mid → GoesOn mid
runs_going old mid c t now h g may gone legal =
    record {
      told = ap (λ (m : Known). m.told) gone.steps.entry ∙ may.going.told;
      going = λ v at. no_ending (ending v.state) (and_parts (is_none (ending v.state)) _ (goes_may old mid c t now h g (runs_too gone) legal v at)).0;
    }

-- ---- a thread that was taken up

pub taken_fits : (old new : Known) (c t : ℕ) (f k : Continuation) (h g : Hand) (answer : Turn) → MayAct old c h → HoldsNothing h
    → new ≡ with_entry old c (Mount f.thread) → IsLegal new → k ≡ f → t ≡ f.thread → Holds new c f.thread 0 f.stack.frames → OwesNothing new f.thread
    → GoesOnBy new t answer → HasParts g (Some k) h.frozen h.local (asked_by answer) → g.failed ≡ h.failed → g.cache ≡ h.cache → Fits new c g
taken_fits old new c t f k h g answer act nothing entry legal same thread holds owes way parts failed cache =
    let was = (empty_by old c h act nothing).parts in
    let below : c < new.carriers = subst (λ n. c < n) (sym (carriers_is old new c (Mount f.thread) entry)) act.fits.below in
    let selected : AreSelected new.setting.world g.cache =
    subst (λ (p : Setting). AreSelected p.world g.cache) (sym (setting_is old new c (Mount f.thread) entry))
    (subst (AreSelected old.setting.world) (sym cache) act.fits.selected) in
    let here : Holds new c t 0 k.stack.frames =
    subst (λ u. Holds new c u 0 k.stack.frames) (sym thread) (subst (λ (x : Continuation). Holds new c f.thread 0 x.stack.frames) (sym same) holds) in
    goes_fits new c t k g answer legal below (ap (λ (x : Continuation). x.thread) same ∙ sym thread) here (subst (OwesNothing new) (sym thread) owes) way
    (record {
      mounted_is = parts.mounted_is;
      frozen_is = parts.frozen_is ∙ was.frozen_is;
      local_is = parts.local_is ∙ was.local_is;
      asked_is = parts.asked_is;
    }) (failed ∙ act.works) selected

pub goes_by : (m : Known) (t u : ℕ) (answer : Turn) → t ≡ u → GoesOnBy m t answer → GoesOnBy m u answer
goes_by m t u answer same way = subst (λ n. GoesOnBy m n answer) same way

-- ---- memory for a turn

on_ok : {A E : Type 0} (r : Result A E) (P : Type 0) → OnOk r P → is_err r ≡ false → P
on_ok (Ok x) P p e = p
on_ok (Err x) P p e = absurd cc

pub room_fits : (old mid : Known) (c : ℕ) (h : Hand) → mid ≡ record old { spare = mid.spare } → Fits old c h → Fits mid c h
room_fits old mid c h same fits = subst (λ m. Fits m c h) (sym same) (fits_told old mid.spare old.told c h (λ ended. ended) fits)

pub may_act : {A E : Type 0} (old mid : Known) (c : ℕ) (h : Hand) (r : Result A E) → mid ≡ record old { spare = mid.spare } → IsLegal mid → Fits old c h → HasDone h
    → h.failed ≡ false → machine_ending old ≡ None → OnOk r (3 ≤ mid.spare) → is_err r ≡ false → MayAct mid c h
may_act old mid c h r same legal fits done works none room fine =
    record {
      legal = legal;
      fits = room_fits old mid c h same fits;
      done = done;
      works = works;
      going = ap machine_ending same ∙ none;
      spare = let spare = on_ok r (3 ≤ mid.spare) room fine in omega arith;
    }

pub given_up_turn : (old mid new : Known) (c now : ℕ) (h : Hand) → mid ≡ record old { spare = mid.spare } → IsLegal old → new ≡ with_ending mid Halted → HasDone h
    → IsTurn old new c now h h Over
given_up_turn old mid new c now h same legal given done =
    subst (λ m. IsTurn old m c now h h Over) (sym (given ∙ ap (λ m. with_ending m Halted) same)) (stopped_turn old mid.spare c now h h legal done)

pub given_up_fits : (old mid new : Known) (c : ℕ) (h : Hand) → mid ≡ record old { spare = mid.spare } → IsLegal old → new ≡ with_ending mid Halted → Fits old c h
    → Fits new c h
given_up_fits old mid new c h same legal given fits =
    subst (λ m. Fits m c h) (sym (given ∙ ap (λ m. with_ending m Halted) same))
    (fits_told old mid.spare (Some Halted) c h (λ ended. told_ends (record old { spare = mid.spare }) Halted (legal_with old mid.spare legal)) fits)
  where
    legal_with : (m : Known) (spare : ℕ) → IsLegal m → IsLegal (record m { spare = spare })
    legal_with m spare x =
        record {
          accepted = x.accepted;
          some = x.some;
          first = x.first;
          begins = x.begins;
          after = x.after;
          runs = x.runs;
          few = x.few;
          cause = x.cause;
        }

pub turn_after_room : (old mid new : Known) (c now : ℕ) (h g : Hand) (answer : Turn) → mid ≡ record old { spare = mid.spare } → IsTurn mid new c now h g answer
    → IsTurn old new c now h g answer
turn_after_room old mid new c now h g answer same x =
    room_turn old new mid.spare c now h g answer (subst (λ m. IsTurn m new c now h g answer) same x)

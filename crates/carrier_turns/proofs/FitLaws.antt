-- Hands that fit: what they hold, and how they come to hold it.
use Rattle.std.proofs.Common.{◌≡◌, ◌<◌, ℕ, Bool, true, false, not, List, Option, Some, None, slice_get, refl, ap, sym, ◌∙◌, subst, cond, ◌||◌}
use Rattle.std.specs.Prelude.{is_none, is_some}
use Rattle.std.specs.Option.{option_map_or}
use Rattle.std.proofs.lemmas.Bool.{and_from, or_left}
use Rattle.items.proofs.Binds.{bind_is}
use Rattle.vthread_state.specs.declared.phase.Phase.TheVariants as phases
use Rattle.vthread_state.specs.declared.thread.Status.TheVariants.{Live}
use Rattle.state_model.specs.Frames.{Frame}
use Rattle.continuation.specs.Continuation.{Continuation}
use Rattle.schedule_model.specs.Entries.{came_late, has_mounted, is_last_act, may_unmount}
use Rattle.ref_model.specs.declared.ending.Ending.{Ending}
use Rattle.ref_model.specs.State.{JavaThread, State, frames_at, running_frames}
use Rattle.ref_model.specs.Ending.{ending}
use Rattle.ref_model.specs.Looks.{look_of}
use Rattle.ref_model.specs.Step.{enabled, is_ready}
use Rattle.frame_soundness.specs.Typed.{Typed}
use Rattle.invocation.specs.InvocationCache.{AreSelected}
use Rattle.schedule_soundness.proofs.TypedHistories.{frames_are_typed}
use Rattle.machine.specs.Machines.{Given, Known, machine_ending}
use Rattle.machine.specs.Hands.{HasPhase, Holds, Idle, IsLiveIn, Lives, MayStep, OwesNothing, OwesUnmount, Waits}
use Rattle.machine.specs.Legal.{IsLegal}
use Rattle.carrier_turns.specs.declared.ask.Ask.{Ask}
use Rattle.carrier_turns.specs.declared.ask.Ask.TheVariants.{Nothing, Local, Freeze}
use Rattle.carrier_turns.specs.declared.hand.Hand.{Hand}
use Rattle.carrier_turns.specs.declared.ask.Turn.{Turn}
use Rattle.carrier_turns.specs.declared.ask.Turn.TheVariants.{Run, Nap, Over}
use Rattle.carrier_turns.specs.Hands.{Fits, HasParts, HasToLeave, HoldsRightly, IsNotRunning, MayFreeze, MayRun, nothing, frozen, leaving, running, stopped, waiting, over}
use Rattle.carrier_turns.specs.Turns.{HoldsNothing, asked_by}
use Rattle.carrier_turns.specs.Steps.{GoesOnBy, MayAct, MountedBy, ran, waits, goes_over, goes_to_run, goes_to_wait}
use Rattle.carrier_turns.specs.Plays.{MayDo}
use Rattle.carrier_turns.proofs.EndingLaws.{going, is_scheduled, not_both}

-- ---- other memory, and another ending

pub fits_told : (m : Known) (spare : ℕ) (told : Option Ending) (c : ℕ) (h : Hand)
    → (is_some (machine_ending m) ≡ true → is_some (machine_ending (record m { spare = spare; told = told })) ≡ true)
    → Fits m c h → Fits (record m { spare = spare; told = told }) c h
fits_told m spare told c h ends fits =
    record { below = fits.below; holds = λ works. by (fits.holds works); rests = fits.rests; selected = fits.selected }
  where
    by : HoldsRightly m c h → HoldsRightly (record m { spare = spare; told = told }) c h
    by (nothing parts idle) = nothing parts idle
    by (frozen k parts holds lives leave) = frozen k parts holds lives leave
    by (leaving k parts holds lives leave) = leaving k parts holds lives leave
    by (running k parts holds owes phase typed) = running k parts holds owes phase typed
    by (stopped k run parts holds owes phase has) = stopped k run parts holds owes phase has
    by (waiting k parts holds owes not) = waiting k parts holds owes not
    by (over k parts holds ended) = over k parts holds (ends ended)

-- one that found no memory fits whatever it holds
pub failed_fits : (m : Known) (c : ℕ) (h : Hand) → c < m.carriers → h.failed ≡ true → h.asked ≡ Nothing → AreSelected m.setting.world h.cache → Fits m c h
failed_fits m c h below failed asked selected =
    record { below = below; holds = λ works. absurd (let e = sym failed ∙ works in cc); rests = λ bad. asked; selected = selected }

-- ---- what a hand holds before its turn

same_kept : (x y : Continuation) → ◌≡◌ {A = Option Continuation} (Some x) (Some y) → x ≡ y
same_kept x y e = cc

pub mounted_by : (m : Known) (c : ℕ) (h : Hand) (k : Continuation) → MayAct m c h → h.mounted ≡ Some k → MountedBy m c h k
mounted_by m c h k act is = by (act.fits.holds act.works)
  where
    by : HoldsRightly m c h → MountedBy m c h k
    by (nothing parts idle) = absurd (let e = sym parts.mounted_is ∙ is in cc)
    by (frozen x parts holds lives leave) = absurd (let e = sym parts.mounted_is ∙ is in cc)
    by (leaving x parts holds lives leave) = absurd (let e = sym parts.asked_is ∙ act.done in cc)
    by (running x parts holds owes phase typed) = absurd (let e = sym parts.asked_is ∙ act.done in cc)
    by (stopped x run parts holds owes phase has) =
        subst (MountedBy m c h) (same_kept x k (sym parts.mounted_is ∙ is)) (ran run parts holds owes phase has)
    by (waiting x parts holds owes not) =
        subst (MountedBy m c h) (same_kept x k (sym parts.mounted_is ∙ is)) (waits parts holds owes not)
    by (over x parts holds ended) = absurd (not_both (machine_ending m) ended act.going)

-- a frozen one is to be put down
pub record FrozenBy (m : Known) (c : ℕ) (h : Hand) (k : Continuation) : Type 0 where
  pub parts : HasParts h None (Some k) None Nothing
  pub holds : Holds m c k.thread 0 k.stack.frames
  pub leave : HasToLeave m c k.thread

pub frozen_by : (m : Known) (c : ℕ) (h : Hand) (k : Continuation) → MayAct m c h → h.frozen ≡ Some k → FrozenBy m c h k
frozen_by m c h k act is = by (act.fits.holds act.works)
  where
    by : HoldsRightly m c h → FrozenBy m c h k
    by (nothing parts idle) = absurd (let e = sym parts.frozen_is ∙ is in cc)
    by (frozen x parts holds lives leave) =
        subst (FrozenBy m c h) (same_kept x k (sym parts.frozen_is ∙ is)) (record { parts = parts; holds = holds; leave = leave })
    by (leaving x parts holds lives leave) = absurd (let e = sym parts.frozen_is ∙ is in cc)
    by (running x parts holds owes phase typed) = absurd (let e = sym parts.frozen_is ∙ is in cc)
    by (stopped x run parts holds owes phase has) = absurd (let e = sym parts.frozen_is ∙ is in cc)
    by (waiting x parts holds owes not) = absurd (let e = sym parts.frozen_is ∙ is in cc)
    by (over x parts holds ended) = absurd (let e = sym parts.frozen_is ∙ is in cc)

pub record EmptyBy (m : Known) (c : ℕ) (h : Hand) : Type 0 where
  pub parts : HasParts h None None None Nothing
  pub idle : Idle m c

pub empty_by : (m : Known) (c : ℕ) (h : Hand) → MayAct m c h → HoldsNothing h → EmptyBy m c h
empty_by m c h act is = by (act.fits.holds act.works)
  where
    by : HoldsRightly m c h → EmptyBy m c h
    by (nothing parts idle) = record { parts = parts; idle = idle }
    by (frozen x parts holds lives leave) = absurd (let e = sym parts.frozen_is ∙ is.frozen in cc)
    by (leaving x parts holds lives leave) = absurd (let e = sym parts.mounted_is ∙ is.mounted in cc)
    by (running x parts holds owes phase typed) = absurd (let e = sym parts.mounted_is ∙ is.mounted in cc)
    by (stopped x run parts holds owes phase has) = absurd (let e = sym parts.mounted_is ∙ is.mounted in cc)
    by (waiting x parts holds owes not) = absurd (let e = sym parts.mounted_is ∙ is.mounted in cc)
    by (over x parts holds ended) = absurd (let e = sym parts.mounted_is ∙ is.mounted in cc)

-- what an unmount needs
pub may_leave : (m : Known) (c t : ℕ) → machine_ending m ≡ None → HasToLeave m c t
    → Given m (λ v. may_unmount (look_of m.setting.world v.state) v.schedule c t ≡ true)
may_leave m c t none leave = λ v at. leave v at (going m v at none).own

-- a thread whose Unmount is owed has to leave
pub owed_leaves : (m : Known) (c t n : ℕ) (frames : List Frame) → Holds m c t n frames → OwesUnmount m t → HasToLeave m c t
owed_leaves m c t n frames holds owes = λ v at goes.
    let l = look_of m.setting.world v.state in
    let s = v.schedule in
    let ended : is_some (ending v.state) ≡ false = ap is_some goes in
    and_from (has_mounted s c t) (cond l.ended (is_last_act l s c t) (s.owes t || came_late l s t)) (holds v at).mounted
    (ap (λ b. cond b (is_last_act l s c t) (s.owes t || came_late l s t)) ended ∙ or_left (s.owes t) (came_late l s t) (owes v at))

-- ---- a thread that runs

same_thread : (x y : JavaThread) → ◌≡◌ {A = Option JavaThread} (Some x) (Some y) → x ≡ y
same_thread x y e = cc

same_frames : (x y : List Frame) → ◌≡◌ {A = Option (List Frame)} (Some x) (Some y) → x ≡ y
same_frames x y e = cc

-- its frames keep to the typing
pub typed_in : (m : Known) (c t : ℕ) (frames : List Frame) → IsLegal m → Holds m c t 0 frames → HasPhase m t phases.Run → Typed m.setting.world frames
typed_in m c t frames x holds phase =
    let v = x.after in
    let h = holds v (is_scheduled m x) in
    let p = phase v (is_scheduled m x) in
    let here : h.thread ≡ p.thread = same_thread h.thread p.thread (sym h.at ∙ p.at) in
    let status : h.thread.thread.status ≡ Live phases.Run = ap (λ (y : JavaThread). y.thread.status) here ∙ p.status in
    let own : h.thread.frames ≡ frames = same_frames h.thread.frames frames h.ahead in
    let has : frames_at v.state t ≡ Some frames =
    bind_is (slice_get v.state.threads t) (λ (y : JavaThread). running_frames y.frames y.thread.status) h.thread (Some frames) h.at
    (ap (running_frames h.thread.frames) status ∙ ap Some own) in
    frames_are_typed m.setting x.first m.carriers m.history v t frames x.accepted.typed x.begins x.runs has

-- it may step, while the program goes on
pub running_goes : (r : State) (t : ℕ) → ending r ≡ None → IsLiveIn r t phases.Run → enabled r t ≡ true
running_goes r t goes p =
    and_from (is_none (ending r)) _ (ap is_none goes)
    (ap (λ o. option_map_or (λ (x : JavaThread). is_ready r x x.thread.status) o false) p.at ∙ ap (is_ready r p.thread) p.status)

pub running_steps : (m : Known) (t : ℕ) → machine_ending m ≡ None → HasPhase m t phases.Run → MayStep m t
running_steps m t none phase = λ v at. running_goes v.state t (going m v at none).own (phase v at)

-- one that can't step doesn't run
pub held_rests : (m : Known) (t : ℕ) → machine_ending m ≡ None → Waits m t → IsNotRunning m t
held_rests m t none waits_ = λ v at.
    let held = waits_ v at in
    record {
      phase = held.live.phase;
      live = held.live.live;
      other = λ runs.
          no_true (enabled v.state t) (running_goes v.state t (going m v at none).own (subst (IsLiveIn v.state t) runs held.live.live)) held.off;
    }
  where
    no_true : (b : Bool) → b ≡ true → b ≡ false → ⊥
    no_true b e f = absurd cc

-- ---- how a thread goes on

moved : (m : Known) (P : ℕ → Type 0) (t u : ℕ) → u ≡ t → P t → P u
moved m P t u same is = subst P (sym same) is

-- A thread that was mounted, or made a step and doesn't have to leave.
pub goes_fits : (m : Known) (c t : ℕ) (k : Continuation) (g : Hand) (answer : Turn) → IsLegal m → c < m.carriers → k.thread ≡ t
    → Holds m c t 0 k.stack.frames → OwesNothing m t → GoesOnBy m t answer → HasParts g (Some k) None None (asked_by answer)
    → g.failed ≡ false → AreSelected m.setting.world g.cache → Fits m c g
goes_fits m c t k g answer legal below same holds owes way parts works selected =
    record {
      below = below;
      holds = λ fine. by way;
      rests = λ bad. absurd (let e = sym works ∙ bad in cc);
      selected = selected;
    }
  where
    kept : Holds m c k.thread 0 k.stack.frames
    kept = moved m (λ u. Holds m c u 0 k.stack.frames) t k.thread same holds

    free : OwesNothing m k.thread
    free = moved m (OwesNothing m) t k.thread same owes

    asks : (ask : Ask) → asked_by answer ≡ ask → HasParts g (Some k) None None ask
    asks ask is = subst (HasParts g (Some k) None None) is parts

    by : GoesOnBy m t answer → HoldsRightly m c g
    by (goes_over ended is) = over k (asks Nothing (ap asked_by is)) kept ended
    by (goes_to_run none phase is) =
        let here : HasPhase m k.thread phases.Run = moved m (λ u. HasPhase m u phases.Run) t k.thread same phase in
        running k (asks (Local k.thread) (ap asked_by is ∙ ap Local (sym same))) kept free here (typed_in m c k.thread k.stack.frames legal kept here)
    by (goes_to_wait none not is) =
        waiting k (asks Nothing (ap asked_by is)) kept free (moved m (IsNotRunning m) t k.thread same not)

-- One that is pinned and can't go on stays.
pub waiting_fits : (m : Known) (c t : ℕ) (k : Continuation) (g : Hand) → c < m.carriers → k.thread ≡ t → Holds m c t 0 k.stack.frames → OwesNothing m t
    → IsNotRunning m t → HasParts g (Some k) None None Nothing → g.failed ≡ false → AreSelected m.setting.world g.cache → Fits m c g
waiting_fits m c t k g below same holds owes not parts works selected =
    record {
      below = below;
      holds = λ fine. waiting k parts (moved m (λ u. Holds m c u 0 k.stack.frames) t k.thread same holds) (moved m (OwesNothing m) t k.thread same owes)
          (moved m (IsNotRunning m) t k.thread same not);
      rests = λ bad. absurd (let e = sym works ∙ bad in cc);
      selected = selected;
    }

-- One that has to leave is to be frozen.
pub leaving_fits : (m : Known) (c t : ℕ) (k : Continuation) (g : Hand) → c < m.carriers → k.thread ≡ t → Holds m c t 0 k.stack.frames → Lives m t
    → HasToLeave m c t → HasParts g (Some k) None None Freeze → g.failed ≡ false → AreSelected m.setting.world g.cache → Fits m c g
leaving_fits m c t k g below same holds lives leave parts works selected =
    record {
      below = below;
      holds = λ fine. leaving k parts (moved m (λ u. Holds m c u 0 k.stack.frames) t k.thread same holds) (moved m (Lives m) t k.thread same lives)
          (moved m (HasToLeave m c) t k.thread same leave);
      rests = λ bad. absurd (let e = sym works ∙ bad in cc);
      selected = selected;
    }

-- One at the end of the run stays mounted.
pub over_fits : (m : Known) (c t : ℕ) (k : Continuation) (g : Hand) → c < m.carriers → k.thread ≡ t → Holds m c t 0 k.stack.frames
    → is_some (machine_ending m) ≡ true → HasParts g (Some k) None None Nothing → g.failed ≡ false → AreSelected m.setting.world g.cache → Fits m c g
over_fits m c t k g below same holds ended parts works selected =
    record {
      below = below;
      holds = λ fine. over k parts (moved m (λ u. Holds m c u 0 k.stack.frames) t k.thread same holds) ended;
      rests = λ bad. absurd (let e = sym works ∙ bad in cc);
      selected = selected;
    }

-- a hand that holds nothing
pub empty_fits : (m : Known) (c : ℕ) (g : Hand) → c < m.carriers → Idle m c → HasParts g None None None Nothing → AreSelected m.setting.world g.cache → Fits m c g
empty_fits m c g below idle parts selected =
    record { below = below; holds = λ fine. nothing parts idle; rests = λ bad. parts.asked_is; selected = selected }

-- ---- what a turn asked for may be done

pub may_do : (m : Known) (c : ℕ) (h : Hand) (answer : Turn) → Fits m c h → h.asked ≡ asked_by answer → MayDo m.setting.world h answer
may_do m c h (Nap until) fits asks = asks
may_do m c h Over fits asks = asks
may_do m c h (Run Nothing) fits asks = asks
may_do m c h (Run (Local t)) fits asks = by h.failed refl
  where
    runs : h.failed ≡ false → HoldsRightly m c h → MayRun m.setting.world h
    runs works (nothing parts idle) = absurd (let e = sym parts.asked_is ∙ asks in cc)
    runs works (frozen k parts holds lives leave) = absurd (let e = sym parts.asked_is ∙ asks in cc)
    runs works (leaving k parts holds lives leave) = absurd (let e = sym parts.asked_is ∙ asks in cc)
    runs works (running k parts holds owes phase typed) =
        record { kept = k; mounted = parts.mounted_is; asked = parts.asked_is; works = works; typed = typed; selected = fits.selected }
    runs works (stopped k run parts holds owes phase has) = absurd (let e = sym parts.asked_is ∙ asks in cc)
    runs works (waiting k parts holds owes not) = absurd (let e = sym parts.asked_is ∙ asks in cc)
    runs works (over k parts holds ended) = absurd (let e = sym parts.asked_is ∙ asks in cc)

    by : (b : Bool) → h.failed ≡ b → MayRun m.setting.world h
    by true bad = absurd (let e = sym (fits.rests bad) ∙ asks in cc)
    by false works = runs works (fits.holds works)
may_do m c h (Run Freeze) fits asks = by h.failed refl
  where
    freezes : h.failed ≡ false → HoldsRightly m c h → MayFreeze h
    freezes works (nothing parts idle) = absurd (let e = sym parts.asked_is ∙ asks in cc)
    freezes works (frozen k parts holds lives leave) = absurd (let e = sym parts.asked_is ∙ asks in cc)
    freezes works (leaving k parts holds lives leave) = record { kept = k; mounted = parts.mounted_is; asked = parts.asked_is; works = works }
    freezes works (running k parts holds owes phase typed) = absurd (let e = sym parts.asked_is ∙ asks in cc)
    freezes works (stopped k run parts holds owes phase has) = absurd (let e = sym parts.asked_is ∙ asks in cc)
    freezes works (waiting k parts holds owes not) = absurd (let e = sym parts.asked_is ∙ asks in cc)
    freezes works (over k parts holds ended) = absurd (let e = sym parts.asked_is ∙ asks in cc)

    by : (b : Bool) → h.failed ≡ b → MayFreeze h
    by true bad = absurd (let e = sym (fits.rests bad) ∙ asks in cc)
    by false works = freezes works (fits.holds works)

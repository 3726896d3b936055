-- What a hand does between its turns leaves it fitting.
use Rattle.std.proofs.Common.{◌≡◌, ℕ, true, List, Option, Some, None, ap, sym, ◌∙◌, subst}
use Rattle.interp_local.specs.Fetched.{IsTopAt}
use Rattle.invocation.specs.InvocationCache.{AreSelected}
use Rattle.continuation.specs.Continuation.{Continuation}
use Rattle.link_model.specs.World.{World}
use Rattle.state_model.specs.Frames.{Frame}
use Rattle.vthread_state.specs.declared.phase.Phase.TheVariants.{Run}
use Rattle.ref_model.specs.LocalRows.{rows}
use Rattle.ref_model.specs.State.{JavaThread}
use Rattle.machine.specs.Machines.{Known}
use Rattle.machine.specs.Hands.{HasHand, HasPhase, Holds, Lives, OwesNothing}
use Rattle.carrier_turns.specs.declared.ask.Ask.TheVariants.{Nothing}
use Rattle.carrier_turns.specs.declared.hand.Hand.{Hand}
use Rattle.carrier_turns.specs.declared.local.LocalRun.{LocalRun}
use Rattle.carrier_turns.specs.LocalRuns.{HasStopped, IsLongRun}
use Rattle.carrier_turns.specs.Hands.{Fits, HasParts, HasToLeave, HoldsRightly, MayFreeze, MayRun, nothing, frozen, leaving, running, stopped, waiting, over}

same_thread : (x y : JavaThread) → ◌≡◌ {A = Option JavaThread} (Some x) (Some y) → x ≡ y
same_thread x y e = cc

same_frames : (x y : List Frame) → ◌≡◌ {A = Option (List Frame)} (Some x) (Some y) → x ≡ y
same_frames x y e = cc

pub same_kept : (x y : Continuation) → ◌≡◌ {A = Option Continuation} (Some x) (Some y) → x ≡ y
same_kept x y e = cc

-- ---- local runs

-- the frames before a run are the thread's own
ran_ahead : (m : Known) (c n : ℕ) (k after : Continuation) → Holds m c k.thread 0 k.stack.frames → HasPhase m k.thread Run → after.thread ≡ k.thread
    → rows m.setting.world n k.stack.frames ≡ Some after.stack.frames → Holds m c after.thread n after.stack.frames
ran_ahead m c n k after holds phase same made = λ v given.
    let h = holds v given in
    let p = phase v given in
    let here : h.thread ≡ p.thread = same_thread h.thread p.thread (sym h.at ∙ p.at) in
    let base : h.thread.frames ≡ k.stack.frames = same_frames h.thread.frames k.stack.frames h.ahead in
    let all : HasHand m.setting v c k.thread n after.stack.frames =
    record {
      mounted = h.mounted;
      thread = h.thread;
      at = h.at;
      running = λ some. ap (λ (x : JavaThread). x.thread.status) here ∙ p.status;
      ahead = ap (rows m.setting.world n) base ∙ made;
    } in
    subst (λ t. HasHand m.setting v c t n after.stack.frames) (sym same) all

stops : (w : World) (run : LocalRun) (old new : List Frame) → IsLongRun w run.steps old new → IsTopAt w new run.next → HasStopped w run new
stops w run old new made next = record { typed = made.typed; few = made.few; ends = made.ends; next = next }

-- A hand that was asked for a local run has executed it.
pub run_fits : (m : Known) (w : World) (c : ℕ) (old new : Hand) (k after : Continuation) (run : LocalRun) → m.setting.world ≡ w → MayRun w old → Fits m c old
    → old.mounted ≡ Some k → after.thread ≡ k.thread → IsLongRun w run.steps k.stack.frames after.stack.frames → IsTopAt w after.stack.frames run.next
    → AreSelected w new.cache → HasParts new (Some after) old.frozen (Some run) Nothing → new.failed ≡ old.failed → Fits m c new
run_fits m w c old new k after run same may fits mounted thread_is made next selected parts failed =
    record {
      below = fits.below;
      holds = λ works. by (fits.holds may.works);
      rests = λ bad. parts.asked_is;
      selected = subst (λ u. AreSelected u new.cache) (sym same) selected;
    }
  where
    by : HoldsRightly m c old → HoldsRightly m c new
    by (nothing was idle) = absurd (let e = sym was.asked_is ∙ may.asked in cc)
    by (frozen x was holds lives leave) = absurd (let e = sym was.asked_is ∙ may.asked in cc)
    by (leaving x was holds lives leave) = absurd (let e = sym was.asked_is ∙ may.asked in cc)
    by (running x was holds owes phase typed) =
        let here : x ≡ k = same_kept x k (sym was.mounted_is ∙ mounted) in
        let thread : x.thread ≡ after.thread = ap (λ (y : Continuation). y.thread) here ∙ sym thread_is in
        let goes : HasPhase m k.thread Run = subst (λ (y : Continuation). HasPhase m y.thread Run) here phase in
        let rows_made = ap (λ u. rows u run.steps k.stack.frames) same ∙ made.rows in
        let ahead = ran_ahead m c run.steps k after (subst (λ (y : Continuation). Holds m c y.thread 0 y.stack.frames) here holds) goes thread_is rows_made in
        stopped after run (record {
          mounted_is = parts.mounted_is;
          frozen_is = parts.frozen_is ∙ was.frozen_is;
          local_is = parts.local_is;
          asked_is = parts.asked_is;
        }) ahead (subst (OwesNothing m) thread owes) (subst (λ t. HasPhase m t Run) thread phase)
        (subst (λ u. HasStopped u run after.stack.frames) (sym same) (stops w run k.stack.frames after.stack.frames made next))
    by (stopped x r was holds owes phase has) = absurd (let e = sym was.asked_is ∙ may.asked in cc)
    by (waiting x was holds owes not) = absurd (let e = sym was.asked_is ∙ may.asked in cc)
    by (over x was holds ended) = absurd (let e = sym was.asked_is ∙ may.asked in cc)

-- One that was asked for a freezing has frozen its continuation.
pub freeze_fits : (m : Known) (c : ℕ) (old new : Hand) (k : Continuation) → (may : MayFreeze old) → Fits m c old → k ≡ may.kept
    → HasParts new None (Some k) old.local Nothing → new.failed ≡ old.failed → AreSelected m.setting.world new.cache → Fits m c new
freeze_fits m c old new k may fits same parts failed selected =
    record {
      below = fits.below;
      holds = λ works. by (fits.holds may.works);
      rests = λ bad. parts.asked_is;
      selected = selected;
    }
  where
    by : HoldsRightly m c old → HoldsRightly m c new
    by (nothing was idle) = absurd (let e = sym was.asked_is ∙ may.asked in cc)
    by (frozen x was holds lives leave) = absurd (let e = sym was.asked_is ∙ may.asked in cc)
    by (leaving x was holds lives leave) =
        let here : x ≡ k = same_kept x may.kept (sym was.mounted_is ∙ may.mounted) ∙ sym same in
        frozen k (record {
          mounted_is = parts.mounted_is;
          frozen_is = parts.frozen_is;
          local_is = parts.local_is ∙ was.local_is;
          asked_is = parts.asked_is;
        }) (subst (λ (y : Continuation). Holds m c y.thread 0 y.stack.frames) here holds) (subst (λ (y : Continuation). Lives m y.thread) here lives)
        (subst (λ (y : Continuation). HasToLeave m c y.thread) here leave)
    by (running x was holds owes phase typed) = absurd (let e = sym was.asked_is ∙ may.asked in cc)
    by (stopped x r was holds owes phase has) = absurd (let e = sym was.asked_is ∙ may.asked in cc)
    by (waiting x was holds owes not) = absurd (let e = sym was.asked_is ∙ may.asked in cc)
    by (over x was holds ended) = absurd (let e = sym was.asked_is ∙ may.asked in cc)

-- One that found no memory is asked for nothing more.
pub fails_fits : (m : Known) (c : ℕ) (old new : Hand) → Fits m c old → new.failed ≡ true → new.asked ≡ Nothing → AreSelected m.setting.world new.cache → Fits m c new
fails_fits m c old new fits failed asked selected =
    record { below = fits.below; holds = λ works. absurd (let e = sym failed ∙ works in cc); rests = λ bad. asked; selected = selected }

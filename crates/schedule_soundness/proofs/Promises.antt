-- The reference machine keeps what it owes.
use Rattle.std.proofs.Common.{◌≡◌, ◌≢◌, ℕ, zero, suc, false, refl, ap, ◌∙◌}
use Rattle.std.specs.Prelude.{nat_lt, slice_get}
use Rattle.schedule_model.specs.Look.{is_live as is_live_spot}
use Rattle.schedule_model.specs.Changes.{IsReached}
use Rattle.ref_model.specs.Setting.{Setting}
use Rattle.ref_model.specs.State.{State}
use Rattle.ref_model.specs.Ending.{ending}
use Rattle.ref_model.specs.Looks.{look_of, machine_from}
use Rattle.schedule_soundness.specs.PromiseLaws.{BeginsUnpinned, PromisesAreKept}
use Rattle.schedule_soundness.proofs.LookLaws.{Idle, is_look, spot_at, ready_at, pinned_at, going_on}
use Rattle.schedule_soundness.proofs.Changes.{step_idle, tick_changes, tick_idle}
use Rattle.schedule_soundness.proofs.Reached.{reached_holds}
use Rattle.schedule_soundness.proofs.LocalSteps.{entry_changes}
use Rattle.schedule_soundness.proofs.Openings.{Opens, opens, opens_idle, opening_unpinned}

reached_idle : (p : Setting) (first : State) → Opens p first → (r : State) → IsReached (machine_from p first) r → Idle r
reached_idle p first o r reached =
    reached_holds p first Idle (λ r q t pick idle e. step_idle p r q t pick idle e) (λ r q now idle e. tick_idle p.world r q now idle e)
    (opens_idle p first o) r reached

others_off : (p : Setting) (first : State) → Opens p first → (t : ℕ) → t ≢ 0 → is_live_spot ((look_of p.world first).spot t) ≡ false
others_off p first o zero ne = absurd (ne refl)
others_off p first o (suc t) ne = ap (λ ts. is_live_spot (spot_at (slice_get ts (suc t)))) o.threads

nobody_pinned : (p : Setting) (first : State) → BeginsUnpinned p → Opens p first → (t : ℕ) → (look_of p.world first).pinned t ≡ false
nobody_pinned p first plain o zero =
    ap (λ ts. pinned_at p.world (slice_get ts zero)) o.threads ∙ ap (λ n. nat_lt 0 n) (opening_unpinned p o.frames plain o.frames_are)
nobody_pinned p first plain o (suc t) = ap (λ ts. pinned_at p.world (slice_get ts (suc t))) o.threads

pub promises_are_kept : PromisesAreKept
promises_are_kept p first plain begins =
    let w = p.world in
    let o = opens p first begins in
    record {
      looks = λ r reached. is_look w r (reached_idle p first o r reached);
      steps = λ r q t n pick reached e goes. entry_changes p r q t n pick plain (reached_idle p first o r reached) e goes;
      ticks = λ r q now reached e goes. tick_changes p r q now plain (reached_idle p first o r reached) e goes;
      main = ap (λ ts. spot_at (slice_get ts 0)) o.threads;
      main_goes = λ goes. going_on (ending first) (ready_at first (slice_get first.threads 0)) goes
          ∙ ap (λ ts. ready_at first (slice_get ts 0)) o.threads;
      alone = others_off p first o;
      unpinned = nobody_pinned p first plain o;
    }

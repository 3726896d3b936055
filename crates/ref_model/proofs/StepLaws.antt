-- Local instructions as steps, and the steps of an entry.
use Rattle.std.proofs.Common.{◌≡◌, ℕ, zero, suc, Bool, true, false, List, Option, Some, None, refl, ap, ◌∙◌, sym}
use Rattle.std.specs.Prelude.{is_none, slice_get, ◌&&◌, if◌then◌else◌}
use Rattle.items.proofs.Binds.{some_is, bind_is}
use Rattle.vthread_state.specs.declared.phase.Phase.TheVariants.{Run}
use Rattle.vthread_state.specs.declared.thread.Status.TheVariants.{Live}
use Rattle.state_model.specs.Frames.{Frame}
use Rattle.ref_model.specs.Setting.{Setting}
use Rattle.ref_model.specs.State.{JavaThread, State, with_frames}
use Rattle.ref_model.specs.LocalRows.{row, rows}
use Rattle.ref_model.specs.Ending.{ending}
use Rattle.ref_model.specs.Step.{step, enabled, thread_step, status_step, row_or_event}
use Rattle.ref_model.specs.Run.{steps, after_steps}
use Rattle.ref_model.specs.Entries.{frames_at, ends_behind, are_grouped_steps, is_grouped}
use Rattle.ref_model.specs.StepLaws.{LocalBefore}
use Rattle.ref_model.proofs.StateLaws.{Runs, runs, frames_same, frames_twice, frames_there, frames_ending}

-- ---- a local instruction is a step

if_true : {A : Type 0} (b : Bool) (o : Option A) → b ≡ true → (if b then o else None) ≡ o
if_true true o e = refl
if_true false o e = absurd cc

-- in a state that has the frames
row_step : (p : Setting) (q : State) (t : ℕ) (thread : JavaThread) (after : List Frame) → slice_get q.threads t ≡ Some thread
    → thread.thread.status ≡ Live Run → ending q ≡ None → row p.world thread.frames ≡ Some after
    → step p q t None ≡ Some (with_frames q t after)
row_step p q t thread after at running ends moves =
    let made : Option State = Some (with_frames q t after) in
    let act = ap (row_or_event p.world q t thread.frames) moves in
    let status : status_step p.world q t thread.frames thread.thread.status ≡ made =
    ap (status_step p.world q t thread.frames) running ∙ act in
    let all : thread_step p.world q t ≡ made =
    bind_is (slice_get q.threads t) (λ x. status_step p.world q t x.frames x.thread.status) thread made at status in
    let may : enabled q t ≡ true = rw (ends, at, running) refl in
    if_true (enabled q t) (thread_step p.world q t) may ∙ all

-- the steps so far, and one more
pub local_steps : (p : Setting) (r : State) (t n : ℕ) (before after : List Frame) → frames_at r t ≡ Some before → ending r ≡ None
    → rows p.world n before ≡ Some after → steps p n r t ≡ Some (with_frames r t after)
local_steps p r t n before after at ends moves = go n after moves
  where
    h : Runs r t before
    h = runs r t before at

    go : (n : ℕ) (after : List Frame) → rows p.world n before ≡ Some after → steps p n r t ≡ Some (with_frames r t after)
    go zero after moves =
        let same : before ≡ after = cc in
        ap Some (sym (frames_same r t before h) ∙ ap (λ (fs : List Frame). with_frames r t fs) same)
    go (suc n) after moves =
        let parts = some_is (rows p.world n before) (row p.world) after moves in
        let mid = parts.0 in
        let q = with_frames r t mid in
        let thread : JavaThread = record h.thread { frames = mid } in
        let one = row_step p q t thread after (frames_there r t h.thread mid h.at) h.running (frames_ending r t h.thread mid h.at ∙ ends) parts.2 in
        bind_is (steps p n r t) (λ s. step p s t None) q (Some (with_frames r t after)) (go n mid parts.1)
        (one ∙ ap Some (frames_twice r t h.thread mid after h.at))

-- ---- where a thread steps, the program goes on

if_some : {A : Type 0} (b : Bool) (o : Option A) (x : A) → (if b then o else None) ≡ Some x → b ≡ true
if_some true o x e = refl
if_some false o x e = absurd cc

both_left : (a b : Bool) → (a && b) ≡ true → a ≡ true
both_left true b e = refl
both_left false b e = absurd cc

none_is : {A : Type 0} (o : Option A) → is_none o ≡ true → o ≡ None
none_is None e = refl
none_is (Some x) e = absurd cc

goes_on : (p : Setting) (r s : State) (t : ℕ) → step p r t None ≡ Some s → ending r ≡ None
goes_on p r s t e = none_is (ending r) (both_left (is_none (ending r)) _ (if_some (enabled r t) (thread_step p.world r t) s e))

steps_go_on : (p : Setting) (r s : State) (t n : ℕ) → steps p (suc n) r t ≡ Some s → ending r ≡ None
steps_go_on p r s t zero e = goes_on p r s t e
steps_go_on p r s t (suc n) e =
    let first = some_is (steps p (suc n) r t) (λ q. step p q t None) s e in
    steps_go_on p r first.0 t n first.1

-- ---- entries

entry_rows : (p : Setting) (r : State) (t n : ℕ) (before : List Frame) → frames_at r t ≡ Some before → ending r ≡ None
    → (o : Option (List Frame)) → rows p.world n before ≡ o → ends_behind p.world n o ≡ true → LocalBefore p r t n
entry_rows p r t n before at ends None moves good = absurd cc
entry_rows p r t n before at ends (Some after) moves good =
    record { before = before; after = after; first = at; local = moves; state = local_steps p r t n before after at ends moves }

entry_frames : (p : Setting) (r : State) (t n : ℕ) → ending r ≡ None → (o : Option (List Frame)) → frames_at r t ≡ o
    → are_grouped_steps p.world (suc n) o ≡ true → LocalBefore p r t (suc n)
entry_frames p r t n ends None at good = absurd cc
entry_frames p r t n ends (Some before) at good =
    entry_rows p r t (suc n) before at ends (rows p.world (suc n) before) refl good

pub entry_is_local : (p : Setting) (r q : State) (t n : ℕ) (pick : Option ℕ) → is_grouped p.world r t (suc (suc n)) ≡ true
    → after_steps p r t (suc (suc n)) pick ≡ Some q → LocalBefore p r t (suc n)
entry_is_local p r q t n pick good made =
    let first = some_is (steps p (suc n) r t) (λ s. step p s t pick) q made in
    entry_frames p r t n (steps_go_on p r first.0 t n first.1) (frames_at r t) refl good

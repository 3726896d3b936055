-- What a carrier owes, and what it may unmount, after many entries of others.
use Rattle.std.proofs.Common.{◌≡◌, ℕ, Bool, true, false, List, [], ◌∷◌, Option, Some, None, refl, ap, sym, subst, ◌∙◌, not}
use Rattle.std.specs.Prelude.{is_none, is_some}
use Rattle.std.proofs.lemmas.Bool.{and_parts}
use Rattle.items.proofs.Binds.{some_is}
use Rattle.history.specs.declared.entry.Entry.{Entry}
use Rattle.history.specs.declared.entry.What.{What}
use Rattle.history.specs.declared.entry.What.TheVariants.{Mount, Unmount, Step, Clock}
use Rattle.schedule_model.specs.Entries.{has_mounted, holds, may_step, may_tick, may_unmount, mount, unmount}
use Rattle.schedule_model.specs.Run.{Scheduled, schedule_from, scheduled_after, with_schedule}
use Rattle.schedule_model.proofs.RunLaws.{inner, under_is}
use Rattle.ref_model.specs.Setting.{Setting}
use Rattle.ref_model.specs.State.{State}
use Rattle.ref_model.specs.Ending.{ending}
use Rattle.ref_model.specs.Step.{enabled}
use Rattle.ref_model.specs.Looks.{look_of, machine_from}
use Rattle.schedule_soundness.specs.HandLaws.{OwedOutlastsEntries, UnmountsOutlastEntries}
use Rattle.schedule_soundness.proofs.Histories.{histories_go_on, mounted_left, owed_left, unmounts_stay}

-- ---- a program that has ended doesn't go on

not_ended : {A : Type 0} (o : Option A) → is_none o ≡ true → is_some o ≡ false
not_ended None e = refl
not_ended (Some x) e = absurd cc

not_true : (b : Bool) → not b ≡ true → b ≡ false
not_true true e = absurd cc
not_true false e = refl

entry_went : (p : Setting) (first : State) (v w : Scheduled State) (k : ℕ) (what : What) → scheduled_after (machine_from p first) v k what ≡ Some w
    → (look_of p.world w.state).ended ≡ false → (look_of p.world v.state).ended ≡ false
entry_went p first v w k (Mount t) e goes =
    let s = some_is (mount (look_of p.world v.state) v.schedule k t) (λ s. Some (with_schedule v.state s)) w e in
    ap (λ (x : Scheduled State). (look_of p.world x.state).ended) (inner (with_schedule v.state s.0) w s.2) ∙ goes
entry_went p first v w k (Unmount t) e goes =
    let s = some_is (unmount (look_of p.world v.state) v.schedule k t) (λ s. Some (with_schedule v.state s)) w e in
    ap (λ (x : Scheduled State). (look_of p.world x.state).ended) (inner (with_schedule v.state s.0) w s.2) ∙ goes
entry_went p first v w k (Step t n pick) e goes =
    let may = (under_is (may_step (look_of p.world v.state) v.schedule k t pick) _ w e).0 in
    let rest = (and_parts (has_mounted v.schedule k t) _ may).1 in
    let on = (and_parts (enabled v.state t) _ (and_parts (not (v.schedule.owes t)) _ rest).1).0 in
    not_ended (ending v.state) (and_parts (is_none (ending v.state)) _ on).0
entry_went p first v w k (Clock now) e goes =
    let may = (under_is (may_tick (look_of p.world v.state) v.schedule k) _ w e).0 in
    not_true (look_of p.world v.state).ended (and_parts (not (look_of p.world v.state).ended) _ may).0

entries_went : (p : Setting) (first : State) (v w : Scheduled State) (es : List Entry) → schedule_from (machine_from p first) v es ≡ Some w
    → (look_of p.world w.state).ended ≡ false → (look_of p.world v.state).ended ≡ false
entries_went p first v w [] e goes = ap (λ (x : Scheduled State). (look_of p.world x.state).ended) (inner v w e) ∙ goes
entries_went p first v w (x ∷ es) e goes =
    let u = some_is (scheduled_after (machine_from p first) v x.carrier x.what) (λ u. schedule_from (machine_from p first) u es) w e in
    entry_went p first v u.0 x.carrier x.what u.1 (entries_went p first u.0 w es u.2 goes)

-- ---- many entries of others

pub owed_outlasts : OwedOutlastsEntries
owed_outlasts p first v w a c t [] others e here = ap (λ (x : Scheduled State). x.schedule.owes t) (sym (inner v w e))
owed_outlasts p first v w a c t (x ∷ es) others e here =
    let u = some_is (scheduled_after (machine_from p first) v x.carrier x.what) (λ u. schedule_from (machine_from p first) u es) w e in
    let still : has_mounted u.0.schedule c t ≡ true =
    ap (holds t) (mounted_left p first v u.0 a c x.carrier x.what others.0 u.1) ∙ here in
    owed_outlasts p first u.0 w (histories_go_on p first v u.0 a x.carrier x.what u.1) c t es others.1 u.2 still
    ∙ owed_left p first v u.0 a c x.carrier t x.what others.0 u.1 here

pub unmounts_outlast : UnmountsOutlastEntries
unmounts_outlast p first v w a c t [] others e goes may =
    subst (λ (x : Scheduled State). may_unmount (look_of p.world x.state) x.schedule c t ≡ true) (inner v w e) may
unmounts_outlast p first v w a c t (x ∷ es) others e goes may =
    let u = some_is (scheduled_after (machine_from p first) v x.carrier x.what) (λ u. schedule_from (machine_from p first) u es) w e in
    unmounts_outlast p first u.0 w (histories_go_on p first v u.0 a x.carrier x.what u.1) c t es others.1 u.2 goes
    (unmounts_stay p first v u.0 a c x.carrier t x.what others.0 u.1 (entries_went p first u.0 w es u.2 goes) may)

-- What the last entry of a history did.
use Rattle.std.proofs.Common.{◌≡◌, ℕ, ◌==◌, Bool, true, false, not, List, [], ◌∷◌, ◌++◌, Option, Some, refl, ap, sym, ◌∙◌, cond, ◌&&◌, ◌||◌}
use Rattle.std.proofs.lemmas.Bool.{and_parts, eqb-true, eq-eqb, not-false, or_parts}
use Rattle.items.proofs.Binds.{some_is, bind_is}
use Rattle.history.specs.declared.entry.Entry.{Entry}
use Rattle.history.specs.declared.entry.What.{What}
use Rattle.history.specs.declared.entry.What.TheVariants.{Mount, Unmount, Step}
use Rattle.run_deques.specs.Take.{next}
use Rattle.schedule_model.specs.Schedule.{Schedule, with_value}
use Rattle.schedule_model.specs.Entries.{after_step, has_to_leave, is_idle, may_step, mount, mounted_from, unmount, where_allowed}
use Rattle.schedule_model.specs.Look.{Look, is_done}
use Rattle.schedule_model.specs.Run.{Scheduled, schedule_from, schedule_of, scheduled_after, with_schedule}
use Rattle.schedule_model.proofs.EntryLaws.{allowed_is}
use Rattle.schedule_model.proofs.PrefixLaws.{histories_go_on}
use Rattle.schedule_model.proofs.RunLaws.{inner, under_is}
use Rattle.ref_model.specs.Setting.{Setting}
use Rattle.ref_model.specs.State.{State}
use Rattle.ref_model.specs.Opening.{opening}
use Rattle.ref_model.specs.Looks.{grouped_steps, look_of, machine_from, yields_after}
use Rattle.machine.specs.Machines.{Known, scheduled, with_entry}

-- ---- a history with one more entry

pub record LastEntry (m : Known) (c : ℕ) (what : What) (w : Scheduled State) : Type 0 where
  pub first : State
  pub begins : opening m.setting ≡ Some first
  pub before : Scheduled State
  pub runs : schedule_of (machine_from m.setting first) m.carriers m.history ≡ Some before
  pub at : scheduled m ≡ Some before
  pub after : scheduled_after (machine_from m.setting first) before c what ≡ Some w

pub last_entry : (m : Known) (c : ℕ) (what : What) (w : Scheduled State) → scheduled (with_entry m c what) ≡ Some w → LastEntry m c what w
last_entry m c what w e =
    let p = m.setting in
    let entry : Entry = record { carrier = c; what = what } in
    let opened = some_is (opening p) (λ first. schedule_of (machine_from p first) m.carriers (m.history ++ entry ∷ [])) w e in
    let machine = machine_from p opened.0 in
    let parts = some_is (schedule_of machine m.carriers m.history) (λ v. schedule_from machine v (entry ∷ [])) w
    (sym (histories_go_on machine m.carriers m.history (entry ∷ [])) ∙ opened.2) in
    let one = some_is (scheduled_after machine parts.0 c what) (λ v. schedule_from machine v []) w parts.2 in
    record {
      first = opened.0;
      begins = opened.1;
      before = parts.0;
      runs = parts.1;
      at = bind_is (opening p) (λ first. schedule_of (machine_from p first) m.carriers m.history) opened.0 (Some parts.0) opened.1 parts.1;
      after = one.1 ∙ one.2;
    }

-- ---- mounts and unmounts

-- the state stays, and the carrier doesn't owe the Unmount of the thread that it has mounted
pub record IsMounted (v w : Scheduled State) (t : ℕ) : Type 0 where
  pub state : w.state ≡ v.state
  pub owes : w.schedule.owes t ≡ false

pub mounted_is : (p : Setting) (first : State) (v w : Scheduled State) (c t : ℕ) → scheduled_after (machine_from p first) v c (Mount t) ≡ Some w → IsMounted v w t
mounted_is p first v w c t e =
    let l = look_of p.world v.state in
    let s = some_is (mount l v.schedule c t) (λ s. Some (with_schedule v.state s)) w e in
    let same = inner (with_schedule v.state s.0) w s.2 in
    let found = some_is (next v.schedule.deques c)
    (λ found. where_allowed (not l.ended && (is_idle v.schedule c && (found.1 == t))) (mounted_from l v.schedule c found)) s.0 s.1 in
    let given = allowed_is (not l.ended && (is_idle v.schedule c && (found.0.1 == t))) (mounted_from l v.schedule c found.0) s.0 found.2 in
    let is : (found.0.1 == t) ≡ true = (and_parts (is_idle v.schedule c) (found.0.1 == t) (and_parts (not l.ended) _ given.0).1).1 in
    let here : (t == found.0.1) ≡ true = eq-eqb t found.0.1 (sym (eqb-true found.0.1 t is)) in
    let owes : (mounted_from l v.schedule c found.0).owes t ≡ false = ap (λ b. cond b false (v.schedule.owes t)) here in
    record {
      state = sym (ap (λ (x : Scheduled State). x.state) same);
      owes = sym (ap (λ (x : Scheduled State). x.schedule.owes t) same) ∙ sym (ap (λ (x : Schedule). x.owes t) given.1) ∙ owes;
    }

pub unmounted_state : (p : Setting) (first : State) (v w : Scheduled State) (c t : ℕ) → scheduled_after (machine_from p first) v c (Unmount t) ≡ Some w
    → w.state ≡ v.state
unmounted_state p first v w c t e =
    let s = some_is (unmount (look_of p.world v.state) v.schedule c t) (λ s. Some (with_schedule v.state s)) w e in
    sym (ap (λ (x : Scheduled State). x.state) (inner (with_schedule v.state s.0) w s.2))

-- ---- steps

-- the carrier is that of the last entry
pub stepped_last : (p : Setting) (first : State) (v w : Scheduled State) (c t n : ℕ) (pick : Option ℕ) → scheduled_after (machine_from p first) v c (Step t n pick) ≡ Some w
    → w.schedule.last ≡ Some c
stepped_last p first v w c t n pick e =
    let l = look_of p.world in
    let given = under_is (may_step (l v.state) v.schedule c t pick) _ w e in
    let q = some_is (grouped_steps p v.state t n pick)
    (λ q. Some (with_schedule q (after_step (l v.state) (l q) v.schedule c t (yields_after p v.state t n)))) w given.1 in
    let same = inner (with_schedule q.0 (after_step (l v.state) (l q.0) v.schedule c t (yields_after p v.state t n))) w q.2 in
    sym (ap (λ (x : Scheduled State). x.schedule.last) same)

-- ---- lists of entries

-- the first entries of equal lists do the same, by the same carrier
pub first_entry : (x y : Entry) (xs ys : List Entry) → x ∷ xs ≡ y ∷ ys → x ≡ y
first_entry x y xs ys e = cc

-- Whether mounted threads are pinned, after each entry.
use Rattle.std.proofs.Common.{◌≡◌, ◌≢◌, ◌⊎◌, inl, inr, ◌<◌, ◌≤◌, ◌==◌, ◌++◌, ℕ, zero, suc, Bool, true, false, List, [], ◌∷◌, Option, None, Some, get_or, length, set, slice_get, refl, ap, sym, ◌∙◌, subst, arith, cond, not, ◌&&◌}
use Rattle.std.specs.Prelude.{Ok, Result, is_none, is_some, nat_lt, replicate, slice_set}
use Rattle.std.specs.Option.{option_map_or}
use Rattle.std.proofs.lemmas.Bool.{and_from, and_parts, cases_Bool, cases_eq, eq-eqb, eqb-true}
use Rattle.std.proofs.lemmas.List.{get_or-set_other, get_or-set_same, length-replicate}
use Rattle.std.proofs.lemmas.List.Sums.{get_or-le-sum_by, sum_by-set}
use Rattle.std.proofs.lemmas.Option.{slice_get_within, get_or_from_slice_get}
use Rattle.items.specs.Options.{◌>>=◌}
use Rattle.items.specs.declared.no_memory.NoMemory.{NoMemory}
use Rattle.items.proofs.Binds.{some_is}
use Rattle.history.specs.declared.entry.Entry.{Entry}
use Rattle.history.specs.declared.entry.What.{What}
use Rattle.history.specs.declared.entry.What.TheVariants.{Mount, Unmount, Step, Clock}
use Rattle.vthread_state.specs.declared.phase.Phase.{Phase}
use Rattle.vthread_state.specs.declared.phase.Phase.TheVariants.{Run, Throwing, Entering, Waiting, Reenter, Parked, Asleep, Joining}
use Rattle.vthread_state.specs.declared.thread.Status.{Status}
use Rattle.vthread_state.specs.declared.thread.Status.TheVariants.{New, Live, Done}
use Rattle.thread_lists.specs.Lists.{Lists}
use Rattle.link_model.specs.World.{World}
use Rattle.state_model.specs.Frames.{Frame}
use Rattle.run_deques.specs.Take.{next}
use Rattle.schedule_model.specs.Look.{IsLook, Look, absent, is_done, is_live}
use Rattle.schedule_model.specs.Schedule.{Schedule, on_carriers, places, times}
use Rattle.schedule_model.specs.Changes.{Changes, IsOther}
use Rattle.schedule_model.specs.Entries.{after_step, after_tick, after_unmount, has_mounted, holds, is_idle, may_step, may_tick, may_unmount, mount, mounted_from, unmount, where_allowed}
use Rattle.schedule_model.specs.Run.{Scheduled, schedule_from, schedule_of, scheduled_after, with_schedule}
use Rattle.schedule_model.proofs.EntryLaws.{allowed_is, holds_is, on_there}
use Rattle.schedule_model.proofs.PlaceLaws.{ended_before}
use Rattle.schedule_model.proofs.PrefixLaws.{histories_go_on as schedule_goes_on}
use Rattle.schedule_model.proofs.RunLaws.{inner, scheduled, under_is}
use Rattle.ref_model.specs.Enabled.{has_ended, is_ready}
use Rattle.ref_model.specs.Enabled.{is_done as is_done_status}
use Rattle.ref_model.specs.Ending.{ending}
use Rattle.ref_model.specs.declared.ending.Ending.{Ending}
use Rattle.ref_model.specs.Setting.{Setting}
use Rattle.ref_model.specs.State.{JavaThread, State}
use Rattle.ref_model.specs.Step.{enabled}
use Rattle.ref_model.specs.Waiting.{at_time}
use Rattle.ref_model.specs.Looks.{grouped_steps, is_pinned, look_of, machine_from, pins_of, spot_of, yields_after}
use Rattle.schedule_soundness.specs.HistoryLaws.{IsProgramAfter}
use Rattle.schedule_soundness.proofs.Histories.{deques_have_live, is_after, pinned_are_mounted}
use Rattle.schedule_soundness.proofs.ThreadLists.{set_other}
use Rattle.program_state.specs.declared.state.ProgramState.{ProgramState}
use Rattle.program_state.specs.States.{IsState}
use Rattle.machine.specs.declared.after.After.{After}
use Rattle.machine.specs.declared.after.After.TheVariants as afters
use Rattle.machine.specs.declared.after.After.TheVariants.{Goes, Runs, Leaves, Ends}
use Rattle.machine.specs.declared.made.Attempt.{Attempt}
use Rattle.machine.specs.declared.made.Attempt.TheVariants.{Made}
use Rattle.machine.specs.declared.made.StepResult.{StepResult}
use Rattle.machine.specs.declared.made.StepResult.TheVariants as results
use Rattle.machine.specs.Hands.{HasHand, IsLive, IsLiveIn}
use Rattle.machine.specs.Insides.{IsConsistent}
use Rattle.machine.specs.Machines.{Known}
use Rattle.machine.specs.Pins.{ArePins, GoesFreely, IsInNoList, KnowsPins, NotesOwn}
use Rattle.machine.specs.Steps.{IsTold, told_of}
use Rattle.machine.proofs.EntryLaws.{entry_of, given, parts_are, program_after}
use Rattle.machine.proofs.NextLaws.{known_of, there}
use Rattle.machine.proofs.LooseLaws.{taken_is_loose}

-- a step of another, or a tick
other_pins : (before after : Look) (by : Option ℕ) (t : ℕ) (b : Bool) → Changes before after by → IsOther by t
    → GoesFreely before t ⊎ (b ≡ before.pinned t) → GoesFreely after t ⊎ (b ≡ after.pinned t)
other_pins before after by t b changes other (inl free) = let ready = changes.ready t other free.1 free.0 in inl (ready.1, ready.0)
other_pins before after by t b changes other (inr same) = inr (same ∙ sym (changes.pinned t other))

-- no thread is mounted on two carriers
apart_on : (s : Schedule) (c k t u : ℕ) → ((x : ℕ) → places x s ≤ 1) → k ≢ c → slice_get s.mounted c ≡ Some (Some t) → has_mounted s k u ≡ true → u ≢ t
apart_on s c k t u once ne at_c there same =
    let at_k : slice_get s.mounted k ≡ Some (Some t) = holds_is u (slice_get s.mounted k) there ∙ ap (λ x. Some (Some x)) same in
    let rest = set s.mounted c None in
    let still : slice_get rest k ≡ Some (Some t) = set_other s.mounted c k None ne ∙ at_k in
    let one : times t (Some t) ≡ 1 = ap (λ b. cond b 1 0) (eq-eqb t t refl) in
    let first : times t (get_or s.mounted c None) ≡ 1 = ap (times t) (get_or_from_slice_get s.mounted c (Some t) None at_c) ∙ one in
    let second : times t (get_or rest k None) ≡ 1 = ap (times t) (get_or_from_slice_get rest k (Some t) None still) ∙ one in
    omega (arith, once t, first, second, sum_by-set (times t) s.mounted c None None (slice_get_within s.mounted c (Some t) at_c), get_or-le-sum_by (times t) rest k None (slice_get_within rest k (Some t) still))

not_true : (b : Bool) → not b ≡ true → b ≡ false
not_true true e = absurd cc
not_true false e = refl

set_own : {A : Type 0} (xs : List A) (k : ℕ) (x y : A) → slice_get (slice_set xs k x) k ≡ Some y → y ≡ x
set_own [] k x y e = absurd cc
set_own (z ∷ zs) zero x y e = cc
set_own (z ∷ zs) (suc k) x y e = set_own zs k x y e

-- what an entry notes of the carrier that makes it
abbrev pub IsNoted : Setting → Scheduled State → Scheduled State → ℕ → List Bool → List Bool → What → Type 0
IsNoted p v w k pins new (Mount u) = get_or new k false ≡ false
IsNoted p v w k pins new (Unmount u) = Unit {0}
IsNoted p v w k pins new (Clock now) = get_or new k false ≡ get_or pins k false
IsNoted p v w k pins new (Step u n pick) =
    (look_of p.world w.state).ended ≡ false → GoesFreely (look_of p.world w.state) u ⊎ (get_or new k false ≡ (look_of p.world w.state).pinned u)

same_told : (a b : After) → ◌≡◌ {A = Result (Attempt After) NoMemory} (Ok (Made a)) (Ok (Made b)) → a ≡ b
same_told a b e = cc

-- whether a mounted thread is pinned is seen by its frames
pub pinned_by_frames : (p : Setting) (v : Scheduled State) (c t : ℕ) (frames : List Frame) → HasHand p v c t 0 frames
    → (look_of p.world v.state).pinned t ≡ nat_lt 0 (pins_of p.world frames)
pinned_by_frames p v c t frames hand =
    ap (λ o. option_map_or (is_pinned p.world) o false) hand.at ∙ ap (λ fs. nat_lt 0 (pins_of p.world fs)) (same_list hand.thread.frames frames hand.ahead)
  where
    same_list : (xs ys : List Frame) → ◌≡◌ {A = Option (List Frame)} (Some xs) (Some ys) → xs ≡ ys
    same_list xs ys e = cc

module _ (p : Setting) (first : State) (v w : Scheduled State) (a : IsProgramAfter p first v) (k : ℕ) (pins new : List Bool)
    (rest : (c : ℕ) → c ≢ k → get_or new c false ≡ get_or pins c false) (known : ArePins (look_of p.world v.state) v.schedule.mounted pins) where
  abbrev l : State → Look
  l = look_of p.world

  -- what has to be known of the other carriers after an entry
  abbrev Others : State → List (Option ℕ) → Type 0
  Others r mounted = (l r).ended ≡ false → (c t : ℕ) → c ≢ k → slice_get mounted c ≡ Some (Some t) → GoesFreely (l r) t ⊎ (get_or new c false ≡ (l r).pinned t)

  same_pins : (r : State) (c t : ℕ) → c ≢ k → GoesFreely (l r) t ⊎ (get_or pins c false ≡ (l r).pinned t) → GoesFreely (l r) t ⊎ (get_or new c false ≡ (l r).pinned t)
  same_pins r c t ne (inl free) = inl free
  same_pins r c t ne (inr same) = inr (rest c ne ∙ same)

  others_stay : (what : What) → scheduled_after (machine_from p first) v k what ≡ Some w → Others w.state w.schedule.mounted
  others_stay (Mount u) e =
      let s = some_is (mount (l v.state) v.schedule k u) (λ s. Some (with_schedule v.state s)) w e in
      let found = some_is (next v.schedule.deques k)
      (λ found. where_allowed (not (l v.state).ended && (is_idle v.schedule k && (found.1 == u))) (mounted_from (l v.state) v.schedule k found)) s.0 s.1 in
      let given = allowed_is (not (l v.state).ended && (is_idle v.schedule k && (found.0.1 == u))) (mounted_from (l v.state) v.schedule k found.0) s.0 found.2 in
      subst (λ (x : Scheduled State). Others x.state x.schedule.mounted) (ap (with_schedule v.state) given.1 ∙ inner (with_schedule v.state s.0) w s.2)
      (λ goes c t ne at. same_pins v.state c t ne (known goes c t (sym (set_other v.schedule.mounted k c (Some found.0.1) ne) ∙ at)))
  others_stay (Unmount u) e =
      let s = some_is (unmount (l v.state) v.schedule k u) (λ s. Some (with_schedule v.state s)) w e in
      let given = allowed_is (may_unmount (l v.state) v.schedule k u) (after_unmount (l v.state) v.schedule k u) s.0 s.1 in
      subst (λ (x : Scheduled State). Others x.state x.schedule.mounted) (ap (with_schedule v.state) given.1 ∙ inner (with_schedule v.state s.0) w s.2)
      (λ goes c t ne at. same_pins v.state c t ne (known goes c t (sym (set_other v.schedule.mounted k c None ne) ∙ at)))
  others_stay (Step u n pick) e =
      let m = machine_from p first in
      let after = is_after p first v a in
      let is = scheduled m v after in
      let given = under_is (may_step (l v.state) v.schedule k u pick) _ w e in
      let q = some_is (grouped_steps p v.state u n pick)
      (λ q. Some (with_schedule q (after_step (l v.state) (l q) v.schedule k u (yields_after p v.state u n)))) w given.1 in
      let same = inner (with_schedule q.0 (after_step (l v.state) (l q.0) v.schedule k u (yields_after p v.state u n))) w q.2 in
      let on = and_parts (has_mounted v.schedule k u) _ given.0 in
      let free = and_parts (not (v.schedule.owes u)) _ on.1 in
      let went = ended_before (l v.state) (after.promises.looks v.state is.0) u (and_parts ((l v.state).enabled u) _ free.1).0 in
      subst (λ (x : Scheduled State). Others x.state x.schedule.mounted) same
      (λ goes c t ne at.
      let apart = apart_on v.schedule c k t u is.1.once (λ i. ne (sym i)) at on.0 in
      other_pins (l v.state) (l q.0) (Some u) t (get_or new c false) (after.promises.steps v.state q.0 u n pick is.0 q.1 goes) (λ o. apart (let i = o in cc))
      (same_pins v.state c t ne (known went c t at)))
  others_stay (Clock now) e =
      let m = machine_from p first in
      let after = is_after p first v a in
      let is = scheduled m v after in
      let given = under_is (may_tick (l v.state) v.schedule k) _ w e in
      let q = some_is (at_time v.state now) (λ q. Some (with_schedule q (after_tick (l v.state) (l q) v.schedule k))) w given.1 in
      let same = inner (with_schedule q.0 (after_tick (l v.state) (l q.0) v.schedule k)) w q.2 in
      let went = not_true (l v.state).ended (and_parts (not (l v.state).ended) _ given.0).0 in
      subst (λ (x : Scheduled State). Others x.state x.schedule.mounted) same
      (λ goes c t ne at.
      other_pins (l v.state) (l q.0) None t (get_or new c false) (after.promises.ticks v.state q.0 now is.0 q.1 goes) (λ e. cc) (same_pins v.state c t ne (known went c t at)))

  -- what has to be known of the carrier that made the entry
  abbrev Own : State → List (Option ℕ) → Type 0
  Own r mounted = (l r).ended ≡ false → (t : ℕ) → slice_get mounted k ≡ Some (Some t) → GoesFreely (l r) t ⊎ (get_or new k false ≡ (l r).pinned t)

  own_is : (what : What) → scheduled_after (machine_from p first) v k what ≡ Some w → IsNoted p v w k pins new what → Own w.state w.schedule.mounted
  own_is (Mount u) e noted =
      let s = some_is (mount (l v.state) v.schedule k u) (λ s. Some (with_schedule v.state s)) w e in
      let found = some_is (next v.schedule.deques k)
      (λ found. where_allowed (not (l v.state).ended && (is_idle v.schedule k && (found.1 == u))) (mounted_from (l v.state) v.schedule k found)) s.0 s.1 in
      let given = allowed_is (not (l v.state).ended && (is_idle v.schedule k && (found.0.1 == u))) (mounted_from (l v.state) v.schedule k found.0) s.0 found.2 in
      let is_u = (and_parts (is_idle v.schedule k) (found.0.1 == u) (and_parts (not (l v.state).ended) _ given.0).1).1 in
      subst (λ (x : Scheduled State). Own x.state x.schedule.mounted) (ap (with_schedule v.state) given.1 ∙ inner (with_schedule v.state s.0) w s.2)
      (λ goes t at.
      let same : t ≡ found.0.1 = let is_it = set_own v.schedule.mounted k (Some found.0.1) (Some t) at in cc in
      inr (noted ∙ sym (ap (l v.state).pinned (same ∙ eqb-true found.0.1 u is_u) ∙ taken_is_loose p first v w a k u e goes)))
  own_is (Unmount u) e noted =
      let s = some_is (unmount (l v.state) v.schedule k u) (λ s. Some (with_schedule v.state s)) w e in
      let given = allowed_is (may_unmount (l v.state) v.schedule k u) (after_unmount (l v.state) v.schedule k u) s.0 s.1 in
      subst (λ (x : Scheduled State). Own x.state x.schedule.mounted) (ap (with_schedule v.state) given.1 ∙ inner (with_schedule v.state s.0) w s.2)
      (λ goes t at. let none : ◌≡◌ {A = Option ℕ} (Some t) None = set_own v.schedule.mounted k None (Some t) at in absurd cc)
  own_is (Step u n pick) e noted =
      let given = under_is (may_step (l v.state) v.schedule k u pick) _ w e in
      let q = some_is (grouped_steps p v.state u n pick)
      (λ q. Some (with_schedule q (after_step (l v.state) (l q) v.schedule k u (yields_after p v.state u n)))) w given.1 in
      let same = inner (with_schedule q.0 (after_step (l v.state) (l q.0) v.schedule k u (yields_after p v.state u n))) w q.2 in
      let on = (and_parts (has_mounted v.schedule k u) _ given.0).0 in
      λ goes t at.
      let still : slice_get v.schedule.mounted k ≡ Some (Some t) = subst (λ (x : Scheduled State). slice_get x.schedule.mounted k ≡ Some (Some t)) (sym same) at in
      let own : u ≡ t = let one = sym (holds_is u (slice_get v.schedule.mounted k) on) ∙ still in cc in
      subst (λ x. GoesFreely (l w.state) x ⊎ (get_or new k false ≡ (l w.state).pinned x)) own (noted goes)
  own_is (Clock now) e noted =
      let m = machine_from p first in
      let after = is_after p first v a in
      let is = scheduled m v after in
      let given = under_is (may_tick (l v.state) v.schedule k) _ w e in
      let q = some_is (at_time v.state now) (λ q. Some (with_schedule q (after_tick (l v.state) (l q) v.schedule k))) w given.1 in
      let same = inner (with_schedule q.0 (after_tick (l v.state) (l q.0) v.schedule k)) w q.2 in
      let went = not_true (l v.state).ended (and_parts (not (l v.state).ended) _ given.0).0 in
      subst (λ (x : Scheduled State). Own x.state x.schedule.mounted) same
      (λ goes t at.
      other_pins (l v.state) (l q.0) None t (get_or new k false) (after.promises.ticks v.state q.0 now is.0 q.1 goes) (λ e. cc) (by t (known went k t at)))
    where
      by : (t : ℕ) → GoesFreely (l v.state) t ⊎ (get_or pins k false ≡ (l v.state).pinned t) → GoesFreely (l v.state) t ⊎ (get_or new k false ≡ (l v.state).pinned t)
      by t (inl free) = inl free
      by t (inr same) = inr (noted ∙ same)

  -- the pins are known after an entry
  pub pins_after : (what : What) → scheduled_after (machine_from p first) v k what ≡ Some w → IsNoted p v w k pins new what → ArePins (l w.state) w.schedule.mounted new
  pins_after what e noted = λ goes c t at. elim (cases_eq c k) [
    | inl same ↦
        subst (λ j. GoesFreely (l w.state) t ⊎ (get_or new j false ≡ (l w.state).pinned t)) (sym same)
        (own_is what e noted goes t (ap (slice_get w.schedule.mounted) (sym same) ∙ at))
    | inr apart ↦ others_stay what e goes c t apart at
  ]

-- ---- a history that is one entry longer

list_inner : (v w : State) → ◌≡◌ {A = Option State} (Some v) (Some w) → v ≡ w
list_inner v w e = cc

module _ (p : Setting) (n : ℕ) (state : ProgramState) (deques : Lists) (on : List (Option ℕ)) (h : List Entry) (told : Option Ending) (x : IsConsistent p n state deques on h told)
    (state' : ProgramState) (deques' : Lists) (on' : List (Option ℕ)) (entries : List Entry) (told' : Option Ending) (y : IsConsistent p n state' deques' on' entries told')
    (c : ℕ) (what : What) (longer : entries ≡ h ++ entry_of c what ∷ []) where
  makes : scheduled_after (machine_from p x.first) x.after c what ≡ Some y.after
  makes =
      let m = machine_from p x.first in
      let first : y.first ≡ x.first = list_inner y.first x.first (sym y.begins ∙ x.begins) in
      let runs : schedule_of m n (h ++ entry_of c what ∷ []) ≡ Some y.after =
      subst (λ es. schedule_of m n es ≡ Some y.after) longer (subst (λ f. schedule_of (machine_from p f) n entries ≡ Some y.after) first y.runs) in
      let from : schedule_from m x.after (entry_of c what ∷ []) ≡ Some y.after =
      sym (ap (λ o. o >>= λ v. schedule_from m v (entry_of c what ∷ [])) x.runs) ∙ sym (schedule_goes_on m n h (entry_of c what ∷ [])) ∙ runs in
      let u = some_is (scheduled_after m x.after c what) (λ u. schedule_from m u []) y.after from in
      u.1 ∙ u.2

  pub knows_after : (spare room : ℕ) (pins new : List Bool) → KnowsPins (known_of p n h spare told) pins → length new ≡ length pins
      → ((k : ℕ) → k ≢ c → get_or new k false ≡ get_or pins k false) → IsNoted p x.after y.after c pins new what → KnowsPins (known_of p n entries room told') new
  knows_after spare room pins new known sizes rest noted = record {
    sizes = sizes ∙ known.sizes;
    known = given (known_of p n entries room told') y.first y.after (λ v. ArePins (look_of p.world v.state) v.schedule.mounted new) y.begins y.runs
        (pins_after p x.first x.after y.after (program_after p n state deques on h told x) c pins new rest
        (known.known x.after (there p n state deques on h told spare x)) what makes noted);
  }

  -- the same by a schedule that is known to come next
  pub knows_by : (spare room : ℕ) (pins new : List Bool) (w : Scheduled State) → scheduled_after (machine_from p x.first) x.after c what ≡ Some w
      → KnowsPins (known_of p n h spare told) pins → length new ≡ length pins → ((k : ℕ) → k ≢ c → get_or new k false ≡ get_or pins k false)
      → IsNoted p x.after w c pins new what → KnowsPins (known_of p n entries room told') new
  knows_by spare room pins new w e known sizes rest noted =
      let same : w ≡ y.after = inner w y.after (sym e ∙ makes) in
      knows_after spare room pins new known sizes rest (subst (λ u. IsNoted p x.after u c pins new what) same noted)

-- one that says whether it is pinned
pub set_noted : (xs : List Bool) (k : ℕ) (b : Bool) → k < length xs → get_or (slice_set xs k b) k false ≡ b
set_noted xs k b within = get_or-set_same xs k b false within

pub set_rest : (xs : List Bool) (k : ℕ) (b : Bool) (j : ℕ) → j ≢ k → get_or (slice_set xs k b) j false ≡ get_or xs j false
set_rest xs k b j ne = get_or-set_other xs k j b false ne

-- a thread that is in no list
pub goes_unnoted : (w : World) (state : ProgramState) (t : ℕ) (frames : List Frame) (made : StepResult) (c : ℕ) (old new : List Bool)
    → (made ≡ results.Goes) ⊎ ((u : ℕ) × (made ≡ results.Notifies u)) → IsInNoList state t → NotesOwn w state t frames made c old new
goes_unnoted w state t frames made c old new (inl is) nowhere = subst (λ m. NotesOwn w state t frames m c old new) (sym is) (inl nowhere)
goes_unnoted w state t frames made c old new (inr is) nowhere = subst (λ m. NotesOwn w state t frames m c old new) (sym is.1) (inl nowhere)

-- ---- after a step

no_both : (b : Bool) → b ≡ true → b ≡ false → ⊥
no_both b i j = absurd cc

done_alive : (phase : Phase) → is_done (spot_of (Live phase)) ≡ false
done_alive Run = refl
done_alive (Throwing o) = refl
done_alive (Entering o) = refl
done_alive (Waiting o count deadline) = refl
done_alive (Reenter o count wake) = refl
done_alive (Parked deadline) = refl
done_alive (Asleep deadline) = refl
done_alive (Joining u deadline) = refl

ended_status : (status : Status) → is_done_status status ≡ true → is_live (spot_of status) ≡ false
ended_status New e = absurd cc
ended_status (Live phase) e = absurd cc
ended_status Done e = refl

-- a thread that runs just goes on
pub runs_freely : (p : Setting) (r : State) (t : ℕ) → IsLiveIn r t Run → (look_of p.world r).ended ≡ false → GoesFreely (look_of p.world r) t
runs_freely p r t live goes =
    let none : ending r ≡ None = no_ending (ending r) goes in
    let spot = ap (λ o. option_map_or (λ (x : JavaThread). spot_of x.thread.status) o absent) live.at ∙ ap spot_of live.status in
    let ready : is_ready r live.thread live.thread.thread.status ≡ true = ap (is_ready r live.thread) live.status in
    (and_from (is_none (ending r)) _ (ap is_none none) (ap (λ o. option_map_or (λ (x : JavaThread). is_ready r x x.thread.status) o false) live.at ∙ ready), spot)
  where
    no_ending : (o : Option Ending) → is_some o ≡ false → o ≡ None
    no_ending None e = refl
    no_ending (Some x) e = absurd cc

-- the look of a program after a legal history is one
looks : (p : Setting) (first : State) (v : Scheduled State) → IsProgramAfter p first v → IsLook (look_of p.world v.state)
looks p first v a =
    let after = is_after p first v a in
    after.promises.looks v.state (scheduled (machine_from p first) v after).0

module _ (p : Setting) (first : State) (w : Scheduled State) (a : IsProgramAfter p first w) (c t : ℕ) (after : List Frame) (hand : HasHand p w c t 0 after)
    (state : ProgramState) (out : ℕ → Bool) (is : IsState state w.state out) where
  abbrev now : Look
  now = look_of p.world w.state

  spot_is : now.spot t ≡ spot_of hand.thread.thread.status
  spot_is = ap (λ o. option_map_or (λ (x : JavaThread). spot_of x.thread.status) o absent) hand.at

  pinned_is : now.pinned t ≡ nat_lt 0 (pins_of p.world after)
  pinned_is =
      let frames : hand.thread.frames ≡ after = let e = hand.ahead in cc in
      ap (λ o. option_map_or (is_pinned p.world) o false) hand.at ∙ ap (λ fs. nat_lt 0 (pins_of p.world fs)) frames

  goes_so : (pin : Bool) → enabled w.state t ≡ true → IsInNoList state t ⊎ (pin ≡ nat_lt 0 (pins_of p.world after)) → GoesFreely now t ⊎ (pin ≡ now.pinned t)
  goes_so pin on (inl nowhere) = inl (on, spot_is ∙ nowhere w.state out is hand.thread hand.at)
  goes_so pin on (inr noted) = inr (noted ∙ sym pinned_is)

  leaves_so : now.ended ≡ false → w.schedule.owes t ≡ true → IsLive w.state t → now.pinned t ≡ false
  leaves_so goes owes live = by ((pinned_are_mounted p first w a goes).owed t (on_there w.schedule c t hand.mounted) owes)
    where
      alive : is_done (now.spot t) ≡ false
      alive = ap is_done (ap (λ o. option_map_or (λ (x : JavaThread). spot_of x.thread.status) o absent) live.live.at) ∙ ap (λ s. is_done (spot_of s)) live.live.status ∙ done_alive live.phase

      by : (is_done (now.spot t) ≡ true) ⊎ (now.pinned t ≡ false) → now.pinned t ≡ false
      by (inl done) = absurd (no_both (is_done (now.spot t)) done alive)
      by (inr loose) = loose

  ends_so : has_ended w.state t ≡ true → now.pinned t ≡ false
  ends_so over =
      elim (cases_Bool (now.pinned t)) [
        | inr loose ↦ loose
        | inl held ↦
            let live = (looks p first w a).pinned t held in
            let status : is_done_status hand.thread.thread.status ≡ true = sym (ap (λ o. option_map_or (λ (x : JavaThread). is_done_status x.thread.status) o false) hand.at) ∙ over in
            absurd (no_both (is_live (now.spot t)) live (ap is_live spot_is ∙ ended_status hand.thread.thread.status status))
      ]

  pub noted_so : (made : StepResult) (told : After) (old new : List Bool) → told_of made ≡ Ok (Made told) → IsTold p.world told w t
      → NotesOwn p.world state t after made c old new → now.ended ≡ false → GoesFreely now t ⊎ (get_or new c false ≡ now.pinned t)
  noted_so results.Goes told old new e is_told notes goes =
      goes_so (get_or new c false) (subst (λ b. IsTold p.world b w t) (sym (same_told Goes told e)) is_told).1 notes
  noted_so results.Runs told old new e is_told notes goes =
      inl (runs_freely p w.state t (subst (λ b. IsTold p.world b w t) (sym (same_told Runs told e)) is_told).1 goes)
  noted_so (results.Notifies u) told old new e is_told notes goes =
      goes_so (get_or new c false) (subst (λ b. IsTold p.world b w t) (sym (same_told Goes told e)) is_told).1 notes
  noted_so results.Leaves told old new e is_told notes goes =
      let tells = subst (λ b. IsTold p.world b w t) (sym (same_told Leaves told e)) is_told in inr (notes ∙ sym (leaves_so goes tells.0 tells.1))
  noted_so results.Waits told old new e is_told notes goes =
      let tells = subst (λ b. IsTold p.world b w t) (sym (same_told afters.Waits told e)) is_told in inr (notes ∙ sym tells.1.pinned)
  noted_so results.Ends told old new e is_told notes goes =
      let tells = subst (λ b. IsTold p.world b w t) (sym (same_told Ends told e)) is_told in inr (notes ∙ sym (ends_so tells.1))
  noted_so results.LacksThreads told old new e is_told notes goes = absurd cc
  noted_so results.ReadsClock told old new e is_told notes goes = absurd cc
  noted_so results.LacksMemory told old new e is_told notes goes = absurd cc

-- ---- at first

none_at : (n c t : ℕ) → slice_get (replicate n None) c ≡ Some (Some t) → ⊥
none_at zero c t e = absurd cc
none_at (suc n) zero t e = absurd cc
none_at (suc n) (suc c) t e = none_at n c t e

pub first_known : (p : Setting) (n : ℕ) (state : ProgramState) (deques : Lists) (on : List (Option ℕ)) (h : List Entry) (told : Option Ending) (y : IsConsistent p n state deques on h told)
    (spare : ℕ) (pins : List Bool) → told ≡ None → on ≡ replicate n None → pins ≡ replicate n false → KnowsPins (known_of p n h spare told) pins
first_known p n state deques on h told y spare pins none nowhere unpinned = record {
  sizes = ap length unpinned ∙ length-replicate n false;
  known = given (known_of p n h spare told) y.first y.after (λ v. ArePins (look_of p.world v.state) v.schedule.mounted pins) y.begins y.runs
      (λ goes c t at. absurd (none_at n c t (ap (λ ms. slice_get ms c) (sym nowhere ∙ (parts_are p n state deques on h told y none).mounted) ∙ at)));
}

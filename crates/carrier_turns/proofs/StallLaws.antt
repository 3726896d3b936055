-- A program that can go on isn't stalled, and isn't starved where a carrier's thread can go on, or isn't pinned.
use Rattle.std.proofs.Common.{◌≡◌, ◌<◌, ◌&&◌, ◌||◌, ℕ, Bool, true, false, not, Option, Some, None, length, slice_get, get_or, refl, ap, sym, ◌∙◌, subst, zero-add}
use Rattle.std.specs.Prelude.{is_none, is_some}
use Rattle.std.specs.List.{list_all, list_any, range_with_len}
use Rattle.std.specs.Option.{option_map_or}
use Rattle.std.proofs.lemmas.Bool.{and_parts, and_right, not_from_true, or_left}
use Rattle.std.proofs.lemmas.List.Folds.{list_all_at, list_any_at}
use Rattle.std.proofs.lemmas.List.FromFn.{get_or-range_with_len, length-range_with_len}
use Rattle.std.proofs.lemmas.Option.{get_or_from_slice_get, slice_get_within}
use Rattle.schedule_model.specs.Puts.{all_threads}
use Rattle.schedule_model.specs.Entries.{has_mounted, is_idle, is_vacant}
use Rattle.schedule_model.specs.Run.{Scheduled}
use Rattle.schedule_model.specs.Stalled.{can_go_on, has_time, is_starved, is_stuck}
use Rattle.schedule_model.proofs.EntryLaws.{holds_is}
use Rattle.link_model.specs.World.{World}
use Rattle.ref_model.specs.State.{JavaThread, State}
use Rattle.ref_model.specs.Ending.{ending}
use Rattle.ref_model.specs.Looks.{is_stalled, look_of}
use Rattle.ref_model.specs.Step.{enabled, is_ready}
use Rattle.carrier_turns.specs.Turns.{goes_no_more}

-- a thread that may step is one of those that were made
made : (r : State) (o : Option JavaThread) → option_map_or (λ (x : JavaThread). is_ready r x x.thread.status) o false ≡ true → is_some o ≡ true
made r None e = absurd cc
made r (Some x) e = refl

there : (o : Option JavaThread) → is_some o ≡ true → (x : JavaThread) × (o ≡ Some x)
there None e = absurd cc
there (Some x) e = (x, refl)

pub enabled_goes : (w : World) (r : State) (t : ℕ) → enabled r t ≡ true → is_stalled w r ≡ false
enabled_goes w r t on =
    let l = look_of w r in
    let ready = (and_parts (is_none (ending r)) _ on).1 in
    let x = there (slice_get r.threads t) (made r (slice_get r.threads t) ready) in
    let within : t < length r.threads = slice_get_within r.threads t x.0 x.1 in
    let at : get_or (range_with_len 0 (length r.threads)) t 0 ≡ t = get_or-range_with_len 0 (length r.threads) t 0 within ∙ zero-add t in
    let goes : can_go_on l (get_or (all_threads l) t 0) ≡ true = ap (can_go_on l) at ∙ or_left (enabled r t) (has_time l t) on in
    let any : list_any (can_go_on l) (all_threads l) ≡ true =
    list_any_at (can_go_on l) (all_threads l) t 0 (subst (λ n. t < n) (sym (length-range_with_len 0 (length r.threads))) within) goes in
    and_right (not l.ended) (not (list_any (can_go_on l) (all_threads l))) (not_from_true (list_any (can_go_on l) (all_threads l)) any)

-- ---- carriers that keep no others back

-- one has a thread that isn't stuck, or none
loose_feeds : (w : World) (v : Scheduled State) (c : ℕ) (o : Option ℕ) → slice_get v.schedule.mounted c ≡ Some o → is_stuck (look_of w v.state) o ≡ false
    → is_starved (look_of w v.state) v.schedule ≡ false
loose_feeds w v c o at loose =
    let l = look_of w v.state in
    let on = v.schedule.mounted in
    let here : get_or on c None ≡ o = get_or_from_slice_get on c o None at in
    let all = list_all_at (is_stuck l) on c None (slice_get_within on c o at) (ap (is_stuck l) here ∙ loose) in
    and_right (not l.ended) (list_all (is_stuck l) on && list_any (can_go_on l) (all_threads l)) (ap (λ b. b && list_any (can_go_on l) (all_threads l)) all)

vacant_is : (o : Option (Option ℕ)) → is_vacant o ≡ true → o ≡ Some None
vacant_is None e = absurd cc
vacant_is (Some None) e = refl
vacant_is (Some (Some t)) e = absurd cc

pub idle_feeds : (w : World) (v : Scheduled State) (c : ℕ) → is_idle v.schedule c ≡ true → is_starved (look_of w v.state) v.schedule ≡ false
idle_feeds w v c idle = loose_feeds w v c None (vacant_is (slice_get v.schedule.mounted c) idle) refl

pub unpinned_feeds : (w : World) (v : Scheduled State) (c t : ℕ) → has_mounted v.schedule c t ≡ true → (look_of w v.state).pinned t ≡ false
    → is_starved (look_of w v.state) v.schedule ≡ false
unpinned_feeds w v c t on loose =
    let l = look_of w v.state in
    loose_feeds w v c (Some t) (holds_is t (slice_get v.schedule.mounted c) on) (ap (λ b. b && not (can_go_on l t)) loose)

pub enabled_feeds : (w : World) (v : Scheduled State) (c t : ℕ) → has_mounted v.schedule c t ≡ true → enabled v.state t ≡ true
    → is_starved (look_of w v.state) v.schedule ≡ false
enabled_feeds w v c t on goes =
    let l = look_of w v.state in
    loose_feeds w v c (Some t) (holds_is t (slice_get v.schedule.mounted c) on)
    (and_right (l.pinned t) (not (can_go_on l t)) (ap not (or_left (enabled v.state t) (has_time l t) goes)))

-- neither is so
pub goes_more : (w : World) (v : Scheduled State) → is_stalled w v.state ≡ false → is_starved (look_of w v.state) v.schedule ≡ false → goes_no_more w v ≡ false
goes_more w v going fed = ap (λ b. b || is_starved (look_of w v.state) v.schedule) going ∙ fed

-- where carriers keep nobody back the program has stalled
pub stalls_by : (w : World) (v : Scheduled State) → goes_no_more w v ≡ true → is_starved (look_of w v.state) v.schedule ≡ false → is_stalled w v.state ≡ true
stalls_by w v stops fed = by (is_stalled w v.state) (is_starved (look_of w v.state) v.schedule) stops fed
  where
    by : (a b : Bool) → (a || b) ≡ true → b ≡ false → a ≡ true
    by true b e f = refl
    by false b e f = absurd cc

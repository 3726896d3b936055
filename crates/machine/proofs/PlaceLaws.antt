-- Who is mounted, and who is in a deque, after a mount and an unmount.
use Rattle.std.proofs.Common.{◌≡◌, ◌≢◌, ◌<◌, ◌≤◌, ◌==◌, ◌&&◌, ℕ, zero, suc, true, false, List, [], ◌∷◌, ◌++◌, Option, None, Some, length, slice_get, drop, refl, ap, sym, ◌∙◌, cond, not, arith}
use Rattle.std.specs.Prelude.{nat_lt}
use Rattle.std.proofs.lemmas.Bool.{and_from, eq-eqb, le-ltb, lt-ltb, ltb-true, ltb-false, ne_eqb}
use Rattle.std.proofs.lemmas.List.{append-nil}
use Rattle.std.proofs.lemmas.Option.{slice_get_within}
use Rattle.std.proofs.Math.ListN.{length-set}
use Rattle.items.proofs.Binds.{bind_is}
use Rattle.thread_lists.specs.Lists.{list_at, push}
use Rattle.run_deques.specs.Take.{after_take, next}
use Rattle.schedule_model.specs.Look.{Look}
use Rattle.schedule_model.specs.Schedule.{Schedule, in_deques, on_carriers, places}
use Rattle.schedule_model.specs.Entries.{after_unmount, has_mounted, holds, is_idle, is_vacant, may_unmount, mount, mounted_from, unmount, where_allowed}
use Rattle.schedule_model.proofs.EntryLaws.{holds_is, on-set, on_there, taken_in, vacant_is}
use Rattle.ref_model.proofs.StateLaws.{get_set}
use Rattle.machine.specs.Insides.{is_out}

-- ---- who is mounted

pub out_from : (s : Schedule) (t : ℕ) → 0 < on_carriers t s → is_out s t ≡ true
out_from s t on = lt-ltb 0 (on_carriers t s) on

pub in_from : (s : Schedule) (t : ℕ) → on_carriers t s ≡ 0 → is_out s t ≡ false
in_from s t none = le-ltb 0 (on_carriers t s) (omega arith)

pub out_on : (s : Schedule) (t : ℕ) → is_out s t ≡ true → 0 < on_carriers t s
out_on s t out = ltb-true 0 (on_carriers t s) out

pub in_none : (s : Schedule) (t : ℕ) → is_out s t ≡ false → on_carriers t s ≡ 0
in_none s t off = let h = ltb-false 0 (on_carriers t s) off in omega arith

pub mounted_out : (s : Schedule) (c t : ℕ) → has_mounted s c t ≡ true → is_out s t ≡ true
mounted_out s c t on = out_from s t (on_there s c t on)

-- a carrier that is there
pub idle_within : (s : Schedule) (c : ℕ) → is_idle s c ≡ true → c < length s.mounted
idle_within s c idle = slice_get_within s.mounted c None (vacant_is (slice_get s.mounted c) idle)

pub mounted_within : (s : Schedule) (c t : ℕ) → has_mounted s c t ≡ true → c < length s.mounted
mounted_within s c t on = slice_get_within s.mounted c (Some t) (holds_is t (slice_get s.mounted c) on)

-- ---- a mount

pub mounts : (l : Look) (s : Schedule) (c d t : ℕ) → next s.deques c ≡ Some (d, t) → is_idle s c ≡ true → l.ended ≡ false
    → mount l s c t ≡ Some (mounted_from l s c (d, t))
mounts l s c d t found idle going =
    let allowed = and_from (not l.ended) _ (ap not going) (and_from (is_idle s c) (t == t) idle (eq-eqb t t refl)) in
    bind_is (next s.deques c) (λ (f : ℕ × ℕ). where_allowed (not l.ended && (is_idle s c && (f.1 == t))) (mounted_from l s c f)) (d, t)
    (Some (mounted_from l s c (d, t))) found (ap (λ b. where_allowed b (mounted_from l s c (d, t))) allowed)

-- the thread that is next is in a deque
pub next_in : (l : Look) (s : Schedule) (c d t : ℕ) → length s.deques ≡ length s.mounted → is_idle s c ≡ true → next s.deques c ≡ Some (d, t)
    → 0 < in_deques t s
next_in l s c d t sizes idle found =
    let once : ◌≡◌ {A = ℕ} (cond (t == t) 1 0) 1 = ap (λ b. cond b 1 0) (eq-eqb t t refl) in
    omega (arith, taken_in l s c (d, t) sizes idle found t, once)

-- the carrier has the thread mounted, and other threads are where they were
pub taken_out : (l : Look) (s : Schedule) (c d t : ℕ) → is_idle s c ≡ true → is_out (mounted_from l s c (d, t)) t ≡ true
taken_out l s c d t idle =
    let vacant = vacant_is (slice_get s.mounted c) idle in
    let once : ◌≡◌ {A = ℕ} (cond (t == t) 1 0) 1 = ap (λ b. cond b 1 0) (eq-eqb t t refl) in
    out_from (mounted_from l s c (d, t)) t (omega (arith, on-set s c t None (Some t) vacant, once))

pub taken_else : (l : Look) (s : Schedule) (c d t u : ℕ) → is_idle s c ≡ true → u ≢ t → is_out (mounted_from l s c (d, t)) u ≡ is_out s u
taken_else l s c d t u idle ne =
    let vacant = vacant_is (slice_get s.mounted c) idle in
    let no : ◌≡◌ {A = ℕ} (cond (t == u) 1 0) 0 = ap (λ b. cond b 1 0) (ne_eqb t u (λ e. ne (sym e))) in
    let same : on_carriers u (mounted_from l s c (d, t)) ≡ on_carriers u s = omega (arith, on-set s c u None (Some t) vacant, no) in
    ap (nat_lt 0) same

pub taken_here : (l : Look) (s : Schedule) (c d t : ℕ) → is_idle s c ≡ true → has_mounted (mounted_from l s c (d, t)) c t ≡ true
taken_here l s c d t idle =
    ap (λ o. holds t o) (get_set s.mounted c None (Some t) (vacant_is (slice_get s.mounted c) idle)) ∙ eq-eqb t t refl

-- ---- an unmount

pub unmounts : (l : Look) (s : Schedule) (c t : ℕ) → may_unmount l s c t ≡ true → unmount l s c t ≡ Some (after_unmount l s c t)
unmounts l s c t may = ap (λ b. where_allowed b (after_unmount l s c t)) may

pub put_in : (l : Look) (s : Schedule) (c t : ℕ) → has_mounted s c t ≡ true → places t s ≤ 1 → is_out (after_unmount l s c t) t ≡ false
put_in l s c t on once =
    let here = holds_is t (slice_get s.mounted c) on in
    let one : ◌≡◌ {A = ℕ} (cond (t == t) 1 0) 1 = ap (λ b. cond b 1 0) (eq-eqb t t refl) in
    in_from (after_unmount l s c t) t (omega (arith, on-set s c t (Some t) None here, one, once))

pub put_else : (l : Look) (s : Schedule) (c t u : ℕ) → has_mounted s c t ≡ true → u ≢ t → is_out (after_unmount l s c t) u ≡ is_out s u
put_else l s c t u on ne =
    let here = holds_is t (slice_get s.mounted c) on in
    let no : ◌≡◌ {A = ℕ} (cond (t == u) 1 0) 0 = ap (λ b. cond b 1 0) (ne_eqb t u (λ e. ne (sym e))) in
    let same : on_carriers u (after_unmount l s c t) ≡ on_carriers u s = omega (arith, on-set s c u (Some t) None here, no) in
    ap (nat_lt 0) same

pub put_idle : (l : Look) (s : Schedule) (c t : ℕ) → has_mounted s c t ≡ true → is_idle (after_unmount l s c t) c ≡ true
put_idle l s c t on = ap is_vacant (get_set s.mounted c (Some t) None (holds_is t (slice_get s.mounted c) on))

-- ---- deques

-- nobody is put
pub push_none : (lists : List (List ℕ)) (c : ℕ) → push lists c [] ≡ lists
push_none [] c = refl
push_none (xs ∷ lists) zero = ap (λ ys. ys ∷ lists) (append-nil xs)
push_none (xs ∷ lists) (suc c) = ap (λ ls. xs ∷ ls) (push_none lists c)

pub push_length : (lists : List (List ℕ)) (c : ℕ) (ts : List ℕ) → length (push lists c ts) ≡ length lists
push_length lists c ts = length-set lists c (list_at lists c ++ ts)

pub take_length : (lists : List (List ℕ)) (o : Option (ℕ × ℕ)) → length (after_take lists o) ≡ length lists
take_length lists None = refl
take_length lists (Some found) = length-set lists found.0 (drop 1 (list_at lists found.0))

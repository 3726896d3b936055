-- What each call leaves of the monitor that it changes.
use Rattle.std.proofs.Common.{◌≡◌, ◌+◌, ◌-◌, ◌<◌, ◌≤◌, ◌&&◌, ◌==◌, ◌↔◌, ℕ, Bool, true, false, List, [], ◌∷◌, ◌++◌, Option, Some, None, append-nil, drop, if◌then◌else◌, is_none, is_some, add-zero, not, length, length-append, nat_eq, nat_lt, set, slice_get, take, sym, ◌∙◌, ap, subst, refl, arith, inl, inr, vec_len}
use Rattle.std.specs.Prelude.{map, min}
use Rattle.std.specs.Map.{lookup}
use Rattle.std.specs.declared.hash.BuildHasherDefault.{BuildHasherDefault}
use Rattle.std.specs.declared.hash.FoldHasher.{FoldHasher}
use Rattle.std.specs.Global.{Vec}
use Rattle.std.specs.HashMap.{HashMap, get, hash_map_len, spare}
use Rattle.std.specs.Option.{IfSome, option_and_then}
use Rattle.std.specs.Vec.{vec_capacity}
use Rattle.std.proofs.lemmas.Bool.{cases_eq, cases_lt, eq-eqb}
use Rattle.std.proofs.lemmas.Bool.Decides.{nat_tests}
use Rattle.thread_lists.specs.Lists.{Lists, append, count, list_at, push, total, without}
use Rattle.thread_lists.proofs.CountLaws.{count-append, count-other, count-same, length-le, total-le, without-first}
use Rattle.monitors.specs.declared.records.Owner.{Owner}
use Rattle.monitors.specs.declared.records.Record.{Record}
use Rattle.monitors.specs.declared.monitors.Monitors.TheInside.{Inside}
use Rattle.monitors.specs.Monitors.{InNoList, IsInLine, IsWaiting, Monitor, after_enter, after_exit, after_leave_wait, after_line_up, after_notify, after_notify_all, after_retake, after_wait, free, is_empty, is_free, is_taken, count_in, monitor_of}
use Rattle.monitors.specs.Records.{Fits, IsConsistent, count_of, entered, entry_list_of, known, left, left_by, seen, thread_of, wait_list_of}
use Rattle.monitors.proofs.ListLaws.{Paired, Paired-entry_list, Paired-push, Paired-same, Paired-wait, Paired-wait_list}
use Rattle.monitors.proofs.MonitorLaws.{After, After-change, After-close, After-is, After-open, free_thread, in_use_is, unused_is}
use Rattle.monitors.proofs.RecordLaws.{KeepsRecords}

abbrev pub Records : Type 0
Records = HashMap ℕ Record (BuildHasherDefault FoldHasher)

-- a monitor that isn't free
used-owner : (m : Monitor) (t : ℕ) → m.owner ≡ Some t → is_free m ≡ false
used-owner m t e = ap (λ x. is_none x && (is_empty m.entry_list && is_empty m.wait_list)) e

none-of-three : (a b c : Bool) → b ≡ false → a && (b && c) ≡ false
none-of-three true b c e = ap (λ x. x && c) e
none-of-three false b c e = refl

none-of-last : (a b c : Bool) → c ≡ false → a && (b && c) ≡ false
none-of-last true true c e = e
none-of-last true false c e = refl
none-of-last false b c e = refl

is_empty-push : (xs : List ℕ) (t : ℕ) → is_empty (xs ++ t ∷ []) ≡ false
is_empty-push [] t = refl
is_empty-push (x ∷ xs) t = refl

used-entry_list : (m : Monitor) → is_empty m.entry_list ≡ false → is_free m ≡ false
used-entry_list m e = none-of-three (is_none m.owner) (is_empty m.entry_list) (is_empty m.wait_list) e

used-wait_list : (m : Monitor) → is_empty m.wait_list ≡ false → is_free m ≡ false
used-wait_list m e = none-of-last (is_none m.owner) (is_empty m.entry_list) (is_empty m.wait_list) e

begins : (xs : List ℕ) (x : ℕ) → slice_get xs 0 ≡ Some x → take 1 xs ≡ x ∷ []
begins [] x e = cc
begins (y ∷ xs) x e = let i : y ≡ x = cc in ap (λ z. z ∷ []) i

begins_not : (xs : List ℕ) → slice_get xs 0 ≡ None → xs ≡ []
begins_not [] e = refl
begins_not (x ∷ xs) e = cc

pub empty_first : (xs ys : List ℕ) → is_empty xs && is_empty ys ≡ true → xs ≡ []
empty_first [] ys e = refl
empty_first (x ∷ xs) ys e = cc

empty_second : (xs ys : List ℕ) → is_empty xs && is_empty ys ≡ true → ys ≡ []
empty_second [] [] e = refl
empty_second [] (y ∷ ys) e = cc
empty_second (x ∷ xs) ys e = cc

-- nothing changes
pub After-same : (a : Inside) (o : ℕ) → IsConsistent a → After a o (monitor_of (seen a) o) a
After-same a o kept =
    record { kept = kept; becomes = record { changed = refl; others = λ p ne. refl; threads = refl; spare = omega arith } }

-- a monitor in use
module _ (a : Inside) (kept : IsConsistent a) (o : ℕ) (r : Record) (was : get nat_eq a.records o ≡ Some r) where
  abbrev pub entry_list : List ℕ
  entry_list = list_at a.lists.lists (entry_list_of r.pair)

  abbrev pub wait_list : List ℕ
  wait_list = list_at a.lists.lists (wait_list_of r.pair)

  inside : wait_list_of r.pair < length a.lists.lists
  inside = kept.fits.inside o r was

  abbrev monitor : Option Owner → List ℕ → List ℕ → Monitor
  monitor owner xs ys = record { owner = thread_of owner; count = count_of owner; entry_list = xs; wait_list = ys }

  lists_change : (lists new : Lists) (xs ys : List ℕ) → lists ≡ new → Paired a.lists.lists new.lists r.pair xs ys → new.threads ≡ a.lists.threads → is_free (monitor r.owner xs ys) ≡ false → After a o (monitor r.owner xs ys) (record a { lists = lists })
  lists_change lists new xs ys e paired threads used =
      subst (λ (ls : Lists). After a o (monitor r.owner xs ys) (record a { lists = ls })) (sym e)
      (After-change a (record a { lists = new }) kept o r was xs ys paired r.owner was (λ p ne. refl) refl (omega arith) refl refl threads used)

  owner_change : (records : Records) (owner : Option Owner) → get nat_eq records o ≡ Some (record r { owner = owner }) → KeepsRecords (get nat_eq a.records) (get nat_eq records) o → hash_map_len records ≡ hash_map_len a.records + (if is_some (get nat_eq a.records o) then 0 else 1) → spare a.records ≤ spare records + 1 → is_free (monitor owner entry_list wait_list) ≡ false → After a o (monitor owner entry_list wait_list) (record a { records = records })
  owner_change records owner now others size more used =
      After-change a (record a { records = records }) kept o r was entry_list wait_list (Paired-same a.lists.lists r.pair) owner now others (size ∙ ap (λ x. hash_map_len a.records + (if is_some x then 0 else 1)) was ∙ add-zero (hash_map_len a.records)) more refl refl refl used

  both_change : (records : Records) (lists new : Lists) (owner : Option Owner) (xs ys : List ℕ) → get nat_eq records o ≡ Some (record r { owner = owner }) → KeepsRecords (get nat_eq a.records) (get nat_eq records) o → hash_map_len records ≡ hash_map_len a.records + (if is_some (get nat_eq a.records o) then 0 else 1) → spare a.records ≤ spare records + 1 → lists ≡ new → Paired a.lists.lists new.lists r.pair xs ys → new.threads ≡ a.lists.threads → is_free (monitor owner xs ys) ≡ false → After a o (monitor owner xs ys) (record a { records = records; lists = lists })
  both_change records lists new owner xs ys now others size more e paired threads used =
      subst (λ (ls : Lists). After a o (monitor owner xs ys) (record a { records = records; lists = ls })) (sym e)
      (After-change a (record a { records = records; lists = new }) kept o r was xs ys paired owner now others (size ∙ ap (λ x. hash_map_len a.records + (if is_some x then 0 else 1)) was ∙ add-zero (hash_map_len a.records)) more refl refl threads used)

  pushed : (t : ℕ) → Paired a.lists.lists (push a.lists.lists (entry_list_of r.pair) (t ∷ [])) r.pair (entry_list ++ t ∷ []) wait_list
  pushed t = Paired-push a.lists.lists a.lists.lists r.pair entry_list wait_list (t ∷ []) inside (Paired-same a.lists.lists r.pair)

  moved : (t : ℕ) → Paired a.lists.lists (push (set a.lists.lists (wait_list_of r.pair) (without t wait_list)) (entry_list_of r.pair) (t ∷ [])) r.pair (entry_list ++ t ∷ []) (without t wait_list)
  moved t =
      Paired-push a.lists.lists (set a.lists.lists (wait_list_of r.pair) (without t wait_list)) r.pair entry_list (without t wait_list) (t ∷ []) inside
      (Paired-wait_list a.lists.lists a.lists.lists r.pair entry_list wait_list (without t wait_list) inside (Paired-same a.lists.lists r.pair))

  -- the record after a thread enters, by whether another is the owner
  entered_by : (t : ℕ) (taken : Bool) → is_taken (thread_of r.owner) t ≡ taken → Some (entered t r) ≡ Some (if taken then r else record r { owner = Some (record { thread = t; count = count_of r.owner + 1 }) })
  entered_by t taken e = ap (λ (b : Bool). Some (if b then r else record r { owner = Some (record { thread = t; count = count_of r.owner + 1 }) })) e

  -- the vacant pairs stay
  with_vacant : (m : Monitor) (records : Records) (vacant : Vec ℕ) (lists : Lists) → vacant ≡ a.vacant → After a o m (record a { records = records; lists = lists }) → After a o m (record a { records = records; vacant = vacant; lists = lists })
  with_vacant m records vacant lists e after = subst (λ (v : Vec ℕ). After a o m (record a { records = records; vacant = v; lists = lists })) (sym e) after

  -- a thread waits for a monitor that another owns
  pub enter_blocks : (t : ℕ) (records : Records) (vacant : Vec ℕ) (lists : Lists) → is_taken (thread_of r.owner) t ≡ true → get nat_eq records o ≡ Some (entered t r) → KeepsRecords (get nat_eq a.records) (get nat_eq records) o → hash_map_len records ≡ hash_map_len a.records + (if is_some (get nat_eq a.records o) then 0 else 1) → spare a.records ≤ spare records + 1 → vacant ≡ a.vacant → lists ≡ record a.lists { lists = push a.lists.lists (entry_list_of r.pair) (t ∷ []) } → After a o (after_enter t (monitor_of (seen a) o)) (record a { records = records; vacant = vacant; lists = lists })
  enter_blocks t records vacant lists taken now others size more same e =
      with_vacant (after_enter t (monitor_of (seen a) o)) records vacant lists same
      (After-is a o (monitor r.owner (entry_list ++ t ∷ []) wait_list) (after_enter t (monitor_of (seen a) o)) (record a { records = records; lists = lists })
      (sym (ap (λ (b : Bool). if b then monitor r.owner (entry_list ++ t ∷ []) wait_list else record { owner = Some t; count = count_of r.owner + 1; entry_list = entry_list; wait_list = wait_list }) taken) ∙ ap (after_enter t) (sym (in_use_is a o r was)))
      (both_change records lists (record a.lists { lists = push a.lists.lists (entry_list_of r.pair) (t ∷ []) }) r.owner (entry_list ++ t ∷ []) wait_list (now ∙ entered_by t true taken) others size more e (pushed t) refl (used-entry_list (monitor r.owner (entry_list ++ t ∷ []) wait_list) (is_empty-push entry_list t))))

  -- a thread takes a monitor, or enters it once more
  pub enter_takes : (t : ℕ) (records : Records) (vacant : Vec ℕ) → is_taken (thread_of r.owner) t ≡ false → get nat_eq records o ≡ Some (entered t r) → KeepsRecords (get nat_eq a.records) (get nat_eq records) o → hash_map_len records ≡ hash_map_len a.records + (if is_some (get nat_eq a.records o) then 0 else 1) → spare a.records ≤ spare records + 1 → vacant ≡ a.vacant → After a o (after_enter t (monitor_of (seen a) o)) (record a { records = records; vacant = vacant })
  enter_takes t records vacant taken now others size more same =
      let owner : Option Owner = Some (record { thread = t; count = count_of r.owner + 1 }) in
      with_vacant (after_enter t (monitor_of (seen a) o)) records vacant a.lists same
      (After-is a o (monitor owner entry_list wait_list) (after_enter t (monitor_of (seen a) o)) (record a { records = records })
      (sym (ap (λ (b : Bool). if b then monitor r.owner (entry_list ++ t ∷ []) wait_list else record { owner = Some t; count = count_of r.owner + 1; entry_list = entry_list; wait_list = wait_list }) taken)
      ∙ ap (after_enter t) (sym (in_use_is a o r was)))
      (owner_change records owner (now ∙ entered_by t false taken) others size more refl))

  -- a thread count_in up
  pub line_up_adds : (t : ℕ) (lists : Lists) → lists ≡ record a.lists { lists = push a.lists.lists (entry_list_of r.pair) (t ∷ []) } → After a o (after_line_up t (monitor_of (seen a) o)) (record a { lists = lists })
  line_up_adds t lists e =
      After-is a o (monitor r.owner (entry_list ++ t ∷ []) wait_list) (after_line_up t (monitor_of (seen a) o)) (record a { lists = lists }) (ap (after_line_up t) (sym (in_use_is a o r was)))
      (lists_change lists (record a.lists { lists = push a.lists.lists (entry_list_of r.pair) (t ∷ []) }) (entry_list ++ t ∷ []) wait_list e (pushed t) refl (used-entry_list (monitor r.owner (entry_list ++ t ∷ []) wait_list) (is_empty-push entry_list t)))

  -- a thread in line takes a monitor
  pub retake_takes : (t n : ℕ) (records : Records) (lists : Lists) → get nat_eq records o ≡ Some (record r { owner = Some (record { thread = t; count = n }) }) → KeepsRecords (get nat_eq a.records) (get nat_eq records) o → hash_map_len records ≡ hash_map_len a.records + (if is_some (get nat_eq a.records o) then 0 else 1) → spare a.records ≤ spare records + 1 → lists ≡ record a.lists { lists = set a.lists.lists (entry_list_of r.pair) (without t entry_list) } → After a o (after_retake t n (monitor_of (seen a) o)) (record a { records = records; lists = lists })
  retake_takes t n records lists now others size more e =
      After-is a o (monitor (Some (record { thread = t; count = n })) (without t entry_list) wait_list) (after_retake t n (monitor_of (seen a) o)) (record a { records = records; lists = lists }) (ap (after_retake t n) (sym (in_use_is a o r was)))
      (both_change records lists (record a.lists { lists = set a.lists.lists (entry_list_of r.pair) (without t entry_list) }) (Some (record { thread = t; count = n })) (without t entry_list) wait_list now others size more e
      (Paired-entry_list a.lists.lists a.lists.lists r.pair entry_list wait_list (without t entry_list) inside (Paired-same a.lists.lists r.pair)) refl refl)

  -- what is left of an owner that leaves once
  left_is : (owner : Option Owner) (t : ℕ) (again : Bool) → thread_of owner ≡ Some t → nat_lt 1 (count_of owner) ≡ again → option_and_then left_by owner ≡ (if again then Some (record { thread = t; count = count_of owner - 1 }) else None)
  left_is None t again owned e = absurd cc
  left_is (Some w) t again owned e =
      let same : w.thread ≡ t = cc in
      let some : ℕ → Option Owner = λ n. Some (record { thread = n; count = w.count - 1 }) in
      ap (λ (b : Bool). if b then some w.thread else None) e ∙ ap (λ n. if again then some n else None) same

  left_change : (records : Records) (t : ℕ) (again : Bool) → thread_of r.owner ≡ Some t → nat_lt 1 (count_of r.owner) ≡ again → get nat_eq records o ≡ Some (left r) → KeepsRecords (get nat_eq a.records) (get nat_eq records) o → hash_map_len records ≡ hash_map_len a.records → spare records ≡ spare a.records → is_free (monitor (if again then Some (record { thread = t; count = count_of r.owner - 1 }) else None) entry_list wait_list) ≡ false → After a o (monitor (if again then Some (record { thread = t; count = count_of r.owner - 1 }) else None) entry_list wait_list) (record a { records = records })
  left_change records t again owned e now others size room used =
      owner_change records (if again then Some (record { thread = t; count = count_of r.owner - 1 }) else None)
      (now ∙ ap (λ (owner : Option Owner). Some (record r { owner = owner })) (left_is r.owner t again owned e)) others
      (size ∙ sym (ap (λ x. hash_map_len a.records + (if is_some x then 0 else 1)) was ∙ add-zero (hash_map_len a.records))) (omega (arith, room)) used

  -- the owner leaves a monitor that it entered more than once
  pub exit_lowers : (t : ℕ) (records : Records) → thread_of r.owner ≡ Some t → nat_lt 1 (count_of r.owner) ≡ true → get nat_eq records o ≡ Some (left r) → KeepsRecords (get nat_eq a.records) (get nat_eq records) o → hash_map_len records ≡ hash_map_len a.records → spare records ≡ spare a.records → After a o (after_exit (monitor_of (seen a) o)) (record a { records = records })
  exit_lowers t records owned again now others size room =
      After-is a o (monitor (Some (record { thread = t; count = count_of r.owner - 1 })) entry_list wait_list) (after_exit (monitor_of (seen a) o)) (record a { records = records })
      (ap (λ x. record { owner = x; count = count_of r.owner - 1; entry_list = entry_list; wait_list = wait_list }) (sym owned)
      ∙ sym (ap (λ (b : Bool). if b then record { owner = thread_of r.owner; count = count_of r.owner - 1; entry_list = entry_list; wait_list = wait_list } else record { owner = None; count = 0; entry_list = entry_list; wait_list = wait_list }) again)
      ∙ ap after_exit (sym (in_use_is a o r was)))
      (left_change records t true owned again now others size room refl)

  exits : nat_lt 1 (count_of r.owner) ≡ false → record { owner = None; count = 0; entry_list = entry_list; wait_list = wait_list } ≡ after_exit (monitor_of (seen a) o)
  exits once =
      sym (ap (λ (b : Bool). if b then record { owner = thread_of r.owner; count = count_of r.owner - 1; entry_list = entry_list; wait_list = wait_list } else record { owner = None; count = 0; entry_list = entry_list; wait_list = wait_list }) once)
      ∙ ap after_exit (sym (in_use_is a o r was))

  -- it leaves one for which others wait
  pub exit_leaves : (t : ℕ) (records : Records) → thread_of r.owner ≡ Some t → nat_lt 1 (count_of r.owner) ≡ false → is_empty entry_list && is_empty wait_list ≡ false → get nat_eq records o ≡ Some (left r) → KeepsRecords (get nat_eq a.records) (get nat_eq records) o → hash_map_len records ≡ hash_map_len a.records → spare records ≡ spare a.records → After a o (after_exit (monitor_of (seen a) o)) (record a { records = records })
  exit_leaves t records owned once lined now others size room =
      After-is a o (monitor None entry_list wait_list) (after_exit (monitor_of (seen a) o)) (record a { records = records }) (exits once) (left_change records t false owned once now others size room lined)

  -- it leaves one for which nobody waits
  pub exit_closes : (between records : Records) (vacant : Vec ℕ) → nat_lt 1 (count_of r.owner) ≡ false → is_empty entry_list && is_empty wait_list ≡ true
      → get nat_eq between o ≡ Some (left r) → KeepsRecords (get nat_eq a.records) (get nat_eq between) o → hash_map_len between ≡ hash_map_len a.records → spare between ≡ spare a.records
      → get nat_eq records o ≡ None → KeepsRecords (get nat_eq between) (get nat_eq records) o → hash_map_len records + (if is_some (get nat_eq between o) then 1 else 0) ≡ hash_map_len between → spare between ≤ spare records
      → vacant.items ≡ a.vacant.items ++ r.pair ∷ [] → vec_len vacant ≡ vec_len a.vacant + 1 → vec_capacity vacant ≡ vec_capacity a.vacant → After a o (after_exit (monitor_of (seen a) o)) (record a { records = records; vacant = vacant })
  exit_closes between records vacant once deserted left_now left_others left_size left_room now others size more items len capacity =
      let none = empty_first entry_list wait_list deserted in
      let nobody = empty_second entry_list wait_list deserted in
      After-is a o free (after_exit (monitor_of (seen a) o)) (record a { records = records; vacant = vacant })
      (sym (ap (λ xs. record { owner = None; count = 0; entry_list = xs; wait_list = wait_list }) none ∙ ap (λ xs. record { owner = None; count = 0; entry_list = []; wait_list = xs }) nobody) ∙ exits once)
      (After-close a (record a { records = records; vacant = vacant }) kept o r was now (λ p ne. others p ne ∙ left_others p ne)
      (sym (ap (λ x. hash_map_len records + (if is_some x then 1 else 0)) left_now) ∙ size ∙ left_size) (omega (arith, more, left_room)) items len capacity refl refl none nobody)

  -- the owner leaves a monitor wholly and waits
  pub wait_leaves : (t : ℕ) (records : Records) (lists : Lists) → get nat_eq records o ≡ Some (record r { owner = None }) → KeepsRecords (get nat_eq a.records) (get nat_eq records) o → hash_map_len records ≡ hash_map_len a.records + (if is_some (get nat_eq a.records o) then 0 else 1) → spare a.records ≤ spare records + 1 → lists ≡ record a.lists { lists = push a.lists.lists (wait_list_of r.pair) (t ∷ []) } → After a o (after_wait t (monitor_of (seen a) o)) (record a { records = records; lists = lists })
  wait_leaves t records lists now others size more e =
      After-is a o (monitor None entry_list (wait_list ++ t ∷ [])) (after_wait t (monitor_of (seen a) o)) (record a { records = records; lists = lists }) (ap (after_wait t) (sym (in_use_is a o r was)))
      (both_change records lists (record a.lists { lists = push a.lists.lists (wait_list_of r.pair) (t ∷ []) }) None entry_list (wait_list ++ t ∷ []) now others size more e
      (Paired-wait a.lists.lists a.lists.lists r.pair entry_list wait_list (t ∷ []) inside (Paired-same a.lists.lists r.pair)) refl (used-wait_list (monitor None entry_list (wait_list ++ t ∷ [])) (is_empty-push wait_list t)))

  -- the first that waits count_in up
  pub notify_moves : (w : ℕ) (lists : Lists) → slice_get wait_list 0 ≡ Some w → count w wait_list ≤ 1 → lists ≡ record a.lists { lists = push (set a.lists.lists (wait_list_of r.pair) (without w wait_list)) (entry_list_of r.pair) (w ∷ []) } → After a o (after_notify (monitor_of (seen a) o)) (record a { lists = lists })
  notify_moves w lists first once e =
      After-is a o (monitor r.owner (entry_list ++ w ∷ []) (without w wait_list)) (after_notify (monitor_of (seen a) o)) (record a { lists = lists })
      (ap (λ xs. monitor r.owner (entry_list ++ w ∷ []) xs) (without-first wait_list w first once)
      ∙ ap (λ xs. monitor r.owner (entry_list ++ xs) (drop 1 wait_list)) (sym (begins wait_list w first))
      ∙ ap after_notify (sym (in_use_is a o r was)))
      (lists_change lists (record a.lists { lists = push (set a.lists.lists (wait_list_of r.pair) (without w wait_list)) (entry_list_of r.pair) (w ∷ []) }) (entry_list ++ w ∷ []) (without w wait_list) e (moved w) refl (used-entry_list (monitor r.owner (entry_list ++ w ∷ []) (without w wait_list)) (is_empty-push entry_list w)))

  -- nobody waits
  pub notify_none : slice_get wait_list 0 ≡ None → After a o (after_notify (monitor_of (seen a) o)) a
  notify_none first =
      let none = begins_not wait_list first in
      After-is a o (monitor_of (seen a) o) (after_notify (monitor_of (seen a) o)) a
      (in_use_is a o r was
      ∙ ap (λ xs. monitor r.owner xs wait_list) (sym (append-nil entry_list))
      ∙ ap (λ xs. monitor r.owner (entry_list ++ []) xs) none
      ∙ sym (ap (λ xs. monitor r.owner (entry_list ++ take 1 xs) (drop 1 xs)) none)
      ∙ ap after_notify (sym (in_use_is a o r was)))
      (After-same a o kept)

  -- all that wait line up
  pub notify_all_moves : (t : ℕ) (lists : Lists) → thread_of r.owner ≡ Some t → lists ≡ record a.lists { lists = append a.lists.lists (wait_list_of r.pair) (entry_list_of r.pair) } → After a o (after_notify_all (monitor_of (seen a) o)) (record a { lists = lists })
  notify_all_moves t lists owned e =
      After-is a o (monitor r.owner (entry_list ++ wait_list) []) (after_notify_all (monitor_of (seen a) o)) (record a { lists = lists }) (ap after_notify_all (sym (in_use_is a o r was)))
      (lists_change lists (record a.lists { lists = append a.lists.lists (wait_list_of r.pair) (entry_list_of r.pair) }) (entry_list ++ wait_list) [] e
      (Paired-wait_list a.lists.lists (push a.lists.lists (entry_list_of r.pair) wait_list) r.pair (entry_list ++ wait_list) wait_list [] inside
      (Paired-push a.lists.lists a.lists.lists r.pair entry_list wait_list wait_list inside (Paired-same a.lists.lists r.pair)))
      refl (used-owner (monitor r.owner (entry_list ++ wait_list) []) t owned))

  -- a thread that waits count_in up
  pub leave_wait_moves : (t : ℕ) (lists : Lists) → lists ≡ record a.lists { lists = push (set a.lists.lists (wait_list_of r.pair) (without t wait_list)) (entry_list_of r.pair) (t ∷ []) } → After a o (after_leave_wait t (monitor_of (seen a) o)) (record a { lists = lists })
  leave_wait_moves t lists e =
      After-is a o (monitor r.owner (entry_list ++ t ∷ []) (without t wait_list)) (after_leave_wait t (monitor_of (seen a) o)) (record a { lists = lists }) (ap (after_leave_wait t) (sym (in_use_is a o r was)))
      (lists_change lists (record a.lists { lists = push (set a.lists.lists (wait_list_of r.pair) (without t wait_list)) (entry_list_of r.pair) (t ∷ []) }) (entry_list ++ t ∷ []) (without t wait_list) e (moved t) refl (used-entry_list (monitor r.owner (entry_list ++ t ∷ []) (without t wait_list)) (is_empty-push entry_list t)))

-- a monitor that is free
module _ (a : Inside) (kept : IsConsistent a) (o pair : ℕ) (was : get nat_eq a.records o ≡ None) (vacant : Vec ℕ) (taken : a.vacant.items ≡ vacant.items ++ pair ∷ []) (len : vec_len a.vacant ≡ vec_len vacant + 1) (capacity : vec_capacity vacant ≡ vec_capacity a.vacant) where
  vacant_held : 0 < count pair a.vacant.items
  vacant_held = omega (arith, ap (count pair) taken, count-append pair vacant.items (pair ∷ []), count-same pair [])

  pub pair_inside : wait_list_of pair < length a.lists.lists
  pair_inside = kept.fits.vacant_inside pair vacant_held

  nothing : Paired a.lists.lists a.lists.lists pair [] []
  nothing =
      record { size = refl; keeps = λ k ne nw. refl; entry_list_is = kept.fits.vacant_entry_list pair vacant_held; wait_list_is = kept.fits.vacant_wait_list pair vacant_held }

  -- a thread takes it
  pub enter_opens : (t : ℕ) (records : Records) → get nat_eq records o ≡ Some (record { owner = Some (record { thread = t; count = 1 }); pair = pair }) → KeepsRecords (get nat_eq a.records) (get nat_eq records) o → hash_map_len records ≡ hash_map_len a.records + (if is_some (get nat_eq a.records o) then 0 else 1) → spare a.records ≤ spare records + 1 → After a o (after_enter t (monitor_of (seen a) o)) (record a { records = records; vacant = vacant })
  enter_opens t records now others size more =
      After-is a o (record { owner = Some t; count = 1; entry_list = []; wait_list = [] }) (after_enter t (monitor_of (seen a) o)) (record a { records = records; vacant = vacant }) (ap (after_enter t) (sym (unused_is a o was)))
      (After-open a (record a { records = records; vacant = vacant }) kept o pair was taken [] [] nothing (Some (record { thread = t; count = 1 })) now others (size ∙ ap (λ x. hash_map_len a.records + (if is_some x then 0 else 1)) was) more len capacity refl refl refl)

  -- a thread count_in up
  pub line_up_opens : (t : ℕ) (records : Records) (lists : Lists) → get nat_eq records o ≡ Some (record { owner = None; pair = pair }) → KeepsRecords (get nat_eq a.records) (get nat_eq records) o → hash_map_len records ≡ hash_map_len a.records + (if is_some (get nat_eq a.records o) then 0 else 1) → spare a.records ≤ spare records + 1 → lists ≡ record a.lists { lists = push a.lists.lists (entry_list_of pair) (t ∷ []) } → After a o (after_line_up t (monitor_of (seen a) o)) (record a { records = records; vacant = vacant; lists = lists })
  line_up_opens t records lists now others size more e =
      subst (λ (ls : Lists). After a o (after_line_up t (monitor_of (seen a) o)) (record a { records = records; vacant = vacant; lists = ls })) (sym e)
      (After-is a o (record { owner = None; count = 0; entry_list = t ∷ []; wait_list = [] }) (after_line_up t (monitor_of (seen a) o)) (record a { records = records; vacant = vacant; lists = record a.lists { lists = push a.lists.lists (entry_list_of pair) (t ∷ []) } }) (ap (after_line_up t) (sym (unused_is a o was)))
      (After-open a (record a { records = records; vacant = vacant; lists = record a.lists { lists = push a.lists.lists (entry_list_of pair) (t ∷ []) } }) kept o pair was taken (t ∷ []) []
      (Paired-push a.lists.lists a.lists.lists pair [] [] (t ∷ []) pair_inside nothing) None now others (size ∙ ap (λ x. hash_map_len a.records + (if is_some x then 0 else 1)) was) more len capacity refl refl refl))

-- a thread that is in a list of a monitor: that is in use
pub in_line_used : (a : Inside) (o t : ℕ) → get nat_eq a.records o ≡ None → IsInLine t (monitor_of (seen a) o) → ⊥
in_line_used a o t none h = let w : 0 < count t [] = subst (IsInLine t) (unused_is a o none) h in omega (arith, w)

pub waiting_used : (a : Inside) (o t : ℕ) → get nat_eq a.records o ≡ None → IsWaiting t (monitor_of (seen a) o) → ⊥
waiting_used a o t none h = let w : 0 < count t [] = subst (IsWaiting t) (unused_is a o none) h in omega (arith, w)

-- a count that a thread may raise
pub count_fits : (a : Inside) (o : ℕ) → (monitor_of (seen a) o).count + 1 < 4294967296 → IfSome (get nat_eq a.records o) (λ (r : Record). count_of r.owner + 1 < 4294967296)
count_fits a o h = by (get nat_eq a.records o) refl
  where
    by : (x : Option Record) → get nat_eq a.records o ≡ x → IfSome x (λ (r : Record). count_of r.owner + 1 < 4294967296)
    by None i = tt
    by (Some r) i = subst (λ (m : Monitor). m.count + 1 < 4294967296) (in_use_is a o r i) h

-- the same entries
pub same_entries : (a : Inside) (records : Records) → IsConsistent a → records.entries ≡ a.records.entries → IsConsistent (record a { records = records })
same_entries a records kept e =
    record {
      fits = subst (λ (es : List (ℕ × Record)). Fits (λ o. lookup (nat_eq o) es) a.vacant.items a.lists.lists) (sym e) kept.fits;
      pairs = kept.pairs;
      capacity = kept.capacity;
      whole = omega (arith, kept.whole, ap (λ (es : List (ℕ × Record)). length es) e);
    }

pub same_seen : (a : Inside) (records : Records) → records.entries ≡ a.records.entries → spare records ≡ spare a.records → seen (record a { records = records }) ≡ seen a
same_seen a records e room =
    ap (λ (es : List (ℕ × Record)). record { used = map (λ (x : ℕ × Record). (x.0, known a.lists.lists x.1)) es; threads = a.lists.threads; spare = min (spare records) (vec_len a.vacant) }) e
    ∙ ap (λ n. record { used = map (λ (x : ℕ × Record). (x.0, known a.lists.lists x.1)) a.records.entries; threads = a.lists.threads; spare = min n (vec_len a.vacant) }) room

-- a call by a thread that isn't the owner
pub by_other : (a : Inside) (o t : ℕ) (owner : Option ℕ) → owner ≡ option_and_then (λ (r : Record). thread_of r.owner) (get nat_eq a.records o) → (owner ≡ Some t → ⊥) → (owner ≡ (monitor_of (seen a) o).owner) × ((monitor_of (seen a) o).owner ≡ Some t → ⊥)
by_other a o t owner e other =
    let same = e ∙ owner_is (get nat_eq a.records o) refl in
    (same, λ i. other (same ∙ i))
  where
    owner_is : (x : Option Record) → get nat_eq a.records o ≡ x → option_and_then (λ (r : Record). thread_of r.owner) x ≡ (monitor_of (seen a) o).owner
    owner_is None i = sym (ap (λ (m : Monitor). m.owner) (unused_is a o i))
    owner_is (Some r) i = sym (ap (λ (m : Monitor). m.owner) (in_use_is a o r i))

pub is_none_of : (owner : Option Owner) → is_none (thread_of owner) ≡ not (is_some owner)
is_none_of None = refl
is_none_of (Some owner) = refl

-- a thread moves from one list to another, by the numbers of the lists
pub move_is : (lists : Lists) (t i i' j j' : ℕ) → i ≡ i' → j ≡ j' → record lists { lists = push (set lists.lists i (without t (list_at lists.lists i))) j (t ∷ []) } ≡ record lists { lists = push (set lists.lists i' (without t (list_at lists.lists i'))) j' (t ∷ []) }
move_is lists t i i' j j' e f =
    ap (λ k. record lists { lists = push (set lists.lists k (without t (list_at lists.lists k))) j (t ∷ []) }) e
    ∙ ap (λ k. record lists { lists = push (set lists.lists i' (without t (list_at lists.lists i'))) k (t ∷ []) }) f

pub append_is : (lists : Lists) (i i' j j' : ℕ) → i ≡ i' → j ≡ j' → record lists { lists = append lists.lists i j } ≡ record lists { lists = append lists.lists i' j' }
append_is lists i i' j j' e f =
    ap (λ k. record lists { lists = append lists.lists k j }) e ∙ ap (λ k. record lists { lists = append lists.lists i' k }) f

-- there is room among the vacant pairs for one that is in use
pub vacant_has_room : (a : Inside) → IsConsistent a → (o : ℕ) (r : Record) → get nat_eq a.records o ≡ Some r → vec_len a.vacant < vec_capacity a.vacant
vacant_has_room a kept o r was =
    let le = length-le (a.vacant.items ++ r.pair ∷ []) a.pairs once within in
    omega (arith, le, length-append a.vacant.items (r.pair ∷ []), a.vacant.ok.0, kept.capacity)
  where
    after : (pair : ℕ) → count pair (a.vacant.items ++ r.pair ∷ []) ≡ count pair a.vacant.items + count pair (r.pair ∷ [])
    after pair = count-append pair a.vacant.items (r.pair ∷ [])

    once : (pair : ℕ) → count pair (a.vacant.items ++ r.pair ∷ []) ≤ 1
    once pair =
        elim (cases_eq pair r.pair) [
          | inl e ↦ subst (λ s. count s (a.vacant.items ++ r.pair ∷ []) ≤ 1) (sym e) (omega (arith, after r.pair, count-same r.pair [], kept.fits.vacant_apart o r was))
          | inr ne ↦ omega (arith, after pair, count-other pair r.pair [] (λ e. ne (sym e)), kept.fits.vacant_once pair)
        ]

    within : (pair : ℕ) → a.pairs ≤ pair → count pair (a.vacant.items ++ r.pair ∷ []) ≡ 0
    within pair le =
        let here : r.pair ≡ pair → ⊥ = λ e. omega (arith, kept.fits.inside o r was, kept.pairs) in
        elim (cases_lt 0 (count pair a.vacant.items)) [
          | inl h ↦ absurd (omega (arith, kept.fits.vacant_inside pair h, kept.pairs))
          | inr z ↦ omega (arith, after pair, count-other pair r.pair [] here, z)
        ]

-- whether a thread is in a list of a monitor
pub holds_is : (a : Inside) → IsConsistent a → (t : ℕ) (holds : Bool) → holds ≡ not (total (count t) a.lists.lists == 0) → (holds ≡ false) ↔ InNoList (seen a) t
holds_is a kept t holds e = (
  λ h. λ o. in_none (no_total h) o (get nat_eq a.records o) refl,
  λ none. e ∙ ap not (eq-eqb (total (count t) a.lists.lists) 0 (free_thread a kept t none)),
)
  where
    no_total : holds ≡ false → total (count t) a.lists.lists ≡ 0
    no_total h = grind (arith, nat_tests)

    in_none : total (count t) a.lists.lists ≡ 0 → (o : ℕ) (x : Option Record) → get nat_eq a.records o ≡ x → count_in t (monitor_of (seen a) o) ≡ 0
    in_none zero_of o None i = ap (count_in t) (unused_is a o i)
    in_none zero_of o (Some r) i =
        let inside = kept.fits.inside o r i in
        ap (count_in t) (in_use_is a o r i) ∙ omega (arith, zero_of, total-le t a.lists.lists (entry_list_of r.pair) (omega (arith, inside)), total-le t a.lists.lists (wait_list_of r.pair) inside)

-- How monitors are kept: those in use have a record, and each record has a pair of lists of threads, by its number.
use Rattle.std.specs.Prelude.{◌≡◌, ◌≤◌, ◌<◌, ◌+◌, ◌-◌, ◌*◌, ◌⊎◌, ℕ, false, List, [], ◌∷◌, ◌++◌, Option, None, Some, length, map, min, nat_eq, nat_lt, vec_len, if◌then◌else◌}
use Rattle.std.specs.HashMap.{get, hash_map_len, spare}
use Rattle.std.specs.Option.{option_and_then}
use Rattle.std.specs.Vec.{vec_capacity}
use Rattle.monitors.specs.declared.records.Owner.{Owner}
use Rattle.monitors.specs.declared.records.Record.{Record}
use Rattle.monitors.specs.declared.monitors.Monitors.TheInside.{Inside}
use Rattle.std.specs.Global.{Vec}
use Rattle.thread_lists.specs.Lists.{Lists, count, list_at}
use Rattle.monitors.specs.Monitors.{Monitor, Monitors, is_free, is_taken}

-- the entry list and the wait list of a pair
abbrev pub entry_list_of : ℕ → ℕ
entry_list_of pair = 2 * pair

abbrev pub wait_list_of : ℕ → ℕ
wait_list_of pair = 2 * pair + 1

-- the owning thread, and how often that entered the monitor
abbrev pub thread_of : Option Owner → Option ℕ
thread_of None = None
thread_of (Some owner) = Some owner.thread

abbrev pub count_of : Option Owner → ℕ
count_of None = 0
count_of (Some owner) = owner.count

-- a record after a thread enters its monitor
abbrev pub entered : ℕ → Record → Record
entered t r =
    if is_taken (thread_of r.owner) t then r
    else record r { owner = Some (record { thread = t; count = count_of r.owner + 1 }) }

-- an owner after it leaves once, where it still owns the monitor
abbrev pub left_by : Owner → Option Owner
left_by owner = if nat_lt 1 owner.count then Some (record owner { count = owner.count - 1 }) else None

-- a record after its owner leaves its monitor once
abbrev pub left : Record → Record
left r = record r { owner = option_and_then left_by r.owner }

-- the monitor that a record stands for
abbrev pub known : List (List ℕ) → Record → Monitor
known lists r =
    record {
      owner = thread_of r.owner;
      count = count_of r.owner;
      entry_list = list_at lists (entry_list_of r.pair);
      wait_list = list_at lists (wait_list_of r.pair);
    }

-- what contracts see
abbrev pub seen : Inside → Monitors
seen a =
    record {
      used = map (λ (e : ℕ × Record). (e.0, known a.lists.lists e.1)) a.records.entries;
      threads = a.lists.threads;
      spare = min (spare a.records) (vec_len a.vacant);
    }

-- a list is one of a record's
pub record IsUsed (records : ℕ → Option Record) (k : ℕ) : Type 0 where
  pub object : ℕ
  pub found : Record
  pub here : records object ≡ Some found
  pub list : (k ≡ entry_list_of found.pair) ⊎ (k ≡ wait_list_of found.pair)

-- no pair is two records', or one's and vacant; the lists of a vacant pair are empty; no record is of a monitor that is free
pub record Fits (records : ℕ → Option Record) (vacant : List ℕ) (lists : List (List ℕ)) : Type 0 where
  pub inside : (o : ℕ) (r : Record) → records o ≡ Some r → wait_list_of r.pair < length lists
  pub apart : (o p : ℕ) (r q : Record) → records o ≡ Some r → records p ≡ Some q → r.pair ≡ q.pair → o ≡ p
  pub vacant_inside : (pair : ℕ) → 0 < count pair vacant → wait_list_of pair < length lists
  pub vacant_once : (pair : ℕ) → count pair vacant ≤ 1
  pub vacant_apart : (o : ℕ) (r : Record) → records o ≡ Some r → count r.pair vacant ≡ 0
  pub vacant_entry_list : (pair : ℕ) → 0 < count pair vacant → list_at lists (entry_list_of pair) ≡ []
  pub vacant_wait_list : (pair : ℕ) → 0 < count pair vacant → list_at lists (wait_list_of pair) ≡ []
  pub used : (k t : ℕ) → k < length lists → 0 < count t (list_at lists k) → IsUsed records k
  pub in_use : (o : ℕ) (r : Record) → records o ≡ Some r → is_free (known lists r) ≡ false

-- no pair is lost: each is one record's or vacant
pub record IsConsistent (a : Inside) : Type 0 where
  pub fits : Fits (get nat_eq a.records) a.vacant.items a.lists.lists
  pub pairs : 2 * a.pairs ≡ length a.lists.lists
  pub capacity : a.pairs ≤ vec_capacity a.vacant
  pub whole : hash_map_len a.records + vec_len a.vacant ≡ a.pairs

-- a new record has the last vacant pair, and this thread as its owner
pub record OpensPair (new : Option Record) (t : ℕ) (vacant vacant' : Vec ℕ) : Type 0 where
  pub pair : ℕ
  pub now : new ≡ Some (record { owner = Some (record { thread = t; count = 1 }); pair = pair })
  pub items : vacant.items ≡ vacant'.items ++ pair ∷ []
  pub len : vec_len vacant ≡ vec_len vacant' + 1
  pub capacity : vec_capacity vacant' ≡ vec_capacity vacant

-- from n pairs on more were made, which are vacant, up to n', and all else stays
pub record Grows (vacant : Vec ℕ) (n : ℕ) (lists : Lists) (vacant' : Vec ℕ) (n' : ℕ) (lists' : Lists) : Type 0 where
  pub fits : (records : ℕ → Option Record) → Fits records vacant.items lists.lists → Fits records vacant'.items lists'.lists
  pub pairs : 2 * n' ≡ length lists'.lists
  pub capacity : n' ≤ vec_capacity vacant'
  pub keeps : (k : ℕ) → k < length lists.lists → list_at lists'.lists k ≡ list_at lists.lists k
  pub longer : length lists.lists ≤ length lists'.lists
  pub threads : lists'.threads ≡ lists.threads
  pub len : n + vec_len vacant' ≡ n' + vec_len vacant
  pub more : n ≤ n'

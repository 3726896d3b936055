-- What an entry puts into the lists of monitors and into the deque of its carrier, and in which order.
use Rattle.std.specs.Prelude.{ℕ, ◌==◌, ◌&&◌, ◌||◌, ◌++◌, Bool, true, false, List, [], ◌∷◌, Option, None, Some, if◌then◌else◌, filter, nat_lt, not}
use Rattle.std.specs.List.{range_with_len}
use Rattle.thread_lists.specs.Lists.{count, push}
use Rattle.schedule_model.specs.Look.{Look, Spot, in_entry_list, is_live, is_entering, is_in_line, is_in_wait_list, is_waiting}
use Rattle.schedule_model.specs.Schedule.{Schedule, places}

-- ---- orders

abbrev pub all_threads : Look → List ℕ
all_threads l = range_with_len 0 l.threads

-- one deadline is before another, where no deadline is after all deadlines, and equal ones are as the flag says
abbrev pub is_before : Option ℕ → Option ℕ → Bool → Bool
is_before None None equal = equal
is_before None (Some b) equal = false
is_before (Some a) None equal = true
is_before (Some a) (Some b) equal = nat_lt a b || ((a == b) && equal)

-- a thread comes before another by its deadline, then by its number
abbrev pub is_earlier : Look → ℕ → ℕ → Bool
is_earlier l t u = is_before (l.deadline t) (l.deadline u) (nat_lt t u)

-- a thread at its place among others that are in order
abbrev pub insert_by_deadline : Look → ℕ → List ℕ → List ℕ
insert_by_deadline l t [] = t ∷ []
insert_by_deadline l t (u ∷ us) = if is_earlier l t u then t ∷ u ∷ us else u ∷ insert_by_deadline l t us

abbrev pub sort_by_deadline : Look → List ℕ → List ℕ
sort_by_deadline l [] = []
sort_by_deadline l (t ∷ ts) = insert_by_deadline l t (sort_by_deadline l ts)

-- all threads by their deadlines before the entry, those without one last
abbrev pub by_deadline : Look → Look → List ℕ
by_deadline before after = sort_by_deadline before (all_threads after)

-- all threads: first these, in their order, then the others by number
abbrev pub beginning_with : List ℕ → Look → List ℕ
beginning_with first l = first ++ filter (λ t. count t first == 0) (all_threads l)

-- ---- the lists of monitors

-- A list after an entry: those who stay in it, then those who come to it, in this order.
abbrev pub updated_list : (Spot → Bool) → Look → Look → List ℕ → List ℕ → List ℕ
updated_list belongs before after order list =
    filter (λ t. belongs (after.spot t)) list ++
    filter (λ t. belongs (after.spot t) && not (belongs (before.spot t))) order

-- ---- the deque: who is put into it, of those that are in no place

-- the entry started it
abbrev pub is_started : Spot → Spot → Bool
is_started before after = not (is_live before) && is_live after

-- the entry made it enabled, and it isn't in line
abbrev pub is_made_enabled : Look → Look → ℕ → Bool
is_made_enabled before after t = not (before.enabled t) && (after.enabled t && not (is_in_line (after.spot t)))

-- it is in line for a monitor that nobody owns
abbrev pub is_at_free : Look → Spot → Bool
is_at_free l (in_entry_list o) = not (l.owned o)
is_at_free l spot = false

-- its wait ended while nobody owns the monitor that it has to take again
abbrev pub is_moved_to_free : Look → Spot → Spot → Bool
is_moved_to_free after old new = is_in_wait_list old && is_at_free after new

abbrev pub is_first : List ℕ → ℕ → Bool
is_first [] t = false
is_first (u ∷ us) t = u == t

-- it is the first in line for a monitor that lost its owner
abbrev pub is_next_in_line : Look → Look → (ℕ → List ℕ) → ℕ → Spot → Bool
is_next_in_line before after entry_list t (in_entry_list o) = before.owned o && (not (after.owned o) && is_first (entry_list o) t)
is_next_in_line before after entry_list t spot = false

abbrev pub is_to_run : Look → Look → (ℕ → List ℕ) → ℕ → Bool
is_to_run before after entry_list t =
    is_started (before.spot t) (after.spot t)
    || (is_made_enabled before after t
    || (is_moved_to_free after (before.spot t) (after.spot t) || is_next_in_line before after entry_list t (after.spot t)))

-- the threads that an entry puts into a deque, in this order
abbrev pub put_by : Look → Look → (ℕ → List ℕ) → Schedule → List ℕ → List ℕ
put_by before after entry_list s order = filter (λ t. is_to_run before after entry_list t && (places t s == 0)) order

-- What every step and every tick of time does to lists and deques: `order` says in which order threads are put into the deque of
-- carrier c, and `coming o` in which order they come to the lists of monitor o.
abbrev pub after_change : Look → Look → ℕ → List ℕ → (ℕ → List ℕ) → Schedule → Schedule
after_change before after c order coming s =
    let waits : ℕ → List ℕ = λ o. updated_list (is_waiting o) before after (coming o) (s.wait_list o) in
    let enters : ℕ → List ℕ = λ o. updated_list (is_entering o) before after (coming o) (s.entry_list o) in
    record s {
      deques = push s.deques c (put_by before after enters s order);
      wait_list = waits;
      entry_list = enters;
      was_off = λ t. s.was_off t || not (after.enabled t);
      last = Some c;
    }

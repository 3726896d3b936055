-- Lists as rings of places.
use Rattle.std.specs.Prelude.{◌≡◌, ◌<◌, ◌≤◌, ◌^◌, ℕ, zero, suc, List, [], ◌∷◌, length, map, slice_index_or}
use Rattle.thread_lists.specs.declared.ring.Place.{Place}
use Rattle.thread_lists.specs.declared.ring.Place.TheVariants.{Head, Thread}
use Rattle.thread_lists.specs.declared.ring.Link.{Link}
use Rattle.thread_lists.specs.Lists.{list_at, count, total}

-- a ring of one place
abbrev pub ring_of_one : Place → Link
ring_of_one p = record { next = p; previous = p }

-- the neighbours of a place
abbrev pub link_of : List Link → List Link → Place → Link
link_of heads threads (Head k) = slice_index_or heads k (ring_of_one (Head k))
link_of heads threads (Thread t) = slice_index_or threads t (ring_of_one (Thread t))

abbrev pub next_of : List Link → List Link → Place → Place
next_of heads threads p = (link_of heads threads p).next

abbrev pub previous_of : List Link → List Link → Place → Place
previous_of heads threads p = (link_of heads threads p).previous

abbrev pub IsPlace : List Link → List Link → Place → Type 0
IsPlace heads threads (Head k) = k < length heads
IsPlace heads threads (Thread t) = t < length threads

-- one place leads to another; all else stays
pub record SetsNext (heads threads heads' threads' : List Link) (p to : Place) : Type 0 where
  pub next : next_of heads' threads' p ≡ to
  pub others : (q : Place) → (q ≡ p → ⊥) → next_of heads' threads' q ≡ next_of heads threads q
  pub previous : (q : Place) → previous_of heads' threads' q ≡ previous_of heads threads q

pub record SetsPrevious (heads threads heads' threads' : List Link) (p to : Place) : Type 0 where
  pub previous : previous_of heads' threads' p ≡ to
  pub others : (q : Place) → (q ≡ p → ⊥) → previous_of heads' threads' q ≡ previous_of heads threads q
  pub next : (q : Place) → next_of heads' threads' q ≡ next_of heads threads q

-- place b follows place a; all else stays (f and g are `next` and `previous` before, f' and g' after)
pub record Follows (f g f' g' : Place → Place) (a b : Place) : Type 0 where
  pub next : f' a ≡ b
  pub previous : g' b ≡ a
  pub other_next : (q : Place) → (q ≡ a → ⊥) → f' q ≡ f q
  pub other_previous : (q : Place) → (q ≡ b → ⊥) → g' q ≡ g q

abbrev pub Joined : List Link → List Link → List Link → List Link → Place → Place → Type 0
Joined heads threads heads' threads' a b =
    Follows (next_of heads threads) (previous_of heads threads) (next_of heads' threads') (previous_of heads' threads') a b

-- from place a `next` leads by these threads to place b, and `previous` leads back
abbrev pub Leads : (Place → Place) → (Place → Place) → Place → List ℕ → Place → Type 0
Leads next previous a [] b = (next a ≡ b) × (previous b ≡ a)
Leads next previous a (x ∷ xs) b = (next a ≡ Thread x) × (previous (Thread x) ≡ a) × Leads next previous (Thread x) xs b

-- the place in front of these threads of list k, where its head comes after the last
abbrev pub start_of : ℕ → List ℕ → Place
start_of k [] = Head k
start_of k (t ∷ ts) = Thread t

-- at most n threads from a place on, up to the next head
abbrev pub threads_from : (Place → Place) → ℕ → Place → List ℕ
threads_from next zero p = []
threads_from next (suc n) (Head k) = []
threads_from next (suc n) (Thread t) = t ∷ threads_from next n (next (Thread t))

-- the lists that the links spell
abbrev pub spelled : List Link → List Link → List (List ℕ)
spelled heads threads = map (λ head. threads_from (next_of heads threads) (length threads) head.next) heads

-- the links of each list are a ring, a thread is in at most one list, and numbers have 32 bits
pub record Spells (heads threads : List Link) (lists : List (List ℕ)) : Type 0 where
  pub sizes : length lists ≡ length heads
  pub rings : (k : ℕ) → k < length heads → Leads (next_of heads threads) (previous_of heads threads) (Head k) (list_at lists k) (Head k)
  pub once : (t : ℕ) → total (count t) lists ≤ 1
  pub within : (t : ℕ) → length threads ≤ t → total (count t) lists ≡ 0
  pub outside : (t : ℕ) → total (count t) lists ≡ 0 → next_of heads threads (Thread t) ≡ Thread t
  pub few : length threads < 2 ^ 32
  pub few_lists : length heads ≤ 2 ^ 32

abbrev pub IsLinked : List Link → List Link → Type 0
IsLinked heads threads = Spells heads threads (spelled heads threads)

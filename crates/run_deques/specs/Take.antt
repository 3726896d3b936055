-- Which thread a carrier takes.
use Rattle.std.specs.Prelude.{ℕ, suc, List, [], ◌∷◌, Option, Some, None, drop, take}
use Rattle.thread_lists.specs.Lists.{drop_first}

-- the first thread of the first of these deques that isn't empty, with the deque's number; they are numbered from k on
abbrev pub front : ℕ → List (List ℕ) → Option (ℕ × ℕ)
front k [] = None
front k ([] ∷ deques) = front (suc k) deques
front k ((t ∷ ts) ∷ deques) = Some (k, t)

abbrev pub or : Option (ℕ × ℕ) → Option (ℕ × ℕ) → Option (ℕ × ℕ)
or (Some x) other = Some x
or None other = other

-- what carrier c takes next: the first of its own deque, else of the next deque that isn't empty, counting up from c and round
abbrev pub next : List (List ℕ) → ℕ → Option (ℕ × ℕ)
next deques c = or (front c (drop c deques)) (front 0 (take c deques))

-- the deques after a take that gave this
abbrev pub after_take : List (List ℕ) → Option (ℕ × ℕ) → List (List ℕ)
after_take deques None = deques
after_take deques (Some found) = drop_first deques found.0

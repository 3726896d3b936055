-- Lists of numbers by number.
use Rattle.std.specs.Prelude.{◌==◌, ℕ, List, [], ◌++◌, Option, count_by, drop, filter, not, slice_get, slice_index_or, slice_set, sum_by}

-- what contracts see: the lists by number, each from its first thread on, and how many threads may be in them
pub record Lists : Type 0 where
  pub lists : List (List ℕ)
  pub threads : ℕ

-- the list with this number, empty where there is none
abbrev pub list_at : List (List ℕ) → ℕ → List ℕ
list_at lists k = slice_index_or lists k []

-- the first of a list
abbrev pub first : List (List ℕ) → ℕ → Option ℕ
first lists k = slice_get (list_at lists k) 0

-- more threads come last to a list
abbrev pub push : List (List ℕ) → ℕ → List ℕ → List (List ℕ)
push lists k ts = slice_set lists k (list_at lists k ++ ts)

-- all threads of one list come last to another, in their order
abbrev pub append : List (List ℕ) → ℕ → ℕ → List (List ℕ)
append lists from to = slice_set (push lists to (list_at lists from)) from []

-- a list without a thread
abbrev pub without : ℕ → List ℕ → List ℕ
without t xs = filter (λ x. not (x == t)) xs

-- list k without a thread, and without its first
abbrev pub leave : List (List ℕ) → ℕ → ℕ → List (List ℕ)
leave lists k t = slice_set lists k (without t (list_at lists k))

abbrev pub drop_first : List (List ℕ) → ℕ → List (List ℕ)
drop_first lists k = slice_set lists k (drop 1 (list_at lists k))

-- how often a thread occurs in a list
abbrev pub count : ℕ → List ℕ → ℕ
count t xs = count_by (λ x. x == t) xs

-- the sum over all lists: `total (count t) lists` is how often t occurs in all of them
abbrev pub total : (List ℕ → ℕ) → List (List ℕ) → ℕ
total f lists = sum_by f lists

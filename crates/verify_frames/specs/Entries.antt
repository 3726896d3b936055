-- The entries of a stack map, by rising pc.
use Rattle.std.specs.Prelude.{ℕ, ◌+◌, ◌≤◌, Bool, List, [], ◌∷◌, Option, Some, None, drop, find, nat_le, nat_lt, ◌==◌, ◌&&◌, ◌||◌, if◌then◌else◌}
use Rattle.std.specs.List.{prefix_len}
use Rattle.verify_frames.specs.declared.frame_paths.Entry.{Entry}

-- each pc is greater than the one before, and the first is this one or greater
abbrev pub Rises : {A : Type 0} → (A → ℕ) → ℕ → List A → Type 0
Rises pc low [] = Unit {0}
Rises pc low (x ∷ xs) = (low ≤ pc x) × Rises pc (pc x + 1) xs

abbrev pub pc_of : Entry → ℕ
pc_of e = e.pc

abbrev pub AreRising : List Entry → Type 0
AreRising es = Rises pc_of 0 es

-- those from a pc on
abbrev pub entries_from : ℕ → List Entry → List Entry
entries_from pc es = drop (prefix_len (λ (e : Entry). nat_lt e.pc pc) es) es

-- those after a pc
abbrev pub entries_behind : ℕ → List Entry → List Entry
entries_behind pc es = drop (prefix_len (λ (e : Entry). nat_le e.pc pc) es) es

abbrev pub entry_at : ℕ → List Entry → Option Entry
entry_at pc es = find (λ (e : Entry). e.pc == pc) es

-- the first after a pc, and before the next instruction if there is one
abbrev pub stray_entry : ℕ → ℕ → Bool → List Entry → Option Entry
stray_entry pc next is_last es = find (λ (e : Entry). nat_lt pc e.pc && (is_last || nat_lt e.pc next)) es

-- the first of the list, where it lies at this pc
abbrev pub first_at : {A : Type 0} → (A → ℕ) → ℕ → List A → Option A
first_at pc n [] = None
first_at pc n (x ∷ xs) = if pc x == n then Some x else None

abbrev pub first_entry_at : ℕ → List Entry → Option Entry
first_entry_at pc es = first_at pc_of pc es

-- the first of these, where it lies before the next instruction, if there is one
abbrev pub first_stray : ℕ → Bool → List Entry → Option Entry
first_stray next is_last [] = None
first_stray next is_last (e ∷ es) = if is_last || nat_lt e.pc next then Some e else None

-- The entries of a pool while their texts lie apart, as the units of all of them one after the other.
use Rattle.std.specs.Prelude.{◌≡◌, ℕ, ◌<◌, ◌^◌, Bool, false, List, [], ◌∷◌, ◌++◌, length, set, take, drop, Result}
use Rattle.std.specs.List.{sum_by, AllByRecursion}
use Rattle.std.specs.Borrow.{Bor}
use Rattle.byte_reader.specs.declared.fault.Fault.{Fault}
use Rattle.byte_reader.specs.declared.fault.Stop.{Stop}
use Rattle.byte_reader.specs.Reader.{GivesBy}
use Rattle.class_model.specs.declared.constant.Const.{Const}
use Rattle.class_model.specs.declared.constant.Const.TheVariants.{Utf8}
use Rattle.class_grammar.specs.declared.class_why.ClassWhy.{ClassWhy}
use Rattle.class_grammar.specs.Ranges.{is_wide}
use Rattle.class_file.specs.declared.texts.Entry.{Entry}
use Rattle.class_file.specs.declared.texts.Entry.TheVariants as entries
use Rattle.class_file.specs.declared.texts.Mark.{Mark}

-- ---- an entry

-- the constant of an entry with which these units were read
abbrev pub constant_of : List ℕ → Entry → Const
constant_of units entries.Text = Utf8 units
constant_of units (entries.Other c) = c

abbrev pub is_wide_entry : Entry → Bool
is_wide_entry entries.Text = false
is_wide_entry (entries.Other c) = is_wide c

-- how many units an entry may come with
abbrev pub HasUnits : Entry → ℕ → Type 0
HasUnits entries.Text n = n < 2 ^ 16
HasUnits (entries.Other c) n = n ≡ 0

-- the units after those that were there before
abbrev pub appended : List ℕ → List ℕ → List ℕ
appended before units = drop (length before) units

-- nothing was changed of the units before
abbrev pub Appends : List ℕ → List ℕ → Type 0
Appends before units = units ≡ before ++ appended before units

-- an entry came with the units after those that were there before
abbrev pub ComesWith : Entry → List ℕ → List ℕ → Type 0
ComesWith entry before units = Appends before units × HasUnits entry (length (appended before units))

-- the result is what the reader of a constant gives, with the units of a text appended to those before
abbrev pub ReadsEntry : List ℕ → List ℕ → Result (Entry × Bor (List ℕ)) (Stop ClassWhy) → Result (Const × List ℕ) (Fault ClassWhy) → Type 0
ReadsEntry before units result read = GivesBy (λ x. (constant_of (appended before units) x.0, x.1.now)) result read

-- ---- a pool

-- the constants, of which each that is marked is a text with the next of the units
abbrev pub with_texts : List Mark → List ℕ → List Const → List Const
with_texts [] units constants = constants
with_texts (m ∷ marks) units constants = with_texts marks (drop m.len units) (set constants m.index (Utf8 (take m.len units)))

abbrev pub len_of : Mark → ℕ
len_of m = m.len

abbrev pub IsWithin : ℕ → Mark → Type 0
IsWithin count m = m.index < count

-- The marks divide so many units among so many constants.
pub record Divides (marks : List Mark) (units constants : ℕ) : Type 0 where
  pub total : sum_by len_of marks ≡ units
  pub within : AllByRecursion (IsWithin constants) marks

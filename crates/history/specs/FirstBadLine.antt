-- What a refusal says of a text.
use Rattle.std.specs.Prelude.{◌≡◌, ℕ, ◌+◌, ◌<◌, ◌^◌, List, ◌++◌, length}
use Rattle.std.specs.List.{flat_map}
use Rattle.history.specs.declared.entry.Entry.{Entry}
use Rattle.history.specs.TraceText.{line, first_line, last_line, trace_text, IsEntry, AreEntries}

-- there is no first line at the front
pub record NoFirstLine (text : List ℕ) : Type 0 where
  pub none : (carriers : ℕ) (rest : List ℕ) → carriers < 2 ^ 32 → text ≡ first_line carriers ++ rest → ⊥

-- after the first line and some lines of entries comes neither an entry nor the last line
pub record NoNextLine (text : List ℕ) (at : ℕ) : Type 0 where
  pub carriers : ℕ
  pub entries : List Entry
  pub rest : List ℕ
  pub number : at ≡ length entries + 2
  pub in_range : carriers < 2 ^ 32
  pub are_entries : AreEntries entries
  pub before : text ≡ first_line carriers ++ (flat_map line entries ++ rest)
  pub no_entry : (e : Entry) (behind : List ℕ) → IsEntry e → rest ≡ line e ++ behind → ⊥
  pub no_end : (behind : List ℕ) → rest ≡ last_line (length entries) ++ behind → ⊥

-- a trace text goes on after its last line
pub record GoesOn (text : List ℕ) (at : ℕ) : Type 0 where
  pub carriers : ℕ
  pub entries : List Entry
  pub rest : List ℕ
  pub number : at ≡ length entries + 3
  pub in_range : carriers < 2 ^ 32
  pub are_entries : AreEntries entries
  pub before : text ≡ trace_text carriers entries ++ rest
  pub behind : 0 < length rest

-- The lines before this one are the front of a trace text, and with this one they aren't. Lines are counted from 1.
pub data IsFirstBadLine (text : List ℕ) (at : ℕ) : Type 0 where
  first : at ≡ 1 → NoFirstLine text → IsFirstBadLine text at
  next : NoNextLine text at → IsFirstBadLine text at
  last : GoesOn text at → IsFirstBadLine text at

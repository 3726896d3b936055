-- The text of a method.
use Rattle.std.specs.Prelude.{ℕ, List, [], ◌∷◌, ◌++◌, length, get_or, slice_set, replicate, ◌+◌, Bool, true, false, Option, Some, None, nat_lt, ◌==◌, if◌then◌else◌}
use Rattle.items.specs.Options.{◌>>=◌}
use Rattle.class_model.specs.declared.constant.Const.{Const}
use Rattle.class_model.specs.declared.attribute.Attribute.{Attribute}
use Rattle.class_model.specs.declared.attribute.Body.{Body}
use Rattle.class_model.specs.declared.attribute.Body.TheVariants as bodies
use Rattle.class_model.specs.declared.attribute.CodeBody.{CodeBody}
use Rattle.class_model.specs.declared.attribute.CodeAttribute.{CodeAttribute}
use Rattle.class_model.specs.declared.attribute.CodeExtra.{CodeExtra}
use Rattle.class_model.specs.declared.attribute.CodeExtra.TheVariants as extras
use Rattle.class_model.specs.declared.attribute.Row.{Row}
use Rattle.class_model.specs.declared.member.Member.{Member}
use Rattle.asm_text.specs.declared.line.Line.{Line}
use Rattle.asm_text.specs.declared.line.Line.TheVariants as lines
use Rattle.asm_text.specs.LineText.{line_text}
use Rattle.asm_code.specs.Encoding.{Step}
use Rattle.asm_listing.specs.declared.code.PlacedLine.{PlacedLine}
use Rattle.asm_listing.specs.Words.{label_of, word_at, caught_at}
use Rattle.asm_listing.specs.Code.{Seen, nothing, code_lines}
use Rattle.asm_listing.specs.Frames.{map_lines}
use Rattle.class_listing.specs.Flags.{member_flags}

abbrev pub with_line : Line → List ℕ → List ℕ
with_line l text = text ++ line_text l

-- ---- the code, with the labels of the pcs that are named, and the frames

-- A flag for each pc up to the last one: whether it has a label.
abbrev pub with_flag : List Bool → ℕ → List Bool
with_flag flags pc = if nat_lt pc (length flags) then slice_set flags pc true else flags

abbrev pub with_flags : List Bool → List ℕ → List Bool
with_flags flags [] = flags
with_flags flags (pc ∷ pcs) = with_flags (with_flag flags pc) pcs

-- each pc that is named has one
abbrev pub flags_for : ℕ → List ℕ → List Bool
flags_for last named = with_flags (replicate (last + 1) false) named

abbrev pub with_label : List Bool → ℕ → List ℕ → List ℕ
with_label flags pc text = if get_or flags pc false then with_line (lines.Label (label_of pc)) text else text

abbrev pub with_frame : ℕ → List PlacedLine → List ℕ → List ℕ
with_frame pc [] text = text
with_frame pc (f ∷ fs) text = if f.pc == pc then with_line f.line text else text

-- the frames behind this pc; one at no instruction stands before all others that are left
abbrev pub frames_after : ℕ → List PlacedLine → List PlacedLine
frames_after pc [] = []
frames_after pc (f ∷ fs) = if f.pc == pc then fs else f ∷ fs

-- at one pc the label comes first, then the frame, then the instruction
abbrev pub with_instruction : List Bool → List PlacedLine → PlacedLine → List ℕ → List ℕ
with_instruction flags frames i text = with_line i.line (with_frame i.pc frames (with_label flags i.pc text))

abbrev pub with_code : List Bool → List PlacedLine → List PlacedLine → List ℕ → List ℕ
with_code flags [] frames text = text
with_code flags (i ∷ is) frames text = with_code flags is (frames_after i.pc frames) (with_instruction flags frames i text)

-- ---- rows of the exception table

abbrev pub row_line : List Const → Row → Option Line
row_line pool row = do
  caught ← caught_at pool row.catch_type
  Some (lines.Catch caught (label_of row.start) (label_of row.end) (label_of row.handler))

abbrev pub with_row : List Const → Row → Step
with_row pool row text = do
  line ← row_line pool row
  Some (with_line line text)

abbrev pub with_rows : List Const → List Row → Step
with_rows pool [] text = Some text
with_rows pool (row ∷ rows) text = do
  next ← with_row pool row text
  with_rows pool rows next

-- the pcs that the rows name, behind others
abbrev pub named_by : List ℕ → List Row → List ℕ
named_by pcs [] = pcs
named_by pcs (row ∷ rows) = named_by (pcs ++ row.start ∷ row.end ∷ row.handler ∷ []) rows

-- ---- methods

abbrev pub map_in : List Const → CodeExtra → Option Seen
map_in pool (extras.StackMap bytes) = map_lines pool bytes
map_in pool (extras.Other bytes) = None

-- the frames of a code that has a stack map at most
abbrev pub map_of : List Const → List CodeAttribute → Option Seen
map_of pool [] = Some nothing
map_of pool (a ∷ []) = map_in pool a.body
map_of pool (a ∷ b ∷ cs) = None

-- the pcs that a code names, its frames and its rows
abbrev pub named_in : CodeBody → Seen → Seen → List ℕ
named_in body code map = named_by (code.named ++ map.named) body.rows

-- the sizes of the frame, the code, and the label behind it
abbrev pub with_parts : List Bool → CodeBody → Seen → Seen → List ℕ → List ℕ
with_parts flags body code map text =
    with_label flags (length body.code)
    (with_code flags code.lines map.lines (with_line (lines.Stack body.max_stack body.max_locals) text))

abbrev pub flags_of : CodeBody → Seen → Seen → List Bool
flags_of body code map = flags_for (length body.code) (named_in body code map)

abbrev pub with_body : List Const → CodeBody → Step
with_body pool body text = do
  code ← code_lines pool body.code
  map ← map_of pool body.attributes
  with_rows pool body.rows (with_parts (flags_of body code map) body code map text)

-- a code has at most 65,535 bytes
abbrev pub with_small_body : List Const → CodeBody → Step
with_small_body pool body text = if nat_lt 65535 (length body.code) then None else with_body pool body text

abbrev pub with_attribute : List Const → Body → Step
with_attribute pool (bodies.Code body) text = with_small_body pool body text
with_attribute pool other text = None

-- the code of a method that has no other attribute
abbrev pub with_attributes : List Const → List Attribute → Step
with_attributes pool [] text = Some text
with_attributes pool (a ∷ []) text = with_attribute pool a.body text
with_attributes pool (a ∷ b ∷ cs) text = None

abbrev pub method_line : List Const → Member → Option Line
method_line pool m = do
  name ← word_at pool m.name
  descriptor ← word_at pool m.descriptor
  Some (lines.Method (member_flags m.flags) name descriptor)

abbrev pub with_method : List Const → Member → Step
with_method pool m text = do
  line ← method_line pool m
  next ← with_attributes pool m.attributes (with_line line text)
  Some (with_line lines.End next)

abbrev pub with_methods : List Const → List Member → Step
with_methods pool [] text = Some text
with_methods pool (m ∷ ms) text = do
  next ← with_method pool m text
  with_methods pool ms next

-- How the words of a line are read, from the first to the last. What is read is answered with the words after it.
use Rattle.std.specs.Prelude.{◌≡◌, ℕ, zero, suc, ◌-◌, ℤ, Bool, true, List, [], ◌∷◌, length, take, drop, Option, Some, None, Result, Ok, Err, codes, nat_lt, if◌then◌else◌}
use Rattle.std.specs.Borrow.{Bor}
use Rattle.items.specs.Options.{◌>>=◌}
use Rattle.asm_text.specs.declared.error.LineError.{LineError}
use Rattle.asm_text.specs.declared.error.LineError.TheVariants as errors
use Rattle.asm_text.specs.declared.line.Line.{Line}
use Rattle.asm_text.specs.declared.line.Line.TheVariants as lines
use Rattle.asm_text.specs.declared.line.Flag.{Flag}
use Rattle.asm_text.specs.declared.line.Declared.{Declared}
use Rattle.asm_text.specs.declared.line.Declared.TheVariants as places
use Rattle.asm_text.specs.declared.line.FrameType.{FrameType}
use Rattle.asm_text.specs.declared.line.FrameType.TheVariants as types
use Rattle.asm_text.specs.declared.instruction.Operands.{Operands}
use Rattle.asm_text.specs.declared.instruction.Operands.TheVariants as operands
use Rattle.asm_text.specs.declared.instruction.OperandKind.{OperandKind}
use Rattle.asm_text.specs.declared.instruction.OperandKind.TheVariants as kinds
use Rattle.asm_text.specs.declared.instruction.Constant.{Constant}
use Rattle.asm_text.specs.declared.instruction.Constant.TheVariants as constants
use Rattle.asm_text.specs.declared.instruction.Case.{Case}
use Rattle.asm_text.specs.declared.keyword.Keyword.{Keyword}
use Rattle.asm_text.specs.declared.keyword.Keyword.TheVariants as keywords
use Rattle.asm_text.specs.Words.{same_word, is_word, cut_at, parts_of, without_spaces}
use Rattle.asm_text.specs.Numbers.{number_of, int_of}
use Rattle.asm_text.specs.Mnemonics.{named, keyword_rows, flag_rows, element_rows, mnemonic_of, opcode_named}
use Rattle.asm_text.specs.LineText.{is_allowed, begins_comment}

abbrev pub Words : Type 0
Words = List (List ℕ)

abbrev pub Reader : Type 0 → Type 0
Reader A = Words → Option (A × Words)

-- ---- what a function of the code gives: what the reader does, unless memory ran out

abbrev pub Stops : {Y : Type 0} → LineError → Option Y → Type 0
Stops errors.Bad read = read ≡ None
Stops errors.NoMemory read = Unit {0}

abbrev pub GivesBy : {X Y : Type 0} → (X → Y) → Result X LineError → Option Y → Type 0
GivesBy view (Ok x) read = read ≡ Some (view x)
GivesBy view (Err e) read = Stops e read

-- of a value by itself
abbrev pub Gives : {X : Type 0} → Result X LineError → Option X → Type 0
Gives result read = GivesBy (λ x. x) result read

-- of a value and the words after it
abbrev pub Reads : {A : Type 0} → Result (A × Bor Words) LineError → Option (A × Words) → Type 0
Reads result read = GivesBy (λ x. (x.0, x.1.now)) result read

-- ---- single words

abbrev pub word_at : Reader (List ℕ)
word_at [] = None
word_at (w ∷ ws) = Some (w, ws)

-- the words after this one
abbrev pub after : List ℕ → Words → Option Words
after text [] = None
after text (w ∷ ws) = if same_word w text then Some ws else None

abbrev pub name_at : Reader (List ℕ)
name_at ws = do
  w ← word_at ws
  if is_word w.0 then Some w else None

abbrev pub number_at : ℕ → Reader ℕ
number_at most ws = do
  w ← word_at ws
  n ← number_of most w.0
  Some (n, w.1)

abbrev pub int_at : ℕ → Reader ℤ
int_at most ws = do
  w ← word_at ws
  n ← int_of most w.0
  Some (n, w.1)

abbrev pub most8 : ℕ
most8 = 127

abbrev pub most16 : ℕ
most16 = 32767

abbrev pub most32 : ℕ
most32 = 2147483647

abbrev pub most64 : ℕ
most64 = 9223372036854775807

-- ---- ways to make a reader of readers

abbrev pub map_value : {A B : Type 0} → (A → B) → Reader A → Reader B
map_value f reader ws = do
  x ← reader ws
  Some (f x.0, x.1)

abbrev pub both : {A B : Type 0} → Reader A → Reader B → Reader (A × B)
both first second ws = do
  x ← first ws
  y ← second x.1
  Some ((x.0, y.0), y.1)

-- a word, and then a value
abbrev pub behind : {A : Type 0} → List ℕ → Reader A → Reader A
behind text reader ws = do
  rest ← after text ws
  reader rest

abbrev pub ended : {A : Type 0} → A → Words → Option A
ended x [] = Some x
ended x (w ∷ ws) = None

-- what is made of a value behind which no word is left
abbrev pub whole : {A B : Type 0} → (A → B) → Reader A → Words → Option B
whole make reader ws = do
  x ← reader ws
  ended (make x.0) x.1

abbrev pub many_by : {A : Type 0} → Option (A × Words) → Words → (Words → List A × Words) → List A × Words
many_by None ws others = ([], ws)
many_by (Some x) ws others = (x.0 ∷ (others x.1).0, (others x.1).1)

-- as many values as there are, but no more than this number
abbrev pub many : {A : Type 0} → Reader A → ℕ → Words → List A × Words
many reader zero ws = ([], ws)
many reader (suc n) ws = many_by (reader ws) ws (λ rest. many reader n rest)

-- the values that these words are
abbrev pub all_of : {A : Type 0} → Reader A → Words → Option (List A)
all_of reader ws = let r = many reader (length ws) ws in ended r.0 r.1

-- the last words, so many, and those in front of them
abbrev pub split_last : ℕ → Words → Option (Words × Words)
split_last count ws =
    if nat_lt (length ws) count then None else Some (take (length ws - count) ws, drop (length ws - count) ws)

-- ---- lines

abbrev pub flag_at : Declared → Reader Flag
flag_at declared ws = do
  w ← word_at ws
  f ← named flag_rows w.0
  if is_allowed declared f then Some (f, w.1) else None

abbrev pub class_line : Words → Option Line
class_line ws = do
  parts ← split_last 1 ws
  flags ← all_of (flag_at places.Class) parts.0
  whole (λ name. lines.Class flags name) name_at parts.1

abbrev pub field_line : Words → Option Line
field_line ws = do
  parts ← split_last 2 ws
  flags ← all_of (flag_at places.Field) parts.0
  whole (λ x. lines.Field flags x.0 x.1) (both name_at name_at) parts.1

abbrev pub method_line : Words → Option Line
method_line ws = do
  parts ← split_last 2 ws
  flags ← all_of (flag_at places.Method) parts.0
  whole (λ x. lines.Method flags x.0 x.1) (both name_at name_at) parts.1

abbrev pub stack_line : Words → Option Line
stack_line = whole (λ x. lines.Stack x.0 x.1) (both (number_at 65535) (behind (codes "locals") (number_at 65535)))

abbrev pub frame_type_by : List ℕ → Reader FrameType
frame_type_by w rest =
    if same_word w (codes "top") then Some (types.Top, rest)
    else if same_word w (codes "int") then Some (types.Int, rest)
    else if same_word w (codes "long") then Some (types.Long, rest)
    else if same_word w (codes "null") then Some (types.Null, rest)
    else if same_word w (codes "this") then Some (types.This, rest)
    else if same_word w (codes "new") then map_value types.New name_at rest
    else if same_word w (codes "ref") then map_value types.Ref name_at rest
    else None

abbrev pub frame_type_at : Reader FrameType
frame_type_at ws = do
  w ← word_at ws
  frame_type_by w.0 w.1

abbrev pub frame_types_at : Words → List FrameType × Words
frame_types_at ws = many frame_type_at (length ws) ws

abbrev pub frame_line : Words → Option Line
frame_line ws = do
  rest ← after (codes "|") (frame_types_at ws).1
  stack ← all_of frame_type_at rest
  Some (lines.Frame (frame_types_at ws).0 stack)

abbrev pub caught_by : List ℕ → Option (Option (List ℕ))
caught_by w = if same_word w (codes "any") then Some None else (if is_word w then Some (Some w) else None)

abbrev pub caught_at : Reader (Option (List ℕ))
caught_at ws = do
  w ← word_at ws
  caught ← caught_by w.0
  Some (caught, w.1)

abbrev pub label_at : List ℕ → Reader (List ℕ)
label_at text = behind text name_at

abbrev pub labels_at : Reader (List ℕ × (List ℕ × List ℕ))
labels_at = both (label_at (codes "from")) (both (label_at (codes "to")) (label_at (codes "using")))

abbrev pub catch_line : Words → Option Line
catch_line = whole (λ x. lines.Catch x.0 x.1.0 x.1.1.0 x.1.1.1) (both caught_at labels_at)

-- ---- instructions

abbrev pub constant_by : List ℕ → Reader Constant
constant_by w rest =
    if same_word w (codes "int") then map_value constants.Int (int_at most32) rest
    else if same_word w (codes "long") then map_value constants.Long (int_at most64) rest
    else if same_word w (codes "text") then map_value constants.Text name_at rest
    else None

abbrev pub constant_at : Reader Constant
constant_at ws = do
  w ← word_at ws
  constant_by w.0 w.1

abbrev pub case_at : Reader Case
case_at = map_value (λ x. record { value = x.0; label = x.1 }) (both (int_at most32) name_at)

abbrev pub default_at : Reader (List ℕ)
default_at = label_at (codes "default")

abbrev pub table_operands : Words → Option Operands
table_operands ws = do
  parts ← split_last 2 ws
  low ← int_at most32 parts.0
  labels ← all_of name_at low.1
  whole (λ default. operands.Table low.0 labels default) default_at parts.1

abbrev pub lookup_operands : Words → Option Operands
lookup_operands ws = do
  parts ← split_last 2 ws
  cases ← all_of case_at parts.0
  whole (λ default. operands.Lookup cases default) default_at parts.1

abbrev pub element_at : Reader Operands
element_at ws = do
  w ← word_at ws
  e ← named element_rows w.0
  Some (operands.Element e, w.1)

abbrev pub operands_of : OperandKind → Words → Option Operands
operands_of kinds.Nothing ws = ended operands.Nothing ws
operands_of kinds.Byte ws = whole operands.Byte (int_at most8) ws
operands_of kinds.Short ws = whole operands.Short (int_at most16) ws
operands_of kinds.Constant ws = whole operands.Constant constant_at ws
operands_of kinds.Local ws = whole operands.Local (number_at 65535) ws
operands_of kinds.Increment ws = whole (λ x. operands.Increment x.0 x.1) (both (number_at 65535) (int_at most16)) ws
operands_of kinds.Branch ws = whole operands.Branch name_at ws
operands_of kinds.Table ws = table_operands ws
operands_of kinds.Lookup ws = lookup_operands ws
operands_of kinds.Member ws = whole (λ x. operands.Member x.0 x.1.0 x.1.1) (both name_at (both name_at name_at)) ws
operands_of kinds.Class ws = whole operands.Class name_at ws
operands_of kinds.Element ws = whole (λ x. x) element_at ws
operands_of kinds.Dimensions ws = whole (λ x. operands.Dimensions x.0 x.1) (both name_at (number_at 255)) ws

-- ---- a line by its first word

abbrev pub label_in : List ℕ → Option (List ℕ)
label_in w =
    if same_word (drop (length w - 1) w) (codes ":") then Some (take (length w - 1) w) else None

abbrev pub keyword_line : Keyword → Words → Option Line
keyword_line keywords.Class ws = class_line ws
keyword_line keywords.Super ws = whole lines.Super name_at ws
keyword_line keywords.Implements ws = whole lines.Implements name_at ws
keyword_line keywords.Field ws = field_line ws
keyword_line keywords.Method ws = method_line ws
keyword_line keywords.Stack ws = stack_line ws
keyword_line keywords.Frame ws = frame_line ws
keyword_line keywords.Catch ws = catch_line ws
keyword_line keywords.End ws = ended lines.End ws

abbrev pub instruction_line : Option ℕ → Words → Option Line
instruction_line None ws = None
instruction_line (Some opcode) ws = do
  ops ← operands_of (mnemonic_of opcode).operands ws
  Some (lines.Instruction opcode ops)

abbrev pub named_line : List ℕ → Words → Option Line
named_line name ws = instruction_line (opcode_named name) ws

abbrev pub label_line : List ℕ → Words → Option Line
label_line label ws = if is_word label then ended (lines.Label label) ws else None

abbrev pub keyed : Option Keyword → List ℕ → Words → Option Line
keyed (Some keyword) first ws = keyword_line keyword ws
keyed None first ws = named_line first ws

abbrev pub keyed_line : List ℕ → Words → Option Line
keyed_line first ws = keyed (named keyword_rows first) first ws

abbrev pub labelled : Option (List ℕ) → List ℕ → Words → Option Line
labelled (Some label) first ws = label_line label ws
labelled None first ws = keyed_line first ws

abbrev pub line_after : List ℕ → Words → Option Line
line_after first ws = labelled (label_in first) first ws

abbrev pub line_of : Words → Option Line
line_of [] = None
line_of (first ∷ ws) = line_after first ws

-- an empty line or a comment
abbrev pub is_blank : List ℕ → Bool
is_blank [] = true
is_blank (b ∷ bs) = begins_comment (b ∷ bs)

abbrev pub line_by : List ℕ → Option Line
line_by text = if is_blank text then Some lines.Blank else line_of (parts_of text)

-- the line at the front of a text, which ends with a line feed
unfoldable pub line_at : List ℕ → Option (Line × List ℕ)
line_at text = do
  parts ← cut_at 10 text
  l ← line_by (without_spaces parts.0)
  Some (l, parts.1)

-- The words of a line are words: they have no spaces, and the line begins with none of them and with no number sign.
use Rattle.std.proofs.Common.{◌≡◌, ℕ, suc, ◌+◌, ◌%◌, ◌^◌, ◌<◌, ◌≤◌, ℤ, pos, negsuc, Bool, true, false, not, List, [], ◌∷◌, ◌++◌, length, map, Option, Some, None, refl, length-append, arith, eqb, ltb}
use Rattle.std.specs.Prelude.{decimal, codes, FitsSigned, ◌&&◌}
use Rattle.std.specs.Int.{w8, w16, w32, w64}
use Rattle.std.specs.Fmt.{signed_decimal}
use Rattle.std.specs.List.{flat_map, list_all, AllByRecursion}
use Rattle.std.proofs.lemmas.Bool.Decides.{nat_tests}
use Rattle.std.proofs.lemmas.Fmt.{decimal_by_steps}
use Rattle.asm_text.specs.declared.line.Line.{Line}
use Rattle.asm_text.specs.declared.line.Line.TheVariants as lines
use Rattle.asm_text.specs.declared.line.Flag.{Flag}
use Rattle.asm_text.specs.declared.line.Flag.TheVariants as flags
use Rattle.asm_text.specs.declared.line.FrameType.{FrameType}
use Rattle.asm_text.specs.declared.line.FrameType.TheVariants as types
use Rattle.asm_text.specs.declared.instruction.Operands.{Operands}
use Rattle.asm_text.specs.declared.instruction.Operands.TheVariants as operands
use Rattle.asm_text.specs.declared.instruction.Constant.{Constant}
use Rattle.asm_text.specs.declared.instruction.Constant.TheVariants as constants
use Rattle.asm_text.specs.declared.instruction.Case.{Case}
use Rattle.asm_text.specs.declared.instruction.Element.{Element}
use Rattle.asm_text.specs.declared.instruction.Element.TheVariants as elements
use Rattle.asm_text.specs.Words.{is_word_byte, IsWord}
use Rattle.asm_text.specs.Mnemonics.{flag_word, element_word}
use Rattle.asm_text.specs.LineText.{line_words, operand_words, frame_type_words, constant_words, case_words, caught_word, IsFrameType, IsConstant, IsCase, IsCaught, IsOperands, IsLine, begins_comment}
use Rattle.asm_text.proofs.Tests.{both_true}
use Rattle.asm_text.proofs.LineLaws.{instruction_named}

abbrev pub AreWords : List (List ℕ) → Type 0
AreWords ws = AllByRecursion IsWord ws

are_words_append : (xs ys : List (List ℕ)) → AreWords xs → AreWords ys → AreWords (xs ++ ys)
are_words_append [] ys are be = be
are_words_append (x ∷ xs) ys are be = (are.0, are_words_append xs ys are.1 be)

flat_words : {A : Type 0} (s : A → List (List ℕ)) (F : A → Type 0) → ((a : A) → F a → AreWords (s a)) → (xs : List A) → AllByRecursion F xs → AreWords (flat_map s xs)
flat_words s F each [] fits = tt
flat_words s F each (x ∷ xs) fits = are_words_append (s x) (flat_map s xs) (each x fits.0) (flat_words s F each xs fits.1)

-- ---- numbers

all_by : (t a b : Bool) → (t && a) ≡ true → (a ≡ true → b ≡ true) → (t && b) ≡ true
all_by true a b e more = more e
all_by false a b e more = absurd cc

all_append : (xs ys : List ℕ) → list_all is_word_byte xs ≡ true → list_all is_word_byte ys ≡ true → list_all is_word_byte (xs ++ ys) ≡ true
all_append [] ys e f = f
all_append (x ∷ xs) ys e f = all_by (is_word_byte x) (list_all is_word_byte xs) (list_all is_word_byte (xs ++ ys)) e (λ rest. all_append xs ys rest f)

digit_is : (m : ℕ) → m < 10 → is_word_byte (48 + m) ≡ true
digit_is m small =
    let a : ltb (48 + m) 128 ≡ true = grind (arith, nat_tests) in
    let b : eqb (48 + m) 32 ≡ false = grind (arith, nat_tests) in
    let c : eqb (48 + m) 10 ≡ false = grind (arith, nat_tests) in
    rw (a, b, c) refl

not_empty : (w : List ℕ) → 0 < length w → not (eqb (length w) 0) ≡ true
not_empty w some = let e : eqb (length w) 0 ≡ false = grind (arith, nat_tests) in rw e refl

word_by : (w : List ℕ) → 0 < length w → list_all is_word_byte w ≡ true → IsWord w
word_by w some all = rw (not_empty w some) all

pub word_all : (w : List ℕ) → IsWord w → list_all is_word_byte w ≡ true
word_all w is = (both_true (not (eqb (length w) 0)) (list_all is_word_byte w) is).1

abbrev AreDigits : List ℕ → Type 0
AreDigits ds = (0 < length ds) × (list_all is_word_byte ds ≡ true)

digits_are : (n : ℕ) → n < 2 ^ 64 → AreDigits (decimal n)
digits_are n big = decimal_by_steps (λ m ds. AreDigits ds) one more n big
  where
    one : (m : ℕ) → m < 10 → AreDigits ((48 + m) ∷ [])
    one m small = (omega arith, rw (digit_is m small) refl)

    more : (m : ℕ) (ds : List ℕ) → 10 ≤ m → AreDigits ds → AreDigits (ds ++ ((48 + m % 10) ∷ []))
    more m ds large before =
        let size = length-append ds ((48 + m % 10) ∷ []) in
        (omega (arith, size, before.0), all_append ds ((48 + m % 10) ∷ []) before.1 (rw (digit_is (m % 10) (omega arith)) refl))

number_word : (n : ℕ) → n < 2 ^ 64 → IsWord (decimal n)
number_word n big = let d = digits_are n big in word_by (decimal n) d.0 d.1

int_word : (z : ℤ) → FitsSigned w64 z → IsWord (signed_decimal z)
int_word (pos n) fits = number_word n (omega (arith, fits.sfits))
int_word (negsuc n) fits = let d = digits_are (suc n) (omega (arith, fits.sfits)) in word_by (45 ∷ decimal (suc n)) (omega arith) d.1

wide8 : (z : ℤ) → FitsSigned w8 z → FitsSigned w64 z
wide8 z fits = record { sfits = omega (arith, fits.sfits) }

wide16 : (z : ℤ) → FitsSigned w16 z → FitsSigned w64 z
wide16 z fits = record { sfits = omega (arith, fits.sfits) }

wide32 : (z : ℤ) → FitsSigned w32 z → FitsSigned w64 z
wide32 z fits = record { sfits = omega (arith, fits.sfits) }

-- ---- parts of a line

flag_is_word : (f : Flag) → IsWord (flag_word f)
flag_is_word flags.Public = refl
flag_is_word flags.Private = refl
flag_is_word flags.Static = refl
flag_is_word flags.Final = refl
flag_is_word flags.Super = refl
flag_is_word flags.Synchronized = refl
flag_is_word flags.Volatile = refl
flag_is_word flags.Native = refl
flag_is_word flags.Interface = refl
flag_is_word flags.Abstract = refl

flag_words : (fs : List Flag) → AreWords (map flag_word fs)
flag_words [] = tt
flag_words (f ∷ fs) = (flag_is_word f, flag_words fs)

element_is_word : (e : Element) → IsWord (element_word e)
element_is_word elements.Boolean = refl
element_is_word elements.Char = refl
element_is_word elements.Byte = refl
element_is_word elements.Short = refl
element_is_word elements.Int = refl
element_is_word elements.Long = refl

frame_type_are : (t : FrameType) → IsFrameType t → AreWords (frame_type_words t)
frame_type_are types.Top fits = (refl, tt)
frame_type_are types.Int fits = (refl, tt)
frame_type_are types.Long fits = (refl, tt)
frame_type_are types.Null fits = (refl, tt)
frame_type_are types.This fits = (refl, tt)
frame_type_are (types.New label) fits = (refl, (fits, tt))
frame_type_are (types.Ref name) fits = (refl, (fits, tt))

constant_are : (c : Constant) → IsConstant c → AreWords (constant_words c)
constant_are (constants.Int n) fits = (refl, (int_word n (wide32 n fits), tt))
constant_are (constants.Long n) fits = (refl, (int_word n fits, tt))
constant_are (constants.Text word) fits = (refl, (fits, tt))

case_are : (c : Case) → IsCase c → AreWords (case_words c)
case_are c fits = (int_word c.value (wide32 c.value fits.0), (fits.1, tt))

operand_are : (ops : Operands) → IsOperands ops → AreWords (operand_words ops)
operand_are operands.Nothing fits = tt
operand_are (operands.Byte n) fits = (int_word n (wide8 n fits), tt)
operand_are (operands.Short n) fits = (int_word n (wide16 n fits), tt)
operand_are (operands.Constant c) fits = constant_are c fits
operand_are (operands.Local n) fits = (number_word n (omega arith), tt)
operand_are (operands.Increment n by) fits = (number_word n (omega arith), (int_word by (wide16 by fits.1), tt))
operand_are (operands.Branch label) fits = (fits, tt)
operand_are (operands.Table low labels default) fits =
    (int_word low (wide32 low fits.0), are_words_append labels (codes "default" ∷ default ∷ []) fits.1 (refl, (fits.2, tt)))
operand_are (operands.Lookup cases default) fits =
    are_words_append (flat_map case_words cases) (codes "default" ∷ default ∷ []) (flat_words case_words IsCase case_are cases fits.0) (refl, (fits.1, tt))
operand_are (operands.Member class name descriptor) fits = (fits.0, (fits.1, (fits.2, tt)))
operand_are (operands.Class name) fits = (fits, tt)
operand_are (operands.Element e) fits = (element_is_word e, tt)
operand_are (operands.Dimensions name n) fits = (fits.0, (number_word n (omega arith), tt))

caught_is_word : (c : Option (List ℕ)) → IsCaught c → IsWord (caught_word c)
caught_is_word None fits = refl
caught_is_word (Some name) fits = fits.0

colon_word : (label : List ℕ) → IsWord label → IsWord (label ++ codes ":")
colon_word [] is = absurd cc
colon_word (b ∷ bs) is = word_by ((b ∷ bs) ++ codes ":") (omega arith) (all_append (b ∷ bs) (codes ":") (word_all (b ∷ bs) is) refl)

pub line_are : (l : Line) → IsLine l → AreWords (line_words l)
line_are lines.Blank fits = absurd fits
line_are (lines.Class fs name) fits = (refl, are_words_append (map flag_word fs) (name ∷ []) (flag_words fs) (fits.1, tt))
line_are (lines.Super name) fits = (refl, (fits, tt))
line_are (lines.Implements name) fits = (refl, (fits, tt))
line_are (lines.Field fs name descriptor) fits = (refl, are_words_append (map flag_word fs) (name ∷ descriptor ∷ []) (flag_words fs) (fits.1, (fits.2, tt)))
line_are (lines.Method fs name descriptor) fits = (refl, are_words_append (map flag_word fs) (name ∷ descriptor ∷ []) (flag_words fs) (fits.1, (fits.2, tt)))
line_are (lines.Stack stack locals) fits = (refl, (number_word stack (omega (arith, fits.0)), (refl, (number_word locals (omega (arith, fits.1)), tt))))
line_are (lines.Label label) fits = (colon_word label fits.0, tt)
line_are (lines.Frame locals stack) fits = (
  refl,
  are_words_append (flat_map frame_type_words locals) (codes "|" ∷ flat_map frame_type_words stack) (flat_words frame_type_words IsFrameType frame_type_are locals fits.0)
      (refl, flat_words frame_type_words IsFrameType frame_type_are stack fits.1),
)
line_are (lines.Catch caught from to using) fits = (refl, (caught_is_word caught fits.0, (refl, (fits.1, (refl, (fits.2, (refl, (fits.3, tt))))))))
line_are lines.End fits = (refl, tt)
line_are (lines.Instruction opcode ops) fits = ((instruction_named opcode fits.named).word, operand_are ops fits.fits)

-- ---- the first word

abbrev pub NoComment : List (List ℕ) → Type 0
NoComment [] = ⊥
NoComment (w ∷ ws) = begins_comment w ≡ false

colon_no_comment : (label : List ℕ) → IsWord label → begins_comment label ≡ false → begins_comment (label ++ codes ":") ≡ false
colon_no_comment [] is e = absurd cc
colon_no_comment (b ∷ bs) is e = e

pub line_no_comment : (l : Line) → IsLine l → NoComment (line_words l)
line_no_comment lines.Blank fits = absurd fits
line_no_comment (lines.Class fs name) fits = refl
line_no_comment (lines.Super name) fits = refl
line_no_comment (lines.Implements name) fits = refl
line_no_comment (lines.Field fs name descriptor) fits = refl
line_no_comment (lines.Method fs name descriptor) fits = refl
line_no_comment (lines.Stack stack locals) fits = refl
line_no_comment (lines.Label label) fits = colon_no_comment label fits.0 fits.1
line_no_comment (lines.Frame locals stack) fits = refl
line_no_comment (lines.Catch caught from to using) fits = refl
line_no_comment lines.End fits = refl
line_no_comment (lines.Instruction opcode ops) fits = (instruction_named opcode fits.named).no_comment

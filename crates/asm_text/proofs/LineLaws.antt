-- A line is read from just its words.
use Rattle.std.proofs.Common.{◌≡◌, ℕ, zero, suc, ◌+◌, ◌-◌, ◌^◌, ◌<◌, Bool, true, false, not, List, [], ◌∷◌, ◌++◌, length, take, drop, map, get_or, Option, Some, None, refl, sym, ap, subst, ◌∙◌, length-append, arith, eqb}
use Rattle.std.specs.Prelude.{decimal, codes, ◌&&◌}
use Rattle.std.specs.List.{flat_map, position}
use Rattle.std.proofs.lemmas.Bool.{eqb-true, eqb-false}
use Rattle.std.proofs.lemmas.List.{take_at, drop_at, take-append-drop}
use Rattle.std.proofs.lemmas.List.Quantifiers.{position-Some}
use Rattle.items.specs.Options.{◌>>=◌}
use Rattle.items.proofs.Binds.{some_is, bind_is}
use Rattle.asm_text.specs.declared.line.Line.{Line}
use Rattle.asm_text.specs.declared.line.Line.TheVariants as lines
use Rattle.asm_text.specs.declared.line.Flag.{Flag}
use Rattle.asm_text.specs.declared.line.Declared.{Declared}
use Rattle.asm_text.specs.declared.line.Declared.TheVariants as places
use Rattle.asm_text.specs.declared.line.FrameType.{FrameType}
use Rattle.asm_text.specs.declared.instruction.Operands.{Operands}
use Rattle.asm_text.specs.declared.keyword.Keyword.{Keyword}
use Rattle.asm_text.specs.declared.keyword.Keyword.TheVariants as keywords
use Rattle.asm_text.specs.Words.{same_word, is_word, IsWord}
use Rattle.asm_text.specs.Mnemonics.{Mnemonic, named, keyword_rows, keyword_word, flag_word, mnemonics, nameless, index_named, mnemonic_of, opcode_named}
use Rattle.asm_text.specs.LineText.{line_words, operand_words, frame_type_words, caught_word, AreAllowed, AreFrameTypes, IsCaught, IsInstruction, IsLine, begins_comment}
use Rattle.asm_text.specs.Parsing.{Words, name_at, number_at, both, behind, after, ended, whole, all_of, split_last, label_at, flag_at, caught_at, frame_type_at, frame_types_at, class_line, frame_line, label_in, keyword_line, instruction_line, named_line, keyed, labelled, line_of, operands_of}
use Rattle.asm_text.proofs.Tests.{both_true, cond_some, cond_none, some, some_same}
use Rattle.asm_text.proofs.ReaderLaws.{IsReader, IsMade, same_is, name_reader, both_reader, behind_reader, after_takes, after_again, ended_is, whole_takes, whole_again, many_takes, list_again, all_takes, all_again, one_each, split_takes, split_again, named_takes}
use Rattle.asm_text.proofs.PartLaws.{number16, flag_reader, frame_type_reader, frame_type_words_some, caught_reader}
use Rattle.asm_text.proofs.OperandLaws.{operands_take, operands_again}

-- what the words of a line are; that it is no comment is told by the bytes
abbrev pub IsSpelled : Line → Type 0
IsSpelled (lines.Label label) = IsWord label
IsSpelled other = IsLine other

-- the words say this line
pub record TakesLine (ws : Words) (l : Line) : Type 0 where
  pub words : ws ≡ line_words l
  pub fits : IsSpelled l

-- ---- lines behind a keyword

-- the words behind the keyword say this line
abbrev Takes : Keyword → Words → Line → Type 0
Takes keyword ws l = TakesLine (keyword_word keyword ∷ ws) l

made : {A : Type 0} {s : A → Words} {F : A → Type 0} (keyword : Keyword) (make : A → Line) (ws : Words) (l : Line) → IsMade make s F ws l
    → ((a : A) → (keyword_word keyword ∷ s a) ≡ line_words (make a)) → ((a : A) → F a → IsSpelled (make a)) → Takes keyword ws l
made keyword make ws l m words fits =
    subst (λ (o : Line). Takes keyword ws o) m.made
    (record { words = ap (λ (vs : Words). keyword_word keyword ∷ vs) m.parts ∙ words m.value; fits = fits m.value m.fits })

flags_are : (declared : Declared) (ws : Words) (fs : List Flag) → all_of (flag_at declared) ws ≡ Some fs → (ws ≡ map flag_word fs) × AreAllowed declared fs
flags_are declared ws fs e = let t = all_takes (flag_reader declared) ws fs e in (t.0 ∙ one_each flag_word fs, t.1)

flags_again : (declared : Declared) (fs : List Flag) → AreAllowed declared fs → all_of (flag_at declared) (map flag_word fs) ≡ Some fs
flags_again declared fs are = ap (all_of (flag_at declared)) (sym (one_each flag_word fs)) ∙ all_again (flag_reader declared) (λ f. omega arith) fs are refl

class_takes : (ws : Words) (l : Line) → class_line ws ≡ Some l → Takes keywords.Class ws l
class_takes ws l e =
    let p = some_is (split_last 1 ws) (λ parts. all_of (flag_at places.Class) parts.0 >>= λ fs. whole (λ name. lines.Class fs name) name_at parts.1) l e in
    let f = some_is (all_of (flag_at places.Class) p.0.0) (λ fs. whole (λ name. lines.Class fs name) name_at p.0.1) l p.2 in
    let parts = split_takes 1 ws p.0.0 p.0.1 p.1 in
    let flags = flags_are places.Class p.0.0 f.0 f.1 in
    let last = whole_takes (λ name. lines.Class f.0 name) name_reader p.0.1 l f.2 in
    subst (λ (o : Line). Takes keywords.Class ws o) last.made
    (record { words = ap (λ (vs : Words). codes "class" ∷ vs) (parts.0 ∙ (λ i. flags.0 i ++ last.parts i)); fits = (flags.1, last.fits) })

class_again : (fs : List Flag) (name : List ℕ) → AreAllowed places.Class fs → IsWord name → class_line (map flag_word fs ++ name ∷ []) ≡ Some (lines.Class fs name)
class_again fs name are is =
    let back : Words = name ∷ [] in
    bind_is (split_last 1 (map flag_word fs ++ back)) (λ parts. all_of (flag_at places.Class) parts.0 >>= λ fs. whole (λ name. lines.Class fs name) name_at parts.1)
    (map flag_word fs, back) (Some (lines.Class fs name)) (split_again (map flag_word fs) back)
    (bind_is (all_of (flag_at places.Class) (map flag_word fs)) (λ fs. whole (λ name. lines.Class fs name) name_at back) fs (Some (lines.Class fs name)) (flags_again places.Class fs are)
    (whole_again (λ name. lines.Class fs name) name_reader name is))

pair_reader : IsReader (λ (x : List ℕ × List ℕ). (x.0 ∷ []) ++ (x.1 ∷ [])) (λ x. IsWord x.0 × IsWord x.1) (both name_at name_at)
pair_reader = both_reader name_reader name_reader

abbrev member : Declared → (List Flag → List ℕ → List ℕ → Line) → Words → Option Line
member declared make ws =
    split_last 2 ws >>= λ parts. all_of (flag_at declared) parts.0 >>= λ fs. whole (λ x. make fs x.0 x.1) (both name_at name_at) parts.1

member_takes : (declared : Declared) (keyword : Keyword) (make : List Flag → List ℕ → List ℕ → Line) (ws : Words) (l : Line) → member declared make ws ≡ Some l
    → ((fs : List Flag) (name descriptor : List ℕ) → line_words (make fs name descriptor) ≡ keyword_word keyword ∷ (map flag_word fs ++ name ∷ descriptor ∷ []))
    → ((fs : List Flag) (name descriptor : List ℕ) → AreAllowed declared fs → IsWord name → IsWord descriptor → IsSpelled (make fs name descriptor)) → Takes keyword ws l
member_takes declared keyword make ws l e words fits =
    let p = some_is (split_last 2 ws) (λ parts. all_of (flag_at declared) parts.0 >>= λ fs. whole (λ x. make fs x.0 x.1) (both name_at name_at) parts.1) l e in
    let f = some_is (all_of (flag_at declared) p.0.0) (λ fs. whole (λ x. make fs x.0 x.1) (both name_at name_at) p.0.1) l p.2 in
    let parts = split_takes 2 ws p.0.0 p.0.1 p.1 in
    let flags = flags_are declared p.0.0 f.0 f.1 in
    let last = whole_takes (λ x. make f.0 x.0 x.1) pair_reader p.0.1 l f.2 in
    subst (λ (o : Line). Takes keyword ws o) last.made
    (record {
      words = ap (λ (vs : Words). keyword_word keyword ∷ vs) (parts.0 ∙ (λ i. flags.0 i ++ last.parts i)) ∙ sym (words f.0 last.value.0 last.value.1);
      fits = fits f.0 last.value.0 last.value.1 flags.1 last.fits.0 last.fits.1;
    })

member_again : (declared : Declared) (make : List Flag → List ℕ → List ℕ → Line) (fs : List Flag) (name descriptor : List ℕ) → AreAllowed declared fs → IsWord name → IsWord descriptor
    → member declared make (map flag_word fs ++ name ∷ descriptor ∷ []) ≡ Some (make fs name descriptor)
member_again declared make fs name descriptor are is be =
    let back : Words = name ∷ descriptor ∷ [] in
    bind_is (split_last 2 (map flag_word fs ++ back)) (λ parts. all_of (flag_at declared) parts.0 >>= λ fs. whole (λ x. make fs x.0 x.1) (both name_at name_at) parts.1)
    (map flag_word fs, back) (Some (make fs name descriptor)) (split_again (map flag_word fs) back)
    (bind_is (all_of (flag_at declared) (map flag_word fs)) (λ fs. whole (λ x. make fs x.0 x.1) (both name_at name_at) back) fs (Some (make fs name descriptor)) (flags_again declared fs are)
    (whole_again (λ x. make fs x.0 x.1) pair_reader (name, descriptor) (is, be)))

stack_reader : IsReader (λ (x : ℕ × ℕ). (decimal x.0 ∷ []) ++ (codes "locals" ∷ (decimal x.1 ∷ []))) (λ x. (x.0 < 2 ^ 16) × (x.1 < 2 ^ 16)) (both (number_at 65535) (behind (codes "locals") (number_at 65535)))
stack_reader = both_reader number16 (behind_reader (codes "locals") number16)

label_reader : (text : List ℕ) → IsReader (λ (w : List ℕ). text ∷ w ∷ []) IsWord (label_at text)
label_reader text = behind_reader text name_reader

abbrev Row : Type 0
Row = Option (List ℕ) × (List ℕ × (List ℕ × List ℕ))

catch_reader : IsReader (λ (x : Row). (caught_word x.0 ∷ []) ++ ((codes "from" ∷ x.1.0 ∷ []) ++ ((codes "to" ∷ x.1.1.0 ∷ []) ++ (codes "using" ∷ x.1.1.1 ∷ []))))
    (λ x. IsCaught x.0 × (IsWord x.1.0 × (IsWord x.1.1.0 × IsWord x.1.1.1))) (both caught_at (both (label_at (codes "from")) (both (label_at (codes "to")) (label_at (codes "using")))))
catch_reader = both_reader caught_reader (both_reader (label_reader (codes "from")) (both_reader (label_reader (codes "to")) (label_reader (codes "using"))))

frame_takes : (ws : Words) (l : Line) → frame_line ws ≡ Some l → Takes keywords.Frame ws l
frame_takes ws l e =
    let r = frame_types_at ws in
    let bar = some_is (after (codes "|") r.1) (λ rest. all_of frame_type_at rest >>= λ stack. Some (lines.Frame r.0 stack)) l e in
    let s = some_is (all_of frame_type_at bar.0) (λ stack. Some (lines.Frame r.0 stack)) l bar.2 in
    let locals = many_takes frame_type_reader (length ws) ws in
    let rest = after_takes (codes "|") r.1 bar.0 bar.1 in
    let stack = all_takes frame_type_reader bar.0 s.0 s.1 in
    subst (λ (o : Line). Takes keywords.Frame ws o) (some_same (lines.Frame r.0 s.0) l s.2)
    (record {
      words = ap (λ (vs : Words). codes "frame" ∷ vs) (locals.0 ∙ ap (λ (vs : Words). flat_map frame_type_words r.0 ++ vs) (rest ∙ ap (λ (vs : Words). codes "|" ∷ vs) stack.0));
      fits = (locals.1, stack.1);
    })

frame_again : (locals stack : List FrameType) → AreFrameTypes locals → AreFrameTypes stack
    → frame_line (flat_map frame_type_words locals ++ codes "|" ∷ flat_map frame_type_words stack) ≡ Some (lines.Frame locals stack)
frame_again locals stack are be =
    let back : Words = codes "|" ∷ flat_map frame_type_words stack in
    let types = list_again frame_type_reader frame_type_words_some locals back are refl in
    ap (λ (r : List FrameType × Words). after (codes "|") r.1 >>= λ rest. all_of frame_type_at rest >>= λ stack. Some (lines.Frame r.0 stack)) types
    ∙ bind_is (after (codes "|") back) (λ rest. all_of frame_type_at rest >>= λ stack. Some (lines.Frame locals stack)) (flat_map frame_type_words stack) (Some (lines.Frame locals stack))
    (after_again (codes "|") (flat_map frame_type_words stack))
    (bind_is (all_of frame_type_at (flat_map frame_type_words stack)) (λ stack. Some (lines.Frame locals stack)) stack (Some (lines.Frame locals stack))
    (all_again frame_type_reader frame_type_words_some stack be refl) refl)

keyword_takes : (keyword : Keyword) (ws : Words) (l : Line) → keyword_line keyword ws ≡ Some l → Takes keyword ws l
keyword_takes keywords.Class ws l e = class_takes ws l e
keyword_takes keywords.Super ws l e = made keywords.Super lines.Super ws l (whole_takes lines.Super name_reader ws l e) (λ a. refl) (λ a is. is)
keyword_takes keywords.Implements ws l e = made keywords.Implements lines.Implements ws l (whole_takes lines.Implements name_reader ws l e) (λ a. refl) (λ a is. is)
keyword_takes keywords.Field ws l e = member_takes places.Field keywords.Field lines.Field ws l e (λ fs name descriptor. refl) (λ fs name descriptor are is be. (are, is, be))
keyword_takes keywords.Method ws l e = member_takes places.Method keywords.Method lines.Method ws l e (λ fs name descriptor. refl) (λ fs name descriptor are is be. (are, is, be))
keyword_takes keywords.Stack ws l e =
    made keywords.Stack (λ x. lines.Stack x.0 x.1) ws l (whole_takes (λ x. lines.Stack x.0 x.1) stack_reader ws l e) (λ a. refl) (λ a is. is)
keyword_takes keywords.Frame ws l e = frame_takes ws l e
keyword_takes keywords.Catch ws l e =
    made keywords.Catch (λ x. lines.Catch x.0 x.1.0 x.1.1.0 x.1.1.1) ws l (whole_takes (λ x. lines.Catch x.0 x.1.0 x.1.1.0 x.1.1.1) catch_reader ws l e) (λ a. refl)
    (λ a is. (is.0, is.1.0, is.1.1.0, is.1.1.1))
keyword_takes keywords.End ws l e =
    let end = ended_is lines.End l ws e in
    subst (λ (o : Line). Takes keywords.End ws o) end.1 (record { words = ap (λ (vs : Words). codes "end" ∷ vs) end.0; fits = tt })

-- ---- labels

label_is : (w label : List ℕ) → label_in w ≡ Some label → w ≡ label ++ codes ":"
label_is w label e =
    let at = length w - 1 in
    let t = cond_some (same_word (drop at w) (codes ":")) (Some (take at w)) label e in
    let front : take at w ≡ label = some_same _ _ t.1 in
    let colon : drop at w ≡ codes ":" = same_is (drop at w) (codes ":") t.0 in
    sym (take-append-drop at w) ∙ (λ i. front i ++ colon i)

pub label_again : (label : List ℕ) → label_in (label ++ codes ":") ≡ Some label
label_again label =
    let size : length label ≡ length (label ++ codes ":") - 1 = omega (arith, length-append label (codes ":")) in
    let colon : same_word (drop (length (label ++ codes ":") - 1) (label ++ codes ":")) (codes ":") ≡ true = ap (λ w. same_word w (codes ":")) (drop_at label (codes ":") _ size) in
    rw colon (ap (λ (w : List ℕ). some w) (take_at label (codes ":") _ size))

-- ---- the table of instructions

-- what is true of each instruction with a name: it is read by its name, and its name is a word, no keyword, no label and no comment
abbrev is_read : Option ℕ → ℕ → Bool
is_read None n = false
is_read (Some m) n = eqb m n

abbrev is_none : {A : Type 0} → Option A → Bool
is_none None = true
is_none (Some x) = false

abbrev row_test : List Mnemonic → ℕ → List ℕ → Bool
row_test ms n name = is_word name && is_none (named keyword_rows name) && is_none (label_in name) && not (begins_comment name) && is_read (index_named ms name) n

abbrev tested : List Mnemonic → ℕ → List ℕ → Bool
tested ms n [] = true
tested ms n (b ∷ bs) = row_test ms n (b ∷ bs)

abbrev table_test : List Mnemonic → ℕ → List Mnemonic → Bool
table_test ms n [] = true
table_test ms n (m ∷ rows) = tested ms n m.name && table_test ms (suc n) rows

table_passes : table_test mnemonics 0 mnemonics ≡ true
unfolding mnemonics
table_passes = refl

row_passes : (ms rows : List Mnemonic) (n i : ℕ) → table_test ms n rows ≡ true → i < length rows → tested ms (n + i) (get_or rows i nameless).name ≡ true
row_passes ms [] n i e below = absurd (omega arith)
row_passes ms (m ∷ rows) n zero e below = let same : n ≡ n + 0 = omega arith in subst (λ (k : ℕ). tested ms k m.name ≡ true) same (both_true (tested ms n m.name) (table_test ms (suc n) rows) e).0
row_passes ms (m ∷ rows) n (suc i) e below =
    let same : suc n + i ≡ n + suc i = omega arith in
    subst (λ (k : ℕ). tested ms k (get_or rows i nameless).name ≡ true) same (row_passes ms rows (suc n) i (both_true (tested ms n m.name) (table_test ms (suc n) rows) e).1 (omega arith))

-- what the table says of an instruction with a name
pub record IsNamed (opcode : ℕ) (name : List ℕ) : Type 0 where
  pub word : IsWord name
  pub no_keyword : named keyword_rows name ≡ None
  pub no_label : label_in name ≡ None
  pub no_comment : begins_comment name ≡ false
  pub again : index_named mnemonics name ≡ Some opcode

none_is : {A : Type 0} (o : Option A) → is_none o ≡ true → o ≡ None
none_is None e = refl
none_is (Some x) e = absurd cc

read_is : (o : Option ℕ) (n : ℕ) → is_read o n ≡ true → o ≡ Some n
read_is None n e = absurd cc
read_is (Some m) n e = ap (λ (k : ℕ). some k) (eqb-true m n e)

not_true : (b : Bool) → not b ≡ true → b ≡ false
not_true true e = absurd cc
not_true false e = refl

named_by : (opcode : ℕ) (name : List ℕ) → 0 < length name → tested mnemonics opcode name ≡ true → IsNamed opcode name
named_by opcode [] some e = absurd (omega arith)
named_by opcode (b ∷ bs) some e =
    let name : List ℕ = b ∷ bs in
    let t4 = both_true (is_word name && is_none (named keyword_rows name) && is_none (label_in name) && not (begins_comment name)) (is_read (index_named mnemonics name) opcode) e in
    let t3 = both_true (is_word name && is_none (named keyword_rows name) && is_none (label_in name)) (not (begins_comment name)) t4.0 in
    let t2 = both_true (is_word name && is_none (named keyword_rows name)) (is_none (label_in name)) t3.0 in
    let t1 = both_true (is_word name) (is_none (named keyword_rows name)) t2.0 in
    record { word = t1.0; no_keyword = none_is _ t1.1; no_label = none_is _ t2.1; no_comment = not_true _ t3.1; again = read_is _ _ t4.1 }

-- an opcode behind the table has no name
below_table : (ms : List Mnemonic) (opcode : ℕ) → 0 < length (get_or ms opcode nameless).name → opcode < length ms
below_table [] opcode some = absurd (omega arith)
below_table (m ∷ ms) zero some = omega arith
below_table (m ∷ ms) (suc n) some = omega (arith, below_table ms n some)

pub instruction_named : (opcode : ℕ) → 0 < length (mnemonic_of opcode).name → IsNamed opcode (mnemonic_of opcode).name
unfolding mnemonic_of
instruction_named opcode some =
    let same : 0 + opcode ≡ opcode = omega arith in
    let passes = row_passes mnemonics mnemonics 0 opcode table_passes (below_table mnemonics opcode some) in
    named_by opcode (get_or mnemonics opcode nameless).name some (subst (λ (k : ℕ). tested mnemonics k (get_or mnemonics opcode nameless).name ≡ true) same passes)

opcode_takes : (w : List ℕ) (opcode : ℕ) → opcode_named w ≡ Some opcode → (w ≡ (mnemonic_of opcode).name) × (0 < length w)
unfolding opcode_named mnemonic_of
opcode_takes w opcode e =
    let t = cond_none (eqb (length w) 0) (position (λ m. same_word m.name w) mnemonics) opcode e in
    let found = position-Some (λ m. same_word m.name w) mnemonics opcode nameless t.1 in
    (sym (same_is (get_or mnemonics opcode nameless).name w found.1), omega (arith, eqb-false _ _ t.0))

opcode_again : (opcode : ℕ) (name : List ℕ) → index_named mnemonics name ≡ Some opcode → opcode_named name ≡ Some opcode
unfolding opcode_named
opcode_again opcode name e = e

-- ---- lines of instructions

named_takes_line : (first : List ℕ) (ws : Words) (l : Line) → named_line first ws ≡ Some l → TakesLine (first ∷ ws) l
named_takes_line first ws l e = by_opcode (opcode_named first) refl e
  where
    by_opcode : (o : Option ℕ) → opcode_named first ≡ o → instruction_line o ws ≡ Some l → TakesLine (first ∷ ws) l
    by_opcode None n e = absurd cc
    by_opcode (Some opcode) n e =
        let ops = some_is (operands_of (mnemonic_of opcode).operands ws) (λ ops. Some (lines.Instruction opcode ops)) l e in
        let t = operands_take (mnemonic_of opcode).operands ws ops.0 ops.1 in
        let name = opcode_takes first opcode n in
        subst (λ (o : Line). TakesLine (first ∷ ws) o) (some_same (lines.Instruction opcode ops.0) l ops.2)
        (record { words = (λ i. name.0 i ∷ t.words i); fits = record { named = omega (arith, name.1, ap length name.0); kind = t.kind_is; fits = t.fits } })

instruction_again : (opcode : ℕ) (ops : Operands) → IsInstruction opcode ops → line_of (line_words (lines.Instruction opcode ops)) ≡ Some (lines.Instruction opcode ops)
instruction_again opcode ops is =
    let name = (mnemonic_of opcode).name in
    let ws = operand_words ops in
    let facts = instruction_named opcode is.named in
    ap (λ o. labelled o name ws) facts.no_label ∙ ap (λ o. keyed o name ws) facts.no_keyword ∙ ap (λ o. instruction_line o ws) (opcode_again opcode name facts.again)
    ∙ bind_is (operands_of (mnemonic_of opcode).operands ws) (λ ops. Some (lines.Instruction opcode ops)) ops (Some (lines.Instruction opcode ops))
    (ap (λ kind. operands_of kind ws) (sym is.kind) ∙ operands_again ops is.fits) refl

-- ---- any line

keyed_takes : (first : List ℕ) (ws : Words) (l : Line) (o : Option Keyword) → named keyword_rows first ≡ o → keyed o first ws ≡ Some l → TakesLine (first ∷ ws) l
keyed_takes first ws l None n e = named_takes_line first ws l e
keyed_takes first ws l (Some keyword) n e =
    let word : keyword_word keyword ≡ first = sym (named_takes keyword_word keyword_rows first keyword (refl, (refl, (refl, (refl, (refl, (refl, (refl, (refl, (refl, tt))))))))) n) in
    subst (λ (w : List ℕ). TakesLine (w ∷ ws) l) word (keyword_takes keyword ws l e)

labelled_takes : (first : List ℕ) (ws : Words) (l : Line) (o : Option (List ℕ)) → label_in first ≡ o → labelled o first ws ≡ Some l → TakesLine (first ∷ ws) l
labelled_takes first ws l None n e = keyed_takes first ws l (named keyword_rows first) refl e
labelled_takes first ws l (Some label) n e =
    let t = cond_some (is_word label) (ended (lines.Label label) ws) l e in
    let end = ended_is (lines.Label label) l ws t.1 in
    let word = label_is first label n in
    subst (λ (o : Line). TakesLine (first ∷ ws) o) end.1 (record { words = (λ i. word i ∷ end.0 i); fits = t.0 })

pub line_takes : (ws : Words) (l : Line) → line_of ws ≡ Some l → TakesLine ws l
line_takes [] l e = absurd cc
line_takes (first ∷ ws) l e = labelled_takes first ws l (label_in first) refl e

pub line_again : (l : Line) → IsLine l → line_of (line_words l) ≡ Some l
line_again lines.Blank fits = absurd fits
line_again (lines.Class fs name) fits = class_again fs name fits.0 fits.1
line_again (lines.Super name) fits = whole_again lines.Super name_reader name fits
line_again (lines.Implements name) fits = whole_again lines.Implements name_reader name fits
line_again (lines.Field fs name descriptor) fits = member_again places.Field lines.Field fs name descriptor fits.0 fits.1 fits.2
line_again (lines.Method fs name descriptor) fits = member_again places.Method lines.Method fs name descriptor fits.0 fits.1 fits.2
line_again (lines.Stack stack locals) fits = whole_again (λ x. lines.Stack x.0 x.1) stack_reader (stack, locals) fits
line_again (lines.Label label) fits =
    ap (λ o. labelled o (label ++ codes ":") []) (label_again label) ∙ rw fits.0 refl
line_again (lines.Frame locals stack) fits = frame_again locals stack fits.0 fits.1
line_again (lines.Catch caught from to using) fits =
    whole_again (λ x. lines.Catch x.0 x.1.0 x.1.1.0 x.1.1.1) catch_reader (caught, (from, (to, using))) (fits.0, (fits.1, (fits.2, fits.3)))
line_again lines.End fits = refl
line_again (lines.Instruction opcode ops) fits = instruction_again opcode ops fits

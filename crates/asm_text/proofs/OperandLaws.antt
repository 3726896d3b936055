-- The operands of each kind are read from just their words.
use Rattle.std.proofs.Common.{◌≡◌, ℕ, ◌^◌, ◌<◌, ℤ, List, [], ◌∷◌, ◌++◌, Some, refl, sym, ap, subst, ◌∙◌, arith}
use Rattle.std.specs.Prelude.{decimal, codes, FitsSigned}
use Rattle.std.specs.Int.{w16, w32}
use Rattle.std.specs.Fmt.{signed_decimal}
use Rattle.std.specs.List.{flat_map, AllByRecursion}
use Rattle.items.specs.Options.{◌>>=◌}
use Rattle.items.proofs.Binds.{some_is, bind_is}
use Rattle.asm_text.specs.declared.instruction.Operands.{Operands}
use Rattle.asm_text.specs.declared.instruction.Operands.TheVariants as operands
use Rattle.asm_text.specs.declared.instruction.OperandKind.{OperandKind}
use Rattle.asm_text.specs.declared.instruction.OperandKind.TheVariants as kinds
use Rattle.asm_text.specs.declared.instruction.Case.{Case}
use Rattle.asm_text.specs.declared.instruction.Element.{Element}
use Rattle.asm_text.specs.Words.{IsWord}
use Rattle.asm_text.specs.Mnemonics.{named, element_rows, element_word}
use Rattle.asm_text.specs.LineText.{operand_words, case_words, IsOperands, IsCase, AreNames, kind_of}
use Rattle.asm_text.specs.Parsing.{Words, name_at, number_at, int_at, both, ended, whole, all_of, split_last, default_at, case_at, element_at, table_operands, lookup_operands, operands_of, most16, most32}
use Rattle.asm_text.proofs.Tests.{some_same}
use Rattle.asm_text.proofs.ReaderLaws.{IsReader, IsMade, name_reader, both_reader, behind_reader, ended_is, whole_takes, whole_again, all_takes, all_again, ones, split_takes, split_again}
use Rattle.asm_text.proofs.PartLaws.{reader8, reader16, reader32, number8, number16, constant_reader, case_reader, element_takes, element_again}

-- the words are those of these operands, which are of the kind
pub record TakesOperands (kind : OperandKind) (ws : Words) (ops : Operands) : Type 0 where
  pub words : ws ≡ operand_words ops
  pub kind_is : kind_of ops ≡ kind
  pub fits : IsOperands ops

-- made of a value whose words are those of the operands
made : {A : Type 0} {s : A → Words} {F : A → Type 0} (kind : OperandKind) (make : A → Operands) (ws : Words) (ops : Operands) → IsMade make s F ws ops
    → ((a : A) → s a ≡ operand_words (make a)) → ((a : A) → kind_of (make a) ≡ kind) → ((a : A) → F a → IsOperands (make a)) → TakesOperands kind ws ops
made kind make ws ops m words kinds fits =
    subst (λ (o : Operands). TakesOperands kind ws o) m.made
    (record { words = m.parts ∙ words m.value; kind_is = kinds m.value; fits = fits m.value m.fits })

-- ---- the readers of some operands

member_reader : IsReader (λ (x : List ℕ × (List ℕ × List ℕ)). (x.0 ∷ []) ++ ((x.1.0 ∷ []) ++ (x.1.1 ∷ []))) (λ x. IsWord x.0 × (IsWord x.1.0 × IsWord x.1.1)) (both name_at (both name_at name_at))
member_reader = both_reader name_reader (both_reader name_reader name_reader)

increment_reader : IsReader (λ (x : ℕ × ℤ). (decimal x.0 ∷ []) ++ (signed_decimal x.1 ∷ [])) (λ x. (x.0 < 2 ^ 16) × FitsSigned w16 x.1) (both (number_at 65535) (int_at most16))
increment_reader = both_reader number16 reader16

dimensions_reader : IsReader (λ (x : List ℕ × ℕ). (x.0 ∷ []) ++ (decimal x.1 ∷ [])) (λ x. IsWord x.0 × (x.1 < 2 ^ 8)) (both name_at (number_at 255))
dimensions_reader = both_reader name_reader number8

default_reader : IsReader (λ (w : List ℕ). codes "default" ∷ w ∷ []) IsWord default_at
default_reader = behind_reader (codes "default") name_reader

element_reader_takes : (ws : Words) (ops : Operands) → whole (λ x. x) element_at ws ≡ Some ops → TakesOperands kinds.Element ws ops
element_reader_takes [] ops e = absurd cc
element_reader_takes (w ∷ ws) ops e =
    let o = some_is (element_at (w ∷ ws)) (λ x. ended x.0 x.1) ops e in
    let n = some_is (named element_rows w) (λ x. Some (operands.Element x, ws)) o.0 o.1 in
    let pair : (operands.Element n.0, ws) ≡ o.0 = some_same _ _ n.2 in
    let end = ended_is o.0.0 ops o.0.1 o.2 in
    let rest : ws ≡ [] = ap (λ (p : Operands × Words). p.1) pair ∙ end.0 in
    let same : operands.Element n.0 ≡ ops = ap (λ (p : Operands × Words). p.0) pair ∙ end.1 in
    subst (λ (o : Operands). TakesOperands kinds.Element (w ∷ ws) o) same
    (record { words = (λ i. element_takes w n.0 n.1 i ∷ rest i); kind_is = refl; fits = tt })

element_reader_again : (x : Element) → whole (λ x. x) element_at (element_word x ∷ []) ≡ Some (operands.Element x)
element_reader_again x =
    bind_is (element_at (element_word x ∷ [])) (λ y. ended y.0 y.1) (operands.Element x, []) (Some (operands.Element x))
    (bind_is (named element_rows (element_word x)) (λ y. Some (operands.Element y, [])) x (Some (operands.Element x, [])) (element_again x) refl) refl

-- ---- switches

table_takes : (ws : Words) (ops : Operands) → table_operands ws ≡ Some ops → TakesOperands kinds.Table ws ops
table_takes ws ops e =
    let p = some_is (split_last 2 ws) (λ parts. int_at most32 parts.0 >>= λ low. all_of name_at low.1 >>= λ labels. whole (λ default. operands.Table low.0 labels default) default_at parts.1) ops e in
    let l = some_is (int_at most32 p.0.0) (λ low. all_of name_at low.1 >>= λ labels. whole (λ default. operands.Table low.0 labels default) default_at p.0.1) ops p.2 in
    let n = some_is (all_of name_at l.0.1) (λ labels. whole (λ default. operands.Table l.0.0 labels default) default_at p.0.1) ops l.2 in
    let parts = split_takes 2 ws p.0.0 p.0.1 p.1 in
    let low = reader32.takes p.0.0 l.0 l.1 in
    let labels = all_takes name_reader l.0.1 n.0 n.1 in
    let last = whole_takes (λ default. operands.Table l.0.0 n.0 default) default_reader p.0.1 ops n.2 in
    let front : p.0.0 ≡ signed_decimal l.0.0 ∷ n.0 = low.0 ∙ ap (λ (vs : Words). signed_decimal l.0.0 ∷ vs) (labels.0 ∙ ones n.0) in
    subst (λ (o : Operands). TakesOperands kinds.Table ws o) last.made
    (record {
      words = parts.0 ∙ (λ i. front i ++ last.parts i);
      kind_is = refl;
      fits = (low.1, labels.1, last.fits);
    })

lookup_takes : (ws : Words) (ops : Operands) → lookup_operands ws ≡ Some ops → TakesOperands kinds.Lookup ws ops
lookup_takes ws ops e =
    let p = some_is (split_last 2 ws) (λ parts. all_of case_at parts.0 >>= λ cases. whole (λ default. operands.Lookup cases default) default_at parts.1) ops e in
    let n = some_is (all_of case_at p.0.0) (λ cases. whole (λ default. operands.Lookup cases default) default_at p.0.1) ops p.2 in
    let parts = split_takes 2 ws p.0.0 p.0.1 p.1 in
    let cases = all_takes case_reader p.0.0 n.0 n.1 in
    let last = whole_takes (λ default. operands.Lookup n.0 default) default_reader p.0.1 ops n.2 in
    subst (λ (o : Operands). TakesOperands kinds.Lookup ws o) last.made
    (record {
      words = parts.0 ∙ (λ i. cases.0 i ++ last.parts i);
      kind_is = refl;
      fits = (cases.1, last.fits);
    })

table_again : (low : ℤ) (labels : List (List ℕ)) (default : List ℕ) → FitsSigned w32 low → AreNames labels → IsWord default
    → table_operands (operand_words (operands.Table low labels default)) ≡ Some (operands.Table low labels default)
table_again low labels default fits names is =
    let back : Words = codes "default" ∷ default ∷ [] in
    let front : Words = signed_decimal low ∷ labels in
    let words = all_again name_reader (λ w. omega arith) labels names refl in
    bind_is (split_last 2 (front ++ back)) (λ parts. int_at most32 parts.0 >>= λ low. all_of name_at low.1 >>= λ labels. whole (λ default. operands.Table low.0 labels default) default_at parts.1)
    (front, back) (Some (operands.Table low labels default)) (split_again front back)
    (bind_is (int_at most32 front) (λ low. all_of name_at low.1 >>= λ labels. whole (λ default. operands.Table low.0 labels default) default_at back)
    (low, labels) (Some (operands.Table low labels default)) (reader32.again low labels fits)
    (bind_is (all_of name_at labels) (λ labels. whole (λ default. operands.Table low labels default) default_at back)
    labels (Some (operands.Table low labels default)) (ap (all_of name_at) (sym (ones labels)) ∙ words)
    (whole_again (λ default. operands.Table low labels default) default_reader default is)))

lookup_again : (cases : List Case) (default : List ℕ) → AllByRecursion IsCase cases → IsWord default
    → lookup_operands (operand_words (operands.Lookup cases default)) ≡ Some (operands.Lookup cases default)
lookup_again cases default fits is =
    let back : Words = codes "default" ∷ default ∷ [] in
    let front : Words = flat_map case_words cases in
    bind_is (split_last 2 (front ++ back)) (λ parts. all_of case_at parts.0 >>= λ cases. whole (λ default. operands.Lookup cases default) default_at parts.1)
    (front, back) (Some (operands.Lookup cases default)) (split_again front back)
    (bind_is (all_of case_at front) (λ cases. whole (λ default. operands.Lookup cases default) default_at back)
    cases (Some (operands.Lookup cases default)) (all_again case_reader (λ c. omega arith) cases fits refl)
    (whole_again (λ default. operands.Lookup cases default) default_reader default is))

-- ---- all kinds

pub operands_take : (kind : OperandKind) (ws : Words) (ops : Operands) → operands_of kind ws ≡ Some ops → TakesOperands kind ws ops
operands_take kinds.Nothing ws ops e =
    let end = ended_is operands.Nothing ops ws e in
    subst (λ (o : Operands). TakesOperands kinds.Nothing ws o) end.1 (record { words = end.0; kind_is = refl; fits = tt })
operands_take kinds.Byte ws ops e = made kinds.Byte operands.Byte ws ops (whole_takes operands.Byte reader8 ws ops e) (λ a. refl) (λ a. refl) (λ a is. is)
operands_take kinds.Short ws ops e = made kinds.Short operands.Short ws ops (whole_takes operands.Short reader16 ws ops e) (λ a. refl) (λ a. refl) (λ a is. is)
operands_take kinds.Constant ws ops e = made kinds.Constant operands.Constant ws ops (whole_takes operands.Constant constant_reader ws ops e) (λ a. refl) (λ a. refl) (λ a is. is)
operands_take kinds.Local ws ops e = made kinds.Local operands.Local ws ops (whole_takes operands.Local number16 ws ops e) (λ a. refl) (λ a. refl) (λ a is. is)
operands_take kinds.Increment ws ops e =
    made kinds.Increment (λ x. operands.Increment x.0 x.1) ws ops (whole_takes (λ x. operands.Increment x.0 x.1) increment_reader ws ops e) (λ a. refl) (λ a. refl) (λ a is. is)
operands_take kinds.Branch ws ops e = made kinds.Branch operands.Branch ws ops (whole_takes operands.Branch name_reader ws ops e) (λ a. refl) (λ a. refl) (λ a is. is)
operands_take kinds.Table ws ops e = table_takes ws ops e
operands_take kinds.Lookup ws ops e = lookup_takes ws ops e
operands_take kinds.Member ws ops e =
    made kinds.Member (λ x. operands.Member x.0 x.1.0 x.1.1) ws ops (whole_takes (λ x. operands.Member x.0 x.1.0 x.1.1) member_reader ws ops e) (λ a. refl) (λ a. refl)
    (λ a is. (is.0, is.1.0, is.1.1))
operands_take kinds.Class ws ops e = made kinds.Class operands.Class ws ops (whole_takes operands.Class name_reader ws ops e) (λ a. refl) (λ a. refl) (λ a is. is)
operands_take kinds.Element ws ops e = element_reader_takes ws ops e
operands_take kinds.Dimensions ws ops e =
    made kinds.Dimensions (λ x. operands.Dimensions x.0 x.1) ws ops (whole_takes (λ x. operands.Dimensions x.0 x.1) dimensions_reader ws ops e) (λ a. refl) (λ a. refl) (λ a is. is)

-- and read again
pub operands_again : (ops : Operands) → IsOperands ops → operands_of (kind_of ops) (operand_words ops) ≡ Some ops
operands_again operands.Nothing fits = refl
operands_again (operands.Byte n) fits = whole_again operands.Byte reader8 n fits
operands_again (operands.Short n) fits = whole_again operands.Short reader16 n fits
operands_again (operands.Constant c) fits = whole_again operands.Constant constant_reader c fits
operands_again (operands.Local n) fits = whole_again operands.Local number16 n fits
operands_again (operands.Increment n by) fits = whole_again (λ x. operands.Increment x.0 x.1) increment_reader (n, by) fits
operands_again (operands.Branch label) fits = whole_again operands.Branch name_reader label fits
operands_again (operands.Table low labels default) fits = table_again low labels default fits.0 fits.1 fits.2
operands_again (operands.Lookup cases default) fits = lookup_again cases default fits.0 fits.1
operands_again (operands.Member class name descriptor) fits =
    whole_again (λ x. operands.Member x.0 x.1.0 x.1.1) member_reader (class, (name, descriptor)) (fits.0, (fits.1, fits.2))
operands_again (operands.Class name) fits = whole_again operands.Class name_reader name fits
operands_again (operands.Element x) fits = element_reader_again x
operands_again (operands.Dimensions name n) fits = whole_again (λ x. operands.Dimensions x.0 x.1) dimensions_reader (name, n) fits

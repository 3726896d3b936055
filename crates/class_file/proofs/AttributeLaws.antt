-- The laws of the readers of attributes and of code.
use Rattle.std.proofs.Common.{◌≡◌, ℕ, zero, suc, ◌<◌, Bool, true, false, cond, List, [], ◌∷◌, ◌++◌, length, Option, Some, None, Ok, Err, refl, sym, ap, subst, ◌∙◌, append_assoc, arith}
use Rattle.std.specs.Prelude.{◌&&◌, ◌||◌, not}
use Rattle.std.specs.Option.{option_map_or}
use Rattle.std.specs.List.{flat_map, AllByRecursion}
use Rattle.class_model.specs.declared.constant.Const.{Const}
use Rattle.class_model.specs.declared.attribute.Attribute.{Attribute}
use Rattle.class_model.specs.declared.attribute.Body.{Body}
use Rattle.class_model.specs.declared.attribute.Body.TheVariants.{Code, Constant, Other}
use Rattle.class_model.specs.declared.attribute.CodeBody.{CodeBody}
use Rattle.class_model.specs.declared.attribute.Row.{Row}
use Rattle.class_model.specs.declared.attribute.CodeAttribute.{CodeAttribute}
use Rattle.class_model.specs.declared.attribute.CodeExtra.{CodeExtra}
use Rattle.class_model.specs.declared.attribute.CodeExtra.TheVariants as extras
use Rattle.class_grammar.specs.declared.class_why.ClassWhy.TheVariants as whys
use Rattle.class_grammar.specs.declared.class_why.ClassWhy.TheVariants.{Short}
use Rattle.class_grammar.specs.declared.holder.Holder.{Holder}
use Rattle.class_grammar.specs.declared.holder.Holder.TheVariants as holders
use Rattle.class_grammar.specs.Pool.{text_at}
use Rattle.class_grammar.specs.Layout.{u2, u4, length_and_bytes, code_extra, code_attribute, row, code, body, attribute}
use Rattle.class_grammar.specs.Layout as layout
use Rattle.class_grammar.specs.Ranges.{IsU2, IsU4}
use Rattle.class_grammar.specs.Ranges as ranges
use Rattle.class_grammar.specs.Attributes.{is_recognized, is_stack_map_name, has_body_name, has_extra_name, is_recognized_body, is_map, at_most_one, is_extra_of_name, AreExtras, HasOwnAttributes, IsAttributeAt, AreAttributesAt}
use Rattle.byte_reader.specs.Reader.{fault_at, verify, keep, many}
use Rattle.class_file.specs.Numbers.{ClassReader, u2_at, u4_at, run_at, table_at, sized_bytes_at, sized_value_at}
use Rattle.class_file.specs.Attributes.{Name, name_of, name_at, stack_map_at, other_extra_at, extra_of_name, extra_at, extras_at, row_at, rows_at, is_code_length, code_bytes_at, code_at, other_at, recognized_at, attribute_of_name, attribute_at, attributes_at}
use Rattle.class_file.proofs.Ranges.{in_range, range_in}
use Rattle.byte_reader.proofs.ReaderLaws.{IsBytes, ok_of, done, ok_is, Takes, Takes-then, IsReader, wide16, wide32, both_reads, verify_reads, map_value_reads, count_then_reads, same_reads, AllByState, list_by_reads}
use Rattle.class_file.proofs.NumberLaws.{u2_reads, u4_reads, pair_reads, run_again, run_reads, sized_value_reads}

-- ---- names

-- the name of an attribute with its text in the pool
pub record IsName (pool : List Const) (name : Name) : Type 0 where
  pub index : IsU2 name.index
  pub text : text_at pool name.index ≡ Some name.text

name_is : (front : List ℕ) (index : ℕ) (rest : List ℕ) (o : Option (List ℕ)) (p : Name × List ℕ) → name_of front index rest o ≡ Ok p → (o ≡ Some p.0.text) × (p.0.index ≡ index) × (p.1 ≡ rest)
name_is front index rest None p e = absurd cc
name_is front index rest (Some text) p e =
    let q = ok_is (record { index = index; text = text }, rest) p e in
    (ap (λ (x : Name × List ℕ). Some x.0.text) q, sym (ap (λ (x : Name × List ℕ). x.0.index) q), sym (ap (λ (x : Name × List ℕ). x.1) q))

pub name_reads : (pool : List Const) → IsReader (name_at pool) (λ name. u2 name.index) (IsName pool)
unfolding name_at
name_reads pool = record {
  takes = λ bytes p fits e.
      let a = ok_of (u2_at bytes) (λ index. name_of bytes index.0 index.1 (text_at pool index.0)) p e in
      let n = name_is bytes a.0.0 a.0.1 (text_at pool a.0.0) p a.2 in
      let one = u2_reads.takes bytes a.0 fits a.1 in (
        subst (λ (r : List ℕ). Takes bytes (u2 p.0.index) r) (sym n.2) (subst (λ (k : ℕ). Takes bytes (u2 k) a.0.1) (sym n.1) one.0),
        record { index = subst IsU2 (sym n.1) one.1; text = ap (text_at pool) n.1 ∙ n.0 },
      );
  again = λ name rest h. let e = h.text in rw (u2_reads.again name.index rest h.index, e) refl;
}

-- ---- bytes

abbrev IsSized : List ℕ → Type 0
IsSized bytes = IsU4 (length bytes) × IsBytes bytes

pub bytes_all : (xs : List ℕ) → IsBytes xs → AllByRecursion ranges.IsU1 xs
bytes_all [] h = tt
bytes_all (x ∷ xs) h = (h 0, bytes_all xs (λ i. h (suc i)))

pub all_bytes : (xs : List ℕ) → AllByRecursion ranges.IsU1 xs → IsBytes xs
all_bytes [] h i = omega arith
all_bytes (x ∷ xs) h zero = h.0
all_bytes (x ∷ xs) h (suc i) = all_bytes xs h.1 i

pub sized_bytes_reads : IsReader sized_bytes_at length_and_bytes ranges.IsSized
sized_bytes_reads =
    same_reads ranges.IsSized (λ bs h. (h.0, bytes_all bs h.1)) (λ bs h. (h.0, all_bytes bs h.1))
    (count_then_reads {P = IsBytes} Short length wide32 (λ n. run_reads n))

-- ---- lists in which a recognized value comes once

once_more : (b seen : Bool) (rest : Bool → Bool) → (b ≡ true → seen ≡ false) → rest (seen || b) ≡ true → cond b (not seen && rest true) (rest seen) ≡ true
once_more true true rest once h = let no : true ≡ false = once refl in absurd cc
once_more true false rest once h = h
once_more false true rest once h = h
once_more false false rest once h = h

once_less : (b seen : Bool) (rest : Bool → Bool) → cond b (not seen && rest true) (rest seen) ≡ true → (b ≡ true → seen ≡ false) × (rest (seen || b) ≡ true)
once_less true true rest h = absurd cc
once_less true false rest h = (λ e. refl, h)
once_less false true rest h = (λ e. absurd cc, h)
once_less false false rest h = (λ e. refl, h)

-- each value is so, and the test is passed by one at the most
abbrev AreOnce : {A : Type 0} → (A → Type 0) → (A → Bool) → Bool → List A → Type 0
AreOnce P test seen xs = AllByRecursion P xs × (at_most_one test seen xs ≡ true)

abbrev IsOnce : {A : Type 0} → (A → Type 0) → (A → Bool) → Bool → ℕ → A → Type 0
IsOnce P test seen more x = P x × (test x ≡ true → seen ≡ false)

abbrev next_seen : {A : Type 0} → (A → Bool) → Bool → A → Bool
next_seen test seen x = seen || test x

once_by_state : {A : Type 0} (P : A → Type 0) (test : A → Bool) (seen : Bool) (xs : List A) → AllByState (IsOnce P test) (next_seen test) seen xs → AreOnce P test seen xs
once_by_state P test seen [] h = (tt, refl)
once_by_state P test seen (x ∷ xs) h =
    let others = once_by_state P test (seen || test x) xs h.1 in
    ((h.0.0, others.0), once_more (test x) seen (λ b. at_most_one test b xs) h.0.1 others.1)

by_state_once : {A : Type 0} (P : A → Type 0) (test : A → Bool) (seen : Bool) (xs : List A) → AreOnce P test seen xs → AllByState (IsOnce P test) (next_seen test) seen xs
by_state_once P test seen [] h = tt
by_state_once P test seen (x ∷ xs) h =
    let p = once_less (test x) seen (λ b. at_most_one test b xs) h.1 in
    ((h.0.0, p.0), by_state_once P test (seen || test x) xs (h.0.1, p.1))

all_by_state : {A : Type 0} (P : A → Type 0) (xs : List A) → AllByState (λ (state : Unit {0}) (more : ℕ) (x : A). P x) keep tt xs → AllByRecursion P xs
all_by_state P [] h = tt
all_by_state P (x ∷ xs) h = (h.0, all_by_state P xs h.1)

by_state_all : {A : Type 0} (P : A → Type 0) (xs : List A) → AllByRecursion P xs → AllByState (λ (state : Unit {0}) (more : ℕ) (x : A). P x) keep tt xs
by_state_all P [] h = tt
by_state_all P (x ∷ xs) h = (h.0, by_state_all P xs h.1)

pub record HasMany {A : Type 0} (P : A → Type 0) (n : ℕ) (xs : List A) : Type 0 where
  pub count : length xs ≡ n
  pub fit : AllByRecursion P xs

pub many_reads : {A : Type 0} {r : ClassReader A} {s : A → List ℕ} {P : A → Type 0} → IsReader r s P → (n : ℕ) → IsReader (many r n) (flat_map s) (λ xs. (length xs ≡ n) × AllByRecursion P xs)
many_reads {A = A} {P = P} reads n =
    same_reads (λ xs. (length xs ≡ n) × AllByRecursion P xs) (λ xs h. (h.0, all_by_state P xs h.1)) (λ xs h. (h.0, by_state_all P xs h.1))
    (list_by_reads {Is = λ (state : Unit {0}) (more : ℕ) (x : A). P x} keep (λ state more. reads) tt n)

-- many after their number
pub table_reads : {A : Type 0} {r : ClassReader A} {s : A → List ℕ} {P : A → Type 0} → IsReader r s P → IsReader (table_at (many r)) (layout.table s) (ranges.IsTable P)
table_reads {P = P} reads = count_then_reads {P = AllByRecursion P} Short length wide16 (many_reads reads)

-- ---- the attributes of a Code

abbrev IsExtra : List Const → CodeAttribute → Type 0
IsExtra pool a = ranges.IsCodeAttribute a × (is_extra_of_name pool a ≡ true)

abbrev test_map : CodeAttribute → Bool
test_map a = is_map a.body

-- what is read after the name of an attribute of a Code
record TakesExtra (seen : Bool) (name : Name) (bytes : List ℕ) (p : CodeAttribute × List ℕ) : Type 0 where
  pub named : p.0.name ≡ name.index
  pub takes : Takes bytes (length_and_bytes (code_extra p.0.body)) p.1
  pub fits : ranges.IsSized (code_extra p.0.body)
  pub extra : has_extra_name p.0.body name.text ≡ true
  pub once : is_map p.0.body ≡ true → seen ≡ false

map_takes : (seen : Bool) (name : Name) (bytes : List ℕ) (p : CodeAttribute × List ℕ) → is_stack_map_name name.text ≡ true → seen ≡ false → IsBytes bytes → stack_map_at name.index bytes ≡ Ok p → TakesExtra seen name bytes p
map_takes seen name bytes p known first fits e =
    let a = ok_of (sized_bytes_at bytes) (λ x. done (record { name = name.index; body = extras.StackMap x.0 }, x.1)) p e in
    let one = sized_bytes_reads.takes bytes a.0 fits a.1 in
    subst (λ (q : CodeAttribute × List ℕ). TakesExtra seen name bytes q) (ok_is (record { name = name.index; body = extras.StackMap a.0.0 }, a.0.1) p a.2)
    (record { named = refl; takes = one.0; fits = one.1; extra = known; once = λ e. first })

other_takes : (seen : Bool) (name : Name) (bytes : List ℕ) (p : CodeAttribute × List ℕ) → is_stack_map_name name.text ≡ false → IsBytes bytes → other_extra_at name.index bytes ≡ Ok p → TakesExtra seen name bytes p
other_takes seen name bytes p known fits e =
    let a = ok_of (sized_bytes_at bytes) (λ x. done (record { name = name.index; body = extras.Other x.0 }, x.1)) p e in
    let one = sized_bytes_reads.takes bytes a.0 fits a.1 in
    subst (λ (q : CodeAttribute × List ℕ). TakesExtra seen name bytes q) (ok_is (record { name = name.index; body = extras.Other a.0.0 }, a.0.1) p a.2)
    (record { named = refl; takes = one.0; fits = one.1; extra = ap not known; once = λ e. absurd cc })

extra_takes : (b seen : Bool) (front : List ℕ) (name : Name) (bytes : List ℕ) (p : CodeAttribute × List ℕ) → is_stack_map_name name.text ≡ b → IsBytes bytes
    → cond b (cond seen (Err (fault_at front whys.Duplicate)) (stack_map_at name.index bytes)) (other_extra_at name.index bytes) ≡ Ok p
    → TakesExtra seen name bytes p
extra_takes true true front name bytes p known fits e = absurd cc
extra_takes true false front name bytes p known fits e = map_takes false name bytes p known refl fits e
extra_takes false seen front name bytes p known fits e = other_takes seen name bytes p known fits e

-- a name in the pool that a body goes by
named_by : (test : List ℕ → Bool) (o : Option (List ℕ)) → option_map_or test o false ≡ true → (name : List ℕ) × (o ≡ Some name) × (test name ≡ true)
named_by test None e = absurd cc
named_by test (Some name) e = (name, refl, e)

resolution : (test : List ℕ → Bool) (o : Option (List ℕ)) (name : List ℕ) → o ≡ Some name → test name ≡ true → option_map_or test o false ≡ true
resolution test o name e h = ap (λ (x : Option (List ℕ)). option_map_or test x false) e ∙ h

not_so : (b : Bool) → not b ≡ true → b ≡ false
not_so true e = absurd cc
not_so false e = refl

extra_again : (pool : List Const) (seen : Bool) (name : ℕ) (b : CodeExtra) (rest : List ℕ) → IsExtra pool (record { name = name; body = b }) → (is_map b ≡ true → seen ≡ false)
    → extra_at pool seen (code_attribute (record { name = name; body = b }) ++ rest) ≡ Ok (record { name = name; body = b }, rest)
unfolding extra_at
extra_again pool seen name (extras.StackMap bytes) rest h once =
    let n = named_by is_stack_map_name (text_at pool name) h.1 in
    let known : is_stack_map_name n.0 ≡ true = n.2 in
    let first : seen ≡ false = once refl in
    let front = (name_reads pool).again (record { index = name; text = n.0 }) (length_and_bytes bytes ++ rest) (record { index = h.0.name; text = n.1 }) in
    ap (extra_at pool seen) (append_assoc (u2 name) (length_and_bytes bytes) rest) ∙ rw (front, known, first, sized_bytes_reads.again bytes rest h.0.contents) refl
extra_again pool seen name (extras.Other bytes) rest h once =
    let n = named_by (λ t. not (is_stack_map_name t)) (text_at pool name) h.1 in
    let known : is_stack_map_name n.0 ≡ false = not_so (is_stack_map_name n.0) n.2 in
    let front = (name_reads pool).again (record { index = name; text = n.0 }) (length_and_bytes bytes ++ rest) (record { index = h.0.name; text = n.1 }) in
    ap (extra_at pool seen) (append_assoc (u2 name) (length_and_bytes bytes) rest) ∙ rw (front, known, sized_bytes_reads.again bytes rest h.0.contents) refl

extra_reads : (pool : List Const) (seen : Bool) (more : ℕ) → IsReader (extra_at pool seen) code_attribute (IsOnce (IsExtra pool) test_map seen more)
unfolding extra_at
extra_reads pool seen more = record {
  takes = λ bytes p fits e.
      let a = ok_of (name_at pool bytes) (λ name. extra_of_name seen bytes name.0 name.1) p e in
      let one = (name_reads pool).takes bytes a.0 fits a.1 in
      let two = extra_takes (is_stack_map_name a.0.0.text) seen bytes a.0.0 a.0.1 p refl one.0.rest_fits a.2 in
      let whole = Takes-then bytes (u2 a.0.0.index) a.0.1 (length_and_bytes (code_extra p.0.body)) p.1 one.0 two.takes in
      let text : text_at pool p.0.name ≡ Some a.0.0.text = ap (text_at pool) two.named ∙ one.1.text in (
        subst (λ (n : ℕ). Takes bytes (u2 n ++ length_and_bytes (code_extra p.0.body)) p.1) (sym two.named) whole,
        ((record { name = subst IsU2 (sym two.named) one.1.index; contents = two.fits }, resolution (has_extra_name p.0.body) (text_at pool p.0.name) a.0.0.text text two.extra), two.once),
      );
  again = λ a rest h. extra_again pool seen a.name a.body rest h.0 h.1;
}

extras_reads : (pool : List Const) (n : ℕ) → IsReader (extras_at pool false n) (flat_map code_attribute) (λ xs. (length xs ≡ n) × AreOnce (IsExtra pool) test_map false xs)
unfolding extras_at
extras_reads pool n =
    same_reads (λ xs. (length xs ≡ n) × AreOnce (IsExtra pool) test_map false xs)
    (λ xs h. (h.0, once_by_state (IsExtra pool) test_map false xs h.1)) (λ xs h. (h.0, by_state_once (IsExtra pool) test_map false xs h.1))
    (list_by_reads {Is = IsOnce (IsExtra pool) test_map} (next_seen test_map) (λ seen more. extra_reads pool seen more) false n)

-- ---- code

row_reads : IsReader row_at row ranges.IsRow
unfolding row_at
row_reads =
    map_value_reads (record {
      to = λ p h. (refl, record { start = h.0.0; end = h.0.1; handler = h.1.0; catch_type = h.1.1 });
      from = λ r h. (((r.start, r.end), (r.handler, r.catch_type)), refl, ((h.start, h.end), (h.handler, h.catch_type)));
    }) (both_reads pair_reads pair_reads)

rows_reads : (n : ℕ) → IsReader (rows_at n) (flat_map row) (λ xs. (length xs ≡ n) × AllByRecursion ranges.IsRow xs)
unfolding rows_at
rows_reads n = many_reads row_reads n

abbrev IsCodeBytes : List ℕ → Type 0
IsCodeBytes bytes = (0 < length bytes) × IsU2 (length bytes) × AllByRecursion ranges.IsU1 bytes

code_bytes_reads : IsReader code_bytes_at length_and_bytes IsCodeBytes
unfolding code_bytes_at
code_bytes_reads = record {
  takes = λ bytes p fits e.
      let a = ok_of (verify is_code_length whys.Length u4_at bytes) (λ n. run_at n.0 n.1) p e in
      let one = (verify_reads is_code_length whys.Length u4_reads).takes bytes a.0 fits a.1 in
      let two = (run_reads a.0.0).takes a.0.1 p one.0.rest_fits a.2 in
      let r = in_range 1 0xffff a.0.0 one.1.1 in
      let size : length p.0 ≡ a.0.0 = two.1.0 in
      let whole = Takes-then bytes (u4 a.0.0) a.0.1 p.0 p.1 one.0 two.0 in
      (subst (λ (n : ℕ). Takes bytes (u4 n ++ p.0) p.1) (sym size) whole, (omega (arith, size, r.0), omega (arith, size, r.1), bytes_all p.0 two.1.1));
  again = λ bytes rest h.
      let n = length bytes in
      let taken : is_code_length n ≡ true = range_in 1 0xffff n (omega (arith, h.0)) (omega arith) in
      let front = (verify_reads is_code_length whys.Length u4_reads).again n (bytes ++ rest) (omega arith, taken) in
      ap code_bytes_at (append_assoc (u4 n) bytes rest) ∙ rw (front, run_again n bytes rest refl) refl;
}

pub record IsCode (pool : List Const) (c : CodeBody) : Type 0 where
  pub fits : ranges.IsCode c
  pub by_name : AreExtras pool false c.attributes

-- the facts of two lists as one, and back
pub zipped : {A : Type 0} (P Q : A → Type 0) (xs : List A) → AllByRecursion P xs → AllByRecursion Q xs → AllByRecursion (λ (x : A). P x × Q x) xs
zipped P Q [] p q = tt
zipped P Q (x ∷ xs) p q = ((p.0, q.0), zipped P Q xs p.1 q.1)

pub firsts : {A : Type 0} (P Q : A → Type 0) (xs : List A) → AllByRecursion (λ (x : A). P x × Q x) xs → AllByRecursion P xs
firsts P Q [] h = tt
firsts P Q (x ∷ xs) h = (h.0.0, firsts P Q xs h.1)

pub seconds : {A : Type 0} (P Q : A → Type 0) (xs : List A) → AllByRecursion (λ (x : A). P x × Q x) xs → AllByRecursion Q xs
seconds P Q [] h = tt
seconds P Q (x ∷ xs) h = (h.0.1, seconds P Q xs h.1)

abbrev IsNamed : List Const → CodeAttribute → Type 0
IsNamed pool a = is_extra_of_name pool a ≡ true

code_reads : (pool : List Const) → IsReader (code_at pool) code (IsCode pool)
unfolding code_at
code_reads pool =
    map_value_reads (record { to = to; from = from })
    (both_reads (both_reads pair_reads code_bytes_reads) (both_reads (count_then_reads {P = AllByRecursion ranges.IsRow} Short length wide16 rows_reads)
    (count_then_reads {P = AreOnce (IsExtra pool) test_map false} Short length wide16 (extras_reads pool))))
  where
    to : (p : ((ℕ × ℕ) × List ℕ) × (List Row × List CodeAttribute)) → ((IsU2 p.0.0.0 × IsU2 p.0.0.1) × IsCodeBytes p.0.1) × (ranges.IsTable ranges.IsRow p.1.0 × (IsU2 (length p.1.1) × AreOnce (IsExtra pool) test_map false p.1.1))
        → (((u2 p.0.0.0 ++ u2 p.0.0.1) ++ length_and_bytes p.0.1) ++ (layout.table row p.1.0 ++ layout.table code_attribute p.1.1) ≡ code (record { max_stack = p.0.0.0; max_locals = p.0.0.1; code = p.0.1; rows = p.1.0; attributes = p.1.1 }))
        × IsCode pool (record { max_stack = p.0.0.0; max_locals = p.0.0.1; code = p.0.1; rows = p.1.0; attributes = p.1.1 })
    to p h = (
      sym (append_assoc ((u2 p.0.0.0 ++ u2 p.0.0.1) ++ length_and_bytes p.0.1) (layout.table row p.1.0) (layout.table code_attribute p.1.1)),
      record {
        fits = record {
          max_stack = h.0.0.0;
          max_locals = h.0.0.1;
          code = h.0.1;
          rows = h.1.0;
          attributes = (h.1.1.0, firsts ranges.IsCodeAttribute (IsNamed pool) p.1.1 h.1.1.1.0);
        };
        by_name = record { named = seconds ranges.IsCodeAttribute (IsNamed pool) p.1.1 h.1.1.1.0; single = h.1.1.1.1 };
      },
    )

    from : (c : CodeBody) → IsCode pool c → (p : ((ℕ × ℕ) × List ℕ) × (List Row × List CodeAttribute)) × (record { max_stack = p.0.0.0; max_locals = p.0.0.1; code = p.0.1; rows = p.1.0; attributes = p.1.1 } ≡ c)
        × (((IsU2 p.0.0.0 × IsU2 p.0.0.1) × IsCodeBytes p.0.1) × (ranges.IsTable ranges.IsRow p.1.0 × (IsU2 (length p.1.1) × AreOnce (IsExtra pool) test_map false p.1.1)))
    from c h = (
      (((c.max_stack, c.max_locals), c.code), (c.rows, c.attributes)),
      refl,
      (((h.fits.max_stack, h.fits.max_locals), h.fits.code), (h.fits.rows, (h.fits.attributes.0, (zipped ranges.IsCodeAttribute (IsNamed pool) c.attributes h.fits.attributes.1 h.by_name.named, h.by_name.single)))),
    )

-- ---- the attributes of a class, a field or a method

abbrev pub IsRead : List Const → Holder → Attribute → Type 0
IsRead pool holder a = ranges.IsAttribute a × IsAttributeAt pool holder a

abbrev pub test_recognized : Attribute → Bool
test_recognized a = is_recognized_body a.body

-- what is read after the name of an attribute
record TakesBody (pool : List Const) (holder : Holder) (seen : Bool) (name : Name) (bytes : List ℕ) (p : Attribute × List ℕ) : Type 0 where
  pub named : p.0.name ≡ name.index
  pub takes : Takes bytes (length_and_bytes (body p.0.body)) p.1
  pub contents : ranges.IsBody p.0.body
  pub size : IsU4 (length (body p.0.body))
  pub has : has_body_name holder p.0.body name.text ≡ true
  pub inside : HasOwnAttributes pool p.0.body
  pub once : is_recognized_body p.0.body ≡ true → seen ≡ false

bytes_take : (pool : List Const) (holder : Holder) (seen : Bool) (name : Name) (bytes : List ℕ) (p : Attribute × List ℕ) → is_recognized holder name.text ≡ false → IsBytes bytes
    → other_at name.index bytes ≡ Ok p → TakesBody pool holder seen name bytes p
bytes_take pool holder seen name bytes p known fits e =
    let a = ok_of (sized_bytes_at bytes) (λ x. done (record { name = name.index; body = Other x.0 }, x.1)) p e in
    let one = sized_bytes_reads.takes bytes a.0 fits a.1 in
    subst (λ (q : Attribute × List ℕ). TakesBody pool holder seen name bytes q) (ok_is (record { name = name.index; body = Other a.0.0 }, a.0.1) p a.2)
    (record { named = refl; takes = one.0; contents = one.1.1; size = one.1.0; has = ap not known; inside = tt; once = λ e. absurd cc })

recognized_takes : (pool : List Const) (holder : Holder) (name : Name) (bytes : List ℕ) (p : Attribute × List ℕ) → is_recognized holder name.text ≡ true → IsBytes bytes → recognized_at pool holder name.index bytes ≡ Ok p → TakesBody pool holder false name bytes p
recognized_takes pool holders.Class name bytes p known fits e = absurd cc
recognized_takes pool holders.Field name bytes p known fits e =
    let a = ok_of (sized_value_at u2_at bytes) (λ x. done (record { name = name.index; body = Constant x.0 }, x.1)) p e in
    let one = (sized_value_reads u2_reads).takes bytes a.0 fits a.1 in
    subst (λ (q : Attribute × List ℕ). TakesBody pool holders.Field false name bytes q) (ok_is (record { name = name.index; body = Constant a.0.0 }, a.0.1) p a.2)
    (record { named = refl; takes = one.0; contents = one.1.0; size = one.1.1; has = known; inside = tt; once = λ e. refl })
recognized_takes pool holders.Method name bytes p known fits e =
    let a = ok_of (sized_value_at (code_at pool) bytes) (λ x. done (record { name = name.index; body = Code x.0 }, x.1)) p e in
    let one = (sized_value_reads (code_reads pool)).takes bytes a.0 fits a.1 in
    subst (λ (q : Attribute × List ℕ). TakesBody pool holders.Method false name bytes q) (ok_is (record { name = name.index; body = Code a.0.0 }, a.0.1) p a.2)
    (record { named = refl; takes = one.0; contents = one.1.0.fits; size = one.1.1; has = known; inside = one.1.0.by_name; once = λ e. refl })

body_takes : (pool : List Const) (holder : Holder) (b seen : Bool) (front : List ℕ) (name : Name) (bytes : List ℕ) (p : Attribute × List ℕ) → is_recognized holder name.text ≡ b → IsBytes bytes
    → cond b (cond seen (Err (fault_at front whys.Duplicate)) (recognized_at pool holder name.index bytes)) (other_at name.index bytes) ≡ Ok p
    → TakesBody pool holder seen name bytes p
body_takes pool holder true true front name bytes p known fits e = absurd cc
body_takes pool holder true false front name bytes p known fits e = recognized_takes pool holder name bytes p known fits e
body_takes pool holder false seen front name bytes p known fits e = bytes_take pool holder seen name bytes p known fits e

-- a recognized body is that of the holder
recognized_again : (pool : List Const) (holder : Holder) (name : ℕ) (b : Body) (text : List ℕ) (rest : List ℕ) → ranges.IsBody b → IsU4 (length (body b)) → has_body_name holder b text ≡ true → HasOwnAttributes pool b → is_recognized_body b ≡ true
    → (is_recognized holder text ≡ true) × (recognized_at pool holder name (length_and_bytes (body b) ++ rest) ≡ Ok (record { name = name; body = b }, rest))
recognized_again pool holders.Method name (Code c) text rest fits size has inside some = (has, rw ((sized_value_reads (code_reads pool)).again c rest (record { fits = fits; by_name = inside }, size)) refl)
recognized_again pool holders.Field name (Code c) text rest fits size has inside some = absurd cc
recognized_again pool holders.Class name (Code c) text rest fits size has inside some = absurd cc
recognized_again pool holders.Field name (Constant value) text rest fits size has inside some = (has, rw ((sized_value_reads u2_reads).again value rest (fits, size)) refl)
recognized_again pool holders.Method name (Constant value) text rest fits size has inside some = absurd cc
recognized_again pool holders.Class name (Constant value) text rest fits size has inside some = absurd cc
recognized_again pool holder name (Other bytes) text rest fits size has inside some = absurd cc

attribute_again : (pool : List Const) (holder : Holder) (seen : Bool) (name : ℕ) (b : Body) (rest : List ℕ) → IsRead pool holder (record { name = name; body = b }) → (is_recognized_body b ≡ true → seen ≡ false)
    → attribute_at pool holder seen (attribute (record { name = name; body = b }) ++ rest) ≡ Ok (record { name = name; body = b }, rest)
unfolding attribute_at
attribute_again pool holder seen name (Other bytes) rest h once =
    let n = named_by (λ t. not (is_recognized holder t)) (text_at pool name) h.1.named in
    let known : is_recognized holder n.0 ≡ false = not_so (is_recognized holder n.0) n.2 in
    let front = (name_reads pool).again (record { index = name; text = n.0 }) (length_and_bytes bytes ++ rest) (record { index = h.0.name; text = n.1 }) in
    ap (attribute_at pool holder seen) (append_assoc (u2 name) (length_and_bytes bytes) rest) ∙ rw (front, known, sized_bytes_reads.again bytes rest (h.0.size, h.0.contents)) refl
attribute_again pool holder seen name (Code c) rest h once =
    let n = named_by (has_body_name holder (Code c)) (text_at pool name) h.1.named in
    let front = (name_reads pool).again (record { index = name; text = n.0 }) (length_and_bytes (code c) ++ rest) (record { index = h.0.name; text = n.1 }) in
    let k = recognized_again pool holder name (Code c) n.0 rest h.0.contents h.0.size n.2 h.1.inside refl in
    let known = k.0 in
    let first : seen ≡ false = once refl in
    ap (attribute_at pool holder seen) (append_assoc (u2 name) (length_and_bytes (code c)) rest) ∙ rw (front, known, first) k.1
attribute_again pool holder seen name (Constant value) rest h once =
    let n = named_by (has_body_name holder (Constant value)) (text_at pool name) h.1.named in
    let front = (name_reads pool).again (record { index = name; text = n.0 }) (length_and_bytes (u2 value) ++ rest) (record { index = h.0.name; text = n.1 }) in
    let k = recognized_again pool holder name (Constant value) n.0 rest h.0.contents h.0.size n.2 h.1.inside refl in
    let known = k.0 in
    let first : seen ≡ false = once refl in
    ap (attribute_at pool holder seen) (append_assoc (u2 name) (length_and_bytes (u2 value)) rest) ∙ rw (front, known, first) k.1

attribute_reads : (pool : List Const) (holder : Holder) (seen : Bool) (more : ℕ) → IsReader (attribute_at pool holder seen) attribute (IsOnce (IsRead pool holder) test_recognized seen more)
unfolding attribute_at
attribute_reads pool holder seen more = record {
  takes = λ bytes p fits e.
      let a = ok_of (name_at pool bytes) (λ name. attribute_of_name pool holder seen bytes name.0 name.1) p e in
      let one = (name_reads pool).takes bytes a.0 fits a.1 in
      let two = body_takes pool holder (is_recognized holder a.0.0.text) seen bytes a.0.0 a.0.1 p refl one.0.rest_fits a.2 in
      let whole = Takes-then bytes (u2 a.0.0.index) a.0.1 (length_and_bytes (body p.0.body)) p.1 one.0 two.takes in
      let text : text_at pool p.0.name ≡ Some a.0.0.text = ap (text_at pool) two.named ∙ one.1.text in (
        subst (λ (n : ℕ). Takes bytes (u2 n ++ length_and_bytes (body p.0.body)) p.1) (sym two.named) whole,
        (
          (
            record { name = subst IsU2 (sym two.named) one.1.index; contents = two.contents; size = two.size },
            record { named = resolution (has_body_name holder p.0.body) (text_at pool p.0.name) a.0.0.text text two.has; inside = two.inside },
          ),
          two.once,
        ),
      );
  again = λ a rest h. attribute_again pool holder seen a.name a.body rest h.0 h.1;
}

-- the attributes of a class, a field or a method
pub record AreRead (pool : List Const) (holder : Holder) (attributes : List Attribute) : Type 0 where
  pub fit : ranges.IsTable ranges.IsAttribute attributes
  pub by_name : AreAttributesAt pool holder false attributes

list_reads : (pool : List Const) (holder : Holder) (n : ℕ) → IsReader (attributes_at pool holder false n) (flat_map attribute) (λ xs. (length xs ≡ n) × AreOnce (IsRead pool holder) test_recognized false xs)
unfolding attributes_at
list_reads pool holder n =
    same_reads (λ xs. (length xs ≡ n) × AreOnce (IsRead pool holder) test_recognized false xs)
    (λ xs h. (h.0, once_by_state (IsRead pool holder) test_recognized false xs h.1)) (λ xs h. (h.0, by_state_once (IsRead pool holder) test_recognized false xs h.1))
    (list_by_reads {Is = IsOnce (IsRead pool holder) test_recognized} (next_seen test_recognized) (λ seen more. attribute_reads pool holder seen more) false n)

pub attributes_reads : (pool : List Const) (holder : Holder) → IsReader (table_at (attributes_at pool holder false)) (layout.table attribute) (AreRead pool holder)
attributes_reads pool holder =
    same_reads (AreRead pool holder)
    (λ xs h. record {
      fit = (h.0, firsts ranges.IsAttribute (IsAttributeAt pool holder) xs h.1.0);
      by_name = record { each = seconds ranges.IsAttribute (IsAttributeAt pool holder) xs h.1.0; single = h.1.1 };
    })
    (λ xs h. (h.fit.0, (zipped ranges.IsAttribute (IsAttributeAt pool holder) xs h.fit.1 h.by_name.each, h.by_name.single)))
    (count_then_reads {P = AreOnce (IsRead pool holder) test_recognized false} Short length wide16 (list_reads pool holder))

-- Going over the parts of a whole file.
use Rattle.std.proofs.Common.{◌≡◌, ℕ, ◌-◌, List, ◌∷◌, ◌++◌, Result, Ok, Err, sym, ap, ◌∙◌}
use Rattle.std.specs.List.{flat_map, sum_by}
use Rattle.class_model.specs.declared.constant.Const.{Const}
use Rattle.class_model.specs.declared.member.Member.{Member}
use Rattle.class_model.specs.declared.class_file.ClassFile.{ClassFile}
use Rattle.byte_reader.specs.declared.fault.Fault.{Fault}
use Rattle.class_grammar.specs.declared.class_why.ClassWhy.{ClassWhy}
use Rattle.class_grammar.specs.Checks.{Item, left_after, sound_bytes, constant_items, field_items, method_items, pool_items, class_items, member_items, items}
use Rattle.class_checks.specs.Sizes.{const_size, less, less_at_end}
use Rattle.class_checks.proofs.ItemLaws.{then_on, left_after_append, shifted}

same_part : {X : Type 0} (part : List Const → X → List Item) (pool pool' : List Const) (left left' : ℕ) (xs xs' : List X) → pool ≡ pool' → left ≡ left' → xs ≡ xs'
    → left_after left (flat_map (part pool) xs) ≡ left_after left' (flat_map (part pool') xs')
same_part part pool pool' left left' xs xs' p l x =
    ap (λ (n : ℕ). left_after n (flat_map (part pool) xs)) l ∙ ap (λ ys. left_after left' (flat_map (part pool) ys)) x
    ∙ ap (λ (p : List Const). left_after left' (flat_map (part p) xs')) p

-- the methods, after what is after the fields
pub methods_behind : (f : ClassFile) (pool : List Const) (left front : ℕ) (methods : List Member) → pool ≡ f.pool → front ≡ left - 2 → methods ≡ f.methods
    → left_after front (flat_map (method_items pool) methods) ≡ left_after left (sound_bytes 2 ∷ flat_map (method_items f.pool) f.methods)
methods_behind f pool left front methods p l m = same_part method_items pool f.pool front (left - 2) methods f.methods p l m

-- the fields, and what is after them
pub fields_first : (f : ClassFile) (pool : List Const) (left front : ℕ) (fields : List Member) (r : Result ℕ (Fault ClassWhy)) → pool ≡ f.pool → front ≡ left - 2 → fields ≡ f.fields
    → r ≡ left_after front (flat_map (field_items pool) fields) → then_on r (sound_bytes 2 ∷ flat_map (method_items f.pool) f.methods) ≡ left_after left (member_items f)
fields_first f pool left front fields r p l m one =
    let behind = sound_bytes 2 ∷ flat_map (method_items f.pool) f.methods in
    ap (λ (q : Result ℕ (Fault ClassWhy)). then_on q behind) (one ∙ same_part field_items pool f.pool front (left - 2) fields f.fields p l m)
    ∙ sym (left_after_append (left - 2) (flat_map (field_items f.pool) f.fields) behind)

-- the pool, and what is after it
pub pool_first : (f : ClassFile) (pool : List Const) (size front : ℕ) (constants : List Const) (r : Result ℕ (Fault ClassWhy)) → pool ≡ f.pool → front ≡ size - 10 → constants ≡ f.pool
    → r ≡ left_after front (flat_map (constant_items pool) constants) → then_on r (class_items f ++ member_items f) ≡ left_after size (items f)
pool_first f pool size front constants r p l m one =
    let behind = class_items f ++ member_items f in
    ap (λ (q : Result ℕ (Fault ClassWhy)). then_on q behind) (one ∙ same_part constant_items pool f.pool front (size - 10) constants f.pool p l m)
    ∙ sym (left_after_append size (pool_items f) behind)

-- the class, and its members
pub class_first : (f : ClassFile) (left : ℕ) (r : Result ℕ (Fault ClassWhy)) → r ≡ left_after left (class_items f) → then_on r (member_items f) ≡ left_after left (class_items f ++ member_items f)
class_first f left r one = ap (λ (q : Result ℕ (Fault ClassWhy)). then_on q (member_items f)) one ∙ sym (left_after_append left (class_items f) (member_items f))

-- what follows the pool, where the texts of the pool are taken off afterwards
pub rest_behind : (f : ClassFile) (pool : List Const) (size front left : ℕ) (constants : List Const) (r : Result ℕ (Fault ClassWhy)) → pool ≡ f.pool → front ≡ size - 10 → constants ≡ f.pool
    → less_at_end (sum_by const_size constants) (Ok left) ≡ left_after front (flat_map (constant_items pool) constants) → r ≡ left_after left (class_items f ++ member_items f)
    → less (sum_by const_size constants) r ≡ left_after size (items f)
rest_behind f pool size front left constants r p l m one two =
    let k = sum_by const_size constants in
    ap (less k) two ∙ sym (shifted k left (class_items f ++ member_items f)) ∙ pool_first f pool size front constants (Ok (left - k)) p l m one

-- a fault of the pool is that of the file
pub pool_fault : (f : ClassFile) (pool : List Const) (size front : ℕ) (constants : List Const) (fault : Fault ClassWhy) → pool ≡ f.pool → front ≡ size - 10 → constants ≡ f.pool
    → less_at_end (sum_by const_size constants) (Err fault) ≡ left_after front (flat_map (constant_items pool) constants) → Err fault ≡ left_after size (items f)
pool_fault f pool size front constants fault p l m one = pool_first f pool size front constants (Err fault) p l m one

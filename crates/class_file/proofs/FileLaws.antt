-- The laws of the readers of members and of the whole file.
use Rattle.std.proofs.Common.{◌≡◌, ℕ, Bool, true, false, cond, ltb, leb, eqb, List, [], ◌++◌, length, Result, Ok, Err, refl, sym, ap, subst, ◌∙◌, append_assoc, arith}
use Rattle.std.specs.Prelude.{◌==◌, ◌&&◌, ◌||◌}
use Rattle.std.specs.List.{flat_map}
use Rattle.std.proofs.lemmas.Bool.{eqb-true, eq-eqb, le-ltb, ltb-false}
use Rattle.std.proofs.lemmas.List.{append-nil, nil_from_length}
use Rattle.class_model.specs.declared.constant.Const.{Const}
use Rattle.class_model.specs.declared.member.Member.{Member}
use Rattle.class_model.specs.declared.class_file.ClassFile.{ClassFile}
use Rattle.class_grammar.specs.declared.class_why.ClassWhy.{ClassWhy}
use Rattle.class_grammar.specs.declared.class_why.ClassWhy.TheVariants as whys
use Rattle.byte_reader.specs.declared.fault.Fault.{Fault}
use Rattle.class_grammar.specs.declared.holder.Holder.{Holder}
use Rattle.class_grammar.specs.declared.holder.Holder.TheVariants as holders
use Rattle.class_grammar.specs.Layout.{u2, u4, table, constant, attribute, member, class_file}
use Rattle.class_grammar.specs.Ranges.{IsU2, IsVersion, IsInRange}
use Rattle.class_grammar.specs.Ranges as ranges
use Rattle.class_grammar.specs.Attributes.{AreAttributesAt, AreMembers, HasAttributes}
use Rattle.byte_reader.specs.Reader.{◌>>=◌, fault_at, verify}
use Rattle.class_file.specs.Numbers.{u4_at}
use Rattle.class_file.specs.Constants.{pool_at}
use Rattle.class_file.specs.declared.layout.TheConstants.{MAGIC}
use Rattle.class_file.specs.declared.layout.Version.{Version}
use Rattle.class_file.specs.declared.layout.Class.{Class}
use Rattle.class_file.specs.File.{is_supported, numbers_of_version, version_at, class_at, member_at, members_at, tail_at, layout_of}
use Rattle.class_file.proofs.Ranges.{and_true, true_and, in_range, range_in}
use Rattle.byte_reader.proofs.ReaderLaws.{IsBytes, ok_of, passed, Takes, Takes-then, IsReader, both_reads, verify_reads, map_value_reads, same_reads}
use Rattle.class_file.proofs.NumberLaws.{u2_reads, u4_reads, pair_reads}
use Rattle.class_file.proofs.PoolLaws.{pool_reads}
use Rattle.class_file.proofs.AttributeLaws.{table_reads, firsts, seconds, zipped, AreRead, attributes_reads}

-- ---- members

abbrev HasMemberAttributes : List Const → Holder → Member → Type 0
HasMemberAttributes pool holder m = AreAttributesAt pool holder false m.attributes

abbrev IsReadMember : List Const → Holder → Member → Type 0
IsReadMember pool holder m = ranges.IsMember m × HasMemberAttributes pool holder m

member_reads : (pool : List Const) (holder : Holder) → IsReader (member_at pool holder) member (IsReadMember pool holder)
unfolding member_at
member_reads pool holder =
    map_value_reads (record {
      to = λ p h. (refl, (record { flags = h.0.0; name = h.0.1.0; descriptor = h.0.1.1; attributes = h.1.fit }, h.1.by_name));
      from = λ m h. (((m.flags, (m.name, m.descriptor)), m.attributes), refl, ((h.0.flags, (h.0.name, h.0.descriptor)), record { fit = h.0.attributes; by_name = h.1 }));
    }) (both_reads (both_reads u2_reads pair_reads) (attributes_reads pool holder))

-- fields, or methods
record AreReadMembers (pool : List Const) (holder : Holder) (members : List Member) : Type 0 where
  pub fit : ranges.IsTable ranges.IsMember members
  pub by_name : AreMembers pool holder members

members_reads : (pool : List Const) (holder : Holder) → IsReader (members_at pool holder) (table member) (AreReadMembers pool holder)
unfolding members_at
members_reads pool holder =
    same_reads (AreReadMembers pool holder)
    (λ xs h. record { fit = (h.0, firsts ranges.IsMember (HasMemberAttributes pool holder) xs h.1); by_name = seconds ranges.IsMember (HasMemberAttributes pool holder) xs h.1 })
    (λ xs h. (h.fit.0, zipped ranges.IsMember (HasMemberAttributes pool holder) xs h.fit.1 h.by_name))
    (table_reads (member_reads pool holder))

-- ---- what precedes the pool

abbrev spell_version : Version → List ℕ
spell_version v = u4 MAGIC ++ (u2 v.minor ++ u2 v.major)

abbrev IsSupported : Version → Type 0
IsSupported v = (IsU2 v.minor × IsU2 v.major) × (is_supported v ≡ true)

abbrev is_magic : ℕ → Bool
is_magic n = n == MAGIC

version_numbers_reads : IsReader numbers_of_version (λ v. u2 v.minor ++ u2 v.major) (λ v. IsU2 v.minor × IsU2 v.major)
version_numbers_reads = map_value_reads (record { to = λ p h. (refl, h); from = λ v h. ((v.minor, v.major), refl, h) }) pair_reads

version_reads : IsReader version_at spell_version IsSupported
unfolding version_at
version_reads = record {
  takes = λ bytes p fits e.
      let a = ok_of (verify is_magic whys.Magic u4_at bytes) (λ magic. verify is_supported whys.Version numbers_of_version magic.1) p e in
      let one = (verify_reads is_magic whys.Magic u4_reads).takes bytes a.0 fits a.1 in
      let two = (verify_reads is_supported whys.Version version_numbers_reads).takes a.0.1 p one.0.rest_fits a.2 in
      let whole = Takes-then bytes (u4 a.0.0) a.0.1 (u2 p.0.minor ++ u2 p.0.major) p.1 one.0 two.0 in
      (subst (λ (n : ℕ). Takes bytes (u4 n ++ (u2 p.0.minor ++ u2 p.0.major)) p.1) (eqb-true a.0.0 MAGIC one.1.1) whole, two.1);
  again = λ v rest h.
      let front = (verify_reads is_magic whys.Magic u4_reads).again MAGIC ((u2 v.minor ++ u2 v.major) ++ rest) (omega arith, refl) in
      let second = (verify_reads is_supported whys.Version version_numbers_reads).again v rest h in
      ap (λ (r : Result (ℕ × List ℕ) (Fault ClassWhy)). r >>= λ magic. verify is_supported whys.Version numbers_of_version magic.1) front ∙ second;
}

version_in_range : (v : Version) → IsSupported v → IsVersion v.minor v.major
version_in_range v h =
    let p = and_true (leb 51 v.major && leb v.major 69) (ltb v.major 56 || v.minor == 0) h.1 in
    let r = in_range 51 69 v.major p.0 in
    (h.0.0, r.0, r.1, λ late. released (ltb v.major 56) (le-ltb v.major 56 late) p.1)
  where
    released : (b : Bool) → b ≡ false → (b || v.minor == 0) ≡ true → v.minor ≡ 0
    released true e f = absurd cc
    released false e f = eqb-true v.minor 0 f

version_supported : (v : Version) → IsVersion v.minor v.major → IsSupported v
version_supported v h =
    ((h.0, omega (arith, h.2)), true_and (leb 51 v.major && leb v.major 69) (ltb v.major 56 || v.minor == 0) (range_in 51 69 v.major h.1 h.2) (by (ltb v.major 56) refl))
  where
    by : (b : Bool) → ltb v.major 56 ≡ b → (b || v.minor == 0) ≡ true
    by true e = refl
    by false e = eq-eqb v.minor 0 (h.3 (ltb-false v.major 56 e))

-- ---- what follows the pool

abbrev spell_class : Class → List ℕ
spell_class c = (u2 c.flags ++ (u2 c.own ++ u2 c.parent)) ++ table u2 c.interfaces

abbrev IsClass : Class → Type 0
IsClass c = (IsU2 c.flags × (IsU2 c.own × IsU2 c.parent)) × ranges.IsTable IsU2 c.interfaces

class_reads : IsReader class_at spell_class IsClass
unfolding class_at
class_reads =
    map_value_reads (record { to = λ p h. (refl, h); from = λ c h. (((c.flags, (c.own, c.parent)), c.interfaces), refl, h) })
    (both_reads (both_reads u2_reads pair_reads) (table_reads u2_reads))

abbrev class_of : ClassFile → Class
class_of f = record { flags = f.flags; own = f.own; parent = f.parent; interfaces = f.interfaces }

abbrev spell_tail : ClassFile → List ℕ
spell_tail f = spell_class (class_of f) ++ (table member f.fields ++ (table member f.methods ++ table attribute f.attributes))

-- a class file of this version and with this pool, with what follows the pool in its range
record IsTail (version : Version) (pool : List Const) (f : ClassFile) : Type 0 where
  pub minor_is : version.minor ≡ f.minor
  pub major_is : version.major ≡ f.major
  pub pool_is : pool ≡ f.pool
  pub class : IsClass (class_of f)
  pub fields : AreReadMembers pool holders.Field f.fields
  pub methods : AreReadMembers pool holders.Method f.methods
  pub attributes : AreRead pool holders.Class f.attributes

tail_reads : (version : Version) (pool : List Const) → IsReader (tail_at version pool) spell_tail (IsTail version pool)
unfolding tail_at
tail_reads version pool =
    map_value_reads (record {
      to = λ p h. (refl, record { minor_is = refl; major_is = refl; pool_is = refl; class = h.0; fields = h.1.0; methods = h.1.1.0; attributes = h.1.1.1 });
      from = λ f h. (
        (class_of f, (f.fields, (f.methods, f.attributes))),
        ap (λ (n : ℕ). with f n version.major pool) h.minor_is ∙ ap (λ (n : ℕ). with f f.minor n pool) h.major_is ∙ ap (λ (p : List Const). with f f.minor f.major p) h.pool_is,
        (h.class, (h.fields, (h.methods, h.attributes))),
      );
    })
    (both_reads class_reads (both_reads (members_reads pool holders.Field) (both_reads (members_reads pool holders.Method) (attributes_reads pool holders.Class))))
  where
    with : ClassFile → ℕ → ℕ → List Const → ClassFile
    with f minor major pool = record f { minor = minor; major = major; pool = pool }

-- ---- the whole file

-- The bytes have the layout of this class file, each number in its range and each attribute of the kind that its name says.
pub record HasLayout (bytes : List ℕ) (f : ClassFile) : Type 0 where
  pub layout : bytes ≡ class_file f
  pub range : IsInRange f
  pub by_name : HasAttributes f

file_regroup : (m i j n k f o p a b c d : List ℕ) → m ++ i ++ j ++ (n ++ k) ++ f ++ o ++ p ++ a ++ b ++ c ++ d ≡ (m ++ (i ++ j)) ++ ((n ++ k) ++ (((f ++ (o ++ p)) ++ a) ++ (b ++ (c ++ d))))
file_regroup m i j n k f o p a b c d = simp append_assoc

abbrev version_of : ClassFile → Version
version_of f = record { minor = f.minor; major = f.major }

abbrev spell_pool : List Const → List ℕ
spell_pool pool = u2 (length pool) ++ flat_map constant pool

parts_of_file : (f : ClassFile) → class_file f ≡ spell_version (version_of f) ++ (spell_pool f.pool ++ spell_tail f)
parts_of_file f = file_regroup (u4 MAGIC) (u2 f.minor) (u2 f.major) (u2 (length f.pool)) (flat_map constant f.pool) (u2 f.flags) (u2 f.own) (u2 f.parent) (table u2 f.interfaces) (table member f.fields) (table member f.methods) (table attribute f.attributes)

has_layout : (f : ClassFile) (bytes : List ℕ) → bytes ≡ class_file f → IsSupported (version_of f) → ranges.IsPool f.pool → IsTail (version_of f) f.pool f → HasLayout bytes f
has_layout f bytes layout version pool tail = record {
  layout = layout;
  range = record {
    version = version_in_range (version_of f) version;
    pool = pool;
    flags = tail.class.0.0;
    own = tail.class.0.1.0;
    parent = tail.class.0.1.1;
    interfaces = tail.class.1;
    fields = tail.fields.fit;
    methods = tail.methods.fit;
    attributes = tail.attributes.fit;
  };
  by_name = record { fields = tail.fields.by_name; methods = tail.methods.by_name; attributes = tail.attributes.by_name };
}

-- what was read before the pool and for the pool is that of the file
same_version : (v w : Version) → v.minor ≡ w.minor → v.major ≡ w.major → v ≡ w
same_version v w e f = ap (λ (n : ℕ). with n v.major) e ∙ ap (λ (n : ℕ). with w.minor n) f
  where
    with : ℕ → ℕ → Version
    with minor major = record { minor = minor; major = major }

pub layout_takes : (bytes : List ℕ) (f : ClassFile) → IsBytes bytes → layout_of bytes ≡ Ok f → HasLayout bytes f
unfolding layout_of
layout_takes bytes f fits e =
    let a = ok_of (version_at bytes) (λ version. pool_at version.1 >>= λ pool. tail_at version.0 pool.0 pool.1 >>= λ file. cond (eqb (length file.1) 0) (Ok file.0) (Err (fault_at file.1 whys.Trailing))) f e in
    let b = ok_of (pool_at a.0.1) (λ pool. tail_at a.0.0 pool.0 pool.1 >>= λ file. cond (eqb (length file.1) 0) (Ok file.0) (Err (fault_at file.1 whys.Trailing))) f a.2 in
    let c = ok_of (tail_at a.0.0 b.0.0 b.0.1) (λ file. cond (eqb (length file.1) 0) (Ok file.0) (Err (fault_at file.1 whys.Trailing))) f b.2 in
    let g = passed (eqb (length c.0.1) 0) c.0.0 f (fault_at c.0.1 whys.Trailing) c.2 in
    let one = version_reads.takes bytes a.0 fits a.1 in
    let two = pool_reads.takes a.0.1 b.0 one.0.rest_fits b.1 in
    let three = (tail_reads a.0.0 b.0.0).takes b.0.1 c.0 two.0.rest_fits c.1 in
    let file : ClassFile = c.0.0 in
    let nothing : c.0.1 ≡ [] = nil_from_length c.0.1 (eqb-true _ _ g.0) in
    let tail : b.0.1 ≡ spell_tail file = three.0.parts ∙ ap (λ (r : List ℕ). spell_tail file ++ r) nothing ∙ append-nil (spell_tail file) in
    let pool : b.0.0 ≡ file.pool = three.1.pool_is in
    let version : a.0.0 ≡ version_of file = same_version a.0.0 (version_of file) three.1.minor_is three.1.major_is in
    let behind : a.0.1 ≡ spell_pool file.pool ++ spell_tail file =
    two.0.parts ∙ ap (λ (x : List Const). spell_pool x ++ b.0.1) pool ∙ ap (λ (x : List ℕ). spell_pool file.pool ++ x) tail in
    let whole : bytes ≡ class_file file =
    one.0.parts ∙ ap (λ (v : Version). spell_version v ++ a.0.1) version ∙ ap (λ (x : List ℕ). spell_version (version_of file) ++ x) behind ∙ sym (parts_of_file file) in
    subst (λ (x : ClassFile). HasLayout bytes x) g.1
    (has_layout file bytes whole (subst IsSupported version one.1) (subst ranges.IsPool pool two.1)
    (subst (λ (v : Version). IsTail v file.pool file) version (subst (λ (x : List Const). IsTail a.0.0 x file) pool three.1)))

tail_of : (bytes : List ℕ) (f : ClassFile) → HasLayout bytes f → IsTail (version_of f) f.pool f
tail_of bytes f h = record {
  minor_is = refl;
  major_is = refl;
  pool_is = refl;
  class = ((h.range.flags, (h.range.own, h.range.parent)), h.range.interfaces);
  fields = record { fit = h.range.fields; by_name = h.by_name.fields };
  methods = record { fit = h.range.methods; by_name = h.by_name.methods };
  attributes = record { fit = h.range.attributes; by_name = h.by_name.attributes };
}

pub layout_again : (bytes : List ℕ) (f : ClassFile) → HasLayout bytes f → layout_of bytes ≡ Ok f
unfolding layout_of
layout_again bytes f h =
    let tail = spell_tail f in
    let version = version_of f in
    let last : tail_at version f.pool tail ≡ Ok (f, []) = ap (tail_at version f.pool) (sym (append-nil tail)) ∙ (tail_reads version f.pool).again f [] (tail_of bytes f h) in
    ap layout_of (h.layout ∙ parts_of_file f)
    ∙ ap (λ (r : Result (Version × List ℕ) (Fault ClassWhy)). r >>= λ version. pool_at version.1 >>= λ pool. tail_at version.0 pool.0 pool.1 >>= λ file. cond (eqb (length file.1) 0) (Ok file.0) (Err (fault_at file.1 whys.Trailing))) (version_reads.again version (spell_pool f.pool ++ tail) (version_supported version h.range.version))
    ∙ ap (λ (r : Result (List Const × List ℕ) (Fault ClassWhy)). r >>= λ pool. tail_at version pool.0 pool.1 >>= λ file. cond (eqb (length file.1) 0) (Ok file.0) (Err (fault_at file.1 whys.Trailing))) (pool_reads.again f.pool tail h.range.pool)
    ∙ ap (λ (r : Result (ClassFile × List ℕ) (Fault ClassWhy)). r >>= λ file. cond (eqb (length file.1) 0) (Ok file.0) (Err (fault_at file.1 whys.Trailing))) last

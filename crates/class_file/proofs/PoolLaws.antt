-- The laws of the readers of the constant pool.
use Rattle.std.proofs.Common.{◌≡◌, ℕ, zero, suc, ◌^◌, ◌<◌, ◌≤◌, ◌-◌, Bool, true, false, cond, List, [], ◌∷◌, ◌++◌, length, Result, Ok, Err, refl, sym, ap, subst, ◌∙◌, append_assoc, arith, ◌⊎◌, inl, inr}
use Rattle.std.specs.Prelude.{◌==◌, ◌&&◌, not}
use Rattle.std.specs.Int.{w32, w64, cast_signed, cast_unsigned}
use Rattle.std.specs.List.{flat_map, AllByRecursion}
use Rattle.std.proofs.lemmas.Bool.{eqb-true, eqb-false, ne_eqb}
use Rattle.std.proofs.lemmas.Int.{of_z-to_z, to_z-of_z}
use Rattle.std.proofs.Math.Facts.{sfits_to_z, Fits-of_lt, Fits-lt-pow, Fits-of_z}
use Rattle.class_model.specs.declared.constant.Const.{Const}
use Rattle.class_model.specs.declared.constant.Const.TheVariants.{Unused, Utf8, Integer, Float, Long, Double, Class, Text, Fieldref, Methodref, InterfaceMethodref, NameAndType, MethodHandle, MethodType, Dynamic, InvokeDynamic, Module, Package}
use Rattle.jvm_utf8.specs.Text.{text}
use Rattle.jvm_utf8.specs.Units as utf8
use Rattle.jvm_utf8.proofs.TextLaws.{found, units_of_text}
use Rattle.class_grammar.specs.declared.class_why.ClassWhy.{ClassWhy}
use Rattle.class_grammar.specs.declared.class_why.ClassWhy.TheVariants as whys
use Rattle.byte_reader.specs.declared.fault.Fault.{Fault}
use Rattle.class_grammar.specs.Layout.{u1, u2, u4, u8, string, constant}
use Rattle.class_grammar.specs.Ranges.{IsU1, IsU2, IsU4, IsConstant, is_wide, AreEntries}
use Rattle.class_grammar.specs.Ranges as ranges
use Rattle.byte_reader.specs.Reader.{◌>>=◌, fault_at, map_value, verify}
use Rattle.class_file.specs.Numbers.{ClassReader, u1_at, u2_at, run_at}
use Rattle.class_file.specs.Constants.{units_of, text_at, tagged_at, is_wide_tag, constant_at, entry_at, next_entry, entries_at, pool_at}
use Rattle.byte_reader.proofs.ReaderLaws.{IsBytes, ok_of, ok_is, Takes, Takes-then, IsReader, both_reads, verify_reads, same_reads, AllByState, list_by_reads}
use Rattle.class_file.proofs.NumberLaws.{u1_reads, u2_reads, u4_reads, u8_reads, pair_reads, run_again, run_reads}

-- ---- texts

abbrev pub IsText : List ℕ → Type 0
IsText units = AllByRecursion IsU2 units × IsU2 (length (text units))

units_are : (left : ℕ) (r : Result (List ℕ) ℕ) (units : List ℕ) → units_of left r ≡ Ok units → r ≡ Ok units
units_are left (Ok us) units e = cc
units_are left (Err at) units e = absurd cc

pub text_reads : IsReader text_at (λ units. string (text units)) IsText
unfolding text_at
text_reads = record {
  takes = λ bytes p fits e.
      let a = ok_of (u2_at bytes) (λ n. run_at n.0 n.1 >>= λ t. units_of (length n.1) (utf8.units_of t.0) >>= λ us. Ok (us, t.1)) p e in
      let b = ok_of (run_at a.0.0 a.0.1) (λ t. units_of (length a.0.1) (utf8.units_of t.0) >>= λ us. Ok (us, t.1)) p a.2 in
      let c = ok_of (units_of (length a.0.1) (utf8.units_of b.0.0)) (λ us. Ok (us, b.0.1)) p b.2 in
      let one = u2_reads.takes bytes a.0 fits a.1 in
      let two = (run_reads a.0.0).takes a.0.1 b.0 one.0.rest_fits b.1 in
      let is = found b.0.0 c.0 (units_are (length a.0.1) (utf8.units_of b.0.0) c.0 c.1) in
      let size : length (text c.0) ≡ a.0.0 = ap length (sym is.1) ∙ two.1.0 in
      let whole = Takes-then bytes (u2 a.0.0) a.0.1 b.0.0 b.0.1 one.0 two.0 in
      let first : Takes bytes (u2 (length (text c.0)) ++ b.0.0) b.0.1 = subst (λ (n : ℕ). Takes bytes (u2 n ++ b.0.0) b.0.1) (sym size) whole in
      let second : Takes bytes (string (text c.0)) b.0.1 = subst (λ (t : List ℕ). Takes bytes (u2 (length (text c.0)) ++ t) b.0.1) is.1 first in
      let made : List ℕ × List ℕ = (c.0, b.0.1) in
      subst (λ (q : List ℕ × List ℕ). Takes bytes (string (text q.0)) q.1 × IsText q.0) (ok_is made p c.2) (second, (is.0, omega (arith, size, one.1)));
  again = λ units rest h.
      let bytes = text units in
      let size = length bytes in
      let front : u2_at (string bytes ++ rest) ≡ Ok (size, bytes ++ rest) =
      ap u2_at (append_assoc (u2 size) bytes rest) ∙ u2_reads.again size (bytes ++ rest) h.1 in
      rw (front, run_again size bytes rest refl, units_of_text units h.0) refl;
}

-- ---- constants

abbrev pub tag_of : Const → ℕ
tag_of Unused = 0
tag_of (Utf8 units) = 1
tag_of (Integer n) = 3
tag_of (Float bits) = 4
tag_of (Long n) = 5
tag_of (Double bits) = 6
tag_of (Class name) = 7
tag_of (Text units) = 8
tag_of (Fieldref class member) = 9
tag_of (Methodref class member) = 10
tag_of (InterfaceMethodref class member) = 11
tag_of (NameAndType name descriptor) = 12
tag_of (MethodHandle kind member) = 15
tag_of (MethodType descriptor) = 16
tag_of (Dynamic bootstrap member) = 17
tag_of (InvokeDynamic bootstrap member) = 18
tag_of (Module name) = 19
tag_of (Package name) = 20

-- what follows the tag
abbrev pub tail_of : Const → List ℕ
tail_of Unused = []
tail_of (Utf8 units) = string (text units)
tail_of (Integer n) = u4 (cast_unsigned w32 n)
tail_of (Float bits) = u4 bits
tail_of (Long n) = u8 (cast_unsigned w64 n)
tail_of (Double bits) = u8 bits
tail_of (Class name) = u2 name
tail_of (Text units) = u2 units
tail_of (Fieldref class member) = u2 class ++ u2 member
tail_of (Methodref class member) = u2 class ++ u2 member
tail_of (InterfaceMethodref class member) = u2 class ++ u2 member
tail_of (NameAndType name descriptor) = u2 name ++ u2 descriptor
tail_of (MethodHandle kind member) = u1 kind ++ u2 member
tail_of (MethodType descriptor) = u2 descriptor
tail_of (Dynamic bootstrap member) = u2 bootstrap ++ u2 member
tail_of (InvokeDynamic bootstrap member) = u2 bootstrap ++ u2 member
tail_of (Module name) = u2 name
tail_of (Package name) = u2 name

-- a constant that is read after this tag
pub record HasTag (tag : ℕ) (c : Const) : Type 0 where
  pub tag_is : tag_of c ≡ tag
  pub some : 1 ≤ tag
  pub fits : IsConstant c

-- a test that chose
chosen : {A : Type 0} (b : Bool) (x y z : A) → cond b x y ≡ z → ((b ≡ true) × (x ≡ z)) ⊎ ((b ≡ false) × (y ≡ z))
chosen true x y z e = inl (refl, e)
chosen false x y z e = inr (refl, e)

abbrev TakesConstant : ℕ → List ℕ → Result (Const × List ℕ) (Fault ClassWhy) → Type 0
TakesConstant tag bytes read = (p : Const × List ℕ) → read ≡ Ok p → Takes bytes (tail_of p.0) p.1 × HasTag tag p.0

-- one row of the table of tags
row_takes : {A : Type 0} {r : ClassReader A} {s : A → List ℕ} {P : A → Type 0} (f : A → Const) (k tag : ℕ) (bytes : List ℕ) (others : Result (Const × List ℕ) (Fault ClassWhy))
    → IsReader r s P → ((a : A) → P a → (s a ≡ tail_of (f a)) × HasTag k (f a)) → IsBytes bytes → TakesConstant tag bytes others → TakesConstant tag bytes (cond (tag == k) (map_value f r bytes) others)
row_takes {A = A} {r = r} {s = s} {P = P} f k tag bytes others reads to fits behind p e =
    elim (chosen (tag == k) (map_value f r bytes) others (Ok p) e) [
      | inr h ↦ behind p h.1
      | inl h ↦
          let a = ok_of (r bytes) (λ x. Ok (f x.0, x.1)) p h.1 in
          let one = reads.takes bytes a.0 fits a.1 in
          let c = to a.0.0 one.1 in
          let made : Const × List ℕ = (f a.0.0, a.0.1) in
          subst (λ (t : ℕ). Takes bytes (tail_of p.0) p.1 × HasTag t p.0) (sym (eqb-true tag k h.0))
          (subst (λ (q : Const × List ℕ). Takes bytes (tail_of q.0) q.1 × HasTag k q.0) (ok_is made p a.2) (subst (λ (t : List ℕ). Takes bytes t a.0.1) c.0 one.0, c.1))
    ]

abbrev of : (k : ℕ) (c : Const) → tag_of c ≡ k → 1 ≤ k → IsConstant c → HasTag k c
of k c e some fits = record { tag_is = e; some = some; fits = fits }

constant_takes : (unknown : Fault ClassWhy) (tag : ℕ) (bytes : List ℕ) → IsBytes bytes → TakesConstant tag bytes (tagged_at unknown tag bytes)
unfolding tagged_at
constant_takes unknown tag bytes fits =
    row_takes Utf8 1 tag bytes _ text_reads (λ a h. (refl, of 1 (Utf8 a) refl (omega arith) h)) fits
    (row_takes (λ n. Integer (cast_signed w32 n)) 3 tag bytes _ u4_reads (λ a h. (ap u4 (sym (of_z-to_z w32 a h)), of 3 (Integer (cast_signed w32 a)) refl (omega arith) (sfits_to_z {w = w32} {n = a} (Fits-of_lt {w = w32} {n = a} h)))) fits
    (row_takes Float 4 tag bytes _ u4_reads (λ a h. (refl, of 4 (Float a) refl (omega arith) h)) fits
    (row_takes (λ n. Long (cast_signed w64 n)) 5 tag bytes _ u8_reads (λ a h. (ap u8 (sym (of_z-to_z w64 a h)), of 5 (Long (cast_signed w64 a)) refl (omega arith) (sfits_to_z {w = w64} {n = a} (Fits-of_lt {w = w64} {n = a} h)))) fits
    (row_takes Double 6 tag bytes _ u8_reads (λ a h. (refl, of 6 (Double a) refl (omega arith) h)) fits
    (row_takes Class 7 tag bytes _ u2_reads (λ a h. (refl, of 7 (Class a) refl (omega arith) h)) fits
    (row_takes Text 8 tag bytes _ u2_reads (λ a h. (refl, of 8 (Text a) refl (omega arith) h)) fits
    (row_takes (λ (q : ℕ × ℕ). Fieldref q.0 q.1) 9 tag bytes _ pair_reads (λ a h. (refl, of 9 (Fieldref a.0 a.1) refl (omega arith) h)) fits
    (row_takes (λ (q : ℕ × ℕ). Methodref q.0 q.1) 10 tag bytes _ pair_reads (λ a h. (refl, of 10 (Methodref a.0 a.1) refl (omega arith) h)) fits
    (row_takes (λ (q : ℕ × ℕ). InterfaceMethodref q.0 q.1) 11 tag bytes _ pair_reads (λ a h. (refl, of 11 (InterfaceMethodref a.0 a.1) refl (omega arith) h)) fits
    (row_takes (λ (q : ℕ × ℕ). NameAndType q.0 q.1) 12 tag bytes _ pair_reads (λ a h. (refl, of 12 (NameAndType a.0 a.1) refl (omega arith) h)) fits
    (row_takes (λ (q : ℕ × ℕ). MethodHandle q.0 q.1) 15 tag bytes _ (both_reads u1_reads u2_reads) (λ a h. (refl, of 15 (MethodHandle a.0 a.1) refl (omega arith) h)) fits
    (row_takes MethodType 16 tag bytes _ u2_reads (λ a h. (refl, of 16 (MethodType a) refl (omega arith) h)) fits
    (row_takes (λ (q : ℕ × ℕ). Dynamic q.0 q.1) 17 tag bytes _ pair_reads (λ a h. (refl, of 17 (Dynamic a.0 a.1) refl (omega arith) h)) fits
    (row_takes (λ (q : ℕ × ℕ). InvokeDynamic q.0 q.1) 18 tag bytes _ pair_reads (λ a h. (refl, of 18 (InvokeDynamic a.0 a.1) refl (omega arith) h)) fits
    (row_takes Module 19 tag bytes _ u2_reads (λ a h. (refl, of 19 (Module a) refl (omega arith) h)) fits
    (row_takes Package 20 tag bytes _ u2_reads (λ a h. (refl, of 20 (Package a) refl (omega arith) h)) fits
    (λ p e. absurd (let f : (let r : Result (Const × List ℕ) (Fault ClassWhy) = Err unknown in r ≡ Ok p) = e in cc))))))))))))))))))

constant_again : (unknown : Fault ClassWhy) (c : Const) (rest : List ℕ) → 1 ≤ tag_of c → IsConstant c → tagged_at unknown (tag_of c) (tail_of c ++ rest) ≡ Ok (c, rest)
unfolding tagged_at
constant_again unknown Unused rest some h = absurd (omega arith)
constant_again unknown (Utf8 units) rest some h = rw (text_reads.again units rest h) refl
constant_again unknown (Integer n) rest some h = rw (u4_reads.again (cast_unsigned w32 n) rest (Fits-lt-pow {w = w32} {n = cast_unsigned w32 n} (Fits-of_z {w = w32} {z = n} h)), to_z-of_z w32 n h) refl
constant_again unknown (Float bits) rest some h = rw (u4_reads.again bits rest h) refl
constant_again unknown (Long n) rest some h = rw (u8_reads.again (cast_unsigned w64 n) rest (Fits-lt-pow {w = w64} {n = cast_unsigned w64 n} (Fits-of_z {w = w64} {z = n} h)), to_z-of_z w64 n h) refl
constant_again unknown (Double bits) rest some h = rw (u8_reads.again bits rest h) refl
constant_again unknown (Class name) rest some h = rw (u2_reads.again name rest h) refl
constant_again unknown (Text units) rest some h = rw (u2_reads.again units rest h) refl
constant_again unknown (Fieldref class member) rest some h = rw (pair_reads.again (class, member) rest h) refl
constant_again unknown (Methodref class member) rest some h = rw (pair_reads.again (class, member) rest h) refl
constant_again unknown (InterfaceMethodref class member) rest some h = rw (pair_reads.again (class, member) rest h) refl
constant_again unknown (NameAndType name descriptor) rest some h = rw (pair_reads.again (name, descriptor) rest h) refl
constant_again unknown (MethodHandle kind member) rest some h = rw ((both_reads u1_reads u2_reads).again (kind, member) rest h) refl
constant_again unknown (MethodType descriptor) rest some h = rw (u2_reads.again descriptor rest h) refl
constant_again unknown (Dynamic bootstrap member) rest some h = rw (pair_reads.again (bootstrap, member) rest h) refl
constant_again unknown (InvokeDynamic bootstrap member) rest some h = rw (pair_reads.again (bootstrap, member) rest h) refl
constant_again unknown (Module name) rest some h = rw (u2_reads.again name rest h) refl
constant_again unknown (Package name) rest some h = rw (u2_reads.again name rest h) refl

tag_below : (c : Const) → tag_of c < 2 ^ 8
tag_below Unused = omega arith
tag_below (Utf8 units) = omega arith
tag_below (Integer n) = omega arith
tag_below (Long n) = omega arith
tag_below c = omega arith

tag_and_tail : (c : Const) → 1 ≤ tag_of c → u1 (tag_of c) ++ tail_of c ≡ constant c
tag_and_tail Unused some = absurd (omega arith)
tag_and_tail c some = refl

wide_tag : (c : Const) → is_wide_tag (tag_of c) ≡ is_wide c
wide_tag (Long n) = refl
wide_tag (Double bits) = refl
wide_tag c = refl

-- a constant in an entry that is used, where so many entries follow
pub record IsUsed (more : ℕ) (c : Const) : Type 0 where
  pub some : 1 ≤ tag_of c
  pub fits : IsConstant c
  pub room : is_wide c ≡ true → 1 ≤ more

not_wrong : {A : Type 0} (b : Bool) (x : Result A (Fault ClassWhy)) (d : Fault ClassWhy) (y : A) → cond b (Err d) x ≡ Ok y → (b ≡ false) × (x ≡ Ok y)
not_wrong true x d y e = absurd cc
not_wrong false x d y e = (refl, e)

has_room : (a : Bool) (more : ℕ) → (a && more == 0) ≡ false → a ≡ true → 1 ≤ more
has_room true more e h = omega (arith, eqb-false more 0 e)
has_room false more e h = absurd cc

room_is : (a : Bool) (more : ℕ) → (a ≡ true → 1 ≤ more) → (a && more == 0) ≡ false
room_is true more h = ne_eqb more 0 (λ e. omega (arith, h refl, e))
room_is false more h = refl

pub constant_reads : (more : ℕ) → IsReader (constant_at more) constant (IsUsed more)
unfolding constant_at
constant_reads more = record {
  takes = λ bytes p fits e.
      let a = ok_of (u1_at bytes) (λ tag. cond (is_wide_tag tag.0 && more == 0) (Err (fault_at bytes whys.Count)) (tagged_at (fault_at bytes whys.Tag) tag.0 tag.1)) p e in
      let b = not_wrong (is_wide_tag a.0.0 && more == 0) (tagged_at (fault_at bytes whys.Tag) a.0.0 a.0.1) (fault_at bytes whys.Count) p a.2 in
      let one = u1_reads.takes bytes a.0 fits a.1 in
      let two = constant_takes (fault_at bytes whys.Tag) a.0.0 a.0.1 one.0.rest_fits p b.1 in
      let some : 1 ≤ tag_of p.0 = omega (arith, two.1.tag_is, two.1.some) in
      let whole = Takes-then bytes (u1 a.0.0) a.0.1 (tail_of p.0) p.1 one.0 two.0 in
      let own : Takes bytes (u1 (tag_of p.0) ++ tail_of p.0) p.1 = subst (λ (t : ℕ). Takes bytes (u1 t ++ tail_of p.0) p.1) (sym two.1.tag_is) whole in
      let wide : is_wide_tag a.0.0 ≡ is_wide p.0 = ap is_wide_tag (sym two.1.tag_is) ∙ wide_tag p.0 in
      (subst (λ (t : List ℕ). Takes bytes t p.1) (tag_and_tail p.0 some) own, record { some = some; fits = two.1.fits; room = λ w. has_room (is_wide_tag a.0.0) more b.0 (wide ∙ w) });
  again = λ c rest h.
      let narrow : (is_wide_tag (tag_of c) && more == 0) ≡ false = room_is (is_wide_tag (tag_of c)) more (λ w. h.room (sym (wide_tag c) ∙ w)) in
      ap (λ (t : List ℕ). constant_at more (t ++ rest)) (sym (tag_and_tail c h.some))
      ∙ ap (constant_at more) (append_assoc (u1 (tag_of c)) (tail_of c) rest)
      ∙ rw (u1_reads.again (tag_of c) (tail_of c ++ rest) (tag_below c), narrow, constant_again _ c rest h.some h.fits) refl;
}

-- ---- the entries of the pool

-- an entry that is used, or the one after a Long or a Double
abbrev pub IsEntry : Bool → ℕ → Const → Type 0
IsEntry true more c = c ≡ Unused
IsEntry false more c = IsUsed more c

abbrev constant_ok : Const → List ℕ → Result (Const × List ℕ) (Fault ClassWhy)
constant_ok c rest = Ok (c, rest)

entry_reads : (behind : Bool) (more : ℕ) → IsReader (entry_at behind more) constant (IsEntry behind more)
entry_reads true more = record {
  takes = λ bytes p fits e. subst (λ (q : Const × List ℕ). Takes bytes (constant q.0) q.1 × (q.0 ≡ Unused)) (ok_is (Unused, bytes) p e) (record { parts = refl; rest_fits = fits }, refl);
  again = λ c rest h. subst (λ (d : Const). entry_at true more (constant d ++ rest) ≡ Ok (d, rest)) (sym h) refl;
}
entry_reads false more = constant_reads more

-- the list of entries after a constant
used_entries : (c : Const) (cs : List Const) → 1 ≤ tag_of c → AreEntries (is_wide c) cs → AreEntries false (c ∷ cs)
used_entries Unused cs some h = absurd (omega arith)
used_entries (Long n) cs some h = h
used_entries (Double bits) cs some h = h
used_entries c cs some h = h

entries_used : (c : Const) (cs : List Const) → AreEntries false (c ∷ cs) → (1 ≤ tag_of c) × AreEntries (is_wide c) cs
entries_used Unused cs h = absurd h
entries_used (Long n) cs h = (omega arith, h)
entries_used (Double bits) cs h = (omega arith, h)
entries_used c cs h = (omega arith, h)

entries_unused : (c : Const) (cs : List Const) → AreEntries true (c ∷ cs) → (c ≡ Unused) × AreEntries false cs
entries_unused Unused cs h = (refl, h)
entries_unused c cs h = absurd h

-- a list that ends at a Long or a Double isn't one of entries
has_more : (behind : Bool) (cs : List Const) → AreEntries behind cs → behind ≡ true → 1 ≤ length cs
has_more behind [] h e = let no : behind ≡ false = h in absurd cc
has_more behind (c ∷ cs) h e = omega arith

no_end : (behind : Bool) → (behind ≡ true → 1 ≤ 0) → behind ≡ false
no_end true h = absurd (omega (arith, h refl))
no_end false h = refl

entries_by_state : (behind : Bool) (cs : List Const) → (behind ≡ true → 1 ≤ length cs) → AllByState IsEntry next_entry behind cs → AllByRecursion IsConstant cs × AreEntries behind cs
entries_by_state behind [] room h = (tt, no_end behind room)
entries_by_state true (c ∷ cs) room h =
    let unused : c ≡ Unused = h.0 in
    let narrow : is_wide c ≡ false = ap is_wide unused in
    let others = entries_by_state false cs (λ e. absurd cc) (subst (λ (b : Bool). AllByState IsEntry next_entry b cs) narrow h.1) in
    subst (λ (d : Const). (IsConstant d × AllByRecursion IsConstant cs) × AreEntries true (d ∷ cs)) (sym unused) ((tt, others.0), others.1)
entries_by_state false (c ∷ cs) room h =
    let others = entries_by_state (is_wide c) cs h.0.room h.1 in
    ((h.0.fits, others.0), used_entries c cs h.0.some others.1)

by_state_entries : (behind : Bool) (cs : List Const) → AllByRecursion IsConstant cs → AreEntries behind cs → AllByState IsEntry next_entry behind cs
by_state_entries behind [] all h = tt
by_state_entries true (c ∷ cs) all h =
    let p = entries_unused c cs h in
    let narrow : is_wide c ≡ false = ap is_wide p.0 in
    (p.0, subst (λ (b : Bool). AllByState IsEntry next_entry b cs) (sym narrow) (by_state_entries false cs all.1 p.1))
by_state_entries false (c ∷ cs) all h =
    let p = entries_used c cs h in
    (record { some = p.0; fits = all.0; room = has_more (is_wide c) cs p.1 }, by_state_entries (is_wide c) cs all.1 p.1)

pub record HasEntries (n : ℕ) (cs : List Const) : Type 0 where
  pub count : length cs ≡ n
  pub fit : AllByRecursion IsConstant cs
  pub entries : AreEntries false cs

entries_reads : (n : ℕ) → IsReader (entries_at false n) (flat_map constant) (HasEntries n)
unfolding entries_at
entries_reads n =
    same_reads (HasEntries n)
    (λ cs h. let p = entries_by_state false cs (λ e. absurd cc) h.1 in record { count = h.0; fit = p.0; entries = p.1 })
    (λ cs h. (h.count, by_state_entries false cs h.fit h.entries))
    (list_by_reads next_entry entry_reads false n)

-- ---- the pool

abbrev is_count : ℕ → Bool
is_count n = not (n == 0)

counts : (n : ℕ) → is_count n ≡ true → 1 ≤ n
counts zero e = absurd cc
counts (suc n) e = omega arith

pool_again : (pool : List Const) (rest : List ℕ) → ranges.IsPool pool → pool_at (u2 (length pool) ++ flat_map constant pool ++ rest) ≡ Ok (pool, rest)
unfolding pool_at
pool_again (Unused ∷ cs) rest h =
    let n = suc (length cs) in
    let some : is_count n ≡ true = ap not (ne_eqb n 0 (λ e. omega (arith, e))) in
    let here = (verify_reads is_count whys.Count u2_reads).again n (flat_map constant cs ++ rest) (h.0.0, some) in
    let others = (entries_reads (n - 1)).again cs rest (record { count = omega arith; fit = h.0.1.1; entries = h.1 }) in
    ap pool_at (append_assoc (u2 n) (flat_map constant cs) rest)
    ∙ ap (λ (r : Result (ℕ × List ℕ) (Fault ClassWhy)). r >>= λ count. entries_at false (count.0 - 1) count.1 >>= λ entries. Ok (Unused ∷ entries.0, entries.1)) here
    ∙ ap (λ (r : Result (List Const × List ℕ) (Fault ClassWhy)). r >>= λ entries. Ok (Unused ∷ entries.0, entries.1)) others
pool_again pool rest h = absurd h

pub pool_reads : IsReader pool_at (λ pool. u2 (length pool) ++ flat_map constant pool) ranges.IsPool
unfolding pool_at
pool_reads = record {
  takes = λ bytes p fits e.
      let a = ok_of (verify is_count whys.Count u2_at bytes) (λ count. entries_at false (count.0 - 1) count.1 >>= λ entries. Ok (Unused ∷ entries.0, entries.1)) p e in
      let b = ok_of (entries_at false (a.0.0 - 1) a.0.1) (λ entries. Ok (Unused ∷ entries.0, entries.1)) p a.2 in
      let one = (verify_reads is_count whys.Count u2_reads).takes bytes a.0 fits a.1 in
      let two = (entries_reads (a.0.0 - 1)).takes a.0.1 b.0 one.0.rest_fits b.1 in
      let size : suc (length b.0.0) ≡ a.0.0 = omega (arith, two.1.count, counts a.0.0 one.1.1) in
      let whole = Takes-then bytes (u2 a.0.0) a.0.1 (flat_map constant b.0.0) b.0.1 one.0 two.0 in
      let made : List Const × List ℕ = (Unused ∷ b.0.0, b.0.1) in
      subst (λ (q : List Const × List ℕ). Takes bytes (u2 (length q.0) ++ flat_map constant q.0) q.1 × ranges.IsPool q.0) (ok_is made p b.2)
      (subst (λ (n : ℕ). Takes bytes (u2 n ++ flat_map constant b.0.0) b.0.1) (sym size) whole, ((omega (arith, size, one.1.0), (tt, two.1.fit)), two.1.entries));
  again = λ pool rest h. pool_again pool rest h;
}

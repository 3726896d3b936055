-- The lines of a class and of its members keep what is sound.
use Rattle.std.proofs.Common.{◌≡◌, ℕ, ◌<◌, ◌==◌, inl, inr, Bool, true, false, not, ◌&&◌, cond, List, [], ◌∷◌, ◌++◌, length, codes, Option, Some, None, refl, sym, ◌∙◌, ap, subst, arith, bit_and, bit_or, ltb, length-append, append_assoc, lit<, ◌^◌}
use Rattle.std.specs.List.{AllByRecursion, list_all}
use Rattle.std.proofs.lemmas.Bool.{ltb-true}
use Rattle.std.proofs.lemmas.Nat.{or_lt, and_or_apart}
use Rattle.std.proofs.lemmas.List.{append-nil}
use Rattle.items.proofs.Binds.{some_is}
use Rattle.class_model.specs.declared.access_flags.TheConstants.{ACC_MODULE}
use Rattle.class_model.specs.declared.constant.Const.{Const}
use Rattle.class_grammar.specs.Text.{same_text}
use Rattle.class_grammar.specs.Names.{object_class, is_class_text, is_field_name, is_method_name}
use Rattle.class_grammar.specs.Pool.{text_at, class_name_at}
use Rattle.class_grammar.specs.Checks.{has_no_code}
use Rattle.descriptors.specs.States.{is_field, is_method}
use Rattle.asm_text.specs.declared.line.Flag.{Flag}
use Rattle.asm_text.specs.declared.line.Flag.TheVariants as flags
use Rattle.asm_text.specs.Words.{is_word_byte, IsWord}
use Rattle.asm_pool.specs.Mentions as pools
use Rattle.asm_class.specs.declared.assembly.Stage.{Stage}
use Rattle.asm_class.specs.declared.assembly.Stage.TheVariants as stages
use Rattle.asm_class.specs.Flags.{bit_of, bits_with, bits_of}
use Rattle.asm_class.specs.Names.{class_at, names_at, is_field_of, is_method_of}
use Rattle.asm_class.specs.States.{State}
use Rattle.asm_class.specs.ClassLines.{has_room, class_line, super_line, with_interface, implements_line, field_of, field_line, after_method, code_at, method_of, method_line}
use Rattle.asm_soundness.specs.Pools.{IsClassAt, IsSoundPool, Grows, IsAscii}
use Rattle.asm_soundness.specs.SoundStates.{IsSoundClass, IsSoundField, IsSoundMethod, AreFew}
use Rattle.asm_soundness.specs.SoundLines.{IsHead, IsOther, IsAt, IsSoundState}
use Rattle.asm_soundness.proofs.PoolLaws.{text_keeps, class_keeps, text_stays}
use Rattle.asm_soundness.proofs.StayLaws as stays

-- ---- tests and options

pub some_same : {A : Type 0} (x y : A) → Some x ≡ Some y → x ≡ y
some_same x y e = cc

pub both_true : (a b : Bool) → (a && b) ≡ true → (a ≡ true) × (b ≡ true)
both_true true b e = (refl, e)
both_true false b e = absurd cc

-- what is chosen under a test
pub chosen : {A : Type 0} (b : Bool) (o : Option A) (x : A) → cond b o None ≡ Some x → (b ≡ true) × (o ≡ Some x)
chosen true o x e = (refl, e)
chosen false o x e = absurd cc

-- ---- words are in ASCII

all_bytes : (w : List ℕ) → list_all is_word_byte w ≡ true → IsAscii w
all_bytes [] h = tt
all_bytes (b ∷ bs) h =
    let t = both_true (is_word_byte b) (list_all is_word_byte bs) h in
    let u = both_true (ltb b 128 && not (b == 32)) (not (b == 10)) t.0 in
    let v = both_true (ltb b 128) (not (b == 32)) u.0 in
    (ltb-true b 128 v.0, all_bytes bs t.1)

pub word_ascii : (w : List ℕ) → IsWord w → IsAscii w
word_ascii w h = all_bytes w (both_true (not (length w == 0)) (list_all is_word_byte w) h).1

-- ---- flags

record IsFlags (bits : ℕ) : Type 0 where
  pub fits : bits < 2 ^ 16
  pub no_module : bit_and bits ACC_MODULE ≡ 0

bit_fits : (f : Flag) → IsFlags (bit_of f)
bit_fits flags.Public = record { fits = lit< tt; no_module = refl }
bit_fits flags.Private = record { fits = lit< tt; no_module = refl }
bit_fits flags.Static = record { fits = lit< tt; no_module = refl }
bit_fits flags.Final = record { fits = lit< tt; no_module = refl }
bit_fits flags.Super = record { fits = lit< tt; no_module = refl }
bit_fits flags.Synchronized = record { fits = lit< tt; no_module = refl }
bit_fits flags.Volatile = record { fits = lit< tt; no_module = refl }
bit_fits flags.Native = record { fits = lit< tt; no_module = refl }
bit_fits flags.Interface = record { fits = lit< tt; no_module = refl }
bit_fits flags.Abstract = record { fits = lit< tt; no_module = refl }

with_bits : (bits : ℕ) (fs : List Flag) → IsFlags bits → IsFlags (bits_with bits fs)
with_bits bits [] h = h
with_bits bits (f ∷ fs) h =
    let k = bit_fits f in
    with_bits (bit_or bits (bit_of f)) fs (record { fits = or_lt 16 bits (bit_of f) h.fits k.fits; no_module = and_or_apart ACC_MODULE bits (bit_of f) k.no_module ∙ h.no_module })

flags_fit : (fs : List Flag) → IsFlags (bits_of fs)
flags_fit fs = with_bits 0 fs (record { fits = lit< tt; no_module = refl })

-- ---- what stays in a pool that grows

abbrev AreKept : List Const → State → Type 0
AreKept pool s = AreFew (IsClassAt pool) s.class.interfaces × AreFew (IsSoundField pool) s.class.fields × AreFew (IsSoundMethod pool) s.class.methods

pub kept : (s : State) (new : List Const) → IsSoundState s → Grows s.pool new → AreKept new s
kept s new h g =
    subst (λ (p : List Const). AreKept p s) (sym g.is)
    (stays.classes s.pool g.more s.class.interfaces h.interfaces, stays.fields s.pool g.more s.class.fields h.fields, stays.methods s.pool g.more s.class.methods h.methods)

pub own_kept : (pool new : List Const) (own parent : ℕ) → Grows pool new → IsSoundClass pool own parent → IsSoundClass new own parent
own_kept pool new own parent g h = subst (λ (p : List Const). IsSoundClass p own parent) (sym g.is) (stays.owned pool g.more own parent h)

-- one more of a few
pub one_more : {X : Type 0} (P : X → Type 0) (xs : List X) (x : X) → has_room xs ≡ true → AreFew P xs → P x → AreFew P (xs ++ x ∷ [])
one_more {X = X} P xs x room h k =
    let lt = ltb-true (length xs) 65535 room in
    let n : length (x ∷ []) ≡ 1 = refl in
    record { few = omega (arith, lt, n, length-append xs (x ∷ [])); each = more xs h.each }
  where
    more : (ys : List X) → AllByRecursion P ys → AllByRecursion P (ys ++ x ∷ [])
    more [] a = (k, tt)
    more (y ∷ ys) a = (a.0, more ys a.1)

-- the class that a line names
pub class_at_keeps : (name : List ℕ) (pool : List Const) (x : ℕ × List Const) → IsSoundPool pool → IsWord name → class_at name pool ≡ Some x → Grows pool x.1 × (class_name_at x.1 x.0 ≡ Some name)
class_at_keeps name pool x h w e =
    let t = chosen (is_class_text name) (pools.class name pool) x e in
    class_keeps name pool x.0 x.1 h (word_ascii name w) t.0 t.1

-- ---- the class

first_at : (name : List ℕ) (pool : List Const) (own : ℕ) (s : State) (b : Bool) → same_text name object_class ≡ b → class_name_at pool own ≡ Some name → s.pool ≡ pool → s.class.own ≡ own → s.class.parent ≡ 0
    → IsAt (cond b stages.Interfaces stages.Super) s
first_at name pool own s true e is p o z = record { name = name; own_is = (λ i. class_name_at (p i) (o i)) ∙ is; parent_is = inl (e, z) }
first_at name pool own s false e is p o z = record { name = name; is = (λ i. class_name_at (p i) (o i)) ∙ is; other = e }

pub class_line_keeps : (fs : List Flag) (name : List ℕ) (s t : State) → s.class.parent ≡ 0 → IsSoundState s → IsWord name → class_line fs name s ≡ Some t → IsSoundState t
class_line_keeps fs name s t z h w e =
    let p = some_is (class_at name s.pool) _ t e in
    let k = class_at_keeps name s.pool p.0 h.pool w p.1 in
    let l = kept s p.0.1 h k.0 in
    let f = flags_fit fs in
    subst IsSoundState (some_same _ t p.2) (record {
      pool = k.0.sound;
      flags = f.fits;
      no_module = f.no_module;
      interfaces = l.0;
      fields = l.1;
      methods = l.2;
      at = first_at name p.0.1 p.0.0 _ (same_text name object_class) refl k.1 refl refl z;
    })

pub super_line_keeps : (name : List ℕ) (s t : State) → IsOther s.pool s.class.own → IsSoundState s → IsWord name → super_line name s ≡ Some t → IsSoundState t
super_line_keeps name s t o h w e =
    let p = some_is (class_at name s.pool) _ t e in
    let k = class_at_keeps name s.pool p.0 h.pool w p.1 in
    let l = kept s p.0.1 h k.0 in
    let other = subst (λ (q : List Const). IsOther q s.class.own) (sym k.0.is) (stays.other s.pool k.0.more s.class.own o) in
    subst IsSoundState (some_same _ t p.2) (record {
      pool = k.0.sound;
      flags = h.flags;
      no_module = h.no_module;
      interfaces = l.0;
      fields = l.1;
      methods = l.2;
      at = record { name = other.name; own_is = other.is; parent_is = inr (other.other, record { name = name; here = k.1 }) };
    })

pub implements_line_keeps : (name : List ℕ) (s t : State) → IsSoundClass s.pool s.class.own s.class.parent → s.stage ≡ stages.Interfaces → IsSoundState s → IsWord name → implements_line name s ≡ Some t
    → IsSoundState t
implements_line_keeps name s t c stage h w e =
    let r = chosen (has_room s.class.interfaces) _ t e in
    let p = some_is (class_at name s.pool) _ t r.1 in
    let k = class_at_keeps name s.pool p.0 h.pool w p.1 in
    let l = kept s p.0.1 h k.0 in
    subst IsSoundState (some_same _ t p.2) (record {
      pool = k.0.sound;
      flags = h.flags;
      no_module = h.no_module;
      interfaces = one_more (IsClassAt p.0.1) s.class.interfaces p.0.0 r.0 l.0 (record { name = name; here = k.1 });
      fields = l.1;
      methods = l.2;
      at = subst (λ (g : Stage). IsAt g (record s { pool = p.0.1; class = with_interface s.class p.0.0 })) (sym stage) (own_kept s.pool p.0.1 s.class.own s.class.parent k.0 c);
    })

-- ---- fields and methods

pub grows_on : (a b c : List Const) → Grows a b → Grows b c → Grows a c
grows_on a b c g h = record {
  more = g.more ++ h.more;
  is = h.is ∙ ap (λ (x : List Const). x ++ h.more) g.is ∙ append_assoc a g.more h.more;
  sound = h.sound;
}

-- the name and the descriptor that a line names
names_at_keep : (name descriptor : List ℕ) (pool : List Const) (x : (ℕ × ℕ) × List Const) → IsSoundPool pool → IsWord name → IsWord descriptor → names_at name descriptor pool ≡ Some x
    → Grows pool x.1 × (text_at x.1 x.0.0 ≡ Some name) × (text_at x.1 x.0.1 ≡ Some descriptor)
names_at_keep name descriptor pool x h w v e =
    let p = some_is (pools.text name pool) _ x e in
    let k = text_keeps name pool p.0.0 p.0.1 h (word_ascii name w) p.1 in
    let q = some_is (pools.text descriptor p.0.1) _ x p.2 in
    let l = text_keeps descriptor p.0.1 q.0.0 q.0.1 k.0.sound (word_ascii descriptor v) q.1 in
    let same = some_same _ x q.2 in
    let name_is : text_at q.0.1 p.0.0 ≡ Some name = ap (λ (r : List Const). text_at r p.0.0) l.0.is ∙ text_stays p.0.1 l.0.more p.0.0 name k.1 in
    subst (λ (y : (ℕ × ℕ) × List Const). Grows pool y.1 × (text_at y.1 y.0.0 ≡ Some name) × (text_at y.1 y.0.1 ≡ Some descriptor)) same
    (grows_on pool p.0.1 q.0.1 k.0 l.0, name_is, l.1)

pub field_line_keeps : (fs : List Flag) (name descriptor : List ℕ) (s t : State) → IsSoundClass s.pool s.class.own s.class.parent → IsSoundState s → IsWord name → IsWord descriptor
    → field_line fs name descriptor s ≡ Some t → IsSoundState t
field_line_keeps fs name descriptor s t c h w v e =
    let r = chosen (is_field_of name descriptor && has_room s.class.fields) _ t e in
    let room = both_true (is_field_of name descriptor) (has_room s.class.fields) r.0 in
    let fine = both_true (is_field_name name) (is_field descriptor) room.0 in
    let p = some_is (names_at name descriptor s.pool) _ t r.1 in
    let k = names_at_keep name descriptor s.pool p.0 h.pool w v p.1 in
    let l = kept s p.0.1 h k.0 in
    subst IsSoundState (some_same _ t p.2) (record {
      pool = k.0.sound;
      flags = h.flags;
      no_module = h.no_module;
      interfaces = l.0;
      fields = one_more (IsSoundField p.0.1) s.class.fields (field_of (bits_of fs) p.0.0) room.1 l.1 (record {
        flags = (flags_fit fs).fits;
        name = record { units = name; is = k.1; passed = fine.0 };
        descriptor = record { units = descriptor; is = k.2; passed = fine.1 };
        attributes = refl;
      });
      methods = l.2;
      at = own_kept s.pool p.0.1 s.class.own s.class.parent k.0 c;
    })

-- where code has a name
code_at_keeps : (bits : ℕ) (pool : List Const) (x : ℕ × List Const) (b : Bool) → IsSoundPool pool → has_no_code bits ≡ b → cond b (Some (0, pool)) (pools.text (codes "Code") pool) ≡ Some x
    → Grows pool x.1 × (not b ≡ true → text_at x.1 x.0 ≡ Some (codes "Code"))
code_at_keeps bits pool x true h t e =
    let first : ℕ × List Const = (0, pool) in
    let same : first ≡ x = some_same first x e in
    let grows : Grows pool pool = record { more = []; is = sym (append-nil pool); sound = h } in
    (subst (λ (y : ℕ × List Const). Grows pool y.1) same grows, λ f. absurd cc)
code_at_keeps bits pool x false h t e =
    let ascii : IsAscii (codes "Code") = (lit< tt, (lit< tt, (lit< tt, (lit< tt, tt)))) in
    let k = text_keeps (codes "Code") pool x.0 x.1 h ascii e in
    (k.0, λ f. k.1)

method_at : (s : State) (b : Bool) → has_no_code s.method.flags ≡ b → IsSoundClass s.pool s.class.own s.class.parent → IsHead s.pool s.method (not b) → has_room s.class.methods ≡ true → IsAt (cond b stages.NoCode stages.Stack) s
method_at s true t c k r = (c, k, r)
method_at s false t c k r = (c, k, r)

not_not : (b : Bool) → b ≡ not (not b)
not_not true = refl
not_not false = refl

pub method_line_keeps : (fs : List Flag) (name descriptor : List ℕ) (s t : State) → IsSoundClass s.pool s.class.own s.class.parent → IsSoundState s → IsWord name → IsWord descriptor
    → method_line fs name descriptor s ≡ Some t → IsSoundState t
method_line_keeps fs name descriptor s t c h w v e =
    let bits = bits_of fs in
    let none = has_no_code bits in
    let r = chosen (is_method_of name descriptor && has_room s.class.methods) _ t e in
    let room = both_true (is_method_of name descriptor) (has_room s.class.methods) r.0 in
    let fine = both_true (is_method_name name) (is_method descriptor) room.0 in
    let p = some_is (names_at name descriptor s.pool) _ t r.1 in
    let k = names_at_keep name descriptor s.pool p.0 h.pool w v p.1 in
    let q = some_is (code_at bits p.0.1) _ t p.2 in
    let m = code_at_keeps bits p.0.1 q.0 none k.0.sound refl q.1 in
    let g = grows_on s.pool p.0.1 q.0.1 k.0 m.0 in
    let l = kept s q.0.1 h g in
    let stay : (i : ℕ) (u : List ℕ) → text_at p.0.1 i ≡ Some u → text_at q.0.1 i ≡ Some u = λ i u f. ap (λ (y : List Const). text_at y i) m.0.is ∙ text_stays p.0.1 m.0.more i u f in
    let head : IsHead q.0.1 (method_of bits p.0.0 q.0.0) (not none) = record {
      flags = (flags_fit fs).fits;
      name = record { units = name; is = stay p.0.0.0 name k.1; passed = fine.0 };
      descriptor = record { units = descriptor; is = stay p.0.0.1 descriptor k.2; passed = fine.1 };
      none = not_not none;
      named = m.1;
    } in
    let new = record s { stage = after_method bits; pool = q.0.1; method = method_of bits p.0.0 q.0.0 } in
    subst IsSoundState (some_same new t q.2) (record {
      pool = m.0.sound;
      flags = h.flags;
      no_module = h.no_module;
      interfaces = l.0;
      fields = l.1;
      methods = l.2;
      at = method_at new none refl (own_kept s.pool q.0.1 s.class.own s.class.parent g c) head room.1;
    })

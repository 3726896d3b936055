-- The bytes of instructions and of frames are bytes.
use Rattle.std.proofs.Common.{◌≡◌, ℕ, ℤ, pos, negsuc, zero, suc, ◌+◌, ◌-◌, ◌/◌, ◌%◌, ◌<◌, ◌^◌, ◌==◌, Bool, true, false, ◌&&◌, cond, List, [], ◌∷◌, ◌++◌, length, replicate, Option, Some, None, Result, Ok, Err, refl, sym, ◌∙◌, ap, subst, arith, ltb, lit<, mod-lt, FitsSigned, int_le}
use Rattle.std.specs.Int.{w8, w16, w32, cast_unsigned, byte_at, bytes_high_first}
use Rattle.std.specs.List.{AllByRecursion}
use Rattle.std.proofs.lemmas.Bool.{ltb-true, leb-true}
use Rattle.items.proofs.Binds.{some_is}
use Rattle.class_grammar.specs.Ranges.{IsU1}
use Rattle.asm_text.specs.declared.instruction.Operands.{Operands}
use Rattle.asm_text.specs.declared.instruction.Operands.TheVariants as operands
use Rattle.asm_text.specs.declared.instruction.Element.{Element}
use Rattle.asm_text.specs.declared.instruction.Element.TheVariants as elements
use Rattle.asm_text.specs.declared.instruction.Case.{Case}
use Rattle.asm_text.specs.LineText.{IsOperands}
use Rattle.asm_code.specs.declared.instruction.Mentioned.{Mentioned}
use Rattle.asm_code.specs.Encoding.{Targets, u2, s1, s2, s4, offset, is_near, near, far, far_all, padding, highest, is_table, table_targets, table, are_rising, case, cases, lookup, is_small, element_code, with_instruction}
use Rattle.asm_code.specs.Sizes.{size_of}
use Rattle.asm_code.proofs.SizeLaws.{sizes}
use Rattle.asm_body.specs.declared.placed.Placed.{Placed}
use Rattle.asm_body.specs.declared.placed.PlacedType.{PlacedType}
use Rattle.asm_body.specs.declared.placed.PlacedType.TheVariants as types
use Rattle.asm_body.specs.declared.placed.PlacedFrame.{PlacedFrame}
use Rattle.asm_body.specs.Bodies.{or_line, ◌then◌, put_one, put_all, with_type, with_types, with_counted, delta_of, with_frame, put_frame, put_frames}
use Rattle.asm_soundness.specs.SoundLines.{IsSoundPlaced, Spans}
use Rattle.asm_soundness.proofs.ClassLaws.{some_same, both_true, chosen}

abbrev pub AreBytes : List ℕ → Type 0
AreBytes bytes = AllByRecursion IsU1 bytes

pub bytes_append : (xs ys : List ℕ) → AreBytes xs → AreBytes ys → AreBytes (xs ++ ys)
bytes_append [] ys h k = k
bytes_append (x ∷ xs) ys h k = (h.0, bytes_append xs ys h.1 k)

byte_small : (k n : ℕ) → byte_at k n < 256
byte_small zero n = omega arith
byte_small (suc k) n = mod-lt (n / 256 ^ suc k) (lit< tt)

high_first : (k n : ℕ) → AreBytes (bytes_high_first k n)
high_first zero n = tt
high_first (suc k) n = (byte_small k n, high_first k n)

pub u2_bytes : (n : ℕ) → AreBytes (u2 n)
u2_bytes n = high_first 2 n

s2_bytes : (n : ℤ) → AreBytes (s2 n)
s2_bytes n = high_first 2 (cast_unsigned w16 n)

s4_bytes : (n : ℤ) → AreBytes (s4 n)
s4_bytes n = high_first 4 (cast_unsigned w32 n)

s1_small : (n : ℤ) → FitsSigned w8 n → cast_unsigned w8 n < 256
s1_small (pos k) h = omega arith
s1_small (negsuc k) h = omega arith

s1_of_small : (n : ℤ) → int_le n (pos 127) ≡ true → cast_unsigned w8 n < 256
s1_of_small (pos k) h = let le = leb-true k 127 h in omega arith
s1_of_small (negsuc k) h = omega arith

-- what is appended are bytes
put_bytes : (code bytes new : List ℕ) → AreBytes code → AreBytes bytes → Some (code ++ bytes) ≡ Some new → AreBytes new
put_bytes code bytes new h k e = subst AreBytes (some_same _ new e) (bytes_append code bytes h k)

zeros : (k : ℕ) → AreBytes (replicate k 0)
zeros zero = tt
zeros (suc k) = (lit< tt, zeros k)

module _ (target : Targets) (pc : ℕ) where
  far_bytes : (label code new : List ℕ) → AreBytes code → far target pc label code ≡ Some new → AreBytes new
  far_bytes label code new h e =
      let t = some_is (target label) (λ t. Some (code ++ s4 (offset pc t))) new e in
      put_bytes code (s4 (offset pc t.0)) new h (s4_bytes (offset pc t.0)) t.2

  near_bytes : (label code new : List ℕ) → AreBytes code → near target pc label code ≡ Some new → AreBytes new
  near_bytes label code new h e =
      let t = some_is (target label) (λ t. cond (is_near (offset pc t)) (Some (code ++ s2 (offset pc t))) None) new e in
      put_bytes code (s2 (offset pc t.0)) new h (s2_bytes (offset pc t.0)) (chosen (is_near (offset pc t.0)) _ new t.2).1

  all_bytes : (labels : List (List ℕ)) (code new : List ℕ) → AreBytes code → far_all target pc labels code ≡ Some new → AreBytes new
  all_bytes [] code new h e = subst AreBytes (some_same _ new e) h
  all_bytes (label ∷ labels) code new h e =
      let t = some_is (far target pc label code) (λ next. far_all target pc labels next) new e in
      all_bytes labels t.0 new (far_bytes label code t.0 h t.1) t.2

  cases_bytes : (cs : List Case) (code new : List ℕ) → AreBytes code → cases target pc cs code ≡ Some new → AreBytes new
  cases_bytes [] code new h e = subst AreBytes (some_same _ new e) h
  cases_bytes (c ∷ cs) code new h e =
      let t = some_is (case target pc c code) (λ next. cases target pc cs next) new e in
      cases_bytes cs t.0 new (far_bytes c.label (code ++ s4 c.value) t.0 (bytes_append code (s4 c.value) h (s4_bytes c.value)) t.1) t.2

  table_bytes : (low : ℤ) (labels : List (List ℕ)) (default code new : List ℕ) → AreBytes code → table target pc low labels default code ≡ Some new → AreBytes new
  table_bytes low labels default code new h e =
      let high = highest low (length labels) in
      let f = (chosen (is_table low (length labels)) _ new e).1 in
      let t = some_is (far target pc default (code ++ padding pc)) (λ next. table_targets target pc low labels next) new f in
      let first = far_bytes default (code ++ padding pc) t.0 (bytes_append code (padding pc) h (zeros (3 - pc % 4))) t.1 in
      all_bytes labels ((t.0 ++ s4 low) ++ s4 high) new (bytes_append (t.0 ++ s4 low) (s4 high) (bytes_append t.0 (s4 low) first (s4_bytes low)) (s4_bytes high)) t.2

  lookup_bytes : (cs : List Case) (default code new : List ℕ) → AreBytes code → lookup target pc cs default code ≡ Some new → AreBytes new
  lookup_bytes cs default code new h e =
      let f = (chosen (ltb (length cs) 65536 && are_rising cs) _ new e).1 in
      let t = some_is (far target pc default (code ++ padding pc)) (λ next. cases target pc cs (next ++ s4 (pos (length cs)))) new f in
      let first = far_bytes default (code ++ padding pc) t.0 (bytes_append code (padding pc) h (zeros (3 - pc % 4))) t.1 in
      cases_bytes cs (t.0 ++ s4 (pos (length cs))) new (bytes_append t.0 (s4 (pos (length cs))) first (s4_bytes (pos (length cs)))) t.2

  -- behind an opcode
  module _ (opcode : ℕ) (small : opcode < 256) (code new : List ℕ) (h : AreBytes code) where
    behind : AreBytes (code ++ opcode ∷ [])
    behind = bytes_append code (opcode ∷ []) h (small, tt)

    wide : AreBytes (code ++ 196 ∷ opcode ∷ [])
    wide = bytes_append code (196 ∷ opcode ∷ []) h (lit< tt, (small, tt))

    constant_bytes : (index : ℕ) (b : Bool) → cond b (cond (ltb index 256) (Some (code ++ opcode ∷ index ∷ [])) None) (Some (code ++ opcode ∷ u2 index)) ≡ Some new → AreBytes new
    constant_bytes index true e =
        let t = chosen (ltb index 256) _ new e in
        put_bytes code (opcode ∷ index ∷ []) new h (small, (ltb-true index 256 t.0, tt)) t.1
    constant_bytes index false e = put_bytes code (opcode ∷ u2 index) new h (small, u2_bytes index) e

    local_bytes : (n : ℕ) (b : Bool) → ltb n 256 ≡ b → cond b (Some (code ++ opcode ∷ n ∷ [])) (Some ((code ++ 196 ∷ opcode ∷ []) ++ u2 n)) ≡ Some new → AreBytes new
    local_bytes n true t e = put_bytes code (opcode ∷ n ∷ []) new h (small, (ltb-true n 256 t, tt)) e
    local_bytes n false t e = put_bytes (code ++ 196 ∷ opcode ∷ []) (u2 n) new wide (u2_bytes n) e

    increment_bytes : (n : ℕ) (by : ℤ) (b : Bool) → is_small n by ≡ b → cond b (Some (code ++ opcode ∷ n ∷ s1 by)) (Some (((code ++ 196 ∷ opcode ∷ []) ++ u2 n) ++ s2 by)) ≡ Some new → AreBytes new
    increment_bytes n by true t e =
        let a = both_true (ltb n 256 && int_le (negsuc 127) by) (int_le by (pos 127)) t in
        let b = both_true (ltb n 256) (int_le (negsuc 127) by) a.0 in
        put_bytes code (opcode ∷ n ∷ s1 by) new h (small, (ltb-true n 256 b.0, (s1_of_small by a.1, tt))) e
    increment_bytes n by false t e = put_bytes ((code ++ 196 ∷ opcode ∷ []) ++ u2 n) (s2 by) new (bytes_append (code ++ 196 ∷ opcode ∷ []) (u2 n) wide (u2_bytes n)) (s2_bytes by) e

    branch_bytes : (label : List ℕ) (b : Bool) → cond b (far target pc label (code ++ opcode ∷ [])) (near target pc label (code ++ opcode ∷ [])) ≡ Some new → AreBytes new
    branch_bytes label true e = far_bytes label (code ++ opcode ∷ []) new behind e
    branch_bytes label false e = near_bytes label (code ++ opcode ∷ []) new behind e

    member_bytes : (m : Mentioned) (b : Bool) → m.slots < 256 → cond b (Some (((code ++ opcode ∷ []) ++ u2 m.index) ++ m.slots ∷ 0 ∷ [])) (Some (code ++ opcode ∷ u2 m.index)) ≡ Some new → AreBytes new
    member_bytes m true k e =
        put_bytes ((code ++ opcode ∷ []) ++ u2 m.index) (m.slots ∷ 0 ∷ []) new (bytes_append (code ++ opcode ∷ []) (u2 m.index) behind (u2_bytes m.index)) (k, (lit< tt, tt)) e
    member_bytes m false k e = put_bytes code (opcode ∷ u2 m.index) new h (small, u2_bytes m.index) e

    dimensions_bytes : (index n : ℕ) (b : Bool) → n < 256 → cond b None (Some ((code ++ opcode ∷ u2 index) ++ n ∷ [])) ≡ Some new → AreBytes new
    dimensions_bytes index n true k e = absurd cc
    dimensions_bytes index n false k e = put_bytes (code ++ opcode ∷ u2 index) (n ∷ []) new (bytes_append code (opcode ∷ u2 index) h (small, u2_bytes index)) (k, tt) e

  element_small : (e : Element) → element_code e < 256
  element_small elements.Boolean = lit< tt
  element_small elements.Char = lit< tt
  element_small elements.Byte = lit< tt
  element_small elements.Short = lit< tt
  element_small elements.Int = lit< tt
  element_small elements.Long = lit< tt

  instruction_bytes : (opcode : ℕ) (m : Mentioned) (ops : Operands) (code new : List ℕ) → opcode < 256 → m.slots < 256 → IsOperands ops → AreBytes code → with_instruction target pc opcode m ops code ≡ Some new → AreBytes new
  instruction_bytes opcode m operands.Nothing code new s k o h e = put_bytes code (opcode ∷ []) new h (s, tt) e
  instruction_bytes opcode m (operands.Byte n) code new s k o h e = put_bytes code (opcode ∷ s1 n) new h (s, (s1_small n o, tt)) e
  instruction_bytes opcode m (operands.Short n) code new s k o h e = put_bytes code (opcode ∷ s2 n) new h (s, s2_bytes n) e
  instruction_bytes opcode m (operands.Constant c) code new s k o h e = constant_bytes opcode s code new h m.index (opcode == 18) e
  instruction_bytes opcode m (operands.Local n) code new s k o h e = local_bytes opcode s code new h n (ltb n 256) refl e
  instruction_bytes opcode m (operands.Increment n by) code new s k o h e = increment_bytes opcode s code new h n by (is_small n by) refl e
  instruction_bytes opcode m (operands.Branch label) code new s k o h e = branch_bytes opcode s code new h label (opcode == 200) e
  instruction_bytes opcode m (operands.Table low labels default) code new s k o h e = table_bytes low labels default (code ++ opcode ∷ []) new (behind opcode s code new h) e
  instruction_bytes opcode m (operands.Lookup cs default) code new s k o h e = lookup_bytes cs default (code ++ opcode ∷ []) new (behind opcode s code new h) e
  instruction_bytes opcode m (operands.Member class name descriptor) code new s k o h e = member_bytes opcode s code new h m (opcode == 185) k e
  instruction_bytes opcode m (operands.Class name) code new s k o h e = put_bytes code (opcode ∷ u2 m.index) new h (s, u2_bytes m.index) e
  instruction_bytes opcode m (operands.Element x) code new s k o h e = put_bytes code (opcode ∷ element_code x ∷ []) new h (s, (element_small x, tt)) e
  instruction_bytes opcode m (operands.Dimensions name n) code new s k o h e = dimensions_bytes opcode s code new h m.index n (n == 0) o.1 e

-- ---- one after the other

pub then_ok : {A B : Type 0} (r : Result A ℕ) (f : A → Result B ℕ) (y : B) → r then f ≡ Ok y → (x : A) × (r ≡ Ok x) × (f x ≡ Ok y)
then_ok (Ok x) f y e = (x, refl, e)
then_ok (Err line) f y e = absurd cc

pub or_line_ok : {A : Type 0} (line : ℕ) (o : Option A) (x : A) → or_line line o ≡ Ok x → o ≡ Some x
or_line_ok line (Some y) x e = let same : y ≡ x = cc in ap (λ z. Some z) same
or_line_ok line None x e = absurd cc

abbrev pub made : {A : Type 0} → A → Result A ℕ
made x = Ok x

pub ok_same : {A : Type 0} (x y : A) → made x ≡ made y → x ≡ y
ok_same x y e = cc

-- the instructions of a body, from a pc that is the length of the code before them
pub code_bytes : (target : Targets) (ps : List Placed) (code new : List ℕ) (end : ℕ) → AreBytes code → Spans (length code) ps end → AllByRecursion IsSoundPlaced ps → put_all target ps code ≡ Ok new
    → AreBytes new × (length new ≡ end)
code_bytes target [] code new end h s k e =
    let same = ok_same code new e in
    (subst AreBytes same h, sym (ap length same) ∙ s)
code_bytes target (p ∷ ps) code new end h s k e =
    let t = then_ok (put_one target p code) (λ next. put_all target ps next) new e in
    let one = or_line_ok p.line (with_instruction target p.pc p.opcode p.mentioned p.operands code) t.0 t.1 in
    let bytes = instruction_bytes target p.pc p.opcode p.mentioned p.operands code t.0 k.0.opcode k.0.slots k.0.operands h one in
    let size : length t.0 ≡ length code + size_of (length code) p.opcode p.operands = sizes target p.pc p.opcode p.mentioned p.operands code t.0 one ∙ ap (λ (n : ℕ). length code + size_of n p.opcode p.operands) s.0 in
    code_bytes target ps t.0 new end bytes (subst (λ (n : ℕ). Spans n ps end) (sym size) s.1) k.1 t.2

type_bytes : (target : Targets) (t : PlacedType) (map new : List ℕ) → AreBytes map → with_type target t map ≡ Some new → AreBytes new
type_bytes target types.Top map new h e = put_bytes map (0 ∷ []) new h (lit< tt, tt) e
type_bytes target types.Int map new h e = put_bytes map (1 ∷ []) new h (lit< tt, tt) e
type_bytes target types.Long map new h e = put_bytes map (4 ∷ []) new h (lit< tt, tt) e
type_bytes target types.Null map new h e = put_bytes map (5 ∷ []) new h (lit< tt, tt) e
type_bytes target types.This map new h e = put_bytes map (6 ∷ []) new h (lit< tt, tt) e
type_bytes target (types.New label) map new h e =
    let t = some_is (target label) _ new e in
    put_bytes map (8 ∷ u2 t.0) new h (lit< tt, u2_bytes t.0) t.2
type_bytes target (types.Object index) map new h e = put_bytes map (7 ∷ u2 index) new h (lit< tt, u2_bytes index) e

types_bytes : (target : Targets) (ts : List PlacedType) (map new : List ℕ) → AreBytes map → with_types target ts map ≡ Some new → AreBytes new
types_bytes target [] map new h e = subst AreBytes (some_same map new e) h
types_bytes target (t ∷ ts) map new h e =
    let p = some_is (with_type target t map) _ new e in
    types_bytes target ts p.0 new (type_bytes target t map p.0 h p.1) p.2

not_many : (b : Bool) (o : Option (List ℕ)) (new : List ℕ) → cond b None o ≡ Some new → o ≡ Some new
not_many true o new e = absurd cc
not_many false o new e = e

counted_bytes : (target : Targets) (ts : List PlacedType) (map new : List ℕ) → AreBytes map → with_counted target ts map ≡ Some new → AreBytes new
counted_bytes target ts map new h e =
    types_bytes target ts (map ++ u2 (length ts)) new (bytes_append map (u2 (length ts)) h (u2_bytes (length ts))) (not_many (ltb 65535 (length ts)) _ new e)

frame_bytes : (target : Targets) (before : Option ℕ) (f : PlacedFrame) (map new : List ℕ) → AreBytes map → with_frame target before f map ≡ Some new → AreBytes new
frame_bytes target before f map new h e =
    let d = some_is (delta_of before f.pc) _ new e in
    let l = some_is (with_counted target f.locals (map ++ 255 ∷ u2 d.0)) _ new d.2 in
    let first = counted_bytes target f.locals (map ++ 255 ∷ u2 d.0) l.0 (bytes_append map (255 ∷ u2 d.0) h (lit< tt, u2_bytes d.0)) l.1 in
    counted_bytes target f.stack l.0 new first l.2

pub frames_bytes : (target : Targets) (before : Option ℕ) (fs : List PlacedFrame) (map new : List ℕ) → AreBytes map → put_frames target before fs map ≡ Ok new → AreBytes new
frames_bytes target before [] map new h e = subst AreBytes (ok_same map new e) h
frames_bytes target before (f ∷ fs) map new h e =
    let t = then_ok (put_frame target before f map) (λ next. put_frames target (Some f.pc) fs next) new e in
    let one = or_line_ok f.line (with_frame target before f map) t.0 t.1 in
    frames_bytes target (Some f.pc) fs t.0 new (frame_bytes target before f map t.0 h one) t.2

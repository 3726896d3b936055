-- The lines of a body keep what is sound.
use Rattle.std.proofs.Common.{◌≡◌, ℕ, ◌+◌, ◌<◌, ◌≤◌, ◌^◌, ◌==◌, ◌⊎◌, inl, inr, Bool, true, false, not, ◌&&◌, cond, List, [], ◌∷◌, ◌++◌, length, get_or, codes, Option, Some, None, is_some, refl, sym, ◌∙◌, ap, subst, arith, ltb, leb, lit<, bit_and}
use Rattle.std.specs.Option.{option_map}
use Rattle.std.specs.List.{AllByRecursion, list_all}
use Rattle.std.proofs.lemmas.Bool.{leb-true}
use Rattle.std.proofs.lemmas.Bool.Decides.{leb_tells}
use Rattle.std.proofs.lemmas.List.{append-nil, get_or_past}
use Rattle.items.proofs.Binds.{some_is}
use Rattle.class_model.specs.declared.access_flags.TheConstants.{ACC_MODULE}
use Rattle.class_model.specs.declared.constant.Const.{Const}
use Rattle.class_model.specs.declared.attribute.Attribute.{Attribute}
use Rattle.class_grammar.specs.Names.{is_class_text}
use Rattle.class_grammar.specs.Pool.{text_at}
use Rattle.class_grammar.specs.Ranges.{IsU2}
use Rattle.descriptors.specs.declared.kind.Kind.{Kind}
use Rattle.descriptors.specs.Descriptors.{slots}
use Rattle.descriptors.specs.States.{is_method}
use Rattle.descriptors.specs.Meaning as descriptors
use Rattle.asm_text.specs.declared.line.FrameType.{FrameType}
use Rattle.asm_text.specs.declared.line.FrameType.TheVariants as types
use Rattle.asm_text.specs.declared.instruction.Operands.{Operands}
use Rattle.asm_text.specs.declared.instruction.Operands.TheVariants as operands
use Rattle.asm_text.specs.declared.instruction.Constant.{Constant}
use Rattle.asm_text.specs.declared.instruction.Constant.TheVariants as constants
use Rattle.asm_text.specs.Words.{IsWord}
use Rattle.asm_text.specs.LineText.{IsOperands, IsConstant, IsFrameType, AreFrameTypes, IsCaught}
use Rattle.asm_text.specs.Mnemonics.{Mnemonic, nameless, mnemonics, mnemonic_of}
use Rattle.asm_pool.specs.Mentions as pools
use Rattle.asm_code.specs.declared.instruction.Mentioned.{Mentioned}
use Rattle.asm_code.specs.Sizes.{size_of, fitting}
use Rattle.asm_body.specs.declared.placed.Placed.{Placed}
use Rattle.asm_body.specs.declared.placed.PlacedType.{PlacedType}
use Rattle.asm_body.specs.declared.placed.PlacedRow.{PlacedRow}
use Rattle.asm_body.specs.declared.growing.Instructions.{Instructions}
use Rattle.asm_body.specs.Growing.{next_size, with_placed, grown}
use Rattle.asm_body.specs.FrameTypes as frame_types
use Rattle.asm_body.specs.Mentions as mentions
use Rattle.asm_class.specs.declared.assembly.Stage.{Stage}
use Rattle.asm_class.specs.declared.assembly.Stage.TheVariants as stages
use Rattle.asm_class.specs.declared.assembly.ClassParts.{ClassParts}
use Rattle.asm_class.specs.declared.assembly.BodyParts.{BodyParts}
use Rattle.asm_class.specs.Names.{is_sound, is_member_of, is_field_of, is_method_of, is_sound_type, are_sound_types}
use Rattle.asm_class.specs.States.{State}
use Rattle.asm_class.specs.ClassLines.{has_room, with_method}
use Rattle.asm_class.specs.BodyLines.{stack_line, label_line, with_target, with_frame, frame_at, frame_by, frame_line, with_instructions, instruction_line, caught_at, with_row, row_at, catch_line}
use Rattle.asm_soundness.specs.Pools.{IsClassAt, IsSoundPool, Grows, IsAscii, AreMember}
use Rattle.asm_soundness.specs.SoundStates.{IsSoundField, IsSoundMethod, IsCaughtAt, AreFew, AreSoundAttributes}
use Rattle.asm_soundness.specs.SoundLines.{IsHead, IsSoundPlaced, Spans, IsSoundBody, IsOpen, IsAt, IsSoundState}
use Rattle.asm_soundness.proofs.PoolLaws.{text_keeps, class_keeps, string_keeps, numbers_keep, members_keep, text_stays}
use Rattle.asm_soundness.proofs.StayLaws as stays
use Rattle.asm_soundness.proofs.ClassLaws.{some_same, both_true, chosen, word_ascii, kept, own_kept, one_more, class_at_keeps, grows_on}

-- what a function makes of what is there
map_is : {A B : Type 0} (f : A → B) (o : Option A) (y : B) → option_map f o ≡ Some y → (x : A) × (o ≡ Some x) × (f x ≡ y)
map_is f None y e = absurd cc
map_is f (Some x) y e = (x, refl, cc)

-- ---- constants that instructions name

IsNamed : List Const → Mentioned × List Const → Type 0
IsNamed pool x = Grows pool x.1 × (x.0.slots < 256)

same_pool : (pool : List Const) → IsSoundPool pool → Grows pool pool
same_pool pool h = record { more = []; is = sym (append-nil pool); sound = h }

named_by : (count : ℕ) (pool : List Const) (m : pools.Mention) (x : Mentioned × List Const) → count < 256 → ((index : ℕ) (new : List Const) → m ≡ Some (index, new) → Grows pool new)
    → mentions.with_slots count m ≡ Some x → IsNamed pool x
unfolding IsNamed
named_by count pool m x few keeps e =
    let p = map_is _ m x e in
    subst (λ (y : Mentioned × List Const). Grows pool y.1 × (y.0.slots < 256)) p.2 (keeps p.0.0 p.0.1 p.1, few)

slots_few : (n : ℕ) (ks : List Kind) (m : ℕ) → n < 256 → mentions.slots_from n ks ≡ Some m → m < 256
slots_few n [] m few e = let same : n ≡ m = some_same n m e in omega arith
slots_few n (k ∷ ks) m few e =
    let t = chosen (leb (n + slots k) 255) (mentions.slots_from (n + slots k) ks) m e in
    let le = leb-true (n + slots k) 255 t.0 in
    slots_few (n + slots k) ks m (omega arith) t.1

slots_by_few : (units : List ℕ) (m : ℕ) → mentions.slots_by units ≡ Some m → m < 256
slots_by_few units m e =
    let t = chosen (is_method units) (mentions.slots_from 1 (descriptors.signature_of units).args) m e in
    slots_few 1 (descriptors.signature_of units).args m (lit< tt) t.1

not_long : (b : Bool) (o : Option ℕ) (m : ℕ) → cond b None o ≡ Some m → o ≡ Some m
not_long true o m e = absurd cc
not_long false o m e = e

slots_in_few : (d : List ℕ) (m : ℕ) → mentions.slots_in d ≡ Some m → m < 256
slots_in_few d m e = slots_by_few d m (not_long (ltb 65535 (length d)) (mentions.slots_by d) m e)

constant_named : (c : Constant) (pool : List Const) (x : Mentioned × List Const) → IsSoundPool pool → IsConstant c → mentions.constant c pool ≡ Some x → IsNamed pool x
constant_named (constants.Int n) pool x h k e = named_by 0 pool (pools.int n pool) x (lit< tt) (λ i p f. (numbers_keep n pool i p h).0 k f) e
constant_named (constants.Long n) pool x h k e = named_by 0 pool (pools.long n pool) x (lit< tt) (λ i p f. (numbers_keep n pool i p h).1 k f) e
constant_named (constants.Text w) pool x h k e = named_by 0 pool (pools.string w pool) x (lit< tt) (λ i p f. string_keeps w pool i p h (word_ascii w k) f) e

member_named : (opcode : ℕ) (class name descriptor : List ℕ) (pool : List Const) (x : Mentioned × List Const) (f : Bool) (g : Bool) → IsSoundPool pool → IsWord class → IsWord name → IsWord descriptor
    → is_class_text class ≡ true → cond f (is_field_of name descriptor) (is_method_of name descriptor) ≡ true
    → cond f (mentions.plain (pools.field class name descriptor pool)) (cond g (mentions.interface_method class name descriptor pool) (mentions.plain (pools.method class name descriptor pool))) ≡ Some x
    → IsNamed pool x
member_named opcode class name descriptor pool x true g h a b c sound passed e =
    let are : AreMember true class name descriptor = record { owner_ascii = word_ascii class a; owner_sound = sound; name_ascii = word_ascii name b; descriptor_ascii = word_ascii descriptor c; passed = passed } in
    named_by 0 pool (pools.field class name descriptor pool) x (lit< tt) (λ i p q. (members_keep class name descriptor pool i p h).0 are q) e
member_named opcode class name descriptor pool x false true h a b c sound passed e =
    let are : AreMember false class name descriptor = record { owner_ascii = word_ascii class a; owner_sound = sound; name_ascii = word_ascii name b; descriptor_ascii = word_ascii descriptor c; passed = passed } in
    let s = some_is (mentions.slots_in descriptor) _ x e in
    named_by s.0 pool (pools.interface_method class name descriptor pool) x (slots_in_few descriptor s.0 s.1) (λ i p q. (members_keep class name descriptor pool i p h).2 are q) s.2
member_named opcode class name descriptor pool x false false h a b c sound passed e =
    let are : AreMember false class name descriptor = record { owner_ascii = word_ascii class a; owner_sound = sound; name_ascii = word_ascii name b; descriptor_ascii = word_ascii descriptor c; passed = passed } in
    named_by 0 pool (pools.method class name descriptor pool) x (lit< tt) (λ i p q. (members_keep class name descriptor pool i p h).1 are q) e

class_named : (name : List ℕ) (pool : List Const) (x : Mentioned × List Const) → IsSoundPool pool → IsWord name → is_class_text name ≡ true → mentions.plain (pools.class name pool) ≡ Some x → IsNamed pool x
class_named name pool x h w sound e = named_by 0 pool (pools.class name pool) x (lit< tt) (λ i p q. (class_keeps name pool i p h (word_ascii name w) sound q).0) e

nothing_named : (pool : List Const) (x : Mentioned × List Const) → IsSoundPool pool → mentions.nothing pool ≡ Some x → IsNamed pool x
unfolding IsNamed
nothing_named pool x h e =
    let none : Mentioned × List Const = (record { index = 0; slots = 0 }, pool) in
    subst (λ (y : Mentioned × List Const). Grows pool y.1 × (y.0.slots < 256)) (some_same none x e) (same_pool pool h, lit< tt)

mention_named : (opcode : ℕ) (ops : Operands) (pool : List Const) (x : Mentioned × List Const) → IsSoundPool pool → IsOperands ops → is_sound opcode ops ≡ true → mentions.mention_of opcode ops pool ≡ Some x
    → IsNamed pool x
mention_named opcode operands.Nothing pool x h k s e = nothing_named pool x h e
mention_named opcode (operands.Byte n) pool x h k s e = nothing_named pool x h e
mention_named opcode (operands.Short n) pool x h k s e = nothing_named pool x h e
mention_named opcode (operands.Constant c) pool x h k s e = constant_named c pool x h k e
mention_named opcode (operands.Local n) pool x h k s e = nothing_named pool x h e
mention_named opcode (operands.Increment n by') pool x h k s e = nothing_named pool x h e
mention_named opcode (operands.Branch label) pool x h k s e = nothing_named pool x h e
mention_named opcode (operands.Table low labels default) pool x h k s e = nothing_named pool x h e
mention_named opcode (operands.Lookup cases default) pool x h k s e = nothing_named pool x h e
mention_named opcode (operands.Member class name descriptor) pool x h k s e =
    let t = both_true (is_class_text class) (is_member_of opcode name descriptor) s in
    member_named opcode class name descriptor pool x (ltb opcode 182) (opcode == 185) h k.0 k.1 k.2 t.0 t.1 e
mention_named opcode (operands.Class name) pool x h k s e = class_named name pool x h k s e
mention_named opcode (operands.Element el) pool x h k s e = nothing_named pool x h e
mention_named opcode (operands.Dimensions name n) pool x h k s e = class_named name pool x h k.0 s e

-- ---- instructions

fit_is : (n m : ℕ) → fitting n ≡ Some m → (n ≡ m) × (n ≤ 65535)
fit_is n m e =
    let t = chosen (leb n 65535) (Some n) m e in
    (some_same n m t.1, leb-true n 65535 t.0)

size_is : (size opcode : ℕ) (ops : Operands) (next : ℕ) → next_size size opcode ops ≡ Some next → (size + size_of size opcode ops ≡ next) × (next ≤ 65535)
size_is size opcode ops next e =
    let p = some_is (fitting (size_of size opcode ops)) _ next e in
    let more = fit_is (size_of size opcode ops) p.0 p.1 in
    let all = fit_is (size + p.0) next p.2 in
    (ap (λ (n : ℕ). size + n) more.0 ∙ all.0, subst (λ n. n ≤ 65535) all.0 all.1)

spans_append : (pc : ℕ) (ps : List Placed) (end : ℕ) (p : Placed) → Spans pc ps end → p.pc ≡ end → Spans pc (ps ++ p ∷ []) (end + size_of end p.opcode p.operands)
spans_append pc [] end p h e = (e ∙ sym h, ap (λ (n : ℕ). n + size_of n p.opcode p.operands) h)
spans_append pc (q ∷ ps) end p h e = (h.0, spans_append (pc + size_of pc q.opcode q.operands) ps end p h.1 e)

all_placed : (ps : List Placed) (p : Placed) → AllByRecursion IsSoundPlaced ps → IsSoundPlaced p → AllByRecursion IsSoundPlaced (ps ++ p ∷ [])
all_placed [] p h k = (k, tt)
all_placed (q ∷ ps) p h k = (h.0, all_placed ps p h.1 k)

-- in the body
IsBody : State → Type 0
IsBody s = IsOpen s true × IsSoundBody s.pool s.body

open_kept : (s : State) (new : List Const) (b : Bool) → Grows s.pool new → IsOpen s b → IsOpen (record s { pool = new }) b
open_kept s new b g o =
    (own_kept s.pool new s.class.own s.class.parent g o.0, subst (λ (p : List Const). IsHead p s.method b) (sym g.is) (stays.head s.pool g.more s.method b o.1), o.2)

body_kept : (pool new : List Const) (body : BodyParts) → Grows pool new → IsSoundBody pool body → IsSoundBody new body
body_kept pool new body g h = subst (λ (p : List Const). IsSoundBody p body) (sym g.is) (stays.body pool g.more body h)

-- a state of the same class in the pool, in this stage
state_with : (s : State) (new : List Const) (t : State) → IsSoundState s → Grows s.pool new → t.pool ≡ new → t.class ≡ s.class → IsAt t.stage t → IsSoundState t
state_with s new t h g p c a =
    let l = kept s new h g in
    record {
      pool = subst IsSoundPool (sym p) g.sound;
      flags = subst (λ (k : ClassParts). IsU2 k.flags) (sym c) h.flags;
      no_module = ap (λ (k : ClassParts). bit_and k.flags ACC_MODULE) c ∙ h.no_module;
      interfaces = subst (λ (k : ClassParts). AreFew (IsClassAt t.pool) k.interfaces) (sym c) (subst (λ (q : List Const). AreFew (IsClassAt q) s.class.interfaces) (sym p) l.0);
      fields = subst (λ (k : ClassParts). AreFew (IsSoundField t.pool) k.fields) (sym c) (subst (λ (q : List Const). AreFew (IsSoundField q) s.class.fields) (sym p) l.1);
      methods = subst (λ (k : ClassParts). AreFew (IsSoundMethod t.pool) k.methods) (sym c) (subst (λ (q : List Const). AreFew (IsSoundMethod q) s.class.methods) (sym p) l.2);
      at = a;
    }

pub instruction_line_keeps : (line opcode : ℕ) (ops : Operands) (s t : State) → s.stage ≡ stages.Code → IsOpen s true → IsSoundBody s.pool s.body → IsSoundState s → opcode < 256 → IsOperands ops
    → instruction_line line opcode ops s ≡ Some t → IsSoundState t
unfolding IsNamed
instruction_line_keeps line opcode ops s t stage o b h small k e =
    let r = chosen (is_sound opcode ops) _ t e in
    let p = some_is (grown s.body.instructions line opcode ops s.pool) _ t r.1 in
    let q = some_is (next_size s.body.instructions.size opcode ops) _ p.0 p.1 in
    let m = some_is (mentions.mention_of opcode ops s.pool) _ p.0 q.2 in
    let size = size_is s.body.instructions.size opcode ops q.0 q.1 in
    let named = mention_named opcode ops s.pool m.0 h.pool k r.0 m.1 in
    let is = with_placed s.body.instructions q.0 line opcode m.0.0 ops in
    let made : Instructions × List Const = (is, m.0.1) in
    let new = record s { pool = m.0.1; body = with_instructions s.body is } in
    let same : new ≡ t = ap (λ (y : Instructions × List Const). record s { pool = y.1; body = with_instructions s.body y.0 }) (some_same made p.0 m.2) ∙ some_same _ t p.2 in
    let one : Placed = record { line = line; pc = s.body.instructions.size; opcode = opcode; mentioned = m.0.0; operands = ops } in
    let old = body_kept s.pool m.0.1 s.body named.0 b in
    let body : IsSoundBody m.0.1 (with_instructions s.body is) = record {
      max_stack = old.max_stack;
      max_locals = old.max_locals;
      spans = subst (Spans 0 (s.body.instructions.placed ++ one ∷ [])) size.0 (spans_append 0 s.body.instructions.placed s.body.instructions.size one old.spans refl);
      small = size.1;
      placed = all_placed s.body.instructions.placed one old.placed (record { opcode = small; slots = named.1; operands = k });
      map_name = old.map_name;
      rows = old.rows;
    } in
    subst IsSoundState same (state_with s m.0.1 new h named.0 refl refl
    (subst (λ (g : Stage). IsAt g new) (sym stage) (open_kept s m.0.1 true named.0 o, body)))

le_or_lt : (a b : ℕ) → (a ≤ b) ⊎ (b < a)
le_or_lt a b = by (leb_tells a b)
  where
    by : ((leb a b ≡ true) × (a ≤ b)) ⊎ ((leb a b ≡ false) × (b < a)) → (a ≤ b) ⊎ (b < a)
    by (inl h) = inl h.1
    by (inr h) = inr h.1

-- an opcode with a name is in the table
named_within : (ms : List Mnemonic) (n : ℕ) → 0 < length (get_or ms n nameless).name → n < length ms
named_within ms n h = by (le_or_lt (length ms) n)
  where
    by : (length ms ≤ n) ⊎ (n < length ms) → n < length ms
    by (inl le) =
        let none : length (get_or ms n nameless).name ≡ 0 = ap (λ (m : Mnemonic). length m.name) (get_or_past ms n nameless le) in
        absurd (omega (arith, none, h))
    by (inr lt) = lt

pub opcode_small : (opcode : ℕ) → 0 < length (mnemonic_of opcode).name → opcode < 256
unfolding mnemonic_of mnemonics
opcode_small opcode h =
    let n : length mnemonics ≡ 201 = refl in
    let lt = named_within mnemonics opcode h in
    omega (arith, n, lt)

-- ---- frames

type_keeps : (t : FrameType) (pool : List Const) (x : PlacedType × List Const) → IsSoundPool pool → IsFrameType t → is_sound_type t ≡ true → frame_types.type_of t pool ≡ Some x → Grows pool x.1
type_keeps types.Top pool x h k s e = subst (λ (y : PlacedType × List Const). Grows pool y.1) (some_same _ x e) (same_pool pool h)
type_keeps types.Int pool x h k s e = subst (λ (y : PlacedType × List Const). Grows pool y.1) (some_same _ x e) (same_pool pool h)
type_keeps types.Long pool x h k s e = subst (λ (y : PlacedType × List Const). Grows pool y.1) (some_same _ x e) (same_pool pool h)
type_keeps types.Null pool x h k s e = subst (λ (y : PlacedType × List Const). Grows pool y.1) (some_same _ x e) (same_pool pool h)
type_keeps types.This pool x h k s e = subst (λ (y : PlacedType × List Const). Grows pool y.1) (some_same _ x e) (same_pool pool h)
type_keeps (types.New label) pool x h k s e = subst (λ (y : PlacedType × List Const). Grows pool y.1) (some_same _ x e) (same_pool pool h)
type_keeps (types.Ref name) pool x h k s e =
    let p = map_is _ (pools.class name pool) x e in
    let g = class_keeps name pool p.0.0 p.0.1 h (word_ascii name k) s p.1 in
    subst (λ (y : PlacedType × List Const). Grows pool y.1) p.2 g.0

types_keep : (before : List PlacedType) (ts : List FrameType) (pool : List Const) (x : List PlacedType × List Const) → IsSoundPool pool → AreFrameTypes ts → are_sound_types ts ≡ true
    → frame_types.types_behind before ts pool ≡ Some x → Grows pool x.1
types_keep before [] pool x h k s e = subst (λ (y : List PlacedType × List Const). Grows pool y.1) (some_same _ x e) (same_pool pool h)
types_keep before (t ∷ ts) pool x h k s e =
    let b = both_true (is_sound_type t) (list_all is_sound_type ts) s in
    let p = some_is (frame_types.type_of t pool) _ x e in
    let g = type_keeps t pool p.0 h k.0 b.0 p.1 in
    grows_on pool p.0.1 x.1 g (types_keep (before ++ p.0.0 ∷ []) ts p.0.1 x g.sound k.1 b.1 p.2)

map_ascii : IsAscii (codes "StackMapTable")
map_ascii = (lit< tt, (lit< tt, (lit< tt, (lit< tt, (lit< tt, (lit< tt, (lit< tt, (lit< tt, (lit< tt, (lit< tt, (lit< tt, (lit< tt, (lit< tt, tt)))))))))))))

pub frame_line_keeps : (line : ℕ) (locals stack : List FrameType) (s t : State) → s.stage ≡ stages.Code → IsOpen s true → IsSoundBody s.pool s.body → IsSoundState s → AreFrameTypes locals → AreFrameTypes stack
    → frame_line line locals stack s ≡ Some t → IsSoundState t
frame_line_keeps line locals stack s t stage o b h l k e =
    let r = chosen (not s.body.frame_waits && are_sound_types locals && are_sound_types stack) (frame_by line locals stack s) t e in
    let fine = both_true (not s.body.frame_waits && are_sound_types locals) (are_sound_types stack) r.0 in
    let fine_locals = both_true (not s.body.frame_waits) (are_sound_types locals) fine.0 in
    let n = some_is (pools.text (codes "StackMapTable") s.pool) _ t r.1 in
    let named = text_keeps (codes "StackMapTable") s.pool n.0.0 n.0.1 h.pool map_ascii n.1 in
    let p = some_is (frame_types.types_behind [] locals n.0.1) _ t n.2 in
    let g = types_keep [] locals n.0.1 p.0 named.0.sound l fine_locals.1 p.1 in
    let q = some_is (frame_types.types_behind [] stack p.0.1) _ t p.2 in
    let f = types_keep [] stack p.0.1 q.0 g.sound k fine.1 q.1 in
    let behind = grows_on n.0.1 p.0.1 q.0.1 g f in
    let whole = grows_on s.pool n.0.1 q.0.1 named.0 behind in
    let frame = frame_at line s.body.instructions.size p.0.0 q.0.0 in
    let new = record s { pool = q.0.1; body = with_frame s.body n.0.0 frame } in
    let name_is : text_at q.0.1 n.0.0 ≡ Some (codes "StackMapTable") = ap (λ (y : List Const). text_at y n.0.0) behind.is ∙ text_stays n.0.1 behind.more n.0.0 _ named.1 in
    let old = body_kept s.pool q.0.1 s.body whole b in
    let body : IsSoundBody q.0.1 (with_frame s.body n.0.0 frame) = record {
      max_stack = old.max_stack;
      max_locals = old.max_locals;
      spans = old.spans;
      small = old.small;
      placed = old.placed;
      map_name = inr name_is;
      rows = old.rows;
    } in
    subst IsSoundState (some_same new t q.2) (state_with s q.0.1 new h whole refl refl
    (subst (λ (x : Stage). IsAt x new) (sym stage) (open_kept s q.0.1 true whole o, body)))

-- ---- rows, labels, sizes

caught_keeps : (caught : Option (List ℕ)) (pool : List Const) (x : ℕ × List Const) → IsSoundPool pool → IsCaught caught → caught_at caught pool ≡ Some x → Grows pool x.1 × IsCaughtAt x.1 x.0
caught_keeps None pool x h k e =
    let none : ℕ × List Const = (0, pool) in
    subst (λ (y : ℕ × List Const). Grows pool y.1 × IsCaughtAt y.1 y.0) (some_same none x e) (same_pool pool h, inl refl)
caught_keeps (Some name) pool x h k e =
    let g = class_at_keeps name pool x h k.0 e in
    (g.0, inr (record { name = name; here = g.1 }))

pub catch_line_keeps : (line : ℕ) (caught : Option (List ℕ)) (from to using : List ℕ) (s t : State) → IsOpen s true → IsSoundBody s.pool s.body → IsSoundState s → IsCaught caught
    → catch_line line caught from to using s ≡ Some t → IsSoundState t
catch_line_keeps line caught from to using s t o b h k e =
    let r = chosen (not s.body.frame_waits && has_room s.body.rows) _ t e in
    let room = both_true (not s.body.frame_waits) (has_room s.body.rows) r.0 in
    let p = some_is (caught_at caught s.pool) _ t r.1 in
    let g = caught_keeps caught s.pool p.0 h.pool k p.1 in
    let row = row_at line p.0.0 from to using in
    let new = record s { stage = stages.Rows; pool = p.0.1; body = with_row s.body row } in
    let old = body_kept s.pool p.0.1 s.body g.0 b in
    let body : IsSoundBody p.0.1 (with_row s.body row) = record {
      max_stack = old.max_stack;
      max_locals = old.max_locals;
      spans = old.spans;
      small = old.small;
      placed = old.placed;
      map_name = old.map_name;
      rows = one_more (λ (x : PlacedRow). IsCaughtAt p.0.1 x.catch_type) s.body.rows row room.1 old.rows g.1;
    } in
    subst IsSoundState (some_same new t p.2) (state_with s p.0.1 new h g.0 refl refl (open_kept s p.0.1 true g.0 o, body))

pub label_line_keeps : (label : List ℕ) (s t : State) → s.stage ≡ stages.Code → IsOpen s true → IsSoundBody s.pool s.body → IsSoundState s → label_line label s ≡ Some t → IsSoundState t
label_line_keeps label s t stage o b h e =
    let r = not_placed (is_some (s.targets label)) _ t e in
    let new = record s { targets = with_target label s.body.instructions.size s.targets } in
    subst IsSoundState (some_same new t r) (state_with s s.pool new h (same_pool s.pool h.pool) refl refl (subst (λ (x : Stage). IsAt x new) (sym stage) (o, b)))
  where
    not_placed : (c : Bool) (q : Option State) (y : State) → cond c None q ≡ Some y → q ≡ Some y
    not_placed true q y f = absurd cc
    not_placed false q y f = f

pub stack_line_keeps : (stack locals : ℕ) (s : State) → IsOpen s true → IsSoundState s → stack < 2 ^ 16 → locals < 2 ^ 16 → IsSoundState (stack_line stack locals s)
stack_line_keeps stack locals s o h a b =
    state_with s s.pool (stack_line stack locals s) h (same_pool s.pool h.pool) refl refl
    (o, record { max_stack = a; max_locals = b; spans = refl; small = omega arith; placed = tt; map_name = inl refl; rows = record { few = omega arith; each = tt } })

-- ---- the end of a method

pub method_end_keeps : (as' : List Attribute) (s : State) (code : Bool) → IsOpen s code → IsSoundState s → AreSoundAttributes s.pool s.method.flags as' → IsSoundState (with_method as' s)
method_end_keeps as' s code o h a = record {
  pool = h.pool;
  flags = h.flags;
  no_module = h.no_module;
  interfaces = h.interfaces;
  fields = h.fields;
  methods = one_more (IsSoundMethod s.pool) s.class.methods _ o.2 h.methods (record { flags = o.1.flags; name = o.1.name; descriptor = o.1.descriptor; attributes = a });
  at = o.0;
}

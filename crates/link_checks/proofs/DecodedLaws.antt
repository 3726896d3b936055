-- What `decode` answers says which instructions a code has up to the first that is bad.
use Rattle.std.proofs.Common.{◌≡◌, ℕ, zero, suc, ◌+◌, ◌-◌, ◌<◌, ◌≤◌, Bool, true, false, List, [], ◌∷◌, ◌++◌, length, take, Result, Ok, Err, refl, sym, ap, subst, ◌∙◌, arith}
use Rattle.std.proofs.lemmas.List.{length-append}
use Rattle.std.proofs.Math.Seq.{take-append-add}
use Rattle.byte_reader.specs.declared.fault.Fault.{Fault}
use Rattle.opcodes.specs.declared.error.CodeWhy.{CodeWhy}
use Rattle.opcodes.specs.declared.op.Op.{Op}
use Rattle.opcodes.specs.declared.op.Instr.{Instr}
use Rattle.opcodes.specs.Operands.{op_at}
use Rattle.opcodes.specs.Code.{BeginsWith, BeginsWithAll, IsCode, IsFirstBad}
use Rattle.opcodes.proofs.OperandLaws.{op_exact}
use Rattle.opcodes.proofs.CodeLaws.{some_bytes}
use Rattle.link_rules.specs.Faults.{Decoded, decoded, decoded_from, read_at, with_first}

begins_read : (pc : ℕ) (code : List ℕ) (i : Instr) (rest : List ℕ) → BeginsWith pc code i rest → op_at pc code ≡ Ok (i.op, rest)
begins_read pc code i rest b = ap (op_at pc) b.parts ∙ (op_exact pc).again b.bytes i.op rest b.encoding

-- what is read is the instruction that the code begins with
same_instr : (pc : ℕ) (code : List ℕ) (i : Instr) (rest : List ℕ) → BeginsWith pc code i rest → read_at pc (length code) (i.op, rest) ≡ i
same_instr pc code i rest b =
    let size : length code ≡ length b.bytes + length rest = ap length b.parts ∙ length-append b.bytes rest in
    let next : pc + (length code - length rest) ≡ i.next = omega (arith, size, b.next) in
    let here : pc ≡ i.pc = sym b.here in
    ap (λ (n : ℕ). let it : Instr = record { pc = n; next = pc + (length code - length rest); op = i.op } in it) here
    ∙ ap (λ (n : ℕ). let it : Instr = record { pc = i.pc; next = n; op = i.op } in it) next

-- one instruction is read
abbrev read : ℕ → ℕ → List ℕ → Result (Op × List ℕ) (Fault CodeWhy) → Decoded
read n pc code r =
    elim r [ Ok x ↦ with_first (read_at pc (length code) x) (decoded_from n (pc + (length code - length x.1)) x.1) | Err fault ↦ record { instrs = []; is_bad = true } ]

one_read : (n pc : ℕ) (code : List ℕ) → 0 < length code → decoded_from (suc n) pc code ≡ read n pc code (op_at pc code)
one_read n pc [] h = absurd (omega arith)
one_read n pc (b ∷ code) h = refl

-- the rest of a code is decoded so, whatever the bound is
pub record IsRest (pc : ℕ) (rest : List ℕ) (d : Decoded) : Type 0 where
  pub is : (n : ℕ) → length rest ≤ n → decoded_from n pc rest ≡ d

-- the pc after instructions
abbrev behind : ℕ → List Instr → ℕ
behind pc [] = pc
behind pc (i ∷ is) = behind i.next is

abbrev with_all : List Instr → Decoded → Decoded
with_all [] d = d
with_all (i ∷ is) d = with_first i (with_all is d)

all_read : (n pc : ℕ) (code : List ℕ) (is : List Instr) (rest : List ℕ) (d : Decoded) → length code ≤ n → BeginsWithAll pc code is rest → IsRest (behind pc is) rest d → decoded_from n pc code ≡ with_all is d
all_read n pc code [] rest d h a r = ap (decoded_from n pc) a ∙ r.is n (subst (λ (c : List ℕ). length c ≤ n) a h)
all_read zero pc code (i ∷ is) rest d h a r = absurd (let less : length a.0 < length code = some_bytes pc code i a.0 a.1 in omega arith)
all_read (suc n) pc code (i ∷ is) rest d h a r =
    let less : length a.0 < length code = some_bytes pc code i a.0 a.1 in
    let same = same_instr pc code i a.0 a.1 in
    let next : pc + (length code - length a.0) ≡ i.next = ap (λ (j : Instr). j.next) same in
    one_read n pc code (omega arith) ∙ ap (read n pc code) (begins_read pc code i a.0 a.1)
    ∙ ap (λ (j : Instr). with_first j (decoded_from n (pc + (length code - length a.0)) a.0)) same
    ∙ ap (λ (m : ℕ). with_first i (decoded_from n m a.0)) next
    ∙ ap (with_first i) (all_read n i.next a.0 is rest d (omega arith) a.2 r)

all_instrs : (is : List Instr) (b : Bool) → with_all is (let d : Decoded = record { instrs = []; is_bad = b } in d) ≡ (let d : Decoded = record { instrs = is; is_bad = b } in d)
all_instrs [] b = refl
all_instrs (i ∷ is) b = ap (with_first i) (all_instrs is b)

nothing_left : (pc : ℕ) → IsRest pc [] (record { instrs = []; is_bad = false })
nothing_left pc = record { is = λ n h. empty n }
  where
    empty : (n : ℕ) → decoded_from n pc [] ≡ (let d : Decoded = record { instrs = []; is_bad = false } in d)
    empty zero = refl
    empty (suc n) = refl

-- a code that is instructions is decoded as these
pub whole : (code : List ℕ) (is : List Instr) → IsCode code is → decoded code ≡ (let d : Decoded = record { instrs = is; is_bad = false } in d)
whole code is c = all_read (length code) 0 code is [] (record { instrs = []; is_bad = false }) (omega arith) c (nothing_left (behind 0 is)) ∙ all_instrs is false

-- the pc after instructions at the front of a code
behind_is : (pc : ℕ) (code : List ℕ) (is : List Instr) (rest : List ℕ) → BeginsWithAll pc code is rest → behind pc is + length rest ≡ pc + length code
behind_is pc code [] rest a = ap (λ (c : List ℕ). pc + length c) (sym a)
behind_is pc code (i ∷ is) rest a =
    let size : length code ≡ length a.1.bytes + length a.0 = ap length a.1.parts ∙ length-append a.1.bytes a.0 in
    let more : behind i.next is + length rest ≡ i.next + length a.0 = behind_is i.next a.0 is rest a.2 in
    omega (arith, size, more, a.1.next)

stops : (pc : ℕ) (rest : List ℕ) (fault : Fault CodeWhy) → 0 < length rest → op_at pc rest ≡ Err fault → IsRest pc rest (record { instrs = []; is_bad = true })
stops pc rest fault some e = record { is = λ n h. at n h }
  where
    at : (n : ℕ) → length rest ≤ n → decoded_from n pc rest ≡ (let d : Decoded = record { instrs = []; is_bad = true } in d)
    at zero h = absurd (omega arith)
    at (suc n) h = one_read n pc rest some ∙ ap (read n pc rest) e

-- a code that is refused is decoded up to the first instruction that is bad
pub front : (code : List ℕ) (pc : ℕ) (why : CodeWhy) (bad : IsFirstBad code pc why) → decoded code ≡ (let d : Decoded = record { instrs = bad.front; is_bad = true } in d)
front code pc why bad =
    let here : behind 0 bad.front ≡ pc = omega (arith, behind_is 0 code bad.front bad.rest bad.before, bad.at) in
    let r : IsRest (behind 0 bad.front) bad.rest (record { instrs = []; is_bad = true }) = subst (λ (n : ℕ). IsRest n bad.rest (record { instrs = []; is_bad = true })) (sym here) (stops pc bad.rest bad.fault bad.some bad.first) in
    all_read (length code) 0 code bad.front bad.rest (record { instrs = []; is_bad = true }) (omega arith) bad.before r ∙ all_instrs bad.front true

rest_le : (pc : ℕ) (code : List ℕ) (is : List Instr) (rest : List ℕ) → BeginsWithAll pc code is rest → length rest ≤ length code
rest_le pc code [] rest a = let e : length code ≡ length rest = ap length a in omega arith
rest_le pc code (i ∷ is) rest a = let less : length a.0 < length code = some_bytes pc code i a.0 a.1 in let more : length rest ≤ length a.0 = rest_le i.next a.0 is rest a.2 in omega arith

-- the instructions before a bad one are the code before it
pub front_code : (pc : ℕ) (code : List ℕ) (is : List Instr) (rest : List ℕ) (n : ℕ) → BeginsWithAll pc code is rest → n + length rest ≡ length code → BeginsWithAll pc (take n code) is []
front_code pc code [] rest n a e =
    let none : n ≡ 0 = omega (arith, ap length a) in ap (λ (k : ℕ). take k code) none
front_code pc code (i ∷ is) rest n a e =
    let size : length code ≡ length a.1.bytes + length a.0 = ap length a.1.parts ∙ length-append a.1.bytes a.0 in
    let le : length rest ≤ length a.0 = rest_le i.next a.0 is rest a.2 in
    let m : ℕ = n - length a.1.bytes in
    let n_is : n ≡ length a.1.bytes + m = omega (arith, size, le) in
    let left : m + length rest ≡ length a.0 = omega (arith, size, le) in
    let parts : take n code ≡ a.1.bytes ++ take m a.0 = ap (λ (k : ℕ). take k code) n_is ∙ ap (take (length a.1.bytes + m)) a.1.parts ∙ take-append-add a.1.bytes a.0 m in
    (take m a.0, record { bytes = a.1.bytes; parts = parts; encoding = a.1.encoding; here = a.1.here; next = a.1.next }, front_code i.next a.0 is rest m a.2 left)

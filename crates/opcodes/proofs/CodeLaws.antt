-- Decoding is exact: what is answered is the code, what is refused isn't, and bytes are the code of one list of instructions.
use Rattle.std.proofs.Common.{◌≡◌, ℕ, ◌+◌, ◌-◌, ◌<◌, List, [], ◌∷◌, ◌++◌, length, Result, Ok, Err, refl, sym, ap, subst, ◌∙◌, arith}
use Rattle.std.proofs.lemmas.List.{length-append, nil_from_length}
use Rattle.opcodes.specs.declared.error.CodeWhy.{CodeWhy}
use Rattle.opcodes.specs.declared.error.CodeError.TheVariants.{Bad, NoMemory}
use Rattle.opcodes.specs.declared.op.Op.{Op}
use Rattle.opcodes.specs.declared.op.Instr.{Instr}
use Rattle.opcodes.specs.Encoding.{IsEncoded}
use Rattle.byte_reader.specs.declared.fault.Fault.{Fault}
use Rattle.byte_reader.specs.Reader.{Stops}
use Rattle.byte_reader.specs.declared.fault.Stop.{Stop}
use Rattle.byte_reader.specs.declared.fault.Stop.TheVariants as stops
use Rattle.opcodes.specs.Operands.{op_at}
use Rattle.opcodes.specs.Code.{BeginsWith, BeginsWithAll, IsCode, BeginsWithNone, IsFirstBad, error_at}
use Rattle.byte_reader.proofs.ReaderLaws.{IsBytes, ok_is}
use Rattle.opcodes.proofs.OperandLaws.{op_exact}

-- what is read where instructions begin is the first of them
begins_read : (pc : ℕ) (code : List ℕ) (i : Instr) (rest : List ℕ) → BeginsWith pc code i rest → op_at pc code ≡ Ok (i.op, rest)
begins_read pc code i rest b = ap (op_at pc) b.parts ∙ (op_exact pc).again b.bytes i.op rest b.encoding

-- where an instruction begins it is one alone, and so is what is after it
same_first : (pc : ℕ) (code : List ℕ) (i j : Instr) (rest rest' : List ℕ) → BeginsWith pc code i rest → BeginsWith pc code j rest' → (i ≡ j) × (rest ≡ rest')
same_first pc code i j rest rest' a b =
    let both = ok_is {W = CodeWhy} (i.op, rest) (j.op, rest') (sym (begins_read pc code i rest a) ∙ begins_read pc code j rest' b) in
    let ops : i.op ≡ j.op = ap (λ (x : Op × List ℕ). x.0) both in
    let rests : rest ≡ rest' = ap (λ (x : Op × List ℕ). x.1) both in
    let len : length rest ≡ length rest' = ap length rests in
    let size : length code ≡ length a.bytes + length rest = ap length a.parts ∙ length-append a.bytes rest in
    let size' : length code ≡ length b.bytes + length rest' = ap length b.parts ∙ length-append b.bytes rest' in
    let nexts : i.next ≡ j.next = omega (arith, len, size, size', a.next, b.next) in
    let heres : i.pc ≡ j.pc = a.here ∙ sym b.here in
    (instr_same i j heres nexts ops, rests)
  where
    instr_same : (i j : Instr) → i.pc ≡ j.pc → i.next ≡ j.next → i.op ≡ j.op → i ≡ j
    instr_same i j e f g = ap (λ (n : ℕ). record i { pc = n }) e ∙ ap (λ (n : ℕ). record i { pc = j.pc; next = n }) f ∙ ap (λ (o : Op). record { pc = j.pc; next = j.next; op = o }) g

-- an instruction takes bytes
pub some_bytes : (pc : ℕ) (code : List ℕ) (i : Instr) (rest : List ℕ) → BeginsWith pc code i rest → length rest < length code
some_bytes pc code i rest b = omega (arith, ap length b.parts ∙ length-append b.bytes rest, nonempty pc i.op b.bytes b.encoding)
  where
    nonempty : (pc : ℕ) (op : Op) (bytes : List ℕ) → IsEncoded pc op bytes → 0 < length bytes
    nonempty pc op [] e = absurd e
    nonempty pc op (b ∷ bytes) e = omega arith

-- bytes are the code of one list of instructions
pub one_code : (pc : ℕ) (code : List ℕ) (is js : List Instr) → BeginsWithAll pc code is [] → BeginsWithAll pc code js [] → is ≡ js
one_code pc code [] [] a b = refl
one_code pc code [] (j ∷ js) a b = absurd (let none : length code ≡ 0 = ap length a in omega (arith, some_bytes pc code j b.0 b.1))
one_code pc code (i ∷ is) [] a b = absurd (let none : length code ≡ 0 = ap length b in omega (arith, some_bytes pc code i a.0 a.1))
one_code pc code (i ∷ is) (j ∷ js) a b =
    let first = same_first pc code i j a.0 b.0 a.1 b.1 in
    let there : BeginsWithAll i.next a.0 js [] = subst (λ (k : Instr). BeginsWithAll k.next a.0 js []) (sym first.0) (subst (λ (r : List ℕ). BeginsWithAll j.next r js []) (sym first.1) b.2) in
    ap (λ (k : Instr). k ∷ is) first.0 ∙ ap (λ (ks : List Instr). j ∷ ks) (one_code i.next a.0 is js a.2 there)

-- where what is left begins with no instruction, no instructions are the code
pub no_code : (pc here : ℕ) (code : List ℕ) (is : List Instr) (rest : List ℕ) → BeginsWithAll pc code is rest → pc + length code ≡ here + length rest → 0 < length rest → BeginsWithNone here rest
    → (js : List Instr) → BeginsWithAll pc code js [] → ⊥
no_code pc here code [] rest a total some none [] b = let empty : length code ≡ 0 = ap length b in let same : length code ≡ length rest = ap length a in omega arith
no_code pc here code [] rest a total some none (j ∷ js) b =
    let same : length code ≡ length rest = ap length a in
    let same_pc : pc ≡ here = omega arith in
    none j.op b.1.bytes b.0 (sym a ∙ b.1.parts) (subst (λ (n : ℕ). IsEncoded n j.op b.1.bytes) same_pc b.1.encoding)
no_code pc here code (i ∷ is) rest a total some none [] b = let empty : length code ≡ 0 = ap length b in omega (arith, some_bytes pc code i a.0 a.1)
no_code pc here code (i ∷ is) rest a total some none (j ∷ js) b =
    let first = same_first pc code i j a.0 b.0 a.1 b.1 in
    let there : BeginsWithAll i.next a.0 js [] = subst (λ (k : Instr). BeginsWithAll k.next a.0 js []) (sym first.0) (subst (λ (r : List ℕ). BeginsWithAll j.next r js []) (sym first.1) b.2) in
    no_code i.next here a.0 is rest a.2 (omega (arith, a.1.next, ap length a.1.parts ∙ length-append a.1.bytes a.0)) some none js there

-- where reading finds a fault, the code begins with no instruction
begins_with_none : (pc : ℕ) (code : List ℕ) (fault : Fault CodeWhy) → op_at pc code ≡ Err fault → BeginsWithNone pc code
begins_with_none pc code fault e op bytes rest parts encoded = refused (op, rest) (sym ((op_exact pc).again bytes op rest encoded) ∙ ap (op_at pc) (sym parts) ∙ e)
  where
    refused : (x : Op × List ℕ) → (let found : Result (Op × List ℕ) (Fault CodeWhy) = Ok x in found ≡ Err fault) → ⊥
    refused x e = cc

-- ---- the loop

-- so far: the instructions at the front, and the bytes after them
pub record IsFront (code : List ℕ) (is : List Instr) (rest : List ℕ) (pc : ℕ) : Type 0 where
  pub begins : BeginsWithAll 0 code is rest
  pub at : pc + length rest ≡ length code
  pub rest_fits : IsBytes rest

-- one more instruction at the end
begins_with_more : (pc here : ℕ) (code : List ℕ) (is : List Instr) (rest : List ℕ) (i : Instr) (behind : List ℕ) → BeginsWithAll pc code is rest → pc + length code ≡ here + length rest → BeginsWith here rest i behind → BeginsWithAll pc code (is ++ i ∷ []) behind
begins_with_more pc here code [] rest i behind a at b =
    let same : length code ≡ length rest = ap length a in
    let same_pc : here ≡ pc = omega arith in
    (behind, subst (λ (c : List ℕ). BeginsWith pc c i behind) (sym a) (subst (λ (n : ℕ). BeginsWith n rest i behind) same_pc b), refl)
begins_with_more pc here code (j ∷ is) rest i behind a at b =
    (a.0, a.1, begins_with_more j.next here a.0 is rest i behind a.2 (omega (arith, a.1.next, ap length a.1.parts ∙ length-append a.1.bytes a.0)) b)

-- the instruction that was read
instr_of : ℕ → List ℕ → Op → List ℕ → Instr
instr_of pc rest op behind = record { pc = pc; next = pc + (length rest - length behind); op = op }

-- what is read is an instruction at the front
begins_with : (pc : ℕ) (rest : List ℕ) (op : Op) (behind : List ℕ) → IsBytes rest → op_at pc rest ≡ Ok (op, behind) → BeginsWith pc rest (instr_of pc rest op behind) behind × IsBytes behind
unfolding instr_of
begins_with pc rest op behind fits e =
    let t = (op_exact pc).takes rest (op, behind) fits e in
    let size : length rest ≡ length t.front + length behind = ap length t.parts ∙ length-append t.front behind in
    (record { bytes = t.front; parts = t.parts; encoding = t.are; here = refl; next = omega (arith, size) }, t.rest_fits)

-- and takes bytes
pub shorter : (pc : ℕ) (rest : List ℕ) (op : Op) (behind : List ℕ) → IsBytes rest → op_at pc rest ≡ Ok (op, behind) → length behind < length rest
shorter pc rest op behind fits e = some_bytes pc rest (instr_of pc rest op behind) behind (begins_with pc rest op behind fits e).0

pub one_more : (code : List ℕ) (is : List Instr) (rest : List ℕ) (pc : ℕ) (op : Op) (behind : List ℕ) → IsFront code is rest pc → op_at pc rest ≡ Ok (op, behind)
    → IsFront code (is ++ record { pc = pc; next = pc + (length rest - length behind); op = op } ∷ []) behind (pc + (length rest - length behind))
unfolding instr_of
one_more code is rest pc op behind front e =
    let one = begins_with pc rest op behind front.rest_fits e in
    record {
      begins = begins_with_more 0 pc code is rest (instr_of pc rest op behind) behind front.begins (omega (arith, front.at)) one.0;
      at = omega (arith, shorter pc rest op behind front.rest_fits e, front.at);
      rest_fits = one.1;
    }

-- where reading fails, it is at the first instruction that is bad
pub first_bad : (code : List ℕ) (is : List Instr) (rest : List ℕ) (pc : ℕ) (stop : Stop CodeWhy) → IsFront code is rest pc → 0 < length rest → Stops stop (op_at pc rest)
    → (at : ℕ) (why : CodeWhy) → error_at pc stop ≡ Bad at why → IsFirstBad code at why
first_bad code is rest pc stops.NoMemory front some stop at why e = absurd cc
first_bad code is rest pc (stops.Fault fault) front some stop at why e =
    let same_pc : pc ≡ at = cc in
    let same_why : fault.why ≡ why = cc in
    subst (λ (n : ℕ). IsFirstBad code n why) same_pc
    (record { front = is; rest = rest; before = front.begins; at = front.at; some = some; none = begins_with_none pc rest fault stop; fault = fault; first = stop; reason = same_why })

-- and the bytes are no code, unless memory ran out
pub none_else : (code : List ℕ) (is : List Instr) (rest : List ℕ) (pc : ℕ) (stop : Stop CodeWhy) → IsFront code is rest pc → 0 < length rest → Stops stop (op_at pc rest) → (js : List Instr) → IsCode code js → error_at pc stop ≡ NoMemory
none_else code is rest pc stops.NoMemory front some stop js other = refl
none_else code is rest pc (stops.Fault fault) front some stop js other = absurd (no_code 0 pc code is rest front.begins (omega (arith, front.at)) some (begins_with_none pc rest fault stop) js other)

-- at the end the instructions are the code
pub whole_code : (code : List ℕ) (is : List Instr) (rest : List ℕ) (pc : ℕ) → IsFront code is rest pc → length rest ≡ 0 → IsCode code is
whole_code code is rest pc front e = subst (λ (r : List ℕ). BeginsWithAll 0 code is r) (nil_from_length rest e) front.begins

-- The operands of each format are read just where they are encoded.
use Rattle.std.proofs.Common.{◌≡◌, ℕ, ◌<◌, ◌≤◌, true, ltb, eqb, List, [], ◌∷◌, ◌++◌, Result, Ok, Err, refl, ap, subst, ◌∙◌, arith}
use Rattle.std.proofs.lemmas.Bool.{lt-ltb, ltb-true, eqb-true}
use Rattle.std.proofs.lemmas.Bool.Decides.{nat_tests}
use Rattle.byte_reader.specs.declared.fault.Fault.{Fault}
use Rattle.byte_reader.specs.Reader.{◌>>=◌, Reader, fault_at, map_value, both, verify}
use Rattle.byte_reader.proofs.ReaderLaws.{IsBytes, ok_of, ok_is, done, IsReader, wide8, wide16, number_reads, byte_again, both_reads, verify_reads, map_value_reads, same_reads, signed8, signed16}
use Rattle.byte_reader.proofs.SequenceLaws.{then_next}
use Rattle.opcodes.specs.declared.error.CodeWhy.{CodeWhy}
use Rattle.opcodes.specs.declared.error.CodeWhy.TheVariants.{Short, Operand}
use Rattle.opcodes.specs.declared.op.Op.{Op}
use Rattle.opcodes.specs.Formats.{Format, undefined, plain, byte, short, constant, index, local, increment, branch, far_branch, table, lookup, interface, dynamic, primitive, dimensions, wide, format}
use Rattle.opcodes.specs.Encoding.{IsOf, u1, IsU1, u2, IsU2, AreIndexAndNumber, index_and_number, AreWideOperands, AreOperands, BehindOpcode, IsEncoded}
use Rattle.opcodes.specs.Operands.{u1_at, u2_at, zero_at, before_zero, is_primitive, wide_operands_at, operands_at, op_at}
use Rattle.opcodes.proofs.SwitchLaws.{near_reads, far_reads, table_reads, lookup_reads}

-- what was read, with its bytes at the front
pub record Found (Are : List ℕ → Op → Type 0) (bytes : List ℕ) (x : Op × List ℕ) : Type 0 where
  pub front : List ℕ
  pub parts : bytes ≡ front ++ x.1
  pub are : Are front x.0
  pub rest_fits : IsBytes x.1

-- the reader reads just what is encoded so; an instruction may have several encodings
pub record IsExact (reader : Reader CodeWhy Op) (Are : List ℕ → Op → Type 0) : Type 0 where
  pub takes : (bytes : List ℕ) (x : Op × List ℕ) → IsBytes bytes → reader bytes ≡ Ok x → Found Are bytes x
  pub again : (front : List ℕ) (op : Op) (rest : List ℕ) → Are front op → reader (front ++ rest) ≡ Ok (op, rest)

-- an instruction by the value of its operands
of_value : {A : Type 0} {r : Reader CodeWhy A} {s : A → List ℕ} {P : A → Type 0} (op_of : A → Op) → IsReader r s P → IsExact (map_value op_of r) (λ bytes op. IsOf P s op_of bytes op)
of_value {r = r} {s = s} {P = P} op_of reads = record {
  takes = λ bytes x fits e.
      let a = ok_of (r bytes) (λ y. Ok (op_of y.0, y.1)) x e in
      let t = reads.takes bytes a.0 fits a.1 in
      subst (λ (y : Op × List ℕ). Found (λ bytes op. IsOf P s op_of bytes op) bytes y) (ok_is (op_of a.0.0, a.0.1) x a.2)
      (record { front = s a.0.0; parts = t.0.parts; are = record { operand = a.0.0; fits = t.1; spelling = refl; same = refl }; rest_fits = t.0.rest_fits });
  again = λ front op rest is.
      ap (λ (bytes : List ℕ). map_value op_of r (bytes ++ rest)) is.spelling ∙ rw (reads.again is.operand rest is.fits) (ap (λ (o : Op). done {W = CodeWhy} (o, rest)) is.same);
}

plain_exact : (plain_op : Op) → IsExact (λ bytes. Ok (plain_op, bytes)) (λ bytes op. (bytes ≡ []) × (plain_op ≡ op))
plain_exact plain_op = record {
  takes = λ bytes x fits e.
      subst (λ (y : Op × List ℕ). Found (λ bytes op. (bytes ≡ []) × (plain_op ≡ op)) bytes y) (ok_is (plain_op, bytes) x e) (record { front = []; parts = refl; are = (refl, refl); rest_fits = fits });
  again = λ front op rest is. ap (λ (bytes : List ℕ). done {W = CodeWhy} (plain_op, bytes ++ rest)) is.0 ∙ ap (λ (o : Op). done {W = CodeWhy} (o, rest)) is.1;
}

none_exact : (why : CodeWhy) → IsExact (λ bytes. Err (fault_at bytes why)) (λ bytes op. ⊥)
none_exact why = record { takes = λ bytes x fits e. absurd (is_no_value (fault_at bytes why) x e); again = λ front op rest is. absurd is }
  where
    is_no_value : (f : Fault CodeWhy) (x : Op × List ℕ) → (let none : Result (Op × List ℕ) (Fault CodeWhy) = Err f in none ≡ Ok x) → ⊥
    is_no_value f x e = cc

-- ---- fields

u1_reads : IsReader u1_at u1 IsU1
u1_reads = number_reads Short wide8

u2_reads : IsReader u2_at u2 IsU2
u2_reads = number_reads Short wide16

zero_reads : IsReader zero_at (λ x. 0 ∷ []) (λ x. Unit {0})
zero_reads =
    map_value_reads
    (record {
      to = λ n h. (ap u1 (eqb-true n 0 h.1), tt);
      from = λ x h. (0, refl, (omega arith, refl));
    })
    (verify_reads (λ n. eqb n 0) Operand u1_reads)

before_zero_reads : {A : Type 0} {r : Reader CodeWhy A} {s : A → List ℕ} {P : A → Type 0} → IsReader r s P → IsReader (before_zero r) (λ x. s x ++ 0 ∷ []) P
before_zero_reads reads = map_value_reads (record { to = λ x h. (refl, h.0); from = λ x h. ((x, tt), refl, (h, tt)) }) (both_reads reads zero_reads)

-- newarray's codes
abbrev IsPrimitive : ℕ → Type 0
IsPrimitive n = (4 ≤ n) × (n < 12)

of_test : (n : ℕ) → is_primitive n ≡ true → IsPrimitive n
of_test n e = grind (arith, nat_tests)

to_test : (n : ℕ) → IsPrimitive n → is_primitive n ≡ true
to_test n h = grind (arith, nat_tests)

primitive_reads : IsReader (verify is_primitive Operand u1_at) u1 IsPrimitive
primitive_reads = same_reads IsPrimitive (λ n h. of_test n h.1) (λ n h. (omega (arith, h.1), to_test n h)) (verify_reads is_primitive Operand u1_reads)

dimensions_reads : IsReader (both u2_at (verify (ltb 0) Operand u1_at)) index_and_number (λ x. AreIndexAndNumber x × (0 < x.1))
dimensions_reads =
    same_reads (λ x. AreIndexAndNumber x × (0 < x.1)) (λ x h. ((h.0, h.1.0), ltb-true 0 x.1 h.1.1)) (λ x h. (h.0.0, (h.0.1, lt-ltb 0 x.1 h.1)))
    (both_reads u2_reads (verify_reads (ltb 0) Operand u1_reads))

-- ---- each format

wide_exact : (f : Format) → IsExact (wide_operands_at f) (AreWideOperands f)
wide_exact undefined = none_exact _
wide_exact (plain op) = none_exact _
wide_exact byte = none_exact _
wide_exact short = none_exact _
wide_exact constant = none_exact _
wide_exact (index op_of) = none_exact _
wide_exact (local op_of) = of_value op_of u2_reads
wide_exact increment = of_value _ (both_reads u2_reads (signed16 Short))
wide_exact (branch op_of) = none_exact _
wide_exact (far_branch op_of) = none_exact _
wide_exact table = none_exact _
wide_exact lookup = none_exact _
wide_exact interface = none_exact _
wide_exact dynamic = none_exact _
wide_exact primitive = none_exact _
wide_exact dimensions = none_exact _
wide_exact wide = none_exact _

-- an opcode in front
behind_opcode : {next : ℕ → Reader CodeWhy Op} {Are : ℕ → List ℕ → Op → Type 0} → ((opcode : ℕ) → IsExact (next opcode) (Are opcode)) → IsExact (then_next u1_at next) (BehindOpcode Are)
behind_opcode {next = next} {Are = Are} exact = record {
  takes = λ bytes x fits e.
      let a = ok_of (u1_at bytes) (λ y. next y.0 y.1) x e in
      let one = u1_reads.takes bytes a.0 fits a.1 in
      let t = (exact a.0.0).takes a.0.1 x one.0.rest_fits a.2 in
      record { front = a.0.0 ∷ t.front; parts = one.0.parts ∙ ap (λ (bs : List ℕ). a.0.0 ∷ bs) t.parts; are = t.are; rest_fits = t.rest_fits };
  again = again;
}
  where
    again : (front : List ℕ) (op : Op) (rest : List ℕ) → BehindOpcode Are front op → then_next u1_at next (front ++ rest) ≡ Ok (op, rest)
    again [] op rest is = absurd is
    again (opcode ∷ front) op rest is = ap (λ (r : Result (ℕ × List ℕ) (Fault CodeWhy)). r >>= λ x. next x.0 x.1) (byte_again Short opcode (front ++ rest)) ∙ (exact opcode).again front op rest is

operands_exact : (pc : ℕ) (f : Format) → IsExact (operands_at pc f) (AreOperands pc f)
operands_exact pc undefined = none_exact _
operands_exact pc (plain op) = plain_exact op
operands_exact pc byte = of_value _ (signed8 Short)
operands_exact pc short = of_value _ (signed16 Short)
operands_exact pc constant = of_value _ u1_reads
operands_exact pc (index op_of) = of_value op_of u2_reads
operands_exact pc (local op_of) = of_value op_of u1_reads
operands_exact pc increment = of_value _ (both_reads u1_reads (signed8 Short))
operands_exact pc (branch op_of) = of_value op_of (near_reads pc)
operands_exact pc (far_branch op_of) = of_value op_of (far_reads pc)
operands_exact pc table = of_value _ (table_reads pc)
operands_exact pc lookup = of_value _ (lookup_reads pc)
operands_exact pc interface = of_value _ (before_zero_reads (both_reads u2_reads u1_reads))
operands_exact pc dynamic = of_value _ (before_zero_reads (before_zero_reads u2_reads))
operands_exact pc primitive = of_value _ primitive_reads
operands_exact pc dimensions = of_value _ dimensions_reads
operands_exact pc wide = behind_opcode (λ opcode. wide_exact (format opcode))

-- what is read at the front of a code is just what is encoded there
pub op_exact : (pc : ℕ) → IsExact (op_at pc) (λ bytes op. IsEncoded pc op bytes)
unfolding op_at
op_exact pc = behind_opcode (λ opcode. operands_exact pc (format opcode))

-- The laws of the readers of numbers and of runs of bytes.
use Rattle.std.proofs.Common.{◌≡◌, ℕ, ◌-◌, ◌^◌, ◌<◌, true, cond, eqb, List, ◌++◌, length, Ok, Err, sym, ap, subst, ◌∙◌, refl, append_assoc, arith}
use Rattle.std.specs.Int.{w32, to_be_bytes}
use Rattle.std.proofs.lemmas.Bool.{eqb-true, eq-eqb}
use Rattle.std.proofs.lemmas.List.{length-append}
use Rattle.class_grammar.specs.declared.class_why.ClassWhy.TheVariants.{Short, Length}
use Rattle.class_grammar.specs.Layout.{u1, u2, u4, u8}
use Rattle.class_grammar.specs.Ranges.{IsU1, IsU2, IsU4}
use Rattle.byte_reader.specs.Reader.{◌>>=◌, fault_at}
use Rattle.byte_reader.proofs.ReaderLaws.{IsBytes, ok_of, passed, Takes, Takes-then, IsReader, wide8, wide16, wide32, wide64, number_reads, bytes_again, bytes_reads, both_reads}
use Rattle.class_file.specs.Numbers.{ClassReader, u1_at, u2_at, u4_at, u8_at, pair_at, run_at, sized_value_at}

pub u1_reads : IsReader u1_at u1 IsU1
u1_reads = number_reads Short wide8

pub u2_reads : IsReader u2_at u2 IsU2
u2_reads = number_reads Short wide16

pub u4_reads : IsReader u4_at u4 IsU4
u4_reads = number_reads Short wide32

pub u8_reads : IsReader u8_at u8 (λ n. n < 2 ^ 64)
u8_reads = number_reads Short wide64

pub pair_reads : IsReader pair_at (λ p. u2 p.0 ++ u2 p.1) (λ p. IsU2 p.0 × IsU2 p.1)
pair_reads = both_reads u2_reads u2_reads

pub run_reads : (n : ℕ) → IsReader (run_at n) (λ bs. bs) (λ bs. (length bs ≡ n) × IsBytes bs)
run_reads n = bytes_reads Short n

pub run_again : (n : ℕ) (bs rest : List ℕ) → length bs ≡ n → run_at n (bs ++ rest) ≡ Ok (bs, rest)
run_again n bs rest size = bytes_again Short n bs rest size

-- ---- a value after its length

before_rest : (bytes text rest : List ℕ) → Takes bytes text rest → length bytes - length rest ≡ length text
before_rest bytes text rest t = omega (arith, ap length t.parts, length-append text rest)

pub sized_value_reads : {A : Type 0} {r : ClassReader A} {s : A → List ℕ} {P : A → Type 0} → IsReader r s P → IsReader (sized_value_at r) (λ x. to_be_bytes w32 (length (s x)) ++ s x) (λ x. P x × (length (s x) < 2 ^ 32))
sized_value_reads {A = A} {r = r} {s = s} {P = P} reads = record {
  takes = λ bytes p fits e.
      let a = ok_of (u4_at bytes) (λ n. r n.1 >>= λ x. cond (eqb (length n.1 - length x.1) n.0) (Ok x) (Err (fault_at bytes Length))) p e in
      let b = ok_of (r a.0.1) (λ x. cond (eqb (length a.0.1 - length x.1) a.0.0) (Ok x) (Err (fault_at bytes Length))) p a.2 in
      let g = passed (eqb (length a.0.1 - length b.0.1) a.0.0) b.0 p (fault_at bytes Length) b.2 in
      let one = u4_reads.takes bytes a.0 fits a.1 in
      let two = reads.takes a.0.1 b.0 one.0.rest_fits b.1 in
      let size : length (s b.0.0) ≡ a.0.0 = sym (before_rest a.0.1 (s b.0.0) b.0.1 two.0) ∙ eqb-true (length a.0.1 - length b.0.1) a.0.0 g.0 in
      let whole = Takes-then bytes (to_be_bytes w32 a.0.0) a.0.1 (s b.0.0) b.0.1 one.0 two.0 in
      subst (λ (q : A × List ℕ). Takes bytes (to_be_bytes w32 (length (s q.0)) ++ s q.0) q.1 × (P q.0 × (length (s q.0) < 2 ^ 32))) g.1
      (subst (λ (n : ℕ). Takes bytes (to_be_bytes w32 n ++ s b.0.0) b.0.1) (sym size) whole, (two.1, omega (arith, size, one.1)));
  again = λ x rest h.
      let text = s x in
      let size : eqb (length (text ++ rest) - length rest) (length text) ≡ true = eq-eqb _ _ (omega (arith, length-append text rest)) in
      ap (sized_value_at r) (append_assoc (to_be_bytes w32 (length text)) text rest)
      ∙ rw (u4_reads.again (length text) (text ++ rest) h.1, reads.again x rest h.0, size) refl;
}

-- The reader of a type reads just the types of a map, each from its spelling.
use Rattle.std.proofs.Common.{◌≡◌, ℕ, ◌^◌, ◌<◌, eqb, List, [], ◌∷◌, ◌++◌, length, true, Ok, refl, ap, arith}
use Rattle.std.proofs.lemmas.Bool.{eqb-true}
use Rattle.byte_reader.specs.Reader.{fault_at, many}
use Rattle.byte_reader.proofs.ReaderLaws.{IsBytes, IsReader, number_reads, wide8, wide16, count_then_reads}
use Rattle.byte_reader.proofs.SequenceLaws.{many_reads}
use Rattle.stack_maps.specs.declared.types.VType.{VType}
use Rattle.stack_maps.specs.declared.types.VType.TheVariants.{Top, Int, Float, Double, Long, Null, UninitThis, Object, Uninit, Named}
use Rattle.stack_maps.specs.declared.error.MapWhy.TheVariants as whys
use Rattle.stack_maps.specs.Encoding.{u1, u2, vtype, vtypes, IsMapped, AreMapped}
use Rattle.stack_maps.specs.Readers.{u1_at, u2_at, type_at, types_at}
use Rattle.stack_maps.proofs.Rows.{TakesBehind, row, none, first, nothing_reads}

pub u1_reads : IsReader u1_at u1 (λ n. n < 2 ^ 8)
u1_reads = number_reads whys.Short wide8

pub u2_reads : IsReader u2_at u2 (λ n. n < 2 ^ 16)
u2_reads = number_reads whys.Short wide16

-- the tag of a row
tag : (t k : ℕ) (text : List ℕ) → eqb t k ≡ true → t ∷ text ≡ k ∷ text
tag t k text h = ap (λ (n : ℕ). n ∷ text) (eqb-true t k h)

type_again : (t : VType) (rest : List ℕ) → IsMapped t → type_at (vtype t ++ rest) ≡ Ok (t, rest)
unfolding type_at
type_again Top rest h = rw (u1_reads.again 0 rest (omega arith)) refl
type_again Int rest h = rw (u1_reads.again 1 rest (omega arith)) refl
type_again Float rest h = rw (u1_reads.again 2 rest (omega arith)) refl
type_again Double rest h = rw (u1_reads.again 3 rest (omega arith)) refl
type_again Long rest h = rw (u1_reads.again 4 rest (omega arith)) refl
type_again Null rest h = rw (u1_reads.again 5 rest (omega arith)) refl
type_again UninitThis rest h = rw (u1_reads.again 6 rest (omega arith)) refl
type_again (Object n) rest h = rw (u1_reads.again 7 (u2 n ++ rest) (omega arith), u2_reads.again n rest h) refl
type_again (Uninit n) rest h = rw (u1_reads.again 8 (u2 n ++ rest) (omega arith), u2_reads.again n rest h) refl
type_again (Named dimensions base) rest h = absurd h

type_takes : (bytes : List ℕ) → IsBytes bytes → TakesBehind vtype IsMapped [] bytes (type_at bytes)
unfolding type_at
type_takes bytes fits = first [] bytes _ u1_reads fits (λ t lt more.
    row (eqb t.0 0) (λ x. Top) nothing_reads more (λ h x a. (tag t.0 0 [] h, tt)) (λ h.
    row (eqb t.0 1) (λ x. Int) nothing_reads more (λ h x a. (tag t.0 1 [] h, tt)) (λ h.
    row (eqb t.0 2) (λ x. Float) nothing_reads more (λ h x a. (tag t.0 2 [] h, tt)) (λ h.
    row (eqb t.0 3) (λ x. Double) nothing_reads more (λ h x a. (tag t.0 3 [] h, tt)) (λ h.
    row (eqb t.0 4) (λ x. Long) nothing_reads more (λ h x a. (tag t.0 4 [] h, tt)) (λ h.
    row (eqb t.0 5) (λ x. Null) nothing_reads more (λ h x a. (tag t.0 5 [] h, tt)) (λ h.
    row (eqb t.0 6) (λ x. UninitThis) nothing_reads more (λ h x a. (tag t.0 6 [] h, tt)) (λ h.
    row (eqb t.0 7) Object u2_reads more (λ h n fit. (tag t.0 7 (u2 n) h, fit)) (λ h.
    row (eqb t.0 8) Uninit u2_reads more (λ h n fit. (tag t.0 8 (u2 n) h, fit)) (λ h.
    none (fault_at bytes whys.Tag)))))))))))

pub type_reads : IsReader type_at vtype IsMapped
type_reads = record { takes = λ bytes p fits e. (type_takes bytes fits).takes p e; again = type_again }

pub many_read : (n : ℕ) → IsReader (many type_at n) vtypes (λ ts. (length ts ≡ n) × AreMapped ts)
many_read n = many_reads type_reads n

pub types_read : IsReader types_at (λ ts. u2 (length ts) ++ vtypes ts) (λ ts. (length ts < 2 ^ 16) × AreMapped ts)
types_read = count_then_reads whys.Short length wide16 many_read

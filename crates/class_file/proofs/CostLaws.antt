-- How many bytes a number or a run of bytes takes, and how many units a text has at most.
use Rattle.std.proofs.Common.{◌≡◌, ℕ, ◌+◌, ◌≤◌, ltb, List, [], ◌∷◌, length, take, Result, Ok, Err, ap, subst, arith}
use Rattle.std.specs.Prelude.{IfOk}
use Rattle.std.specs.Io.{StartsWith}
use Rattle.std.specs.Borrow.{Bor}
use Rattle.std.proofs.lemmas.Bool.{ltb-false}
use Rattle.std.proofs.lemmas.List.{length-drop, length-take, length-take-le, length-append}
use Rattle.std.proofs.lemmas.List.Concat.{flat_map-cons}
use Rattle.byte_reader.specs.declared.fault.Stop.{Stop}
use Rattle.byte_reader.specs.Reader.{Reads, ReadsBytes, number_at, bytes_at, fault_at}
use Rattle.byte_reader.proofs.ReaderLaws.{not_failed}
use Rattle.jvm_utf8.specs.Text.{unit, text}
use Rattle.jvm_utf8.proofs.UnitLaws.{some_bytes}

number_size : {W : Type 0} (short : W) (size : ℕ) (bytes : List ℕ) (p : ℕ × List ℕ) → number_at short size bytes ≡ Ok p → length p.1 + size ≡ length bytes
number_size short size bytes p e =
    let g = not_failed (ltb (length bytes) size) _ p (fault_at bytes short) e in
    let long : size ≤ length bytes = ltb-false _ _ g.0 in
    subst (λ (q : ℕ × List ℕ). length q.1 + size ≡ length bytes) g.1 (omega (arith, length-drop size bytes))

pub number_sized : {W : Type 0} (short : W) (size : ℕ) (bytes : List ℕ) (r : Result (ℕ × Bor (List ℕ)) (Stop W)) → Reads r (number_at short size bytes) → IfOk r (λ x. length x.1.now + size ≡ length bytes)
number_sized short size bytes (Ok x) h = number_size short size bytes (x.0, x.1.now) h
number_sized short size bytes (Err stop) h = tt

run_size : {W : Type 0} (short : W) (count : ℕ) (bytes : List ℕ) (p : List ℕ × List ℕ) → bytes_at short count bytes ≡ Ok p → length p.0 + length p.1 ≡ length bytes
run_size short count bytes p e =
    let g = not_failed (ltb (length bytes) count) _ p (fault_at bytes short) e in
    let long : count ≤ length bytes = ltb-false _ _ g.0 in
    subst (λ (q : List ℕ × List ℕ). length q.0 + length q.1 ≡ length bytes) g.1 (omega (arith, length-drop count bytes, length-take count bytes))

pub run_sized : {W : Type 0} (short : W) (count : ℕ) (bytes : List ℕ) (r : Result (Bor (List ℕ) × Bor (List ℕ)) (Stop W)) → ReadsBytes r (bytes_at short count bytes)
    → IfOk r (λ x. length x.0.now + length x.1.now ≡ length bytes)
run_sized short count bytes (Ok x) h = run_size short count bytes (x.0.now, x.1.now) h
run_sized short count bytes (Err stop) h = tt

run_front : {W : Type 0} (short : W) (count : ℕ) (bytes : List ℕ) (p : List ℕ × List ℕ) → bytes_at short count bytes ≡ Ok p → StartsWith bytes p.0
run_front short count bytes p e =
    let g = not_failed (ltb (length bytes) count) _ p (fault_at bytes short) e in
    let long : count ≤ length bytes = ltb-false _ _ g.0 in
    subst (λ (q : List ℕ × List ℕ). StartsWith bytes q.0) g.1 (ap (λ (n : ℕ). take n bytes) (length-take-le count bytes long))

-- a run of bytes is in front
pub run_in_front : {W : Type 0} (short : W) (count : ℕ) (bytes : List ℕ) (r : Result (Bor (List ℕ) × Bor (List ℕ)) (Stop W)) → ReadsBytes r (bytes_at short count bytes)
    → IfOk r (λ x. StartsWith bytes x.0.now)
run_in_front short count bytes (Ok x) h = run_front short count bytes (x.0.now, x.1.now) h
run_in_front short count bytes (Err stop) h = tt

-- each unit takes a byte or more
pub no_more_units : (units : List ℕ) → length units ≤ length (text units)
no_more_units [] = omega arith
no_more_units (u ∷ us) =
    omega (arith, ap length (flat_map-cons unit u us), length-append (unit u) (text us), some_bytes u, no_more_units us)

-- The reader of a frame reads just the frames that are allowed there, each from its spelling.
use Rattle.std.proofs.Common.{◌≡◌, ℕ, zero, suc, ◌+◌, ◌-◌, ◌<◌, ◌≤◌, true, false, eqb, ltb, List, [], ◌∷◌, ◌++◌, length, Ok, refl, sym, ap, ◌∙◌, append_assoc, arith}
use Rattle.std.specs.Prelude.{◌&&◌}
use Rattle.std.specs.Int.{is_in_range}
use Rattle.std.proofs.lemmas.Bool.{eqb-true, eqb-false, ltb-true, ltb-false, lt-ltb, le-ltb}
use Rattle.std.proofs.lemmas.Bool.Decides.{nat_tests}
use Rattle.byte_reader.specs.Reader.{fault_at}
use Rattle.byte_reader.proofs.ReaderLaws.{IsBytes, IsReader, both_reads}
use Rattle.stack_maps.specs.declared.types.VType.{VType}
use Rattle.stack_maps.specs.declared.error.MapWhy.TheVariants as whys
use Rattle.stack_maps.specs.Encoding.{u2, vtype, vtypes, Frame, Same, SameLocals1StackItem, SameLocals1StackItemExtended, Chop, SameExtended, Append, Full, frame, IsFrame}
use Rattle.stack_maps.specs.Readers.{wide_frame_at, frame_at}
use Rattle.stack_maps.proofs.Rows.{TakesBehind, row, refuses, last, first, nothing_reads}
use Rattle.stack_maps.proofs.TypeLaws.{u1_reads, u2_reads, type_reads, many_read, types_read}

-- ---- what is read is allowed

-- the type of a row
head : (kind k : ℕ) (text : List ℕ) → kind ≡ k → kind ∷ text ≡ k ∷ text
head kind k text h = ap (λ (n : ℕ). n ∷ text) h

full_text : (delta : ℕ) (ls st : List VType) → 255 ∷ (u2 delta ++ ((u2 (length ls) ++ vtypes ls) ++ (u2 (length st) ++ vtypes st))) ≡ frame (Full delta ls st)
full_text delta ls st = simp append_assoc

wide_takes : (locals : List VType) (kind : ℕ) (bytes : List ℕ) → IsBytes bytes → 247 ≤ kind → kind < 256 → (247 < kind → kind < 251 → 251 - kind ≤ length locals) → TakesBehind frame (IsFrame locals) (kind ∷ []) bytes (wide_frame_at kind bytes)
unfolding wide_frame_at
wide_takes locals kind bytes fits low high enough = first (kind ∷ []) bytes _ u2_reads fits (λ delta lt more.
    row (eqb kind 247) (SameLocals1StackItemExtended delta.0) type_reads more (λ h item fit. (head kind 247 (u2 delta.0 ++ vtype item) (eqb-true kind 247 h), (lt, fit))) (λ h.
    let other : kind ≡ 247 → ⊥ = eqb-false kind 247 h in
    row (ltb kind 251) (λ x. Chop delta.0 (251 - kind)) nothing_reads more (λ h x a.
    let below : kind < 251 = ltb-true kind 251 h in
    (head kind (251 - (251 - kind)) (u2 delta.0) (omega arith), (lt, omega arith, omega arith, enough (omega arith) below))) (λ h.
    let above : 251 ≤ kind = ltb-false kind 251 h in
    row (eqb kind 251) (λ x. SameExtended delta.0) nothing_reads more (λ h x a. (head kind 251 (u2 delta.0) (eqb-true kind 251 h), lt)) (λ h.
    let next : kind ≡ 251 → ⊥ = eqb-false kind 251 h in
    row (ltb kind 255) (Append delta.0) (many_read (kind - 251)) more (λ h ts fit.
    let below : kind < 255 = ltb-true kind 255 h in
    let size = fit.0 in
    (head kind (251 + length ts) (u2 delta.0 ++ vtypes ts) (omega arith), (lt, omega arith, omega arith, fit.1))) (λ h.
    let top : 255 ≤ kind = ltb-false kind 255 h in
    last (λ (x : List VType × List VType). Full delta.0 x.0 x.1) (both_reads types_read types_read) more (λ x fit.
    (head kind 255 _ (omega arith) ∙ full_text delta.0 x.0 x.1, (lt, fit.0.0, fit.0.1, fit.1.0, fit.1.1))))))))

not_chopped : (kind n : ℕ) → (is_in_range 248 250 kind && ltb n (251 - kind)) ≡ false → 247 < kind → kind < 251 → 251 - kind ≤ n
not_chopped kind n e low high = grind (arith, nat_tests)

frame_takes : (locals : List VType) (bytes : List ℕ) → IsBytes bytes → TakesBehind frame (IsFrame locals) [] bytes (frame_at (length locals) bytes)
unfolding frame_at
frame_takes locals bytes fits = first [] bytes _ u1_reads fits (λ kind lt more.
    row (ltb kind.0 64) (λ x. Same kind.0) nothing_reads more (λ h x a. (refl, ltb-true kind.0 64 h)) (λ h.
    let above : 64 ≤ kind.0 = ltb-false kind.0 64 h in
    row (ltb kind.0 128) (SameLocals1StackItem (kind.0 - 64)) type_reads more (λ h item fit.
    let below : kind.0 < 128 = ltb-true kind.0 128 h in
    (head kind.0 (64 + (kind.0 - 64)) (vtype item) (omega arith), (omega arith, fit))) (λ h.
    refuses (ltb kind.0 247) (fault_at bytes whys.Reserved) (λ h.
    refuses (is_in_range 248 250 kind.0 && ltb (length locals) (251 - kind.0)) (fault_at bytes whys.Chop) (λ kept.
    wide_takes locals kind.0 kind.1 more (ltb-false kind.0 247 h) lt (not_chopped kind.0 (length locals) kept))))))

-- ---- what is allowed is read

frame_again : (locals : List VType) (f : Frame) (rest : List ℕ) → IsFrame locals f → frame_at (length locals) (frame f ++ rest) ≡ Ok (f, rest)
unfolding frame_at wide_frame_at
frame_again locals (Same delta) rest h = rw (u1_reads.again delta rest (omega (arith, h)), lt-ltb delta 64 h) refl
frame_again locals (SameLocals1StackItem delta item) rest h =
    let lt = h.0 in
    let above : ltb (64 + delta) 64 ≡ false = le-ltb _ _ (omega arith) in
    let below : ltb (64 + delta) 128 ≡ true = lt-ltb _ _ (omega arith) in
    let back : 64 + delta - 64 ≡ delta = omega arith in
    rw (u1_reads.again (64 + delta) (vtype item ++ rest) (omega arith), above, below, type_reads.again item rest h.1, back) refl
frame_again locals (SameLocals1StackItemExtended delta item) rest h =
    rw (u1_reads.again 247 (u2 delta ++ (vtype item ++ rest)) (omega arith), u2_reads.again delta (vtype item ++ rest) h.0, type_reads.again item rest h.1) refl
frame_again locals (Chop delta zero) rest h = let none : 1 ≤ 0 = h.1 in absurd (omega arith)
frame_again locals (Chop delta (suc zero)) rest h =
    let enough : ltb (length locals) 1 ≡ false = le-ltb _ _ h.3 in
    rw (u1_reads.again 250 (u2 delta ++ rest) (omega arith), enough, u2_reads.again delta rest h.0) refl
frame_again locals (Chop delta (suc (suc zero))) rest h =
    let enough : ltb (length locals) 2 ≡ false = le-ltb _ _ h.3 in
    rw (u1_reads.again 249 (u2 delta ++ rest) (omega arith), enough, u2_reads.again delta rest h.0) refl
frame_again locals (Chop delta (suc (suc (suc zero)))) rest h =
    let enough : ltb (length locals) 3 ≡ false = le-ltb _ _ h.3 in
    rw (u1_reads.again 248 (u2 delta ++ rest) (omega arith), enough, u2_reads.again delta rest h.0) refl
frame_again locals (Chop delta (suc (suc (suc (suc n))))) rest h = let many : suc (suc (suc (suc n))) ≤ 3 = h.2 in absurd (omega arith)
frame_again locals (SameExtended delta) rest h = rw (u1_reads.again 251 (u2 delta ++ rest) (omega arith), u2_reads.again delta rest h) refl
frame_again locals (Append delta []) rest h = let none : 1 ≤ 0 = h.1 in absurd (omega arith)
frame_again locals (Append delta (a ∷ [])) rest h =
    let ts : List VType = a ∷ [] in
    rw (u1_reads.again 252 (u2 delta ++ (vtypes ts ++ rest)) (omega arith), u2_reads.again delta (vtypes ts ++ rest) h.0, (many_read 1).again ts rest (refl, h.3)) refl
frame_again locals (Append delta (a ∷ b ∷ [])) rest h =
    let ts : List VType = a ∷ b ∷ [] in
    rw (u1_reads.again 253 (u2 delta ++ (vtypes ts ++ rest)) (omega arith), u2_reads.again delta (vtypes ts ++ rest) h.0, (many_read 2).again ts rest (refl, h.3)) refl
frame_again locals (Append delta (a ∷ b ∷ c ∷ [])) rest h =
    let ts : List VType = a ∷ b ∷ c ∷ [] in
    rw (u1_reads.again 254 (u2 delta ++ (vtypes ts ++ rest)) (omega arith), u2_reads.again delta (vtypes ts ++ rest) h.0, (many_read 3).again ts rest (refl, h.3)) refl
frame_again locals (Append delta (a ∷ b ∷ c ∷ d ∷ added)) rest h = let many : length (a ∷ b ∷ c ∷ d ∷ added) ≤ 3 = h.2 in absurd (omega arith)
frame_again locals (Full delta ls st) rest h =
    let tail = (u2 (length ls) ++ vtypes ls) ++ (u2 (length st) ++ vtypes st) in
    ap (λ (t : List ℕ). frame_at (length locals) (t ++ rest)) (sym (full_text delta ls st))
    ∙ rw (u1_reads.again 255 (u2 delta ++ (tail ++ rest)) (omega arith), u2_reads.again delta (tail ++ rest) h.0, (both_reads types_read types_read).again (ls, st) rest ((h.1, h.2), (h.3, h.4))) refl

pub frame_reads : (locals : List VType) → IsReader (frame_at (length locals)) frame (IsFrame locals)
frame_reads locals = record { takes = λ bytes p fits e. (frame_takes locals bytes fits).takes p e; again = frame_again locals }

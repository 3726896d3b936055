-- Tables of words.
use Rattle.std.proofs.Common.{◌≡◌, ℕ, ◌+◌, ◌<◌, ◌≤◌, Bool, false, not, cond, List, [], ◌∷◌, length, map, get_or, Some, None, refl, sym, ap, ◌∙◌, arith, eqb, ltb}
use Rattle.std.proofs.Math.ListN.{get_or-map, length-map}
use Rattle.std.specs.Borrow.{Bor}
use Rattle.std.specs.List.{position, position_or_len}
use Rattle.std.proofs.lemmas.List.{get_or_past}
use Rattle.std.proofs.lemmas.List.Quantifiers.{position-Some}
use Rattle.asm_text.specs.declared.instruction.OperandKind.{OperandKind}
use Rattle.asm_text.specs.declared.instruction.OperandKind.TheVariants.{Nothing}
use Rattle.asm_text.specs.Words.{same_word}
use Rattle.asm_text.specs.Mnemonics.{mnemonics, nameless, index_named, mnemonic_of, opcode_named}
use Rattle.asm_text.specs.Meaning.{row_of}

position_map_len : {A B : Type 0} (f : A → B) (p : B → Bool) (xs : List A) → position_or_len p (map f xs) ≡ position_or_len (λ x. p (f x)) xs
position_map_len f p [] = refl
position_map_len f p (x ∷ xs) = ap (λ (n : ℕ). cond (not (p (f x))) (1 + n) 0) (position_map_len f p xs)

-- the first of the values that f gives
pub position_map : {A B : Type 0} (f : A → B) (p : B → Bool) (xs : List A) → position p (map f xs) ≡ position (λ x. p (f x)) xs
position_map f p xs =
    let len : length (map f xs) ≡ length xs = length-map xs f in
    let at = position_map_len f p xs in
    (λ i. cond (ltb (at i) (len i)) (Some (at i)) None)

table_count : length mnemonics ≡ 201
unfolding mnemonics
table_count = refl

module _ (rows : List (Bor (List ℕ) × OperandKind)) (are : map row_of rows ≡ mnemonics) where
  pub row_in : (opcode : ℕ) (d : Bor (List ℕ) × OperandKind) → row_of d ≡ nameless → row_of (get_or rows opcode d) ≡ mnemonic_of opcode
  unfolding mnemonic_of
  row_in opcode d e = sym (get_or-map row_of rows opcode d) ∙ (λ i. get_or (are i) opcode (e i))

  pub row_past : (opcode : ℕ) → length rows ≤ opcode → nameless ≡ mnemonic_of opcode
  unfolding mnemonic_of
  row_past opcode past = sym (get_or_past mnemonics opcode nameless (omega (arith, ap length are, length-map rows row_of)))

  pub index_in : (w : List ℕ) → index_named (map row_of rows) w ≡ opcode_named w
  unfolding opcode_named
  index_in w = ap (λ ms. index_named ms w) are

  pub index_none : (w : List ℕ) → length w ≡ 0 → None ≡ opcode_named w
  index_none w empty = sym (ap (λ (n : ℕ). cond (eqb n 0) None (position (λ m. same_word m.name w) (map row_of rows))) empty) ∙ index_in w

  pub index_some : (w : List ℕ) → eqb (length w) 0 ≡ false → position (λ row. same_word row.0.now w) rows ≡ opcode_named w
  index_some w some =
      sym (position_map row_of (λ m. same_word m.name w) rows)
      ∙ sym (ap (λ (b : Bool). cond b None (position (λ m. same_word m.name w) (map row_of rows))) some)
      ∙ index_in w

  pub row_count : length rows ≡ 201
  row_count = sym (length-map rows row_of) ∙ ap length are ∙ table_count

  pub index_below : (w : List ℕ) (n : ℕ) → position (λ row. same_word row.0.now w) rows ≡ Some n → n < 201
  index_below w n e = omega (arith, (position-Some (λ row. same_word row.0.now w) rows n (record { ref_ptr = (0, 0); now = [] }, Nothing) e).0, row_count)

-- An instruction appends as many bytes as its size says.
use Rattle.std.proofs.Common.{◌≡◌, ℕ, ◌+◌, ◌*◌, ◌-◌, ◌%◌, ℤ, pos, Bool, true, false, cond, List, [], ◌∷◌, ◌++◌, length, Option, Some, None, refl, sym, ap, ◌∙◌, length-append, arith, eqb, ltb}
use Rattle.std.specs.Prelude.{◌&&◌}
use Rattle.std.specs.Int.{w16, cast_unsigned}
use Rattle.std.proofs.lemmas.List.{length-replicate}
use Rattle.items.proofs.Binds.{some_is}
use Rattle.asm_text.specs.declared.instruction.Operands.{Operands}
use Rattle.asm_text.specs.declared.instruction.Operands.TheVariants as operands
use Rattle.asm_text.specs.declared.instruction.Case.{Case}
use Rattle.asm_code.specs.declared.instruction.Mentioned.{Mentioned}
use Rattle.asm_code.specs.Encoding.{Targets, u2, s1, s2, s4, offset, is_near, near, far, far_all, padding, highest, is_table, table_targets, table, are_rising, case, cases, lookup, is_small, element_code, with_instruction}
use Rattle.asm_code.specs.Sizes.{padding_size, size_of}

-- so many bytes more
abbrev Adds : ℕ → List ℕ → List ℕ → Type 0
Adds count code new = length new ≡ length code + count

some_same : {A : Type 0} (x y : A) → Some x ≡ Some y → x ≡ y
some_same x y e = cc

put : (code bytes new : List ℕ) → Some (code ++ bytes) ≡ Some new → Adds (length bytes) code new
put code bytes new e = ap length (sym (some_same _ _ e)) ∙ length-append code bytes

four : (n : ℤ) → length (s4 n) ≡ 4
four n = refl

two : (n : ℕ) → length (u2 n) ≡ 2
two n = refl

module _ (target : Targets) (pc : ℕ) where
  far_adds : (label code new : List ℕ) → far target pc label code ≡ Some new → Adds 4 code new
  far_adds label code new e =
      let t = some_is (target label) (λ t. Some (code ++ s4 (offset pc t))) new e in
      put code (s4 (offset pc t.0)) new t.2

  near_by : (b : Bool) (code bytes new : List ℕ) → cond b (Some (code ++ bytes)) None ≡ Some new → Adds (length bytes) code new
  near_by true code bytes new e = put code bytes new e
  near_by false code bytes new e = absurd cc

  near_adds : (label code new : List ℕ) → near target pc label code ≡ Some new → Adds 2 code new
  near_adds label code new e =
      let t = some_is (target label) (λ t. cond (is_near (offset pc t)) (Some (code ++ s2 (offset pc t))) None) new e in
      near_by (is_near (offset pc t.0)) code (s2 (offset pc t.0)) new t.2

  all_add : (labels : List (List ℕ)) (code new : List ℕ) → far_all target pc labels code ≡ Some new → Adds (4 * length labels) code new
  all_add [] code new e = let same : code ≡ new = some_same _ _ e in omega (arith, ap length same)
  all_add (label ∷ labels) code new e =
      let t = some_is (far target pc label code) (λ next. far_all target pc labels next) new e in
      omega (arith, far_adds label code t.0 t.1, all_add labels t.0 new t.2)

  case_adds : (c : Case) (code new : List ℕ) → case target pc c code ≡ Some new → Adds 8 code new
  case_adds c code new e = omega (arith, far_adds c.label (code ++ s4 c.value) new e, length-append code (s4 c.value), four c.value)

  cases_add : (cs : List Case) (code new : List ℕ) → cases target pc cs code ≡ Some new → Adds (8 * length cs) code new
  cases_add [] code new e = let same : code ≡ new = some_same _ _ e in omega (arith, ap length same)
  cases_add (c ∷ cs) code new e =
      let t = some_is (case target pc c code) (λ next. cases target pc cs next) new e in
      omega (arith, case_adds c code t.0 t.1, cases_add cs t.0 new t.2)

  padding_is : length (padding pc) ≡ padding_size pc
  padding_is = length-replicate (3 - pc % 4) 0

  if_some : (b : Bool) (o : Option (List ℕ)) (new : List ℕ) → cond b o None ≡ Some new → o ≡ Some new
  if_some true o new e = e
  if_some false o new e = absurd cc

  table_adds : (low : ℤ) (labels : List (List ℕ)) (default code new : List ℕ) → table target pc low labels default code ≡ Some new → Adds (12 + padding_size pc + 4 * length labels) code new
  table_adds low labels default code new e =
      let high = highest low (length labels) in
      let f = if_some (is_table low (length labels)) _ new e in
      let t = some_is (far target pc default (code ++ padding pc)) (λ next. table_targets target pc low labels next) new f in
      omega (
        arith,
        far_adds default (code ++ padding pc) t.0 t.1,
        length-append code (padding pc),
        padding_is,
        all_add labels ((t.0 ++ s4 low) ++ s4 high) new t.2,
        length-append (t.0 ++ s4 low) (s4 high),
        length-append t.0 (s4 low),
        four low,
        four high,
      )

  lookup_adds : (cs : List Case) (default code new : List ℕ) → lookup target pc cs default code ≡ Some new → Adds (8 + padding_size pc + 8 * length cs) code new
  lookup_adds cs default code new e =
      let f = if_some (ltb (length cs) 65536 && are_rising cs) _ new e in
      let t = some_is (far target pc default (code ++ padding pc)) (λ next. cases target pc cs (next ++ s4 (pos (length cs)))) new f in
      omega (
        arith,
        far_adds default (code ++ padding pc) t.0 t.1,
        length-append code (padding pc),
        padding_is,
        cases_add cs (t.0 ++ s4 (pos (length cs))) new t.2,
        length-append t.0 (s4 (pos (length cs))),
        four (pos (length cs)),
      )

  constant_adds : (opcode index : ℕ) (code new : List ℕ) (b : Bool) → cond b (cond (ltb index 256) (Some (code ++ opcode ∷ index ∷ [])) None) (Some (code ++ opcode ∷ u2 index)) ≡ Some new
      → Adds (cond b 2 3) code new
  constant_adds opcode index code new true e = put code (opcode ∷ index ∷ []) new (if_some (ltb index 256) _ new e)
  constant_adds opcode index code new false e = put code (opcode ∷ u2 index) new e

  local_adds : (opcode n : ℕ) (code new : List ℕ) (b : Bool) → cond b (Some (code ++ opcode ∷ n ∷ [])) (Some ((code ++ 196 ∷ opcode ∷ []) ++ u2 n)) ≡ Some new → Adds (cond b 2 4) code new
  local_adds opcode n code new true e = put code (opcode ∷ n ∷ []) new e
  local_adds opcode n code new false e = omega (arith, put (code ++ 196 ∷ opcode ∷ []) (u2 n) new e, length-append code (196 ∷ opcode ∷ []), two n)

  increment_adds : (opcode n : ℕ) (by : ℤ) (code new : List ℕ) (b : Bool)
      → cond b (Some (code ++ opcode ∷ n ∷ s1 by)) (Some (((code ++ 196 ∷ opcode ∷ []) ++ u2 n) ++ s2 by)) ≡ Some new → Adds (cond b 3 6) code new
  increment_adds opcode n by code new true e = put code (opcode ∷ n ∷ s1 by) new e
  increment_adds opcode n by code new false e =
      omega (arith, put ((code ++ 196 ∷ opcode ∷ []) ++ u2 n) (s2 by) new e, length-append (code ++ 196 ∷ opcode ∷ []) (u2 n), length-append code (196 ∷ opcode ∷ []), two n, two (cast_unsigned w16 by))

  branch_adds : (opcode : ℕ) (label code new : List ℕ) (b : Bool) → cond b (far target pc label (code ++ opcode ∷ [])) (near target pc label (code ++ opcode ∷ [])) ≡ Some new
      → Adds (cond b 5 3) code new
  branch_adds opcode label code new true e = omega (arith, far_adds label (code ++ opcode ∷ []) new e, length-append code (opcode ∷ []))
  branch_adds opcode label code new false e = omega (arith, near_adds label (code ++ opcode ∷ []) new e, length-append code (opcode ∷ []))

  member_adds : (opcode : ℕ) (m : Mentioned) (code new : List ℕ) (b : Bool)
      → cond b (Some (((code ++ opcode ∷ []) ++ u2 m.index) ++ m.slots ∷ 0 ∷ [])) (Some (code ++ opcode ∷ u2 m.index)) ≡ Some new → Adds (cond b 5 3) code new
  member_adds opcode m code new true e =
      omega (arith, put ((code ++ opcode ∷ []) ++ u2 m.index) (m.slots ∷ 0 ∷ []) new e, length-append (code ++ opcode ∷ []) (u2 m.index), length-append code (opcode ∷ []), two m.index)
  member_adds opcode m code new false e = put code (opcode ∷ u2 m.index) new e

  dimensions_adds : (opcode index n : ℕ) (code new : List ℕ) (b : Bool) → cond b None (Some ((code ++ opcode ∷ u2 index) ++ n ∷ [])) ≡ Some new → Adds 4 code new
  dimensions_adds opcode index n code new true e = absurd cc
  dimensions_adds opcode index n code new false e =
      omega (arith, put (code ++ opcode ∷ u2 index) (n ∷ []) new e, length-append code (opcode ∷ u2 index), two index)

pub sizes : (target : Targets) (pc opcode : ℕ) (m : Mentioned) (ops : Operands) (code new : List ℕ) → with_instruction target pc opcode m ops code ≡ Some new
    → length new ≡ length code + size_of pc opcode ops
sizes target pc opcode m operands.Nothing code new e = put code (opcode ∷ []) new e
sizes target pc opcode m (operands.Byte n) code new e = put code (opcode ∷ s1 n) new e
sizes target pc opcode m (operands.Short n) code new e = put code (opcode ∷ s2 n) new e
sizes target pc opcode m (operands.Constant c) code new e = constant_adds target pc opcode m.index code new (eqb opcode 18) e
sizes target pc opcode m (operands.Local n) code new e = local_adds target pc opcode n code new (ltb n 256) e
sizes target pc opcode m (operands.Increment n by) code new e = increment_adds target pc opcode n by code new (is_small n by) e
sizes target pc opcode m (operands.Branch label) code new e = branch_adds target pc opcode label code new (eqb opcode 200) e
sizes target pc opcode m (operands.Table low labels default) code new e =
    omega (arith, table_adds target pc low labels default (code ++ opcode ∷ []) new e, length-append code (opcode ∷ []))
sizes target pc opcode m (operands.Lookup cs default) code new e =
    omega (arith, lookup_adds target pc cs default (code ++ opcode ∷ []) new e, length-append code (opcode ∷ []))
sizes target pc opcode m (operands.Member class name descriptor) code new e = member_adds target pc opcode m code new (eqb opcode 185) e
sizes target pc opcode m (operands.Class name) code new e = put code (opcode ∷ u2 m.index) new e
sizes target pc opcode m (operands.Element x) code new e = put code (opcode ∷ element_code x ∷ []) new e
sizes target pc opcode m (operands.Dimensions name n) code new e = dimensions_adds target pc opcode m.index n code new (eqb n 0) e

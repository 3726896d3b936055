-- The table of indexes, from the first instruction to the last.
use Rattle.std.proofs.Common.{◌≡◌, ℕ, zero, suc, ◌+◌, ◌-◌, ◌<◌, ◌≤◌, ◌⊎◌, inl, inr, List, [], ◌∷◌, ◌++◌, length, take, drop, replicate, Some, refl, sym, ap, subst, ◌∙◌, append_assoc, zero-add, arith}
use Rattle.std.specs.Prelude.{slice_get}
use Rattle.std.proofs.lemmas.Bool.{cases_lt}
use Rattle.std.proofs.lemmas.List.{length-append, append-nil, take_all}
use Rattle.std.proofs.lemmas.Option.{same_Some}
use Rattle.opcodes.specs.declared.op.Instr.{Instr}
use Rattle.opcodes.specs.declared.pc_table.TheConstants.{NO_INSTR}
use Rattle.opcodes.specs.Code.{BeginsWith, BeginsWithAll, IsCode}
use Rattle.opcodes.specs.Indexes.{AreIndexesByPc}
use Rattle.opcodes.proofs.CodeLaws.{some_bytes}

-- an instruction's index at its first byte, and NO_INSTR at the others
abbrev pub indexes_of : ℕ → List Instr → List ℕ
indexes_of index [] = []
indexes_of index (i ∷ is) = index ∷ (replicate (i.next - (i.pc + 1)) NO_INSTR ++ indexes_of (index + 1) is)

-- ---- a run of one value

length-replicate : (n v : ℕ) → length (replicate n v) ≡ n
length-replicate zero v = refl
length-replicate (suc n) v = ap suc (length-replicate n v)

inside_run : (n v : ℕ) (ys : List ℕ) (e : ℕ) → e < n → slice_get (replicate n v ++ ys) e ≡ Some v
inside_run zero v ys e lt = absurd (omega (arith, lt))
inside_run (suc n) v ys zero lt = refl
inside_run (suc n) v ys (suc e) lt = inside_run n v ys e (omega (arith, lt))

behind_run : (n v : ℕ) (ys : List ℕ) (e d : ℕ) → e ≡ n + d → slice_get (replicate n v ++ ys) e ≡ slice_get ys d
behind_run zero v ys e d at = ap (slice_get ys) (at ∙ zero-add d)
behind_run (suc n) v ys zero d at = absurd (omega (arith, at))
behind_run (suc n) v ys (suc e) d at = behind_run n v ys e d (omega (arith, at))

-- how long an instruction is
sizes : (pc : ℕ) (code : List ℕ) (i : Instr) (behind : List ℕ) → BeginsWith pc code i behind → (i.pc ≡ pc) × (pc < i.next) × (length code ≡ (i.next - pc) + length behind)
sizes pc code i behind b =
    let size : length code ≡ length b.bytes + length behind = ap length b.parts ∙ length-append b.bytes behind in
    let some : length behind < length code = some_bytes pc code i behind b in
    (b.here, omega (arith, size, some, b.next), omega (arith, size, b.next))

-- ---- the table

covers : (index pc : ℕ) (code : List ℕ) (is : List Instr) → BeginsWithAll pc code is [] → length (indexes_of index is) ≡ length code
covers index pc code [] a = sym (ap length a)
covers index pc code (i ∷ is) a =
    let s = sizes pc code i a.0 a.1 in
    let rest = covers (index + 1) i.next a.0 is a.2 in
    omega (arith, s.0, s.1, s.2, rest, length-replicate (i.next - (i.pc + 1)) NO_INSTR, length-append (replicate (i.next - (i.pc + 1)) NO_INSTR) (indexes_of (index + 1) is))

few : (pc : ℕ) (code : List ℕ) (is : List Instr) → BeginsWithAll pc code is [] → length is ≤ length code
few pc code [] a = omega arith
few pc code (i ∷ is) a = omega (arith, some_bytes pc code i a.0 a.1, few i.next a.0 is a.2)

there : (index pc : ℕ) (code : List ℕ) (is : List Instr) (n : ℕ) (x : Instr) → BeginsWithAll pc code is [] → slice_get is n ≡ Some x → (d : ℕ) × (x.pc ≡ pc + d) × (slice_get (indexes_of index is) d ≡ Some (index + n))
there index pc code [] n x a e = absurd cc
there index pc code (i ∷ is) zero x a e =
    let same : i ≡ x = same_Some i x e in
    let here : i.pc ≡ pc = a.1.here in
    (0, sym (ap (λ (j : Instr). j.pc) same) ∙ omega (arith, here), ap (λ (k : ℕ). Some k) (omega arith))
there index pc code (i ∷ is) (suc n) x a e =
    let s = sizes pc code i a.0 a.1 in
    let t = there (index + 1) i.next a.0 is n x a.2 e in
    let gap = i.next - (i.pc + 1) in
    (suc (gap + t.0), omega (arith, s.0, s.1, t.1), behind_run gap NO_INSTR (indexes_of (index + 1) is) (gap + t.0) t.0 refl ∙ t.2 ∙ ap (λ (k : ℕ). Some k) (omega arith))

abbrev Back : ℕ → ℕ → List Instr → ℕ → ℕ → Type 0
Back index pc is d j = (j ≡ NO_INSTR) ⊎ ((n : ℕ) × (x : Instr) × (j ≡ index + n) × (slice_get is n ≡ Some x) × (x.pc ≡ pc + d))

back : (index pc : ℕ) (code : List ℕ) (is : List Instr) (d j : ℕ) → BeginsWithAll pc code is [] → slice_get (indexes_of index is) d ≡ Some j → Back index pc is d j
back index pc code [] d j a e = absurd cc
back index pc code (i ∷ is) zero j a e =
    let here : i.pc ≡ pc = a.1.here in
    let same : index ≡ j = same_Some index j e in
    inr (0, i, omega (arith, same), refl, omega (arith, here))
back index pc code (i ∷ is) (suc d) j a e =
    let s = sizes pc code i a.0 a.1 in
    let gap = i.next - (i.pc + 1) in
    let others = indexes_of (index + 1) is in
    elim (cases_lt d gap) [
      | inl lt ↦ inl (sym (same_Some NO_INSTR j (sym (inside_run gap NO_INSTR others d lt) ∙ e)))
      | inr le ↦
          let at : d ≡ gap + (d - gap) = omega (arith, le) in
          further index pc is i d j gap s.0 s.1 at refl (back (index + 1) i.next a.0 is (d - gap) j a.2 (sym (behind_run gap NO_INSTR others d (d - gap) at) ∙ e))
    ]
  where
    further : (index pc : ℕ) (is : List Instr) (i : Instr) (d j gap : ℕ) → i.pc ≡ pc → pc < i.next → d ≡ gap + (d - gap) → gap ≡ i.next - (i.pc + 1) → Back (index + 1) i.next is (d - gap) j → Back index pc (i ∷ is) (suc d) j
    further index pc is i d j gap here after at gap-is (inl none) = inl none
    further index pc is i d j gap here after at gap-is (inr (n, x, k, found, same_pc)) = inr (suc n, x, omega (arith, k), found, omega (arith, here, after, at, gap-is, same_pc))

pub are_indexes : (code : List ℕ) (instrs : List Instr) → length code ≤ NO_INSTR → IsCode code instrs → AreIndexesByPc code instrs (indexes_of 0 instrs)
are_indexes code instrs size is = record {
  covers = covers 0 0 code instrs is;
  few = omega (arith, few 0 code instrs is);
  there = λ index i e. let t = there 0 0 code instrs index i is e in there_at index i t;
  back = λ pc index e. back_at pc index (back 0 0 code instrs pc index is e);
}
  where
    there_at : (index : ℕ) (i : Instr) → ((d : ℕ) × (i.pc ≡ 0 + d) × (slice_get (indexes_of 0 instrs) d ≡ Some (0 + index))) → slice_get (indexes_of 0 instrs) i.pc ≡ Some index
    there_at index i t = ap (slice_get (indexes_of 0 instrs)) (t.1 ∙ zero-add t.0) ∙ t.2 ∙ ap (λ (k : ℕ). Some k) (zero-add index)

    back_at : (pc index : ℕ) → Back 0 0 instrs pc index → (index ≡ NO_INSTR) ⊎ ((i : Instr) × (slice_get instrs index ≡ Some i) × (i.pc ≡ pc))
    back_at pc index (inl none) = inl none
    back_at pc index (inr (n, x, k, found, same_pc)) = inr (x, ap (slice_get instrs) (k ∙ zero-add n) ∙ found, same_pc ∙ zero-add pc)

-- ---- the loop

-- so far: the indexes up to that of the next instruction
pub record IndexesSoFar (code : List ℕ) (instrs : List Instr) (indexes : List ℕ) (index : ℕ) : Type 0 where
  pub rest : List ℕ
  pub begins : BeginsWithAll (length indexes) rest (drop index instrs) []
  pub size : length indexes + length rest ≡ length code
  pub few : index ≤ length indexes
  pub same : indexes ++ indexes_of index (drop index instrs) ≡ indexes_of 0 instrs

pub starts : (code : List ℕ) (instrs : List Instr) → IsCode code instrs → IndexesSoFar code instrs [] 0
starts code instrs is = record { rest = code; begins = is; size = omega arith; few = omega arith; same = refl }

-- an instruction's index is below the code's length
pub room : (code : List ℕ) (instrs : List Instr) (indexes : List ℕ) (index : ℕ) (i : Instr) (others : List Instr) → IndexesSoFar code instrs indexes index → drop index instrs ≡ i ∷ others → (index < length code) × (length indexes < i.next)
room code instrs indexes index i others p e =
    let a = subst (λ (is : List Instr). BeginsWithAll (length indexes) p.rest is []) e p.begins in
    let s = sizes (length indexes) p.rest i a.0 a.1 in
    (omega (arith, p.size, p.few, some_bytes (length indexes) p.rest i a.0 a.1), s.1)

pub goes_on : (code : List ℕ) (instrs : List Instr) (indexes : List ℕ) (index : ℕ) (i : Instr) (new : List ℕ) → IndexesSoFar code instrs indexes index → drop index instrs ≡ i ∷ drop (index + 1) instrs
    → new ≡ take i.next (indexes ++ index ∷ []) ++ replicate (i.next - length (indexes ++ index ∷ [])) NO_INSTR → IndexesSoFar code instrs new (index + 1)
goes_on code instrs indexes index i new p e new-is =
    let others = drop (index + 1) instrs in
    let a = subst (λ (is : List Instr). BeginsWithAll (length indexes) p.rest is []) e p.begins in
    let s = sizes (length indexes) p.rest i a.0 a.1 in
    let longer : length (indexes ++ index ∷ []) ≡ length indexes + 1 = length-append indexes (index ∷ []) in
    let kept : take i.next (indexes ++ index ∷ []) ≡ indexes ++ index ∷ [] = take_all i.next (indexes ++ index ∷ []) (omega (arith, longer, s.1)) in
    let gap : i.next - length (indexes ++ index ∷ []) ≡ i.next - (i.pc + 1) = omega (arith, longer, s.0) in
    let run = replicate (i.next - (i.pc + 1)) NO_INSTR in
    let is : new ≡ (indexes ++ index ∷ []) ++ run = new-is ∙ ap (λ (t : List ℕ). t ++ replicate (i.next - length (indexes ++ index ∷ [])) NO_INSTR) kept ∙ ap (λ (n : ℕ). (indexes ++ index ∷ []) ++ replicate n NO_INSTR) gap in
    let len : length new ≡ i.next = ap length is ∙ omega (arith, length-append (indexes ++ index ∷ []) run, longer, length-replicate (i.next - (i.pc + 1)) NO_INSTR, s.0, s.1) in
    record {
      rest = a.0;
      begins = subst (λ (n : ℕ). BeginsWithAll n a.0 others []) (sym len) a.2;
      size = omega (arith, len, p.size, s.1, s.2);
      few = omega (arith, len, p.few, s.1);
      same = ap (λ (t : List ℕ). t ++ indexes_of (index + 1) others) is ∙ append_assoc (indexes ++ index ∷ []) run (indexes_of (index + 1) others) ∙ append_assoc indexes (index ∷ []) (run ++ indexes_of (index + 1) others) ∙ sym (ap (λ (is : List Instr). indexes ++ indexes_of index is) e) ∙ p.same;
    }

pub ends : (code : List ℕ) (instrs : List Instr) (indexes : List ℕ) (index : ℕ) → length code ≤ NO_INSTR → IsCode code instrs → IndexesSoFar code instrs indexes index → drop index instrs ≡ [] → AreIndexesByPc code instrs indexes
ends code instrs indexes index size is p e =
    let all : indexes ≡ indexes_of 0 instrs = sym (append-nil indexes) ∙ sym (ap (λ (is : List Instr). indexes ++ indexes_of index is) e) ∙ p.same in
    subst (λ (t : List ℕ). AreIndexesByPc code instrs t) (sym all) (are_indexes code instrs size is)

-- The operands of the two switches are read just where they are encoded.
use Rattle.std.proofs.Common.{◌≡◌, ℕ, ℤ, pos, negsuc, ◌<ℤ◌, ◌≤ℤ◌, true, List, [], ◌∷◌, length, Result, Ok, Err, refl, sym, ap, ◌∙◌, arith}
use Rattle.std.specs.Prelude.{FitsSigned, unsigned_abs, int_lt, int_le}
use Rattle.std.specs.Int.{w32}
use Rattle.std.specs.List.{flat_map, AllByRecursion}
use Rattle.std.proofs.lemmas.Int.{ints}
use Rattle.byte_reader.specs.declared.fault.Fault.{Fault}
use Rattle.byte_reader.specs.Reader.{bytes_at, map_value}
use Rattle.byte_reader.proofs.ReaderLaws.{IsReader, bytes_again, bytes_reads, both_reads, verify_reads, Carries, map_value_reads, carried, same_reads, signed16, signed32, AllByState, list_by_reads}
use Rattle.byte_reader.proofs.SequenceLaws.{then_reads, many_reads}
use Rattle.opcodes.specs.declared.error.CodeWhy.{CodeWhy}
use Rattle.opcodes.specs.declared.error.CodeWhy.TheVariants.{Short, Operand}
use Rattle.opcodes.specs.declared.op.Op.TheVariants as ops
use Rattle.opcodes.specs.declared.switch.Match.{Match}
use Rattle.opcodes.specs.Encoding.{offset_to, near_offset, IsNear, far_offset, IsFar, padding_of, Table, table_bytes, count_of, IsTable, table_switch, table_op, match_bytes, IsMatch, AreAbove, AreRising, Lookup, lookup_bytes, IsLookup, lookup_switch, lookup_op}
use Rattle.opcodes.specs.Operands.{target, near_target_at, target_at, table_at, match_with, match_at, next_floor, matches_at, below_all, lookup_at}

-- ---- tests of signed numbers

lt_of : (a b : ℤ) → int_lt a b ≡ true → a <ℤ b
lt_of a b e = grind (arith, ints)

of_lt : (a b : ℤ) → a <ℤ b → int_lt a b ≡ true
of_lt a b h = grind (arith, ints)

le_of : (a b : ℤ) → int_le a b ≡ true → a ≤ℤ b
le_of a b e = grind (arith, ints)

of_le : (a b : ℤ) → a ≤ℤ b → int_le a b ≡ true
of_le a b h = grind (arith, ints)

-- ---- fields

offset_to-target : (pc : ℕ) (offset : ℤ) → offset_to pc (target pc offset) ≡ offset
offset_to-target pc offset = omega (arith, ints)

target-offset_to : (pc : ℕ) (to : ℤ) → target pc (offset_to pc to) ≡ to
target-offset_to pc to = omega (arith, ints)

pub near_reads : (pc : ℕ) → IsReader (near_target_at pc) (near_offset pc) (IsNear pc)
near_reads pc = map_value_reads (carried (target pc) (offset_to pc) (offset_to-target pc) (target-offset_to pc)) (signed16 Short)

pub far_reads : (pc : ℕ) → IsReader (target_at pc) (far_offset pc) (IsFar pc)
far_reads pc = map_value_reads (carried (target pc) (offset_to pc) (offset_to-target pc) (target-offset_to pc)) (signed32 Short)

padding_reads : (n : ℕ) → IsReader (bytes_at Short n) (λ bytes. bytes) (λ bytes. length bytes ≡ n)
padding_reads n = record {
  takes = λ bytes p fits e. let t = (bytes_reads Short n).takes bytes p fits e in (t.0, t.1.0);
  again = λ bytes rest size. bytes_again Short n bytes rest size;
}

-- ---- tableswitch

-- the table has these fields, and the targets that they ask for
abbrev Has : ℕ → List ℕ → ℤ → ℤ → ℤ → Table → Type 0
Has pc padding default low high t = (t.padding ≡ padding) × (t.default ≡ default) × (t.low ≡ low) × (t.high ≡ high) × ((length t.targets ≡ count_of low high) × AllByRecursion (IsFar pc) t.targets)

abbrev table_of : List ℕ → ℤ → ℤ → ℤ → List ℤ → Table
table_of padding default low high targets = record { padding = padding; default = default; low = low; high = high; targets = targets }

table_carries : (pc : ℕ) (padding : List ℕ) (default low high : ℤ)
    → Carries (table_of padding default low high) (flat_map (far_offset pc)) (λ targets. (length targets ≡ count_of low high) × AllByRecursion (IsFar pc) targets) (λ t. flat_map (far_offset pc) t.targets) (Has pc padding default low high)
table_carries pc padding default low high = record {
  to = λ targets h. (refl, (refl, refl, refl, refl, h));
  from = λ t h. (t.targets, λ i. table_of (sym h.0 i) (sym h.1 i) (sym h.2 i) (sym h.3 i) t.targets, h.4);
}

abbrev HighFits : ℤ → ℤ → Type 0
HighFits low high = FitsSigned w32 high × (int_le low high ≡ true)

pub table_reads : (pc : ℕ) → IsReader (table_at pc) (table_bytes pc) (IsTable pc)
unfolding table_at
table_reads pc =
    same_reads (IsTable pc)
    (λ t h. record {
      padding = h.0;
      default = h.1.0;
      low = h.1.1.0;
      high = h.1.1.1.0.0;
      order = le_of t.low t.high h.1.1.1.0.1;
      count = h.1.1.1.1.4.0;
      targets = h.1.1.1.1.4.1;
    })
    (λ t is. (is.padding, (is.default, (is.low, ((is.high, of_le t.low t.high is.order), (refl, refl, refl, refl, (is.count, is.targets)))))))
    (then_reads (λ t. t.padding) (padding_reads (padding_of pc)) (λ padding t fit has. has.1.1.1.0)
    (λ padding fit. then_reads {R = λ default t. FitsSigned w32 t.low × (HighFits t.low t.high × Has pc padding default t.low t.high t)} (λ t. t.default) (far_reads pc) (λ default t fit has. has.1.1.1)
    (λ default fit. then_reads {R = λ low t. HighFits low t.high × Has pc padding default low t.high t} (λ t. t.low) (signed32 Short) (λ low t fit has. has.1.2)
    (λ low fit. then_reads {R = λ high t. Has pc padding default low high t} (λ t. t.high) (verify_reads (int_le low) Operand (signed32 Short)) (λ high t fit has. has.3)
    (λ high fit. map_value_reads (table_carries pc padding default low high) (many_reads (far_reads pc) (count_of low high)))))))

-- ---- lookupswitch

abbrev IsAbove : ℕ → ℤ → Match → Type 0
IsAbove pc floor m = (FitsSigned w32 m.value × (int_lt floor m.value ≡ true)) × IsFar pc m.target

match_reads : (pc : ℕ) (floor : ℤ) → IsReader (match_at pc floor) (match_bytes pc) (IsAbove pc floor)
match_reads pc floor = map_value_reads (carried match_with (λ m. (m.value, m.target)) (λ x. refl) (λ m. refl)) (both_reads (verify_reads (int_lt floor) Operand (signed32 Short)) (far_reads pc))

abbrev AreMatches : ℕ → ℤ → List Match → Type 0
AreMatches pc floor ms = AllByRecursion (IsMatch pc) ms × AreAbove floor ms

matches_of : (pc : ℕ) (floor : ℤ) (ms : List Match) → AllByState (λ floor (more : ℕ). IsAbove pc floor) next_floor floor ms → AreMatches pc floor ms
matches_of pc floor [] h = (tt, tt)
matches_of pc floor (m ∷ ms) h =
    let others = matches_of pc m.value ms h.1 in
    (((h.0.0.0, h.0.1), others.0), (lt_of floor m.value h.0.0.1, others.1))

of_matches : (pc : ℕ) (floor : ℤ) (ms : List Match) → AreMatches pc floor ms → AllByState (λ floor (more : ℕ). IsAbove pc floor) next_floor floor ms
of_matches pc floor [] h = tt
of_matches pc floor (m ∷ ms) h = (((h.0.0.0, of_lt floor m.value h.1.0), h.0.0.1), of_matches pc m.value ms (h.0.1, h.1.1))

matches_reads : (pc : ℕ) (floor : ℤ) (n : ℕ) → IsReader (matches_at pc floor n) (flat_map (match_bytes pc)) (λ ms. (length ms ≡ n) × AreMatches pc floor ms)
matches_reads pc floor n =
    same_reads (λ ms. (length ms ≡ n) × AreMatches pc floor ms) (λ ms h. (h.0, matches_of pc floor ms h.1)) (λ ms h. (h.0, of_matches pc floor ms h.1))
    (list_by_reads {Is = λ floor more. IsAbove pc floor} next_floor (λ floor more. match_reads pc floor) floor n)

-- each int is above the first floor
rising_of : (ms : List Match) → AreAbove below_all ms → AreRising ms
rising_of [] h = tt
rising_of (m ∷ ms) h = h.1

above_all : (n : ℤ) → FitsSigned w32 n → below_all <ℤ n
above_all n fit = omega (arith, ints)

of_rising : (pc : ℕ) (ms : List Match) → AllByRecursion (IsMatch pc) ms → AreRising ms → AreAbove below_all ms
of_rising pc [] fit h = tt
of_rising pc (m ∷ ms) fit h = (above_all m.value fit.0.0, h)

of_natural : (n : ℤ) → pos 0 ≤ℤ n → pos (unsigned_abs n) ≡ n
of_natural (pos n) le = refl
of_natural (negsuc n) le = absurd le.le

-- the operands have these fields, and that many matches
abbrev HasMatches : ℕ → List ℕ → ℤ → ℤ → Lookup → Type 0
HasMatches pc padding default count t = (t.padding ≡ padding) × (t.default ≡ default) × ((length t.matches ≡ unsigned_abs count) × AreMatches pc below_all t.matches)

abbrev lookup_of : List ℕ → ℤ → List Match → Lookup
lookup_of padding default matches = record { padding = padding; default = default; matches = matches }

lookup_carries : (pc : ℕ) (padding : List ℕ) (default count : ℤ)
    → Carries (lookup_of padding default) (flat_map (match_bytes pc)) (λ ms. (length ms ≡ unsigned_abs count) × AreMatches pc below_all ms) (λ t. flat_map (match_bytes pc) t.matches) (HasMatches pc padding default count)
lookup_carries pc padding default count = record {
  to = λ ms h. (refl, (refl, refl, h));
  from = λ t h. (t.matches, λ i. lookup_of (sym h.0 i) (sym h.1 i) t.matches, h.2);
}

abbrev CountFits : ℤ → Type 0
CountFits count = FitsSigned w32 count × (int_le (pos 0) count ≡ true)

count_is : (count : ℤ) (ms : List Match) → CountFits count → length ms ≡ unsigned_abs count → pos (length ms) ≡ count
count_is count ms fit size = ap pos size ∙ of_natural count (le_of (pos 0) count fit.1)

pub lookup_reads : (pc : ℕ) → IsReader (lookup_at pc) (lookup_bytes pc) (IsLookup pc)
unfolding lookup_at
lookup_reads pc =
    same_reads (IsLookup pc)
    (λ t h. record { padding = h.0; default = h.1.0; count = h.1.1.0.0; matches = h.1.1.1.2.1.0; rising = rising_of t.matches h.1.1.1.2.1.1 })
    (λ t is. (is.padding, (is.default, ((is.count, of_le (pos 0) (pos (length t.matches)) (omega (arith, ints))), (refl, refl, (refl, (is.matches, of_rising pc t.matches is.matches is.rising)))))))
    (then_reads (λ t. t.padding) (padding_reads (padding_of pc)) (λ padding t fit has. has.1.1.0)
    (λ padding fit. then_reads {R = λ default t. CountFits (pos (length t.matches)) × HasMatches pc padding default (pos (length t.matches)) t} (λ t. t.default) (far_reads pc) (λ default t fit has. has.1.1)
    (λ default fit. then_reads {R = λ count t. HasMatches pc padding default count t} (λ t. pos (length t.matches)) (verify_reads (int_le (pos 0)) Operand (signed32 Short)) (λ count t fit has. count_is count t.matches fit has.2.0)
    (λ count fit. map_value_reads (lookup_carries pc padding default count) (matches_reads pc below_all (unsigned_abs count))))))

-- ---- as instructions

-- a value that is made in two steps
in_two : {A B C : Type 0} (f : A → B) (g : B → C) (r : Result (A × List ℕ) (Fault CodeWhy)) → map_value (λ x. g (f x)) (λ bytes. r) [] ≡ map_value g (map_value f (λ bytes. r)) []
in_two f g (Ok x) = refl
in_two f g (Err fault) = refl

pub table_boxed : (pc : ℕ) (bytes : List ℕ) → map_value table_op (table_at pc) bytes ≡ map_value ops.TableSwitch (map_value table_switch (table_at pc)) bytes
table_boxed pc bytes = in_two table_switch ops.TableSwitch (table_at pc bytes)

pub lookup_boxed : (pc : ℕ) (bytes : List ℕ) → map_value lookup_op (lookup_at pc) bytes ≡ map_value ops.LookupSwitch (map_value lookup_switch (lookup_at pc)) bytes
lookup_boxed pc bytes = in_two lookup_switch ops.LookupSwitch (lookup_at pc bytes)

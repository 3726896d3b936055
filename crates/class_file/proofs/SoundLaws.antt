-- No item is wrong exactly where there is no first fault.
use Rattle.std.proofs.Common.{◌≡◌, ℕ, ◌-◌, List, [], ◌∷◌, Option, Some, None, refl}
use Rattle.std.specs.List.{AllByRecursion}
use Rattle.class_model.specs.declared.class_file.ClassFile.{ClassFile}
use Rattle.class_grammar.specs.declared.class_why.ClassWhy.{ClassWhy}
use Rattle.class_grammar.specs.Checks.{Item, items, left_after, fault_of, first_fault}
use Rattle.class_grammar.specs.Grammar.{IsSound}

left_after-sound : (left : ℕ) (is : List Item) → AllByRecursion IsSound is → fault_of (left_after left is) ≡ None
left_after-sound left [] h = refl
left_after-sound left (i ∷ is) h = rw h.0 (left_after-sound (left - i.size) is h.1)

first_sound : (left : ℕ) (i : Item) (is : List Item) (fault : Option ClassWhy) → i.fault ≡ fault → fault_of (left_after left (i ∷ is)) ≡ None → (i.fault ≡ None) × (fault_of (left_after (left - i.size) is) ≡ None)
first_sound left i is None e h = (e, rw e at h)
first_sound left i is (Some why) e h = let wrong = rw e at h in absurd cc

all_sound : (left : ℕ) (is : List Item) → fault_of (left_after left is) ≡ None → AllByRecursion IsSound is
all_sound left [] h = tt
all_sound left (i ∷ is) h = let p = first_sound left i is i.fault refl h in (p.0, all_sound (left - i.size) is p.1)

pub first_fault-sound : (size : ℕ) (f : ClassFile) → AllByRecursion IsSound (items f) → first_fault size f ≡ None
unfolding first_fault
first_fault-sound size f h = left_after-sound size (items f) h

pub is_sound : (size : ℕ) (f : ClassFile) → first_fault size f ≡ None → AllByRecursion IsSound (items f)
unfolding first_fault
is_sound size f h = all_sound size (items f) h

-- What the machine throws.
use Rattle.std.proofs.Common.{◌≡◌, ℕ, ◌-◌, Bool, true, false, List, [], ◌∷◌, ◌++◌, length, Option, Some, None, refl, subst}
use Rattle.std.specs.Prelude.{nat_le, nat_lt, slice_get, if◌then◌else◌}
use Rattle.std.proofs.lemmas.Bool.{lt-ltb}
use Rattle.std.proofs.lemmas.List.Quantifiers.{position-Some}
use Rattle.class_grammar.specs.Text.{same_text}
use Rattle.items.proofs.Binds.{some_is}
use Rattle.link_model.specs.World.{World, name_number, array_type}
use Rattle.state_model.specs.Objects.{instance}
use Rattle.ref_model.specs.declared.exception.Exception.{Exception}
use Rattle.ref_model.specs.Members.{new_values}
use Rattle.ref_model.specs.State.{State}
use Rattle.ref_model.specs.Heap.{cells_of_values, with_instance}
use Rattle.ref_model.specs.Memory.{Memory}
use Rattle.ref_model.specs.Throwing.{exception_name, out_of_memory, made_or_first, exception_made, throwing_new, raised}
use Rattle.frame_soundness.specs.Typed.{Thrown}
use Rattle.frame_soundness.specs.StateKinds.{MemoryFits}
use Rattle.frame_soundness.specs.TypedStates.{IsTypedState}
use Rattle.frame_soundness.specs.ThrowLaws.{OfFrames}
use Rattle.frame_soundness.proofs.ObjectLaws.{more_fits, new_fits}
use Rattle.frame_soundness.proofs.ThreadLaws.{memory_keeps, throwing_keeps}

-- a class with a name is no array class
pub name_is_class : (w : World) (name : List ℕ) (class : ℕ) → name_number w name ≡ Some class → array_type w class ≡ None
name_is_class w name class e =
    let h = position-Some (λ other. same_text other name) w.names class [] e in
    by (nat_lt class (length w.names)) (lt-ltb class (length w.names) h.0)
  where
    by : (b : Bool) → b ≡ true → (if b then None else slice_get w.arrays (class - length w.names)) ≡ None
    by true e = refl
    by false e = absurd cc

same_state : (a b : State) → ◌≡◌ {A = Option State} (Some a) (Some b) → a ≡ b
same_state a b e = cc

-- a new exception, or the one of the start
pub exception_fits : (w : World) (r : Memory) (e : Exception) (x : Memory × ℕ) → MemoryFits w r → exception_made w r e ≡ Some x → MemoryFits w x.0
exception_fits w r e x fits made =
    let class = some_is (name_number w (exception_name e)) (λ class. Some (made_or_first r (with_instance r class (new_values w class)))) x made in
    subst (λ (y : Memory × ℕ). MemoryFits w y.0) (same_pair (made_or_first r (with_instance r class.0 (new_values w class.0))) x class.2)
    (by class.0 (name_is_class w (exception_name e) class.0 class.1) (nat_le (cells_of_values (length (new_values w class.0))) r.room))
  where
    same_pair : (a b : Memory × ℕ) → ◌≡◌ {A = Option (Memory × ℕ)} (Some a) (Some b) → a ≡ b
    same_pair a b same = cc

    by : (class : ℕ) → array_type w class ≡ None → (b : Bool) → MemoryFits w (made_or_first r (if b then Some (
      record r {
        heap = r.heap ++ instance class (new_values w class) ∷ [];
        room = r.room - cells_of_values (length (new_values w class));
      },
      length r.heap,
    ) else None)).0
    by class no_array false = fits
    by class no_array true =
        more_fits w r (cells_of_values (length (new_values w class))) (instance class (new_values w class) ∷ []) fits (new_fits w class no_array, tt)

pub raises_keep : (w : World) (r q : State) (t : ℕ) (e : Exception) → IsTypedState w r → OfFrames r t (Thrown w) → raised w r t e ≡ Some q
    → IsTypedState w q
raises_keep w r q t e typed good made =
    let class = some_is (name_number w (exception_name e)) (λ class. Some (throwing_new r t (with_instance r.memory class (new_values w class)))) q made in
    let values = new_values w class.0 in
    subst (IsTypedState w) (same_state (throwing_new r t (with_instance r.memory class.0 values)) q class.2)
    (by class.0 (name_is_class w (exception_name e) class.0 class.1) (nat_le (cells_of_values (length (new_values w class.0))) r.memory.room))
  where
    by : (class : ℕ) → array_type w class ≡ None → (b : Bool) → IsTypedState w (throwing_new r t (if b then Some (
      record r.memory {
        heap = r.memory.heap ++ instance class (new_values w class) ∷ [];
        room = r.memory.room - cells_of_values (length (new_values w class));
      },
      length r.memory.heap,
    ) else None))
    by class no_array false = throwing_keeps w r t out_of_memory typed good
    by class no_array true =
        throwing_keeps w _ t _ (memory_keeps w r _ typed
        (more_fits w r.memory (cells_of_values (length (new_values w class))) (instance class (new_values w class) ∷ []) typed.values
        (new_fits w class no_array, tt))) (λ x at. good x at)

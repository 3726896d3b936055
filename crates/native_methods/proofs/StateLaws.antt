-- What is made and set in the heap, as a change of the whole memory.
use Rattle.std.proofs.Common.{ℕ, Bool, true, false, Option, Some, None, ap}
use Rattle.std.specs.Prelude.{Result, Ok, Err, IfOk}
use Rattle.instruction_rows.specs.declared.value.Value.{Value}
use Rattle.items.specs.declared.no_memory.NoMemory.{NoMemory}
use Rattle.heap_objs.specs.Heap.{Heap}
use Rattle.ref_model.specs.Memory.{Memory}
use Rattle.heap_instructions.specs.HeapReads as heaps
use Rattle.native_methods.specs.NativeStates.{IsMade, IsSet, beside_heap}
use Rattle.native_methods.specs.declared.state.NativeState.{NativeState}

made_in : (make : Memory → Option (Memory × ℕ)) (old : NativeState) (heap : Heap) (found : Option ℕ) →
    heaps.IsMade make old.heap heap found → IsMade make old (record old { heap = heap }) found
made_in make old heap None h = (λ r. h.0 (beside_heap old r), ap (λ (x : Heap). record old { heap = x }) h.1)
made_in make old heap (Some o) h = λ r. h (beside_heap old r)

pub made : (make : Memory → Option (Memory × ℕ)) (old : NativeState) (heap : Heap) (result : Result (Option ℕ) NoMemory) →
    IfOk result (λ found. heaps.IsMade make old.heap heap found) → IfOk result (λ found. IsMade make old (record old { heap = heap }) found)
made make old heap (Ok found) h = made_in make old heap found h
made make old heap (Err e) h = tt

pub set_in : (o place : ℕ) (v : Value) (old : NativeState) (heap : Heap) (done : Bool) → heaps.IsValueSet o place v old.heap heap done →
    IsSet o place v old (record old { heap = heap }) done
set_in o place v old heap true h = λ r. h (beside_heap old r)
set_in o place v old heap false h = (λ r. h.0 (beside_heap old r), ap (λ (x : Heap). record old { heap = x }) h.1)

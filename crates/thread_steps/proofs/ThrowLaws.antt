-- What the machine throws.
use Rattle.std.proofs.Common.{◌≡◌, ℕ, List, Option, Some, None, Result, Ok, Err, ap, refl, subst, sym, ◌∙◌}
use Rattle.std.specs.Prelude.{IfOk, OnOk, unwrap_or}
use Rattle.items.specs.Options.{◌>>=◌}
use Rattle.items.proofs.Binds.{bind_is}
use Rattle.instruction_rows.specs.declared.value.Value.{Value}
use Rattle.heap_objs.specs.Heap.{Heap}
use Rattle.link_model.specs.World.{World, name_number}
use Rattle.vthread_state.specs.declared.phase.Phase.TheVariants.{Throwing}
use Rattle.vthread_state.specs.declared.thread.Status.TheVariants.{Live}
use Rattle.ref_model.specs.declared.exception.Exception.{Exception}
use Rattle.ref_model.specs.Memory.{Memory}
use Rattle.ref_model.specs.State.{State, with_memory}
use Rattle.ref_model.specs.Heap.{with_instance}
use Rattle.ref_model.specs.Members.{new_values}
use Rattle.ref_model.specs.Throwing.{exception_made, exception_name, made_or_first, raised, throwing, throwing_new}
use Rattle.heap_instructions.specs.HeapReads.{IsMade}
use Rattle.thread_steps.specs.declared.parts.Parts.{Parts}
use Rattle.thread_steps.specs.Concluding.{IsExceptionMade, Raises, ThrowsAgain}
use Rattle.thread_steps.specs.States.{memory_of, state_of}
use Rattle.thread_steps.proofs.StageLaws.{own_status}

-- what holds on success leads to another fact
pub on_ok : {A E : Type 0} {X Y : Type 0} (r : Result A E) → OnOk r X → (X → Y) → OnOk r Y
on_ok (Ok x) is f = f is
on_ok (Err e) is f = tt

-- the same of what holds of the value
pub if_ok : {A E : Type 0} (P Q : A → Type 0) (r : Result A E) → IfOk r P → ((x : A) → P x → Q x) → IfOk r Q
if_ok P Q (Ok x) is f = f x is
if_ok P Q (Err e) is f = tt

-- a new object was made, or the one of the start is taken
pub exception_is : (w : World) (old new : Heap) (e : Exception) (class : ℕ) (values : List Value) (found : Option ℕ) → name_number w (exception_name e) ≡ Some class → values ≡ new_values w class
    → IsMade (λ (r : Memory). with_instance r class values) old new found → IsExceptionMade w e old new (unwrap_or found 0)
exception_is w old new e class values found named same made a is =
    let after : Option (Memory × ℕ) = Some (memory_of (record a { natives = record a.natives { heap = new } }), unwrap_or found 0) in
    bind_is (name_number w (exception_name e)) (λ c. Some (made_or_first (memory_of a) (with_instance (memory_of a) c (new_values w c)))) class after named
    (ap (λ (v : List Value). Some (made_or_first (memory_of a) (with_instance (memory_of a) class v))) (sym same) ∙ by found (subst (λ (h : Heap). IsMade (λ (r : Memory). with_instance r class values) h new found) (sym is) made))
  where
    by : (found : Option ℕ) → IsMade (λ (r : Memory). with_instance r class values) a.natives.heap new found
        → Some (made_or_first (memory_of a) (with_instance (memory_of a) class values)) ≡ Some (memory_of (record a { natives = record a.natives { heap = new } }), unwrap_or found 0)
    by (Some o) made = ap (λ x. Some (made_or_first (memory_of a) x)) (made (memory_of a))
    by None made = ap (λ x. Some (made_or_first (memory_of a) x)) (made.0 (memory_of a)) ∙ ap (λ (g : Heap). Some (memory_of (record a { natives = record a.natives { heap = g } }), 0)) (sym made.1)

-- the parts that throw an object, in a heap
abbrev pub thrown : Parts → Heap → ℕ → Parts
thrown a h o = record a { natives = record a.natives { heap = h }; status = Live (Throwing o) }

-- what is thrown is the object that was made
raised_so : (w : World) (r : State) (t : ℕ) (e : Exception) → raised w r t e ≡ (exception_made w r.memory e >>= λ x. Some (throwing (with_memory r x.0) t x.1))
raised_so w r t e = by (name_number w (exception_name e))
  where
    at : (class : ℕ) (made : Option (Memory × ℕ)) → Some (throwing_new r t made) ≡ (Some (made_or_first r.memory made) >>= λ x. Some (throwing (with_memory r x.0) t x.1))
    at class None = refl
    at class (Some x) = refl

    by : (named : Option ℕ) → (named >>= λ class. Some (throwing_new r t (with_instance r.memory class (new_values w class))))
        ≡ ((named >>= λ class. Some (made_or_first r.memory (with_instance r.memory class (new_values w class)))) >>= λ x. Some (throwing (with_memory r x.0) t x.1))
    by None = refl
    by (Some class) = at class (with_instance r.memory class (new_values w class))

pub raised_is : (w : World) (a : Parts) (h : Heap) (e : Exception) (o : ℕ) → IsExceptionMade w e a.natives.heap h o → Raises w e a (thrown a h o)
raised_is w a h e o made stage frames =
    let r : State = state_of stage a frames in
    let b : Parts = record a { natives = record a.natives { heap = h } } in
    raised_so w r stage.number e
    ∙ ap (λ (x : Option (Memory × ℕ)). x >>= λ x. Some (throwing (with_memory r x.0) stage.number x.1)) (made a refl)
    ∙ ap (λ (q : State). Some q) (own_status stage b frames (Live (Throwing o)))

-- an object that there is already
pub thrown_again : (a : Parts) (o : ℕ) → ThrowsAgain o a (record a { status = Live (Throwing o) })
thrown_again a o stage frames = own_status stage a frames (Live (Throwing o))

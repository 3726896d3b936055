-- What is made for a new thread, in a state of the reference machine.
use Rattle.std.proofs.Common.{◌≡◌, ℕ, ◌+◌, ℤ, pos, Bool, true, ◌++◌, Option, Some, None, refl, ap, sym, subst, ◌∙◌}
use Rattle.std.specs.Prelude.{codes, is_some, slice_get, if◌then◌else◌}
use Rattle.items.specs.Options.{◌>>=◌}
use Rattle.items.proofs.Binds.{bind_is}
use Rattle.instruction_rows.specs.declared.value.Value.TheVariants as values
use Rattle.vthread_state.specs.declared.thread.Thread.{Thread}
use Rattle.vthread_state.specs.declared.thread.ThreadKind.{ThreadKind}
use Rattle.vthread_state.specs.declared.thread.ThreadKind.TheVariants.{Platform, Virtual}
use Rattle.link_model.specs.World.{World}
use Rattle.ref_model.specs.Asking.{Asking}
use Rattle.ref_model.specs.Heap.{with_text, with_value}
use Rattle.ref_model.specs.Texts.{decimal_text}
use Rattle.ref_model.specs.Memory.{Memory}
use Rattle.ref_model.specs.Starting.{created, first_daemon, first_name, made_or_thrown, may_create, name_made, unnamed_after}
use Rattle.ref_model.specs.State.{JavaThread, State}
use Rattle.ref_model.specs.ThreadNatives.{with_number}
use Rattle.heap_objs.specs.Heap.{Heap}
use Rattle.heap_instructions.specs.HeapReads.{IsValueSet}
use Rattle.heap_instructions.specs.Outcomes.{with_heap}
use Rattle.native_methods.specs.NativeStates.{thread_in}
use Rattle.thread_calls.specs.Creating.{IsNameMade, daemon_of, first_name_of, unnamed_with}

-- ---- the number of its thread in a Thread object

some_goes : (o : Option ℕ) (k : Option Memory) → is_some o ≡ true → (o >>= λ x. k) ≡ k
some_goes None k e = absurd cc
some_goes (Some x) k e = refl

pub number_is_set : (old new : Heap) (object number : ℕ) (n : ℤ) (set : Bool) (m : Memory) → is_some (thread_in old.objects object) ≡ true → n ≡ pos number → set ≡ true
    → IsValueSet object 1 (values.Int n) old new set → with_number (with_heap old m) object number ≡ Some (with_heap new m)
number_is_set old new object number n set m there same done is =
    some_goes (thread_in old.objects object) (with_value (with_heap old m) object 1 (values.Int (pos number))) there
    ∙ ap (λ k. with_value (with_heap old m) object 1 (values.Int k)) (sym same)
    ∙ subst (IsValueSet object 1 (values.Int n) old new) done is m

-- ---- the name

name_is : (kind : ThreadKind) (r : State) (unnamed : ℕ) → unnamed ≡ r.unnamed → first_name_of kind unnamed ≡ first_name kind r
name_is Platform r unnamed same = ap (λ n. codes "Thread-" ++ decimal_text (pos n)) same
name_is Virtual r unnamed same = refl

pub unnamed_is : (kind : ThreadKind) (name : Option ℕ) (r : State) (unnamed : ℕ) → unnamed ≡ r.unnamed → unnamed_with kind name unnamed ≡ unnamed_after kind name r
unnamed_is Platform None r unnamed same = ap (λ n. n + 1) same
unnamed_is Platform (Some name) r unnamed same = same
unnamed_is Virtual name r unnamed same = same

-- the memory with the name
pub name_in : (kind : ThreadKind) (name : Option ℕ) (r : State) (m : Memory) (unnamed : ℕ) (old new : Heap) (o : ℕ) → unnamed ≡ r.unnamed → with_heap old m ≡ r.memory
    → IsNameMade kind name unnamed old new (Some o) → name_made kind r name ≡ Some (with_heap new m, o)
name_in kind (Some name) r m unnamed old new o count here (same, given) =
    let one : name ≡ o = cc in
    let there : r.memory ≡ with_heap new m = sym here ∙ ap (λ (h : Heap). with_heap h m) (sym same) in
    λ i. Some (there i, one i)
name_in kind None r m unnamed old new o count here made =
    ap (with_text r.memory) (sym (name_is kind r unnamed count)) ∙ ap (λ q. with_text q (first_name_of kind unnamed)) (sym here) ∙ made m

-- there is no room for it
pub name_none : (kind : ThreadKind) (name : Option ℕ) (r : State) (m : Memory) (unnamed : ℕ) (old new : Heap) → unnamed ≡ r.unnamed → with_heap old m ≡ r.memory
    → IsNameMade kind name unnamed old new None → (name_made kind r name ≡ None) × (new ≡ old)
name_none kind (Some name) r m unnamed old new count here (same, given) = absurd cc
name_none kind None r m unnamed old new count here made =
    (ap (with_text r.memory) (sym (name_is kind r unnamed count)) ∙ ap (λ q. with_text q (first_name_of kind unnamed)) (sym here) ∙ made.0 m, made.1)

-- ---- the thread

pub daemon_is : (kind : ThreadKind) (x : JavaThread) (row : Thread) → x.thread ≡ row → daemon_of kind row.daemon ≡ first_daemon kind x
daemon_is Platform x row same = ap (λ (z : Thread). z.daemon) (sym same)
daemon_is Virtual x row same = refl

pub created_is : (w : World) (kind : ThreadKind) (object : ℕ) (name : Option ℕ) (t : ℕ) (r : State) (k : Asking) (x : JavaThread) (o : Option (Memory × ℕ)) → may_create r ≡ true
    → slice_get r.threads t ≡ Some x → name_made kind r name ≡ o → created w r t k kind object name ≡ made_or_thrown w r t k kind object name x o
created_is w kind object name t r k x o room at made =
    ap (λ b. if b then (slice_get r.threads t >>= λ creator. made_or_thrown w r t k kind object name creator (name_made kind r name)) else None) room
    ∙ bind_is (slice_get r.threads t) (λ creator. made_or_thrown w r t k kind object name creator (name_made kind r name)) x (made_or_thrown w r t k kind object name x o) at
    (ap (made_or_thrown w r t k kind object name x) made)

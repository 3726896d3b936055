-- A thread is made.
use Rattle.std.proofs.Common.{◌≡◌, ℕ, zero, suc, true, List, [], ◌∷◌, ◌++◌, length, Option, Some, None, refl, ap, sym, ◌∙◌}
use Rattle.std.specs.Prelude.{slice_get}
use Rattle.std.specs.Option.{option_map}
use Rattle.items.proofs.Binds.{bind_is}
use Rattle.vthread_state.specs.declared.thread.ThreadKind.{ThreadKind}
use Rattle.link_model.specs.World.{World}
use Rattle.ref_model.specs.declared.exception.Exception.TheVariants as exceptions
use Rattle.ref_model.specs.Asking.{goes}
use Rattle.ref_model.specs.Memory.{Memory}
use Rattle.ref_model.specs.Starting.{first_daemon, made_thread, may_create, unnamed_after, with_new_thread}
use Rattle.ref_model.specs.State.{JavaThread, State}
use Rattle.ref_model.specs.ThreadNatives.{with_number}
use Rattle.ref_model.specs.Throwing.{raised}
use Rattle.ref_model.specs.declared.request.ThreadRequest.TheVariants as requests
use Rattle.heap_objs.specs.Heap.{Heap}
use Rattle.heap_instructions.specs.Outcomes.{with_heap}
use Rattle.thread_calls.specs.Creating.{IsNameMade, daemon_of, unnamed_with}
use Rattle.thread_calls.proofs.CreateLaws.{created_is, daemon_is, name_in, name_none, unnamed_is}
use Rattle.ref_run.specs.declared.reply.Reply.TheVariants as replies
use Rattle.ref_run.specs.Replies.{IsAnswered}

-- the heap is that of the memory
pub record HasHeap (h : Heap) (m : Memory) : Type 0 where
  pub is : with_heap h m ≡ m

pub nothing_created : (w : World) (kind : ThreadKind) (object : ℕ) (name : Option ℕ) (t : ℕ) (r : State) (x : JavaThread) (old new : Heap) → may_create r ≡ true
    → slice_get r.threads t ≡ Some x → HasHeap old r.memory → IsNameMade kind name r.unnamed old new None
    → IsAnswered w (requests.Creates kind object name) t r (replies.Throws exceptions.OutOfMemoryError) (record r { memory = with_heap new r.memory })
nothing_created w kind object name t r x old new room at has made =
    let none = name_none kind name r r.memory r.unnamed old new refl has.is made in
    let same : with_heap new r.memory ≡ r.memory = ap (λ (h : Heap). with_heap h r.memory) none.1 ∙ has.is in
    record {
      same = λ a. created_is w kind object name t r a x None room at none.0 ∙ ap (λ m. raised w (record r { memory = m }) t exceptions.OutOfMemoryError) (sym same);
      frames = refl;
    }

more_there : {A : Type 0} (xs : List A) (x : A) (t : ℕ) (y : A) → slice_get xs t ≡ Some y → slice_get (xs ++ x ∷ []) t ≡ slice_get xs t
more_there [] x t y e = absurd cc
more_there (z ∷ xs) x zero y e = refl
more_there (z ∷ xs) x (suc t) y e = more_there xs x t y e

pub thread_created : (w : World) (kind : ThreadKind) (object string : ℕ) (name : Option ℕ) (t : ℕ) (r : State) (x : JavaThread) (old named numbered : Heap) → may_create r ≡ true
    → slice_get r.threads t ≡ Some x → HasHeap old r.memory → IsNameMade kind name r.unnamed old named (Some string)
    → ((m : Memory) → with_number (with_heap named m) object (length r.threads) ≡ Some (with_heap numbered m))
    → IsAnswered w (requests.Creates kind object name) t r replies.Goes
    (with_new_thread r (with_heap numbered r.memory) (unnamed_with kind name r.unnamed) (made_thread kind (daemon_of kind x.thread.daemon) object string))
thread_created w kind object string name t r x old named numbered room at has made number =
    let memory : Memory = with_heap numbered r.memory in
    let y : JavaThread = made_thread kind (daemon_of kind x.thread.daemon) object string in
    let next : State = with_new_thread r memory (unnamed_with kind name r.unnamed) y in
    record {
      same = λ a. created_is w kind object name t r a x (Some (with_heap named r.memory, string)) room at (name_in kind name r r.memory r.unnamed old named string refl has.is made)
          ∙ bind_is (with_number (with_heap named r.memory) object (length r.threads))
          (λ m. goes (with_new_thread r m (unnamed_after kind name r) (made_thread kind (first_daemon kind x) object string)) t a) memory (goes next t a)
          (number r.memory)
          (λ i. goes (with_new_thread r memory (sym (unnamed_is kind name r r.unnamed refl) i) (made_thread kind (sym (daemon_is kind x x.thread refl) i) object string)) t a);
      frames = ap (λ o. option_map (λ (z : JavaThread). z.frames) o) (more_there r.threads y t x at);
    }

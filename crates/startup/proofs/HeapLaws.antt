-- Objects that are made one after the other.
use Rattle.std.proofs.Common.{◌≡◌, ℕ, ◌+◌, List, [], ◌∷◌, ap, ◌∙◌, sym, append_assoc, arith}
use Rattle.std.specs.Prelude.{map}
use Rattle.std.specs.List.{range_with_len}
use Rattle.std.proofs.lemmas.List.FromFn.{map-range_with_len_more}
use Rattle.state_model.specs.Objects.{Object}
use Rattle.heap_objs.specs.Heap.{Heap, with_object}
use Rattle.ref_model.specs.Opening.{thread_state}
use Rattle.startup.specs.FirstObjects.{with_objects}

-- one more state of a thread
pub next_state : (h k : Heap) (class n : ℕ) → k ≡ with_objects (map (thread_state class) (range_with_len 0 n)) h
    → with_object (thread_state class n) k ≡ with_objects (map (thread_state class) (range_with_len 0 (n + 1))) h
next_state h k class n e =
    let states = map (thread_state class) (range_with_len 0 n) in
    ap (with_object (thread_state class n)) e
    ∙ ap (λ (os : List Object). record h { objects = os }) (append_assoc h.objects states (thread_state class n ∷ []))
    ∙ ap (λ (os : List Object). with_objects os h) (sym (map-range_with_len_more (thread_state class) 0 n n (omega arith)))

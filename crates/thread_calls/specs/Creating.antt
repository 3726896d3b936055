-- A thread that is made.
use Rattle.std.specs.Prelude.{◌≡◌, ◌+◌, ◌++◌, [], ℕ, pos, Bool, true, List, Option, Some, None, codes}
use Rattle.vthread_state.specs.declared.thread.ThreadKind.{ThreadKind}
use Rattle.vthread_state.specs.declared.thread.ThreadKind.TheVariants.{Platform, Virtual}
use Rattle.ref_model.specs.Heap.{with_text}
use Rattle.ref_model.specs.Texts.{decimal_text}
use Rattle.heap_objs.specs.Heap.{Heap}
use Rattle.heap_instructions.specs.HeapReads.{IsMade}

-- whether it is a daemon, where the thread that makes it is one or not
abbrev pub daemon_of : ThreadKind → Bool → Bool
daemon_of Platform creator = creator
daemon_of Virtual creator = true

-- its name where it is made without one, by the number of those before it
abbrev pub first_name_of : ThreadKind → ℕ → List ℕ
first_name_of Platform unnamed = codes "Thread-" ++ decimal_text (pos unnamed)
first_name_of Virtual unnamed = []

-- how many platform threads without a name there are then
abbrev pub unnamed_with : ThreadKind → Option ℕ → ℕ → ℕ
unnamed_with Platform None unnamed = unnamed + 1
unnamed_with kind name unnamed = unnamed

-- the String of its name: the one that it is given, or a new one, where there is room for it
abbrev pub IsNameMade : ThreadKind → Option ℕ → ℕ → Heap → Heap → Option ℕ → Type 0
IsNameMade kind (Some name) unnamed old new made = (new ≡ old) × (made ≡ Some name)
IsNameMade kind None unnamed old new made = IsMade (λ r. with_text r (first_name_of kind unnamed)) old new made

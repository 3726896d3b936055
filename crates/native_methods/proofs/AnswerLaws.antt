-- Answers and outcomes of equal definitions, and what stays where an exception was thrown or something is asked.
use Rattle.std.proofs.Common.{ℕ, ◌≡◌, List, [], Option, Some, None, ap, refl, subst, sym, ◌∙◌}
use Rattle.std.specs.Prelude.{Result, Ok, Err, IfOk}
use Rattle.items.specs.declared.no_memory.NoMemory.{NoMemory}
use Rattle.continuation.specs.Continuation.{Continuation}
use Rattle.heap_instructions.specs.declared.outcome.Outcome.{Outcome}
use Rattle.heap_instructions.specs.declared.outcome.Outcome.TheVariants as outcomes
use Rattle.ref_model.specs.Memory.{Memory}
use Rattle.ref_model.specs.Heap.{units_at}
use Rattle.ref_model.specs.NativeRows as rows
use Rattle.ref_model.specs.NativeRows.{on_text_or, on_units}
use Rattle.native_methods.specs.NativeStates.{Answers, IsAnswer, IsAnswered, KeptIfThrownOrAsked, StaysIfThrownOrAsked, with_natives}
use Rattle.native_methods.specs.declared.answer.Answer.{Answer}
use Rattle.native_methods.specs.declared.answer.Answer.TheVariants as answers
use Rattle.native_methods.specs.declared.state.NativeState.{NativeState}

pub answers_along : (f g : Memory → Option rows.Answer) (old new : NativeState) (result : Result Answer NoMemory) →
    ((r : Memory) → f (with_natives old r) ≡ g (with_natives old r)) → IfOk result (λ a. Answers f old new a) → IfOk result (λ a. Answers g old new a)
answers_along f g old new (Err e) same h = tt
answers_along f g old new (Ok a) same h = λ r.
    let P : Option rows.Answer → Type 0 = λ x. IsAnswer a x (with_natives new r) in
    subst P (same r) (h r)

-- what is done with the units of a String
pub on_string : (otherwise : List ℕ) (q : Memory) (text : Option ℕ) (o : ℕ) (units : List ℕ) (act : List ℕ → rows.Answer) →
    text ≡ Some o → Some units ≡ units_at q o → Some (act units) ≡ Some (on_text_or otherwise q text act)
on_string otherwise q text o units act is found =
    ap (λ (x : Option (List ℕ)). Some (on_units x act)) found ∙ ap (λ (t : Option ℕ). Some (on_text_or otherwise q t act)) (sym is)

abbrev pub any_memory : Memory
any_memory = record { heap = []; room = 0; statics = []; out = []; err = []; exited = None }

-- ---- exceptions and requests

pub stays : (count : ℕ) (answer : Answer) (m n : Continuation) (outcome : Outcome) (old new : NativeState) → IsAnswered count answer m n outcome →
    KeptIfThrownOrAsked answer old new → StaysIfThrownOrAsked outcome old new
stays count answer m n outcomes.Done old new h kept = tt
stays count answer m n outcomes.Undefined old new h kept = tt
stays count (answers.Throws e) m n (outcomes.Throws f) old new h kept = kept
stays count (answers.Throws e) m n (outcomes.ThrowsObject o) old new h kept = kept
stays count (answers.Throws e) m n (outcomes.Asks asked slots) old new h kept = kept
stays count (answers.Asks asked) m n (outcomes.Throws f) old new h kept = kept
stays count (answers.Asks asked) m n (outcomes.ThrowsObject o) old new h kept = kept
stays count (answers.Asks asked) m n (outcomes.Asks other slots) old new h kept = kept
stays count answers.Returns m n (outcomes.Throws f) old new h kept = absurd (let e = h any_memory _ refl in cc)
stays count answers.Returns m n (outcomes.ThrowsObject o) old new h kept = absurd (let e = h any_memory _ refl in cc)
stays count answers.Returns m n (outcomes.Asks asked slots) old new h kept = absurd (let e = (h any_memory _ refl).0 in cc)
stays count (answers.Gives v) m n (outcomes.Throws f) old new h kept = absurd (let e = h any_memory _ refl in cc)
stays count (answers.Gives v) m n (outcomes.ThrowsObject o) old new h kept = absurd (let e = h any_memory _ refl in cc)
stays count (answers.Gives v) m n (outcomes.Asks asked slots) old new h kept = absurd (let e = (h any_memory _ refl).0 in cc)
stays count answers.Undefined m n (outcomes.Throws f) old new h kept = absurd (let e = h any_memory None (λ room. refl) in cc)
stays count answers.Undefined m n (outcomes.ThrowsObject o) old new h kept = absurd (let e = h any_memory None (λ room. refl) in cc)
stays count answers.Undefined m n (outcomes.Asks asked slots) old new h kept = absurd (let e = (h any_memory None (λ room. refl)).0 in cc)

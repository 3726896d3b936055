-- A history that goes on.
use Rattle.std.proofs.Common.{◌≡◌, List, [], ◌∷◌, ◌++◌, Option, Some, refl}
use Rattle.history.specs.declared.entry.Entry.{Entry}
use Rattle.items.specs.Options.{◌>>=◌}
use Rattle.items.proofs.Binds.{some_is, bind_is}
use Rattle.ref_model.specs.Setting.{Setting}
use Rattle.ref_model.specs.State.{State}
use Rattle.ref_model.specs.Opening.{opening}
use Rattle.ref_model.specs.Run.{Outcome, outcome_after, replay, first_outcome, run}

replay_front : (p : Setting) (front back : List Entry) (o x : Outcome) → replay p (front ++ back) o ≡ Some x
    → (v : Outcome) × (replay p front o ≡ Some v)
replay_front p [] back o x e = (o, refl)
replay_front p (a ∷ front) back o x e =
    let first = some_is (outcome_after p o a.what) (λ next. replay p (front ++ back) next) x e in
    let rest = replay_front p front back first.0 x first.2 in
    (rest.0, bind_is (outcome_after p o a.what) (λ next. replay p front next) first.0 (Some rest.0) first.1 rest.1)

-- a history that runs has run up to each of its entries
pub run_front : (p : Setting) (front back : List Entry) (r : State) → run p (front ++ back) ≡ Some r → (q : State) × (run p front ≡ Some q)
run_front p front back r e =
    let first = some_is (opening p) (λ s. replay p (front ++ back) (first_outcome s) >>= λ o. Some o.state) r e in
    let second = some_is (replay p (front ++ back) (first_outcome first.0)) (λ o. Some o.state) r first.2 in
    let third = replay_front p front back (first_outcome first.0) second.0 second.1 in
    let state : Option State = Some third.0.state in
    let ended : (replay p front (first_outcome first.0) >>= λ o. Some o.state) ≡ state =
    bind_is (replay p front (first_outcome first.0)) (λ o. Some o.state) third.0 state third.1 refl in
    (third.0.state, bind_is (opening p) (λ s. replay p front (first_outcome s) >>= λ o. Some o.state) first.0 state first.1 ended)

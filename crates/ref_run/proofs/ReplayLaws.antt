-- A history that goes on entry by entry, and its steps.
use Rattle.std.proofs.Common.{◌≡◌, ◌<◌, ◌≤◌, ◌+◌, ◌-◌, ℕ, zero, suc, List, [], ◌∷◌, ◌++◌, length, take, get_or, Option, Some, None, Err, refl, ap, sym, ◌∙◌, arith}
use Rattle.std.specs.Prelude.{slice_get}
use Rattle.std.proofs.lemmas.List.Elements.{filter-append}
use Rattle.items.specs.Options.{◌>>=◌}
use Rattle.items.proofs.Binds.{bind_is, some_is}
use Rattle.history.specs.declared.entry.Entry.{Entry}
use Rattle.history.specs.declared.entry.What.{What}
use Rattle.history.specs.declared.entry.What.TheVariants.{Mount, Unmount, Step, Clock}
use Rattle.history.specs.Java.{is_java, java}
use Rattle.link_model.specs.World.{World}
use Rattle.ref_model.specs.Opening.{opening}
use Rattle.ref_model.specs.Run.{Outcome, after_steps, first_outcome, outcome_after, replay, run, steps}
use Rattle.ref_model.specs.Setting.{Setting}
use Rattle.ref_model.specs.State.{State}
use Rattle.ref_model.specs.Step.{step}
use Rattle.ref_model.specs.Waiting.{at_time}
use Rattle.ref_run.specs.declared.fault.Fault.{Fault}
use Rattle.ref_run.specs.declared.fault.Fault.TheVariants as faults
use Rattle.ref_run.specs.declared.replaying.ReplayError.{ReplayError}
use Rattle.ref_run.specs.declared.replaying.ReplayError.TheVariants as errors
use Rattle.ref_run.specs.declared.state.RefState.{RefState}
use Rattle.ref_run.specs.GoingOn.{Comes}
use Rattle.ref_run.specs.Replays.{IsReplayed, IsRunOf, StopsAt, stopped_at}
use Rattle.ref_run.specs.Steps.{entry_after, made_entry, made_steps, stepped}

-- ---- steps

pub step_is : (p : Setting) (r : State) (t : ℕ) (pick : Option ℕ) → step p r t pick ≡ stepped p.world r t pick
step_is p r t None = refl
step_is p r t (Some u) = refl

pub steps_are : (p : Setting) (r : State) (t n : ℕ) → steps p n r t ≡ made_steps p.world n r t
steps_are p r t zero = refl
steps_are p r t (suc n) = ap (λ o. o >>= λ q. step p q t None) (steps_are p r t n)

entry_is : (p : Setting) (r : State) (t n : ℕ) (pick : Option ℕ) → after_steps p r t n pick ≡ made_entry p.world r t n pick
entry_is p r t zero pick = refl
entry_is p r t (suc n) None = ap (λ o. o >>= λ q. step p q t None) (steps_are p r t n)
entry_is p r t (suc n) (Some u) = ap (λ o. o >>= λ q. step p q t (Some u)) (steps_are p r t n)

-- so many more steps
pub made_more : (w : World) (r q : State) (t j k : ℕ) → made_steps w j r t ≡ Some q → made_steps w (k + j) r t ≡ made_steps w k q t
made_more w r q t j zero e = let same : 0 + j ≡ j = omega arith in ap (λ n. made_steps w n r t) same ∙ e
made_more w r q t j (suc k) e =
    let same : suc k + j ≡ suc (k + j) = omega arith in
    ap (λ n. made_steps w n r t) same ∙ ap (λ o. o >>= λ s. stepped w s t None) (made_more w r q t j k e)

none_more : (w : World) (r : State) (t m k : ℕ) → made_steps w m r t ≡ None → made_steps w (k + m) r t ≡ None
none_more w r t m zero e = let same : 0 + m ≡ m = omega arith in ap (λ n. made_steps w n r t) same ∙ e
none_more w r t m (suc k) e =
    let same : suc k + m ≡ suc (k + m) = omega arith in
    ap (λ n. made_steps w n r t) same ∙ ap (λ o. o >>= λ s. stepped w s t None) (none_more w r t m k e)

-- where the next step isn't defined, none of more steps is
pub none_made : (w : World) (r q : State) (t j n : ℕ) → made_steps w j r t ≡ Some q → stepped w q t None ≡ None → j < n → made_steps w n r t ≡ None
none_made w r q t j n made stops within =
    let all : (n - suc j) + suc j ≡ n = omega arith in
    ap (λ k. made_steps w k r t) (sym all)
    ∙ none_more w r t (suc j) (n - suc j) (bind_is (made_steps w j r t) (λ s. stepped w s t None) q None made stops)

-- ---- entries

-- the state after these entries, from one on
abbrev from_state : Setting → List Entry → State → Option State
from_state p es r = replay p es (first_outcome r) >>= λ o. Some o.state

then_same : (o : Option State) → (((o >>= λ s. Some (first_outcome s)) >>= λ next. Some next) >>= λ v. Some v.state) ≡ o
then_same None = refl
then_same (Some s) = refl

one_entry : (p : Setting) (r : State) (carrier : ℕ) (what : What) → from_state p (java (record { carrier = carrier; what = what } ∷ [])) r ≡ entry_after p.world r what
one_entry p r carrier (Mount t) = refl
one_entry p r carrier (Unmount t) = refl
one_entry p r carrier (Step t n pick) = then_same (after_steps p r t n pick) ∙ entry_is p r t n pick
one_entry p r carrier (Clock now) = then_same (at_time r now)

replay_more : (p : Setting) (xs ys : List Entry) (o v : Outcome) → replay p xs o ≡ Some v → replay p (xs ++ ys) o ≡ replay p ys v
replay_more p [] ys o v e = let same : o ≡ v = cc in ap (replay p ys) same
replay_more p (x ∷ xs) ys o v e =
    let first = some_is (outcome_after p o x.what) (λ next. replay p xs next) v e in
    bind_is (outcome_after p o x.what) (λ next. replay p (xs ++ ys) next) first.0 (replay p ys v) first.1 (replay_more p xs ys first.0 v first.2)

same_outcome : (o : Outcome) (r : State) → ◌≡◌ {A = Option State} (Some o.state) (Some r) → o ≡ first_outcome r
same_outcome o r e = let same : o.state ≡ r = cc in ap first_outcome same

run_more : (p : Setting) (xs ys : List Entry) (r : State) → run p xs ≡ Some r → run p (xs ++ ys) ≡ from_state p ys r
run_more p xs ys r e =
    let first = some_is (opening p) (λ s. replay p xs (first_outcome s) >>= λ o. Some o.state) r e in
    let second = some_is (replay p xs (first_outcome first.0)) (λ o. Some o.state) r first.2 in
    bind_is (opening p) (λ s. replay p (xs ++ ys) (first_outcome s) >>= λ o. Some o.state) first.0 (from_state p ys r) first.1
    (ap (λ k. k >>= λ o. Some o.state) (replay_more p xs ys (first_outcome first.0) second.0 second.1 ∙ ap (replay p ys) (same_outcome second.0 r second.2)))

take_next : {A : Type 0} (xs : List A) (i : ℕ) (x : A) → slice_get xs i ≡ Some x → take (suc i) xs ≡ take i xs ++ x ∷ []
take_next [] i x e = absurd cc
take_next (y ∷ xs) zero x e = let same : y ≡ x = cc in ap (λ z. z ∷ []) same
take_next (y ∷ xs) (suc i) x e = ap (λ ys. y ∷ ys) (take_next xs i x e)

-- the entry at an index makes of the state what it makes
pub run_next : (p : Setting) (list : List Entry) (i : ℕ) (e : Entry) (r : State) → slice_get list i ≡ Some e → run p (java (take i list)) ≡ Some r
    → run p (java (take (suc i) list)) ≡ entry_after p.world r e.what
run_next p list i e r at before =
    ap (λ es. run p (java es)) (take_next list i e at)
    ∙ ap (run p) (filter-append (λ (x : Entry). is_java x.what) (take i list) (e ∷ []))
    ∙ run_more p (java (take i list)) (java (e ∷ [])) r before
    ∙ one_entry p r e.carrier e.what

-- ---- the loop over the entries

pub replay_begins : (p : Setting) (list : List Entry) (first : State) → opening p ≡ Some first → run p (java (take 0 list)) ≡ Some first
replay_begins p list first begins = bind_is (opening p) (λ s. replay p [] (first_outcome s) >>= λ o. Some o.state) first (Some first) begins refl

get_there : {A : Type 0} (xs : List A) (i : ℕ) (d : A) → i < length xs → slice_get xs i ≡ Some (get_or xs i d)
get_there [] i d within = absurd (omega arith)
get_there (x ∷ xs) zero d within = refl
get_there (x ∷ xs) (suc i) d within = get_there xs i d (omega arith)

pub replay_goes : (p : Setting) (w : World) (list : List Entry) (i : ℕ) (d : Entry) (r s : State) → p.world ≡ w → i < length list
    → run p (java (take i list)) ≡ Some r → entry_after w r (get_or list i d).what ≡ Some s → run p (java (take (i + 1) list)) ≡ Some s
replay_goes p w list i d r s world within before made =
    let next : i + 1 ≡ suc i = omega arith in
    let e : Entry = get_or list i d in
    ap (λ n. run p (java (take n list))) next ∙ run_next p list i e r (get_there list i d within) before ∙ ap (λ v. entry_after v r e.what) world ∙ made

pub replay_stops : (p : Setting) (list : List Entry) (i : ℕ) (e : Entry) (r : State) → i < length list → slice_get list i ≡ Some e → run p (java (take i list)) ≡ Some r
    → entry_after p.world r e.what ≡ None → StopsAt p list i
replay_stops p list i e r within at before none =
    record { there = within; before = r; runs = before; stops = run_next p list i e r at before ∙ none }

take_whole : {A : Type 0} (xs : List A) (n : ℕ) → length xs ≤ n → take n xs ≡ xs
take_whole [] zero h = refl
take_whole [] (suc n) h = refl
take_whole (x ∷ xs) zero h = absurd (omega arith)
take_whole (x ∷ xs) (suc n) h = ap (λ ys. x ∷ ys) (take_whole xs n (omega arith))

pub replay_ends : (p : Setting) (list : List Entry) (i : ℕ) (s : State) → length list ≤ i → run p (java (take i list)) ≡ Some s → run p (java list) ≡ Some s
replay_ends p list i s past runs = ap (λ es. run p (java es)) (sym (take_whole list i past)) ∙ runs

-- the list stops at an entry
pub replay_errs : (p : Setting) (w : World) (list : List Entry) (i : ℕ) (d : Entry) (r : State) (fault : Fault) (a b : RefState) → p.world ≡ w → i < length list
    → run p (java (take i list)) ≡ Some r → Comes (entry_after w r (get_or list i d).what) (Err fault) a → IsRunOf p list (Err (stopped_at i fault)) b
replay_errs p w list i d r faults.NoStep a b world within before stops =
    let e : Entry = get_or list i d in
    replay_stops p list i e r within (get_there list i d within) before (ap (λ v. entry_after v r e.what) world ∙ stops)
replay_errs p w list i d r faults.NoMemory a b world within before stops = tt

-- the whole of it
pub run_replayed : (p : Setting) (list : List Entry) (error : ReplayError) (a : RefState) → IsRunOf p list (Err error) a → IsReplayed p list (Err error)
run_replayed p list (errors.NoStep i) a stops = stops
run_replayed p list errors.NoMemory a stops = tt

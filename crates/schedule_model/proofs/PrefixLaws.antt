-- A history that goes on.
use Rattle.std.proofs.Common.{◌≡◌, true, List, [], ◌∷◌, ◌++◌, Option, Some, None, is_some, refl, ap, ◌∙◌}
use Rattle.history.specs.declared.entry.Entry.{Entry}
use Rattle.items.specs.Options.{◌>>=◌}
use Rattle.items.proofs.Binds.{some_is, bind_is}
use Rattle.schedule_model.specs.Run.{Machine, Scheduled, schedule_from, scheduled_after, with_schedule}
use Rattle.schedule_model.specs.Schedule.{opening_schedule}
use Rattle.schedule_model.specs.Laws.{HistoriesGoOn, PrefixesAreLegal}

pub schedule_front : {S : Type 0} (m : Machine S) (front back : List Entry) (v w : Scheduled S) →
    schedule_from m v (front ++ back) ≡ Some w → (u : Scheduled S) × (schedule_from m v front ≡ Some u)
schedule_front m [] back v w e = (v, refl)
schedule_front m (a ∷ front) back v w e =
    let first = some_is (scheduled_after m v a.carrier a.what) (λ u. schedule_from m u (front ++ back)) w e in
    let rest = schedule_front m front back first.0 w first.2 in
    (rest.0, bind_is (scheduled_after m v a.carrier a.what) (λ u. schedule_from m u front) first.0 (Some rest.0) first.1 rest.1)

-- what is there
pub there : {A : Type 0} (o : Option A) → is_some o ≡ true → (a : A) × (o ≡ Some a)
there None e = absurd cc
there (Some a) e = (a, refl)

pub prefixes_are_legal : {S : Type 0} (m : Machine S) → PrefixesAreLegal m
prefixes_are_legal m carriers front back legal =
    let first = with_schedule m.opening (opening_schedule carriers) in
    let whole = there (schedule_from m first (front ++ back)) legal in
    let part = schedule_front m front back first whole.0 whole.1 in
    ap is_some part.1

bind_same : {A B : Type 0} (o : Option A) (f g : A → Option B) → ((x : A) → f x ≡ g x) → (o >>= f) ≡ (o >>= g)
bind_same None f g h = refl
bind_same (Some x) f g h = h x

bind_bind : {A B C : Type 0} (o : Option A) (f : A → Option B) (g : B → Option C) → (o >>= λ x. f x >>= g) ≡ ((o >>= f) >>= g)
bind_bind None f g = refl
bind_bind (Some x) f g = refl

schedule_append : {S : Type 0} (m : Machine S) (v : Scheduled S) (front back : List Entry)
    → schedule_from m v (front ++ back) ≡ (schedule_from m v front >>= λ w. schedule_from m w back)
schedule_append m v [] back = refl
schedule_append m v (a ∷ front) back =
    bind_same (scheduled_after m v a.carrier a.what) (λ u. schedule_from m u (front ++ back)) (λ u. schedule_from m u front >>= λ w. schedule_from m w back) (λ u. schedule_append m u front back)
    ∙ bind_bind (scheduled_after m v a.carrier a.what) (λ u. schedule_from m u front) (λ w. schedule_from m w back)

pub histories_go_on : {S : Type 0} (m : Machine S) → HistoriesGoOn m
histories_go_on m carriers front back = schedule_append m (with_schedule m.opening (opening_schedule carriers)) front back

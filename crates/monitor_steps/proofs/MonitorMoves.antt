-- The lists and owners of monitors, where one of them changed.
use Rattle.std.proofs.Common.{cond, not, ◌==◌, ◌≡◌, ◌≢◌, ◌+◌, ◌++◌, ◌⊎◌, arith, inl, inr, eqb, ℕ, Bool, true, false, List, [], ◌∷◌, Option, Some, refl, ap, sym, ◌∙◌}
use Rattle.std.specs.Prelude.{slice_get, slice_set, if◌then◌else◌}
use Rattle.std.specs.Option.{option_map_or}
use Rattle.std.proofs.Math.ListN.{length-set}
use Rattle.std.proofs.lemmas.Bool.Decides.{eqb_tells}
use Rattle.thread_lists.specs.Lists.{count, without}
use Rattle.thread_lists.proofs.CountLaws.{count-append, count-cons, count-other, count-same}
use Rattle.schedule_model.specs.Look.{Spot, absent, is_entering, is_waiting}
use Rattle.schedule_model.specs.Woken.{once_if}
use Rattle.monitors.specs.Monitors.{Becomes, Monitor, Monitors, monitor_of}
use Rattle.ref_model.specs.Looks.{spot_of}
use Rattle.ref_model.specs.State.{JavaThread, Owner}
use Rattle.ref_model.proofs.StateLaws.{get_set}
use Rattle.schedule_soundness.proofs.ThreadLists.{set_other}
use Rattle.program_state.proofs.SeatLaws.{eqb_other, eqb_same}
use Rattle.program_state.specs.Monitors.{HaveSameLists, HoldsMonitors, owner_in, spot_at}

-- ---- owners

-- the owner of a monitor that was given one, and of another
pub owner_at : (owners : ℕ → Option Owner) (o : ℕ) (owner : Option Owner) → (if eqb o o then owner else owners o) ≡ owner
owner_at owners o owner = ap (λ b. if b then owner else owners o) (eqb_same o)

pub owner_elsewhere : (owners : ℕ → Option Owner) (p o : ℕ) (owner : Option Owner) → p ≢ o → (if eqb p o then owner else owners p) ≡ owners p
owner_elsewhere owners p o owner ne = ap (λ b. if b then owner else owners p) (eqb_other p o ne)

-- ---- the lists are the same

becomes_same : (f : Monitor → List ℕ) (old new : Monitors) (o : ℕ) (m : Monitor) → Becomes old new o m → f m ≡ f (monitor_of old o) → (p : ℕ) → f (monitor_of new p) ≡ f (monitor_of old p)
becomes_same f old new o m becomes same p = by (eqb_tells p o)
  where
    by : ((eqb p o ≡ true) × (p ≡ o)) ⊎ ((eqb p o ≡ false) × (p ≢ o)) → f (monitor_of new p) ≡ f (monitor_of old p)
    by (inl me) =
        ap (λ n. f (monitor_of new n)) me.1 ∙ ap f becomes.changed ∙ same ∙ ap (λ n. f (monitor_of old n)) (sym me.1)
    by (inr other) = ap f (becomes.others p other.1)

abbrev pub waits_of : Monitor → List ℕ
waits_of m = m.wait_list

abbrev pub enters_of : Monitor → List ℕ
enters_of m = m.entry_list

pub lists_same : (old new : Monitors) (o : ℕ) (m : Monitor) → Becomes old new o m → m.wait_list ≡ (monitor_of old o).wait_list → m.entry_list ≡ (monitor_of old o).entry_list
    → HaveSameLists old new
lists_same old new o m becomes waits enters = record {
  waits = becomes_same waits_of old new o m becomes waits;
  enters = becomes_same enters_of old new o m becomes enters;
}

-- The owner of one monitor is another, and all lists are the same.
pub holds_owner : (a new : Monitors) (threads : List JavaThread) (owners : ℕ → Option Owner) (o : ℕ) (m : Monitor) (owner : Option Owner) → HoldsMonitors a threads owners → Becomes a new o m
    → m.wait_list ≡ (monitor_of a o).wait_list → m.entry_list ≡ (monitor_of a o).entry_list → owner_in m ≡ owner
    → HoldsMonitors new threads (λ p. if eqb p o then owner else owners p)
holds_owner a new threads owners o m owner holds becomes waits enters owned = record {
  owners_are = λ p. by p (eqb_tells p o);
  waits = λ t p. ap (count t) (becomes_same waits_of a new o m becomes waits p) ∙ holds.waits t p;
  enters = λ t p. ap (count t) (becomes_same enters_of a new o m becomes enters p) ∙ holds.enters t p;
  places = becomes.threads ∙ holds.places;
}
  where
    by : (p : ℕ) → ((eqb p o ≡ true) × (p ≡ o)) ⊎ ((eqb p o ≡ false) × (p ≢ o)) → owner_in (monitor_of new p) ≡ (if eqb p o then owner else owners p)
    by p (inl me) =
        ap (λ n. owner_in (monitor_of new n)) me.1 ∙ ap owner_in becomes.changed ∙ owned ∙ ap (λ b. if b then owner else owners p) (sym me.0)
    by p (inr other) =
        ap owner_in (becomes.others p other.1) ∙ holds.owners_are p ∙ ap (λ b. if b then owner else owners p) (sym other.0)

-- ---- one thread goes elsewhere, by one monitor

-- The lists of monitor o, as m, have thread t where it is as y, and all others where they were; in those of other monitors it is where it was as x.
pub record Moves (a : Monitors) (t o : ℕ) (x y : JavaThread) (m : Monitor) : Type 0 where
  pub waits : count t m.wait_list ≡ once_if (is_waiting o (spot_of y.thread.status))
  pub enters : count t m.entry_list ≡ once_if (is_entering o (spot_of y.thread.status))
  pub others_wait : (u : ℕ) → u ≢ t → count u m.wait_list ≡ count u (monitor_of a o).wait_list
  pub others_enter : (u : ℕ) → u ≢ t → count u m.entry_list ≡ count u (monitor_of a o).entry_list
  pub waits_elsewhere : (p : ℕ) → p ≢ o → is_waiting p (spot_of y.thread.status) ≡ is_waiting p (spot_of x.thread.status)
  pub enters_elsewhere : (p : ℕ) → p ≢ o → is_entering p (spot_of y.thread.status) ≡ is_entering p (spot_of x.thread.status)

abbrev spot_in : Option JavaThread → Spot
spot_in o = option_map_or (λ (z : JavaThread). spot_of z.thread.status) o absent

abbrev Tells : ℕ → ℕ → Type 0
Tells u t = ((eqb u t ≡ true) × (u ≡ t)) ⊎ ((eqb u t ≡ false) × (u ≢ t))

listed : (f : Monitor → List ℕ) (belongs : ℕ → Spot → Bool) (a new : Monitors) (threads : List JavaThread) (t o : ℕ) (x y : JavaThread) (m : Monitor)
    → ((u p : ℕ) → count u (f (monitor_of a p)) ≡ once_if (belongs p (spot_at threads u))) → slice_get threads t ≡ Some x → Becomes a new o m
    → count t (f m) ≡ once_if (belongs o (spot_of y.thread.status)) → ((u : ℕ) → u ≢ t → count u (f m) ≡ count u (f (monitor_of a o)))
    → ((p : ℕ) → p ≢ o → belongs p (spot_of y.thread.status) ≡ belongs p (spot_of x.thread.status))
    → (u p : ℕ) → count u (f (monitor_of new p)) ≡ once_if (belongs p (spot_at (slice_set threads t y) u))
listed f belongs a new threads t o x y m holds at becomes own others elsewhere u p = by (eqb_tells p o) (eqb_tells u t)
  where
    now : spot_at (slice_set threads t y) t ≡ spot_of y.thread.status
    now = ap spot_in (get_set threads t x y at)

    was : spot_at threads t ≡ spot_of x.thread.status
    was = ap spot_in at

    there : u ≢ t → spot_at (slice_set threads t y) u ≡ spot_at threads u
    there ne = ap spot_in (set_other threads t u y ne)

    by : Tells p o → Tells u t → count u (f (monitor_of new p)) ≡ once_if (belongs p (spot_at (slice_set threads t y) u))
    by (inl here) (inl me) =
        ap (λ n. count u (f (monitor_of new n))) here.1 ∙ ap (λ n. count n (f (monitor_of new o))) me.1 ∙ ap (λ k. count t (f k)) becomes.changed ∙ own
        ∙ ap (λ s. once_if (belongs o s)) (sym now) ∙ ap (λ n. once_if (belongs o (spot_at (slice_set threads t y) n))) (sym me.1)
        ∙ ap (λ n. once_if (belongs n (spot_at (slice_set threads t y) u))) (sym here.1)
    by (inl here) (inr other) =
        ap (λ n. count u (f (monitor_of new n))) here.1 ∙ ap (λ k. count u (f k)) becomes.changed ∙ others u other.1 ∙ holds u o
        ∙ ap (λ s. once_if (belongs o s)) (sym (there other.1)) ∙ ap (λ n. once_if (belongs n (spot_at (slice_set threads t y) u))) (sym here.1)
    by (inr away) (inl me) =
        ap (λ k. count u (f k)) (becomes.others p away.1) ∙ holds u p ∙ ap (λ n. once_if (belongs p (spot_at threads n))) me.1 ∙ ap (λ s. once_if (belongs p s)) was
        ∙ ap once_if (sym (elsewhere p away.1)) ∙ ap (λ s. once_if (belongs p s)) (sym now) ∙ ap (λ n. once_if (belongs p (spot_at (slice_set threads t y) n))) (sym me.1)
    by (inr away) (inr other) =
        ap (λ k. count u (f k)) (becomes.others p away.1) ∙ holds u p ∙ ap (λ s. once_if (belongs p s)) (sym (there other.1))

pub holds_moved : (a new : Monitors) (threads : List JavaThread) (owners owners' : ℕ → Option Owner) (t o : ℕ) (x y : JavaThread) (m : Monitor) → HoldsMonitors a threads owners
    → slice_get threads t ≡ Some x → Becomes a new o m → owner_in m ≡ owners' o → ((p : ℕ) → p ≢ o → owners' p ≡ owners p) → Moves a t o x y m → HoldsMonitors new (slice_set threads t y) owners'
holds_moved a new threads owners owners' t o x y m holds at becomes owner rest moves = record {
  owners_are = λ p. by p (eqb_tells p o);
  waits = listed waits_of is_waiting a new threads t o x y m holds.waits at becomes moves.waits moves.others_wait moves.waits_elsewhere;
  enters = listed enters_of is_entering a new threads t o x y m holds.enters at becomes moves.enters moves.others_enter moves.enters_elsewhere;
  places = becomes.threads ∙ holds.places ∙ sym (length-set threads t y);
}
  where
    by : (p : ℕ) → Tells p o → owner_in (monitor_of new p) ≡ owners' p
    by p (inl me) = ap (λ n. owner_in (monitor_of new n)) me.1 ∙ ap owner_in becomes.changed ∙ owner ∙ ap owners' (sym me.1)
    by p (inr other) = ap owner_in (becomes.others p other.1) ∙ holds.owners_are p ∙ sym (rest p other.1)

-- ---- how often threads are in a list

pub count_last : (t : ℕ) (xs : List ℕ) → count t xs ≡ 0 → count t (xs ++ t ∷ []) ≡ 1
count_last t xs none = let n = count-append t xs (t ∷ []) in let m = count-same t [] in let k : count t [] ≡ 0 = refl in omega (arith, n, m, none, k)

pub count_more : (u t : ℕ) (xs : List ℕ) → u ≢ t → count u (xs ++ t ∷ []) ≡ count u xs
count_more u t xs ne = let n = count-append u xs (t ∷ []) in let m = count-other u t [] (λ e. ne (sym e)) in omega (arith, n, m)

pub count_left : (u t : ℕ) (xs : List ℕ) → u ≢ t → count u (without t xs) ≡ count u xs
count_left u t [] ne = refl
count_left u t (x ∷ xs) ne = by (count_left u t xs ne) (eqb_tells x t)
  where
    by : count u (without t xs) ≡ count u xs → Tells x t → count u (without t (x ∷ xs)) ≡ count u (x ∷ xs)
    by rest (inl me) =
        ap (λ b. count u (cond (not b) (x ∷ without t xs) (without t xs))) me.0 ∙ rest ∙ sym (count-other u x xs (λ e. ne (sym e ∙ me.1)))
    by rest (inr other) =
        ap (λ b. count u (cond (not b) (x ∷ without t xs) (without t xs))) other.0 ∙ count-cons u x (without t xs)
        ∙ ap (λ n. cond (x == u) 1 0 + n) rest ∙ sym (count-cons u x xs)

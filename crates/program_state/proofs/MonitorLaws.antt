-- Monitors, where one thread of a state has changed.
use Rattle.std.proofs.Common.{arith, ◌≡◌, ◌≢◌, ◌+◌, ◌++◌, ◌⊎◌, ℕ, zero, suc, Bool, true, false, List, [], ◌∷◌, Option, Some, None, eqb, inl, inr, length, refl, sym, ap, ◌∙◌}
use Rattle.std.specs.Prelude.{map, slice_get, slice_set}
use Rattle.std.specs.Option.{option_map_or}
use Rattle.std.proofs.Math.ListN.{length-set}
use Rattle.std.proofs.lemmas.List.{length-map}
use Rattle.std.proofs.lemmas.Bool.Decides.{eqb_tells}
use Rattle.vthread_state.specs.declared.phase.Phase.TheVariants.{Run, Throwing, Parked, Asleep, Joining}
use Rattle.vthread_state.specs.declared.thread.Status.{Status}
use Rattle.vthread_state.specs.declared.thread.Status.TheVariants.{New, Live, Done}
use Rattle.schedule_model.specs.Look.{Spot, absent, is_entering, is_waiting}
use Rattle.schedule_model.specs.Woken.{once_if}
use Rattle.ref_model.specs.Looks.{spot_of}
use Rattle.vthread_state.specs.declared.thread.Thread.{Thread}
use Rattle.vthread_state.specs.Threads.{Threads}
use Rattle.ref_model.specs.State.{JavaThread, Owner, State}
use Rattle.monitors.specs.Monitors.{Monitors, monitor_of}
use Rattle.ref_model.proofs.StateLaws.{get_set}
use Rattle.schedule_soundness.proofs.ThreadLists.{more, set_other}
use Rattle.program_state.specs.declared.state.ProgramState.{ProgramState}
use Rattle.program_state.specs.Monitors.{AreSeated, HoldsMonitors, InSameLists, owner_in, spot_at, spot_in}
use Rattle.program_state.specs.States.{IsState, is_plain_status}

-- ---- who is in the same lists

pub same_lists : (old new : Status) → new ≡ old → InSameLists old new
same_lists old new same = record {
  waits = λ o. ap (λ status. is_waiting o (spot_of status)) same;
  enters = λ o. ap (λ status. is_entering o (spot_of status)) same;
}

none_waits : (o : ℕ) (status : Status) → is_plain_status status ≡ true → is_waiting o (spot_of status) ≡ false
none_waits o New plain = refl
none_waits o (Live Run) plain = refl
none_waits o (Live (Throwing k)) plain = refl
none_waits o (Live (Parked deadline)) plain = refl
none_waits o (Live (Asleep deadline)) plain = refl
none_waits o (Live (Joining target deadline)) plain = refl
none_waits o (Live phase) plain = absurd cc
none_waits o Done plain = refl

none_enters : (o : ℕ) (status : Status) → is_plain_status status ≡ true → is_entering o (spot_of status) ≡ false
none_enters o New plain = refl
none_enters o (Live Run) plain = refl
none_enters o (Live (Throwing k)) plain = refl
none_enters o (Live (Parked deadline)) plain = refl
none_enters o (Live (Asleep deadline)) plain = refl
none_enters o (Live (Joining target deadline)) plain = refl
none_enters o (Live phase) plain = absurd cc
none_enters o Done plain = refl

-- in none
pub plain_lists : (old new : Status) → is_plain_status old ≡ true → is_plain_status new ≡ true → InSameLists old new
plain_lists old new was is = record {
  waits = λ o. none_waits o new is ∙ sym (none_waits o old was);
  enters = λ o. none_enters o new is ∙ sym (none_enters o old was);
}

-- ---- a thread has changed, and is in the same lists

in_list_still : (belongs : Spot → Bool) (threads : List JavaThread) (t u : ℕ) (x y : JavaThread) → slice_get threads t ≡ Some x
    → belongs (spot_of y.thread.status) ≡ belongs (spot_of x.thread.status) → belongs (spot_at (slice_set threads t y) u) ≡ belongs (spot_at threads u)
in_list_still belongs threads t u x y at same = by (eqb_tells u t)
  where
    spot : Option JavaThread → Spot
    spot o = option_map_or (λ (z : JavaThread). spot_of z.thread.status) o absent

    by : ((eqb u t ≡ true) × (u ≡ t)) ⊎ ((eqb u t ≡ false) × (u ≢ t)) → belongs (spot_at (slice_set threads t y) u) ≡ belongs (spot_at threads u)
    by (inl me) =
        ap (λ n. belongs (spot_at (slice_set threads t y) n)) me.1 ∙ ap (λ o. belongs (spot o)) (get_set threads t x y at) ∙ same
        ∙ ap (λ o. belongs (spot o)) (sym at) ∙ ap (λ n. belongs (spot_at threads n)) (sym me.1)
    by (inr other) = ap (λ o. belongs (spot o)) (set_other threads t u y other.1)

pub monitors_kept : (a : Monitors) (threads : List JavaThread) (owners : ℕ → Option Owner) (t : ℕ) (x y : JavaThread) → HoldsMonitors a threads owners → slice_get threads t ≡ Some x
    → InSameLists x.thread.status y.thread.status → HoldsMonitors a (slice_set threads t y) owners
monitors_kept a threads owners t x y holds at same = record {
  owners_are = holds.owners_are;
  waits = λ u o. holds.waits u o ∙ ap once_if (sym (in_list_still (is_waiting o) threads t u x y at (same.waits o)));
  enters = λ u o. holds.enters u o ∙ ap once_if (sym (in_list_still (is_entering o) threads t u x y at (same.enters o)));
  places = holds.places ∙ sym (length-set threads t y);
}

-- ---- one more thread, which wasn't started

spot_more : (belongs : Spot → Bool) (threads : List JavaThread) (x : JavaThread) (u : ℕ) → belongs absent ≡ belongs (spot_of x.thread.status)
    → (slice_get (threads ++ x ∷ []) u ≡ slice_get threads u) ⊎ ((slice_get threads u ≡ None) × (slice_get (threads ++ x ∷ []) u ≡ Some x))
    → belongs (spot_at threads u) ≡ belongs (spot_at (threads ++ x ∷ []) u)
spot_more belongs threads x u same (inl old) = ap (λ o. belongs (option_map_or (λ (z : JavaThread). spot_of z.thread.status) o absent)) (sym old)
spot_more belongs threads x u same (inr new) =
    ap (λ o. belongs (option_map_or (λ (z : JavaThread). spot_of z.thread.status) o absent)) new.0 ∙ same
    ∙ ap (λ o. belongs (option_map_or (λ (z : JavaThread). spot_of z.thread.status) o absent)) (sym new.1)

pub monitors_more : (a : Monitors) (threads : List JavaThread) (owners : ℕ → Option Owner) (x : JavaThread) → HoldsMonitors a threads owners → x.thread.status ≡ New
    → length (threads ++ x ∷ []) ≡ suc (length threads) → HoldsMonitors (record a { threads = a.threads + 1 }) (threads ++ x ∷ []) owners
monitors_more a threads owners x holds new longer = record {
  owners_are = holds.owners_are;
  waits = λ u o. holds.waits u o ∙ ap once_if (spot_more (is_waiting o) threads x u (sym (ap (λ status. is_waiting o (spot_of status)) new)) (more threads x u));
  enters = λ u o. holds.enters u o ∙ ap once_if (spot_more (is_entering o) threads x u (sym (ap (λ status. is_entering o (spot_of status)) new)) (more threads x u));
  places = ap (λ n. n + 1) holds.places ∙ add_one (length threads) ∙ sym longer;
}
  where
    add_one : (n : ℕ) → n + 1 ≡ suc n
    add_one n = omega arith

-- ---- the same by the table of threads

spot_in_rows : (xs : List JavaThread) (t : ℕ) → option_map_or (λ (thread : Thread). spot_of thread.status) (slice_get (map (λ x. x.thread) xs) t) absent ≡ spot_at xs t
spot_in_rows [] t = refl
spot_in_rows (x ∷ xs) zero = refl
spot_in_rows (x ∷ xs) (suc t) = spot_in_rows xs t

-- where a thread is, in both
pub spots_are : (table : Threads) (threads : List JavaThread) → table.threads ≡ map (λ x. x.thread) threads → (t : ℕ) → spot_in table t ≡ spot_at threads t
spots_are table threads rows t =
    ap (λ (ts : List Thread). option_map_or (λ (thread : Thread). spot_of thread.status) (slice_get ts t) absent) rows ∙ spot_in_rows threads t

pub seated : (a : ProgramState) (r : State) (out : ℕ → Bool) → IsState a r out → AreSeated a.monitors a.threads
seated a r out is = record {
  waits = λ t o. is.monitors.waits t o ∙ ap (λ s. once_if (is_waiting o s)) (sym (spots_are a.threads r.threads is.rows t));
  enters = λ t o. is.monitors.enters t o ∙ ap (λ s. once_if (is_entering o s)) (sym (spots_are a.threads r.threads is.rows t));
  places = is.monitors.places ∙ sym (ap length is.rows ∙ length-map r.threads (λ x. x.thread));
}

pub holds_seated : (a : Monitors) (table : Threads) (threads : List JavaThread) (owners : ℕ → Option Owner) → AreSeated a table → table.threads ≡ map (λ x. x.thread) threads
    → ((o : ℕ) → owner_in (monitor_of a o) ≡ owners o) → HoldsMonitors a threads owners
holds_seated a table threads owners seats rows same = record {
  owners_are = same;
  waits = λ t o. seats.waits t o ∙ ap (λ s. once_if (is_waiting o s)) (spots_are table threads rows t);
  enters = λ t o. seats.enters t o ∙ ap (λ s. once_if (is_entering o s)) (spots_are table threads rows t);
  places = seats.places ∙ ap length rows ∙ length-map threads (λ x. x.thread);
}

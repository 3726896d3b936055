-- A thread is made.
use Rattle.std.proofs.Common.{◌≡◌, ◌⊎◌, inl, inr, ℕ, zero, suc, ◌+◌, Bool, true, false, List, [], ◌∷◌, ◌++◌, length, Option, Some, None, refl, ap, sym, subst, ◌∙◌}
use Rattle.std.specs.Prelude.{map, nat_lt, slice_get}
use Rattle.std.specs.Option.{option_map_or}
use Rattle.items.proofs.Binds.{bind_is}
use Rattle.vthread_state.specs.declared.phase.Phase.TheVariants.{Run}
use Rattle.vthread_state.specs.declared.thread.Status.TheVariants.{New, Live}
use Rattle.vthread_state.specs.declared.thread.Thread.{Thread}
use Rattle.vthread_state.specs.declared.thread.ThreadKind.{ThreadKind}
use Rattle.vthread_state.specs.Threads.{Threads, new_thread, thread_at}
use Rattle.link_model.specs.World.{World}
use Rattle.continuation.specs.Continuation.{Continuation}
use Rattle.ref_model.specs.declared.exception.Exception.TheVariants as exceptions
use Rattle.ref_model.specs.Asking.{goes}
use Rattle.ref_model.specs.Ending.{is_live}
use Rattle.ref_model.specs.Looks.{deadline_in}
use Rattle.ref_model.specs.Memory.{Memory}
use Rattle.ref_model.specs.Starting.{first_daemon, made_thread, may_create, unnamed_after, with_new_thread}
use Rattle.ref_model.specs.State.{JavaThread, State}
use Rattle.ref_model.specs.ThreadNatives.{with_number}
use Rattle.ref_model.specs.declared.request.ThreadRequest.TheVariants as requests
use Rattle.sleep_wheel.specs.declared.sleeper.Key.{Key}
use Rattle.sleep_wheel.specs.Sleepers.{Sleepers, sleeper_at}
use Rattle.heap_objs.specs.Heap.{Heap}
use Rattle.heap_instructions.specs.Outcomes.{with_heap}
use Rattle.schedule_soundness.specs.PutLaws.{Stays, is_new, OthersStay}
use Rattle.schedule_soundness.proofs.ThreadLists.{more, more_there, same_some}
use Rattle.thread_steps.specs.declared.parts.Parts.{Parts}
use Rattle.thread_steps.specs.States.{memory_of}
use Rattle.program_state.specs.declared.reply.Reply.TheVariants as replies
use Rattle.program_state.specs.declared.state.ProgramState.{ProgramState}
use Rattle.thread_calls.specs.Creating.{IsNameMade, daemon_of, unnamed_with}
use Rattle.thread_calls.proofs.CreateLaws.{created_is, daemon_is, name_in, name_none, unnamed_is}
use Rattle.program_state.specs.Creating.{IsAdded, has_room}
use Rattle.program_state.specs.Deadlines.{coming_deadline, deadlines_of, key_at, key_number, later_than}
use Rattle.program_state.specs.Replies.{Answers}
use Rattle.program_state.specs.States as places
use Rattle.program_state.specs.Monitors.{HoldsMonitors}
use Rattle.program_state.proofs.MonitorLaws.{monitors_more}
use Rattle.program_state.specs.States.{IsInPhase, IsKept, IsState}
use Rattle.program_state.proofs.WheelLaws.{holds_same}
use Rattle.program_state.proofs.StateLaws.{others_same, row_back, stays_same}

-- ---- two lists with one more at the end

map_more : {A B : Type 0} (f : A → B) (xs : List A) (x : A) → map f (xs ++ x ∷ []) ≡ map f xs ++ f x ∷ []
map_more f [] x = refl
map_more f (y ∷ xs) x = ap (λ zs. f y ∷ zs) (map_more f xs x)

length_rows : (xs : List JavaThread) → length (map (λ (y : JavaThread). y.thread) xs) ≡ length xs
length_rows [] = refl
length_rows (x ∷ xs) = ap suc (length_rows xs)

-- both lists end together
abbrev EndTogether : {A B : Type 0} → List A → List B → Type 0
EndTogether xs ys = (u : ℕ) → (slice_get xs u ≡ None → slice_get ys u ≡ None) × (slice_get ys u ≡ None → slice_get xs u ≡ None)

-- at each place they are the old ones, or both have the new one
more_both : {A B : Type 0} (xs : List A) (ys : List B) (x : A) (y : B) → EndTogether xs ys → (u : ℕ)
    → ((slice_get (xs ++ x ∷ []) u ≡ slice_get xs u) × (slice_get (ys ++ y ∷ []) u ≡ slice_get ys u))
    ⊎ ((slice_get xs u ≡ None) × (slice_get (xs ++ x ∷ []) u ≡ Some x) × (slice_get ys u ≡ None) × (slice_get (ys ++ y ∷ []) u ≡ Some y))
more_both [] [] x y ends zero = inr (refl, refl, refl, refl)
more_both [] [] x y ends (suc u) = inl (refl, refl)
more_both [] (b ∷ ys) x y ends u = absurd (let e = (ends 0).0 refl in cc)
more_both (a ∷ xs) [] x y ends u = absurd (let e = (ends 0).1 refl in cc)
more_both (a ∷ xs) (b ∷ ys) x y ends zero = inl (refl, refl)
more_both (a ∷ xs) (b ∷ ys) x y ends (suc u) = more_both xs ys x y (λ k. ends (suc k)) u

kept_ends : (u : ℕ) (out : Bool) (o : Option JavaThread) (k : Option (Option Continuation)) → IsKept u out o k → (o ≡ None → k ≡ None) × (k ≡ None → o ≡ None)
kept_ends u out o k (places.absent e f g) = (λ z. g, λ z. f)
kept_ends u out o k (places.mounted x e f g s) = (λ z. absurd cc, λ z. absurd cc)
kept_ends u out o k (places.waiting x c e f g live t fs) = (λ z. absurd cc, λ z. absurd cc)
kept_ends u out o k (places.idle x e f g live) = (λ z. absurd cc, λ z. absurd cc)

-- who isn't there isn't out
kept_none : (u : ℕ) (out : Bool) (k : Option (Option Continuation)) → IsKept u out None k → out ≡ false
kept_none u out k (places.absent e f g) = e
kept_none u out k (places.mounted x e f g s) = absurd cc
kept_none u out k (places.waiting x c e f g live t fs) = absurd cc
kept_none u out k (places.idle x e f g live) = e

-- ---- the state with one more thread

length_more : {A : Type 0} (xs : List A) (x : A) → length (xs ++ x ∷ []) ≡ suc (length xs)
length_more [] x = refl
length_more (y ∷ xs) x = ap suc (length_more xs x)

abbrev key_in : Option (Option Key) → Option ℕ
key_in o = option_map_or key_number o None

added_state : (a new : ProgramState) (b : Parts) (r : State) (out : ℕ → Bool) (memory : Memory) (unnamed : ℕ) (x : JavaThread) → IsState a r out → x.thread.status ≡ New → x.permit ≡ false → x.interrupted ≡ false
    → b.status ≡ Live Run → b.main_threw ≡ a.memory.main_threw → memory_of b ≡ memory → new.memory ≡ b → new.threads ≡ record a.threads { threads = a.threads.threads ++ x.thread ∷ [] }
    → new.frozen.items ≡ a.frozen.items ++ None ∷ [] → new.wakes.permits ≡ a.wakes.permits ++ false ∷ [] → new.wakes.interrupts ≡ a.wakes.interrupts ++ false ∷ []
    → new.monitors ≡ record a.monitors { threads = a.monitors.threads + 1 } → new.wheel ≡ a.wheel → new.keys.items ≡ a.keys.items ++ None ∷ [] → new.time ≡ a.time → new.unnamed ≡ unnamed → new.most_threads ≡ a.most_threads
    → IsState new (with_new_thread r memory unnamed x) out
added_state a new b r out memory unnamed x is idle no_permit calm run threw made memory_is threads frozen permits interrupts monitors wheel keys now count most =
    record {
      status = ap (λ (p : Parts). p.status) memory_is ∙ run;
      memory = ap memory_of memory_is ∙ made;
      main_threw = ap (λ (p : Parts). p.main_threw) memory_is ∙ threw ∙ is.main_threw;
      rows = ap (λ (ts : Threads). ts.threads) threads ∙ ap (λ ts. ts ++ x.thread ∷ []) is.rows ∙ sym (map_more (λ (y : JavaThread). y.thread) r.threads x);
      most_threads = most ∙ is.most_threads;
      limit = ap (λ (ts : Threads). ts.limit) threads ∙ is.limit;
      permits = permits ∙ ap (λ fs. fs ++ false ∷ []) is.permits ∙ ap (λ b. map (λ (y : JavaThread). y.permit) r.threads ++ b ∷ []) (sym no_permit)
          ∙ sym (map_more (λ (y : JavaThread). y.permit) r.threads x);
      interrupts = interrupts ∙ ap (λ fs. fs ++ false ∷ []) is.interrupts ∙ ap (λ b. map (λ (y : JavaThread). y.interrupted) r.threads ++ b ∷ []) (sym calm)
          ∙ sym (map_more (λ (y : JavaThread). y.interrupted) r.threads x);
      unnamed = count;
      monitors = subst (λ m. HoldsMonitors m (r.threads ++ x ∷ []) r.owners) (sym monitors) (monitors_more a.monitors r.threads r.owners x is.monitors idle (length_more r.threads x));
      now = now ∙ is.now;
      places = ap length keys ∙ length_more a.keys.items None ∙ ap suc is.places ∙ sym (length_more r.threads x);
      wheel = holds_same (sleeper_at a.wheel) (sleeper_at new.wheel) (key_at a.keys.items) (key_at new.keys.items) (deadlines_of r.now r.threads) (deadlines_of r.now (r.threads ++ x ∷ []))
          (λ k. ap (λ (s : Sleepers). sleeper_at s k) wheel) (λ u. ap (λ ks. key_at ks u) keys ∙ each_key u (more a.keys.items None u)) (λ u. each_deadline u (more r.threads x u)) is.wheel;
      kept = λ u. subst (λ ks. IsKept u (out u) (slice_get (r.threads ++ x ∷ []) u) (slice_get ks u)) (sym frozen)
          (each_kept u (more_both r.threads a.frozen.items x None (λ k. kept_ends k (out k) (slice_get r.threads k) (slice_get a.frozen.items k) (is.kept k)) u));
    }
  where
    each_key : (u : ℕ) → (slice_get (a.keys.items ++ None ∷ []) u ≡ slice_get a.keys.items u) ⊎ ((slice_get a.keys.items u ≡ None) × (slice_get (a.keys.items ++ None ∷ []) u ≡ Some None))
        → key_at (a.keys.items ++ None ∷ []) u ≡ key_at a.keys.items u
    each_key u (inl same) = ap key_in same
    each_key u (inr last) = ap key_in last.1 ∙ sym (ap key_in last.0)

    each_deadline : (u : ℕ) → (slice_get (r.threads ++ x ∷ []) u ≡ slice_get r.threads u) ⊎ ((slice_get r.threads u ≡ None) × (slice_get (r.threads ++ x ∷ []) u ≡ Some x))
        → deadlines_of r.now (r.threads ++ x ∷ []) u ≡ deadlines_of r.now r.threads u
    each_deadline u (inl same) = ap (coming_deadline r.now) same
    each_deadline u (inr last) =
        ap (coming_deadline r.now) last.1 ∙ ap (λ status. later_than r.now (deadline_in status)) idle ∙ sym (ap (coming_deadline r.now) last.0)

    each_kept : (u : ℕ) → ((slice_get (r.threads ++ x ∷ []) u ≡ slice_get r.threads u) × (slice_get (a.frozen.items ++ None ∷ []) u ≡ slice_get a.frozen.items u))
        ⊎ ((slice_get r.threads u ≡ None) × (slice_get (r.threads ++ x ∷ []) u ≡ Some x) × (slice_get a.frozen.items u ≡ None) × (slice_get (a.frozen.items ++ None ∷ []) u ≡ Some None))
        → IsKept u (out u) (slice_get (r.threads ++ x ∷ []) u) (slice_get (a.frozen.items ++ None ∷ []) u)
    each_kept u (inl same) =
        subst (λ o. IsKept u (out u) o (slice_get (a.frozen.items ++ None ∷ []) u)) (sym same.0) (subst (IsKept u (out u) (slice_get r.threads u)) (sym same.1) (is.kept u))
    each_kept u (inr last) =
        places.idle x (kept_none u (out u) (slice_get a.frozen.items u) (subst (λ o. IsKept u (out u) o (slice_get a.frozen.items u)) last.0 (is.kept u))) last.1 last.3 (ap is_live idle)

added_others : (r : State) (t : ℕ) (memory : Memory) (unnamed : ℕ) (x : JavaThread) → x.thread.status ≡ New → OthersStay t r (with_new_thread r memory unnamed x)
added_others r t memory unnamed x idle = record { threads = λ u ne. by u (more r.threads x u); owners = refl; now = refl }
  where
    by : (u : ℕ) → (slice_get (r.threads ++ x ∷ []) u ≡ slice_get r.threads u) ⊎ ((slice_get r.threads u ≡ None) × (slice_get (r.threads ++ x ∷ []) u ≡ Some x))
        → Stays (slice_get r.threads u) (slice_get (r.threads ++ x ∷ []) u)
    by u (inl same) = stays_same (slice_get r.threads u) (slice_get (r.threads ++ x ∷ []) u) same
    by u (inr last) = is_new x last.0 last.1 idle

-- ---- the request

-- the memory with another heap
abbrev pub with_heap_in : ProgramState → Heap → Parts
with_heap_in a heap = record a.memory { natives = record a.memory.natives { heap = heap } }

-- there may be one more
pub room_there : (a : ProgramState) (r : State) (out : ℕ → Bool) → IsState a r out → may_create r ≡ has_room a
room_there a r out is = sym (ap (λ n. nat_lt n a.most_threads) (ap length is.rows ∙ length_rows r.threads) ∙ ap (nat_lt (length r.threads)) is.most_threads)

pub nothing_created : (w : World) (kind : ThreadKind) (object : ℕ) (name : Option ℕ) (t : ℕ) (a : ProgramState) (heap : Heap) → has_room a ≡ true
    → IsNameMade kind name a.unnamed a.memory.natives.heap heap None
    → Answers w (requests.Creates kind object name) (OthersStay t) t a (record a { memory = with_heap_in a heap }) (replies.Throws exceptions.OutOfMemoryError)
nothing_created w kind object name t a heap room made r out frames is at =
    let none = name_none kind name r (memory_of a.memory) a.unnamed a.memory.natives.heap heap is.unnamed is.memory made in
    record {
      state = r;
      same = λ k. created_is w kind object name t r k at.thread None (room_there a r out is ∙ room) at.at none.0;
      is = subst (λ (s : Heap). IsState (record a { memory = with_heap_in a s }) r out) (sym none.1) is;
      runs = at;
      others = others_same t r r (λ u ne. refl) refl refl;
    }

pub thread_created : (w : World) (kind : ThreadKind) (object string : ℕ) (name : Option ℕ) (t : ℕ) (a new : ProgramState) (named numbered : Heap) (row : Thread) (daemon : Bool) (unnamed : ℕ)
    → has_room a ≡ true → thread_at a.threads t ≡ Some row → daemon ≡ daemon_of kind row.daemon → unnamed ≡ unnamed_with kind name a.unnamed
    → IsNameMade kind name a.unnamed a.memory.natives.heap named (Some string)
    → ((m : Memory) → with_number (with_heap named m) object (length a.threads.threads) ≡ Some (with_heap numbered m))
    → IsAdded (new_thread kind daemon object string) (record a { memory = with_heap_in a numbered }) new
    → Answers w (requests.Creates kind object name) (OthersStay t) t a (record new { unnamed = unnamed }) replies.Goes
thread_created w kind object string name t a new named numbered row daemon unnamed room there is_daemon is_unnamed made number added r out frames is at =
    let x : JavaThread = made_thread kind daemon object string in
    let creator = row_back a.threads r t row is.rows there in
    let own : creator.0 ≡ at.thread = same_some (slice_get r.threads t) creator.0 at.thread creator.1 at.at in
    let memory : Memory = memory_of (with_heap_in a numbered) in
    let count : length a.threads.threads ≡ length r.threads = ap length is.rows ∙ length_rows r.threads in
    let flag : daemon ≡ first_daemon kind at.thread = is_daemon ∙ daemon_is kind at.thread row (ap (λ (z : JavaThread). z.thread) (sym own) ∙ creator.2) in
    let next : State = with_new_thread r memory unnamed x in
    let named_in = name_in kind name r (memory_of a.memory) a.unnamed a.memory.natives.heap named string is.unnamed is.memory made in
    record {
      state = next;
      same = λ k. created_is w kind object name t r k at.thread (Some (with_heap named (memory_of a.memory), string)) (room_there a r out is ∙ room) at.at named_in
          ∙ bind_is (with_number (with_heap named (memory_of a.memory)) object (length r.threads))
          (λ m. goes (with_new_thread r m (unnamed_after kind name r) (made_thread kind (first_daemon kind at.thread) object string)) t k) memory (goes next t k)
          (ap (with_number (with_heap named (memory_of a.memory)) object) (sym count) ∙ number (memory_of a.memory))
          (λ i. goes (with_new_thread r memory (sym (is_unnamed ∙ unnamed_is kind name r a.unnamed is.unnamed) i) (made_thread kind (sym flag i) object string)) t k);
      is = added_state a (record new { unnamed = unnamed }) (with_heap_in a numbered) r out memory unnamed x is refl
          refl refl is.status refl refl added.memory added.threads added.frozen added.permits added.interrupts added.monitors added.wheel added.keys added.time refl added.most_threads;
      runs = record { thread = at.thread; at = more_there r.threads x t at.thread at.at; status = at.status; has = at.has };
      others = added_others r t memory unnamed x refl;
    }

-- The permit and the interrupt status of the thread that asks.
use Rattle.std.proofs.Common.{◌≡◌, ℕ, zero, suc, Bool, false, List, [], ◌∷◌, Some, refl, ap, sym, subst, ◌∙◌}
use Rattle.std.specs.Prelude.{map, slice_get, slice_set}
use Rattle.std.specs.Option.{option_map_or}
use Rattle.wakes.specs.Flags.{Flags}
use Rattle.vthread_state.specs.declared.thread.Thread.{Thread}
use Rattle.link_model.specs.World.{World}
use Rattle.ref_model.specs.Asking.{Asking}
use Rattle.ref_model.specs.Looks.{deadline_in}
use Rattle.ref_model.specs.Requesting.{asked}
use Rattle.ref_model.specs.Requests.{request_of}
use Rattle.ref_model.specs.State.{JavaThread, State, has_permit, is_interrupted, with_thread}
use Rattle.ref_model.specs.declared.request.ThreadRequest.{ThreadRequest}
use Rattle.ref_model.proofs.StateLaws.{get_set, set_same}
use Rattle.schedule_soundness.specs.PutLaws.{OthersStay}
use Rattle.schedule_soundness.proofs.ThreadLists.{set_other}
use Rattle.program_state.specs.declared.reply.Reply.{Reply}
use Rattle.program_state.specs.declared.state.ProgramState.{ProgramState}
use Rattle.program_state.specs.Replies.{Answers, replied}
use Rattle.program_state.proofs.MonitorLaws.{monitors_kept, same_lists}
use Rattle.program_state.specs.States.{IsState}
use Rattle.program_state.specs.Waking.{IsInterruptTaken, IsPermitTaken, flag_at}
use Rattle.program_state.proofs.StateLaws.{interrupts_same, kept_put, others_same, own_memory, permits_same, rows_same, still_kept, thread_is, thread_put, wheel_same}

-- ---- flags as the state has them

flag_is : (f : JavaThread → Bool) (xs : List JavaThread) (t : ℕ) → flag_at (map f xs) t ≡ option_map_or f (slice_get xs t) false
flag_is f [] t = refl
flag_is f (x ∷ xs) zero = refl
flag_is f (x ∷ xs) (suc t) = flag_is f xs t

pub permit_is : (a : ProgramState) (r : State) (out : ℕ → Bool) (t : ℕ) → IsState a r out → flag_at a.wakes.permits t ≡ has_permit r t
permit_is a r out t is = ap (λ fs. flag_at fs t) is.permits ∙ flag_is (λ (x : JavaThread). x.permit) r.threads t

pub interrupt_is : (a : ProgramState) (r : State) (out : ℕ → Bool) (t : ℕ) → IsState a r out → flag_at a.wakes.interrupts t ≡ is_interrupted r t
interrupt_is a r out t is = ap (λ fs. flag_at fs t) is.interrupts ∙ flag_is (λ (x : JavaThread). x.interrupted) r.threads t

pub own_permit : (a : ProgramState) (r : State) (out : ℕ → Bool) (t : ℕ) (x : JavaThread) → IsState a r out → slice_get r.threads t ≡ Some x → flag_at a.wakes.permits t ≡ x.permit
own_permit a r out t x is at = permit_is a r out t is ∙ ap (λ o. option_map_or (λ (z : JavaThread). z.permit) o false) at

pub own_interrupt : (a : ProgramState) (r : State) (out : ℕ → Bool) (t : ℕ) (x : JavaThread) → IsState a r out → slice_get r.threads t ≡ Some x → flag_at a.wakes.interrupts t ≡ x.interrupted
own_interrupt a r out t x is at = interrupt_is a r out t is ∙ ap (λ o. option_map_or (λ (z : JavaThread). z.interrupted) o false) at

flag_had : (flags : List Bool) (t : ℕ) (had : Bool) → slice_get flags t ≡ Some had → flag_at flags t ≡ had
flag_had flags t had at = ap (λ o. option_map_or (λ (flag : Bool). flag) o false) at

pub permit_had : (a : ProgramState) (r : State) (out : ℕ → Bool) (t : ℕ) (had : Bool) (flags : Flags) → IsState a r out → IsPermitTaken t had a.wakes flags → has_permit r t ≡ had
permit_had a r out t had flags is taken = sym (permit_is a r out t is) ∙ flag_had a.wakes.permits t had taken.was

pub interrupt_had : (a : ProgramState) (r : State) (out : ℕ → Bool) (t : ℕ) (had : Bool) (flags : Flags) → IsState a r out → IsInterruptTaken t had a.wakes flags → is_interrupted r t ≡ had
interrupt_had a r out t had flags is taken = sym (interrupt_is a r out t is) ∙ flag_had a.wakes.interrupts t had taken.was

-- ---- nothing was taken

pub no_permit_taken : (t : ℕ) (old new : Flags) → IsPermitTaken t false old new → new ≡ old
no_permit_taken t old new taken = taken.after ∙ ap (λ fs. record old { permits = fs }) (set_same old.permits t false taken.was)

pub no_interrupt_taken : (t : ℕ) (old new : Flags) → IsInterruptTaken t false old new → new ≡ old
no_interrupt_taken t old new taken = taken.after ∙ ap (λ fs. record old { interrupts = fs }) (set_same old.interrupts t false taken.was)

pub untaken : (w : World) (request : ThreadRequest) (leaves : State → State → Type 0) (t : ℕ) (a : ProgramState) (flags : Flags) (reply : Reply) → flags ≡ a.wakes
    → Answers w request leaves t a a reply → Answers w request leaves t a (record a { wakes = flags }) reply
untaken w request leaves t a flags reply same answers = subst (λ fs. Answers w request leaves t a (record a { wakes = fs }) reply) (sym same) answers

-- ---- flags of one thread change

pub flags_put : (a : ProgramState) (flags : Flags) (r : State) (out : ℕ → Bool) (t : ℕ) (x y : JavaThread) → IsState a r out → slice_get r.threads t ≡ Some x → y.thread ≡ x.thread → y.frames ≡ x.frames
    → flags.permits ≡ slice_set a.wakes.permits t y.permit → flags.interrupts ≡ slice_set a.wakes.interrupts t y.interrupted
    → IsState (record a { wakes = flags }) (record r { threads = slice_set r.threads t y }) out
flags_put a flags r out t x y is at row frames permits interrupts =
    subst (λ q. IsState (record a { wakes = flags }) q out) (own_memory a r out (slice_set r.threads t y) is)
    (thread_put a (record a { wakes = flags }) r out t x y is at
    (record {
      run = is.status;
      rows = rows_same a r out t x y is at row;
      limit = refl;
      most_threads = refl;
      monitors = monitors_kept a.monitors r.threads r.owners t x y is.monitors at (same_lists x.thread.status y.thread.status (ap (λ (z : Thread). z.status) row));
      permits = permits;
      interrupts = interrupts;
      unnamed = refl;
      time = refl;
      places = refl;
      wheel = wheel_same a r out t x y is at (ap (λ (z : Thread). deadline_in z.status) row);
    })
    (kept_put a.frozen.items r out t x y at is.kept (still_kept t (out t) x y (slice_get a.frozen.items t) (ap (λ (z : Thread). z.status) row) frames)))

-- the flags that a thread has after a change of it
pub record HasFlags (a : ProgramState) (flags : Flags) (t : ℕ) (y : JavaThread) : Type 0 where
  pub permits : flags.permits ≡ slice_set a.wakes.permits t y.permit
  pub interrupts : flags.interrupts ≡ slice_set a.wakes.interrupts t y.interrupted

abbrev pub with_permit_as : Bool → JavaThread → JavaThread
with_permit_as permit x = record x { permit = permit }

abbrev pub with_interrupt_as : Bool → JavaThread → JavaThread
with_interrupt_as interrupted x = record x { interrupted = interrupted }

pub permit_flags : (a : ProgramState) (flags : Flags) (r : State) (out : ℕ → Bool) (t : ℕ) (x : JavaThread) (permit : Bool) → IsState a r out → slice_get r.threads t ≡ Some x
    → flags ≡ record a.wakes { permits = slice_set a.wakes.permits t permit } → HasFlags a flags t (with_permit_as permit x)
permit_flags a flags r out t x permit is at set =
    record { permits = ap (λ (fs : Flags). fs.permits) set; interrupts = ap (λ (fs : Flags). fs.interrupts) set ∙ interrupts_same a r out t x x.interrupted is at refl }

pub interrupt_flags : (a : ProgramState) (flags : Flags) (r : State) (out : ℕ → Bool) (t : ℕ) (x : JavaThread) (interrupted : Bool) → IsState a r out → slice_get r.threads t ≡ Some x
    → flags ≡ record a.wakes { interrupts = slice_set a.wakes.interrupts t interrupted } → HasFlags a flags t (with_interrupt_as interrupted x)
interrupt_flags a flags r out t x interrupted is at set =
    record { permits = ap (λ (fs : Flags). fs.permits) set ∙ permits_same a r out t x x.permit is at refl; interrupts = ap (λ (fs : Flags). fs.interrupts) set }

-- ---- a request that takes a flag of its own thread was answered

own_flag_answers : (w : World) (request : ThreadRequest) (t : ℕ) (a : ProgramState) (flags : Flags) (reply : Reply) (change : JavaThread → JavaThread)
    → ((x : JavaThread) → (change x).thread ≡ x.thread) → ((x : JavaThread) → (change x).frames ≡ x.frames)
    → ((r : State) (out : ℕ → Bool) (x : JavaThread) → IsState a r out → slice_get r.threads t ≡ Some x → HasFlags a flags t (change x))
    → ((r : State) (out : ℕ → Bool) (x : JavaThread) (k : Asking) → IsState a r out → slice_get r.threads t ≡ Some x → asked w r t k (request_of request) ≡ replied w (with_thread r t change) t k reply)
    → Answers w request (OthersStay t) t a (record a { wakes = flags }) reply
own_flag_answers w request t a flags reply change row frames has each r out before is at =
    let x : JavaThread = at.thread in
    let next : State = record r { threads = slice_set r.threads t (change x) } in
    let f = has r out x is at.at in
    record {
      state = next;
      same = λ k. each r out x k is at.at ∙ ap (λ s. replied w s t k reply) (thread_is r t change x at.at);
      is = flags_put a flags r out t x (change x) is at.at (row x) (frames x) f.permits f.interrupts;
      runs = record { thread = change x; at = get_set r.threads t x (change x) at.at; status = ap (λ (z : Thread). z.status) (row x) ∙ at.status; has = frames x ∙ at.has };
      others = others_same t r next (λ u ne. set_other r.threads t u (change x) ne) refl refl;
    }

pub permit_answers : (w : World) (request : ThreadRequest) (t : ℕ) (a : ProgramState) (flags : Flags) (had : Bool) (reply : Reply) → IsPermitTaken t had a.wakes flags
    → ((r : State) (out : ℕ → Bool) (x : JavaThread) (k : Asking) → IsState a r out → slice_get r.threads t ≡ Some x
    → asked w r t k (request_of request) ≡ replied w (with_thread r t (with_permit_as false)) t k reply)
    → Answers w request (OthersStay t) t a (record a { wakes = flags }) reply
permit_answers w request t a flags had reply taken each =
    own_flag_answers w request t a flags reply (with_permit_as false) (λ x. refl) (λ x. refl) (λ r out x is at. permit_flags a flags r out t x false is at taken.after) each

pub interrupt_answers : (w : World) (request : ThreadRequest) (t : ℕ) (a : ProgramState) (flags : Flags) (had : Bool) (reply : Reply) → IsInterruptTaken t had a.wakes flags
    → ((r : State) (out : ℕ → Bool) (x : JavaThread) (k : Asking) → IsState a r out → slice_get r.threads t ≡ Some x
    → asked w r t k (request_of request) ≡ replied w (with_thread r t (with_interrupt_as false)) t k reply)
    → Answers w request (OthersStay t) t a (record a { wakes = flags }) reply
interrupt_answers w request t a flags had reply taken each =
    own_flag_answers w request t a flags reply (with_interrupt_as false) (λ x. refl) (λ x. refl) (λ r out x is at. interrupt_flags a flags r out t x false is at taken.after) each

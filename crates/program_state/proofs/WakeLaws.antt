-- Permits and interrupts for a thread.
use Rattle.std.proofs.Common.{◌≡◌, ◌≢◌, ◌⊎◌, inl, inr, eqb, ℕ, ◌||◌, Bool, true, false, Option, Some, None, refl, ap, sym, subst, ◌∙◌}
use Rattle.std.specs.Prelude.{slice_get, slice_set, if◌then◌else◌}
use Rattle.std.proofs.Math.ListN.{length-set}
use Rattle.std.proofs.lemmas.Bool.Decides.{eqb_tells}
use Rattle.wakes.specs.Flags.{Flags}
use Rattle.std.specs.Option.{option_map_or}
use Rattle.vthread_state.specs.declared.phase.Phase.{Phase}
use Rattle.vthread_state.specs.declared.phase.Wake.TheVariants.{Interrupted}
use Rattle.vthread_state.specs.declared.thread.Status.{Status}
use Rattle.vthread_state.specs.declared.thread.Status.TheVariants.{New, Live, Done}
use Rattle.vthread_state.specs.declared.thread.Thread.{Thread}
use Rattle.vthread_state.specs.Threads.{thread_at}
use Rattle.link_model.specs.World.{World}
use Rattle.ref_model.specs.Asking.{Asking, gives_back, goes}
use Rattle.ref_model.specs.ObjectNatives.{boolean}
use Rattle.ref_model.specs.Ending.{is_live}
use Rattle.ref_model.specs.Requesting.{asked, thread_interrupted, thread_unparked}
use Rattle.ref_model.specs.Requests.{request_of}
use Rattle.ref_model.specs.State.{JavaThread, State, with_thread}
use Rattle.ref_model.specs.Looks.{spot_in, spot_of}
use Rattle.ref_model.specs.Waiting.{status_woken, thread_woken}
use Rattle.schedule_model.specs.Look.{absent, is_in_line, is_in_wait_list}
use Rattle.ref_model.specs.declared.request.ThreadRequest.{ThreadRequest}
use Rattle.ref_model.specs.declared.request.ThreadRequest.TheVariants as requests
use Rattle.ref_model.proofs.StateLaws.{get_set, set_same}
use Rattle.schedule_soundness.specs.PutLaws.{OthersStay, OthersStayBeside}
use Rattle.schedule_soundness.proofs.ThreadLists.{set_other}
use Rattle.program_state.specs.declared.reply.Reply.{Reply}
use Rattle.program_state.specs.declared.reply.Reply.TheVariants as replies
use Rattle.program_state.specs.declared.state.ProgramState.{ProgramState}
use Rattle.program_state.specs.Replies.{Answers}
use Rattle.program_state.specs.Monitors.{spot_at}
use Rattle.program_state.specs.States.{IsState}
use Rattle.program_state.specs.Steps.{IsWoken, gets, leaves_others, tells}
use Rattle.program_state.specs.Waking.{IsInterruptTaken, LeavesWoken, flag_at, woken_in}
use Rattle.program_state.proofs.StateLaws.{others_same, row_back, stays_same, thread_is}
use Rattle.program_state.proofs.SeatLaws.{woken_same}
use Rattle.program_state.proofs.RowLaws.{answers_same, answers_so}
use Rattle.program_state.proofs.ChangeLaws.{changed_runs}
use Rattle.program_state.proofs.FlagLaws.{HasFlags, flags_put, interrupt_answers, interrupt_flags, interrupt_had, interrupt_is, permit_flags, with_interrupt_as, with_permit_as}

-- ---- what is done to a thread

-- A flag is set in a live thread that waits on no monitor, and stays set where it was.
pub record SetsFlag (change set : JavaThread → JavaThread) : Type 0 where
  pub live : (x : JavaThread) (phase : Phase) → x.thread.status ≡ Live phase → is_in_wait_list (spot_in phase) ≡ false → change x ≡ set x
  pub idle : (x : JavaThread) → is_live x.thread.status ≡ false → change x ≡ x
  pub row : (x : JavaThread) → (set x).thread ≡ x.thread
  pub frames : (x : JavaThread) → (set x).frames ≡ x.frames
  pub permit : (x : JavaThread) → x.permit ≡ true → (set x).permit ≡ true
  pub interrupted : (x : JavaThread) → x.interrupted ≡ true → (set x).interrupted ≡ true

unparks_live : (x : JavaThread) (phase : Phase) → x.thread.status ≡ Live phase → thread_unparked x ≡ with_permit_as true x
unparks_live x phase status = ap (λ b. if b then with_permit_as true x else x) (ap is_live status)

pub unparks_so : SetsFlag thread_unparked (with_permit_as true)
unparks_so = record {
  live = λ x phase status free. unparks_live x phase status;
  idle = λ x idle. ap (λ b. if b then with_permit_as true x else x) idle;
  row = λ x. refl;
  frames = λ x. refl;
  permit = λ x had. refl;
  interrupted = λ x had. had;
}

interrupts_live : (x : JavaThread) (phase : Phase) → x.thread.status ≡ Live phase → is_in_wait_list (spot_in phase) ≡ false → thread_interrupted x ≡ with_interrupt_as true x
interrupts_live x phase status free =
    ap (λ b. if b then record (thread_woken Interrupted x) { interrupted = true } else x) (ap is_live status)
    ∙ ap (λ s. record x { thread = record x.thread { status = status_woken Interrupted s }; interrupted = true }) status
    ∙ ap (λ k. record x { thread = record x.thread { status = Live k }; interrupted = true }) (woken_same Interrupted phase free)
    ∙ ap (λ s. record x { thread = record x.thread { status = s }; interrupted = true }) (sym status)

pub interrupts_so : SetsFlag thread_interrupted (with_interrupt_as true)
interrupts_so = record {
  live = interrupts_live;
  idle = λ x idle. ap (λ b. if b then record (thread_woken Interrupted x) { interrupted = true } else x) idle;
  row = λ x. refl;
  frames = λ x. refl;
  permit = λ x had. had;
  interrupted = λ x had. refl;
}

-- ---- what others see

pub others_beside : (t u : ℕ) (r : State) (y : JavaThread) → OthersStayBeside t u r (record r { threads = slice_set r.threads u y })
others_beside t u r y =
    record { threads = λ v ne other. stays_same (slice_get r.threads v) (slice_get (slice_set r.threads u y) v) (set_other r.threads u v y other); owners = refl; now = refl }

is_woken : (u : ℕ) (r : State) (x : JavaThread) (change set : JavaThread → JavaThread) → SetsFlag change set → slice_get r.threads u ≡ Some x → is_live x.thread.status ≡ true
    → IsWoken u r (record r { threads = slice_set r.threads u (set x) })
is_woken u r x change set so at live =
    record {
      old = x;
      new = set x;
      was = at;
      is = get_set r.threads u x (set x) at;
      live = live;
      status = ap (λ (z : Thread). z.status) (so.row x);
      permit = so.permit x;
      interrupted = so.interrupted x;
    }

-- where the thread is, in the state
spot_there : (r : State) (u : ℕ) (x : JavaThread) (phase : Phase) → slice_get r.threads u ≡ Some x → x.thread.status ≡ Live phase → spot_at r.threads u ≡ spot_in phase
spot_there r u x phase at status = ap (λ o. option_map_or (λ (z : JavaThread). spot_of z.thread.status) o absent) at ∙ ap spot_of status

leaves_woken : (t u : ℕ) (r : State) (x : JavaThread) (phase : Phase) (change set : JavaThread → JavaThread) (woken : Option ℕ) → SetsFlag change set → slice_get r.threads u ≡ Some x
    → x.thread.status ≡ Live phase → woken ≡ woken_in t u phase → LeavesWoken t woken r (record r { threads = slice_set r.threads u (set x) })
leaves_woken t u r x phase change set woken so at status is = subst (λ o. LeavesWoken t o r next) (sym is) (by (eqb_tells u t))
  where
    next : State
    next = record r { threads = slice_set r.threads u (set x) }

    live : is_live x.thread.status ≡ true
    live = ap is_live status

    spot : spot_at r.threads u ≡ spot_in phase
    spot = spot_there r u x phase at status

    in_line : (b : Bool) → is_in_line (spot_in phase) ≡ b → u ≢ t → LeavesWoken t (if b then None else Some u) r next
    in_line true e ne = tells u (record { other = ne; others = others_beside t u r (set x); told = is_woken u r x change set so at live; in_line = ap is_in_line spot ∙ e })
    in_line false e ne =
        record { other = ne; others = others_beside t u r (set x); woken = gets (is_woken u r x change set so at live) (ap is_in_line spot ∙ e); count = length-set r.threads u (set x) }

    by : ((eqb u t ≡ true) × (u ≡ t)) ⊎ ((eqb u t ≡ false) × (u ≢ t)) → LeavesWoken t (woken_in t u phase) r next
    by (inl me) =
        subst (λ b. LeavesWoken t (if b || is_in_line (spot_in phase) then None else Some u) r next) (sym me.0)
        (leaves_others (others_same t r next (λ v ne. set_other r.threads u v (set x) (λ same. ne (same ∙ me.1))) refl refl))
    by (inr other) =
        subst (λ b. LeavesWoken t (if b || is_in_line (spot_in phase) then None else Some u) r next) (sym other.0) (in_line (is_in_line (spot_in phase)) refl other.1)

-- ---- the answers

pub idle_status : (status : Status) → ((phase : Phase) → status ≡ Live phase → ⊥) → is_live status ≡ false
idle_status New other = refl
idle_status (Live phase) other = absurd (other phase refl)
idle_status Done other = refl

-- A live thread is given a flag.
pub wake_answers : (w : World) (request : ThreadRequest) (t u : ℕ) (a : ProgramState) (flags : Flags) (row : Thread) (phase : Phase) (change set : JavaThread → JavaThread) (woken : Option ℕ)
    → thread_at a.threads u ≡ Some row → row.status ≡ Live phase → ((x : JavaThread) → x.thread.status ≡ Live phase → change x ≡ set x) → SetsFlag change set → woken ≡ woken_in t u phase
    → ((r : State) (out : ℕ → Bool) (x : JavaThread) → IsState a r out → slice_get r.threads u ≡ Some x → HasFlags a flags u (set x))
    → ((r : State) (k : Asking) → asked w r t k (request_of request) ≡ goes (with_thread r u change) t k)
    → Answers w request (LeavesWoken t woken) t a (record a { wakes = flags }) replies.Goes
wake_answers w request t u a flags row phase change set woken there live sets so told has each r out frames is at =
    let x = row_back a.threads r u row is.rows there in
    let alive : x.0.thread.status ≡ Live phase = ap (λ (z : Thread). z.status) x.2 ∙ live in
    let f = has r out x.0 is x.1 in
    record {
      state = record r { threads = slice_set r.threads u (set x.0) };
      same = λ k. each r k ∙ ap (λ s. goes s t k)
          (thread_is r u change x.0 x.1 ∙ ap (λ y. record r { threads = slice_set r.threads u y }) (sets x.0 alive));
      is = flags_put a flags r out u x.0 (set x.0) is x.1 (so.row x.0) (so.frames x.0) f.permits f.interrupts;
      runs = changed_runs r t u x.0 (set x.0) frames x.1 (ap (λ (z : Thread). z.status) (so.row x.0)) (so.frames x.0) at;
      others = leaves_woken t u r x.0 phase change set woken so x.1 alive told;
    }

-- To one that isn't live nothing happens.
pub idle_answers : (w : World) (request : ThreadRequest) (t u : ℕ) (a : ProgramState) (row : Thread) (change set : JavaThread → JavaThread)
    → thread_at a.threads u ≡ Some row → is_live row.status ≡ false → SetsFlag change set
    → ((r : State) (k : Asking) → asked w r t k (request_of request) ≡ goes (with_thread r u change) t k)
    → Answers w request (LeavesWoken t None) t a a replies.Goes
idle_answers w request t u a row change set there idle so each =
    answers_so w request t a a replies.Goes (OthersStay t) (LeavesWoken t None) (λ r q stay. leaves_others stay)
    (answers_same w request t a replies.Goes (λ r out own k is at.
    let x = row_back a.threads r u row is.rows there in
    each r k ∙ ap (λ s. goes s t k)
    (thread_is r u change x.0 x.1 ∙ ap (λ y. record r { threads = slice_set r.threads u y }) (so.idle x.0 (ap (λ (z : Thread). is_live z.status) x.2 ∙ idle))
    ∙ ap (λ ts. record r { threads = ts }) (set_same r.threads u x.0 x.1))))

pub unpark_wakes : (w : World) (t u : ℕ) (a : ProgramState) (flags : Flags) (row : Thread) (phase : Phase) (woken : Option ℕ) → thread_at a.threads u ≡ Some row → row.status ≡ Live phase
    → flags ≡ record a.wakes { permits = slice_set a.wakes.permits u true } → woken ≡ woken_in t u phase
    → Answers w (requests.Unparks u) (LeavesWoken t woken) t a (record a { wakes = flags }) replies.Goes
unpark_wakes w t u a flags row phase woken there live set told =
    wake_answers w (requests.Unparks u) t u a flags row phase thread_unparked (with_permit_as true) woken there live (λ x status. unparks_live x phase status) unparks_so told
    (λ r out x is at. permit_flags a flags r out u x true is at set) (λ r k. refl)

pub unpark_idle : (w : World) (t u : ℕ) (a : ProgramState) (row : Thread) → thread_at a.threads u ≡ Some row → is_live row.status ≡ false
    → Answers w (requests.Unparks u) (LeavesWoken t None) t a a replies.Goes
unpark_idle w t u a row there idle = idle_answers w (requests.Unparks u) t u a row thread_unparked (with_permit_as true) there idle unparks_so (λ r k. refl)

pub interrupt_wakes : (w : World) (t u : ℕ) (a : ProgramState) (flags : Flags) (row : Thread) (phase : Phase) (woken : Option ℕ) → thread_at a.threads u ≡ Some row → row.status ≡ Live phase
    → is_in_wait_list (spot_in phase) ≡ false → flags ≡ record a.wakes { interrupts = slice_set a.wakes.interrupts u true } → woken ≡ woken_in t u phase
    → Answers w (requests.Interrupts u) (LeavesWoken t woken) t a (record a { wakes = flags }) replies.Goes
interrupt_wakes w t u a flags row phase woken there live free set told =
    wake_answers w (requests.Interrupts u) t u a flags row phase thread_interrupted (with_interrupt_as true) woken there live (λ x status. interrupts_live x phase status free) interrupts_so told
    (λ r out x is at. interrupt_flags a flags r out u x true is at set) (λ r k. refl)

pub interrupt_idle : (w : World) (t u : ℕ) (a : ProgramState) (row : Thread) → thread_at a.threads u ≡ Some row → is_live row.status ≡ false
    → Answers w (requests.Interrupts u) (LeavesWoken t None) t a a replies.Goes
interrupt_idle w t u a row there idle = idle_answers w (requests.Interrupts u) t u a row thread_interrupted (with_interrupt_as true) there idle interrupts_so (λ r k. refl)

-- ---- the interrupt status is told

pub interrupt_told : (w : World) (t u : ℕ) (a : ProgramState) (told : Bool) (reply : Reply) → told ≡ flag_at a.wakes.interrupts u → reply ≡ replies.Gives (boolean told)
    → Answers w (requests.TellsInterrupt u) (OthersStay t) t a a reply
interrupt_told w t u a told reply flag gives =
    subst (λ y. Answers w (requests.TellsInterrupt u) (OthersStay t) t a a y) (sym gives)
    (answers_same w (requests.TellsInterrupt u) t a (replies.Gives (boolean told))
    (λ r out x k is at. ap (λ b. gives_back r t k (boolean b)) (sym (interrupt_is a r out u is) ∙ sym flag)))

pub interrupt_cleared : (w : World) (t : ℕ) (a : ProgramState) (flags : Flags) (had : Bool) (reply : Reply) → IsInterruptTaken t had a.wakes flags → reply ≡ replies.Gives (boolean had)
    → Answers w requests.TakesInterrupt (OthersStay t) t a (record a { wakes = flags }) reply
interrupt_cleared w t a flags had reply taken gives =
    subst (λ y. Answers w requests.TakesInterrupt (OthersStay t) t a (record a { wakes = flags }) y) (sym gives)
    (interrupt_answers w requests.TakesInterrupt t a flags had (replies.Gives (boolean had)) taken
    (λ r out x k is at. ap (λ b. gives_back (with_thread r t (with_interrupt_as false)) t k (boolean b)) (interrupt_had a r out t had flags is taken)))

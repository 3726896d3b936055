-- The answers to sleep, join and park.
use Rattle.std.proofs.Common.{◌≡◌, ℕ, ◌==◌, ℤ, Bool, true, false, Option, Some, refl, ap, sym, ◌∙◌}
use Rattle.std.specs.Prelude.{slice_get, if◌then◌else◌, unsigned_abs}
use Rattle.items.specs.Options.{◌>>=◌}
use Rattle.items.proofs.Binds.{bind_is}
use Rattle.wakes.specs.Flags.{Flags}
use Rattle.vthread_state.specs.declared.phase.Phase.TheVariants.{Parked, Asleep, Joining}
use Rattle.vthread_state.specs.declared.thread.Status.{Status}
use Rattle.vthread_state.specs.declared.thread.Status.TheVariants.{New, Live, Done}
use Rattle.vthread_state.specs.declared.thread.Thread.{Thread}
use Rattle.vthread_state.specs.Threads.{thread_at}
use Rattle.link_model.specs.World.{World}
use Rattle.ref_model.specs.declared.exception.Exception.TheVariants as exceptions
use Rattle.ref_model.specs.Asking.{Asking, goes, thrown_interrupted, waits}
use Rattle.ref_model.specs.Ending.{is_live}
use Rattle.ref_model.specs.Requesting.{asked, joined, parked, slept, unless_interrupted, unless_negative}
use Rattle.ref_model.specs.Requests.{sleeps, joins, parks}
use Rattle.ref_model.specs.State.{State, has_permit, is_interrupted, with_permit}
use Rattle.ref_model.specs.Throwing.{raised}
use Rattle.ref_model.specs.Waiting.{deadline_of, is_negative, is_over, millis_after, park_deadline}
use Rattle.ref_model.specs.declared.request.ThreadRequest.TheVariants as requests
use Rattle.schedule_soundness.specs.PutLaws.{OthersStay}
use Rattle.program_state.specs.declared.reply.Reply.TheVariants as replies
use Rattle.program_state.specs.declared.state.ProgramState.{ProgramState}
use Rattle.program_state.specs.Replies.{Answers}
use Rattle.program_state.specs.States.{IsState}
use Rattle.program_state.specs.Waking.{IsInterruptTaken, IsPermitTaken, flag_at}
use Rattle.program_state.proofs.StateLaws.{row_back}
use Rattle.program_state.proofs.RowLaws.{answers_same}
use Rattle.program_state.proofs.FlagLaws.{interrupt_answers, interrupt_had, interrupt_is, no_interrupt_taken, no_permit_taken, permit_answers, permit_had, untaken}

-- ---- the tests that come first

negative_is : (w : World) (r : State) (t : ℕ) (time : Option ℤ) (otherwise : Option State) → is_negative time ≡ true → unless_negative w r t time otherwise ≡ raised w r t exceptions.IllegalArgumentException
negative_is w r t time otherwise e = ap (λ b. if b then raised w r t exceptions.IllegalArgumentException else otherwise) e

negative_not : (w : World) (r : State) (t : ℕ) (time : Option ℤ) (otherwise : Option State) → is_negative time ≡ false → unless_negative w r t time otherwise ≡ otherwise
negative_not w r t time otherwise e = ap (λ b. if b then raised w r t exceptions.IllegalArgumentException else otherwise) e

interrupted_so : (w : World) (r : State) (t : ℕ) (had : Bool) (otherwise : Option State) → is_interrupted r t ≡ had
    → unless_interrupted w r t otherwise ≡ (if had then thrown_interrupted w r t else otherwise)
interrupted_so w r t had otherwise e = ap (λ b. if b then thrown_interrupted w r t else otherwise) e

-- ---- sleep

pub sleep_throws : (w : World) (t : ℕ) (a : ProgramState) (millis : ℤ) → is_negative (Some millis) ≡ true
    → Answers w (requests.Sleeps millis) (OthersStay t) t a a (replies.Throws exceptions.IllegalArgumentException)
sleep_throws w t a millis negative =
    answers_same w (requests.Sleeps millis) t a (replies.Throws exceptions.IllegalArgumentException)
    (λ r out x k is at. negative_is w r t (Some millis) (unless_interrupted w r t (slept r t k millis)) negative)

sleep_so : (w : World) (r : State) (t : ℕ) (k : Asking) (millis : ℤ) (had : Bool) → is_negative (Some millis) ≡ false → is_interrupted r t ≡ had
    → asked w r t k (sleeps millis) ≡ (if had then thrown_interrupted w r t else slept r t k millis)
sleep_so w r t k millis had positive interrupted =
    negative_not w r t (Some millis) (unless_interrupted w r t (slept r t k millis)) positive ∙ interrupted_so w r t had (slept r t k millis) interrupted

pub sleep_interrupted : (w : World) (t : ℕ) (a : ProgramState) (flags : Flags) (millis : ℤ) → is_negative (Some millis) ≡ false → IsInterruptTaken t true a.wakes flags
    → Answers w (requests.Sleeps millis) (OthersStay t) t a (record a { wakes = flags }) (replies.Throws exceptions.InterruptedException)
sleep_interrupted w t a flags millis positive taken =
    interrupt_answers w (requests.Sleeps millis) t a flags true (replies.Throws exceptions.InterruptedException) taken
    (λ r out x k is at. sleep_so w r t k millis true positive (interrupt_had a r out t true flags is taken))

slept_so : (r : State) (t : ℕ) (k : Asking) (millis : ℤ) (zero : Bool) → (unsigned_abs millis == 0) ≡ zero
    → slept r t k millis ≡ (if zero then goes r t k else waits r t (Asleep (millis_after r.now millis)))
slept_so r t k millis zero e = ap (λ b. if b then goes r t k else waits r t (Asleep (millis_after r.now millis))) e

pub sleep_goes : (w : World) (t : ℕ) (a : ProgramState) (flags : Flags) (millis : ℤ) → is_negative (Some millis) ≡ false → IsInterruptTaken t false a.wakes flags → (unsigned_abs millis == 0) ≡ true
    → Answers w (requests.Sleeps millis) (OthersStay t) t a (record a { wakes = flags }) replies.Goes
sleep_goes w t a flags millis positive taken zero =
    untaken w (requests.Sleeps millis) (OthersStay t) t a flags replies.Goes (no_interrupt_taken t a.wakes flags taken)
    (answers_same w (requests.Sleeps millis) t a replies.Goes
    (λ r out x k is at. sleep_so w r t k millis false positive (interrupt_had a r out t false flags is taken) ∙ slept_so r t k millis true zero))

pub sleep_waits : (w : World) (t : ℕ) (a : ProgramState) (flags : Flags) (millis : ℤ) (deadline : ℕ) → is_negative (Some millis) ≡ false → IsInterruptTaken t false a.wakes flags
    → (unsigned_abs millis == 0) ≡ false → deadline ≡ millis_after a.time millis
    → Answers w (requests.Sleeps millis) (OthersStay t) t a (record a { wakes = flags }) (replies.Waits (Asleep deadline))
sleep_waits w t a flags millis deadline positive taken some until =
    untaken w (requests.Sleeps millis) (OthersStay t) t a flags (replies.Waits (Asleep deadline)) (no_interrupt_taken t a.wakes flags taken)
    (answers_same w (requests.Sleeps millis) t a (replies.Waits (Asleep deadline))
    (λ r out x k is at. sleep_so w r t k millis false positive (interrupt_had a r out t false flags is taken) ∙ slept_so r t k millis false some
    ∙ ap (λ n. waits r t (Asleep n)) (ap (λ now. millis_after now millis) (sym is.now) ∙ sym until)))

-- ---- join

pub join_throws : (w : World) (t u : ℕ) (a : ProgramState) (time : Option ℤ) → is_negative time ≡ true
    → Answers w (requests.Joins u time) (OthersStay t) t a a (replies.Throws exceptions.IllegalArgumentException)
join_throws w t u a time negative =
    answers_same w (requests.Joins u time) t a (replies.Throws exceptions.IllegalArgumentException)
    (λ r out x k is at. negative_is w r t time (slice_get r.threads u >>= λ z. joined w r t k u time z.thread.status) negative)

join_of : (w : World) (r : State) (t u : ℕ) (k : Asking) (a : ProgramState) (out : ℕ → Bool) (time : Option ℤ) (row : Thread) → IsState a r out → thread_at a.threads u ≡ Some row
    → is_negative time ≡ false → asked w r t k (joins u time) ≡ joined w r t k u time row.status
join_of w r t u k a out time row is there positive =
    let x = row_back a.threads r u row is.rows there in
    negative_not w r t time (slice_get r.threads u >>= λ z. joined w r t k u time z.thread.status) positive
    ∙ bind_is (slice_get r.threads u) (λ z. joined w r t k u time z.thread.status) x.0 (joined w r t k u time row.status) x.1
    (ap (λ (z : Thread). joined w r t k u time z.status) x.2)

joined_idle : (w : World) (r : State) (t u : ℕ) (k : Asking) (time : Option ℤ) (status : Status) → is_live status ≡ false → joined w r t k u time status ≡ goes r t k
joined_idle w r t u k time New idle = refl
joined_idle w r t u k time (Live phase) idle = absurd cc
joined_idle w r t u k time Done idle = refl

joined_live : (w : World) (r : State) (t u : ℕ) (k : Asking) (time : Option ℤ) (had : Bool) → is_interrupted r t ≡ had → (status : Status) → is_live status ≡ true
    → joined w r t k u time status ≡ (if had then thrown_interrupted w r t else waits r t (Joining u (deadline_of r.now time)))
joined_live w r t u k time had interrupted New live = absurd cc
joined_live w r t u k time had interrupted (Live phase) live = interrupted_so w r t had (waits r t (Joining u (deadline_of r.now time))) interrupted
joined_live w r t u k time had interrupted Done live = absurd cc

pub join_goes : (w : World) (t u : ℕ) (a : ProgramState) (time : Option ℤ) (row : Thread) → is_negative time ≡ false → thread_at a.threads u ≡ Some row → is_live row.status ≡ false
    → Answers w (requests.Joins u time) (OthersStay t) t a a replies.Goes
join_goes w t u a time row positive there idle =
    answers_same w (requests.Joins u time) t a replies.Goes
    (λ r out x k is at. join_of w r t u k a out time row is there positive ∙ joined_idle w r t u k time row.status idle)

pub join_interrupted : (w : World) (t u : ℕ) (a : ProgramState) (flags : Flags) (time : Option ℤ) (row : Thread) → is_negative time ≡ false → thread_at a.threads u ≡ Some row → is_live row.status ≡ true
    → IsInterruptTaken t true a.wakes flags
    → Answers w (requests.Joins u time) (OthersStay t) t a (record a { wakes = flags }) (replies.Throws exceptions.InterruptedException)
join_interrupted w t u a flags time row positive there live taken =
    interrupt_answers w (requests.Joins u time) t a flags true (replies.Throws exceptions.InterruptedException) taken
    (λ r out x k is at. join_of w r t u k a out time row is there positive ∙ joined_live w r t u k time true (interrupt_had a r out t true flags is taken) row.status live)

pub join_waits : (w : World) (t u : ℕ) (a : ProgramState) (flags : Flags) (time : Option ℤ) (deadline : Option ℕ) (row : Thread) → is_negative time ≡ false → thread_at a.threads u ≡ Some row
    → is_live row.status ≡ true → IsInterruptTaken t false a.wakes flags → deadline ≡ deadline_of a.time time
    → Answers w (requests.Joins u time) (OthersStay t) t a (record a { wakes = flags }) (replies.Waits (Joining u deadline))
join_waits w t u a flags time deadline row positive there live taken until =
    untaken w (requests.Joins u time) (OthersStay t) t a flags (replies.Waits (Joining u deadline)) (no_interrupt_taken t a.wakes flags taken)
    (answers_same w (requests.Joins u time) t a (replies.Waits (Joining u deadline))
    (λ r out x k is at. join_of w r t u k a out time row is there positive ∙ joined_live w r t u k time false (interrupt_had a r out t false flags is taken) row.status live
    ∙ ap (λ d. waits r t (Joining u d)) (ap (λ now. deadline_of now time) (sym is.now) ∙ sym until)))

-- ---- park

pub park_over : (w : World) (t : ℕ) (a : ProgramState) (time : Option ℤ) → is_over time ≡ true → Answers w (requests.Parks time) (OthersStay t) t a a replies.Goes
park_over w t a time over =
    answers_same w (requests.Parks time) t a replies.Goes (λ r out x k is at. ap (λ b. if b then goes r t k else parked r t k time) over)

park_so : (w : World) (r : State) (t : ℕ) (k : Asking) (time : Option ℤ) (had : Bool) → is_over time ≡ false → has_permit r t ≡ had
    → asked w r t k (parks time)
    ≡ (if had then goes (with_permit r t false) t k else (if is_interrupted r t then goes r t k else waits r t (Parked (park_deadline r.now time))))
park_so w r t k time had more permit =
    ap (λ b. if b then goes r t k else parked r t k time) more
    ∙ ap (λ b. if b then goes (with_permit r t false) t k else (if is_interrupted r t then goes r t k else waits r t (Parked (park_deadline r.now time)))) permit

pub park_permitted : (w : World) (t : ℕ) (a : ProgramState) (flags : Flags) (time : Option ℤ) → is_over time ≡ false → IsPermitTaken t true a.wakes flags
    → Answers w (requests.Parks time) (OthersStay t) t a (record a { wakes = flags }) replies.Goes
park_permitted w t a flags time more taken =
    permit_answers w (requests.Parks time) t a flags true replies.Goes taken
    (λ r out x k is at. park_so w r t k time true more (permit_had a r out t true flags is taken))

park_interrupt : (a : ProgramState) (r : State) (out : ℕ → Bool) (t : ℕ) (flags : Flags) (had : Bool) → IsState a r out → IsPermitTaken t false a.wakes flags → flag_at flags.interrupts t ≡ had
    → is_interrupted r t ≡ had
park_interrupt a r out t flags had is taken told =
    sym (interrupt_is a r out t is) ∙ ap (λ (fs : Flags). flag_at fs.interrupts t) (sym (no_permit_taken t a.wakes flags taken)) ∙ told

parked_so : (r : State) (t : ℕ) (k : Asking) (time : Option ℤ) (had : Bool) → is_interrupted r t ≡ had
    → (if is_interrupted r t then goes r t k else waits r t (Parked (park_deadline r.now time))) ≡ (if had then goes r t k else waits r t (Parked (park_deadline r.now time)))
parked_so r t k time had e = ap (λ b. if b then goes r t k else waits r t (Parked (park_deadline r.now time))) e

pub park_interrupted : (w : World) (t : ℕ) (a : ProgramState) (flags : Flags) (time : Option ℤ) → is_over time ≡ false → IsPermitTaken t false a.wakes flags → flag_at flags.interrupts t ≡ true
    → Answers w (requests.Parks time) (OthersStay t) t a (record a { wakes = flags }) replies.Goes
park_interrupted w t a flags time more taken told =
    untaken w (requests.Parks time) (OthersStay t) t a flags replies.Goes (no_permit_taken t a.wakes flags taken)
    (answers_same w (requests.Parks time) t a replies.Goes
    (λ r out x k is at. park_so w r t k time false more (permit_had a r out t false flags is taken) ∙ parked_so r t k time true (park_interrupt a r out t flags true is taken told)))

pub park_waits : (w : World) (t : ℕ) (a : ProgramState) (flags : Flags) (time : Option ℤ) (deadline : Option ℕ) → is_over time ≡ false → IsPermitTaken t false a.wakes flags
    → flag_at flags.interrupts t ≡ false → deadline ≡ park_deadline a.time time
    → Answers w (requests.Parks time) (OthersStay t) t a (record a { wakes = flags }) (replies.Waits (Parked deadline))
park_waits w t a flags time deadline more taken told until =
    untaken w (requests.Parks time) (OthersStay t) t a flags (replies.Waits (Parked deadline)) (no_permit_taken t a.wakes flags taken)
    (answers_same w (requests.Parks time) t a (replies.Waits (Parked deadline))
    (λ r out x k is at. park_so w r t k time false more (permit_had a r out t false flags is taken) ∙ parked_so r t k time false (park_interrupt a r out t flags false is taken told)
    ∙ ap (λ d. waits r t (Parked d)) (ap (λ now. park_deadline now time) (sym is.now) ∙ sym until)))

-- The instruction at hand of a thread, whose frames were taken and put back.
use Rattle.std.proofs.Common.{◌≡◌, ◌<◌, ℕ, List, [], ◌∷◌, length, Option, Some, refl, ap, sym, subst, ◌∙◌, arith}
use Rattle.std.specs.Prelude.{slice_get, slice_set}
use Rattle.std.specs.Option.{option_map}
use Rattle.std.proofs.lemmas.List.{set-set}
use Rattle.items.specs.Options.{◌>>=◌}
use Rattle.items.proofs.Binds.{bind_is, some_is}
use Rattle.instruction_rows.specs.Rows.{Row, returns}
use Rattle.instruction_rows.specs.Table.{row as row_of}
use Rattle.link_model.specs.World.{World}
use Rattle.verify_types.specs.Environment.{Instruction}
use Rattle.state_model.specs.Frames.{Frame}
use Rattle.frames.specs.Frames.{top_method, top_pc}
use Rattle.ref_model.specs.Asking.{Asking}
use Rattle.ref_model.specs.Effects.{Effect, done, invokes, throws, throws_object, asks}
use Rattle.ref_model.specs.Fetch.{fetched}
use Rattle.ref_model.specs.LocalRows.{row}
use Rattle.ref_model.specs.Requesting.{asked}
use Rattle.ref_model.specs.Requests.{Request, request_of}
use Rattle.ref_model.specs.Resuming.{asking_by, asking_in}
use Rattle.ref_model.specs.State.{JavaThread, State}
use Rattle.ref_model.specs.Step.{after_effect, event_step, row_effect, row_event, row_or_event}
use Rattle.ref_model.specs.Throwing.{throwing_step}
use Rattle.ref_model.proofs.StateLaws.{get_set}
use Rattle.interp_local.specs.Fetched.{instruction_at}
use Rattle.thread_steps.specs.declared.parts.Parts.{Parts}
use Rattle.thread_steps.specs.declared.progress.PendingRequest.{PendingRequest}
use Rattle.thread_steps.specs.declared.progress.Progress.{Progress}
use Rattle.thread_steps.specs.declared.progress.Progress.TheVariants.{Stepped, Asks, Calls, Returns}
use Rattle.thread_steps.specs.Asking as asking
use Rattle.thread_steps.specs.Asking.{asking_of}
use Rattle.thread_steps.specs.Returning.{IsThread, ThrowingSteps}
use Rattle.thread_steps.specs.States as stages
use Rattle.thread_steps.specs.States.{Stage, memory_of, own_thread}
use Rattle.ref_run.specs.declared.state.RefState.{RefState}
use Rattle.ref_run.specs.States.{frames_of, state_of}
use Rattle.ref_run.specs.Steps.{HasStepped, IsCallPending, IsPending, IsProgress, IsReturnPending}
use Rattle.ref_run.specs.Taking.{IsPut, IsTaken}
use Rattle.ref_run.proofs.StageLaws.{stage_is, stage_of}

-- ---- frames that were taken and put back

-- what is left of the state, with these parts, is the stage with them
pub settled : (a mid new : RefState) (t : ℕ) (frames after : List Frame) (b : Parts) (taken : IsTaken t a frames mid) → IsPut t (record mid { memory = b }) after new
    → state_of new ≡ stages.state_of (stage_of (state_of a) t taken.thread taken.at) b after
settled a mid new t frames after b taken put =
    let x : JavaThread = taken.thread in
    let blank : JavaThread = record x { frames = [] } in
    let y : JavaThread = record x { thread = record x.thread { status = b.status }; frames = after } in
    let rows : mid.threads.items ≡ slice_set a.threads.items t blank = ap (λ (r : State). r.threads) taken.state in
    let there : slice_get mid.threads.items t ≡ Some blank = ap (λ xs. slice_get xs t) rows ∙ get_set a.threads.items t x blank taken.at in
    put blank there
    ∙ ap (λ (r : State). record r { memory = memory_of b; main_threw = b.main_threw; threads = slice_set r.threads t y }) taken.state
    ∙ ap (λ xs. record (state_of a) { memory = memory_of b; main_threw = b.main_threw; threads = xs }) (set-set a.threads.items t blank y)

-- with the parts that it had it is the state itself
pub unsettled : (a mid new : RefState) (t : ℕ) (frames after : List Frame) (b : Parts) → IsTaken t a frames mid → IsPut t (record mid { memory = b }) after new
    → b ≡ mid.memory → after ≡ frames → state_of new ≡ state_of a
unsettled a mid new t frames after b taken put same left =
    settled a mid new t frames after b taken put
    ∙ ap (λ (p : Parts). stages.state_of (stage_of (state_of a) t taken.thread taken.at) p after) (same ∙ taken.memory)
    ∙ stage_is a t taken.thread taken.at after (left ∙ taken.frames_are)

-- the frames that the thread had
pub taken_frames : (a mid : RefState) (t : ℕ) (frames : List Frame) → IsTaken t a frames mid → frames_of (state_of a) t ≡ Some frames
taken_frames a mid t frames taken =
    ap (λ o. option_map (λ (x : JavaThread). x.frames) o) taken.at ∙ ap (λ fs. Some fs) (sym taken.frames_are)

pub same_frames : (r : State) (t : ℕ) (frames others : List Frame) → frames_of r t ≡ Some frames → frames_of r t ≡ Some others → others ≡ frames
same_frames r t frames others e f = cc

pub first_of : (frames : List Frame) → 0 < length frames → (f : Frame) × (below : List Frame) × (frames ≡ f ∷ below)
first_of [] some = absurd (omega arith)
first_of (f ∷ below) some = (f, below, refl)

-- ---- the step of an instruction that asks is what its request makes of the state

inner_pair : (x y : Request × Asking) → Some x ≡ Some y → x ≡ y
inner_pair x y e = cc

effect_asks : (w : World) (r : State) (t next : ℕ) (f : Frame) (below : List Frame) (e : Effect) (x : Request × Asking) → asking_by f below next e ≡ Some x
    → after_effect w r t next f below e ≡ asked w r t x.1 x.0
effect_asks w r t next f below (done m stack) x e = absurd cc
effect_asks w r t next f below (invokes g stack) x e = absurd cc
effect_asks w r t next f below (throws k) x e = absurd cc
effect_asks w r t next f below (throws_object o) x e = absurd cc
effect_asks w r t next f below (asks q stack) x e =
    ap (λ (y : Request × Asking). asked w r t y.1 y.0) (inner_pair (q, record { frame = f; below = below; next = next; stack = stack }) x e)

row_asks : (w : World) (i : Instruction) (act : Row) (r : State) (t : ℕ) (f : Frame) (below : List Frame) (x : Request × Asking)
    → (row_effect w i act r.memory (length (f ∷ below)) f >>= asking_by f below i.instr.next) ≡ Some x → row_event w i act r t f below ≡ asked w r t x.1 x.0
row_asks w i (returns kind) r t f below x e = absurd cc
row_asks w i act r t f below x e =
    let y = some_is (row_effect w i act r.memory (length (f ∷ below)) f) (asking_by f below i.instr.next) x e in
    bind_is (row_effect w i act r.memory (length (f ∷ below)) f) (after_effect w r t i.instr.next f below) y.0 (asked w r t x.1 x.0) y.1
    (effect_asks w r t i.instr.next f below y.0 x y.2)

pub event_asks : (w : World) (r : State) (t : ℕ) (f : Frame) (below : List Frame) (x : Request × Asking) → asking_in w r.memory (f ∷ below) ≡ Some x
    → event_step w r t (f ∷ below) ≡ asked w r t x.1 x.0
event_asks w r t f below x e =
    let i = some_is (fetched w f) (λ i. row_effect w i (row_of i.instr.op) r.memory (length (f ∷ below)) f >>= asking_by f below i.instr.next) x e in
    bind_is (fetched w f) (λ i. row_event w i (row_of i.instr.op) r t f below) i.0 (asked w r t x.1 x.0) i.1 (row_asks w i.0 (row_of i.0.instr.op) r t f below x i.2)

pub pending_step : (w : World) (r : State) (t : ℕ) (q : PendingRequest) (frames : List Frame) (p : IsPending w r q frames)
    → row_or_event w r t frames (row w frames) ≡ asked w r t (asking_of q p.frame p.below) (request_of q.request)
pending_step w r t q frames p =
    ap (row_or_event w r t frames) p.event ∙ ap (event_step w r t) p.top
    ∙ event_asks w r t p.frame p.below (request_of q.request, asking_of q p.frame p.below) (ap (asking_in w r.memory) (sym p.top) ∙ p.asks)

-- ---- the instruction of the top frame

pub fetched_at : (w : World) (frames : List Frame) (i : Instruction) → instruction_at w (top_method frames) (top_pc frames) ≡ Some i
    → (f : Frame) (below : List Frame) → frames ≡ f ∷ below → fetched w f ≡ Some i
fetched_at w frames i at f below top = ap (λ fs. instruction_at w (top_method fs) (top_pc fs)) (sym top) ∙ at

-- ---- what became of the instruction

pub progress_made : (w : World) (i : Instruction) (a mid new : RefState) (t : ℕ) (frames after : List Frame) (b : Parts) (progress : Progress) → IsTaken t a frames mid
    → IsPut t (record mid { memory = b }) after new → ((f : Frame) (below : List Frame) → frames ≡ f ∷ below → fetched w f ≡ Some i)
    → asking.IsProgress w i progress mid.memory frames b after → IsProgress w (state_of a) t progress (state_of new)
progress_made w i a mid new t frames after b Stepped taken put at steps = λ others has.
    let top = first_of frames taken.some in
    let stage : Stage = stage_of (state_of a) t taken.thread taken.at in
    let is : stages.state_of stage mid.memory frames ≡ state_of a =
    ap (λ (p : Parts). stages.state_of stage p frames) taken.memory ∙ stage_is a t taken.thread taken.at frames taken.frames_are in
    let made = steps stage top.0 top.1 top.2 (at top.0 top.1 top.2) in
    let same = same_frames (state_of a) t frames others (taken_frames a mid t frames taken) has in
    subst (λ (fs : List Frame). HasStepped w (state_of a) t fs (state_of new)) (sym same)
    (record {
      step = ap (λ (r : State). row_or_event w r t frames (row w frames)) (sym is) ∙ made.step ∙ ap (λ (r : State). Some r) (sym (settled a mid new t frames after b taken put));
      quiet = ap (λ (r : State). asking_in w r.memory frames) (sym is) ∙ made.quiet;
    })
progress_made w i a mid new t frames after b (Asks q) taken put at asked =
    let top = first_of frames taken.some in
    let asks = asked.0 top.0 top.1 top.2 (at top.0 top.1 top.2) in
    let memory : memory_of mid.memory ≡ memory_of a.memory = ap memory_of taken.memory in (
      λ others has. subst (λ (fs : List Frame). IsPending w (state_of a) q fs) (sym (same_frames (state_of a) t frames others (taken_frames a mid t frames taken) has))
          (record { frame = top.0; below = top.1; top = top.2; asks = ap (λ m. asking_in w m frames) (sym memory) ∙ asks.asking; event = asks.event }),
      unsettled a mid new t frames after b taken put asked.1 asked.2,
    )
progress_made w i a mid new t frames after b (Calls call) taken put at called =
    let top = first_of frames taken.some in
    let p = called.0 top.0 top.1 top.2 (at top.0 top.1 top.2) in
    let memory : memory_of mid.memory ≡ memory_of a.memory = ap memory_of taken.memory in (
      λ others has. subst (λ (fs : List Frame). IsCallPending w (state_of a) call fs) (sym (same_frames (state_of a) t frames others (taken_frames a mid t frames taken) has))
          (record {
            frame = top.0;
            below = top.1;
            top = top.2;
            callee = p.callee;
            begins = p.begins;
            next = p.next;
            asks = ap (λ m. asking_in w m frames) (sym memory) ∙ p.asking;
            event = p.event;
          }),
      unsettled a mid new t frames after b taken put called.1 called.2,
    )
progress_made w i a mid new t frames after b (Returns q) taken put at returned =
    let top = first_of frames taken.some in (
      λ others has. subst (λ (fs : List Frame). IsReturnPending w q fs) (sym (same_frames (state_of a) t frames others (taken_frames a mid t frames taken) has))
          (record { frame = top.0; below = top.1; top = top.2; returns = returned.0 top.0 top.1 top.2 (at top.0 top.1 top.2) }),
      unsettled a mid new t frames after b taken put returned.1 returned.2,
    )

-- ---- a step of the thread, as its stage has it

-- what an act makes of the stage it makes of the state
pub made_on_stage : (act : State → Option State) (a mid new : RefState) (t : ℕ) (frames after : List Frame) (b : Parts) (taken : IsTaken t a frames mid) → IsPut t (record mid { memory = b }) after new
    → act (stages.state_of (stage_of (state_of a) t taken.thread taken.at) mid.memory frames) ≡ Some (stages.state_of (stage_of (state_of a) t taken.thread taken.at) b after)
    → act (state_of a) ≡ Some (state_of new)
made_on_stage act a mid new t frames after b taken put made =
    let stage : Stage = stage_of (state_of a) t taken.thread taken.at in
    let is : stages.state_of stage mid.memory frames ≡ state_of a =
    ap (λ (p : Parts). stages.state_of stage p frames) taken.memory ∙ stage_is a t taken.thread taken.at frames taken.frames_are in
    ap act (sym is) ∙ made ∙ ap (λ (r : State). Some r) (sym (settled a mid new t frames after b taken put))

-- the thread of the stage has the name of its row
pub own_name : (a mid : RefState) (t name : ℕ) (frames : List Frame) (x : JavaThread) (taken : IsTaken t a frames mid) → slice_get a.threads.items t ≡ Some x → x.thread.name ≡ name
    → IsThread (stage_of (state_of a) t taken.thread taken.at) t name
own_name a mid t name frames x taken at named =
    let own : taken.thread ≡ x = cc (taken.at, at) in record { number = refl; named = ap (λ (y : JavaThread). y.thread.name) own ∙ named }

-- the step of a thread that throws
pub throwing_made : (w : World) (a mid new : RefState) (t name o : ℕ) (frames after : List Frame) (b : Parts) (x : JavaThread) (taken : IsTaken t a frames mid)
    → slice_get a.threads.items t ≡ Some x → x.thread.name ≡ name → IsPut t (record mid { memory = b }) after new
    → ThrowingSteps w t name o mid.memory frames b after → (others : List Frame) → frames_of (state_of a) t ≡ Some others
    → throwing_step w (state_of a) t o others ≡ Some (state_of new)
throwing_made w a mid new t name o frames after b x taken at named put steps others has =
    ap (throwing_step w (state_of a) t o) (same_frames (state_of a) t frames others (taken_frames a mid t frames taken) has)
    ∙ made_on_stage (λ r. throwing_step w r t o frames) a mid new t frames after b taken put
    (steps (stage_of (state_of a) t taken.thread taken.at) (own_name a mid t name frames x taken at named))

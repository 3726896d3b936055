use Rattle.std.proofs.Common.{◌≡◌, ℕ, Bool, List, [], ◌∷◌, ◌++◌, Option, Some, ap, refl, subst, sym, ◌∙◌}
use Rattle.vthread_state.specs.declared.thread.Thread.{Thread}
use Rattle.ref_model.specs.Memory.{Memory}
use Rattle.ref_model.specs.Starting.{made_thread}
use Rattle.ref_model.specs.State.{JavaThread, State}
use Rattle.ref_model.specs.ThreadNatives.{with_number}
use Rattle.ref_model.specs.declared.request.ThreadRequest.TheVariants as requests
use Rattle.heap_instructions.specs.Outcomes.{with_heap}
use Rattle.ref_run.specs.declared.reply.Reply.TheVariants as replies
use Rattle.thread_calls.specs.Creating.{IsNameMade, daemon_of}
use Rattle.ref_run.specs.Replies.{IsAnswered}
use Rattle.ref_run.specs.States.{state_of}
use Rattle.ref_run.proofs.CreateLaws.{nothing_created, thread_created}
use Rattle.ref_run.proofs.creating.create_thread.Goals as goal

pub returns-in_default : goal.returns-in_default
returns-in_default c w =
    let a = c.args.state.now in
    nothing_created w c.args.kind c.args.object c.args.name c.args.t (state_of a) c.in_ok-row_at.field-0.now a.memory.natives.heap c.name_of.new.heap
    (sym c.may_create.ensures ∙ c.if-not-may_create.false) c.in_ok-row_at.ensures (record { is = refl })
    (subst (λ (o : Option ℕ). IsNameMade c.args.kind c.args.name a.unnamed a.memory.natives.heap c.name_of.new.heap o) c.in_default.is c.in_ok-string.ensures)

pub returns : goal.returns
returns c w =
    let a = c.args.state.now in
    let r = state_of a in
    let x = c.in_ok-row_at.field-0.now in
    let named = c.name_of.new.heap in
    let numbered = c.number_object.new.heap in
    let object = c.args.object in
    let kind = c.args.kind in
    let flag : c.first_daemon-daemon.result ≡ daemon_of kind x.thread.daemon =
    c.first_daemon-daemon.ensures ∙ ap (λ (row : Thread). daemon_of kind row.daemon) c.thread.ensures in
    let threads : a.threads.items ++ made_thread kind (daemon_of kind x.thread.daemon) object c.in-Some.string ∷ [] ≡ c.add_thread.new.threads.items =
    ap (λ (d : Bool). a.threads.items ++ made_thread kind d object c.in-Some.string ∷ []) (sym flag) ∙ sym c.in_ok-add_thread.ensures in
    let next = λ (n : ℕ) (xs : List JavaThread). record r { memory = with_heap numbered r.memory; unnamed = n; threads = xs } in
    subst (λ (s : State). IsAnswered w (requests.Creates kind object c.args.name) c.args.t r replies.Goes s)
    (λ i. next (sym c.in_ok-unnamed.ensures i) (threads i))
    (thread_created w kind object c.in-Some.string c.args.name c.args.t r x a.memory.natives.heap named numbered
    (sym c.may_create.ensures ∙ c.if-not-may_create.false) c.in_ok-row_at.ensures (record { is = refl })
    (subst (λ (o : Option ℕ). IsNameMade kind c.args.name a.unnamed a.memory.natives.heap named o) c.in-Some.is c.in_ok-string.ensures)
    (subst (λ (n : ℕ). (m : Memory) → with_number (with_heap named m) object n ≡ Some (with_heap numbered m)) c.in_ok-number.ensures c.in_ok-number_object.ensures))

use Rattle.std.proofs.Common.{◌<◌, ℕ, length, List, Option, sym, ap, subst, ◌∙◌, arith, rules}
use Rattle.std.specs.Option.{ForSome}
use Rattle.vthread_state.specs.declared.thread.Thread.{Thread}
use Rattle.vthread_state.specs.Threads.{Threads, target_of_status, times_true, with_thread}
use Rattle.vthread_state.specs.Joiners.{times, IsList}
use Rattle.vthread_state.proofs.TableLaws.{here, threads_with_is}
use Rattle.vthread_state.proofs.GoingLaws.{going_set, going_some, going_fewer}
use Rattle.vthread_state.proofs.JoinLaws.{own_times, held, target_in_range, none_left, joined_after}
use Rattle.vthread_state.proofs.table.ThreadTable.set_status.Goals as goal

pub leave-requires-clause-list : goal.leave-requires-clause-list
leave-requires-clause-list c =
    let low : c.args.t < length c.self.inside.threads.items = subst (λ (w : Threads). c.args.t < length w.threads) (sym c.self.view_is) c.requires.thread in
    let own = own_times c.args.t c.index_mut-thread.result.now c.self.invariant.joined (here _ _ _ low c.index_mut-thread.ensures.value) in
    target_in_range c.self.inside.joiners.lists c.args.t c.joined_by-target.result (λ k. own k ∙ ap (λ (o : Option ℕ). times o k) (sym c.joined_by-target.ensures))

pub leave-requires-clause-held : goal.leave-requires-clause-held
leave-requires-clause-held c =
    let low : c.args.t < length c.self.inside.threads.items = subst (λ (w : Threads). c.args.t < length w.threads) (sym c.self.view_is) c.requires.thread in
    let own = own_times c.args.t c.index_mut-thread.result.now c.self.invariant.joined (here _ _ _ low c.index_mut-thread.ensures.value) in
    held c.self.inside.joiners.lists c.args.t c.joined_by-target.result (λ k. own k ∙ ap (λ (o : Option ℕ). times o k) (sym c.joined_by-target.ensures))

pub come-requires-clause-free : goal.come-requires-clause-free
come-requires-clause-free c =
    let low : c.args.t < length c.self.inside.threads.items = subst (λ (w : Threads). c.args.t < length w.threads) (sym c.self.view_is) c.requires.thread in
    let own = own_times c.args.t c.index_mut-thread.result.now c.self.invariant.joined (here _ _ _ low c.index_mut-thread.ensures.value) in
    let free = none_left c.self.inside.joiners.lists c.args.t c.joined_by-target.result (λ k. own k ∙ ap (λ (o : Option ℕ). times o k) (sym c.joined_by-target.ensures)) in
    rw c.leave.ensures free

pub invariant_of-self : goal.invariant_of-self
invariant_of-self c =
    let low : c.args.t < length c.self.inside.threads.items = subst (λ (w : Threads). c.args.t < length w.threads) (sym c.self.view_is) c.requires.thread in
    let old = c.index_mut-thread.result.now in
    let target : ForSome (target_of_status c.args.status) (λ k. k < length c.self.inside.threads.items) = subst (λ (w : Threads). ForSome (target_of_status c.args.status) (λ k. k < length w.threads)) (sym c.self.view_is) c.requires.target in
    let in_list : IsList c.self.inside.joiners.lists c.joined_by.result = λ k e. omega (arith, target k (sym c.joined_by.ensures ∙ e), c.self.invariant.joined.sizes) in
    record {
      joined = joined_after _ _ _ _ old _ c.joined_by-target.result c.joined_by.result c.self.invariant.joined (here _ _ old low c.index_mut-thread.ensures.value) low c.joined_by-target.ensures c.joined_by.ensures in_list (rw c.leave.ensures at c.come.ensures);
      few = search rules;
      bound = c.self.invariant.bound;
      going = omega (arith, c.recount-self-inside.ensures, ap times_true c.keeps_going-before.ensures, ap times_true c.keeps_going.ensures, c.self.invariant.going, going_set c.self.inside.threads.items c.args.t old (record old { status = c.args.status }) (here _ _ old low c.index_mut-thread.ensures.value));
    }

pub returns : goal.returns
returns c =
    let low : c.args.t < length c.self.inside.threads.items = subst (λ (w : Threads). c.args.t < length w.threads) (sym c.self.view_is) c.requires.thread in
    let f = λ (thread : Thread). record thread { status = c.args.status } in
    let is = threads_with_is f _ _ c.index_mut-thread.result.now low c.index_mut-thread.ensures.value in
    ap (λ (xs : List Thread). record { threads = xs; limit = c.self.inside.limit }) is ∙ ap (λ (w : Threads). with_thread w c.args.t f) c.self.view_is

pub recount-self-inside-requires-clause-some : goal.recount-self-inside-requires-clause-some
recount-self-inside-requires-clause-some c keeps =
    let low : c.args.t < length c.self.inside.threads.items = subst (λ (w : Threads). c.args.t < length w.threads) (sym c.self.view_is) c.requires.thread in
    omega (arith, c.self.invariant.going, going_some c.self.inside.threads.items c.args.t c.index_mut-thread.result.now (here _ _ _ low c.index_mut-thread.ensures.value) (sym c.keeps_going-before.ensures ∙ keeps))

pub recount-self-inside-requires-clause-few : goal.recount-self-inside-requires-clause-few
recount-self-inside-requires-clause-few c keeps_not =
    let low : c.args.t < length c.self.inside.threads.items = subst (λ (w : Threads). c.args.t < length w.threads) (sym c.self.view_is) c.requires.thread in
    omega (arith, c.self.invariant.going, c.self.invariant.few, c.self.invariant.bound, going_fewer c.self.inside.threads.items c.args.t c.index_mut-thread.result.now (here _ _ _ low c.index_mut-thread.ensures.value) (sym c.keeps_going-before.ensures ∙ keeps_not))

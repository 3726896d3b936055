use Rattle.std.proofs.Common.{◌<◌, length, List, refl, sym, ap, subst, ◌∙◌, arith, rules}
use Rattle.vthread_state.specs.declared.thread.Thread.{Thread}
use Rattle.vthread_state.specs.Threads.{Threads, times_true, with_thread}
use Rattle.vthread_state.proofs.TableLaws.{here, threads_with_is}
use Rattle.vthread_state.proofs.GoingLaws.{going_set, going_some, going_fewer}
use Rattle.vthread_state.proofs.JoinLaws.{joined_same}
use Rattle.vthread_state.proofs.table.ThreadTable.set_daemon.Goals as goal

pub invariant_of-self : goal.invariant_of-self
invariant_of-self c =
    let low : c.args.t < length c.self.inside.threads.items = subst (λ (w : Threads). c.args.t < length w.threads) (sym c.self.view_is) c.requires in
    let old = c.index_mut-thread.result.now in
    record {
      joined = joined_same _ _ _ old _ c.self.invariant.joined (here _ _ old low c.index_mut-thread.ensures.value) low refl;
      few = search rules;
      bound = c.self.invariant.bound;
      going = omega (arith, c.recount-self-inside.ensures, ap times_true c.keeps_going-before.ensures, ap times_true c.keeps_going.ensures, c.self.invariant.going, going_set c.self.inside.threads.items c.args.t old (record old { daemon = c.args.daemon }) (here _ _ old low c.index_mut-thread.ensures.value));
    }

pub returns : goal.returns
returns c =
    let low : c.args.t < length c.self.inside.threads.items = subst (λ (w : Threads). c.args.t < length w.threads) (sym c.self.view_is) c.requires in
    let f = λ (thread : Thread). record thread { daemon = c.args.daemon } in
    let is = threads_with_is f _ _ c.index_mut-thread.result.now low c.index_mut-thread.ensures.value in
    ap (λ (xs : List Thread). record { threads = xs; limit = c.self.inside.limit }) is ∙ ap (λ (w : Threads). with_thread w c.args.t f) c.self.view_is

pub recount-self-inside-requires-clause-some : goal.recount-self-inside-requires-clause-some
recount-self-inside-requires-clause-some c keeps =
    let low : c.args.t < length c.self.inside.threads.items = subst (λ (w : Threads). c.args.t < length w.threads) (sym c.self.view_is) c.requires in
    omega (arith, c.self.invariant.going, going_some c.self.inside.threads.items c.args.t c.index_mut-thread.result.now (here _ _ _ low c.index_mut-thread.ensures.value) (sym c.keeps_going-before.ensures ∙ keeps))

pub recount-self-inside-requires-clause-few : goal.recount-self-inside-requires-clause-few
recount-self-inside-requires-clause-few c keeps_not =
    let low : c.args.t < length c.self.inside.threads.items = subst (λ (w : Threads). c.args.t < length w.threads) (sym c.self.view_is) c.requires in
    omega (arith, c.self.invariant.going, c.self.invariant.few, c.self.invariant.bound, going_fewer c.self.inside.threads.items c.args.t c.index_mut-thread.result.now (here _ _ _ low c.index_mut-thread.ensures.value) (sym c.keeps_going-before.ensures ∙ keeps_not))

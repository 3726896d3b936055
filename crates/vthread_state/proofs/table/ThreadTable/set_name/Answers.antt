use Rattle.std.proofs.Common.{◌<◌, length, List, refl, sym, ap, subst, ◌∙◌, arith, rules}
use Rattle.vthread_state.specs.declared.thread.Thread.{Thread}
use Rattle.vthread_state.specs.Threads.{Threads, with_thread}
use Rattle.vthread_state.proofs.TableLaws.{here, threads_with_is}
use Rattle.vthread_state.proofs.GoingLaws.{going_set}
use Rattle.vthread_state.proofs.JoinLaws.{joined_same}
use Rattle.vthread_state.proofs.table.ThreadTable.set_name.Goals as goal

pub invariant_of-self : goal.invariant_of-self
invariant_of-self c =
    let low : c.args.t < length c.self.inside.threads.items = subst (λ (w : Threads). c.args.t < length w.threads) (sym c.self.view_is) c.requires in
    let old = c.index_mut-thread.result.now in
    record {
      joined = joined_same _ _ _ old _ c.self.invariant.joined (here _ _ old low c.index_mut-thread.ensures.value) low refl;
      few = search rules;
      bound = c.self.invariant.bound;
      going = omega (arith, c.self.invariant.going, going_set c.self.inside.threads.items c.args.t old (record old { name = c.args.name }) (here _ _ old low c.index_mut-thread.ensures.value));
    }

pub returns : goal.returns
returns c =
    let low : c.args.t < length c.self.inside.threads.items = subst (λ (w : Threads). c.args.t < length w.threads) (sym c.self.view_is) c.requires in
    let f = λ (thread : Thread). record thread { name = c.args.name } in
    let is = threads_with_is f _ _ c.index_mut-thread.result.now low c.index_mut-thread.ensures.value in
    ap (λ (xs : List Thread). record { threads = xs; limit = c.self.inside.limit }) is ∙ ap (λ (w : Threads). with_thread w c.args.t f) c.self.view_is

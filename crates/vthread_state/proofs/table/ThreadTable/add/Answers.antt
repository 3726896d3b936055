use Rattle.std.proofs.Common.{◌≡◌, ◌++◌, [], ◌∷◌, List, length, refl, sym, ap, ◌∙◌, arith, rules, length-append}
use Rattle.thread_lists.specs.Lists.{Lists}
use Rattle.vthread_state.specs.declared.thread.Thread.{Thread}
use Rattle.vthread_state.specs.declared.thread.Status.TheVariants.{New}
use Rattle.vthread_state.proofs.GoingLaws.{going, going_more}
use Rattle.vthread_state.proofs.JoinLaws.{joined_more}
use Rattle.vthread_state.proofs.table.ThreadTable.add.Goals as goal

pub invariant_of-self-2 : goal.invariant_of-self-2
invariant_of-self-2 c =
    let size : c.len-t.result ≡ length c.self.inside.threads.items = search rules in
    let new : Thread = record { kind = c.args.kind; daemon = c.args.daemon; object = c.args.object; name = c.args.name; status = New } in
    let items : c.push_reserved.new.self.items ≡ c.self.inside.threads.items ++ new ∷ [] = c.push_reserved.ensures.items ∙ ap (λ (xs : List Thread). xs ++ new ∷ []) c.reserve.ensures.items in
    let lists : c.add_lists.new.self.lists ≡ c.self.inside.joiners.lists ++ [] ∷ [] =
    ap (λ (l : Lists). l.lists) c.in_ok-add_lists.ensures.ok ∙ ap (λ (l : Lists). l.lists ++ [] ∷ []) c.in_ok-room.ensures.ok in
    let threads = ap (λ (l : Lists). l.threads) c.in_ok-add_lists.ensures.ok ∙ ap (λ (l : Lists). l.threads) c.in_ok-room.ensures.ok in
    record {
      joined = joined_more c.self.inside.threads.items _ c.self.inside.joiners _ new c.self.invariant.joined items refl lists (omega (arith, threads, size));
      few = omega (arith, ap length items, length-append c.self.inside.threads.items (new ∷ []), size, c.self.invariant.few, c.if-t-self.false);
      bound = c.self.invariant.bound;
      going = c.self.invariant.going ∙ sym (going_more c.self.inside.threads.items new refl) ∙ ap going (sym items);
    }

use Rattle.std.proofs.Common.{◌≡◌, Some, ap, subst, ◌∙◌, arith}
use Rattle.std.specs.Prelude.{Contains}
use Rattle.std.proofs.lemmas.List.Sorted.{IsNonDecreasingBy-from_sort}
use Rattle.thread_lists.specs.Lists.{count}
use Rattle.vthread_state.specs.Threads.{Threads, joins, joins_in}
use Rattle.vthread_state.specs.Joiners.{times}
use Rattle.vthread_state.proofs.RisingLaws.{count_moved, counted, contained, rising, times_some, times_is_one, times_at_most_one}
use Rattle.vthread_state.proofs.table.ThreadTable.joiners.Goals as goal

pub returns-clause-just_these : goal.returns-clause-just_these
returns-clause-just_these c u =
    let items = c.sort_unstable.new.self.items in
    let counts : count u items ≡ times (joins_in c.self.inside.threads.items u) c.args.t =
    count_moved u c.in_ok-threads.threads.items items c.sort_unstable.ensures.permutation ∙ ap (count u) c.in_ok-threads.ensures ∙ c.self.invariant.joined.each u c.args.t in
    let seen : (Contains items u → joins_in c.self.inside.threads.items u ≡ Some c.args.t) × (joins_in c.self.inside.threads.items u ≡ Some c.args.t → Contains items u) =
    (λ has. times_some _ _ (omega (arith, counts, counted u items has)), λ joins. contained u items (omega (arith, counts, times_is_one _ _ joins))) in
    subst (λ (w : Threads). (Contains items u → joins w u ≡ Some c.args.t) × (joins w u ≡ Some c.args.t → Contains items u)) c.self.view_is seen

pub returns-clause-rising : goal.returns-clause-rising
returns-clause-rising c =
    let items = c.sort_unstable.new.self.items in
    rising items (IsNonDecreasingBy-from_sort (λ x. x) items c.sort_unstable.ensures.sorted)
    (λ u. omega (arith, count_moved u c.in_ok-threads.threads.items items c.sort_unstable.ensures.permutation, ap (count u) c.in_ok-threads.ensures, c.self.invariant.joined.each u c.args.t, times_at_most_one (joins_in c.self.inside.threads.items u) c.args.t))

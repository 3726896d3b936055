use Rattle.std.proofs.Common.{Err, subst}
use Rattle.std.specs.List.Sorted.{IsBinarySearchResult}
use Rattle.std.specs.Ordering.{nat_cmp}
use Rattle.machine.proofs.PutFacts.{also_searched, inserted}
use Rattle.machine.proofs.puts.add_number.Goals as goal

pub returns-else-is_err : goal.returns-else-is_err
returns-else-is_err c =
    let number = c.args.number in
    let old = c.args.numbers.now.items in
    let new = c.insert.new.self.items in
    let at = c.in-Err.at in
    let found = subst (λ xs. IsBinarySearchResult (λ y. nat_cmp y number) xs c.binary_search.result) c.deref.ensures.value c.binary_search.ensures.position in
    also_searched number old new (Err at) c.requires (subst (IsBinarySearchResult (λ y. nat_cmp y number) old) c.in-Err.is found) tt
    (inserted c.insert.result number at old new c.insert.ensures.items c.if-is_err.ensures.value)

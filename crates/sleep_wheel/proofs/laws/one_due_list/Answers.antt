use Rattle.sleep_wheel.proofs.UniqueLaws.{one_list}
use Rattle.sleep_wheel.proofs.laws.one_due_list.Goals as goal

pub returns : goal.returns
returns c = one_list

-- Who owns a monitor, as the code has it.
use Rattle.std.specs.Prelude.{Option, Some, None}
use Rattle.ref_model.specs.State as model
use Rattle.ref_run.specs.declared.owners.Owner.{Owner}

abbrev pub meaning_of : Owner → model.Owner
meaning_of owner = record { thread = owner.thread; count = owner.count }

abbrev pub owner_of : Option Owner → Option model.Owner
owner_of None = None
owner_of (Some owner) = Some (meaning_of owner)

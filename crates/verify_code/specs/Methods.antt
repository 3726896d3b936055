-- The first fault of the method of a number.
use Rattle.std.specs.Prelude.{ℕ, Option}
use Rattle.std.specs.Option.{option_map}
use Rattle.items.specs.Options.{◌>>=◌}
use Rattle.link_model.specs.World.{World}
use Rattle.verify_types.specs.declared.fault.VerifyFault.{VerifyFault}
use Rattle.verify_types.specs.Environment.{environment}
use Rattle.verify_types.specs.Faults.{fault_in, method_fault}

abbrev pub numbered_fault : World → ℕ → Option VerifyFault
numbered_fault w n = environment w n >>= λ env. option_map (fault_in env n) (method_fault env)

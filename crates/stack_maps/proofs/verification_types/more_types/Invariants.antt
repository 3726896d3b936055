use Rattle.std.proofs.Common.{◌-◌, ◌++◌}
use Rattle.byte_reader.specs.Reader.{map_value, many, keep}
use Rattle.byte_reader.proofs.LoopLaws.{ReadsOn}
use Rattle.stack_maps.specs.Readers.{type_at}
use Rattle.stack_maps.proofs.verification_types.more_types.Given as goal

abbrev pub invariant-loop : goal.invariant-loop
invariant-loop l = ReadsOn (λ state more. type_at) keep l.types tt (l.count - l.counter) l.rest (map_value (λ more. l.fn.types ++ more) (many type_at l.count) l.bytes)

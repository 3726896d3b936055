-- The value on top, where it is there.
use Rattle.std.proofs.Common.{◌≡◌, Bool, true, false, List, Some, None, Result, Ok, Err, refl, ap}
use Rattle.std.specs.Option.{option_map, option_map_or}
use Rattle.std.specs.Result.{result_ok}
use Rattle.stack_maps.specs.declared.types.VType.{VType}
use Rattle.instruction_rows.specs.declared.row_why.RowWhy.{RowWhy}
use Rattle.verify_types.specs.Assignability.{assignable}
use Rattle.verify_types.specs.ClassTypes.{type_of_kind}
use Rattle.verify_types.specs.Environment.{Environment}
use Rattle.verify_types.specs.Handlers.{is_result}

abbrev IsResultOf : Environment → VType → Bool
IsResultOf env t = option_map_or (λ kind. assignable env.world t (type_of_kind env.world kind)) env.method.signature.result false

pub peeked : (env : Environment) (r : Result (VType × List VType) RowWhy) (t : VType) → Some t ≡ option_map (λ x. x.0) (result_ok r)
    → option_map_or (λ kind. assignable env.world t (type_of_kind env.world kind)) env.method.signature.result false ≡ is_result env r
peeked env (Err why) t e = absurd cc
peeked env (Ok x) t e = let same : t ≡ x.0 = cc in ap (λ u. IsResultOf env u) same

pub none_peeked : (env : Environment) (r : Result (VType × List VType) RowWhy) → None ≡ option_map (λ (x : VType × List VType). x.0) (result_ok r) → true ≡ is_result env r
none_peeked env (Err why) e = refl
none_peeked env (Ok x) e = absurd cc

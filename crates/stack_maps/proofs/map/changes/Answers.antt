use Rattle.std.proofs.Common.{◌≡◌, sym, ◌∙◌, arith}
use Rattle.stack_maps.specs.declared.error.MapError.TheVariants as errors
use Rattle.stack_maps.proofs.MapLaws.{changes_take, changes_again, stops_whole, stops_only, stops_bad}
use Rattle.stack_maps.proofs.map.changes.Goals as goal

pub returns-in-Ok-clause-found : goal.returns-in-Ok-clause-found
returns-in-Ok-clause-found c = changes_take c.args.first.now c.args.bytes.now _ (λ i. omega (arith, c.type_inv.bytes i)) c.in-Ok.ensures

pub returns-in-Ok-clause-only : goal.returns-in-Ok-clause-only
returns-in-Ok-clause-only c = λ frames m. changes_again c.args.first.now c.args.bytes.now _ frames c.in-Ok.ensures m

pub returns-in-Err-clause-only : goal.returns-in-Err-clause-only
returns-in-Err-clause-only c = λ frames m.
    let stopped = stops_whole c.args.first.now c.args.bytes.now c.in-Err.stop c.in-Err.ensures in
    c.error_of.ensures ∙ stops_only c.args.first.now c.args.bytes.now frames c.in-Err.stop stopped m

pub returns-in-Err-clause-bad : goal.returns-in-Err-clause-bad
returns-in-Err-clause-bad c = λ at why e.
    let stopped = stops_whole c.args.first.now c.args.bytes.now c.in-Err.stop c.in-Err.ensures in
    stops_bad c.args.first.now c.args.bytes.now at why c.in-Err.stop stopped (let same : c.error_of.result ≡ errors.Bad at why = cc in sym c.error_of.ensures ∙ same)

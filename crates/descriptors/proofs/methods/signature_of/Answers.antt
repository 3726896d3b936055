use Rattle.std.proofs.Common.{◌-◌, length, drop, length-drop, subst, sym, arith}
use Rattle.std.proofs.lemmas.List.{take_all}
use Rattle.descriptors.specs.Refusal.{IsResultText}
use Rattle.descriptors.proofs.ArgsLaws.{next_kind, result_left, read_more}
use Rattle.descriptors.proofs.methods.signature_of.Goals as goal

pub kind_at-requires : goal.kind_at-requires
kind_at-requires c = next_kind _ c.loop-rest.rest.now c.loop-rest.invariant.left c.loop-rest-test.true

pub loop-rest-preserved : goal.loop-rest-preserved
loop-rest-preserved c =
    let found = c.in_ok-kind.ensures in
    rw c.in_ok-push.ensures.ok (read_more c.args.units.now c.loop-rest.args c.loop-rest.rest.now c.in_ok-kind.kind c.in_ok-kind.behind.now c.loop-rest.invariant c.loop-rest-test.true found.0 found.1)

pub result_of-requires : goal.result_of-requires
result_of-requires c =
    let rest = c.loop-rest.rest.now in
    let left = result_left _ rest c.loop-rest.invariant.left c.loop-rest-test.false in
    subst IsResultText (sym (take_all (length rest - 1) (drop 1 rest) (omega (arith, length-drop 1 rest)))) left.0

use Rattle.std.proofs.Common.{[], ◌∷◌, None, pos, subst, arith}
use Rattle.opcodes.specs.declared.op.Op.{Op}
use Rattle.opcodes.specs.declared.op.ValueKind.TheVariants as kinds
use Rattle.stack_maps.specs.declared.types.VType.TheVariants as types
use Rattle.instruction_rows.specs.declared.value.Value.TheVariants as values
use Rattle.instruction_rows.specs.Comparisons.{compares, are_so}
use Rattle.instruction_rows.specs.Table.{row}
use Rattle.frame_instructions.specs.SlotRows.{contents_at}
use Rattle.interp_local.specs.FrameRows.{frame_row}
use Rattle.superinstructions.specs.FrameSlots.{Fits}
use Rattle.superinstructions.proofs.RoomLaws.{push_room, can_test}
use Rattle.interp_local.proofs.execution.execute.Goals as goal

pub push_int-requires : goal.push_int-requires
push_int-requires c =
    let made = subst (λ (o : Op). Fits (frame_row (row o) c.args.resolution.now (contents_at c.args.slots.now c.args.locals c.args.used)) c.args.locals c.args.slots.now) c.in-PushInt.is c.requires.made in
    record { room = omega (arith, push_room types.Int (values.Int c.in-PushInt.n) c.args.slots.now c.args.locals c.args.used made) }

pub push_long-requires : goal.push_long-requires
push_long-requires c =
    let made = subst (λ (o : Op). Fits (frame_row (row o) c.args.resolution.now (contents_at c.args.slots.now c.args.locals c.args.used)) c.args.locals c.args.slots.now) c.in-PushLong.is c.requires.made in
    record { room = omega (arith, push_room types.Long (values.Long c.in-PushLong.n) c.args.slots.now c.args.locals c.args.used made) }

pub if_zero-requires-clause-tests : goal.if_zero-requires-clause-tests
if_zero-requires-clause-tests c =
    let made = subst (λ (o : Op). Fits (frame_row (row o) c.args.resolution.now (contents_at c.args.slots.now c.args.locals c.args.used)) c.args.locals c.args.slots.now) c.in-IfZero.is c.requires.made in
    can_test (kinds.Int ∷ []) (λ a. compares c.in-IfZero.order a (pos 0)) c.in-IfZero.target c.args.slots.now c.args.locals c.args.used made

pub if_ints-requires-clause-tests : goal.if_ints-requires-clause-tests
if_ints-requires-clause-tests c =
    let made = subst (λ (o : Op). Fits (frame_row (row o) c.args.resolution.now (contents_at c.args.slots.now c.args.locals c.args.used)) c.args.locals c.args.slots.now) c.in-IfInts.is c.requires.made in
    can_test (kinds.Int ∷ kinds.Int ∷ []) (λ b a. compares c.in-IfInts.order a b) c.in-IfInts.target c.args.slots.now c.args.locals c.args.used made

pub if_references-requires-clause-tests : goal.if_references-requires-clause-tests
if_references-requires-clause-tests c =
    let made = subst (λ (o : Op). Fits (frame_row (row o) c.args.resolution.now (contents_at c.args.slots.now c.args.locals c.args.used)) c.args.locals c.args.slots.now) c.in-IfReferences.is c.requires.made in
    can_test (kinds.Reference ∷ kinds.Reference ∷ []) (λ b a. are_so c.in-IfReferences.s a b) c.in-IfReferences.target c.args.slots.now c.args.locals c.args.used made

pub if_null-requires-clause-tests : goal.if_null-requires-clause-tests
if_null-requires-clause-tests c =
    let made = subst (λ (o : Op). Fits (frame_row (row o) c.args.resolution.now (contents_at c.args.slots.now c.args.locals c.args.used)) c.args.locals c.args.slots.now) c.in-IfNull.is c.requires.made in
    can_test (kinds.Reference ∷ []) (λ a. are_so c.in-IfNull.s a None) c.in-IfNull.target c.args.slots.now c.args.locals c.args.used made

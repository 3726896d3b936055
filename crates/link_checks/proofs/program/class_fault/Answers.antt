use Rattle.std.proofs.Common.{sym, ◌∙◌}
use Rattle.link_checks.proofs.FaultLaws.{class_is, or_of}
use Rattle.link_checks.proofs.program.class_fault.Goals as goal

pub returns : goal.returns
returns c =
    let above = or_of c.name_fault-name.ensures c.parent_fault-parent.ensures c.or.ensures in
    let interfaces = or_of above c.interfaces_fault-interfaces.ensures c.or-2.ensures in
    let fields = or_of interfaces c.fields_fault-fields.ensures c.or-3.ensures in
    let methods = or_of fields c.methods_fault-methods.ensures c.or-4.ensures in
    or_of methods c.in_ok-codes.ensures c.or-5.ensures ∙ sym (class_is c.args.world.now c.args.class c.args.file.now)

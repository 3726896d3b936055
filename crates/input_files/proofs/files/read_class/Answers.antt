use Rattle.input_files.proofs.ReadLaws.{read_is, not_read_is, class_faults}
use Rattle.input_files.proofs.files.read_class.Goals as goal

pub returns-clause-found : goal.returns-clause-found
returns-clause-found g c =
    read_is _ c.args.name.now c.in_ok-bytes.bytes.items c.class_of.result c.in_ok-bytes.ensures.small c.in_ok-bytes.ensures.found (rw c.deref.ensures.value at c.class_of.ensures.found)

pub returns-clause-cause : goal.returns-clause-cause
returns-clause-cause g c =
    not_read_is _ _ c.args.file c.args.name.now c.in_ok-bytes.bytes.items c.class_of.result c.in_ok-bytes.ensures.found (rw c.deref.ensures.value at c.class_of.ensures.bad)

pub returns-clause-faults : goal.returns-clause-faults
returns-clause-faults g c = class_faults c.args.file _ c.class_of.result _ _ c.in_ok-bytes.ensures.faults c.class_of.ensures.bad

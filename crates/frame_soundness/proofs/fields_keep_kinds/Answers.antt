use Rattle.frame_soundness.proofs.FieldLaws.{static_gets_keep, static_puts_keep, field_gets_keep, field_puts_keep}
use Rattle.frame_soundness.proofs.fields_keep_kinds.Goals as goal

pub returns-clause-static_gets : goal.returns-clause-static_gets
returns-clause-static_gets c = λ w resolution r ts rest xs effect kinds is_static fits of types e.
    static_gets_keep w resolution r ts rest xs effect kinds is_static fits of types e

pub returns-clause-static_puts : goal.returns-clause-static_puts
returns-clause-static_puts c = λ w resolution r ts rest xs effect kinds is_static fits of types e.
    static_puts_keep w resolution r ts rest xs effect kinds is_static fits of types e

pub returns-clause-gets : goal.returns-clause-gets
returns-clause-gets c = λ w resolution r ts rest xs effect kinds lies fits of types e.
    field_gets_keep w resolution r ts rest xs effect kinds lies fits of types e

pub returns-clause-puts : goal.returns-clause-puts
returns-clause-puts c = λ w resolution r own ts rest xs effect kinds lies fits of types e.
    field_puts_keep w resolution r own ts rest xs effect kinds lies fits of types e

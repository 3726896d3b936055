use Rattle.frame_soundness.proofs.ArrayTrees.{arrays_keep}
use Rattle.frame_soundness.proofs.ObjectLaws.{casts_keep, judgements_keep, new_objects_keep, new_arrays_keep}
use Rattle.frame_soundness.proofs.objects_keep_kinds.Goals as goal

pub returns-clause-casts : goal.returns-clause-casts
returns-clause-casts c = λ w resolution r ts rest class xs effect fits of types e. casts_keep w resolution r ts rest class xs effect fits of types e

pub returns-clause-judgements : goal.returns-clause-judgements
returns-clause-judgements c = λ w resolution r ts rest class xs effect fits of types e.
    judgements_keep w resolution r ts rest class xs effect fits of types e

pub returns-clause-objects : goal.returns-clause-objects
returns-clause-objects c = λ w resolution r pc ts xs effect named fits of e. new_objects_keep w resolution r pc ts xs effect named fits of e

pub returns-clause-arrays : goal.returns-clause-arrays
returns-clause-arrays c = λ w resolution r t ts x xs effect fits of kind types e.
    new_arrays_keep w resolution r t ts x xs effect fits of kind types e

pub returns-clause-arrays_of_arrays : goal.returns-clause-arrays_of_arrays
returns-clause-arrays_of_arrays c = λ w resolution r dimensions t ts rest xs effect dims fits of kind types e.
    arrays_keep w resolution r dimensions t ts rest xs effect dims fits of kind types e

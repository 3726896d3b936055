use Rattle.frame_soundness.proofs.ArrayLaws.{array_loads_keep, array_stores_keep, lengths_keep}
use Rattle.frame_soundness.proofs.arrays_keep_kinds.Goals as goal

pub returns-clause-loads : goal.returns-clause-loads
returns-clause-loads c = λ w element r ts rest xs effect fits of types e. array_loads_keep w element r ts rest xs effect fits of types e

pub returns-clause-stores : goal.returns-clause-stores
returns-clause-stores c = λ w element r ts rest xs effect fits of types e. array_stores_keep w element r ts rest xs effect fits of types e

pub returns-clause-lengths : goal.returns-clause-lengths
returns-clause-lengths c = λ w r ts rest xs effect fits of types e. lengths_keep w r ts rest xs effect fits of types e

-- Methods with a double among their arguments. They are in no program that runs.
use Rattle.std.specs.Prelude.{Bool, true, false, ◌==◌, if◌then◌else◌}
use Rattle.std.specs.List.{list_any}
use Rattle.descriptors.specs.declared.kind.ElementType.{ElementType}
use Rattle.descriptors.specs.declared.kind.ElementType.TheVariants as elements
use Rattle.descriptors.specs.declared.kind.Kind.{Kind as FieldType}
use Rattle.descriptors.specs.declared.kind.Signature.{Signature}

abbrev pub is_double_element : ElementType → Bool
is_double_element elements.Double = true
is_double_element element = false

abbrev pub is_double : FieldType → Bool
is_double t = if t.dimensions == 0 then is_double_element t.element else false

abbrev pub takes_double : Signature → Bool
takes_double s = list_any is_double s.args

-- The invariant of the superclasses and superinterfaces of a program.
use Rattle.std.specs.Prelude.{◌≡◌, length}
use Rattle.link_rules.specs.Program.{Program}
use Rattle.link_rules.specs.Hierarchy.{parent_of, supers, superclasses}
use Rattle.link_resolution.specs.Tables.{tabulate}
use Rattle.link_resolution.specs.MemberTables.{AllIndexed}
use Rattle.link_resolution.specs.declared.hierarchy.Hierarchy.TheInside.{Inside}

abbrev pub program_of : Inside → Program
program_of a = a.classes

pub record IsOrdered (a : Inside) : Type 0 where
  pub parents : a.parents.items ≡ tabulate (parent_of a.classes) (length a.classes.classes)
  pub supers : a.supers.items ≡ tabulate (supers a.classes) (length a.classes.classes)
  pub fields : AllIndexed (λ f. f.fields) a.classes.classes a.fields.items
  pub methods : AllIndexed (λ f. f.methods) a.classes.classes a.methods.items
  pub superclasses : a.superclasses.items ≡ tabulate (superclasses a.classes) (length a.classes.classes)

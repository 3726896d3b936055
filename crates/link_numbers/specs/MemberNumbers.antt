-- The invariant of the numbers of fields and methods.
use Rattle.std.specs.Prelude.{◌≡◌, length}
use Rattle.link_rules.specs.Program.{Program}
use Rattle.link_rules.specs.Members.{fields_before, methods_before}
use Rattle.link_resolution.specs.Tables.{tabulate}
use Rattle.link_numbers.specs.declared.member_numbers.MemberNumbers.TheInside.{Inside}

abbrev pub program_of : Inside → Program
program_of a = a.hierarchy

pub record IsCounted (a : Inside) : Type 0 where
  pub fields : a.fields.items ≡ tabulate (fields_before a.hierarchy.classes) (length a.hierarchy.classes)
  pub methods : a.methods.items ≡ tabulate (methods_before a.hierarchy.classes) (length a.hierarchy.classes)

-- What resolution needs, as the code has it.
use Rattle.link_model.specs.Sites.{Linking}
use Rattle.link_tables.specs.declared.sites.Linker.{Linker}

abbrev pub linking_in : Linker → Linking
linking_in l = record { program = l.members.now; numbering = l.numbers.now; strings = l.strings.now }

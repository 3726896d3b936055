-- Methods by where they are declared.
use Rattle.std.specs.Prelude.{Option, None}
use Rattle.lib_table.specs.declared.native.Native.{Native}
use Rattle.link_rules.specs.declared.place.MemberPlace.{MemberPlace}
use Rattle.link_rules.specs.Program.{class_at}
use Rattle.link_model.specs.World.{World}
use Rattle.ref_model.specs.Members.{native_in}

-- what the machine does in place of the code of the method at a place
abbrev pub native_of_place : World → MemberPlace → Option Native
native_of_place w at = class_at (native_in at.index) None w.program at.class

-- The world that a program has.
use Rattle.link_rules.specs.Program.{Program}
use Rattle.link_model.specs.World.{World}
use Rattle.link_model.specs.Numbering.{arrays_of, numbering_of}
use Rattle.link_model.specs.Infos.{fields_of, methods_of, codes_of}
use Rattle.link_model.specs.Strings.{strings_of}
use Rattle.link_model.specs.Sites.{Linking, resolutions_of, catches_of}

abbrev pub linking_of : Program → Linking
linking_of p = record { program = p; numbering = numbering_of p; strings = strings_of p }

abbrev pub world_of : Program → World
world_of p = record {
  program = p;
  names = (numbering_of p).names;
  arrays = arrays_of (numbering_of p).depths;
  fields = fields_of p;
  methods = methods_of p;
  codes = codes_of p;
  resolutions = resolutions_of (linking_of p);
  catches = catches_of (linking_of p);
}

use Rattle.link_model.specs.Sites.{resolutions_of}
use Rattle.link_model.specs.Worlds.{linking_of}
use Rattle.link_tables.proofs.NumberLaws.{lists_are}
use Rattle.link_tables.proofs.tables.tables_of.Goals as goal

pub returns : goal.returns
returns c = λ i.
    let p = c.args.members in
    let of = c.args.code_tables in
    record {
      program = p;
      names = (c.requires.numbers.numbers i).names;
      arrays = c.requires.numbers.arrays i;
      fields = c.requires.of_members.fields i;
      methods = c.requires.of_members.methods i;
      codes = c.requires.codes i;
      resolutions = lists_are of.resolutions.table.items of.resolutions.numbers.items (resolutions_of (linking_of p)) c.requires.of_codes.resolutions i;
      catches = c.requires.of_codes.catches i;
    }

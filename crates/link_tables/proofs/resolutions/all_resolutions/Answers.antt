use Rattle.std.proofs.Common.{◌≡◌, ◌++◌, ◌+◌, List, arith, drop}
use Rattle.std.proofs.lemmas.Grind.{common_steps}
use Rattle.std.specs.List.{flat_map, enumerate_from}
use Rattle.link_model.specs.declared.sites.Resolution.{Resolution}
use Rattle.link_model.specs.Infos.{codes_in}
use Rattle.link_model.specs.Sites.{resolutions_in, resolutions_of}
use Rattle.link_tables.specs.Linkings.{linking_in}
use Rattle.link_tables.proofs.resolutions.all_resolutions.Goals as goal

pub loop-class-preserved : goal.loop-class-preserved
loop-class-preserved c =
    let l = linking_in c.args.l in
    let class = c.loop-class.class in
    let more : List (List Resolution) = c.loop-class.invariant.1 ++ resolutions_in l (class, c.index-files-class.result) in
    let named : resolutions_of l ≡ more ++ flat_map (resolutions_in l) (enumerate_from (class + 1) (drop (class + 1) c.files-files.result.now)) = grind (arith, common_steps, c.loop-class.invariant.3, c.loop-class.invariant.4) in
    let rest : c.split_at.result.1.now ≡ flat_map codes_in (drop (class + 1) c.files-files.result.now) = grind (arith, common_steps, c.loop-class.invariant.3, c.loop-class.invariant.4) in
    (c.in_ok-add_numbers.ensures.begins, more, c.in_ok-add_numbers.ensures.lists c.loop-class.invariant.1 c.loop-class.invariant.2, named, rest)

use Rattle.std.proofs.Common.{Bool, ltb, rules, ap, ◌∙◌}
use Rattle.std.specs.Prelude.{drop}
use Rattle.std.proofs.lemmas.List.Sorted.{IsPartitionPoint-from_clause, IsPartitionedBy-ltb}
use Rattle.verify_frames.specs.declared.frame_paths.Entry.{Entry}
use Rattle.verify_frames.specs.Entries.{pc_of}
use Rattle.verify_frames.proofs.Prefixes.{partition_is}
use Rattle.verify_frames.proofs.Rising.{rises_far}
use Rattle.verify_frames.proofs.entries.entries_from.Goals as goal

pub returns : goal.returns
returns c =
    let xs = c.args.entries.now in
    let test : Entry → Bool = λ e. ltb e.pc c.args.pc in
    let rising = rises_far pc_of 0 xs c.requires in
    let facts = c.partition_point-n.ensures in
    let point = IsPartitionPoint-from_clause test xs c.partition_point-n.result facts.partitioned (IsPartitionedBy-ltb pc_of xs c.args.pc rising) (λ a r f called. search rules) in
    c.split_at.ensures.back ∙ ap (λ n. drop n xs) (partition_is test xs c.partition_point-n.result facts.bound point)

use Rattle.std.proofs.Common.{◌≡◌, ℕ, ◌+◌, ◌<◌, List, ◌∷◌, ◌++◌, length, drop, get_or, add-one, sym, ap, ◌∙◌}
use Rattle.std.specs.List.{flat_map, fold}
use Rattle.std.proofs.Math.Seq.{drop-cons}
use Rattle.std.proofs.lemmas.List.Sums.{fold-append}
use Rattle.class_model.specs.declared.class_file.ClassFile.{ClassFile}
use Rattle.descriptors.specs.declared.kind.Kind.{Kind}
use Rattle.link_model.specs.Numbering.{Numbering, with_kind, kinds_in_file}
use Rattle.link_numbers.proofs.DecodingLaws.{behind}
use Rattle.link_numbers.proofs.numbering.Numbering.new.Goals as goal

-- one file more
more : (files : List ClassFile) (i : ℕ) (f : ClassFile) (all old new : Numbering) → i < length files → f ≡ get_or files i f
    → all ≡ fold with_kind old (flat_map kinds_in_file (drop i files)) → new ≡ fold with_kind old (kinds_in_file f) → all ≡ fold with_kind new (flat_map kinds_in_file (drop (i + 1) files))
more files i f all old new h e before step =
    let behind_it : List Kind = flat_map kinds_in_file (drop (i + 1) files) in
    let cut : drop i files ≡ get_or files i f ∷ drop (i + 1) files = rw add-one (drop-cons files i f h) in
    before ∙ ap (λ fs. fold with_kind old (flat_map kinds_in_file fs)) cut
    ∙ ap (λ g. fold with_kind old (kinds_in_file g ++ behind_it)) (sym e)
    ∙ fold-append with_kind old (kinds_in_file f) behind_it
    ∙ ap (λ (n : Numbering). fold with_kind n behind_it) (sym step)

pub loop-file-preserved : goal.loop-file-preserved
loop-file-preserved c =
    let files = c.files-files.result.now in
    let i = c.loop-file.file-index in
    let f = c.file-item.result in (
      more files i f _ c.loop-file.numbering c.add_file.new.self c.loop-file-test.true c.file-item.is c.loop-file.invariant.0 c.in_ok-add_file.ensures,
      c.split_at.ensures.back ∙ ap (λ n. drop n c.loop-file.rest.now) c.len.ensures
          ∙ behind files i f c.loop-file.rest.now c.loop-file-test.true c.file-item.is c.loop-file.invariant.1,
    )

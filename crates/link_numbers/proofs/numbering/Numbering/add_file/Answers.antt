use Rattle.std.proofs.Common.{◌≡◌, List, sym, ap, ◌∙◌}
use Rattle.std.specs.List.{flat_map, fold}
use Rattle.descriptors.specs.declared.kind.Kind.{Kind}
use Rattle.link_model.specs.Numbering.{Numbering, with_kind, kinds_in_constant, kinds_in_member, kinds_in_code}
use Rattle.link_numbers.specs.Decodings.{kinds_in}
use Rattle.link_numbers.proofs.DecodingLaws.{kinds_are}
use Rattle.link_numbers.proofs.FoldLaws.{fold_four}
use Rattle.link_numbers.proofs.numbering.Numbering.add_file.Goals as goal

pub returns : goal.returns
returns c =
    let f = c.args.file.now in
    let constants : List Kind = flat_map (kinds_in_constant f.pool) f.pool in
    let fields : List Kind = flat_map (kinds_in_member f.pool) f.fields in
    let methods : List Kind = flat_map (kinds_in_member f.pool) f.methods in
    let codes : List Kind = flat_map (kinds_in_code f.pool) f.methods in
    let first : c.add_constants.new.self ≡ fold with_kind c.args.self.now constants =
    c.in_ok-add_constants.ensures ∙ (λ i. fold with_kind c.args.self.now (flat_map (kinds_in_constant (c.deref.ensures i)) (c.deref.ensures i))) in
    let second : c.add_members.new.self ≡ fold with_kind c.add_constants.new.self fields =
    c.in_ok-add_members.ensures ∙ (λ i. fold with_kind c.add_constants.new.self (flat_map (kinds_in_member (c.deref-2.ensures i)) (c.deref-3.ensures i))) in
    let third : c.add_members-2.new.self ≡ fold with_kind c.add_members.new.self methods =
    c.in_ok-add_members-2.ensures ∙ (λ i. fold with_kind c.add_members.new.self (flat_map (kinds_in_member (c.deref-4.ensures i)) (c.deref-5.ensures i))) in
    let last : c.add_codes.new.self ≡ fold with_kind c.add_members-2.new.self codes =
    c.in_ok-add_codes.ensures ∙ (λ i. fold with_kind c.add_members-2.new.self (flat_map (kinds_in (c.deref-6.ensures i)) (c.requires i)))
    ∙ ap (λ (kinds : List Kind). fold with_kind c.add_members-2.new.self kinds) (kinds_are f.pool f.methods) in
    last ∙ ap (λ (n : Numbering). fold with_kind n codes) (third ∙ ap (λ (n : Numbering). fold with_kind n methods) (second ∙ ap (λ (n : Numbering). fold with_kind n fields) first))
    ∙ sym (fold_four with_kind c.args.self.now constants fields methods codes)

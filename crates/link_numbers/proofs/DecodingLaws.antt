-- The codes of all methods, file by file.
use Rattle.std.proofs.Common.{Option, add-one, ◌≡◌, ℕ, ◌+◌, ◌<◌, List, [], ◌∷◌, ◌++◌, length, map, drop, get_or, refl, sym, ap, ◌∙◌}
use Rattle.std.specs.List.{flat_map}
use Rattle.std.proofs.lemmas.List.{length-map}
use Rattle.std.proofs.Math.Seq.{drop-append_seam, drop-cons}
use Rattle.class_model.specs.declared.constant.Const.{Const}
use Rattle.class_model.specs.declared.member.Member.{Member}
use Rattle.class_model.specs.declared.class_file.ClassFile.{ClassFile}
use Rattle.link_model.specs.declared.members.MethodCode.{MethodCode}
use Rattle.link_model.specs.Codes.{code_of}
use Rattle.link_model.specs.Infos.{codes_in}
use Rattle.link_model.specs.Numbering.{kinds_in_code}
use Rattle.link_numbers.specs.Decodings.{kinds_in}

pub kinds_are : (pool : List Const) (methods : List Member) → flat_map (kinds_in pool) (map code_of methods) ≡ flat_map (kinds_in_code pool) methods
kinds_are pool [] = refl
kinds_are pool (m ∷ methods) = ap (λ xs. kinds_in pool (code_of m) ++ xs) (kinds_are pool methods)

-- the codes of the files from one on are those of this file and of the files after it
next_file : (files : List ClassFile) (i : ℕ) (f : ClassFile) → i < length files → f ≡ get_or files i f
    → flat_map codes_in (drop i files) ≡ codes_in f ++ flat_map codes_in (drop (i + 1) files)
next_file files i f h e =
    let cut : drop i files ≡ get_or files i f ∷ drop (i + 1) files = rw add-one (drop-cons files i f h) in
    ap (flat_map codes_in) cut ∙ ap (λ g. codes_in g ++ flat_map codes_in (drop (i + 1) files)) (sym e)

size : (f : ClassFile) → length f.methods ≡ length (codes_in f)
size f = sym (length-map f.methods code_of)

pub behind : (files : List ClassFile) (i : ℕ) (f : ClassFile) (rest : List (Option MethodCode)) → i < length files → f ≡ get_or files i f → rest ≡ flat_map codes_in (drop i files)
    → drop (length f.methods) rest ≡ flat_map codes_in (drop (i + 1) files)
behind files i f rest h e r =
    ap (λ xs. drop (length f.methods) xs) (r ∙ next_file files i f h e)
    ∙ ap (λ n. drop n (codes_in f ++ flat_map codes_in (drop (i + 1) files))) (size f)
    ∙ drop-append_seam (codes_in f) (flat_map codes_in (drop (i + 1) files))

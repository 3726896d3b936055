-- Tables of indexes of members, by class: a class of few members has none.
use Rattle.std.specs.Prelude.{◌≡◌, ℕ, List, Option, Some, slice_get}
use Rattle.class_model.specs.declared.constant.Const.{Const}
use Rattle.class_model.specs.declared.member.Member.{Member}
use Rattle.class_model.specs.declared.class_file.ClassFile.{ClassFile}
use Rattle.std.specs.BTreeMap.{BTreeMap}
use Rattle.std.specs.Global.{Vec}
use Rattle.link_rules.specs.Members.{Key}
use Rattle.link_resolution.specs.Names.{at_text}
use Rattle.link_resolution.specs.KeyTexts.{IndexesAll, key_text}

-- the indices of members by the texts of their keys
abbrev pub Index : Type 0
Index = BTreeMap (Vec ℕ) ℕ

-- where there is an index, it has for each key the first of these members with that key
abbrev pub IndexesMany : List Const → List Member → Option Index → Type 0
IndexesMany pool members o = (m : Index) → o ≡ Some m → IndexesAll pool members m

-- each index is one of these members of its class
abbrev pub AllIndexed : (ClassFile → List Member) → List ClassFile → List (Option Index) → Type 0
AllIndexed members files indexes =
    (c : ℕ) (f : ClassFile) (m : Index) → slice_get files c ≡ Some f → slice_get indexes c ≡ Some (Some m)
    → IndexesAll f.pool (members f) m

-- a class has an index, which has this for a key
abbrev pub Finds : List (Option Index) → ℕ → Key → Option ℕ → Type 0
Finds indexes c key o = (m : Index) × ((slice_get indexes c ≡ Some (Some m)) × (o ≡ at_text m (key_text key)))

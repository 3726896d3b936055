-- Keys of members as single texts, and a map from these to the members' indices.
use Rattle.std.specs.Prelude.{◌≡◌, ℕ, List, [], ◌∷◌, Some, None, if◌then◌else◌}
use Rattle.std.specs.Option.{option_or}
use Rattle.std.specs.BTreeMap.{BTreeMap}
use Rattle.std.specs.Global.{Vec}
use Rattle.class_model.specs.declared.constant.Const.{Const}
use Rattle.class_model.specs.declared.member.Member.{Member}
use Rattle.link_rules.specs.Members.{Key, has_key, index_of}
use Rattle.link_resolution.specs.Names.{at_text}

-- a name, a 1 before each of its units and a 0 after it, and then the rest
abbrev pub tagged : List ℕ → List ℕ → List ℕ
tagged [] rest = 0 ∷ rest
tagged (u ∷ us) rest = 1 ∷ (u ∷ tagged us rest)

-- a key as one text; no two keys have the same
abbrev pub key_text : Key → List ℕ
key_text key = tagged key.name key.descriptor

-- the new map has this index at the member's key, unless the old one had some
abbrev pub AddsMember : BTreeMap (Vec ℕ) ℕ → List Const → Member → ℕ → BTreeMap (Vec ℕ) ℕ → Type 0
AddsMember old pool m index new =
    (key : Key) → at_text new (key_text key) ≡ option_or (at_text old (key_text key)) (if has_key pool key m then Some index else None)

abbrev pub IndexesAll : List Const → List Member → BTreeMap (Vec ℕ) ℕ → Type 0
IndexesAll pool members m = (key : Key) → at_text m (key_text key) ≡ index_of pool key members

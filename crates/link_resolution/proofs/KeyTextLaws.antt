-- Keys as texts: two keys have the same text exactly where they are the same key.
use Rattle.std.proofs.Common.{◌≡◌, ℕ, ◌+◌, ◌<◌, Bool, true, false, ◌&&◌, cond, List, [], ◌∷◌, ◌++◌, length, take, get_or, Option, Some, None, refl, sym, ap, ◌∙◌, nat_eq, arith}
use Rattle.std.specs.Option.{option_or, option_map_or}
use Rattle.std.specs.BTreeMap.{BTreeMap}
use Rattle.std.specs.Global.{Vec}
use Rattle.std.proofs.lemmas.Grind.{common_steps}
use Rattle.class_model.specs.declared.constant.Const.{Const}
use Rattle.class_model.specs.declared.member.Member.{Member}
use Rattle.class_grammar.specs.Text.{same_text}
use Rattle.class_grammar.specs.Pool.{text_at, is_text}
use Rattle.link_rules.specs.Members.{Key, has_key, index_of}
use Rattle.link_resolution.specs.Names.{at_text, Adds}
use Rattle.link_resolution.specs.KeyTexts.{tagged, key_text, AddsMember, IndexesAll}
use Rattle.link_resolution.proofs.Positions.{position_push}

and_assoc : (a b c : Bool) → (a && (b && c)) ≡ ((a && b) && c)
and_assoc true b c = refl
and_assoc false b c = refl

pub same_tagged : (n n' d d' : List ℕ) → same_text (tagged n d) (tagged n' d') ≡ (same_text n n' && same_text d d')
same_tagged [] [] d d' = refl
same_tagged [] (v ∷ vs) d d' = refl
same_tagged (u ∷ us) [] d d' = refl
same_tagged (u ∷ us) (v ∷ vs) d d' =
    ap (λ b. nat_eq u v && b) (same_tagged us vs d d') ∙ and_assoc (nat_eq u v) (same_text us vs) (same_text d d')

-- the test of a key, where the member has a name and a descriptor
same_key : (pool : List Const) (m : Member) (key : Key) (name descriptor : List ℕ) → text_at pool m.name ≡ Some name → text_at pool m.descriptor ≡ Some descriptor
    → same_text (tagged name descriptor) (key_text key) ≡ has_key pool key m
same_key pool m key name descriptor n d =
    same_tagged name key.name descriptor key.descriptor
    ∙ ap (λ o. option_map_or (is_text key.name) o false && same_text descriptor key.descriptor) (sym n)
    ∙ ap (λ o. option_map_or (is_text key.name) (text_at pool m.name) false && option_map_or (is_text key.descriptor) o false) (sym d)

pub adds_member : (old new : BTreeMap (Vec ℕ) ℕ) (pool : List Const) (m : Member) (index : ℕ) (text name descriptor : List ℕ)
    → text_at pool m.name ≡ Some name → text_at pool m.descriptor ≡ Some descriptor → text ≡ tagged name descriptor → Adds old text index new → AddsMember old pool m index new
adds_member old new pool m index text name descriptor n d e adds key =
    adds (key_text key)
    ∙ ap (λ t. option_or (at_text old (key_text key)) (cond (same_text t (key_text key)) (Some index) None)) e
    ∙ ap (λ b. option_or (at_text old (key_text key)) (cond b (Some index) None)) (same_key pool m key name descriptor n d)

or_none : (o : Option ℕ) → o ≡ option_or o None
or_none None = refl
or_none (Some x) = refl

and_false : (b : Bool) → (b && false) ≡ false
and_false true = refl
and_false false = refl

nothing : (old : BTreeMap (Vec ℕ) ℕ) (pool : List Const) (m : Member) (index : ℕ) (key : Key) → has_key pool key m ≡ false
    → at_text old (key_text key) ≡ option_or (at_text old (key_text key)) (cond (has_key pool key m) (Some index) None)
nothing old pool m index key e =
    or_none (at_text old (key_text key)) ∙ ap (λ b. option_or (at_text old (key_text key)) (cond b (Some index) None)) (sym e)

pub adds_no_name : (old : BTreeMap (Vec ℕ) ℕ) (pool : List Const) (m : Member) (index : ℕ) → text_at pool m.name ≡ None → AddsMember old pool m index old
adds_no_name old pool m index n key =
    nothing old pool m index key (ap (λ o. option_map_or (is_text key.name) o false && option_map_or (is_text key.descriptor) (text_at pool m.descriptor) false) n)

pub adds_no_descriptor : (old : BTreeMap (Vec ℕ) ℕ) (pool : List Const) (m : Member) (index : ℕ) → text_at pool m.descriptor ≡ None → AddsMember old pool m index old
adds_no_descriptor old pool m index d key =
    nothing old pool m index key (ap (λ o. option_map_or (is_text key.name) (text_at pool m.name) false && option_map_or (is_text key.descriptor) o false) d
    ∙ and_false (option_map_or (is_text key.name) (text_at pool m.name) false))

-- one member more
pub one_more : (old new : BTreeMap (Vec ℕ) ℕ) (pool : List Const) (members : List Member) (i : ℕ) (m : Member) → i < length members → m ≡ get_or members i m
    → IndexesAll pool (take i members) old → AddsMember old pool m i new → IndexesAll pool (take (i + 1) members) new
one_more old new pool members i m h e all adds key =
    let t : take (i + 1) members ≡ take i members ++ m ∷ [] = grind (arith, common_steps) in
    let l : length (take i members) ≡ i = grind (arith, common_steps) in
    adds key ∙ ap (λ o. option_or o (cond (has_key pool key m) (Some i) None)) (all key)
    ∙ ap (λ n. option_or (index_of pool key (take i members)) (cond (has_key pool key m) (Some n) None)) (sym l)
    ∙ sym (position_push (has_key pool key) (take i members) m) ∙ ap (λ ms. index_of pool key ms) (sym t)

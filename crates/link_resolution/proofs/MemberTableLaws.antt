-- Tables of indexes of members.
use Rattle.std.proofs.Common.{◌≡◌, ℕ, ◌+◌, ◌<◌, ◌≤◌, List, [], ◌∷◌, ◌++◌, length, get_or, Option, Some, sym, ap, subst, ◌∙◌, ⊎_elim, arith, length-append}
use Rattle.std.specs.Prelude.{slice_get}
use Rattle.std.proofs.lemmas.Option.{slice_get_within, slice_get-get_or}
use Rattle.std.proofs.Math.ListN.{get_or-append}
use Rattle.std.proofs.Math.Seq.{get_or-append_seam}
use Rattle.std.proofs.lemmas.Bool.{cases_lt}
use Rattle.class_model.specs.declared.member.Member.{Member}
use Rattle.class_model.specs.declared.class_file.ClassFile.{ClassFile}
use Rattle.link_rules.specs.Members.{Key, index_of}
use Rattle.link_resolution.specs.KeyTexts.{IndexesAll}
use Rattle.link_resolution.specs.MemberTables.{Index, IndexesMany, AllIndexed, Finds}

get_front : {X : Type 0} (xs : List X) (y : X) (c : ℕ) → c < length xs → slice_get (xs ++ y ∷ []) c ≡ slice_get xs c
get_front xs y c h =
    let wide : c < length (xs ++ y ∷ []) = simp length-append (omega arith) in
    slice_get-get_or (xs ++ y ∷ []) c y wide ∙ ap Some (get_or-append xs (y ∷ []) y c h) ∙ sym (slice_get-get_or xs c y h)

get_last : {X : Type 0} (xs : List X) (y : X) (c : ℕ) → c ≡ length xs → slice_get (xs ++ y ∷ []) c ≡ Some y
get_last xs y c e =
    let wide : c < length (xs ++ y ∷ []) = simp length-append (omega arith) in
    slice_get-get_or (xs ++ y ∷ []) c y wide ∙ ap (λ k. Some (get_or (xs ++ y ∷ []) k y)) e ∙ ap Some (get_or-append_seam xs y [] y)

some_is : {X : Type 0} (x y : X) → Some x ≡ Some y → x ≡ y
some_is x y e = cc

-- one class more
pub push_tells : (members : ClassFile → List Member) (files : List ClassFile) (old new : List (Option Index)) (i : ℕ) (f : ClassFile) (o : Option Index)
    → i < length files → f ≡ get_or files i f → length old ≡ i → new ≡ old ++ o ∷ [] → IndexesMany f.pool (members f) o → AllIndexed members files old → AllIndexed members files new
push_tells members files old new i f o h e l n tells all c g m there here =
    let here' : slice_get (old ++ o ∷ []) c ≡ Some (Some m) = ap (λ xs. slice_get xs c) (sym n) ∙ here in
    ⊎_elim
    (λ (lt : c < length old). all c g m there (sym (get_front old o c lt) ∙ here'))
    (λ (ge : length old ≤ c).
    let within : c < length (old ++ o ∷ []) = slice_get_within (old ++ o ∷ []) c (Some m) here' in
    let size : length (old ++ o ∷ []) ≡ length old + 1 = simp length-append in
    let last : c ≡ length old = omega arith in
    let told : o ≡ Some m = some_is o (Some m) (sym (get_last old o c last) ∙ here') in
    let same : f ≡ g =
    some_is f g (ap Some e ∙ sym (slice_get-get_or files i f h) ∙ ap (λ k. slice_get files k) (sym l ∙ sym last) ∙ there) in
    let P : ClassFile → Type 0 = λ x. IndexesAll x.pool (members x) m in
    subst P same (tells m told))
    (cases_lt c (length old))

-- what an index tells is the index of the first member of the key
pub told_is : (members : ClassFile → List Member) (files : List ClassFile) (indexes : List (Option Index)) (c : ℕ) (f : ClassFile) (key : Key) (o : Option ℕ)
    → AllIndexed members files indexes → slice_get files c ≡ Some f → Finds indexes c key o → o ≡ index_of f.pool key (members f)
told_is members files indexes c f key o all there told =
    told.1.1 ∙ all c f told.0 there told.1.0 key

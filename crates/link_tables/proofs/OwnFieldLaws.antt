-- The fields that a class declares, among all fields by number.
use Rattle.std.proofs.Common.{◌≡◌, ℕ, zero, suc, ◌+◌, ◌<◌, ◌≢◌, Bool, true, false, cond, not, List, [], ◌∷◌, ◌++◌, length, map, take, Option, Some, None, refl, sym, ap, ◌∙◌, nat_eq, arith, append-nil}
use Rattle.std.specs.Prelude.{filter, filter_map, flat_map, position, reverse, slice_get, ◌==◌, ◌&&◌}
use Rattle.std.specs.Option.{option_map_or, option_and_then}
use Rattle.std.specs.List.{enumerate_from}
use Rattle.std.specs.List.{cons_option}
use Rattle.std.proofs.lemmas.List.{length-map, map-append}
use Rattle.std.proofs.lemmas.List.Elements.{filter-append}
use Rattle.std.proofs.lemmas.List.Sums.{sum_by-cons}
use Rattle.std.proofs.lemmas.Bool.Decides.{nat_tests}
use Rattle.items.specs.Options.{◌>>=◌}
use Rattle.class_model.specs.declared.class_file.ClassFile.{ClassFile}
use Rattle.class_model.specs.declared.constant.Const.{Const}
use Rattle.class_model.specs.declared.member.Member.{Member}
use Rattle.link_rules.specs.Program.{Program}
use Rattle.link_rules.specs.Hierarchy.{superclasses}
use Rattle.link_rules.specs.Members.{fields_before, is_static}
use Rattle.link_model.specs.declared.members.FieldInfo.{FieldInfo}
use Rattle.link_model.specs.Infos.{field_info, fields_in, fields_of}
use Rattle.link_model.specs.InstanceFields as by_program
use Rattle.link_model.specs.InstanceFields.{own_field, own_fields_from}
use Rattle.link_model.specs.Fields.{is_field_of, is_static_field, own_fields, instance_fields, place}
use Rattle.link_model.specs.World.{World}

own_in : ℕ → ℕ → List FieldInfo → List ℕ
own_in c n fs = map (λ x. x.0) (filter (is_field_of c) (enumerate_from n fs))

enumerate-append : {X : Type 0} (n : ℕ) (xs ys : List X) → enumerate_from n (xs ++ ys) ≡ enumerate_from n xs ++ enumerate_from (n + length xs) ys
enumerate-append n [] ys = ap (λ k. enumerate_from k ys) (omega arith)
enumerate-append n (x ∷ xs) ys =
    ap (λ zs. (n, x) ∷ zs) (enumerate-append (n + 1) xs ys ∙ ap (λ k. enumerate_from (n + 1) xs ++ enumerate_from k ys) (omega arith))

own_in-append : (c n : ℕ) (xs ys : List FieldInfo) → own_in c n (xs ++ ys) ≡ own_in c n xs ++ own_in c (n + length xs) ys
unfolding own_in
own_in-append c n xs ys =
    ap (λ zs. map (λ x. x.0) (filter (is_field_of c) zs)) (enumerate-append n xs ys)
    ∙ ap (λ zs. map (λ x. x.0) zs) (filter-append (is_field_of c) (enumerate_from n xs) (enumerate_from (n + length xs) ys))
    ∙ map-append (λ x. x.0) (filter (is_field_of c) (enumerate_from n xs)) (filter (is_field_of c) (enumerate_from (n + length xs) ys))

-- ---- the fields of one class

same : (c : ℕ) → nat_eq c c ≡ true
same c = grind (arith, nat_tests)

-- of that class itself
here : (c s i n : ℕ) (pool : List Const) (ms : List Member) → n ≡ s + i → own_in c n (map (field_info c pool) ms) ≡ filter_map (own_field s) (enumerate_from i ms)
unfolding own_in
here c s i n pool [] e = refl
here c s i n pool (m ∷ ms) e =
    by (nat_eq c c) (is_static m) (same c) (field_info c pool m) (filter (is_field_of c) (enumerate_from (n + 1) (map (field_info c pool) ms)))
    (filter_map (own_field s) (enumerate_from (i + 1) ms)) (here c s (i + 1) (n + 1) pool ms (omega arith))
  where
    by : (t b : Bool) → t ≡ true → (f : FieldInfo) (zs : List (ℕ × FieldInfo)) (ys : List ℕ) → map (λ x. x.0) zs ≡ ys
        → map (λ x. x.0) (cond (t && not b) ((n, f) ∷ zs) zs) ≡ cons_option (cond b None (Some (s + i))) ys
    by true true h f zs ys r = r
    by true false h f zs ys r = ap (λ k. k ∷ map (λ x. x.0) zs) e ∙ ap (λ xs. (s + i) ∷ xs) r
    by false b h f zs ys r = absurd cc

-- of another class
elsewhere : (c d n : ℕ) (pool : List Const) (ms : List Member) → d ≢ c → own_in c n (map (field_info d pool) ms) ≡ []
unfolding own_in
elsewhere c d n pool [] ne = refl
elsewhere c d n pool (m ∷ ms) ne =
    let other : nat_eq d c ≡ false = grind (arith, nat_tests) in
    ap (λ t. map (λ x. x.0) (cond (t && not (is_static m)) ((n, field_info d pool m) ∷ filter (is_field_of c) (enumerate_from (n + 1) (map (field_info d pool) ms)))
    (filter (is_field_of c) (enumerate_from (n + 1) (map (field_info d pool) ms))))) other
    ∙ elsewhere c d (n + 1) pool ms ne

-- ---- class by class

numbered : ℕ → List ClassFile → List FieldInfo
numbered k fs = flat_map fields_in (enumerate_from k fs)

count_of : (k : ℕ) (f : ClassFile) → length (fields_in (k, f)) ≡ length f.fields
count_of k f = length-map f.fields (field_info k f.pool)

before_all : (c k n : ℕ) (fs : List ClassFile) → c < k → own_in c n (numbered k fs) ≡ []
unfolding own_in numbered
before_all c k n [] h = refl
before_all c k n (f ∷ fs) h =
    let ne : k ≢ c = omega arith in
    own_in-append c n (fields_in (k, f)) (numbered (k + 1) fs)
    ∙ ap (λ xs. xs ++ own_in c (n + length (fields_in (k, f))) (numbered (k + 1) fs)) (elsewhere c k n f.pool f.fields ne)
    ∙ before_all c (k + 1) (n + length (fields_in (k, f))) fs (omega arith)

at_class : (j k n : ℕ) (fs : List ClassFile)
    → own_in (k + j) n (numbered k fs) ≡ option_map_or (λ (f : ClassFile). own_fields_from (n + fields_before fs j) f.fields) (slice_get fs j) []
unfolding own_in numbered
at_class j k n [] = refl
at_class zero k n (f ∷ fs) =
    let e : k + 0 ≡ k = omega arith in
    ap (λ c. own_in c n (numbered k (f ∷ fs))) e
    ∙ own_in-append k n (fields_in (k, f)) (numbered (k + 1) fs)
    ∙ ap (λ xs. xs ++ own_in k (n + length (fields_in (k, f))) (numbered (k + 1) fs)) (here k n 0 n f.pool f.fields (omega arith))
    ∙ ap (λ xs. own_fields_from n f.fields ++ xs) (before_all k (k + 1) (n + length (fields_in (k, f))) fs (omega arith))
    ∙ append-nil (own_fields_from n f.fields)
    ∙ ap (λ s. own_fields_from s f.fields) (sym zero_more)
  where
    zero_more : n + fields_before (f ∷ fs) 0 ≡ n
    zero_more = omega arith
at_class (suc j) k n (f ∷ fs) =
    let ne : k ≢ k + suc j = omega arith in
    let next : k + suc j ≡ k + 1 + j = omega arith in
    own_in-append (k + suc j) n (fields_in (k, f)) (numbered (k + 1) fs)
    ∙ ap (λ xs. xs ++ own_in (k + suc j) (n + length (fields_in (k, f))) (numbered (k + 1) fs)) (elsewhere (k + suc j) k n f.pool f.fields ne)
    ∙ ap (λ c. own_in c (n + length (fields_in (k, f))) (numbered (k + 1) fs)) next
    ∙ at_class j (k + 1) (n + length (fields_in (k, f))) fs
    ∙ ap (λ s. option_map_or (λ (g : ClassFile). own_fields_from s g.fields) (slice_get fs j) []) sums
  where
    sums : n + length (fields_in (k, f)) + fields_before fs j ≡ n + fields_before (f ∷ fs) (suc j)
    sums = omega (arith, count_of k f, sum_by-cons (λ (g : ClassFile). length g.fields) f (take j fs))

-- the fields by number that a class declares are those of its file
pub own_are : (p : Program) (w : World) (c : ℕ) → w.fields ≡ fields_of p → own_fields w c ≡ by_program.own_fields p c
unfolding own_in numbered
own_are p w c e =
    let z : 0 + c ≡ c = omega arith in
    ap (λ fs. map (λ x. x.0) (filter (is_field_of c) (enumerate_from 0 fs))) e
    ∙ ap (λ d. own_in d 0 (numbered 0 p.classes)) (sym z)
    ∙ at_class c 0 0 p.classes
    ∙ ap (λ s. option_map_or (λ (g : ClassFile). own_fields_from s g.fields) (slice_get p.classes c) []) zero_less
  where
    zero_less : 0 + fields_before p.classes c ≡ fields_before p.classes c
    zero_less = omega arith

-- and so are those of its objects
pub instance_are : (p : Program) (w : World) (c : ℕ) → w.fields ≡ fields_of p → w.program ≡ p → by_program.instance_fields p c ≡ instance_fields w c
instance_are p w c fields program =
    ap (λ (own : ℕ → List ℕ). flat_map own (reverse (superclasses p c))) (λ i d. sym (own_are p w d fields) i)
    ∙ ap (λ (q : Program). flat_map (own_fields w) (reverse (superclasses q c))) (sym program)

-- the place by the rows of the classes is that in the world
pub place_is : (w : World) (rows : ℕ → List ℕ) (n : ℕ) → ((c : ℕ) → rows c ≡ instance_fields w c)
    → option_and_then (λ f. cond (is_static_field f) (Some (length (filter is_static_field (take n w.fields)))) (position (λ m. m == n) (rows f.class))) (slice_get w.fields n)
    ≡ place w n
place_is w rows n e =
    ap (λ (r : ℕ → List ℕ). option_and_then (λ f. cond (is_static_field f) (Some (length (filter is_static_field (take n w.fields)))) (position (λ m. m == n) (r f.class))) (slice_get w.fields n))
    (λ i c. e c i)
    ∙ by (slice_get w.fields n)
  where
    by : (o : Option FieldInfo)
        → option_and_then (λ f. cond (is_static_field f) (Some (length (filter is_static_field (take n w.fields)))) (position (λ m. m == n) (instance_fields w f.class))) o
        ≡ (o >>= λ f. cond (is_static_field f) (Some (length (filter is_static_field (take n w.fields)))) (o >>= λ g. position (λ m. m == n) (instance_fields w g.class)))
    by None = refl
    by (Some f) = refl

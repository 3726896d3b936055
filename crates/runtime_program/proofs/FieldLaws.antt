-- A static field has no place among the values of an object.
use Rattle.std.proofs.Common.{◌≡◌, ℕ, zero, suc, ◌+◌, ◌<◌, Bool, true, false, cond, not, List, [], ◌∷◌, ◌++◌, map, Option, Some, None, refl, sym, ap, ◌∙◌, arith}
use Rattle.std.specs.Prelude.{filter, flat_map, position, reverse, slice_get, ◌==◌, ◌&&◌}
use Rattle.std.specs.List.{enumerate_from}
use Rattle.std.specs.Option.{option_map}
use Rattle.std.proofs.lemmas.Bool.Decides.{nat_tests}
use Rattle.items.specs.First.{Each}
use Rattle.items.specs.Options.{◌>>=◌}
use Rattle.link_rules.specs.Hierarchy.{superclasses}
use Rattle.link_model.specs.declared.members.FieldInfo.{FieldInfo}
use Rattle.link_model.specs.World.{World}
use Rattle.link_model.specs.Fields.{declares, field_place, instance_fields, is_field_of, is_static_field, own_fields, place}
use Rattle.link_resolution.proofs.Positions.{position_cons}

-- no number of the list is this one
abbrev Lacks : ℕ → List ℕ → Type 0
Lacks n xs = Each (λ m. (m == n) ≡ false) xs

both_lack : (n : ℕ) (xs ys : List ℕ) → Lacks n xs → Lacks n ys → Lacks n (xs ++ ys)
both_lack n [] ys a b = b
both_lack n (x ∷ xs) ys a b = (a.0, both_lack n xs ys a.1 b)

no_position : (n : ℕ) (xs : List ℕ) → Lacks n xs → position (λ m. m == n) xs ≡ None
no_position n [] h = refl
no_position n (x ∷ xs) h =
    position_cons (λ m. m == n) x xs
    ∙ ap (λ b. cond b (Some 0) (option_map suc (position (λ m. m == n) xs))) h.0
    ∙ ap (option_map suc) (no_position n xs h.1)

-- ---- the fields that one class declares

own_from : ℕ → ℕ → List FieldInfo → List ℕ
own_from c k fs = map (λ x. x.0) (filter (is_field_of c) (enumerate_from k fs))

kept_lacks : (n k : ℕ) (b : Bool) (f : FieldInfo) (xs : List (ℕ × FieldInfo)) → (b ≡ true → (k == n) ≡ false) → Lacks n (map (λ x. x.0) xs)
    → Lacks n (map (λ x. x.0) (cond b ((k, f) ∷ xs) xs))
kept_lacks n k true f xs head rest = (head refl, rest)
kept_lacks n k false f xs head rest = rest

-- those after it
above : (c n k : ℕ) (fs : List FieldInfo) → n < k → Lacks n (own_from c k fs)
unfolding own_from
above c n k [] h = tt
above c n k (f ∷ fs) h =
    kept_lacks n k (declares c f) f (filter (is_field_of c) (enumerate_from (k + 1) fs)) (λ kept. grind (arith, nat_tests))
    (above c n (k + 1) fs (omega arith))

declared : (c : ℕ) (f : FieldInfo) → is_static_field f ≡ true → declares c f ≡ true → ⊥
declared c f static is = by (f.class == c) (is_static_field f) static is
  where
    by : (a b : Bool) → b ≡ true → (a && not b) ≡ true → ⊥
    by true true s e = cc
    by true false s e = cc
    by false b s e = cc

around : (c n k j : ℕ) (fs : List FieldInfo) (f : FieldInfo) → n ≡ k + j → slice_get fs j ≡ Some f → is_static_field f ≡ true → Lacks n (own_from c k fs)
unfolding own_from
around c n k j [] f e at static = absurd cc
around c n k zero (g ∷ fs) f e at static =
    let same : g ≡ f = cc in
    kept_lacks n k (declares c g) g (filter (is_field_of c) (enumerate_from (k + 1) fs))
    (λ kept. absurd (declared c g (ap is_static_field same ∙ static) kept)) (above c n (k + 1) fs (omega arith))
around c n k (suc j) (g ∷ fs) f e at static =
    kept_lacks n k (declares c g) g (filter (is_field_of c) (enumerate_from (k + 1) fs)) (λ kept. grind (arith, nat_tests))
    (around c n (k + 1) j fs f (omega arith) at static)

own_lacks : (w : World) (c n : ℕ) (f : FieldInfo) → slice_get w.fields n ≡ Some f → is_static_field f ≡ true → Lacks n (own_fields w c)
unfolding own_from
own_lacks w c n f at static = around c n 0 n w.fields f (omega arith) at static

all_lack : (w : World) (n : ℕ) (f : FieldInfo) (cs : List ℕ) → slice_get w.fields n ≡ Some f → is_static_field f ≡ true
    → Lacks n (flat_map (own_fields w) cs)
all_lack w n f [] at static = tt
all_lack w n f (c ∷ cs) at static =
    both_lack n (own_fields w c) (flat_map (own_fields w) cs) (own_lacks w c n f at static) (all_lack w n f cs at static)

pub no_place : (w : World) (n : ℕ) (f : FieldInfo) → slice_get w.fields n ≡ Some f → is_static_field f ≡ true → None ≡ field_place w n
no_place w n f at static =
    sym (no_position n (instance_fields w f.class) (all_lack w n f (reverse (superclasses w.program f.class)) at static))
    ∙ sym (ap (λ (o : Option FieldInfo). o >>= λ g. position (λ m. m == n) (instance_fields w g.class)) at)

-- an instance field's place is that among the values of an object
pub instance_place : (w : World) (n : ℕ) (f : FieldInfo) → slice_get w.fields n ≡ Some f → is_static_field f ≡ false → place w n ≡ field_place w n
instance_place w n f at static = rw (at, static) refl

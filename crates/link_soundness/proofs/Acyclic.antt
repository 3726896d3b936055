-- No class of a program that links is above itself, so that its superclasses end (JVMS 5.3.5).
use Rattle.std.proofs.Common.{◌≡◌, ℕ, zero, suc, ◌<◌, Bool, true, false, not, List, [], ◌∷◌, length, Option, Some, None, refl, ap, sym, subst, ◌∙◌, arith}
use Rattle.std.specs.Prelude.{option_and_then, slice_get, ◌==◌, ◌&&◌, ◌||◌}
use Rattle.std.specs.Option.{option_map_or}
use Rattle.std.proofs.lemmas.Bool.{eqb-true}
use Rattle.items.specs.First.{AllNone}
use Rattle.items.proofs.FirstLaws.{passed}
use Rattle.class_model.specs.declared.class_file.ClassFile.{ClassFile}
use Rattle.class_grammar.specs.Names.{object_class}
use Rattle.class_grammar.specs.Text.{same_text}
use Rattle.link_rules.specs.declared.why.LinkWhy.TheVariants.{Cycle, WrongKind}
use Rattle.link_rules.specs.Program.{Program, is_array_name, is_interface}
use Rattle.link_rules.specs.Hierarchy.{is_among, is_below, parent_in, parent_of}
use Rattle.link_rules.specs.Faults.{Links, is_parent_kind, leads_back, names_below, names_interface, parent_faults, parent_faults_of}
use Rattle.link_model.specs.Worlds.{world_of}
use Rattle.verify_types.proofs.ListLaws.{and_true}
use Rattle.link_soundness.proofs.Among.{as_many, below_among, numbers_below, one_less, others_stay, without}
use Rattle.link_soundness.proofs.Chains.{IsUp, up, up_holds}
use Rattle.link_soundness.proofs.Settled.{HaveEnds, ends}
use Rattle.link_soundness.proofs.Supers.{IsNamedClass, class_in_is, parent_inside, parts_at}
use Rattle.link_soundness.proofs.Visited.{up_below}

-- ---- no class is a superclass of its superclass

no_way_back : (array interface below : Bool) → not (not array && below) ≡ true → not (array || interface) ≡ true → below ≡ true → ⊥
no_way_back true interface below back plain is = absurd cc
no_way_back false interface true back plain is = absurd cc
no_way_back false interface false back plain is = absurd cc

pub no_cycle : (p : Program) (c x : ℕ) → Links p → parent_of p c ≡ Some x → IsUp (parent_of p) x c → ⊥
no_cycle p c x links e u = by (slice_get p.classes c) refl e
  where
    named : (f : ClassFile) → AllNone (parent_faults p c f) → IsNamedClass p f f.parent x → ⊥
    named f none h =
        let rules = subst (λ o. AllNone (option_map_or (parent_faults_of p c) o [])) h.name_is none in
        let back = passed (not (leads_back p c h.name)) Cycle rules.1.0 in
        let kind = passed (is_parent_kind p c h.name) WrongKind rules.1.1.0 in
        let plain = (and_true (not (is_array_name h.name || names_interface p h.name)) (not (is_interface p c) || same_text h.name object_class) kind).0 in
        let below : names_below p c h.name ≡ true =
        ap (λ o. option_map_or (λ d. is_below p d c) o false) h.is ∙ up_below p u.steps x c (parent_inside p c x e) u.is in
        no_way_back (is_array_name h.name) (names_interface p h.name) (names_below p c h.name) back plain below

    by : (o : Option ClassFile) → slice_get p.classes c ≡ o → option_map_or (parent_in p) o None ≡ Some x → ⊥
    by None file is = absurd cc
    by (Some f) file is = named f (parts_at p c f links file).parent (class_in_is p f f.parent x is)

-- ---- the superclasses end: each is one of those that are left, and none comes twice

nothing_among : (xs : List ℕ) (c : ℕ) → length xs ≡ 0 → is_among xs c ≡ true → ⊥
nothing_among [] c none e = absurd cc
nothing_among (x ∷ xs) c none e = absurd (omega arith)

ends_within : (parent : ℕ → Option ℕ) → ((c x : ℕ) → parent c ≡ Some x → IsUp parent x c → ⊥) → (n : ℕ) (left : List ℕ) (c : ℕ)
    → length left ≡ n → ((d : ℕ) → IsUp parent c d → is_among left d ≡ true) → ends parent n c ≡ true
ends_within parent acyclic zero left c size inside = absurd (nothing_among left c size (inside c (record { steps = 0; is = refl })))
ends_within parent acyclic (suc n) left c size inside =
    by (parent c) refl (λ x is. ends_within parent acyclic n (without c left) x
    (one_fewer (length (without c left)) (length left) n (one_less c left (inside c (record { steps = 0; is = refl }))) size)
    (λ d u. others_stay c d left (another x is d u (c == d) refl) (inside d (one_up x is d u))))
  where
    one_fewer : (k l m : ℕ) → suc k ≡ l → l ≡ suc m → k ≡ m
    one_fewer k l m e f = omega arith

    one_up : (x : ℕ) → parent c ≡ Some x → (d : ℕ) → IsUp parent x d → IsUp parent c d
    one_up x is d u = record { steps = suc u.steps; is = ap (option_and_then (up parent u.steps)) is ∙ u.is }

    another : (x : ℕ) → parent c ≡ Some x → (d : ℕ) → IsUp parent x d → (b : Bool) → (c == d) ≡ b → (c == d) ≡ false
    another x is d u true e = absurd (acyclic c x is (subst (IsUp parent x) (sym (eqb-true c d e)) u))
    another x is d u false e = e

    by : (o : Option ℕ) → parent c ≡ o → ((x : ℕ) → parent c ≡ Some x → ends parent n x ≡ true) → option_map_or (ends parent n) o true ≡ true
    by None is more = refl
    by (Some x) is more = more x is

pub have_ends : (p : Program) → Links p → HaveEnds (world_of p)
have_ends p links = λ c low.
    ends_within (parent_of p) (λ d x e u. no_cycle p d x links e u) (length p.classes) (numbers_below (length p.classes)) c (as_many (length p.classes))
    (λ d u. below_among (length p.classes) d (inside c low d u))
  where
    inside : (c : ℕ) → c < length p.classes → (d : ℕ) → IsUp (parent_of p) c d → d < length p.classes
    inside c low d u = up_holds (λ x. x < length p.classes) (parent_of p) (λ x y here e. parent_inside p x y e) u.steps c d low u.is

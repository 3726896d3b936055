-- Going up from a class to its superclasses (JVMS 5.3.5).
use Rattle.std.proofs.Common.{◌≡◌, ℕ, zero, suc, ◌<◌, true, List, [], ◌∷◌, ◌++◌, Option, Some, None, refl, ap, sym, subst, ◌∙◌, arith}
use Rattle.std.specs.Prelude.{option_and_then}
use Rattle.std.specs.Option.{option_map_or}
use Rattle.link_rules.specs.Hierarchy.{climb}
use Rattle.link_soundness.proofs.Settled.{ends}

-- the class that is so many superclasses up
abbrev pub up : (ℕ → Option ℕ) → ℕ → ℕ → Option ℕ
up parent zero c = Some c
up parent (suc k) c = option_and_then (up parent k) (parent c)

-- one class is another, or one of its superclasses
pub record IsUp (parent : ℕ → Option ℕ) (c d : ℕ) : Type 0 where
  pub steps : ℕ
  pub is : up parent steps c ≡ Some d

pub up_one : (parent : ℕ → Option ℕ) (k c d e : ℕ) → up parent k c ≡ Some d → parent d ≡ Some e → up parent (suc k) c ≡ Some e
up_one parent zero c d e is above = let same : c ≡ d = cc in ap (option_and_then (λ x. Some x)) (ap parent same ∙ above)
up_one parent (suc k) c d e is above = by (parent c) refl is (λ x below. up_one parent k x d e below above)
  where
    by : (o : Option ℕ) → parent c ≡ o → option_and_then (up parent k) o ≡ Some d → ((x : ℕ) → up parent k x ≡ Some d → up parent (suc k) x ≡ Some e)
        → up parent (suc (suc k)) c ≡ Some e
    by None p is more = absurd cc
    by (Some x) p is more = ap (option_and_then (up parent (suc k))) p ∙ more x is

-- and of one of these
pub up_join : (parent : ℕ → Option ℕ) (k c d e : ℕ) → up parent k c ≡ Some d → IsUp parent d e → IsUp parent c e
up_join parent zero c d e is more = let same : c ≡ d = cc in record { steps = more.steps; is = ap (up parent more.steps) same ∙ more.is }
up_join parent (suc k) c d e is more = by (parent c) refl is (λ x below. up_join parent k x d e below more)
  where
    by : (o : Option ℕ) → parent c ≡ o → option_and_then (up parent k) o ≡ Some d → ((x : ℕ) → up parent k x ≡ Some d → IsUp parent x e) → IsUp parent c e
    by None p is above = absurd cc
    by (Some x) p is above =
        let h = above x is in
        record { steps = suc h.steps; is = ap (option_and_then (up parent h.steps)) p ∙ h.is }

-- what holds of a class and of the superclass of each that it holds of
pub up_holds : (P : ℕ → Type 0) (parent : ℕ → Option ℕ) → ((x y : ℕ) → P x → parent x ≡ Some y → P y) → (k c d : ℕ) → P c → up parent k c ≡ Some d → P d
up_holds P parent closed zero c d h is = let same : c ≡ d = cc in subst P same h
up_holds P parent closed (suc k) c d h is = by (parent c) refl is (λ x holds below. up_holds P parent closed k x d holds below)
  where
    by : (o : Option ℕ) → parent c ≡ o → option_and_then (up parent k) o ≡ Some d → ((x : ℕ) → P x → up parent k x ≡ Some d → P d) → P d
    by None p is more = absurd cc
    by (Some x) p is more = more x (closed c x h p) is

-- ---- the superclasses end

pub ends_above : (parent : ℕ → Option ℕ) (n c d : ℕ) → ends parent (suc n) c ≡ true → parent c ≡ Some d → ends parent n d ≡ true
ends_above parent n c d e above = sym (ap (λ o. option_map_or (ends parent n) o true) above) ∙ e

climb_more : (parent : ℕ → Option ℕ) (n c : ℕ) → ends parent n c ≡ true → climb parent (suc n) c ≡ climb parent n c
climb_more parent zero c e = absurd cc
climb_more parent (suc n) c e = by (parent c) refl (λ d holds. climb_more parent n d holds)
  where
    by : (o : Option ℕ) → parent c ≡ o → ((d : ℕ) → ends parent n d ≡ true → climb parent (suc n) d ≡ climb parent n d)
        → climb parent (suc (suc n)) c ≡ climb parent (suc n) c
    by None p more = ap (λ o. c ∷ option_map_or (climb parent (suc n)) o []) p ∙ sym (ap (λ o. c ∷ option_map_or (climb parent n) o []) p)
    by (Some d) p more =
        ap (λ o. c ∷ option_map_or (climb parent (suc n)) o []) p
        ∙ ap (λ cs. c ∷ cs) (more d (ends_above parent n c d e p))
        ∙ sym (ap (λ o. c ∷ option_map_or (climb parent n) o []) p)

-- the superclasses of a class end with those of any of them
pub record HasSuffix (all some : List ℕ) : Type 0 where
  pub front : List ℕ
  pub parts : all ≡ front ++ some

pub suffix : (parent : ℕ → Option ℕ) (n : ℕ) → ((c : ℕ) → c < n → ends parent n c ≡ true) → ((c d : ℕ) → parent c ≡ Some d → d < n) → (k c d : ℕ)
    → c < n → up parent k c ≡ Some d → HasSuffix (climb parent n c) (climb parent n d)
suffix parent n all inside zero c d low is = let same : c ≡ d = cc in record { front = []; parts = ap (climb parent n) same }
suffix parent zero all inside (suc k) c d low is = absurd (omega arith)
suffix parent (suc n) all inside (suc k) c d low is = by (parent c) refl is (λ x below found. suffix parent (suc n) all inside k x d below found)
  where
    by : (o : Option ℕ) → parent c ≡ o → option_and_then (up parent k) o ≡ Some d
        → ((x : ℕ) → x < suc n → up parent k x ≡ Some d → HasSuffix (climb parent (suc n) x) (climb parent (suc n) d))
        → HasSuffix (climb parent (suc n) c) (climb parent (suc n) d)
    by None p is more = absurd cc
    by (Some x) p is more =
        let h = more x (inside c x p) is in
        record {
          front = c ∷ h.front;
          parts = ap (λ o. c ∷ option_map_or (climb parent n) o []) p
              ∙ ap (λ cs. c ∷ cs) (sym (climb_more parent n x (ends_above parent n c x (all c low) p)) ∙ h.parts);
        }

-- A `BTreeMap` whose keys are texts: what an insertion at one text leaves at each text.
use Rattle.std.proofs.Common.{◌≡◌, ℕ, Bool, true, false, cond, List, Option, Some, None, is_some, refl, sym, ap, subst, ◌∙◌, ⊎_elim}
use Rattle.std.specs.Ordering.{is_eq, nat_cmp}
use Rattle.std.specs.Cmp.{eq_by_cmp_equiv}
use Rattle.std.specs.Cmp.Lexicographic.{slice_cmp, bytes_decides, nat_list_cmp_total, nat_list_eq_equiv, texts_ties}
use Rattle.std.specs.Str.{bytes_eq}
use Rattle.std.specs.Global.{Vec}
use Rattle.std.specs.BTreeMap.{BTreeMap, UpdatesBy}
use Rattle.std.specs.Map.{lookup, IsKeyTest, AreApart, KeepsOthers}
use Rattle.link_resolution.specs.Names.{at_text, Adds}
use Rattle.std.specs.Option.{option_or}
use Rattle.std.proofs.lemmas.Bool.{cases_Bool, cond-true, cond-false}

is_eq-slice_cmp : (xs ys : List ℕ) → is_eq (slice_cmp nat_cmp xs ys) ≡ bytes_eq xs ys
is_eq-slice_cmp xs ys = sym (texts_ties xs ys)

apart : (bs cs ks : List ℕ) → bytes_eq bs cs ≡ false → is_eq (slice_cmp nat_cmp bs ks) ≡ true → is_eq (slice_cmp nat_cmp cs ks) ≡ false
apart bs cs ks n y =
    is_eq-slice_cmp cs ks ∙ nat_list_eq_equiv.symm cs ks ∙ sym (nat_list_eq_equiv.congr bs ks cs (sym (is_eq-slice_cmp bs ks) ∙ y)) ∙ n

others : {K X : Type 0} (eq : K → K → Bool) (test : K → Bool) (old new : List (K × X)) → KeepsOthers eq test old new
    → (other : K → Bool) → IsKeyTest eq other → AreApart test other → lookup other new ≡ lookup other old
unfolding KeepsOthers
others eq test old new h = h

pub at_text_updates : {X : Type 0} (bs : List ℕ) (m n : BTreeMap (Vec ℕ) X) (w : Option X) → UpdatesBy (λ x y. slice_cmp nat_cmp x.items y.items) (λ k. slice_cmp nat_cmp bs k.items) m n w
    → (cs : List ℕ) → at_text n cs ≡ cond (bytes_eq bs cs) w (at_text m cs)
at_text_updates bs m n w h cs =
    ⊎_elim
    (λ y. subst (λ l. at_text n l ≡ w) ((bytes_decides bs cs).0 y) h.1 ∙ sym (cond-true (bytes_eq bs cs) w (at_text m cs) y))
    (λ e. others _ _ _ _ h.3 _ (λ x y. (eq_by_cmp_equiv nat_list_cmp_total).congr cs x.items y.items) (λ k. apart bs cs k.items e) ∙ sym (cond-false (bytes_eq bs cs) w (at_text m cs) e))
    (cases_Bool (bytes_eq bs cs))

-- where the name was not there
pub adds_new : {X : Type 0} (m n : BTreeMap (Vec ℕ) X) (key : Vec ℕ) (name : List ℕ) (x : X) → key.items ≡ name → is_some (at_text m name) ≡ false
    → UpdatesBy (λ y z. slice_cmp nat_cmp y.items z.items) (λ k. slice_cmp nat_cmp key.items k.items) m n (Some x) → Adds m name x n
adds_new {X = X} m n key name x e fresh h text =
    at_text_updates key.items m n (Some x) h text ∙ ap (λ bs. cond (bytes_eq bs text) (Some x) (at_text m text)) e
    ∙ ⊎_elim
    (λ y. here (bytes_eq name text) (at_text m text) y (subst (λ t. is_some (at_text m t) ≡ false) ((bytes_decides name text).0 y) fresh))
    (λ off. there (bytes_eq name text) (at_text m text) off)
    (cases_Bool (bytes_eq name text))
  where
    here : (b : Bool) (o : Option X) → b ≡ true → is_some o ≡ false → cond b (Some x) o ≡ option_or o (cond b (Some x) None)
    here b None y s = refl
    here b (Some k) y s = cc

    there : (b : Bool) (o : Option X) → b ≡ false → cond b (Some x) o ≡ option_or o (cond b (Some x) None)
    there true o off = cc
    there false None off = refl
    there false (Some k) off = refl

-- where it was
pub adds_none : {X : Type 0} (m : BTreeMap (Vec ℕ) X) (name : List ℕ) (x : X) → is_some (at_text m name) ≡ true → Adds m name x m
adds_none {X = X} m name x found text =
    ⊎_elim
    (λ y. here (bytes_eq name text) (at_text m text) (subst (λ t. is_some (at_text m t) ≡ true) ((bytes_decides name text).0 y) found))
    (λ off. there (bytes_eq name text) (at_text m text) off)
    (cases_Bool (bytes_eq name text))
  where
    here : (b : Bool) (o : Option X) → is_some o ≡ true → o ≡ option_or o (cond b (Some x) None)
    here b None s = cc
    here b (Some k) s = refl

    there : (b : Bool) (o : Option X) → b ≡ false → o ≡ option_or o (cond b (Some x) None)
    there true o off = cc
    there false None off = refl
    there false (Some k) off = refl

-- One more constant in a pool whose places are known.
use Rattle.std.proofs.Common.{◌≡◌, ℕ, suc, ◌+◌, ◌<◌, ◌≤◌, Bool, true, false, cond, List, [], ◌∷◌, ◌++◌, length, Option, Some, None, refl, sym, ap, subst, ◌∙◌, length-append, arith, ⊎_elim, ltb, nat_eq}
use Rattle.std.specs.Option.{option_map}
use Rattle.std.specs.Ordering.{is_eq, nat_cmp}
use Rattle.std.specs.Cmp.{eq_by_cmp_equiv}
use Rattle.std.specs.Cmp.Lexicographic.{pointwise, slice_cmp, bytes_decides, nat_list_cmp_total, nat_list_eq_equiv, texts_ties}
use Rattle.std.specs.Str.{bytes_eq}
use Rattle.std.specs.Global.{Vec}
use Rattle.std.specs.List.{AllByRecursion}
use Rattle.std.specs.BTreeMap.{BTreeMap, UpdatesBy}
use Rattle.std.specs.Map.{lookup, IsKeyTest, AreApart, KeepsOthers}
use Rattle.std.proofs.lemmas.Bool.{cases_Bool, cond-true, cond-false, le-ltb}
use Rattle.class_model.specs.declared.constant.Const.{Const}
use Rattle.asm_pool.specs.Keys.{key_of}
use Rattle.asm_pool.specs.Mentions.{is_long, second_entry, slots_of, place_of, mentioned_at, mentioned}
use Rattle.asm_pool.specs.declared.pool.Pool.{Pool}
use Rattle.asm_pool.specs.Places.{at_text, IsPool}

-- ---- the map

is_eq-slice_cmp : (xs ys : List ℕ) → is_eq (slice_cmp nat_cmp xs ys) ≡ bytes_eq xs ys
is_eq-slice_cmp xs ys = sym (texts_ties xs ys)

apart : (bs cs ks : List ℕ) → bytes_eq bs cs ≡ false → is_eq (slice_cmp nat_cmp bs ks) ≡ true → is_eq (slice_cmp nat_cmp cs ks) ≡ false
apart bs cs ks n y =
    is_eq-slice_cmp cs ks ∙ nat_list_eq_equiv.symm cs ks ∙ sym (nat_list_eq_equiv.congr bs ks cs (sym (is_eq-slice_cmp bs ks) ∙ y)) ∙ n

others : {K X : Type 0} (eq : K → K → Bool) (test : K → Bool) (old new : List (K × X)) → KeepsOthers eq test old new
    → (other : K → Bool) → IsKeyTest eq other → AreApart test other → lookup other new ≡ lookup other old
unfolding KeepsOthers
others eq test old new h = h

-- what an insertion at one text leaves at each
pub at_text_updates : (bs : List ℕ) (m n : BTreeMap (Vec ℕ) ℕ) (w : Option ℕ) → UpdatesBy (λ x y. slice_cmp nat_cmp x.items y.items) (λ k. slice_cmp nat_cmp bs k.items) m n w
    → (cs : List ℕ) → at_text n cs ≡ cond (bytes_eq bs cs) w (at_text m cs)
at_text_updates bs m n w h cs =
    ⊎_elim
    (λ y. subst (λ l. at_text n l ≡ w) ((bytes_decides bs cs).0 y) h.1 ∙ sym (cond-true (bytes_eq bs cs) w (at_text m cs) y))
    (λ e. others _ _ _ _ h.3 _ (λ x y. (eq_by_cmp_equiv nat_list_cmp_total).congr cs x.items y.items) (λ k. apart bs cs k.items e) ∙ sym (cond-false (bytes_eq bs cs) w (at_text m cs) e))
    (cases_Bool (bytes_eq bs cs))

-- ---- the first constant with a key

abbrev has_key : List ℕ → Const → Bool
has_key key c = pointwise nat_eq (key_of c) key

abbrev place_by : Bool → Option ℕ → Option ℕ
place_by b o = cond b (Some 0) (option_map suc o)

none_by : (b : Bool) (o : Option ℕ) → place_by b o ≡ None → (b ≡ false) × (o ≡ None)
none_by true o e = absurd cc
none_by false None e = (refl, refl)
none_by false (Some n) e = absurd cc

-- behind those that have it not
place_new : (key : List ℕ) (pool : List Const) (c : Const) (rest : List Const) → place_of key pool ≡ None → has_key key c ≡ true → place_of key (pool ++ c ∷ rest) ≡ Some (length pool)
place_new key [] c rest none has = ap (λ b. place_by b (place_of key rest)) has
place_new key (d ∷ pool) c rest none has =
    let t = none_by (has_key key d) (place_of key pool) none in
    ap (λ b. place_by b (place_of key (pool ++ c ∷ rest))) t.0 ∙ ap (option_map suc) (place_new key pool c rest t.1 has)

abbrev NoneHas : List ℕ → List Const → Type 0
NoneHas key cs = AllByRecursion (λ c. has_key key c ≡ false) cs

none_place : (key : List ℕ) (cs : List Const) → NoneHas key cs → place_of key cs ≡ None
none_place key [] none = refl
none_place key (c ∷ cs) none = ap (λ b. place_by b (place_of key cs)) none.0 ∙ ap (option_map suc) (none_place key cs none.1)

place_stays : (key : List ℕ) (pool more : List Const) → NoneHas key more → place_of key (pool ++ more) ≡ place_of key pool
place_stays key [] more none = none_place key more none
place_stays key (c ∷ pool) more none = ap (λ o. place_by (has_key key c) o) (place_stays key pool more none)

second_has_not : (key : List ℕ) (b : Bool) → 0 < length key → NoneHas key (second_entry b)
second_has_not [] b some = absurd (omega arith)
second_has_not (k ∷ ks) true some = (refl, tt)
second_has_not (k ∷ ks) false some = tt

-- ---- one more constant

module _ (p : Pool) (c : Const) (h : IsPool p) where
  pub mention_found : (index : ℕ) → 0 < length (key_of c) → at_text p.places (key_of c) ≡ Some index → mentioned c p.entries ≡ Some (index, p.entries)
  unfolding mentioned
  mention_found index some e = ap (λ o. mentioned_at o c p.entries) (sym (h.places (key_of c) some) ∙ e)

  pub mention_new : 0 < length (key_of c) → at_text p.places (key_of c) ≡ None → mentioned_at None c p.entries ≡ mentioned c p.entries
  unfolding mentioned
  mention_new some e = ap (λ o. mentioned_at o c p.entries) (sym e ∙ h.places (key_of c) some)

  module _ (new : Pool) (key : List ℕ) (entries_are : new.entries ≡ p.entries ++ slots_of c) (its_key : key ≡ key_of c) (free : at_text p.places key ≡ None)
      (map_is : (text : List ℕ) → at_text new.places text ≡ cond (bytes_eq key text) (Some (length p.entries)) (at_text p.places text)) where
    places_by : (text : List ℕ) → 0 < length text → (b : Bool) → has_key text c ≡ b → at_text new.places text ≡ place_of text new.entries
    places_by text some true has =
        let same : key_of c ≡ text = (bytes_decides (key_of c) text).0 has in
        let here : bytes_eq key text ≡ true = ap (λ (k : List ℕ). bytes_eq k text) its_key ∙ has in
        let none : place_of text p.entries ≡ None = sym (h.places text some) ∙ ap (at_text p.places) (sym (its_key ∙ same)) ∙ free in
        map_is text ∙ ap (λ b. cond b (Some (length p.entries)) (at_text p.places text)) here
        ∙ sym (ap (place_of text) entries_are ∙ place_new text p.entries c (second_entry (is_long c)) none has)
    places_by text some false has =
        let there : bytes_eq key text ≡ false = ap (λ (k : List ℕ). bytes_eq k text) its_key ∙ has in
        map_is text ∙ ap (λ b. cond b (Some (length p.entries)) (at_text p.places text)) there ∙ h.places text some
        ∙ sym (ap (place_of text) entries_are ∙ place_stays text p.entries (slots_of c) (has, second_has_not text (is_long c) some))

    pub pool_more : length p.entries + length (slots_of c) ≤ 65535 → IsPool new
    pool_more low = record {
      places = λ text some. places_by text some (has_key text c) refl;
      small = omega (arith, ap length entries_are, length-append p.entries (slots_of c), low);
    }

-- a constant that the pool has room for
pub mention_fits : (c : Const) (pool : List Const) → length pool + length (slots_of c) ≤ 65535 → mentioned_at None c pool ≡ Some (length pool, pool ++ slots_of c)
mention_fits c pool low =
    let fits : ltb 65535 (length pool + length (slots_of c)) ≡ false = le-ltb _ _ low in
    ap (λ b. cond b None (Some (length pool, pool ++ slots_of c))) fits

abbrev pub some : {A : Type 0} → A → Option A
some x = Some x

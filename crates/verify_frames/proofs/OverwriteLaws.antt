-- Local variables that were overwritten since a frame: what compares a state with it, and what restores it.
use Rattle.std.proofs.Common.{◌≡◌, ℕ, zero, suc, ◌≤◌, Bool, true, false, cond, eqb, ltb, List, [], ◌∷◌, ◌++◌, length, set, refl, ap, sym, subst, ◌∙◌, arith}
use Rattle.std.specs.Prelude.{◌&&◌, ◌||◌}
use Rattle.std.proofs.lemmas.Bool.{eq-eqb, eqb-true, eqb-false, ltb-true, ltb-false}
use Rattle.std.proofs.lemmas.List.{length-set, get_or-set_same, get_or-set_other}
use Rattle.std.proofs.lemmas.List.Folds.{list_any-append}
use Rattle.stack_maps.specs.declared.types.VType.{VType}
use Rattle.stack_maps.specs.declared.types.VType.TheVariants as types
use Rattle.link_model.specs.World.{World}
use Rattle.verify_types.specs.Assignability.{assignable}
use Rattle.verify_types.specs.TypeStates.{TypeState, all_assignable}
use Rattle.verify_frames.specs.declared.overwritten.Overwritten.{Overwritten}
use Rattle.verify_instructions.specs.Unfinished.{AreListed, is_listed, is_unfinished}
use Rattle.verify_frames.specs.Overwrites.{AllWere, AreBut, IsRestored, are_assignable, is_noted, noting, noting_all, type_at}

-- ---- one by one, by their numbers

both : (a b : Bool) → a ≡ true → b ≡ true → (a && b) ≡ true
both true true e f = refl
both true false e f = absurd cc
both false b e f = absurd cc

first_of : (a b : Bool) → (a && b) ≡ true → a ≡ true
first_of true b e = refl
first_of false b e = absurd cc

pub second_of : (a b : Bool) → (a && b) ≡ true → b ≡ true
second_of true b e = e
second_of false b e = absurd cc

pub one_by_one : (w : World) (xs ys : List VType) → all_assignable w xs ys ≡ true → (i : ℕ) → assignable w (type_at xs i) (type_at ys i) ≡ true
one_by_one w [] [] e i = refl
one_by_one w [] (y ∷ ys) e i = absurd cc
one_by_one w (x ∷ xs) [] e i = absurd cc
one_by_one w (x ∷ xs) (y ∷ ys) e zero = first_of (assignable w x y) (all_assignable w xs ys) e
one_by_one w (x ∷ xs) (y ∷ ys) e (suc i) = one_by_one w xs ys (second_of (assignable w x y) (all_assignable w xs ys) e) i

pub all_by_number : (w : World) (xs ys : List VType) → length xs ≡ length ys → ((i : ℕ) → assignable w (type_at xs i) (type_at ys i) ≡ true) → all_assignable w xs ys ≡ true
all_by_number w [] [] e h = refl
all_by_number w [] (y ∷ ys) e h = absurd (omega arith)
all_by_number w (x ∷ xs) [] e h = absurd (omega arith)
all_by_number w (x ∷ xs) (y ∷ ys) e h = both (assignable w x y) (all_assignable w xs ys) (h zero) (all_by_number w xs ys (omega arith) (λ i. h (suc i)))

same_by_number : (xs ys : List VType) → length xs ≡ length ys → ((i : ℕ) → type_at xs i ≡ type_at ys i) → xs ≡ ys
same_by_number [] [] e h = refl
same_by_number [] (y ∷ ys) e h = absurd (omega arith)
same_by_number (x ∷ xs) [] e h = absurd (omega arith)
same_by_number (x ∷ xs) (y ∷ ys) e h = ap (λ z. z ∷ xs) (h zero) ∙ ap (λ zs. y ∷ zs) (same_by_number xs ys (omega arith) (λ i. h (suc i)))

pub type_past : (xs : List VType) (i : ℕ) → length xs ≤ i → type_at xs i ≡ types.Top
type_past [] i high = refl
type_past (x ∷ xs) zero high = absurd (omega arith)
type_past (x ∷ xs) (suc i) high = type_past xs i (omega arith)

same_test : (a b : Bool) → (a ≡ true → b ≡ true) → (b ≡ true → a ≡ true) → a ≡ b
same_test true true f g = refl
same_test true false f g = sym (f refl)
same_test false true f g = g refl
same_test false false f g = refl

-- ---- what overwrote them is compared alone

noted_step : (w : World) (o : Overwritten) (os : List Overwritten) (before locals : List VType) (i : ℕ) (b : Bool) → eqb o.slot i ≡ b → (b || is_noted os i) ≡ true
    → type_at before o.slot ≡ o.was → assignable w (type_at locals o.slot) o.was ≡ true → (is_noted os i ≡ true → assignable w (type_at locals i) (type_at before i) ≡ true)
    → assignable w (type_at locals i) (type_at before i) ≡ true
noted_step w o os before locals i true is e was fits more =
    subst (λ n. assignable w (type_at locals n) (type_at before n) ≡ true) (eqb-true o.slot i is) (ap (λ t. assignable w (type_at locals o.slot) t) was ∙ fits)
noted_step w o os before locals i false is e was fits more = more e

pub at_noted : (w : World) (os : List Overwritten) (before locals : List VType) (i : ℕ) → AllWere before os → is_noted os i ≡ true → are_assignable w os locals ≡ true
    → assignable w (type_at locals i) (type_at before i) ≡ true
at_noted w [] before locals i were e h = absurd cc
at_noted w (o ∷ os) before locals i were e h =
    let here = first_of (assignable w (type_at locals o.slot) o.was) (are_assignable w os locals) h in
    let rest = second_of (assignable w (type_at locals o.slot) o.was) (are_assignable w os locals) h in
    noted_step w o os before locals i (eqb o.slot i) refl e were.0 here (λ f. at_noted w os before locals i were.1 f rest)

at_either : (w : World) (os : List Overwritten) (before locals : List VType) (i : ℕ) (b : Bool) → is_noted os i ≡ b → AreBut os before locals → all_assignable w before before ≡ true → are_assignable w os locals ≡ true
    → assignable w (type_at locals i) (type_at before i) ≡ true
at_either w os before locals i true e h itself fits = at_noted w os before locals i h.were e fits
at_either w os before locals i false e h itself fits = subst (λ t. assignable w t (type_at before i) ≡ true) (h.kept i e) (one_by_one w before before itself i)

noted_fit : (w : World) (os : List Overwritten) (before locals : List VType) → AllWere before os → ((i : ℕ) → assignable w (type_at locals i) (type_at before i) ≡ true) → are_assignable w os locals ≡ true
noted_fit w [] before locals were h = refl
noted_fit w (o ∷ os) before locals were h =
    both (assignable w (type_at locals o.slot) o.was) (are_assignable w os locals) (ap (λ t. assignable w (type_at locals o.slot) t) (sym were.0) ∙ h o.slot) (noted_fit w os before locals were.1 h)

pub fits_but : (w : World) (os : List Overwritten) (before locals : List VType) → AreBut os before locals → all_assignable w before before ≡ true → are_assignable w os locals ≡ all_assignable w locals before
fits_but w os before locals h itself =
    same_test (are_assignable w os locals) (all_assignable w locals before)
    (λ e. all_by_number w locals before (sym h.as_many) (λ i. at_either w os before locals i (is_noted os i) refl h itself e))
    (λ e. noted_fit w os before locals h.were (one_by_one w locals before e))

-- ---- they are restored

neither : (a b : Bool) → a ≡ false → b ≡ false → (a || b) ≡ false
neither true b e f = absurd cc
neither false b e f = f

written : (o : Overwritten) (before locals : List VType) (b : Bool) → ltb o.slot (length locals) ≡ b → length before ≡ length locals → type_at before o.slot ≡ o.was → type_at before o.slot ≡ type_at (set locals o.slot o.was) o.slot
written o before locals true e same was = was ∙ sym (get_or-set_same locals o.slot o.was types.Top (ltb-true o.slot (length locals) e))
written o before locals false e same was =
    let high = ltb-false o.slot (length locals) e in
    type_past before o.slot (omega arith) ∙ sym (type_past (set locals o.slot o.was) o.slot (omega (arith, length-set locals o.slot o.was)))

kept_or_written : (o : Overwritten) (os : List Overwritten) (before locals : List VType) (i : ℕ) (b : Bool) → eqb o.slot i ≡ b → AreBut (o ∷ os) before locals → is_noted os i ≡ false
    → type_at before i ≡ type_at (set locals o.slot o.was) i
kept_or_written o os before locals i true is h e =
    subst (λ n. type_at before n ≡ type_at (set locals o.slot o.was) n) (eqb-true o.slot i is) (written o before locals (ltb o.slot (length locals)) refl h.as_many h.were.0)
kept_or_written o os before locals i false is h e =
    h.kept i (neither (eqb o.slot i) (is_noted os i) is e) ∙ sym (get_or-set_other locals o.slot i o.was types.Top (λ same. eqb-false o.slot i is (sym same)))

pub one_restored : (o : Overwritten) (os : List Overwritten) (before locals : List VType) → AreBut (o ∷ os) before locals → AreBut os before (set locals o.slot o.was)
one_restored o os before locals h = record {
  as_many = h.as_many ∙ sym (length-set locals o.slot o.was);
  kept = λ i e. kept_or_written o os before locals i (eqb o.slot i) refl h e;
  were = h.were.1;
}

pub none_left : (before locals : List VType) → AreBut [] before locals → locals ≡ before
none_left before locals h = sym (same_by_number before locals h.as_many (λ i. h.kept i refl))

no_items : (os : List Overwritten) → length os ≡ 0 → os ≡ []
no_items [] e = refl
no_items (o ∷ os) e = absurd (omega arith)

pub none_in : (b : Bool) (os : List Overwritten) → b ≡ eqb (length os) 0 → b ≡ true → os ≡ []
none_in b os e is = no_items os (eqb-true (length os) 0 (sym e ∙ is))

pub none_noted : (locals : List VType) → AreBut [] locals locals
none_noted locals = record { as_many = refl; kept = λ i e. refl; were = tt }

-- the local variables from before all were overwritten are those from before what is left was
pub record Restoring (os rest : List Overwritten) (s now : TypeState) : Type 0 where
  pub left : (before : List VType) → AreBut os before s.types.locals → AreBut rest before now.types.locals
  pub stack : now.types.stack ≡ s.types.stack
  pub flag : now.this_uninit ≡ s.this_uninit

pub begins : (os : List Overwritten) (s : TypeState) → Restoring os os s s
begins os s = record { left = λ before h. h; stack = refl; flag = refl }

pub goes_on : (os rest behind : List Overwritten) (o : Overwritten) (s now after : TypeState) → Restoring os rest s now → rest ≡ o ∷ behind → after.types.locals ≡ set now.types.locals o.slot o.was → after.types.stack ≡ now.types.stack
    → after.this_uninit ≡ now.this_uninit → Restoring os behind s after
goes_on os rest behind o s now after h e locals stack flag = record {
  left = λ before but.
      subst (λ (ls : List VType). AreBut behind before ls) (sym locals)
      (one_restored o behind before now.types.locals (subst (λ (xs : List Overwritten). AreBut xs before now.types.locals) e (h.left before but)));
  stack = stack ∙ h.stack;
  flag = flag ∙ h.flag;
}

pub all_restored : (os rest : List Overwritten) (s now : TypeState) → Restoring os rest s now → length rest ≡ 0 → IsRestored os s now
all_restored os rest s now h few = let e = no_items rest few in record {
  locals = λ before but. none_left before now.types.locals (subst (λ (xs : List Overwritten). AreBut xs before now.types.locals) e (h.left before but));
  stack = h.stack;
  flag = h.flag;
}

-- ---- one more is noted

were_with : (before : List VType) (os : List Overwritten) (o : Overwritten) → AllWere before os → type_at before o.slot ≡ o.was → AllWere before (os ++ o ∷ [])
were_with before [] o were is = (is, tt)
were_with before (p ∷ os) o were is = (were.0, were_with before os o were.1 is)

left_false : (a b : Bool) → (a || b) ≡ false → a ≡ false
left_false true b e = absurd cc
left_false false b e = refl

noted_more : (ls : List VType) (n : ℕ) (os : List Overwritten) (b : Bool) (i : ℕ) → is_noted (cond b os (os ++ record { slot = n; was = type_at ls n } ∷ [])) i ≡ false → is_noted os i ≡ false
noted_more ls n os true i e = e
noted_more ls n os false i e = left_false (is_noted os i) _ (sym (list_any-append (λ (o : Overwritten). eqb o.slot i) os (record { slot = n; was = type_at ls n } ∷ [])) ∙ e)

pub still_noted : (ls : List VType) (n : ℕ) (os : List Overwritten) (i : ℕ) → is_noted (noting ls n os) i ≡ false → is_noted os i ≡ false
still_noted ls n os i e = noted_more ls n os (is_noted os n) i e

were_more : (ls before : List VType) (n : ℕ) (os : List Overwritten) (b : Bool) → is_noted os n ≡ b → AreBut os before ls → AllWere before (cond b os (os ++ record { slot = n; was = type_at ls n } ∷ []))
were_more ls before n os true e h = h.were
were_more ls before n os false e h = were_with before os (record { slot = n; was = type_at ls n }) h.were (h.kept n e)

pub noting_but : (ls before : List VType) (n : ℕ) (os : List Overwritten) → AreBut os before ls → AreBut (noting ls n os) before ls
noting_but ls before n os h = record {
  as_many = h.as_many;
  kept = λ i e. h.kept i (still_noted ls n os i e);
  were = were_more ls before n os (is_noted os n) refl h;
}

is_now : (ls : List VType) (n : ℕ) (os : List Overwritten) (b : Bool) → is_noted os n ≡ b → is_noted (cond b os (os ++ record { slot = n; was = type_at ls n } ∷ [])) n ≡ true
is_now ls n os true e = e
is_now ls n os false e =
    list_any-append (λ (o : Overwritten). eqb o.slot n) os (record { slot = n; was = type_at ls n } ∷ []) ∙ ap (λ b. is_noted os n || (b || false)) (eq-eqb n n refl) ∙ last (is_noted os n)
  where
    last : (a : Bool) → (a || (true || false)) ≡ true
    last true = refl
    last false = refl

-- so it isn't the number of one that isn't noted
pub not_it : (ls : List VType) (n : ℕ) (os : List Overwritten) (i : ℕ) → is_noted (noting ls n os) i ≡ false → i ≡ n → ⊥
not_it ls n os i e same =
    let it : is_noted (noting ls n os) n ≡ true = is_now ls n os (is_noted os n) refl in
    let other : is_noted (noting ls n os) n ≡ false = subst (λ k. is_noted (noting ls n os) k ≡ false) same e in
    absurd cc

-- ---- those of unfinished objects are noted

noting_all_but : (ls before : List VType) (slots : List ℕ) (os : List Overwritten) → AreBut os before ls → AreBut (noting_all ls slots os) before ls
noting_all_but ls before [] os h = h
noting_all_but ls before (n ∷ slots) os h = noting_all_but ls before slots (noting ls n os) (noting_but ls before n os h)

noted_before : (ls : List VType) (slots : List ℕ) (os : List Overwritten) (i : ℕ) → is_noted (noting_all ls slots os) i ≡ false → is_noted os i ≡ false
noted_before ls [] os i e = e
noted_before ls (n ∷ slots) os i e = still_noted ls n os i (noted_before ls slots (noting ls n os) i e)

not_listed : (ls : List VType) (slots : List ℕ) (os : List Overwritten) (i : ℕ) → is_noted (noting_all ls slots os) i ≡ false → is_listed slots i ≡ false
not_listed ls [] os i e = refl
not_listed ls (n ∷ slots) os i e = neither (eqb n i) (is_listed slots i) (by_test (eqb n i) refl) (not_listed ls slots (noting ls n os) i e)
  where
    by_test : (b : Bool) → eqb n i ≡ b → b ≡ false
    by_test true is = absurd (not_it ls n os i (noted_before ls slots (noting ls n os) i e) (sym (eqb-true n i is)))
    by_test false is = refl

pub is_finished : (slots : List ℕ) (ls : List VType) (k : ℕ) → AreListed slots ls → is_listed slots k ≡ false → is_unfinished (type_at ls k) ≡ false
is_finished slots ls k h e = by_test (is_unfinished (type_at ls k)) refl
  where
    by_test : (b : Bool) → is_unfinished (type_at ls k) ≡ b → b ≡ false
    by_test true is = let listed : is_listed slots k ≡ true = h.all k is in absurd cc
    by_test false is = refl

-- local variables that are others at the slots of unfinished objects alone
pub objects_noted : (ls before after : List VType) (slots : List ℕ) (os : List Overwritten) → AreListed slots ls → AreBut os before ls → length ls ≡ length after
    → ((k : ℕ) → is_unfinished (type_at ls k) ≡ false → type_at ls k ≡ type_at after k) → AreBut (noting_all ls slots os) before after
objects_noted ls before after slots os listed h as_many same =
    let noted = noting_all_but ls before slots os h in
    record {
      as_many = noted.as_many ∙ as_many;
      kept = λ i e. noted.kept i e ∙ same i (is_finished slots ls i listed (not_listed ls slots os i e));
      were = noted.were;
    }

pub all_same : (xs ys : List VType) → length xs ≡ length ys → ((i : ℕ) → type_at xs i ≡ type_at ys i) → xs ≡ ys
all_same xs ys e h = same_by_number xs ys e h

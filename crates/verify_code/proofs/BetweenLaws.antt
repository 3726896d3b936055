-- A state each local variable of which is that of one of two others, and the handlers that both satisfy.
use Rattle.std.proofs.Common.{◌≡◌, ◌⊎◌, inl, inr, ℕ, ◌+◌, ◌-◌, ◌<◌, ◌≤◌, min, Bool, true, false, eqb, List, [], ◌∷◌, ◌++◌, length, Option, Some, None, Result, Ok, Err, refl, ap, sym, subst, ◌∙◌, arith}
use Rattle.std.specs.Prelude.{IfSome, OnOk, not, nat_le, nat_lt, slice_index_or, ◌&&◌, ◌||◌}
use Rattle.std.specs.List.{All, list_all}
use Rattle.std.specs.Option.{option_map_or}
use Rattle.std.proofs.lemmas.List.Elements.{All-push}
use Rattle.std.proofs.lemmas.Bool.{eqb-true, eqb-false, ltb-true, leb-true, le-leb, lt-ltb, and_parts, and_from}
use Rattle.stack_maps.specs.declared.types.VType.{VType}
use Rattle.link_model.specs.World.{World}
use Rattle.verify_types.specs.Assignability.{assignable}
use Rattle.verify_types.specs.Calls.{covers}
use Rattle.verify_types.specs.ClassTypes.{throwable_type}
use Rattle.verify_types.specs.Environment.{Environment, Handler, MapFrame, map_at}
use Rattle.verify_types.specs.Handlers.{are_satisfied, caught, caught_type, fits_frame, is_satisfied}
use Rattle.verify_types.specs.TypeStates.{TypeState, all_assignable, fits, with_stack}
use Rattle.verify_frames.specs.declared.known_state.Judged.{Judged}
use Rattle.verify_frames.specs.declared.known_state.Stored.{Stored}
use Rattle.verify_frames.specs.declared.known_state.Written.{Written}
use Rattle.verify_frames.specs.declared.known_state.Written.TheVariants as writes
use Rattle.verify_frames.specs.declared.watch.Around.{Around}
use Rattle.verify_frames.specs.KnownStates.{IsJudged, IsStored, Spares, holds_at}
use Rattle.verify_frames.specs.Overwrites.{around, type_at}
use Rattle.verify_frames.proofs.OverwriteLaws.{all_by_number, one_by_one, second_of}
use Rattle.verify_code.specs.declared.satisfied.JudgedTwice.{JudgedTwice}
use Rattle.verify_code.specs.declared.satisfied.SatisfiedStore.{SatisfiedStore}
use Rattle.verify_code.specs.declared.satisfied.SatisfiedStores.{SatisfiedStores}
use Rattle.items.specs.declared.no_memory.NoMemory.{NoMemory}
use Rattle.verify_code.specs.Satisfied.{AllTaken, AreJudged, AreTaken, IsJudgedFrom, IsOf, IsTaken}

-- ---- local variables

pub as_long : (w : World) (xs ys : List VType) → all_assignable w xs ys ≡ true → length xs ≡ length ys
as_long w [] [] e = refl
as_long w [] (y ∷ ys) e = absurd cc
as_long w (x ∷ xs) [] e = absurd cc
as_long w (x ∷ xs) (y ∷ ys) e = let rest = as_long w xs ys (second_of (assignable w x y) (all_assignable w xs ys) e) in omega arith

abbrev Either : (xs ys zs : List VType) (i : ℕ) → Type 0
Either xs ys zs i = (type_at xs i ≡ type_at zs i) ⊎ (type_at ys i ≡ type_at zs i)

all_between : (w : World) (xs ys zs f : List VType) → length xs ≡ length zs → ((i : ℕ) → Either xs ys zs i) → all_assignable w xs f ≡ true → all_assignable w ys f ≡ true → all_assignable w zs f ≡ true
all_between w xs ys zs f many each e g = all_by_number w zs f (sym many ∙ as_long w xs f e) (λ i. by_one i (each i))
  where
    by_one : (i : ℕ) → Either xs ys zs i → assignable w (type_at zs i) (type_at f i) ≡ true
    by_one i (inl same) = subst (λ t. assignable w t (type_at f i) ≡ true) same (one_by_one w xs f e i)
    by_one i (inr same) = subst (λ t. assignable w t (type_at f i) ≡ true) same (one_by_one w ys f g i)

at_one : (xs ys zs : List VType) (i m : ℕ) (b : Bool) → eqb i m ≡ b → type_at ys m ≡ type_at zs m → ((i ≡ m → ⊥) → Either xs ys zs i) → Either xs ys zs i
at_one xs ys zs i m true e same other = inr (subst (λ j. type_at ys j ≡ type_at zs j) (sym (eqb-true i m e)) same)
at_one xs ys zs i m false e same other = other (eqb-false i m e)

-- ---- states

pub three : (a b c : Bool) → ((a && b) && c) ≡ true → (a ≡ true) × (b ≡ true) × (c ≡ true)
three true true true e = (refl, refl, refl)
three true true false e = absurd cc
three true false c e = absurd cc
three false b c e = absurd cc

pub all_three : (a b c : Bool) → a ≡ true → b ≡ true → c ≡ true → ((a && b) && c) ≡ true
all_three a b c e f g = and_from (a && b) c (and_from a b e f) g

record IsBetween (t u s : TypeState) : Type 0 where
  each : (i : ℕ) → Either t.types.locals u.types.locals s.types.locals i
  as_many : length t.types.locals ≡ length s.types.locals
  flag : t.this_uninit ≡ s.this_uninit

fits_between : (w : World) (t u s g : TypeState) (stack : List VType) → IsBetween t u s → fits w (with_stack t stack) g ≡ true → fits w (with_stack u stack) g ≡ true → fits w (with_stack s stack) g ≡ true
fits_between w t u s g stack h e f =
    let first = three (all_assignable w t.types.locals g.types.locals) (all_assignable w stack g.types.stack) (not t.this_uninit || g.this_uninit) e in
    let second = three (all_assignable w u.types.locals g.types.locals) (all_assignable w stack g.types.stack) (not u.this_uninit || g.this_uninit) f in
    all_three (all_assignable w s.types.locals g.types.locals) (all_assignable w stack g.types.stack) (not s.this_uninit || g.this_uninit)
    (all_between w t.types.locals u.types.locals s.types.locals g.types.locals h.as_many h.each first.0 second.0)
    first.1
    (ap (λ b. not b || g.this_uninit) (sym h.flag) ∙ first.2)

satisfied_between : (env : Environment) (t u s : TypeState) (h : Handler) → IsBetween t u s → is_satisfied env t h ≡ true → is_satisfied env u h ≡ true → is_satisfied env s h ≡ true
satisfied_between env t u s h between e f =
    let first = and_parts throws (option_map_or (fits_frame env (caught env.world h t)) (map_at env h.row.handler) false) e in
    let second = and_parts throws (option_map_or (fits_frame env (caught env.world h u)) (map_at env h.row.handler) false) f in
    and_from throws (option_map_or (fits_frame env (caught env.world h s)) (map_at env h.row.handler) false) first.0 (at_frame (map_at env h.row.handler) first.1 second.1)
  where
    throws : Bool
    throws = assignable env.world (caught_type env.world h.catch) (throwable_type env.world)

    at_state : (o : Option TypeState) → option_map_or (fits env.world (caught env.world h t)) o true ≡ true → option_map_or (fits env.world (caught env.world h u)) o true ≡ true → option_map_or (fits env.world (caught env.world h s)) o true ≡ true
    at_state None e f = refl
    at_state (Some g) e f = fits_between env.world t u s g (caught_type env.world h.catch ∷ []) between e f

    at_frame : (o : Option MapFrame) → option_map_or (fits_frame env (caught env.world h t)) o false ≡ true → option_map_or (fits_frame env (caught env.world h u)) o false ≡ true → option_map_or (fits_frame env (caught env.world h s)) o false ≡ true
    at_frame None e f = absurd cc
    at_frame (Some m) e f = at_state m.state e f

-- ---- after a store

between_store : (env : Environment) (n : ℕ) (s u : TypeState) (st : Stored) (h : IsStored env s st) → st.written ≡ writes.Store n → around u.types.locals n ≡ around s.types.locals n → IsBetween h.before u s
between_store env n s u st h e same = record {
  each = λ i.
      let xs = h.before.types.locals in
      let ys = u.types.locals in
      let zs = s.types.locals in
      at_one xs ys zs i (n - 1) (eqb i (n - 1)) refl (ap (λ (a : Around). a.before) same) (λ x.
      at_one xs ys zs i n (eqb i n) refl (ap (λ (a : Around). a.at) same) (λ y.
      at_one xs ys zs i (n + 1) (eqb i (n + 1)) refl (ap (λ (a : Around). a.next) same) (λ z.
      inl (subst (λ (x : Written). Spares x i → type_at xs i ≡ type_at zs i) e (h.others i) (x, y, z)))));
  as_many = h.as_many;
  flag = h.flag;
}

-- the state before the store, and one with the types that it left
pub judged_by_store : (env : Environment) (s : TypeState) (o : Option Stored) (st : Stored) (n : ℕ) (types : Around) (r : Option Judged) (j : Judged) → IfSome o (IsStored env s) → o ≡ Some st → st.written ≡ writes.Store n → types ≡ around s.types.locals n
    → IfSome r (AreTaken env n types) → r ≡ Some j → AreJudged env s (record { one = st.judged; other = j })
judged_by_store env s o st n types r j h is wrote now taken found =
    let stored : IsStored env s st = subst (λ (x : Option Stored). IfSome x (IsStored env s)) is h in
    let there : AreTaken env n types j = subst (λ (x : Option Judged). IfSome x (AreTaken env n types)) found taken in
    record {
      first = stored.before;
      second = there.state;
      one = stored.judged;
      other = there.judged;
      both = λ k e f. satisfied_between env stored.before there.state s k (between_store env n s there.state st stored wrote (there.around ∙ now)) e f;
    }

pub judged_itself : (env : Environment) (s : TypeState) (o : Option Judged) (j : Judged) → IfSome o (IsJudged env s) → o ≡ Some j → AreJudged env s (record { one = j; other = j })
judged_itself env s o j h is =
    let known : IsJudged env s j = subst (λ (x : Option Judged). IfSome x (IsJudged env s)) is h in
    record { first = s; second = s; one = known; other = known; both = λ k e f. e }

-- ---- where both states satisfy them

abbrev Asks : Environment → ℕ → TypeState → Handler → Bool
Asks env pc s h = not (covers pc h) || is_satisfied env s h

both_ask : (a b c d : Bool) → (not a || b) ≡ true → (not a || c) ≡ true → (b ≡ true → c ≡ true → d ≡ true) → (not a || d) ≡ true
both_ask true b c d e f both = both e f
both_ask false b c d e f both = refl

all_both : (env : Environment) (pc : ℕ) (t u s : TypeState) (hs : List Handler) → ((h : Handler) → is_satisfied env t h ≡ true → is_satisfied env u h ≡ true → is_satisfied env s h ≡ true)
    → list_all (Asks env pc t) hs ≡ true → list_all (Asks env pc u) hs ≡ true → list_all (Asks env pc s) hs ≡ true
all_both env pc t u s [] both e f = refl
all_both env pc t u s (h ∷ hs) both e f =
    let first = and_parts (Asks env pc t h) (list_all (Asks env pc t) hs) e in
    let second = and_parts (Asks env pc u h) (list_all (Asks env pc u) hs) f in
    and_from (Asks env pc s h) (list_all (Asks env pc s) hs) (both_ask (covers pc h) (is_satisfied env t h) (is_satisfied env u h) (is_satisfied env s h) first.0 second.0 (both h))
    (all_both env pc t u s hs both first.1 second.1)

both_on : (env : Environment) (s : TypeState) (t : JudgedTwice) (pc : ℕ) → AreJudged env s t → t.one.at ≤ pc → pc < t.one.until → t.other.at ≤ pc → pc < t.other.until → are_satisfied env pc s ≡ true
both_on env s t pc h a b c d = all_both env pc h.first h.second s env.handlers h.both (h.one.on pc a b) (h.other.on pc c d)

judged_both : (env : Environment) (s : TypeState) (t : JudgedTwice) (pc until : ℕ) → until ≡ min t.one.until t.other.until → AreJudged env s t → holds_at pc (Some t.one) ≡ true → holds_at pc (Some t.other) ≡ true
    → IsJudgedFrom env s pc (record { at = pc; until = until })
judged_both env s t pc until is h e f =
    let one = and_parts (nat_le t.one.at pc) (nat_lt pc t.one.until) e in
    let other = and_parts (nat_le t.other.at pc) (nat_lt pc t.other.until) f in
    let a = leb-true t.one.at pc one.0 in
    let b = ltb-true pc t.one.until one.1 in
    let c = leb-true t.other.at pc other.0 in
    let d = ltb-true pc t.other.until other.1 in
    record {
      judged = record {
        at = both_on env s t pc h a b c d;
        on = λ p low high. both_on env s t p h (omega arith) (omega arith) (omega arith) (omega arith);
      };
      holds = and_from (nat_le pc pc) (nat_lt pc until) (le-leb pc pc (omega arith)) (lt-ltb pc until (omega arith));
    }

pub judged_of_both : (env : Environment) (s : TypeState) (o : Option JudgedTwice) (t : JudgedTwice) (pc until : ℕ) → o ≡ Some t → until ≡ min t.one.until t.other.until → IfSome o (AreJudged env s) → holds_at pc (Some t.one) ≡ true → holds_at pc (Some t.other) ≡ true
    → IsJudgedFrom env s pc (record { at = pc; until = until })
judged_of_both env s o t pc until found is h e f = judged_both env s t pc until is (subst (λ (x : Option JudgedTwice). IfSome x (AreJudged env s)) found h) e f

-- ---- stores that are kept

pub store_in : (env : Environment) (stores : List SatisfiedStore) (i : ℕ) (x : SatisfiedStore) → i < length stores → ((d : SatisfiedStore) → x ≡ slice_index_or stores i d) → All (IsTaken env) stores → IsTaken env x
store_in env stores i x inside read all = subst (IsTaken env) (sym (read x)) (all i x inside)

pub taken_one : (env : Environment) (o : Option SatisfiedStore) (s : SatisfiedStore) (local : ℕ) (types : Around) → o ≡ Some s → IfSome o (IsTaken env) → IsOf s local types → AreTaken env local types s.judged
taken_one env o s local types is h same =
    let there : IsTaken env s = subst (λ (x : Option SatisfiedStore). IfSome x (IsTaken env)) is h in
    subst (λ (n : ℕ). AreTaken env n types s.judged) same.at (subst (λ (a : Around). AreTaken env s.local a s.judged) same.left there)

pub one_kept : (env : Environment) (old new : SatisfiedStores) (s : SatisfiedStore) → new.stores.items ≡ old.stores.items ++ s ∷ [] → AllTaken env old → IsTaken env s → AllTaken env new
one_kept env old new s is all taken =
    subst (λ (xs : List SatisfiedStore). All (IsTaken env) xs) (sym is) (All-push (IsTaken env) old.stores.items s all taken)

pub kept_store : (A B C : Environment → Type 0) (env : Environment) (r : Result (Unit {0}) NoMemory) → OnOk r ((e : Environment) → A e → B e → C e) → A env → B env → OnOk r (C env)
kept_store A B C env (Ok x) h a b = h env a b
kept_store A B C env (Err e) h a b = tt

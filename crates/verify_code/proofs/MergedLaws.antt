-- Handlers that ask the same, taken together.
use Rattle.std.proofs.Common.{◌≡◌, ℕ, zero, suc, ◌<◌, Bool, true, false, get_or, List, [], ◌∷◌, ◌++◌, length, set, Some, refl, ap, subst, sym, ◌∙◌, arith}
use Rattle.std.specs.Prelude.{◌&&◌, ◌||◌, MatchBool, not, map, nat_le, nat_lt, slice_set}
use Rattle.std.specs.List.{list_all}
use Rattle.std.specs.Option.{option_map_or}
use Rattle.std.proofs.lemmas.List.{append-nil, map-append}
use Rattle.std.proofs.lemmas.List.Folds.{list_all-append}
use Rattle.stack_maps.specs.declared.types.VType.{VType}
use Rattle.link_model.specs.World.{World}
use Rattle.verify_types.specs.Assignability.{assignable}
use Rattle.verify_types.specs.ClassTypes.{throwable_type}
use Rattle.verify_types.specs.Environment.{Environment, Handler, MapFrame, map_at}
use Rattle.verify_types.specs.Handlers.{caught_type, fits_frame}
use Rattle.verify_types.specs.TypeStates.{TypeState, all_assignable, fits, with_stack}
use Rattle.verify_frames.specs.declared.frame.Frame.{Frame}
use Rattle.verify_frames.specs.Frames.{frame_in}
use Rattle.verify_frames.specs.KnownStates.{IsShared}
use Rattle.verify_frames.proofs.StackLaws.{Takes, shared_over}
use Rattle.verify_code.specs.declared.guards.Caught.{Caught}
use Rattle.verify_code.specs.declared.guards.Guard.{Guard}
use Rattle.verify_code.specs.Guards.{AskAlike, guard_in}
use Rattle.verify_code.specs.Handlers.{catches_at, caught_fits}
use Rattle.verify_code.specs.Merged.{AreAlike, AskSame, AsksLocals, IsNamed, is_kept}

pub same_asked : (env : Environment) (hs ks : List Handler) → AskAlike hs ks → AskSame env hs ks
same_asked env hs ks h = record { same = λ pc s. h.same pc (catches_at env s) }

pub same_itself : (env : Environment) (hs : List Handler) → AskSame env hs hs
same_itself env hs = record { same = λ pc s. refl }

-- ---- a handler that asks local variables alone

-- it is satisfied where these fit, and the flag
asks : (env : Environment) (s : TypeState) (c : Caught) (h : AsksLocals env c) → catches_at env s c.handler c.catch ≡ (all_assignable env.world s.types.locals h.state.types.locals && (not s.this_uninit || h.state.this_uninit))
asks env s c h =
    let caught = caught_type env.world c.catch in
    ap (λ b. b && caught_fits env s caught c.handler) h.caught
    ∙ ap (λ o. option_map_or (fits_frame env (with_stack s (caught ∷ []))) o false) h.at
    ∙ ap (λ o. option_map_or (fits env.world (with_stack s (caught ∷ []))) o true) h.is
    ∙ ap (λ b. (all_assignable env.world s.types.locals h.state.types.locals && b) && (not s.this_uninit || h.state.this_uninit)) h.stack
    ∙ ap (λ b. b && (not s.this_uninit || h.state.this_uninit)) (and_true (all_assignable env.world s.types.locals h.state.types.locals))
  where
    and_true : (b : Bool) → (b && true) ≡ b
    and_true true = refl
    and_true false = refl

pub alike_shared : (env : Environment) (fs : List MapFrame) (a b : Caught) (f : Frame) (one other : ℕ) → fs ≡ env.map → one ≡ a.handler → other ≡ b.handler → AsksLocals env a → AsksLocals env b → IsShared fs one other f → AreAlike env a b
alike_shared env fs a b f one other are at there x y shared =
    let same = shared_over env fs one other f x.frame y.frame x.state y.state are shared (ap (λ n. map_at env n) at ∙ x.at) x.is (ap (λ n. map_at env n) there ∙ y.at) y.is in
    record {
      same = λ s.
          asks env s a x
          ∙ ap (λ ls. all_assignable env.world s.types.locals ls && (not s.this_uninit || x.state.this_uninit)) same.locals
          ∙ ap (λ c. all_assignable env.world s.types.locals y.state.types.locals && (not s.this_uninit || c)) same.flag
          ∙ sym (asks env s b y);
    }

-- ---- a frame that takes what is caught

pub takes_caught : (env : Environment) (w : World) (c : Caught) (f : Frame) (caught : VType) (pc : ℕ) → w ≡ env.world → caught ≡ caught_type w c.catch → pc ≡ c.handler → assignable w caught (throwable_type w) ≡ true → map_at env pc ≡ Some (frame_in f)
    → (t : Takes w caught (frame_in f).state) → AsksLocals env c
takes_caught env w c f caught pc of is here thrown at taken = record {
  frame = frame_in f;
  state = taken.state;
  at = ap (λ n. map_at env n) (sym here) ∙ at;
  is = taken.is;
  caught = ap (λ x. assignable x (caught_type x c.catch) (throwable_type x)) (sym of) ∙ ap (λ t. assignable w t (throwable_type w)) (sym is) ∙ thrown;
  stack = ap (λ x. all_assignable x (caught_type x c.catch ∷ []) taken.state.types.stack) (sym of) ∙ ap (λ t. all_assignable w (t ∷ []) taken.state.types.stack) (sym is) ∙ taken.stack;
}

pub if_true : (b : Bool) (P : Type 0) → (b ≡ true → P) → MatchBool b P (Unit {0})
if_true true P h = h refl
if_true false P h = tt

pub of_true : (b : Bool) (P : Type 0) → b ≡ true → MatchBool b P (Unit {0}) → P
of_true true P e h = h
of_true false P e h = absurd cc

-- ---- a row to another handler

abbrev caught_of : Guard → Caught
caught_of g = record { handler = g.row.handler; catch = g.catch }

pub named_same : (env : Environment) (g other now : Guard) (a b : Caught) → a ≡ caught_of other → b ≡ caught_of g → AreAlike env a b → IsNamed g other now → AskSame env (guard_in now ∷ []) (guard_in g ∷ [])
named_same env g other now a b of_other of_g alike named = record {
  same = λ pc s.
      let same : catches_at env s now.row.handler now.catch ≡ catches_at env s g.row.handler g.catch =
      ap (λ n. catches_at env s n now.catch) named.handler ∙ ap (λ o. catches_at env s other.row.handler o) named.catch
      ∙ ap (λ (x : Caught). catches_at env s x.handler x.catch) (sym of_other) ∙ alike.same s ∙ ap (λ (x : Caught). catches_at env s x.handler x.catch) of_g in
      ap (λ n. (not (nat_le n pc && nat_lt pc now.row.end) || catches_at env s now.row.handler now.catch) && true) named.start
      ∙ ap (λ n. (not (nat_le g.row.start pc && nat_lt pc n) || catches_at env s now.row.handler now.catch) && true) named.end
      ∙ ap (λ b. (not (nat_le g.row.start pc && nat_lt pc g.row.end) || b) && true) same;
}

-- ---- rows one after the other

grouped : (a b c : Bool) → (a && (b && c)) ≡ ((a && b) && c)
grouped true b c = refl
grouped false b c = refl

pub put_same : (env : Environment) (old now : List Handler) (r g : Handler) → AskAlike now (old ++ r ∷ []) → AskSame env (r ∷ []) (g ∷ []) → AskSame env now (old ++ g ∷ [])
put_same env old now r g alike h = record {
  same = λ pc s.
      let f = is_kept env pc s in
      alike.same pc (catches_at env s) ∙ list_all-append f old (r ∷ []) ∙ ap (λ x. list_all f old && x) (h.same pc s) ∙ sym (list_all-append f old (g ∷ []));
}

-- these and what is left ask what all do
pub merge_one : (env : Environment) (done now left : List Handler) (g : Handler) (behind all : List Handler) → left ≡ g ∷ behind → AskSame env (done ++ left) all → AskSame env now (done ++ g ∷ []) → AskSame env (now ++ behind) all
merge_one env done now left g behind all is h one = record {
  same = λ pc s.
      let f = is_kept env pc s in
      list_all-append f now behind
      ∙ ap (λ x. x && list_all f behind) (one.same pc s ∙ list_all-append f done (g ∷ []))
      ∙ sym (grouped (list_all f done) (list_all f (g ∷ [])) (list_all f behind))
      ∙ ap (λ x. list_all f done && x) (sym (list_all-append f (g ∷ []) behind) ∙ ap (λ hs. list_all f hs) (sym is))
      ∙ sym (list_all-append f done left)
      ∙ h.same pc s;
}

pub merge_all : (env : Environment) (done left all : List Handler) → left ≡ [] → AskSame env (done ++ left) all → AskSame env done all
merge_all env done left all none h = subst (λ (hs : List Handler). AskSame env hs all) (ap (λ hs. done ++ hs) none ∙ append-nil done) h

-- ---- a row that is made one with another

three : (a b c : Bool) → ((a && b) && c) ≡ ((a && c) && b)
three true true true = refl
three true true false = refl
three true false true = refl
three true false false = refl
three false b c = refl

with_both : (f : Handler → Bool) (gs : List Guard) (i : ℕ) (both g d : Guard) → i < length gs → f (guard_in both) ≡ (f (guard_in (get_or gs i d)) && f (guard_in g)) → list_all f (map guard_in (set gs i both)) ≡ (list_all f (map guard_in gs) && f (guard_in g))
with_both f [] i both g d low e = absurd (omega arith)
with_both f (x ∷ gs) zero both g d low e = ap (λ b. b && list_all f (map guard_in gs)) e ∙ three (f (guard_in x)) (f (guard_in g)) (list_all f (map guard_in gs))
with_both f (x ∷ gs) (suc i) both g d low e = ap (λ b. f (guard_in x) && b) (with_both f gs i both g d (omega arith) e) ∙ grouped (f (guard_in x)) (list_all f (map guard_in gs)) (f (guard_in g))

and_one : (b : Bool) → (b && true) ≡ b
and_one true = refl
and_one false = refl

pub put_both : (gs now : List Guard) (i : ℕ) (a both g : Guard) → i < length gs → a ≡ get_or gs i a → now ≡ slice_set gs i both → AskAlike (guard_in both ∷ []) (guard_in a ∷ guard_in g ∷ []) → AskAlike (map guard_in now) (map guard_in gs ++ guard_in g ∷ [])
put_both gs now i a both g low at is h = record {
  same = λ pc test.
      let f : Handler → Bool = λ x. not (nat_le x.row.start pc && nat_lt pc x.row.end) || test x.row.handler x.catch in
      let one : f (guard_in both) ≡ (f (guard_in (get_or gs i a)) && f (guard_in g)) =
      sym (and_one (f (guard_in both))) ∙ h.same pc test ∙ ap (λ x. f (guard_in a) && x) (and_one (f (guard_in g))) ∙ ap (λ (x : Guard). f (guard_in x) && f (guard_in g)) at in
      ap (λ xs. list_all f (map guard_in xs)) is
      ∙ with_both f gs i both g a low one
      ∙ ap (λ x. list_all f (map guard_in gs) && x) (sym (and_one (f (guard_in g))))
      ∙ sym (list_all-append f (map guard_in gs) (guard_in g ∷ []));
}

pub put_last : (gs now : List Guard) (g : Guard) → map guard_in now ≡ map guard_in gs ++ guard_in g ∷ [] → AskAlike (map guard_in now) (map guard_in gs ++ guard_in g ∷ [])
put_last gs now g e = record { same = λ pc test. ap (λ hs. list_all (λ (x : Handler). not (nat_le x.row.start pc && nat_lt pc x.row.end) || test x.row.handler x.catch) hs) e }

pub pushed : (gs now : List Guard) (g : Guard) → now ≡ gs ++ g ∷ [] → map guard_in now ≡ map guard_in gs ++ guard_in g ∷ []
pushed gs now g e = ap (λ xs. map guard_in xs) e ∙ map-append guard_in gs (g ∷ [])

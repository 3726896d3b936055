-- Handlers that are satisfied after a store whose type they accept.
use Rattle.std.proofs.Common.{◌≡◌, ◌⊎◌, inl, inr, ℕ, suc, ◌+◌, ◌-◌, ◌<◌, ◌≤◌, Bool, true, false, eqb, List, [], ◌∷◌, length, Option, Some, None, refl, ap, sym, subst, ◌∙◌, arith}
use Rattle.std.specs.Prelude.{IfSome, map, not, nat_le, nat_lt, slice_index_or, ◌&&◌, ◌||◌}
use Rattle.std.specs.List.{All, list_all}
use Rattle.std.specs.Option.{option_map_or}
use Rattle.std.proofs.lemmas.Bool.{eqb-true, eqb-false, ltb-true, leb-true, le-leb, lt-ltb, and_parts, and_from}
use Rattle.class_model.specs.declared.attribute.Row.{Row}
use Rattle.stack_maps.specs.declared.types.VType.{VType}
use Rattle.link_model.specs.World.{World}
use Rattle.verify_types.specs.Assignability.{assignable}
use Rattle.verify_types.specs.Calls.{covers}
use Rattle.verify_types.specs.ClassTypes.{throwable_type}
use Rattle.verify_types.specs.Environment.{Environment, Handler, MapFrame, map_at}
use Rattle.verify_types.specs.Handlers.{are_satisfied, caught, caught_type, fits_frame, is_satisfied}
use Rattle.verify_types.specs.TypeStates.{TypeState, all_assignable, fits, with_stack}
use Rattle.verify_frames.specs.declared.known_state.Stored.{Stored}
use Rattle.verify_frames.specs.declared.known_state.Written.{Written}
use Rattle.verify_frames.specs.declared.known_state.Written.TheVariants as writes
use Rattle.verify_frames.specs.declared.overwritten.Overwritten.{Overwritten}
use Rattle.verify_frames.specs.declared.wanted.Wanted.{Wanted}
use Rattle.verify_frames.specs.KnownStates.{Spares, IsStored, holds_at}
use Rattle.verify_frames.specs.Overwrites.{around, is_noted, type_at}
use Rattle.verify_frames.specs.PcSets.{meets, row_span}
use Rattle.verify_frames.specs.Wanted.{IsAsked, accepts}
use Rattle.verify_frames.proofs.OverwriteLaws.{all_by_number, one_by_one}
use Rattle.verify_code.specs.declared.guards.Guard.{Guard}
use Rattle.verify_code.specs.Accepted.{IsAccepted, accepts_around, accepts_written, row_in}
use Rattle.verify_code.specs.Guards.{guard_in}
use Rattle.verify_code.specs.Merged.{AskSame, is_kept}
use Rattle.verify_code.specs.Satisfied.{IsJudgedFrom}
use Rattle.verify_code.proofs.BetweenLaws.{all_three, as_long, three}

-- ---- one handler

fits_accepted : (env : Environment) (wanted : Wanted) (from until : ℕ) (t s : TypeState) (r : Row) (f : MapFrame) (g : TypeState) (stack : List VType) → IsAccepted env.world wanted from until t s → IsAsked env.map wanted r → map_at env r.handler ≡ Some f
    → f.state ≡ Some g → meets (row_span r) from until ≡ true → fits env.world (with_stack t stack) g ≡ true → fits env.world (with_stack s stack) g ≡ true
fits_accepted env wanted from until t s r f g stack h asks at is met e =
    let w = env.world in
    let parts = three (all_assignable w t.types.locals g.types.locals) (all_assignable w stack g.types.stack) (not t.this_uninit || g.this_uninit) e in
    all_three (all_assignable w s.types.locals g.types.locals) (all_assignable w stack g.types.stack) (not s.this_uninit || g.this_uninit)
    (all_by_number w s.types.locals g.types.locals (sym h.as_many ∙ as_long w t.types.locals g.types.locals parts.0) (λ i. by_one i parts.0 (h.each i)))
    parts.1
    (ap (λ b. not b || g.this_uninit) (sym h.flag) ∙ parts.2)
  where
    by_one : (i : ℕ) → all_assignable env.world t.types.locals g.types.locals ≡ true → (type_at t.types.locals i ≡ type_at s.types.locals i) ⊎ (accepts env.world wanted from until i (type_at s.types.locals i) ≡ true)
        → assignable env.world (type_at s.types.locals i) (type_at g.types.locals i) ≡ true
    by_one i all (inl same) = subst (λ x. assignable env.world x (type_at g.types.locals i) ≡ true) same (one_by_one env.world t.types.locals g.types.locals all i)
    by_one i all (inr taken) = asks.fits f g at is env.world from until i (type_at s.types.locals i) met taken

satisfied_accepted : (env : Environment) (wanted : Wanted) (from until : ℕ) (t s : TypeState) (h : Handler) → IsAccepted env.world wanted from until t s → IsAsked env.map wanted h.row → meets (row_span h.row) from until ≡ true → is_satisfied env t h ≡ true
    → is_satisfied env s h ≡ true
satisfied_accepted env wanted from until t s h change asks met e =
    let parts = and_parts throws (option_map_or (fits_frame env (caught env.world h t)) (map_at env h.row.handler) false) e in
    and_from throws (option_map_or (fits_frame env (caught env.world h s)) (map_at env h.row.handler) false) parts.0 (at_frame (map_at env h.row.handler) refl parts.1)
  where
    throws : Bool
    throws = assignable env.world (caught_type env.world h.catch) (throwable_type env.world)

    at_state : (f : MapFrame) (o : Option TypeState) → map_at env h.row.handler ≡ Some f → f.state ≡ o → option_map_or (fits env.world (caught env.world h t)) o true ≡ true → option_map_or (fits env.world (caught env.world h s)) o true ≡ true
    at_state f None at is e = refl
    at_state f (Some g) at is e = fits_accepted env wanted from until t s h.row f g (caught_type env.world h.catch ∷ []) change asks at is met e

    at_frame : (o : Option MapFrame) → map_at env h.row.handler ≡ o → option_map_or (fits_frame env (caught env.world h t)) o false ≡ true → option_map_or (fits_frame env (caught env.world h s)) o false ≡ true
    at_frame None at e = absurd cc
    at_frame (Some m) at e = at_state m m.state at refl e

-- ---- all of them

met_by : (h : Handler) (pc from until : ℕ) → from ≤ pc → pc < until → covers pc h ≡ true → meets (row_span h.row) from until ≡ true
met_by h pc from until low high e =
    let parts = and_parts (nat_le h.row.start pc) (nat_lt pc h.row.end) e in
    and_from (nat_lt h.row.start until) (nat_lt from h.row.end)
    (lt-ltb h.row.start until (omega (arith, leb-true h.row.start pc parts.0)))
    (lt-ltb from h.row.end (omega (arith, ltb-true pc h.row.end parts.1)))

kept_where : (a b c : Bool) → (a ≡ true → b ≡ true → c ≡ true) → (not a || b) ≡ true → (not a || c) ≡ true
kept_where false b c f e = refl
kept_where true b c f e = f refl e

all_accepted : (env : Environment) (wanted : Wanted) (pc from until : ℕ) (t s : TypeState) (gs : List Guard) → IsAccepted env.world wanted from until t s → from ≤ pc → pc < until → ((k : ℕ) (d : Row) → k < length (map row_in gs) → IsAsked env.map wanted (slice_index_or (map row_in gs) k d))
    → list_all (is_kept env pc t) (map guard_in gs) ≡ true → list_all (is_kept env pc s) (map guard_in gs) ≡ true
all_accepted env wanted pc from until t s [] change low high asks e = refl
all_accepted env wanted pc from until t s (g ∷ gs) change low high asks e =
    let h = guard_in g in
    let parts = and_parts (is_kept env pc t h) (list_all (is_kept env pc t) (map guard_in gs)) e in
    and_from (is_kept env pc s h) (list_all (is_kept env pc s) (map guard_in gs))
    (kept_where (covers pc h) (is_satisfied env t h) (is_satisfied env s h)
    (λ at is. satisfied_accepted env wanted from until t s h change (asks 0 g.row (omega arith)) (met_by h pc from until low high at) is) parts.0)
    (all_accepted env wanted pc from until t s gs change low high (λ k d inside. asks (suc k) d (omega arith)) parts.1)

-- ---- after a store

at_one : (w : World) (wanted : Wanted) (from until : ℕ) (xs zs : List VType) (i m : ℕ) (b : Bool) → eqb i m ≡ b → accepts w wanted from until m (type_at zs m) ≡ true
    → ((i ≡ m → ⊥) → (type_at xs i ≡ type_at zs i) ⊎ (accepts w wanted from until i (type_at zs i) ≡ true)) → (type_at xs i ≡ type_at zs i) ⊎ (accepts w wanted from until i (type_at zs i) ≡ true)
at_one w wanted from until xs zs i m true e taken other = inr (subst (λ j. accepts w wanted from until j (type_at zs j) ≡ true) (sym (eqb-true i m e)) taken)
at_one w wanted from until xs zs i m false e taken other = other (eqb-false i m e)

noted_accepted : (w : World) (wanted : Wanted) (from until : ℕ) (ls : List VType) (os : List Overwritten) (i : ℕ) → list_all (λ (o : Overwritten). accepts w wanted from until o.slot (type_at ls o.slot)) os ≡ true → is_noted os i ≡ true
    → accepts w wanted from until i (type_at ls i) ≡ true
noted_accepted w wanted from until ls [] i e noted = absurd cc
noted_accepted w wanted from until ls (o ∷ os) i e noted =
    let parts = and_parts (accepts w wanted from until o.slot (type_at ls o.slot)) (list_all (λ (x : Overwritten). accepts w wanted from until x.slot (type_at ls x.slot)) os) e in
    by_test (eqb o.slot i) refl noted parts.0 (noted_accepted w wanted from until ls os i parts.1)
  where
    by_test : (b : Bool) → eqb o.slot i ≡ b → (b || is_noted os i) ≡ true → accepts w wanted from until o.slot (type_at ls o.slot) ≡ true → (is_noted os i ≡ true → accepts w wanted from until i (type_at ls i) ≡ true)
        → accepts w wanted from until i (type_at ls i) ≡ true
    by_test true is noted here rest = subst (λ k. accepts w wanted from until k (type_at ls k) ≡ true) (eqb-true o.slot i is) here
    by_test false is noted here rest = rest noted

accepted_objects : (env : Environment) (wanted : Wanted) (from until : ℕ) (s before : TypeState) (os : List Overwritten) → length before.types.locals ≡ length s.types.locals → before.this_uninit ≡ s.this_uninit
    → ((i : ℕ) → is_noted os i ≡ false → type_at before.types.locals i ≡ type_at s.types.locals i) → list_all (λ (o : Overwritten). accepts env.world wanted from until o.slot (type_at s.types.locals o.slot)) os ≡ true
    → IsAccepted env.world wanted from until before s
accepted_objects env wanted from until s before os as_many flag others e = record { as_many = as_many; flag = flag; each = λ i. by_test i (is_noted os i) refl }
  where
    by_test : (i : ℕ) (b : Bool) → is_noted os i ≡ b → (type_at before.types.locals i ≡ type_at s.types.locals i) ⊎ (accepts env.world wanted from until i (type_at s.types.locals i) ≡ true)
    by_test i true noted = inr (noted_accepted env.world wanted from until s.types.locals os i e noted)
    by_test i false noted = inl (others i noted)

accepted_store : (env : Environment) (wanted : Wanted) (from until n : ℕ) (s before : TypeState) → length before.types.locals ≡ length s.types.locals → before.this_uninit ≡ s.this_uninit
    → ((i : ℕ) → (i ≡ n - 1 → ⊥) → (i ≡ n → ⊥) → (i ≡ n + 1 → ⊥) → type_at before.types.locals i ≡ type_at s.types.locals i) → accepts_around env.world wanted from until n (around s.types.locals n) ≡ true
    → IsAccepted env.world wanted from until before s
accepted_store env wanted from until n s before as_many flag kept e =
    let w = env.world in
    let zs = s.types.locals in
    let first = and_parts (accepts w wanted from until (n - 1) (type_at zs (n - 1))) (accepts w wanted from until n (type_at zs n) && accepts w wanted from until (n + 1) (type_at zs (n + 1))) e in
    let others = and_parts (accepts w wanted from until n (type_at zs n)) (accepts w wanted from until (n + 1) (type_at zs (n + 1))) first.1 in
    record {
      as_many = as_many;
      flag = flag;
      each = λ i.
          at_one w wanted from until before.types.locals zs i (n - 1) (eqb i (n - 1)) refl first.0 (λ x.
          at_one w wanted from until before.types.locals zs i n (eqb i n) refl others.0 (λ y.
          at_one w wanted from until before.types.locals zs i (n + 1) (eqb i (n + 1)) refl others.1 (λ z.
          inl (kept i x y z))));
    }

accepted_written : (env : Environment) (wanted : Wanted) (from until : ℕ) (s before : TypeState) (x : Written) → length before.types.locals ≡ length s.types.locals → before.this_uninit ≡ s.this_uninit
    → ((i : ℕ) → Spares x i → type_at before.types.locals i ≡ type_at s.types.locals i) → accepts_written env.world wanted from until x s.types.locals ≡ true → IsAccepted env.world wanted from until before s
accepted_written env wanted from until s before (writes.Store n) as_many flag others e = accepted_store env wanted from until n s before as_many flag (λ i x y z. others i (x, y, z)) e
accepted_written env wanted from until s before (writes.Objects os) as_many flag others e = accepted_objects env wanted from until s before os.items as_many flag others e

accepted_on : (env : Environment) (guards : List Guard) (wanted : Wanted) (from until pc : ℕ) (t s : TypeState) → IsAccepted env.world wanted from until t s → All (IsAsked env.map wanted) (map row_in guards) → AskSame env (map guard_in guards) env.handlers
    → from ≤ pc → pc < until → are_satisfied env pc t ≡ true → are_satisfied env pc s ≡ true
accepted_on env guards wanted from until pc t s change asks alike low high e = sym (alike.same pc s) ∙ all_accepted env wanted pc from until t s guards change low high asks (alike.same pc t ∙ e)

pub judged_accepted : (env : Environment) (w : World) (guards : List Guard) (wants : Option Wanted) (wanted : Wanted) (s : TypeState) (o : Option Stored) (st : Stored) (pc : ℕ) (locals : List VType) → w ≡ env.world → AskSame env (map guard_in guards) env.handlers
    → IfSome wants (λ (x : Wanted). All (IsAsked env.map x) (map row_in guards)) → wants ≡ Some wanted → IfSome o (IsStored env s) → o ≡ Some st → holds_at pc (Some st.judged) ≡ true → locals ≡ s.types.locals
    → accepts_written w wanted pc st.judged.until st.written locals ≡ true → IsJudgedFrom env s pc (record { at = pc; until = st.judged.until })
judged_accepted env w guards wants wanted s o st pc locals of alike asks are h is held left taken =
    let stored : IsStored env s st = subst (λ (x : Option Stored). IfSome x (IsStored env s)) is h in
    let all : All (IsAsked env.map wanted) (map row_in guards) = subst (λ (x : Option Wanted). IfSome x (λ (y : Wanted). All (IsAsked env.map y) (map row_in guards))) are asks in
    let until = st.judged.until in
    let parts = and_parts (nat_le st.judged.at pc) (nat_lt pc until) held in
    let low = leb-true st.judged.at pc parts.0 in
    let high = ltb-true pc until parts.1 in
    let change = accepted_written env wanted pc until s stored.before st.written stored.as_many stored.flag stored.others
    (ap (λ x. accepts_written x wanted pc until st.written s.types.locals) (sym of) ∙ ap (λ (ls : List VType). accepts_written w wanted pc until st.written ls) (sym left) ∙ taken) in
    record {
      judged = record {
        at = accepted_on env guards wanted pc until pc stored.before s change all alike (omega arith) high (stored.judged.on pc low high);
        on = λ p least most. accepted_on env guards wanted pc until p stored.before s change all alike least most (stored.judged.on p (omega arith) most);
      };
      holds = and_from (nat_le pc pc) (nat_lt pc until) (le-leb pc pc (omega arith)) (lt-ltb pc until high);
    }

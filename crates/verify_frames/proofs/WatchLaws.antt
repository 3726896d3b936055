-- What shows that an instruction leaves the local variables as they are.
use Rattle.std.proofs.Common.{◌≡◌, ℕ, ◌+◌, ◌-◌, Bool, true, false, eqb, List, [], ◌∷◌, Ok, refl, ap, sym, subst, ◌∙◌}
use Rattle.std.specs.Prelude.{◌||◌}
use Rattle.std.proofs.lemmas.Bool.{eqb-true, eqb-false}
use Rattle.stack_maps.specs.declared.types.VType.{VType}
use Rattle.verify_types.specs.TypeStates.{TypeState}
use Rattle.verify_types.specs.Environment.{Environment, Instruction}
use Rattle.verify_types.specs.Effects.{state_after}
use Rattle.verify_frames.specs.declared.watch.Around.{Around}
use Rattle.verify_frames.specs.declared.watch.Watch.{Watch}
use Rattle.verify_frames.specs.declared.watch.Watch.TheVariants as watches
use Rattle.verify_frames.specs.Overwrites.{AllWere, AreBut, around, finishes, is_noted, type_at}
use Rattle.verify_frames.specs.Watches.{AreObjects, Keeps, ShowsKept, Watches}
use Rattle.verify_frames.specs.declared.overwritten.Overwritten.{Overwritten}
use Rattle.verify_frames.specs.Watches.Keeps.{stack_alone, no_object}
use Rattle.verify_frames.proofs.KeepLaws.{after_kept}
use Rattle.verify_frames.proofs.FinishLaws.{after_finished}
use Rattle.verify_frames.proofs.OverwriteLaws.{all_same, is_finished, none_noted, objects_noted}
use Rattle.verify_frames.proofs.StoreLaws.{StoredAt, after_stored}

pub around_same : (a b : Around) → a.before ≡ b.before → a.at ≡ b.at → a.next ≡ b.next → a ≡ b
around_same a b before at next =
    ap (λ (x : VType). record { before = x; at = a.at; next = a.next }) before
    ∙ ap (λ (x : VType). record { before = b.before; at = x; next = a.next }) at
    ∙ ap (λ (x : VType). record { before = b.before; at = b.at; next = x }) next

keeps_all : (env : Environment) (i : Instruction) (s after : TypeState) → Keeps i.instr.op s.types.locals → state_after env i s ≡ Ok after → s.types.locals ≡ after.types.locals
keeps_all env i s after (stack_alone h) e = (after_kept env i s after h e).locals
keeps_all env i s after (no_object h none) e =
    let done = after_finished env i s after h e in
    all_same s.types.locals after.types.locals done.as_many (λ k. done.same k (is_finished [] s.types.locals k none refl))

at_one : (xs ys : List VType) (k m : ℕ) (b : Bool) → eqb k m ≡ b → type_at xs m ≡ type_at ys m → ((k ≡ m → ⊥) → type_at xs k ≡ type_at ys k) → type_at xs k ≡ type_at ys k
at_one xs ys k m true e same other = subst (λ j. type_at xs j ≡ type_at ys j) (sym (eqb-true k m e)) same
at_one xs ys k m false e same other = other (eqb-false k m e)

stored_same : (s after : TypeState) (n : ℕ) → StoredAt n s after → around s.types.locals n ≡ around after.types.locals n → s.types.locals ≡ after.types.locals
stored_same s after n h e =
    let xs = s.types.locals in
    let ys = after.types.locals in
    all_same xs ys h.as_many (λ k.
    at_one xs ys k (n - 1) (eqb k (n - 1)) refl (ap (λ (a : Around). a.before) e) (λ x.
    at_one xs ys k n (eqb k n) refl (ap (λ (a : Around). a.at) e) (λ y.
    at_one xs ys k (n + 1) (eqb k (n + 1)) refl (ap (λ (a : Around). a.next) e) (λ z. h.others k x y z))))

-- local variables that are others at the slots of unfinished objects alone
pub but_objects : (env : Environment) (i : Instruction) (s after : TypeState) (os : List Overwritten) → finishes i.instr.op ≡ true → AreObjects s.types.locals os → state_after env i s ≡ Ok after → AreBut os s.types.locals after.types.locals
but_objects env i s after os finish h e =
    let done = after_finished env i s after finish e in
    subst (λ (xs : List Overwritten). AreBut xs s.types.locals after.types.locals) (sym h.noted)
    (objects_noted s.types.locals s.types.locals after.types.locals h.slots [] h.listed (none_noted s.types.locals) done.as_many done.same)

both_were : (xs ys : List VType) (os : List Overwritten) (k : ℕ) → AllWere xs os → AllWere ys os → is_noted os k ≡ true → type_at xs k ≡ type_at ys k
both_were xs ys [] k h g e = absurd cc
both_were xs ys (o ∷ os) k h g e = by_test (eqb o.slot k) refl e (both_were xs ys os k h.1 g.1)
  where
    by_test : (b : Bool) → eqb o.slot k ≡ b → (b || is_noted os k) ≡ true → (is_noted os k ≡ true → type_at xs k ≡ type_at ys k) → type_at xs k ≡ type_at ys k
    by_test true is e rest = subst (λ n. type_at xs n ≡ type_at ys n) (eqb-true o.slot k is) (h.0 ∙ sym g.0)
    by_test false is e rest = rest e

objects_same : (xs ys : List VType) (os : List Overwritten) → AreBut os xs ys → AllWere ys os → xs ≡ ys
objects_same xs ys os h shows = all_same xs ys h.as_many (λ k. by_test k (is_noted os k) refl)
  where
    by_test : (k : ℕ) (b : Bool) → is_noted os k ≡ b → type_at xs k ≡ type_at ys k
    by_test k true e = both_were xs ys os k h.were shows e
    by_test k false e = h.kept k e

pub same_locals : (env : Environment) (i : Instruction) (s after : TypeState) (w : Watch) → Watches i.instr.op s.types.locals w → ShowsKept w after.types.locals → state_after env i s ≡ Ok after
    → s.types.locals ≡ after.types.locals
same_locals env i s after watches.Kept h shows e = keeps_all env i s after h e
same_locals env i s after (watches.Store n was) h shows e = stored_same s after n (after_stored env i h.0.kind n s after h.0.is e) (sym h.1 ∙ sym shows)
same_locals env i s after (watches.Objects os) h shows e =
    objects_same s.types.locals after.types.locals os.items (but_objects env i s after os.items h.0 h.1 e) shows
same_locals env i s after watches.Changed h shows e = absurd shows

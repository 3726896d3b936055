-- A value of a type that is assignable to another has the kind of the other.
use Rattle.std.proofs.Common.{◌≡◌, true, List, [], ◌∷◌, refl, inl, inr}
use Rattle.std.specs.Prelude.{◌&&◌, ◌||◌, not}
use Rattle.std.specs.List.{AllZip}
use Rattle.stack_maps.specs.declared.types.VType.{VType}
use Rattle.stack_maps.specs.declared.types.VType.TheVariants as types
use Rattle.instruction_rows.specs.declared.value.Slot.{Slot}
use Rattle.instruction_rows.specs.Contents.{Contents}
use Rattle.instruction_rows.specs.Soundness.{KeepsKind, HasKinds}
use Rattle.instruction_rows.proofs.KindLaws.{are_of_kept}
use Rattle.link_model.specs.World.{World}
use Rattle.verify_types.specs.Assignability.{assignable}
use Rattle.verify_types.specs.TypeStates.{TypeState, all_assignable, fits}
use Rattle.verify_types.proofs.ListLaws.{and_true}

pub kept : (w : World) (a b : VType) → assignable w a b ≡ true → KeepsKind a b
kept w a types.Top e = inl refl
kept w types.Int types.Int e = inr refl
kept w types.Float types.Float e = inr refl
kept w types.Double types.Double e = inr refl
kept w types.Long types.Long e = inr refl
kept w types.Null types.Null e = inr refl
kept w types.UninitThis types.UninitThis e = inr refl
kept w (types.Uninit a) (types.Uninit b) e = inr refl
kept w types.Null (types.Named n base) e = inr refl
kept w (types.Named m a) (types.Named n b) e = inr refl
kept w a b e = absurd cc

pub all_kept : (w : World) (ts us : List VType) → all_assignable w ts us ≡ true → AllZip KeepsKind ts us
all_kept w [] [] e = tt
all_kept w [] (u ∷ us) e = absurd cc
all_kept w (t ∷ ts) [] e = absurd cc
all_kept w (t ∷ ts) (u ∷ us) e =
    let both = and_true (assignable w t u) (all_assignable w ts us) e in (kept w t u both.0, all_kept w ts us both.1)

pub fits_kept : (w : World) (a b : TypeState) → fits w a b ≡ true → (c : Contents Slot) → HasKinds a.types c → HasKinds b.types c
fits_kept w a b e c h =
    let lists = and_true (all_assignable w a.types.locals b.types.locals && all_assignable w a.types.stack b.types.stack) (not a.this_uninit || b.this_uninit) e in
    let both = and_true (all_assignable w a.types.locals b.types.locals) (all_assignable w a.types.stack b.types.stack) lists.0 in
    record {
      locals = are_of_kept a.types.locals b.types.locals c.locals (all_kept w a.types.locals b.types.locals both.0) h.locals;
      stack = are_of_kept a.types.stack b.types.stack c.stack (all_kept w a.types.stack b.types.stack both.1) h.stack;
    }

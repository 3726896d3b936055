use Rattle.std.proofs.Common.{◌≡◌, arith, refl, subst}
use Rattle.std.specs.Prelude.{Option, IfSome}
use Rattle.turn_lock.specs.Views.{number_of}
use Rattle.turn_lock.proofs.PlaceLaws.{filled_view, same_table}
use Rattle.turn_lock.proofs.TurnLaws.{gives_turn}
use Rattle.turn_lock.proofs.taking.end_turn.Goals as goal

pub store-requires : goal.store-requires
store-requires g c =
    let t = c.args.table.now in
    let place = c.args.place.now in
    let next = c.exchange-empty.new.seat in
    let counted = c.requires.counted in
    let setting = g.V.Kept.setting in (
      same_table _ _ _ _ c.exchange-empty.ensures.0 c.requires.lock refl,
      (let words = c.requires.table.words in omega arith),
      gives_turn g.V.Kept.history setting t.key.initial.value t.key.seats t.table_id.slots next.id (number_of place.me.0) (g.V.Kept.history counted.value) next.me counted.value c.requires.table.slots
          (filled_view g.V.Kept.history place.me next.me c.args.value counted c.exchange-empty.ensures.3) refl
          (subst (λ (o : Option g.row.V.Denot). IfSome o (λ v. setting v ≡ setting t.key.initial.value)) counted.is c.requires.setting),
    )

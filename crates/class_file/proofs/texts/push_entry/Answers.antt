use Rattle.std.proofs.Common.{◌≡◌, ◌-◌, [], ◌∷◌, length, take, drop, arith}
use Rattle.std.proofs.lemmas.List.{length-append, length-drop, length-take-le, take-append-drop}
use Rattle.class_model.specs.declared.constant.Const.TheVariants.{Unused}
use Rattle.class_file.specs.Texts.{Divides}
use Rattle.class_file.proofs.TextPlaces.{text_pushed, other_pushed, divides_text, divides_other}
use Rattle.class_file.proofs.texts.push_entry.Goals as goal

pub returns-in_ok-push-in-Text-2-clause-constants : goal.returns-in_ok-push-in-Text-2-clause-constants
returns-in_ok-push-in-Text-2-clause-constants c =
    let units = c.args.units.now in
    let before = take c.args.before units in
    let text = drop c.args.before units in
    let front : length before ≡ c.args.before = length-take-le c.args.before units c.requires.start in
    let size : length text ≡ length units - c.args.before = length-drop c.args.before units in
    let divides : Divides c.args.marks.now.items (length before) (length c.args.constants.now.items) = rw front c.requires.divides in
    rw (c.in_ok-push-in-Text.ensures.items, c.in_ok-push-in-Text-2.ensures.items, c.in-Text.is)
    (text_pushed c.args.marks.now.items units before text c.args.constants.now.items Unused _ _ (take-append-drop c.args.before units) (omega (arith, c.len-index.ensures)) (omega (arith, size)) divides)

pub returns-in_ok-push-in-Text-2-clause-divides : goal.returns-in_ok-push-in-Text-2-clause-divides
returns-in_ok-push-in-Text-2-clause-divides c =
    let units = c.args.units.now in
    let more = length-append c.args.constants.now.items (Unused ∷ []) in
    rw (c.in_ok-push-in-Text.ensures.items, c.in_ok-push-in-Text-2.ensures.items)
    (divides_text c.args.marks.now.items c.args.before (length units) (length c.args.constants.now.items) _ _ _ c.requires.divides (omega (arith, c.requires.start)) (omega (arith, more)) (omega (arith, c.len-index.ensures)))

pub returns-in_ok-push-in-Other-clause-constants : goal.returns-in_ok-push-in-Other-clause-constants
returns-in_ok-push-in-Other-clause-constants c =
    let units = c.args.units.now in
    let before = take c.args.before units in
    let text = drop c.args.before units in
    let front : length before ≡ c.args.before = length-take-le c.args.before units c.requires.start in
    let few : length units - c.args.before ≡ 0 = rw c.in-Other.is at c.requires.few in
    let none : length text ≡ 0 = omega (arith, few, length-drop c.args.before units) in
    let divides : Divides c.args.marks.now.items (length before) (length c.args.constants.now.items) = rw front c.requires.divides in
    rw (c.in_ok-push-in-Other.ensures.items, c.in-Other.is)
    (other_pushed c.args.marks.now.items units before text c.args.constants.now.items c.in-Other.constant (take-append-drop c.args.before units) none divides)

pub returns-in_ok-push-in-Other-clause-divides : goal.returns-in_ok-push-in-Other-clause-divides
returns-in_ok-push-in-Other-clause-divides c =
    let few : length c.args.units.now - c.args.before ≡ 0 = rw c.in-Other.is at c.requires.few in
    let more = length-append c.args.constants.now.items (c.in-Other.constant ∷ []) in
    rw c.in_ok-push-in-Other.ensures.items
    (divides_other c.args.marks.now.items c.args.before (length c.args.units.now) (length c.args.constants.now.items) _ c.requires.divides (omega (arith, c.requires.start, few)) (omega (arith, more)))

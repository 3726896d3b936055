-- The rows of an exception table one after the other.
use Rattle.std.proofs.Common.{◌≡◌, ℕ, suc, ◌+◌, ◌<◌, Bool, cond, List, ◌∷◌, drop, length, get_or, Option, Some, None, sym, ap, ◌∙◌, arith, drop-cons, drop-drop}
use Rattle.std.specs.Prelude.{find}
use Rattle.std.proofs.lemmas.List.{get_or-drop}
use Rattle.class_model.specs.declared.attribute.Row.{Row}
use Rattle.verify_types.specs.Environment.{Handler, with_catches}
use Rattle.runtime_program.specs.Handlers.{handler_with}

drop_more : (xs : List (Option ℕ)) (i : ℕ) → drop 1 (drop i xs) ≡ drop (i + 1) xs
drop_more xs i = drop-drop 1 i xs

pub one_row : (f : Handler → Bool) (rows : List Row) (caught : List (Option ℕ)) (i : ℕ) (row other : Row) (catch : Option ℕ) → i < length rows
    → row ≡ get_or rows i other → catch ≡ get_or caught i None
    → find f (with_catches (drop i rows) (drop i caught))
    ≡ cond (f (handler_with row catch)) (Some (handler_with row catch)) (find f (with_catches (drop (i + 1) rows) (drop (i + 1) caught)))
one_row f rows caught i row other catch inside here what =
    let next : suc i ≡ i + 1 = omega arith in
    let z : i + 0 ≡ i = omega arith in
    let parts : drop i rows ≡ row ∷ drop (i + 1) rows =
    drop-cons rows i other inside ∙ ap (λ (r : Row). r ∷ drop (suc i) rows) (sym here) ∙ ap (λ (k : ℕ). row ∷ drop k rows) next in
    let first : get_or (drop i caught) 0 None ≡ catch = get_or-drop i caught 0 None ∙ ap (λ (k : ℕ). get_or caught k None) z ∙ sym what in
    ap (λ (rs : List Row). find f (with_catches rs (drop i caught))) parts
    ∙ ap (λ (o : Option ℕ). find f (handler_with row o ∷ with_catches (drop (i + 1) rows) (drop 1 (drop i caught)))) first
    ∙ ap (λ (cs : List (Option ℕ)). find f (handler_with row catch ∷ with_catches (drop (i + 1) rows) cs)) (drop_more caught i)

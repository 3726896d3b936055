-- Folds over lists one after the other.
use Rattle.std.proofs.Common.{◌≡◌, List, ◌++◌, ap, ◌∙◌}
use Rattle.std.specs.List.{fold}
use Rattle.std.proofs.lemmas.List.Sums.{fold-append}

pub fold_four : {A B : Type 0} (f : B → A → B) (s : B) (a b c d : List A) → fold f s (((a ++ b) ++ c) ++ d) ≡ fold f (fold f (fold f (fold f s a) b) c) d
fold_four f s a b c d =
    fold-append f s ((a ++ b) ++ c) d
    ∙ ap (λ t. fold f t d) (fold-append f s (a ++ b) c)
    ∙ ap (λ t. fold f (fold f t c) d) (fold-append f s a b)

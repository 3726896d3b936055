use Rattle.std.proofs.Common.{◌≡◌, true, refl}
use Rattle.jasm.proofs.ListLaws.{makes_same, makes_other}
use Rattle.jasm.proofs.lister.kept.Goals as goal

pub returns-then-not-is_same_file : goal.returns-then-not-is_same_file
returns-then-not-is_same_file c =
    makes_other c.args.text.items c.args.made.now c.args.file.now c.requires (λ e. let same : c.is_same_file.result ≡ true = c.is_same_file.ensures.1 e in cc)

pub returns : goal.returns
returns c = (refl, makes_same c.args.text.items c.args.made.now c.args.file.now c.requires (c.is_same_file.ensures.0 c.if-not-is_same_file.false))

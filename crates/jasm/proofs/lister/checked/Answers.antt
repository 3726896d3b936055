use Rattle.std.proofs.Common.{◌≡◌}
use Rattle.jasm.proofs.ListLaws.{makes_none, bad_answer}
use Rattle.jasm.proofs.lister.checked.Goals as goal

pub returns-in-Err-Bad : goal.returns-in-Err-Bad
returns-in-Err-Bad c =
    let same : c.deref.result.now ≡ c.args.text.items = cc in
    makes_none c.args.text.items c.in-Err-Bad.field-0-0 c.args.file.now (bad_answer c.in-Err-Bad.field-0 c.in-Err-Bad.field-0-0 c.deref.result.now c.args.text.items c.in-Err-Bad.ensures c.in-Err-Bad.field-0-is same)

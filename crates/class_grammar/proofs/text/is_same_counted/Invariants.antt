use Rattle.std.proofs.Common.{◌≡◌, ◌+◌, drop, length}
use Rattle.class_grammar.specs.Text.{same_text}
use Rattle.class_grammar.proofs.text.is_same_counted.Given as goal

abbrev pub invariant-loop-index : goal.invariant-loop-index
invariant-loop-index g l = record {
  size : length l.units ≡ length l.text;
  same : same_text (drop l.index l.units) (drop l.index l.text) ≡ same_text l.units l.text;
  spent : l.steps ≡ l.fn.steps + l.index;
}

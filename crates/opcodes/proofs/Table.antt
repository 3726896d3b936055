-- A table that means the formats of the definitions gives the format of each opcode.
use Rattle.std.proofs.Common.{◌≡◌, ℕ, ◌≤◌, List, map, get_or, sym, ap, ◌∙◌}
use Rattle.std.proofs.Math.ListN.{get_or-map}
use Rattle.std.proofs.lemmas.List.{get_or_past}
use Rattle.opcodes.specs.declared.formats.Format.{Format as TableFormat}
use Rattle.opcodes.specs.declared.formats.Format.TheVariants as table_formats
use Rattle.opcodes.specs.Meaning.{meaning}
use Rattle.opcodes.specs.Formats.{Format, undefined, formats, format}

pub format_in : (table : List TableFormat) (opcode : ℕ) → map meaning table ≡ formats → meaning (get_or table opcode table_formats.Undefined) ≡ format opcode
unfolding format
format_in table opcode e = sym (get_or-map meaning table opcode table_formats.Undefined) ∙ ap (λ (fs : List Format). get_or fs opcode undefined) e

pub format_past : (opcode : ℕ) → 202 ≤ opcode → undefined ≡ format opcode
unfolding format
format_past opcode past = sym (get_or_past formats opcode undefined past)

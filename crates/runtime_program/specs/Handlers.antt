-- Handlers as they are looked up.
use Rattle.std.specs.Prelude.{ℕ, Option, find}
use Rattle.items.specs.Options.{◌>>=◌}
use Rattle.class_model.specs.declared.attribute.Row.{Row}
use Rattle.link_model.specs.World.{World}
use Rattle.link_model.specs.Decoded.{code_at}
use Rattle.verify_types.specs.Environment.{Handler}
use Rattle.ref_model.specs.Fetch.{handlers_of}
use Rattle.ref_model.specs.Throwing.{catches}

-- a row of the exception table, with what it catches
abbrev pub handler_with : Row → Option ℕ → Handler
handler_with row catch = record { row = row; catch = catch }

-- the pc of the handler
abbrev pub handler_pc : Handler → ℕ
handler_pc h = h.row.handler

-- the first handler that catches an object of a class at a pc of a method
abbrev pub handler_at : World → ℕ → ℕ → ℕ → Option Handler
handler_at w class method pc = code_at w method >>= λ code. find (catches w pc class) (handlers_of w method code)

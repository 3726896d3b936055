-- The rows of native methods take the kinds that are said of them.
use Rattle.std.proofs.Common.{◌≡◌, refl}
use Rattle.lib_table.specs.declared.native.Native.{Native}
use Rattle.lib_table.specs.declared.native.Native.TheVariants as natives
use Rattle.link_model.specs.World.{World}
use Rattle.ref_model.specs.Memory.{Memory}
use Rattle.ref_model.specs.NativeRows.{row_kinds}
use Rattle.ref_model.specs.Natives.{native_row, native_takes}

pub rows_take : (w : World) (r : Memory) (n : Native) → row_kinds (native_row w r n) ≡ native_takes n
rows_take w r natives.ObjectInit = refl
rows_take w r natives.ObjectEquals = refl
rows_take w r natives.ObjectHashCode = refl
rows_take w r natives.ObjectToString = refl
rows_take w r natives.StringLength = refl
rows_take w r natives.StringCharAt = refl
rows_take w r natives.StringIsEmpty = refl
rows_take w r natives.StringEquals = refl
rows_take w r natives.StringHashCode = refl
rows_take w r natives.StringConcat = refl
rows_take w r natives.StringToString = refl
rows_take w r natives.StringValueOfInt = refl
rows_take w r natives.StringValueOfLong = refl
rows_take w r natives.StringValueOfChar = refl
rows_take w r natives.StringValueOfBoolean = refl
rows_take w r natives.StringBuilderInit = refl
rows_take w r natives.StringBuilderAppendInt = refl
rows_take w r natives.StringBuilderAppendLong = refl
rows_take w r natives.StringBuilderAppendChar = refl
rows_take w r natives.StringBuilderAppendBoolean = refl
rows_take w r natives.StringBuilderAppendString = refl
rows_take w r natives.StringBuilderLength = refl
rows_take w r natives.StringBuilderToString = refl
rows_take w r natives.SystemExit = refl
rows_take w r natives.PrintStreamPrintln = refl
rows_take w r natives.PrintStreamPrintlnInt = refl
rows_take w r natives.PrintStreamPrintlnLong = refl
rows_take w r natives.PrintStreamPrintlnChar = refl
rows_take w r natives.PrintStreamPrintlnBoolean = refl
rows_take w r natives.PrintStreamPrintlnString = refl
rows_take w r natives.PrintStreamPrintInt = refl
rows_take w r natives.PrintStreamPrintLong = refl
rows_take w r natives.PrintStreamPrintChar = refl
rows_take w r natives.PrintStreamPrintBoolean = refl
rows_take w r natives.PrintStreamPrintString = refl
rows_take w r n = refl

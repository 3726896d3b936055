-- java.lang.System and its streams.
use Rattle.std.specs.Prelude.{◌+◌, List, [], ◌∷◌, Some, None}
use Rattle.lib_table.specs.declared.native.Native.TheVariants as natives
use Rattle.lib_table.specs.Declarations.{Class}
use Rattle.lib_table.specs.Instructions.{aload_0, aload_1, return_void}
use Rattle.lib_table.specs.Words.{public, static, final, native, class, field, method, native_method, invokevirtual, invokestatic}

abbrev pub system : Class
system =
    class (public + final) "java/lang/System" (Some "java/lang/Object") []
    (field (public + static + final) "out" "Ljava/io/PrintStream;"
    ∷ field (public + static + final) "err" "Ljava/io/PrintStream;"
    ∷ [])
    (native_method (public + static + native) "exit" "(I)V" natives.SystemExit
    ∷ native_method (public + static + native) "nanoTime" "()J" natives.SystemNanoTime
    ∷ native_method (public + static + native) "currentTimeMillis" "()J" natives.SystemCurrentTimeMillis
    ∷ [])

-- A program makes no stream, so there is no constructor.
abbrev pub print_stream : Class
print_stream =
    class public "java/io/PrintStream" (Some "java/lang/Object") []
    []
    (native_method (public + native) "println" "()V" natives.PrintStreamPrintln
    ∷ native_method (public + native) "println" "(I)V" natives.PrintStreamPrintlnInt
    ∷ native_method (public + native) "println" "(J)V" natives.PrintStreamPrintlnLong
    ∷ native_method (public + native) "println" "(C)V" natives.PrintStreamPrintlnChar
    ∷ native_method (public + native) "println" "(Z)V" natives.PrintStreamPrintlnBoolean
    ∷ native_method (public + native) "println" "(Ljava/lang/String;)V" natives.PrintStreamPrintlnString
    ∷ method public "println" "(Ljava/lang/Object;)V" 2 2 None
    (aload_0
    ∷ aload_1
    ∷ invokestatic "java/lang/String" "valueOf" "(Ljava/lang/Object;)Ljava/lang/String;"
    ∷ invokevirtual "java/io/PrintStream" "println" "(Ljava/lang/String;)V"
    ∷ return_void ∷ [])
    ∷ native_method (public + native) "print" "(I)V" natives.PrintStreamPrintInt
    ∷ native_method (public + native) "print" "(J)V" natives.PrintStreamPrintLong
    ∷ native_method (public + native) "print" "(C)V" natives.PrintStreamPrintChar
    ∷ native_method (public + native) "print" "(Z)V" natives.PrintStreamPrintBoolean
    ∷ native_method (public + native) "print" "(Ljava/lang/String;)V" natives.PrintStreamPrintString
    ∷ method public "print" "(Ljava/lang/Object;)V" 2 2 None
    (aload_0
    ∷ aload_1
    ∷ invokestatic "java/lang/String" "valueOf" "(Ljava/lang/Object;)Ljava/lang/String;"
    ∷ invokevirtual "java/io/PrintStream" "print" "(Ljava/lang/String;)V"
    ∷ return_void ∷ [])
    ∷ [])

unfoldable pub classes : List Class
classes =
    system
    ∷ print_stream
    ∷ []

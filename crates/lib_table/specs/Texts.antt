-- Strings.
use Rattle.std.specs.Prelude.{◌+◌, List, [], ◌∷◌, Some, None}
use Rattle.lib_table.specs.declared.native.Native.TheVariants as natives
use Rattle.lib_table.specs.Declarations.{Class}
use Rattle.lib_table.specs.Instructions.{aload_0, aload_1, areturn, ifnonnull}
use Rattle.lib_table.specs.Words.{public, private, static, final, native, class, field, method, native_method, ldc_w, invokevirtual, invokestatic}

abbrev pub string : Class
string =
    class (public + final) "java/lang/String" (Some "java/lang/Object") ("java/io/Serializable" ∷ [])
    []
    (native_method (public + native) "length" "()I" natives.StringLength
    ∷ native_method (public + native) "charAt" "(I)C" natives.StringCharAt
    ∷ native_method (public + native) "isEmpty" "()Z" natives.StringIsEmpty
    ∷ native_method (public + native) "equals" "(Ljava/lang/Object;)Z" natives.StringEquals
    ∷ native_method (public + native) "hashCode" "()I" natives.StringHashCode
    ∷ native_method (public + native) "concat" "(Ljava/lang/String;)Ljava/lang/String;" natives.StringConcat
    ∷ native_method (public + native) "toString" "()Ljava/lang/String;" natives.StringToString
    ∷ native_method (public + static + native) "valueOf" "(I)Ljava/lang/String;" natives.StringValueOfInt
    ∷ native_method (public + static + native) "valueOf" "(J)Ljava/lang/String;" natives.StringValueOfLong
    ∷ native_method (public + static + native) "valueOf" "(C)Ljava/lang/String;" natives.StringValueOfChar
    ∷ native_method (public + static + native) "valueOf" "(Z)Ljava/lang/String;" natives.StringValueOfBoolean
    ∷ method (public + static) "valueOf" "(Ljava/lang/Object;)Ljava/lang/String;" 1 1 (Some 8)
    (aload_0
    ∷ ifnonnull 8
    ∷ ldc_w "null"
    ∷ areturn
    ∷ aload_0
    ∷ invokevirtual "java/lang/Object" "toString" "()Ljava/lang/String;"
    ∷ areturn ∷ [])
    ∷ [])

-- Its field is the text so far.
abbrev pub string_builder : Class
string_builder =
    class (public + final) "java/lang/StringBuilder" (Some "java/lang/Object") ("java/io/Serializable" ∷ [])
    (field private "0text" "Ljava/lang/String;"
    ∷ [])
    (native_method (public + native) "<init>" "()V" natives.StringBuilderInit
    ∷ native_method (public + native) "append" "(I)Ljava/lang/StringBuilder;" natives.StringBuilderAppendInt
    ∷ native_method (public + native) "append" "(J)Ljava/lang/StringBuilder;" natives.StringBuilderAppendLong
    ∷ native_method (public + native) "append" "(C)Ljava/lang/StringBuilder;" natives.StringBuilderAppendChar
    ∷ native_method (public + native) "append" "(Z)Ljava/lang/StringBuilder;" natives.StringBuilderAppendBoolean
    ∷ native_method (public + native) "append" "(Ljava/lang/String;)Ljava/lang/StringBuilder;" natives.StringBuilderAppendString
    ∷ method public "append" "(Ljava/lang/Object;)Ljava/lang/StringBuilder;" 2 2 None
    (aload_0
    ∷ aload_1
    ∷ invokestatic "java/lang/String" "valueOf" "(Ljava/lang/Object;)Ljava/lang/String;"
    ∷ invokevirtual "java/lang/StringBuilder" "append" "(Ljava/lang/String;)Ljava/lang/StringBuilder;"
    ∷ areturn ∷ [])
    ∷ native_method (public + native) "length" "()I" natives.StringBuilderLength
    ∷ native_method (public + native) "toString" "()Ljava/lang/String;" natives.StringBuilderToString
    ∷ [])

unfoldable pub classes : List Class
classes =
    string
    ∷ string_builder
    ∷ []

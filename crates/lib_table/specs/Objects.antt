-- java.lang.Object, and what every object may be.
use Rattle.std.specs.Prelude.{◌+◌, List, [], ◌∷◌, Some, None}
use Rattle.lib_table.specs.declared.native.Native.TheVariants as natives
use Rattle.lib_table.specs.Declarations.{Class}
use Rattle.lib_table.specs.Instructions.{aload_0, dup, areturn, ireturn, athrow, ifnonnull}
use Rattle.lib_table.specs.Words.{public, private, static, final, native, abstract, interface, class, field, method, native_method, new_object, getfield, invokevirtual, invokespecial}

abbrev pub object : Class
object =
    class public "java/lang/Object" None []
    []
    (native_method (public + native) "<init>" "()V" natives.ObjectInit
    ∷ native_method (public + native) "equals" "(Ljava/lang/Object;)Z" natives.ObjectEquals
    ∷ native_method (public + native) "hashCode" "()I" natives.ObjectHashCode
    ∷ method public "toString" "()Ljava/lang/String;" 2 1 None
    (aload_0
    ∷ aload_0
    ∷ invokevirtual "java/lang/Object" "hashCode" "()I"
    ∷ invokevirtual "java/lang/Object" "0toString" "(I)Ljava/lang/String;"
    ∷ areturn ∷ [])
    ∷ native_method (private + native) "0toString" "(I)Ljava/lang/String;" natives.ObjectToString
    ∷ native_method (public + final + native) "wait" "()V" natives.ObjectWait
    ∷ native_method (public + final + native) "wait" "(J)V" natives.ObjectWaitMillis
    ∷ native_method (public + final + native) "notify" "()V" natives.ObjectNotify
    ∷ native_method (public + final + native) "notifyAll" "()V" natives.ObjectNotifyAll
    ∷ [])

abbrev pub objects : Class
objects =
    class (public + final) "java/util/Objects" (Some "java/lang/Object") []
    []
    (method (public + static) "requireNonNull" "(Ljava/lang/Object;)Ljava/lang/Object;" 2 1 (Some 12)
    (aload_0
    ∷ ifnonnull 12
    ∷ new_object "java/lang/NullPointerException"
    ∷ dup
    ∷ invokespecial "java/lang/NullPointerException" "<init>" "()V"
    ∷ athrow
    ∷ aload_0
    ∷ areturn ∷ [])
    ∷ [])

abbrev pub cloneable : Class
cloneable =
    class (public + interface + abstract) "java/lang/Cloneable" (Some "java/lang/Object") []
    []
    []

abbrev pub serializable : Class
serializable =
    class (public + interface + abstract) "java/io/Serializable" (Some "java/lang/Object") []
    []
    []

-- A program declares no enum, so there is no constructor.
abbrev pub enum : Class
enum =
    class (public + abstract) "java/lang/Enum" (Some "java/lang/Object") ("java/io/Serializable" ∷ [])
    (field private "0name" "Ljava/lang/String;"
    ∷ field private "0ordinal" "I"
    ∷ [])
    (method (public + final) "name" "()Ljava/lang/String;" 1 1 None
    (aload_0
    ∷ getfield "java/lang/Enum" "0name" "Ljava/lang/String;"
    ∷ areturn ∷ [])
    ∷ method (public + final) "ordinal" "()I" 1 1 None
    (aload_0
    ∷ getfield "java/lang/Enum" "0ordinal" "I"
    ∷ ireturn ∷ [])
    ∷ method public "toString" "()Ljava/lang/String;" 1 1 None
    (aload_0
    ∷ getfield "java/lang/Enum" "0name" "Ljava/lang/String;"
    ∷ areturn ∷ [])
    ∷ [])

unfoldable pub classes : List Class
classes =
    object
    ∷ objects
    ∷ cloneable
    ∷ serializable
    ∷ enum
    ∷ []

-- What is thrown.
use Rattle.std.specs.Prelude.{◌+◌, List, [], ◌∷◌, Some, None}
use Rattle.lib_table.specs.Declarations.{Class}
use Rattle.lib_table.specs.Instructions.{aload_0, aload_1, areturn, return_void}
use Rattle.lib_table.specs.Words.{public, private, abstract, class, field, method, getfield, putfield, invokespecial, throwable}

abbrev pub throwable_itself : Class
throwable_itself =
    class public "java/lang/Throwable" (Some "java/lang/Object") ("java/io/Serializable" ∷ [])
    (field private "0message" "Ljava/lang/String;"
    ∷ [])
    (method public "<init>" "()V" 1 1 None
    (aload_0
    ∷ invokespecial "java/lang/Object" "<init>" "()V"
    ∷ return_void ∷ [])
    ∷ method public "<init>" "(Ljava/lang/String;)V" 2 2 None
    (aload_0
    ∷ invokespecial "java/lang/Object" "<init>" "()V"
    ∷ aload_0
    ∷ aload_1
    ∷ putfield "java/lang/Throwable" "0message" "Ljava/lang/String;"
    ∷ return_void ∷ [])
    ∷ method public "getMessage" "()Ljava/lang/String;" 1 1 None
    (aload_0
    ∷ getfield "java/lang/Throwable" "0message" "Ljava/lang/String;"
    ∷ areturn ∷ [])
    ∷ [])

unfoldable pub classes : List Class
classes =
    throwable_itself
    ∷ throwable public "java/lang/Exception" "java/lang/Throwable"
    ∷ throwable public "java/lang/Error" "java/lang/Throwable"
    ∷ throwable public "java/lang/RuntimeException" "java/lang/Exception"
    ∷ throwable public "java/lang/InterruptedException" "java/lang/Exception"
    ∷ throwable public "java/lang/ArithmeticException" "java/lang/RuntimeException"
    ∷ throwable public "java/lang/ArrayStoreException" "java/lang/RuntimeException"
    ∷ throwable public "java/lang/ClassCastException" "java/lang/RuntimeException"
    ∷ throwable public "java/lang/IllegalArgumentException" "java/lang/RuntimeException"
    ∷ throwable public "java/lang/IllegalMonitorStateException" "java/lang/RuntimeException"
    ∷ throwable public "java/lang/IllegalStateException" "java/lang/RuntimeException"
    ∷ throwable public "java/lang/IndexOutOfBoundsException" "java/lang/RuntimeException"
    ∷ throwable public "java/lang/NegativeArraySizeException" "java/lang/RuntimeException"
    ∷ throwable public "java/lang/NullPointerException" "java/lang/RuntimeException"
    ∷ throwable public "java/lang/UnsupportedOperationException" "java/lang/RuntimeException"
    ∷ throwable public "java/lang/IllegalThreadStateException" "java/lang/IllegalArgumentException"
    ∷ throwable public "java/lang/ArrayIndexOutOfBoundsException" "java/lang/IndexOutOfBoundsException"
    ∷ throwable public "java/lang/StringIndexOutOfBoundsException" "java/lang/IndexOutOfBoundsException"
    ∷ throwable public "java/lang/LinkageError" "java/lang/Error"
    ∷ throwable (public + abstract) "java/lang/VirtualMachineError" "java/lang/Error"
    ∷ throwable public "java/lang/IncompatibleClassChangeError" "java/lang/LinkageError"
    ∷ throwable public "java/lang/VerifyError" "java/lang/LinkageError"
    ∷ throwable public "java/lang/NoClassDefFoundError" "java/lang/LinkageError"
    ∷ throwable public "java/lang/ExceptionInInitializerError" "java/lang/LinkageError"
    ∷ throwable public "java/lang/AbstractMethodError" "java/lang/IncompatibleClassChangeError"
    ∷ throwable public "java/lang/OutOfMemoryError" "java/lang/VirtualMachineError"
    ∷ throwable public "java/lang/StackOverflowError" "java/lang/VirtualMachineError"
    ∷ []

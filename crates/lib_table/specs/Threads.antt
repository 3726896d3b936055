-- Threads.
use Rattle.std.specs.Prelude.{◌+◌, List, [], ◌∷◌, Some, None}
use Rattle.lib_table.specs.declared.native.Native.TheVariants as natives
use Rattle.lib_table.specs.Declarations.{Class}
use Rattle.lib_table.specs.Instructions.{aload_0, aload_1, aload_2, aconst_null, dup, pop, areturn, return_void, ifnull}
use Rattle.lib_table.specs.Words.{public, private, static, final, native, abstract, interface, class, field, method, native_method, abstract_method, new_object, getfield, putfield, invokevirtual, invokespecial, invokestatic, invokeinterface}

abbrev pub runnable : Class
runnable =
    class (public + interface + abstract) "java/lang/Runnable" (Some "java/lang/Object") []
    []
    (abstract_method (public + abstract) "run" "()V"
    ∷ [])

-- Its fields are what run calls, and the number of its thread. The two private constructors are for the builders.
abbrev pub thread : Class
thread =
    class public "java/lang/Thread" (Some "java/lang/Object") ("java/lang/Runnable" ∷ [])
    (field private "0target" "Ljava/lang/Runnable;"
    ∷ field private "0number" "I"
    ∷ [])
    (method public "<init>" "()V" 2 1 None
    (aload_0
    ∷ invokespecial "java/lang/Object" "<init>" "()V"
    ∷ aload_0
    ∷ aconst_null
    ∷ invokevirtual "java/lang/Thread" "0createPlatform" "(Ljava/lang/String;)V"
    ∷ return_void ∷ [])
    ∷ method public "<init>" "(Ljava/lang/Runnable;)V" 2 2 None
    (aload_0
    ∷ invokespecial "java/lang/Object" "<init>" "()V"
    ∷ aload_0
    ∷ aload_1
    ∷ putfield "java/lang/Thread" "0target" "Ljava/lang/Runnable;"
    ∷ aload_0
    ∷ aconst_null
    ∷ invokevirtual "java/lang/Thread" "0createPlatform" "(Ljava/lang/String;)V"
    ∷ return_void ∷ [])
    ∷ method public "<init>" "(Ljava/lang/String;)V" 2 2 None
    (aload_0
    ∷ invokespecial "java/lang/Object" "<init>" "()V"
    ∷ aload_1
    ∷ invokestatic "java/util/Objects" "requireNonNull" "(Ljava/lang/Object;)Ljava/lang/Object;"
    ∷ pop
    ∷ aload_0
    ∷ aload_1
    ∷ invokevirtual "java/lang/Thread" "0createPlatform" "(Ljava/lang/String;)V"
    ∷ return_void ∷ [])
    ∷ method public "<init>" "(Ljava/lang/Runnable;Ljava/lang/String;)V" 2 3 None
    (aload_0
    ∷ invokespecial "java/lang/Object" "<init>" "()V"
    ∷ aload_2
    ∷ invokestatic "java/util/Objects" "requireNonNull" "(Ljava/lang/Object;)Ljava/lang/Object;"
    ∷ pop
    ∷ aload_0
    ∷ aload_1
    ∷ putfield "java/lang/Thread" "0target" "Ljava/lang/Runnable;"
    ∷ aload_0
    ∷ aload_2
    ∷ invokevirtual "java/lang/Thread" "0createPlatform" "(Ljava/lang/String;)V"
    ∷ return_void ∷ [])
    ∷ method private "<init>" "(Ljava/lang/Runnable;Ljava/lang/ThreadBuilders$VirtualThreadBuilder;)V" 2 3 None
    (aload_0
    ∷ invokespecial "java/lang/Object" "<init>" "()V"
    ∷ aload_0
    ∷ aload_1
    ∷ putfield "java/lang/Thread" "0target" "Ljava/lang/Runnable;"
    ∷ aload_0
    ∷ aload_2
    ∷ getfield "java/lang/ThreadBuilders$VirtualThreadBuilder" "0name" "Ljava/lang/String;"
    ∷ invokevirtual "java/lang/Thread" "0createVirtual" "(Ljava/lang/String;)V"
    ∷ return_void ∷ [])
    ∷ method private "<init>" "(Ljava/lang/Runnable;Ljava/lang/ThreadBuilders$PlatformThreadBuilder;)V" 2 3 None
    (aload_0
    ∷ invokespecial "java/lang/Object" "<init>" "()V"
    ∷ aload_0
    ∷ aload_1
    ∷ putfield "java/lang/Thread" "0target" "Ljava/lang/Runnable;"
    ∷ aload_0
    ∷ aload_2
    ∷ getfield "java/lang/ThreadBuilders$PlatformThreadBuilder" "0name" "Ljava/lang/String;"
    ∷ invokevirtual "java/lang/Thread" "0createPlatform" "(Ljava/lang/String;)V"
    ∷ return_void ∷ [])
    ∷ native_method (private + native) "0createPlatform" "(Ljava/lang/String;)V" natives.ThreadCreatePlatform
    ∷ native_method (private + native) "0createVirtual" "(Ljava/lang/String;)V" natives.ThreadCreateVirtual
    ∷ method public "run" "()V" 1 1 (Some 16)
    (aload_0
    ∷ getfield "java/lang/Thread" "0target" "Ljava/lang/Runnable;"
    ∷ ifnull 16
    ∷ aload_0
    ∷ getfield "java/lang/Thread" "0target" "Ljava/lang/Runnable;"
    ∷ invokeinterface "java/lang/Runnable" "run" "()V" 1
    ∷ return_void ∷ [])
    ∷ native_method (public + native) "start" "()V" natives.ThreadStart
    ∷ native_method (public + native) "interrupt" "()V" natives.ThreadInterrupt
    ∷ native_method (public + native) "isInterrupted" "()Z" natives.ThreadIsInterrupted
    ∷ native_method (public + final + native) "join" "()V" natives.ThreadJoin
    ∷ native_method (public + final + native) "join" "(J)V" natives.ThreadJoinMillis
    ∷ native_method (public + final + native) "isAlive" "()Z" natives.ThreadIsAlive
    ∷ native_method (public + final + native) "isVirtual" "()Z" natives.ThreadIsVirtual
    ∷ native_method (public + final + native) "isDaemon" "()Z" natives.ThreadIsDaemon
    ∷ native_method (public + final + native) "setDaemon" "(Z)V" natives.ThreadSetDaemon
    ∷ native_method (public + final + native) "getName" "()Ljava/lang/String;" natives.ThreadGetName
    ∷ native_method (public + final + native) "setName" "(Ljava/lang/String;)V" natives.ThreadSetName
    ∷ native_method (public + final + native) "threadId" "()J" natives.ThreadId
    ∷ native_method (public + native) "getState" "()Ljava/lang/Thread$State;" natives.ThreadGetState
    ∷ native_method (public + static + native) "currentThread" "()Ljava/lang/Thread;" natives.ThreadCurrentThread
    ∷ native_method (public + static + native) "yield" "()V" natives.ThreadYield
    ∷ native_method (public + static + native) "onSpinWait" "()V" natives.ThreadOnSpinWait
    ∷ native_method (public + static + native) "sleep" "(J)V" natives.ThreadSleep
    ∷ native_method (public + static + native) "interrupted" "()Z" natives.ThreadInterrupted
    ∷ method (public + static) "startVirtualThread" "(Ljava/lang/Runnable;)Ljava/lang/Thread;" 2 1 None
    (invokestatic "java/lang/Thread" "ofVirtual" "()Ljava/lang/Thread$Builder$OfVirtual;"
    ∷ aload_0
    ∷ invokeinterface "java/lang/Thread$Builder$OfVirtual" "start" "(Ljava/lang/Runnable;)Ljava/lang/Thread;" 2
    ∷ areturn ∷ [])
    ∷ method (public + static) "ofVirtual" "()Ljava/lang/Thread$Builder$OfVirtual;" 2 0 None
    (new_object "java/lang/ThreadBuilders$VirtualThreadBuilder"
    ∷ dup
    ∷ invokespecial "java/lang/ThreadBuilders$VirtualThreadBuilder" "<init>" "()V"
    ∷ areturn ∷ [])
    ∷ method (public + static) "ofPlatform" "()Ljava/lang/Thread$Builder$OfPlatform;" 2 0 None
    (new_object "java/lang/ThreadBuilders$PlatformThreadBuilder"
    ∷ dup
    ∷ invokespecial "java/lang/ThreadBuilders$PlatformThreadBuilder" "<init>" "()V"
    ∷ areturn ∷ [])
    ∷ [])

abbrev pub state : Class
state =
    class (public + final) "java/lang/Thread$State" (Some "java/lang/Enum") []
    (field (public + static + final) "NEW" "Ljava/lang/Thread$State;"
    ∷ field (public + static + final) "RUNNABLE" "Ljava/lang/Thread$State;"
    ∷ field (public + static + final) "BLOCKED" "Ljava/lang/Thread$State;"
    ∷ field (public + static + final) "WAITING" "Ljava/lang/Thread$State;"
    ∷ field (public + static + final) "TIMED_WAITING" "Ljava/lang/Thread$State;"
    ∷ field (public + static + final) "TERMINATED" "Ljava/lang/Thread$State;"
    ∷ [])
    []

abbrev pub lock_support : Class
lock_support =
    class (public + final) "java/util/concurrent/locks/LockSupport" (Some "java/lang/Object") []
    []
    (native_method (public + static + native) "park" "()V" natives.LockSupportPark
    ∷ native_method (public + static + native) "park" "(Ljava/lang/Object;)V" natives.LockSupportParkBlocker
    ∷ native_method (public + static + native) "parkNanos" "(J)V" natives.LockSupportParkNanos
    ∷ native_method (public + static + native) "parkNanos" "(Ljava/lang/Object;J)V" natives.LockSupportParkNanosBlocker
    ∷ native_method (public + static + native) "unpark" "(Ljava/lang/Thread;)V" natives.LockSupportUnpark
    ∷ [])

-- Its method runs under a native frame.
abbrev pub native_holder : Class
native_holder =
    class (public + final) "jvt/Native" (Some "java/lang/Object") []
    []
    (method (public + static) "hold" "(Ljava/lang/Runnable;)V" 1 1 None
    (aload_0
    ∷ invokeinterface "java/lang/Runnable" "run" "()V" 1
    ∷ return_void ∷ [])
    ∷ [])

unfoldable pub classes : List Class
classes =
    runnable
    ∷ thread
    ∷ state
    ∷ lock_support
    ∷ native_holder
    ∷ []

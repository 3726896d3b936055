-- The builders of threads.
use Rattle.std.specs.Prelude.{◌+◌, List, [], ◌∷◌, Some, None}
use Rattle.lib_table.specs.Declarations.{Class}
use Rattle.lib_table.specs.Instructions.{aload_0, aload_1, aload_2, astore_2, iload_1, iconst_1, dup, pop, areturn, return_void, ifeq}
use Rattle.lib_table.specs.Words.{public, private, final, abstract, interface, package_private, class, field, method, abstract_method, new_object, getfield, putfield, invokevirtual, invokespecial, invokestatic, invokeinterface}

abbrev pub builder : Class
builder =
    class (public + interface + abstract) "java/lang/Thread$Builder" (Some "java/lang/Object") []
    []
    (abstract_method (public + abstract) "name" "(Ljava/lang/String;)Ljava/lang/Thread$Builder;"
    ∷ abstract_method (public + abstract) "start" "(Ljava/lang/Runnable;)Ljava/lang/Thread;"
    ∷ abstract_method (public + abstract) "unstarted" "(Ljava/lang/Runnable;)Ljava/lang/Thread;"
    ∷ [])

abbrev pub of_virtual : Class
of_virtual =
    class (public + interface + abstract) "java/lang/Thread$Builder$OfVirtual" (Some "java/lang/Object") ("java/lang/Thread$Builder" ∷ [])
    []
    (abstract_method (public + abstract) "name" "(Ljava/lang/String;)Ljava/lang/Thread$Builder$OfVirtual;"
    ∷ [])

abbrev pub of_platform : Class
of_platform =
    class (public + interface + abstract) "java/lang/Thread$Builder$OfPlatform" (Some "java/lang/Object") ("java/lang/Thread$Builder" ∷ [])
    []
    (abstract_method (public + abstract) "name" "(Ljava/lang/String;)Ljava/lang/Thread$Builder$OfPlatform;"
    ∷ abstract_method (public + abstract) "daemon" "(Z)Ljava/lang/Thread$Builder$OfPlatform;"
    ∷ method public "daemon" "()Ljava/lang/Thread$Builder$OfPlatform;" 2 1 None
    (aload_0
    ∷ iconst_1
    ∷ invokeinterface "java/lang/Thread$Builder$OfPlatform" "daemon" "(Z)Ljava/lang/Thread$Builder$OfPlatform;" 2
    ∷ areturn ∷ [])
    ∷ [])

-- What Thread.ofVirtual gives. Where no name was given it is null.
abbrev pub virtual_thread_builder : Class
virtual_thread_builder =
    class final "java/lang/ThreadBuilders$VirtualThreadBuilder" (Some "java/lang/Object") ("java/lang/Thread$Builder$OfVirtual" ∷ [])
    (field private "0name" "Ljava/lang/String;"
    ∷ [])
    (method package_private "<init>" "()V" 1 1 None
    (aload_0
    ∷ invokespecial "java/lang/Object" "<init>" "()V"
    ∷ return_void ∷ [])
    ∷ method public "name" "(Ljava/lang/String;)Ljava/lang/Thread$Builder$OfVirtual;" 2 2 None
    (aload_1
    ∷ invokestatic "java/util/Objects" "requireNonNull" "(Ljava/lang/Object;)Ljava/lang/Object;"
    ∷ pop
    ∷ aload_0
    ∷ aload_1
    ∷ putfield "java/lang/ThreadBuilders$VirtualThreadBuilder" "0name" "Ljava/lang/String;"
    ∷ aload_0
    ∷ areturn ∷ [])
    ∷ method public "name" "(Ljava/lang/String;)Ljava/lang/Thread$Builder;" 2 2 None
    (aload_0
    ∷ aload_1
    ∷ invokevirtual "java/lang/ThreadBuilders$VirtualThreadBuilder" "name" "(Ljava/lang/String;)Ljava/lang/Thread$Builder$OfVirtual;"
    ∷ areturn ∷ [])
    ∷ method public "unstarted" "(Ljava/lang/Runnable;)Ljava/lang/Thread;" 4 2 None
    (aload_1
    ∷ invokestatic "java/util/Objects" "requireNonNull" "(Ljava/lang/Object;)Ljava/lang/Object;"
    ∷ pop
    ∷ new_object "java/lang/Thread"
    ∷ dup
    ∷ aload_1
    ∷ aload_0
    ∷ invokespecial "java/lang/Thread" "<init>" "(Ljava/lang/Runnable;Ljava/lang/ThreadBuilders$VirtualThreadBuilder;)V"
    ∷ areturn ∷ [])
    ∷ method public "start" "(Ljava/lang/Runnable;)Ljava/lang/Thread;" 2 2 None
    (aload_0
    ∷ aload_1
    ∷ invokevirtual "java/lang/ThreadBuilders$VirtualThreadBuilder" "unstarted" "(Ljava/lang/Runnable;)Ljava/lang/Thread;"
    ∷ dup
    ∷ invokevirtual "java/lang/Thread" "start" "()V"
    ∷ areturn ∷ [])
    ∷ [])

-- What Thread.ofPlatform gives. Where no name was given it is null; its 0daemon counts where 0setsDaemon is true.
abbrev pub platform_thread_builder : Class
platform_thread_builder =
    class final "java/lang/ThreadBuilders$PlatformThreadBuilder" (Some "java/lang/Object") ("java/lang/Thread$Builder$OfPlatform" ∷ [])
    (field private "0name" "Ljava/lang/String;"
    ∷ field private "0setsDaemon" "Z"
    ∷ field private "0daemon" "Z"
    ∷ [])
    (method package_private "<init>" "()V" 1 1 None
    (aload_0
    ∷ invokespecial "java/lang/Object" "<init>" "()V"
    ∷ return_void ∷ [])
    ∷ method public "name" "(Ljava/lang/String;)Ljava/lang/Thread$Builder$OfPlatform;" 2 2 None
    (aload_1
    ∷ invokestatic "java/util/Objects" "requireNonNull" "(Ljava/lang/Object;)Ljava/lang/Object;"
    ∷ pop
    ∷ aload_0
    ∷ aload_1
    ∷ putfield "java/lang/ThreadBuilders$PlatformThreadBuilder" "0name" "Ljava/lang/String;"
    ∷ aload_0
    ∷ areturn ∷ [])
    ∷ method public "name" "(Ljava/lang/String;)Ljava/lang/Thread$Builder;" 2 2 None
    (aload_0
    ∷ aload_1
    ∷ invokevirtual "java/lang/ThreadBuilders$PlatformThreadBuilder" "name" "(Ljava/lang/String;)Ljava/lang/Thread$Builder$OfPlatform;"
    ∷ areturn ∷ [])
    ∷ method public "daemon" "(Z)Ljava/lang/Thread$Builder$OfPlatform;" 2 2 None
    (aload_0
    ∷ iconst_1
    ∷ putfield "java/lang/ThreadBuilders$PlatformThreadBuilder" "0setsDaemon" "Z"
    ∷ aload_0
    ∷ iload_1
    ∷ putfield "java/lang/ThreadBuilders$PlatformThreadBuilder" "0daemon" "Z"
    ∷ aload_0
    ∷ areturn ∷ [])
    ∷ method public "unstarted" "(Ljava/lang/Runnable;)Ljava/lang/Thread;" 4 3 None
    (aload_1
    ∷ invokestatic "java/util/Objects" "requireNonNull" "(Ljava/lang/Object;)Ljava/lang/Object;"
    ∷ pop
    ∷ new_object "java/lang/Thread"
    ∷ dup
    ∷ aload_1
    ∷ aload_0
    ∷ invokespecial "java/lang/Thread" "<init>" "(Ljava/lang/Runnable;Ljava/lang/ThreadBuilders$PlatformThreadBuilder;)V"
    ∷ astore_2
    ∷ aload_0
    ∷ aload_2
    ∷ invokevirtual "java/lang/ThreadBuilders$PlatformThreadBuilder" "0setDaemon" "(Ljava/lang/Thread;)V"
    ∷ aload_2
    ∷ areturn ∷ [])
    ∷ method private "0setDaemon" "(Ljava/lang/Thread;)V" 2 2 (Some 15)
    (aload_0
    ∷ getfield "java/lang/ThreadBuilders$PlatformThreadBuilder" "0setsDaemon" "Z"
    ∷ ifeq 15
    ∷ aload_1
    ∷ aload_0
    ∷ getfield "java/lang/ThreadBuilders$PlatformThreadBuilder" "0daemon" "Z"
    ∷ invokevirtual "java/lang/Thread" "setDaemon" "(Z)V"
    ∷ return_void ∷ [])
    ∷ method public "start" "(Ljava/lang/Runnable;)Ljava/lang/Thread;" 2 2 None
    (aload_0
    ∷ aload_1
    ∷ invokevirtual "java/lang/ThreadBuilders$PlatformThreadBuilder" "unstarted" "(Ljava/lang/Runnable;)Ljava/lang/Thread;"
    ∷ dup
    ∷ invokevirtual "java/lang/Thread" "start" "()V"
    ∷ areturn ∷ [])
    ∷ [])

unfoldable pub classes : List Class
classes =
    builder
    ∷ of_virtual
    ∷ of_platform
    ∷ virtual_thread_builder
    ∷ platform_thread_builder
    ∷ []

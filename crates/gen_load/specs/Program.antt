-- The program of n threads that take turns: the lines of its two classes. The class Load makes the threads, and a Turn
-- is what one of them runs. In Java they are
--
--     public class Load {
--         static Thread[] threads;
--         static volatile int turn;
--         static int total;
--
--         public static void main(String[] args) throws InterruptedException {
--             Thread[] threads = new Thread[n];
--             Load.threads = threads;
--             for (int i = 0; i < threads.length; i++) {
--                 Thread thread = Thread.ofVirtual().unstarted(new Turn(i));
--                 threads[i] = thread;
--                 thread.start();
--             }
--             for (int i = 0; i < threads.length; i++) threads[i].join();
--             System.out.println(total);
--         }
--
--         static synchronized void add(int number) { total += number; }
--     }
--
--     final class Turn implements Runnable {
--         private final int index;
--
--         Turn(int index) { this.index = index; }
--
--         public void run() {
--             Thread.yield();
--             int index = this.index;
--             while (Load.turn != index) LockSupport.park();
--             Load.add(index % 7);
--             int next = index + 1;
--             Load.turn = next;
--             Thread[] threads = Load.threads;
--             if (next < threads.length) LockSupport.unpark(threads[next]);
--         }
--     }
use Rattle.std.specs.Prelude.{ℕ, List, [], ◌∷◌, ◌++◌, map}
use Rattle.class_model.specs.declared.class_file.ClassFile.{ClassFile}
use Rattle.asm_text.specs.declared.line.Line.{Line}
use Rattle.asm_text.specs.declared.line.Flag.TheVariants.{Public, Private, Static, Final, Super, Synchronized, Volatile}
use Rattle.asm_text.specs.declared.line.FrameType.{FrameType}
use Rattle.gen_load.specs.Made.{class_file}
use Rattle.gen_load.specs.Words.{class, super, implements, field, method, stack, end, label, frame, int, ref, plain, ldc_int, bipush, iinc, branch, of_class, of_member}

-- ---- the class Load

-- the lines in front of the one that has the number of threads
abbrev pub load_front : List Line
load_front =
    class (Public ∷ Super ∷ []) "Load"
    ∷ super "java/lang/Object"
    ∷ field (Static ∷ []) "threads" "[Ljava/lang/Thread;"
    ∷ field (Static ∷ Volatile ∷ []) "turn" "I"
    ∷ field (Static ∷ []) "total" "I"
    ∷ method (Public ∷ Static ∷ []) "main" "([Ljava/lang/String;)V"
    ∷ stack 4 4
    ∷ []

-- the arguments, the threads and the index in main's loops
abbrev pub main_locals : List FrameType
main_locals = ref "[Ljava/lang/String;" ∷ ref "[Ljava/lang/Thread;" ∷ int ∷ []

-- the lines behind it
abbrev pub load_back : List Line
load_back =
    of_class "anewarray" "java/lang/Thread"
    ∷ plain "astore_1"
    ∷ plain "aload_1"
    ∷ of_member "putstatic" "Load" "threads" "[Ljava/lang/Thread;"
    ∷ plain "iconst_0"
    ∷ plain "istore_2"
    ∷ label "make"
    ∷ frame main_locals
    ∷ plain "iload_2"
    ∷ plain "aload_1"
    ∷ plain "arraylength"
    ∷ branch "if_icmpge" "made"
    ∷ of_member "invokestatic" "java/lang/Thread" "ofVirtual" "()Ljava/lang/Thread$Builder$OfVirtual;"
    ∷ of_class "new" "Turn"
    ∷ plain "dup"
    ∷ plain "iload_2"
    ∷ of_member "invokespecial" "Turn" "<init>" "(I)V"
    ∷ of_member "invokeinterface" "java/lang/Thread$Builder$OfVirtual" "unstarted" "(Ljava/lang/Runnable;)Ljava/lang/Thread;"
    ∷ plain "astore_3"
    ∷ plain "aload_1"
    ∷ plain "iload_2"
    ∷ plain "aload_3"
    ∷ plain "aastore"
    ∷ plain "aload_3"
    ∷ of_member "invokevirtual" "java/lang/Thread" "start" "()V"
    ∷ iinc 2 1
    ∷ branch "goto" "make"
    ∷ label "made"
    ∷ frame main_locals
    ∷ plain "iconst_0"
    ∷ plain "istore_2"
    ∷ label "join"
    ∷ frame main_locals
    ∷ plain "iload_2"
    ∷ plain "aload_1"
    ∷ plain "arraylength"
    ∷ branch "if_icmpge" "joined"
    ∷ plain "aload_1"
    ∷ plain "iload_2"
    ∷ plain "aaload"
    ∷ of_member "invokevirtual" "java/lang/Thread" "join" "()V"
    ∷ iinc 2 1
    ∷ branch "goto" "join"
    ∷ label "joined"
    ∷ frame main_locals
    ∷ of_member "getstatic" "java/lang/System" "out" "Ljava/io/PrintStream;"
    ∷ of_member "getstatic" "Load" "total" "I"
    ∷ of_member "invokevirtual" "java/io/PrintStream" "println" "(I)V"
    ∷ plain "return"
    ∷ end
    ∷ method (Static ∷ Synchronized ∷ []) "add" "(I)V"
    ∷ stack 2 1
    ∷ of_member "getstatic" "Load" "total" "I"
    ∷ plain "iload_0"
    ∷ plain "iadd"
    ∷ of_member "putstatic" "Load" "total" "I"
    ∷ plain "return"
    ∷ end
    ∷ []

unfoldable pub load : ℕ → List Line
load n = load_front ++ ldc_int n ∷ load_back

-- ---- the class Turn

unfoldable pub turn : List Line
turn =
    class (Final ∷ Super ∷ []) "Turn"
    ∷ super "java/lang/Object"
    ∷ implements "java/lang/Runnable"
    ∷ field (Private ∷ Final ∷ []) "index" "I"
    ∷ method [] "<init>" "(I)V"
    ∷ stack 2 2
    ∷ plain "aload_0"
    ∷ of_member "invokespecial" "java/lang/Object" "<init>" "()V"
    ∷ plain "aload_0"
    ∷ plain "iload_1"
    ∷ of_member "putfield" "Turn" "index" "I"
    ∷ plain "return"
    ∷ end
    ∷ method (Public ∷ []) "run" "()V"
    ∷ stack 2 4
    ∷ of_member "invokestatic" "java/lang/Thread" "yield" "()V"
    ∷ plain "aload_0"
    ∷ of_member "getfield" "Turn" "index" "I"
    ∷ plain "istore_1"
    ∷ label "wait"
    ∷ frame (ref "Turn" ∷ int ∷ [])
    ∷ of_member "getstatic" "Load" "turn" "I"
    ∷ plain "iload_1"
    ∷ branch "if_icmpeq" "add"
    ∷ of_member "invokestatic" "java/util/concurrent/locks/LockSupport" "park" "()V"
    ∷ branch "goto" "wait"
    ∷ label "add"
    ∷ frame (ref "Turn" ∷ int ∷ [])
    ∷ plain "iload_1"
    ∷ bipush 7
    ∷ plain "irem"
    ∷ of_member "invokestatic" "Load" "add" "(I)V"
    ∷ plain "iload_1"
    ∷ plain "iconst_1"
    ∷ plain "iadd"
    ∷ plain "istore_2"
    ∷ plain "iload_2"
    ∷ of_member "putstatic" "Load" "turn" "I"
    ∷ of_member "getstatic" "Load" "threads" "[Ljava/lang/Thread;"
    ∷ plain "astore_3"
    ∷ plain "iload_2"
    ∷ plain "aload_3"
    ∷ plain "arraylength"
    ∷ branch "if_icmpge" "done"
    ∷ plain "aload_3"
    ∷ plain "iload_2"
    ∷ plain "aaload"
    ∷ of_member "invokestatic" "java/util/concurrent/locks/LockSupport" "unpark" "(Ljava/lang/Thread;)V"
    ∷ label "done"
    ∷ frame (ref "Turn" ∷ int ∷ int ∷ ref "[Ljava/lang/Thread;" ∷ [])
    ∷ plain "return"
    ∷ end
    ∷ []

-- ---- the program

-- its classes, of which the first has main
unfoldable pub program : ℕ → List ClassFile
program n = map class_file (load n ∷ turn ∷ [])

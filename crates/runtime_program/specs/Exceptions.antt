-- The classes of the exceptions that the machine itself throws.
use Rattle.std.specs.Prelude.{ℕ, Option}
use Rattle.link_model.specs.World.{World, name_number}
use Rattle.ref_model.specs.declared.exception.Exception.{Exception}
use Rattle.ref_model.specs.declared.exception.Exception.TheVariants as exceptions
use Rattle.ref_model.specs.Throwing.{exception_name}
use Rattle.runtime_program.specs.declared.exception_classes.ExceptionClasses.{ExceptionClasses}

-- the number of the class of an exception
abbrev pub class_of_exception : World → Exception → Option ℕ
class_of_exception w e = name_number w (exception_name e)

abbrev pub exceptions_of : World → ExceptionClasses
exceptions_of w = record {
  abstract_method = class_of_exception w exceptions.AbstractMethodError;
  arithmetic = class_of_exception w exceptions.ArithmeticException;
  array_index = class_of_exception w exceptions.ArrayIndexOutOfBoundsException;
  array_store = class_of_exception w exceptions.ArrayStoreException;
  class_cast = class_of_exception w exceptions.ClassCastException;
  illegal_argument = class_of_exception w exceptions.IllegalArgumentException;
  illegal_monitor_state = class_of_exception w exceptions.IllegalMonitorStateException;
  illegal_thread_state = class_of_exception w exceptions.IllegalThreadStateException;
  class_change = class_of_exception w exceptions.IncompatibleClassChangeError;
  interrupted = class_of_exception w exceptions.InterruptedException;
  negative_size = class_of_exception w exceptions.NegativeArraySizeException;
  null_pointer = class_of_exception w exceptions.NullPointerException;
  out_of_memory = class_of_exception w exceptions.OutOfMemoryError;
  stack_overflow = class_of_exception w exceptions.StackOverflowError;
  string_index = class_of_exception w exceptions.StringIndexOutOfBoundsException;
  verify = class_of_exception w exceptions.VerifyError;
}

abbrev pub exception_in : ExceptionClasses → Exception → Option ℕ
exception_in c exceptions.AbstractMethodError = c.abstract_method
exception_in c exceptions.ArithmeticException = c.arithmetic
exception_in c exceptions.ArrayIndexOutOfBoundsException = c.array_index
exception_in c exceptions.ArrayStoreException = c.array_store
exception_in c exceptions.ClassCastException = c.class_cast
exception_in c exceptions.IllegalArgumentException = c.illegal_argument
exception_in c exceptions.IllegalMonitorStateException = c.illegal_monitor_state
exception_in c exceptions.IllegalThreadStateException = c.illegal_thread_state
exception_in c exceptions.IncompatibleClassChangeError = c.class_change
exception_in c exceptions.InterruptedException = c.interrupted
exception_in c exceptions.NegativeArraySizeException = c.negative_size
exception_in c exceptions.NullPointerException = c.null_pointer
exception_in c exceptions.OutOfMemoryError = c.out_of_memory
exception_in c exceptions.StackOverflowError = c.stack_overflow
exception_in c exceptions.StringIndexOutOfBoundsException = c.string_index
exception_in c exceptions.VerifyError = c.verify

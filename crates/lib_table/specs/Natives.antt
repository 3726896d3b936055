-- The native methods of the built-in classes by name.
use Rattle.std.specs.Prelude.{ℕ, List, Option, Some, None, ◌&&◌, if◌then◌else◌}
use Rattle.items.specs.First.{first_in}
use Rattle.class_grammar.specs.Text.{same_text}
use Rattle.lib_table.specs.declared.native.Native.{Native}
use Rattle.lib_table.specs.Declarations.{Class, Method, Body, abstract_body, native_body, code_body}
use Rattle.lib_table.specs.Table.{groups}

abbrev pub native_in : Body → Option Native
native_in abstract_body = None
native_in (native_body native) = Some native
native_in (code_body code) = None

-- the native of a method, where it has this name and this descriptor
unfoldable pub native_of_method : List ℕ → List ℕ → Method → Option Native
native_of_method name descriptor m =
    if same_text name m.name && same_text descriptor m.descriptor then native_in m.body else None

-- the native of this name and this descriptor in a class, where the class has this name
unfoldable pub native_of_class : List ℕ → List ℕ → List ℕ → Class → Option Native
native_of_class class name descriptor c =
    if same_text class c.name then first_in (native_of_method name descriptor) c.methods else None

unfoldable pub native_of : List ℕ → List ℕ → List ℕ → Option Native
native_of class name descriptor = first_in (first_in (native_of_class class name descriptor)) groups

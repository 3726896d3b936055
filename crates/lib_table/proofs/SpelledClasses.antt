-- Each built-in class passes the test of what is spelled, by computation.
use Rattle.std.proofs.Common.{◌≡◌, true, ◌&&◌, List, [], ◌∷◌, map, All, refl, ap, ◌∙◌}
use Rattle.std.specs.List.{flat_map, list_all}
use Rattle.std.proofs.lemmas.List.Folds.{list_all-append}
use Rattle.lib_table.specs.Pool.{placed, class, string, name_and_type, field, method, interface_method}
use Rattle.lib_table.specs.Build as build
use Rattle.lib_table.specs.Objects as objects
use Rattle.lib_table.specs.Texts as texts
use Rattle.lib_table.specs.System as system
use Rattle.lib_table.specs.Threads as threads
use Rattle.lib_table.specs.ThreadBuilders as thread_builders
use Rattle.lib_table.specs.Throwables as throwables
use Rattle.lib_table.specs.Declarations.{Class}
use Rattle.lib_table.specs.Library.{library}
use Rattle.lib_table.specs.Spelled.{IsSpelled}
use Rattle.lib_table.proofs.SpellTests.{all_by_test, is_spelled, spelled}

pub objects_pass : list_all is_spelled (map build.class_file objects.classes) ≡ true
unfolding placed class string name_and_type field method interface_method build.class_file build.field build.method build.code_attribute build.code build.stack_map build.with_instruction objects.classes
objects_pass = refl

pub texts_pass : list_all is_spelled (map build.class_file texts.classes) ≡ true
unfolding placed class string name_and_type field method interface_method build.class_file build.field build.method build.code_attribute build.code build.stack_map build.with_instruction texts.classes
texts_pass = refl

pub system_pass : list_all is_spelled (map build.class_file system.classes) ≡ true
unfolding placed class string name_and_type field method interface_method build.class_file build.field build.method build.code_attribute build.code build.stack_map build.with_instruction system.classes
system_pass = refl

pub threads_pass : list_all is_spelled (map build.class_file threads.classes) ≡ true
unfolding placed class string name_and_type field method interface_method build.class_file build.field build.method build.code_attribute build.code build.stack_map build.with_instruction threads.classes
threads_pass = refl

pub thread_builders_pass : list_all is_spelled (map build.class_file thread_builders.classes) ≡ true
unfolding placed class string name_and_type field method interface_method build.class_file build.field build.method build.code_attribute build.code build.stack_map build.with_instruction thread_builders.classes
thread_builders_pass = refl

pub throwables_pass : list_all is_spelled (map build.class_file throwables.classes) ≡ true
unfolding placed class string name_and_type field method interface_method build.class_file build.field build.method build.code_attribute build.code build.stack_map build.with_instruction throwables.classes
throwables_pass = refl

-- ---- all of them

one_more : (g : List Class) (others : List (List Class)) → list_all is_spelled (map build.class_file g) ≡ true → list_all is_spelled (flat_map (map build.class_file) others) ≡ true → list_all is_spelled (flat_map (map build.class_file) (g ∷ others)) ≡ true
one_more g others e f =
    list_all-append is_spelled (map build.class_file g) (flat_map (map build.class_file) others)
    ∙ ap (λ b. b && list_all is_spelled (flat_map (map build.class_file) others)) e
    ∙ f

library_passes : list_all is_spelled library ≡ true
library_passes =
    let last : List (List Class) = throwables.classes ∷ [] in
    one_more objects.classes (texts.classes ∷ system.classes ∷ threads.classes ∷ thread_builders.classes ∷ last) objects_pass
    (one_more texts.classes (system.classes ∷ threads.classes ∷ thread_builders.classes ∷ last) texts_pass
    (one_more system.classes (threads.classes ∷ thread_builders.classes ∷ last) system_pass
    (one_more threads.classes (thread_builders.classes ∷ last) threads_pass
    (one_more thread_builders.classes last thread_builders_pass
    (one_more throwables.classes [] throwables_pass refl)))))

pub library_spelled : All IsSpelled library
library_spelled = all_by_test is_spelled spelled library library_passes

-- Class initializers (JVMS 2.9.2), and methods that hold a monitor while they run (JVMS 2.11.10).
use Rattle.std.specs.Prelude.{Bool, true, false, not, List, [], ◌∷◌, is_none, codes, ◌&&◌}
use Rattle.class_model.specs.declared.access_flags.TheConstants.{ACC_STATIC, ACC_SYNCHRONIZED}
use Rattle.class_grammar.specs.Text.{same_text}
use Rattle.descriptors.specs.declared.kind.Kind.{Kind}
use Rattle.descriptors.specs.declared.kind.Signature.{Signature}
use Rattle.link_rules.specs.Program.{has_flag}
use Rattle.link_model.specs.declared.members.MethodInfo.{MethodInfo}

abbrev pub takes_nothing : List Kind → Bool
takes_nothing [] = true
takes_nothing (kind ∷ kinds) = false

-- whether the descriptor is `()V`
abbrev pub is_of_initializer : Signature → Bool
is_of_initializer signature = takes_nothing signature.args && is_none signature.result

abbrev pub is_static_method : MethodInfo → Bool
is_static_method m = has_flag ACC_STATIC m.flags

-- Whether it is the initializer of its class: a static method `<clinit>` with the descriptor `()V`. The machine alone makes its frames.
abbrev pub is_initializer : MethodInfo → Bool
is_initializer m = is_static_method m && same_text m.name (codes "<clinit>") && is_of_initializer m.signature

-- Whether it holds a monitor while it runs. Of the flags of a class initializer only that of static means something (JVMS 4.6).
abbrev pub is_synchronized : MethodInfo → Bool
is_synchronized m = has_flag ACC_SYNCHRONIZED m.flags && not (is_initializer m)

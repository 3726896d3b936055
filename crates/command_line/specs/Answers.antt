-- The exit status of each answer, as sysexits has it from 64 on, and its line on the error output.
use Rattle.std.specs.Prelude.{ℕ, List, [], ◌∷◌, ◌++◌, codes, map, unwrap_or, slice_get}
use Rattle.std.specs.Fmt.{decimal}
use Rattle.std.specs.List.{flat_map}
use Rattle.std.specs.Str.{encode_utf8_all}
use Rattle.std.specs.Char.Utf16.{utf16_chars}
use Rattle.jvm_words.specs.Words.{low_bits}
use Rattle.class_grammar.specs.declared.class_why.ClassWhy.{ClassWhy}
use Rattle.class_grammar.specs.declared.class_why.ClassWhy.TheVariants as class_whys
use Rattle.link_rules.specs.declared.why.LinkWhy.{LinkWhy}
use Rattle.link_rules.specs.declared.why.LinkWhy.TheVariants as link_whys
use Rattle.verify_types.specs.declared.why.VerifyWhy.{VerifyWhy}
use Rattle.verify_types.specs.declared.why.VerifyWhy.TheVariants as verify_whys
use Rattle.command_line.specs.declared.answer.Which.{Which}
use Rattle.command_line.specs.declared.answer.Which.TheVariants.{Files, FileSize, Threads, Events}
use Rattle.command_line.specs.declared.answer.Why.{Why}
use Rattle.command_line.specs.declared.answer.Why.TheVariants.{Ended, MainThrew, Exited, Stalled, Starved, Usage, Limit, Missing, SourceFault, BadClass, BadText, Unlisted, NoMain, LinkFault, VerifyFault, SinkFault, NoMemory}
use Rattle.command_line.specs.Commands.{Names}

-- This table and those of names and lines list every case, so that a new answer is refused until it has a row.
abbrev pub status_of : Why → ℕ
status_of Ended = 0
status_of MainThrew = 1
status_of (Exited n) = low_bits 8 n
status_of Usage = 64
status_of (BadClass file at why) = 65
status_of (Missing file) = 66
status_of (SourceFault file) = 67
status_of (LinkFault class why) = 68
status_of (VerifyFault class method pc why) = 69
status_of NoMain = 70
status_of (Limit which number) = 71
status_of (Stalled threads) = 72
status_of (Starved threads) = 73
status_of (SinkFault which written) = 74
status_of NoMemory = 75
status_of (BadText line) = 76
status_of (Unlisted file) = 79

-- the name of what is wrong with a class file
abbrev pub class_why_name : ClassWhy → List ℕ
class_why_name class_whys.Short = codes "Short"
class_why_name class_whys.Magic = codes "Magic"
class_why_name class_whys.Version = codes "Version"
class_why_name class_whys.Count = codes "Count"
class_why_name class_whys.Tag = codes "Tag"
class_why_name class_whys.Utf8 = codes "Utf8"
class_why_name class_whys.Index = codes "Index"
class_why_name class_whys.Length = codes "Length"
class_why_name class_whys.Duplicate = codes "Duplicate"
class_why_name class_whys.Trailing = codes "Trailing"
class_why_name class_whys.Name = codes "Name"
class_why_name class_whys.Descriptor = codes "Descriptor"
class_why_name class_whys.Code = codes "Code"
class_why_name class_whys.Range = codes "Range"
class_why_name class_whys.Unsupported = codes "Unsupported"

-- the name of what is wrong with a class of a program
abbrev pub link_why_name : LinkWhy → List ℕ
link_why_name link_whys.Duplicate = codes "Duplicate"
link_why_name link_whys.MissingClass = codes "MissingClass"
link_why_name link_whys.Cycle = codes "Cycle"
link_why_name link_whys.WrongKind = codes "WrongKind"
link_why_name link_whys.FinalParent = codes "FinalParent"
link_why_name link_whys.Native = codes "Native"
link_why_name link_whys.BadCode = codes "BadCode"
link_why_name link_whys.MissingField = codes "MissingField"
link_why_name link_whys.MissingMethod = codes "MissingMethod"
link_why_name link_whys.Unsupported = codes "Unsupported"

abbrev pub verify_why_name : VerifyWhy → List ℕ
verify_why_name verify_whys.Map = codes "Map"
verify_why_name verify_whys.Target = codes "Target"
verify_why_name verify_whys.Frame = codes "Frame"
verify_why_name verify_whys.Kind = codes "Kind"
verify_why_name verify_whys.Depth = codes "Depth"
verify_why_name verify_whys.Locals = codes "Locals"
verify_why_name verify_whys.Handler = codes "Handler"
verify_why_name verify_whys.Return = codes "Return"
verify_why_name verify_whys.Init = codes "Init"
verify_why_name verify_whys.End = codes "End"

abbrev pub which_name : Which → List ℕ
which_name Files = codes "Files"
which_name FileSize = codes "FileSize"
which_name Threads = codes "Threads"
which_name Events = codes "Events"

-- units of UTF-16 as UTF-8, with `?` for a surrogate without its partner
abbrev pub utf8_of : List ℕ → List ℕ
utf8_of units = encode_utf8_all (map (λ c. unwrap_or c 63) (utf16_chars units))

-- the argument that names the file of index n
abbrev pub file_name : Names → ℕ → List ℕ
file_name c n = unwrap_or (slice_get c.files n) []

-- a text, a name and a line's end
abbrev pub line_with : List ℕ → List ℕ → List ℕ
line_with text name = text ++ name ++ 10 ∷ []

abbrev pub limit_line : Which → ℕ → List ℕ
limit_line which number = codes "jvt: limit " ++ which_name which ++ codes " " ++ decimal number ++ 10 ∷ []

-- a space and a number
abbrev pub after_space : ℕ → List ℕ
after_space n = codes " " ++ decimal n

-- a text, the number of each thread after a space, and a line's end
abbrev pub threads_line : List ℕ → List ℕ → List ℕ
threads_line text threads = text ++ flat_map after_space threads ++ 10 ∷ []

abbrev pub bad_class_line : List ℕ → ℕ → ClassWhy → List ℕ
bad_class_line file at why = codes "jvt: bad class " ++ file ++ codes " at " ++ decimal at ++ codes ": " ++ class_why_name why ++ 10 ∷ []

abbrev pub bad_text_line : ℕ → List ℕ
bad_text_line line = codes "jvt: bad text at line " ++ decimal line ++ 10 ∷ []

abbrev pub link_line : List ℕ → LinkWhy → List ℕ
link_line class why = codes "jvt: link " ++ utf8_of class ++ codes ": " ++ link_why_name why ++ 10 ∷ []

abbrev pub verify_line : List ℕ → List ℕ → ℕ → VerifyWhy → List ℕ
verify_line class method pc why =
    codes "jvt: verify " ++ utf8_of class ++ codes "." ++ utf8_of method ++ codes " at " ++ decimal pc ++ codes ": " ++ verify_why_name why ++ 10 ∷ []

abbrev pub usage_line : List ℕ
usage_line = codes "jvt: usage\n"

abbrev pub memory_line : List ℕ
memory_line = codes "jvt: no memory\n"

abbrev pub fault_line : List ℕ
fault_line = codes "jvt: cannot write\n"

-- the line of an answer to a command with these names
abbrev pub line_of : Names → Why → List ℕ
line_of c Ended = []
line_of c MainThrew = []
line_of c (Exited n) = []
line_of c Usage = usage_line
line_of c (Limit which number) = limit_line which number
line_of c (Stalled threads) = threads_line (codes "jvt: stalled: threads") threads
line_of c (Starved threads) = threads_line (codes "jvt: starved: pinned threads") threads
line_of c (Missing file) = line_with (codes "jvt: missing ") (file_name c file)
line_of c (SourceFault file) = line_with (codes "jvt: cannot read ") (file_name c file)
line_of c (BadClass file at why) = bad_class_line (file_name c file) at why
line_of c (BadText line) = bad_text_line line
line_of c (Unlisted file) = line_with (codes "jvt: cannot list ") (file_name c file)
line_of c NoMain = line_with (codes "jvt: no main in ") c.main
line_of c (LinkFault class why) = link_line class why
line_of c (VerifyFault class method pc why) = verify_line class method pc why
line_of c (SinkFault which written) = fault_line
line_of c NoMemory = memory_line

-- the line of this answer names something, so memory is taken for it; that of no other answer may want memory
abbrev pub NamesSomething : Why → Type 0
NamesSomething (Limit which number) = Unit {0}
NamesSomething (Stalled threads) = Unit {0}
NamesSomething (Starved threads) = Unit {0}
NamesSomething (Missing file) = Unit {0}
NamesSomething (SourceFault file) = Unit {0}
NamesSomething (BadClass file at why) = Unit {0}
NamesSomething (BadText line) = Unit {0}
NamesSomething (Unlisted file) = Unit {0}
NamesSomething NoMain = Unit {0}
NamesSomething (LinkFault class why) = Unit {0}
NamesSomething (VerifyFault class method pc why) = Unit {0}
NamesSomething why = ⊥

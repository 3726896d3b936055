-- A whole class file, read from front to back (JVMS 4.1): first its layout, and then the items of what was read.
use Rattle.std.specs.Prelude.{ℕ, Bool, false, List, length, Option, Some, None, Result, Ok, Err, nat_lt, ◌==◌, ◌&&◌, ◌||◌, if◌then◌else◌}
use Rattle.std.specs.Int.{is_in_range}
use Rattle.byte_reader.specs.declared.fault.Fault.{Fault}
use Rattle.byte_reader.specs.Reader.{◌>>=◌, fault_at, offset_of, both, map_value, verify, many}
use Rattle.class_model.specs.declared.constant.Const.{Const}
use Rattle.class_model.specs.declared.attribute.Attribute.{Attribute}
use Rattle.class_model.specs.declared.member.Member.{Member}
use Rattle.class_model.specs.declared.class_file.ClassFile.{ClassFile}
use Rattle.class_grammar.specs.declared.class_why.ClassWhy.{ClassWhy}
use Rattle.class_grammar.specs.declared.class_why.ClassWhy.TheVariants as whys
use Rattle.class_grammar.specs.declared.holder.Holder.{Holder}
use Rattle.class_grammar.specs.declared.holder.Holder.TheVariants as holders
use Rattle.class_grammar.specs.Checks.{first_fault}
use Rattle.class_file.specs.declared.layout.TheConstants.{MAGIC}
use Rattle.class_file.specs.declared.layout.Version.{Version}
use Rattle.class_file.specs.declared.layout.Class.{Class}
use Rattle.class_file.specs.Numbers.{ClassReader, u2_at, u4_at, pair_at, table_at}
use Rattle.class_file.specs.Constants.{pool_at}
use Rattle.class_file.specs.Attributes.{attributes_at}

-- ---- the layout

-- Java 7 to 25, and from version 56 on no preview features (JVMS 4.1; own)
abbrev pub is_supported : Version → Bool
is_supported v = is_in_range 51 69 v.major && (nat_lt v.major 56 || v.minor == 0)

abbrev pub numbers_of_version : ClassReader Version
numbers_of_version bytes = map_value (λ (p : ℕ × ℕ). record { minor = p.0; major = p.1 }) pair_at bytes

-- the version after the magic number
unfoldable pub version_at : ClassReader Version
version_at bytes = do
  magic ← verify (λ n. n == MAGIC) whys.Magic u4_at bytes
  verify is_supported whys.Version numbers_of_version magic.1

-- the flags of the class, its this_class, its super_class and its interfaces
unfoldable pub class_at : ClassReader Class
class_at bytes =
    map_value (λ (p : (ℕ × (ℕ × ℕ)) × List ℕ). record { flags = p.0.0; own = p.0.1.0; parent = p.0.1.1; interfaces = p.1 })
    (both (both u2_at pair_at) (table_at (many u2_at))) bytes

-- a field or a method (JVMS 4.5, 4.6)
unfoldable pub member_at : List Const → Holder → ClassReader Member
member_at pool holder bytes =
    map_value (λ (p : (ℕ × (ℕ × ℕ)) × List Attribute). record { flags = p.0.0; name = p.0.1.0; descriptor = p.0.1.1; attributes = p.1 })
    (both (both u2_at pair_at) (table_at (attributes_at pool holder false))) bytes

unfoldable pub members_at : List Const → Holder → ClassReader (List Member)
members_at pool holder bytes = table_at (many (member_at pool holder)) bytes

-- the class file of this version and with this pool, read from what follows the pool
unfoldable pub tail_at : Version → List Const → ClassReader ClassFile
tail_at version pool bytes =
    map_value (λ (p : Class × (List Member × (List Member × List Attribute))). record {
      minor = version.minor;
      major = version.major;
      pool = pool;
      flags = p.0.flags;
      own = p.0.own;
      parent = p.0.parent;
      interfaces = p.0.interfaces;
      fields = p.1.0;
      methods = p.1.1.0;
      attributes = p.1.1.1;
    })
    (both class_at (both (members_at pool holders.Field) (both (members_at pool holders.Method) (table_at (attributes_at pool holders.Class false))))) bytes

-- a class file of which no item is checked yet, and no byte more
unfoldable pub layout_of : List ℕ → Result ClassFile (Fault ClassWhy)
layout_of bytes = do
  version ← version_at bytes
  pool ← pool_at version.1
  file ← tail_at version.0 pool.0 pool.1
  if length file.1 == 0 then Ok file.0 else Err (fault_at file.1 whys.Trailing)

-- ---- the value of some bytes, or the first check that fails

-- the class file, unless something is wrong with it
abbrev pub unless_fault : ClassFile → Option (Fault ClassWhy) → Result ClassFile (Fault ClassWhy)
unless_fault f None = Ok f
unless_fault f (Some fault) = Err fault

unfoldable pub file_of : List ℕ → Result ClassFile (Fault ClassWhy)
file_of bytes = do
  f ← layout_of bytes
  unless_fault f (first_fault (length bytes) f)

-- the offset of a fault in a file of this size, and its reason
abbrev pub refusal_of : ℕ → Result ClassFile (Fault ClassWhy) → Option (ℕ × ClassWhy)
refusal_of size (Ok f) = None
refusal_of size (Err fault) = Some (offset_of size fault, fault.why)

-- the offset and the reason of the first check that fails
abbrev pub first_bad : List ℕ → Option (ℕ × ClassWhy)
first_bad bytes = refusal_of (length bytes) (file_of bytes)

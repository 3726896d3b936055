-- Lists of types as paths in a tree.
use Rattle.std.specs.Prelude.{◌≡◌, ℕ, ◌+◌, ◌<◌, List, [], ◌∷◌, ◌++◌, length, Option, Some, get_or, slice_get}
use Rattle.std.specs.Option.{option_map}
use Rattle.instruction_rows.specs.Contents.{slot_types}
use Rattle.items.specs.Options.{◌>>=◌}
use Rattle.stack_maps.specs.declared.types.VType.{VType}
use Rattle.type_paths.specs.declared.paths.Node.{Node}
use Rattle.type_paths.specs.declared.paths.Paths.TheInside.{Inside}

-- the types from the last to the first, None for one that isn't known
abbrev pub Path : Type 0
Path = List (Option VType)

-- the path of the node of a number, empty where there is none
abbrev pub path : List Path → ℕ → Path
path paths n = get_or paths n []

-- after these the paths of nodes, each of which lies on one before it
abbrev pub paths_from : List Path → List Node → List Path
paths_from paths [] = paths
paths_from paths (n ∷ ns) = paths_from (paths ++ (n.item ∷ path paths n.below) ∷ []) ns

-- that of the first node
abbrev pub root : List Path
root = [] ∷ []

abbrev pub paths_in : Inside → List Path
paths_in a = paths_from root a.nodes.items

-- each of the nodes lies on one before it, the first of these being of that number
abbrev pub AreAbove : ℕ → List Node → Type 0
AreAbove n [] = Unit {0}
AreAbove n (node ∷ nodes) = (node.below < n) × AreAbove (n + 1) nodes

-- the types from the first on, undefined where one of them isn't known
abbrev pub types_on : Path → Option (List VType)
types_on [] = Some []
types_on (t ∷ p) = types_on p >>= λ ts. t >>= λ u. Some (ts ++ u ∷ [])

-- the slots that the types of a path take, undefined where one of them isn't known
abbrev pub count_on : Path → Option ℕ
count_on p = option_map (λ ts. length (slot_types ts)) (types_on p)

-- each node has the slots of its path
pub record AreCounted (ns : List Node) : Type 0 where
  pub each : (k : ℕ) (n : Node) → slice_get ns k ≡ Some n → n.slots ≡ count_on (path (paths_from root ns) (1 + k))

pub record IsTree (ns : List Node) : Type 0 where
  pub above : AreAbove 1 ns
  pub counted : AreCounted ns

-- the path of a node lies on that of another
pub record IsAbove (paths : List Path) (n below : ℕ) : Type 0 where
  pub more : Path
  pub is : path paths n ≡ more ++ path paths below

-- this is a node, and its path
pub record IsPath (paths : List Path) (n : ℕ) (p : Path) : Type 0 where
  pub is_node : n < length paths
  pub is : path paths n ≡ p

-- the path of a node is this type and the path below it
pub record IsTop (paths : List Path) (n : ℕ) (top : Node) : Type 0 where
  pub is_node : top.below < length paths
  pub is : path paths n ≡ top.item ∷ path paths top.below
  pub counted : top.slots ≡ count_on (path paths n)

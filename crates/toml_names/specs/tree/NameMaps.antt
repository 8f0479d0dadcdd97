-- The names in a table and their nodes.
use Rattle.std.specs.Prelude.{◌≡◌, ℕ, Bool, nat_eq, List, [], ◌∷◌, map, Option, Some, None}
use Rattle.std.specs.Global.{Box}
use Rattle.std.specs.declared.alloc.Global.{Global}
use Rattle.std.specs.declared.borrow.CowStr.{CowStr}
use Rattle.std.specs.Cmp.Lexicographic.{pointwise}
use Rattle.std.specs.Cow.{cow_str_bytes}
use Rattle.std.specs.Map.{lookup}
use Rattle.std.specs.Str.{bytes_eq}
use Rattle.indexmap.specs.IndexMap.{IndexMap}
use Rattle.toml_names.specs.declared.tree.hashing.NameHashing.{NameHashing}

-- whether two names are one
abbrev pub same_name : CowStr Global → CowStr Global → Bool
same_name x y = pointwise nat_eq (cow_str_bytes x) (cow_str_bytes y)

-- the pairs, by the names' bytes
abbrev pub children_of : List (CowStr Global × ℕ) → List (List ℕ × ℕ)
children_of entries = map (λ e. (cow_str_bytes e.0, e.1)) entries

-- the pairs of a map that may not be there
abbrev pub children_behind : Option (Box (IndexMap (CowStr Global) ℕ NameHashing)) → List (List ℕ × ℕ)
children_behind None = []
children_behind (Some b) = children_of b.value.entries

-- no name stands twice
abbrev pub AreDistinct : List (List ℕ × ℕ) → Type 0
AreDistinct [] = Unit {0}
AreDistinct (e ∷ es) = (lookup (bytes_eq e.0) es ≡ None) × AreDistinct es

-- The names of a key.
use Rattle.std.specs.Prelude.{ℕ, List, [], ◌∷◌, map, Option, Some, None}
use Rattle.toml_scalar.specs.Values.{name_of}
use Rattle.toml_tree.specs.Tree.{Piece}
use Rattle.toml_tree.specs.Tree as tree

-- a key is its names, each as its bytes
abbrev pub Key : Type 0
Key = List (List ℕ)

-- a name, or no bytes where there is none
abbrev pub name_or_empty : Option (List ℕ) → List ℕ
name_or_empty None = []
name_or_empty (Some name) = name

-- the name that the text of a key part spells; each part of a tree's key has one (the law `NameIsTotal` of key parts)
abbrev pub spelled_name : List ℕ → List ℕ
spelled_name text = name_or_empty (name_of text)

-- the name of a key part
abbrev pub part_name : Piece → List ℕ
part_name p = spelled_name p.text

-- the names of a key's parts behind the first
abbrev pub rest_names : List tree.Dotted → Key
rest_names ds = map (λ d. part_name d.part) ds

-- the names of a key's parts
abbrev pub key_names : tree.Key → Key
key_names k = part_name k.first ∷ rest_names k.rest

-- New keys, without whitespace.
use Rattle.std.specs.Prelude.{ℕ, List, [], ◌∷◌, map}
use Rattle.toml_scalar.specs.Spelling.{spelled}
use Rattle.toml_tree.specs.Bare.{fresh}
use Rattle.toml_tree.specs.Tree as tree
use Rattle.toml_names.specs.mentions.Keys.{Key}

abbrev pub dotted_name : List ℕ → tree.Dotted
dotted_name name = record { before_dot = fresh []; after_dot = fresh []; part = fresh (spelled name) }

-- the key of these names, each as it is spelled
abbrev pub key_named : Key → tree.Key
key_named [] = record { first = fresh []; rest = [] }
key_named (name ∷ names) = record { first = fresh (spelled name); rest = map dotted_name names }

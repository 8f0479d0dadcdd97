-- The names of a dotted key's further parts.
use Rattle.toml_names.proofs.Common.{List, map, dotted, Key, rest_names}
use Rattle.toml_tree.specs.declared.tree.Dotted.{Dotted as Part}

-- the names of the parts that are left
abbrev pub names_left : List Part → Key
names_left ds = rest_names (map dotted ds)

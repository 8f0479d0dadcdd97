-- `rename` in the key of a header, read off the header's own address: no other line is looked at.
use Rattle.std.specs.Prelude.{◌≡◌, ℕ, List, [], ◌∷◌}
use Rattle.toml_tree.specs.Tree.{Dotted, Key}
use Rattle.toml_names.specs.declared.model.address.Step.TheVariants.{Name, Index}
use Rattle.toml_names.specs.mentions.Keys.{key_names}
use Rattle.toml_names.specs.mentions.Mentions.{Named, entered}
use Rattle.toml_names.specs.model.Addresses.{Address, child, element}
use Rattle.toml_names.specs.reader.Names.{header_end}
use Rattle.toml_working.specs.Renaming.{rename_part, rename_key}

-- the parts behind one that led to `here`, where the address goes on with these steps: a part for each name, and none for an index
abbrev pub rename_rest_along : Address → List ℕ → Address → Address → List Dotted → List Dotted
rename_rest_along p to here [] ds = ds
rename_rest_along p to here (Index i ∷ steps) ds = rename_rest_along p to (element here i) steps ds
rename_rest_along p to here (Name n ∷ steps) [] = []
rename_rest_along p to here (Name n ∷ steps) (d ∷ ds) =
    let next = child here n in
    record { before_dot = d.before_dot; after_dot = d.after_dot; part = rename_part p to next d.part }
    ∷ rename_rest_along p to next steps ds

abbrev pub rename_along : Address → List ℕ → Address → Address → Key → Key
rename_along p to here [] k = k
rename_along p to here (Index i ∷ steps) k = rename_along p to (element here i) steps k
rename_along p to here (Name n ∷ steps) k =
    let next = child here n in
    record { first = rename_part p to next k.first; rest = rename_rest_along p to next steps k.rest }

-- Laws: a part of a header's key stands for the beginning of the header's own address up to and with the part's name: for the header
-- of a table, whose address is where its key ends,
abbrev pub RenameAlong : Type 0
RenameAlong = (xs : List Named) (k : Key) (p : Address) (to : List ℕ)
    → rename_key p to (entered xs) [] k ≡ rename_along p to [] (header_end xs [] (key_names k)) k

-- and an element there, for that of an array of tables.
abbrev pub RenameAlongElement : Type 0
RenameAlongElement = (xs : List Named) (k : Key) (p : Address) (to : List ℕ) (i : ℕ)
    → rename_key p to (entered xs) [] k ≡ rename_along p to [] (element (header_end xs [] (key_names k)) i) k

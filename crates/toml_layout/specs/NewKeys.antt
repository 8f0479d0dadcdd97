-- New keys.
use Rattle.std.specs.Prelude.{◌≡◌, ℕ, List, [], ◌∷◌, map}
use Rattle.toml_layout.specs.declared.tree.Key.{Key}
use Rattle.toml_layout.specs.OpenOutlines.{dotted, leaf_text}
use Rattle.toml_layout.specs.Outlines.{AssignOutline, DottedOutline}

-- the key has this first part, and these behind it
abbrev pub IsKey : List ℕ → List DottedOutline → Key → Type 0
IsKey first rest key = (leaf_text key.first ≡ first) × (map dotted key.rest.items ≡ rest)

-- a part without whitespace before it
abbrev pub bare_part : List ℕ → DottedOutline
bare_part part = record { before_dot = []; after_dot = []; part = part }

-- the key has these parts, without whitespace
abbrev pub HasParts : List (List ℕ) → Key → Type 0
HasParts [] key = IsKey [] [] key
HasParts (part ∷ parts) key = IsKey part (map bare_part parts) key

-- a key of these parts, and ` = `
abbrev pub key_of : List (List ℕ) → AssignOutline
key_of [] = record { first = []; rest = []; before_equals = 0x20 ∷ []; after_equals = 0x20 ∷ [] }
key_of (part ∷ parts) = record { first = part; rest = map bare_part parts; before_equals = 0x20 ∷ []; after_equals = 0x20 ∷ [] }

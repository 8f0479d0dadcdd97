-- What a new key spells: its names, its outline, its text.
use Rattle.std.proofs.Common.{◌≡◌, ◌∙◌, List, [], ◌∷◌, ◌++◌, ℕ, map, refl, sym, ap, ap₂, append_assoc}
use Rattle.std.specs.List.{flat_map, join_by}
use Rattle.toml_scalar.specs.Spelling.{spelled}
use Rattle.toml_scalar.proofs.Proved.{name_found, spelled_names}
use Rattle.toml_tree.specs.Spells.{Part, all_parts, dotted_parts, joined, key_parts}
use Rattle.toml_tree.specs.Tree.{Dotted}
use Rattle.toml_names.specs.mentions.Keys.{Key, key_names, name_or_empty, part_name, spelled_name}
use Rattle.toml_layout.specs.NewKeys.{bare_part}
use Rattle.toml_layout.specs.TreeOutlines.{dotted_outline}
use Rattle.toml_working.specs.FreshKeys.{dotted_name, key_named}

-- there are names
abbrev pub HasNames : Key → Type 0
HasNames names = (n : List ℕ) × (ns : Key) × (names ≡ n ∷ ns)

pub spelled_again : (name : List ℕ) → spelled_name (spelled name) ≡ name
spelled_again name = ap name_or_empty (name_found (spelled name) name (spelled_names name))

-- the names that a key spells are those of which it is made
pub names_again : (names : Key) → map (λ (d : Dotted). part_name d.part) (map dotted_name names) ≡ names
names_again [] = refl
names_again (n ∷ names) = ap₂ (λ a b. a ∷ b) (spelled_again n) (names_again names)

-- names that are spelled as a key are read again
pub key_again : (n : List ℕ) (names : Key) → key_names (key_named (n ∷ names)) ≡ n ∷ names
key_again n names = ap₂ (λ a b. a ∷ b) (spelled_again n) (names_again names)

-- the outlines of the parts behind the first
pub names_outlined : (ns : Key) → map dotted_outline (map dotted_name ns) ≡ map bare_part (map spelled ns)
names_outlined [] = refl
names_outlined (n ∷ ns) = ap (λ r. bare_part (spelled n) ∷ r) (names_outlined ns)

-- the text of names behind the first
abbrev dotted : List (List ℕ) → List ℕ
dotted = flat_map (λ n. 0x2E ∷ spelled n)

dotted_is : (names : List (List ℕ)) (ps : List Part) → joined (all_parts dotted_parts (map dotted_name names) ++ ps) ≡ dotted names ++ joined ps
dotted_is [] ps = refl
dotted_is (n ∷ names) ps = ap (λ r. 0x2E ∷ r) (ap (λ r. spelled n ++ r) (dotted_is names ps) ∙ sym (append_assoc (spelled n) (dotted names) (joined ps)))

pub key_is : (names : List (List ℕ)) (ps : List Part) → joined (key_parts (key_named names) ++ ps) ≡ join_by spelled (0x2E ∷ []) names ++ joined ps
key_is [] ps = refl
key_is (n ∷ names) ps = ap (λ r. spelled n ++ r) (dotted_is names ps) ∙ sym (append_assoc (spelled n) (dotted names) (joined ps))

-- Whether what is at an address stands by one of the lines of the working tree that are beside another address.
use Rattle.std.proofs.Common.{◌≡◌, ◌∙◌, Bool, ◌||◌, List, [], ◌∷◌, ◌++◌, map, refl, ap}
use Rattle.std.specs.List.{list_any}
use Rattle.std.proofs.lemmas.List.Folds.{list_any-append}
use Rattle.toml_names.specs.model.Addresses.{Address}
use Rattle.toml_working.specs.declared.lines.Line.{Line}
use Rattle.toml_working.specs.declared.lines.Slot.{Slot}
use Rattle.toml_working.specs.RemoveStanding.{makes_apart, makes_beside}
use Rattle.toml_working.proofs.Alone.{standing_append}
use Rattle.toml_working.specs.Standing.{Read, line_standing, slot_standing, slots_standing}

-- of lines of the working tree
pub any_made : (q p : Address) (read : Read) (ls : List Line) → list_any (λ (l : Line). makes_apart q p l.base l.address) ls
    ≡ list_any (makes_beside q p) (map (line_standing read) ls)
any_made q p read [] = refl
any_made q p read (l ∷ ls) = ap (λ b. makes_apart q p l.base l.address || b) (any_made q p read ls)

-- a line of one of the slots
abbrev pub has_maker : Address → Address → Read → Slot → Bool
has_maker q p read slot = list_any (makes_beside q p) (slot_standing read slot)

pub slots_have : (q p : Address) (read : Read) (slots : List Slot) → list_any (makes_beside q p) (slots_standing read slots) ≡ list_any (has_maker q p read) slots
slots_have q p read [] = refl
slots_have q p read (s ∷ ss) =
    list_any-append (makes_beside q p) (slot_standing read s) (slots_standing read ss) ∙ ap (λ b. has_maker q p read s || b) (slots_have q p read ss)

-- and of slots in two parts
pub parts_have : (q p : Address) (read : Read) (front back all : List Slot) → all ≡ front ++ back
    → list_any (makes_beside q p) (slots_standing read all)
    ≡ (list_any (makes_beside q p) (slots_standing read front) || list_any (makes_beside q p) (slots_standing read back))
parts_have q p read front back all is =
    ap (λ s. list_any (makes_beside q p) (slots_standing read s)) is ∙ ap (list_any (makes_beside q p)) (standing_append read front back)
    ∙ list_any-append (makes_beside q p) (slots_standing read front) (slots_standing read back)

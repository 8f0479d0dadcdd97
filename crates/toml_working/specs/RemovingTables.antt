-- `remove` of a table, of an array of tables or of an element of one, that is no line's value and in none: all lines at the address or below it
-- go. Where neither the root nor another line makes the table right above, the first of them that makes it comes to stand for it, empty.
use Rattle.std.specs.Prelude.{◌≡◌, ◌||◌, ◌++◌, Bool, true, false, List, [], ◌∷◌, is_some}
use Rattle.std.specs.List.{list_any}
use Rattle.toml_names.specs.model.Addresses.{Address}
use Rattle.toml_text.specs.Source.{text_of}
use Rattle.toml_layout.specs.Holders.{parent_of}
use Rattle.toml_working.specs.declared.lines.Sought.TheVariants as sought
use Rattle.toml_working.specs.declared.working.Tree.{Tree}
use Rattle.toml_working.specs.Headers.{begins_later, element_of}
use Rattle.toml_working.specs.Placing.{is_header}
use Rattle.toml_working.specs.RemoveStanding.{makes_beside}
use Rattle.toml_working.specs.RemovingIn.{left_of_all}
use Rattle.toml_working.specs.Seeing.{is_sought_line}
use Rattle.toml_working.specs.Standing.{Standing, Read, holds, is_below}
use Rattle.toml_working.specs.Stands.{Stands}

abbrev pub is_root : Address → Bool
is_root [] = true
is_root (s ∷ a) = false

-- whether the table right above stays: it is the root, or a line that does not go makes it
abbrev pub keeps_parent : Address → List Standing → Bool
keeps_parent p ss = is_root (parent_of p) || list_any (makes_beside (parent_of p) p) ss

abbrev pub remove_below : Address → List Standing → List Standing
remove_below p ss = left_of_all p (parent_of p) (keeps_parent p ss) ss

-- ---- where these lines stand

-- none before a header line of the address itself
abbrev pub HeaderIsFirst : Address → List Standing → Type 0
HeaderIsFirst p ss = (front : List Standing) (h : Standing) (back : List Standing) → ss ≡ front ++ h ∷ back → is_sought_line sought.Header p h ≡ true
    → list_any (is_below p) front ≡ false

-- none behind a header line beside the address, if one stands before that
abbrev pub StandInOneSection : Address → List Standing → Type 0
StandInOneSection p ss = (front : List Standing) (h : Standing) (back : List Standing) → ss ≡ front ++ h ∷ back → list_any (is_below p) front ≡ true
    → is_header h.base h.address ≡ true → is_below p h ≡ false → list_any (is_below p) back ≡ false

-- none behind the header line of a later element
abbrev pub NoneBehindLater : Address → List Standing → Type 0
NoneBehindLater p ss = (front : List Standing) (h : Standing) (back : List Standing) → ss ≡ front ++ h ∷ back → begins_later p h.base h.address ≡ true
    → list_any (is_below p) back ≡ false

-- So the lines at the address and below it stand where a document has them; where no table stands in the one there, in one section.
pub record StandTogether (p : Address) (flat : Bool) (ss : List Standing) : Type 0 where
  pub first : (flat || is_some (element_of p)) ≡ true → HeaderIsFirst p ss
  pub section : flat ≡ true → StandInOneSection p ss
  pub later : NoneBehindLater p ss

-- ---- on the working tree

-- the tree then stands for what is left, with the texts that it had; only an element may stay
pub record TableRemoved (p : Address) (read : Read) (old now : Tree) (ss : List Standing) (done : Bool) : Type 0 where
  pub made : done ≡ true → Stands (text_of old.texts.source) read now.slots.items (remove_below p ss)
  pub texts : now.texts ≡ old.texts
  pub tells : is_some (element_of p) ≡ false → done ≡ true

abbrev pub RemovesTable : Address → Bool → Read → Tree → Tree → Bool → Type 0
RemovesTable p flat read old now done = ¬ (p ≡ []) → (ss : List Standing) → Stands (text_of old.texts.source) read old.slots.items ss
    → list_any (holds p) ss ≡ false → StandTogether p flat ss → TableRemoved p read old now ss done

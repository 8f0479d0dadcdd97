-- What is protected of these lines, whose units are numbered from 0:
--
--     # above                         0, 1
--     [t] # head                      2, 3
--     a.b = [1, {x = 2}, # inner      4: line; 5, 6: elements; 7: pair; 8: comment
--       3] # tail                     9: element; 10: comment
use Rattle.std.proofs.Common.{◌≡◌, ℕ, List, [], ◌∷◌, ◌++◌, length, Option, Some, None, Bool, true, false, inl, inr, ◌⊎◌, refl, sym, ap, ◌∙◌, arith, length-append}
use Rattle.toml_names.specs.declared.model.address.Step.TheVariants.{Name, Index}
use Rattle.toml_names.specs.model.Addresses.{Address}
use Rattle.toml_edits.specs.Edits.{Change, set, insert, rename, remove, new_section, new_element}
use Rattle.toml_units.specs.declared.unit.UnitKind.{UnitKind}
use Rattle.toml_units.specs.declared.unit.UnitKind.TheVariants as kinds
use Rattle.toml_checker.specs.CarriedTo.{IsAtOrAbove}
use Rattle.toml_checker.specs.Owed.{IsOwed}
use Rattle.toml_checker.specs.Plain.{Site, flags}

abbrev t : Address
t = Name (0x74 ∷ []) ∷ []

abbrev ta : Address
ta = Name (0x74 ∷ []) ∷ Name (0x61 ∷ []) ∷ []

abbrev tab : Address
tab = Name (0x74 ∷ []) ∷ Name (0x61 ∷ []) ∷ Name (0x62 ∷ []) ∷ []

abbrev element : ℕ → Address
element i = tab ++ Index i ∷ []

abbrev member : List ℕ → Address
member n = tab ++ Index 1 ∷ Name n ∷ []

abbrev x : List ℕ
x = 0x78 ∷ []

abbrev unit : UnitKind → Option Address → Option ℕ → Site
unit k a b = record { kind = k; address = a; base = b }

abbrev all_units : List Site
all_units =
    unit kinds.Line None None ∷ unit kinds.TailComment None None
    ∷ unit kinds.Line (Some t) None ∷ unit kinds.TailComment (Some t) None
    ∷ unit kinds.Line (Some tab) (Some 1)
    ∷ unit kinds.Element (Some (element 0)) None ∷ unit kinds.Element (Some (element 1)) None
    ∷ unit kinds.Pair (Some (member x)) (Some 4)
    ∷ unit kinds.InnerComment (Some tab) None
    ∷ unit kinds.Element (Some (element 2)) None
    ∷ unit kinds.TailComment (Some tab) None ∷ []

abbrev y : Bool
y = true

abbrev n : Bool
n = false

-- the blank line and its comment; the header line and its comment; the keyval line; what lies in it; its comment
abbrev Row : Bool → Bool → Bool → Bool → Bool → Bool → Bool → Bool → Bool → List Bool
Row head head_tail line e0 e1 pair inner e2 tail = y ∷ y ∷ head ∷ head_tail ∷ line ∷ e0 ∷ e1 ∷ pair ∷ inner ∷ e2 ∷ tail ∷ []

abbrev Keeps : List Change → List Bool → Type 0
Keeps cs row = flags cs all_units ≡ row

-- no edit
no_edit : Keeps [] (Row y y y y y y y y y)
no_edit = refl

-- ---- set

-- at the header's address, above the keyval line's
set_header : Keeps (set t x ∷ []) (Row n n n n n n n n n)
set_header = refl

-- strictly above a keyval line it takes the line away, with its comment,
set_above_line : Keeps (set ta x ∷ []) (Row y y n n n n n n n)
set_above_line = refl

-- at it it changes the line, whose comment stays
set_line : Keeps (set tab x ∷ []) (Row y y n n n n n n y)
set_line = refl

-- an element: what lies in it goes, its line changes
set_element : Keeps (set (element 1) x ∷ []) (Row y y n y n n y y y)
set_element = refl

-- a pair: the element around it changes
set_pair : Keeps (set (member x) x ∷ []) (Row y y n y n n y y y)
set_pair = refl

-- elsewhere
set_elsewhere : Keeps (set (t ++ Name x ∷ []) x ∷ []) (Row y y y y y y y y y)
set_elsewhere = refl

-- ---- insert

-- at an element's address, not below it: the element stays
insert_at_element : Keeps (insert (element 1) x ∷ []) (Row y y n y y y y y y)
insert_at_element = refl

-- below an element
insert_in_element : Keeps (insert (member (0x7A ∷ [])) x ∷ []) (Row y y n y n y y y y)
insert_in_element = refl

-- below a header's address: its line stays
insert_below_header : Keeps (insert (t ++ Name x ∷ []) x ∷ []) (Row y y y y y y y y y)
insert_below_header = refl

-- ---- rename

-- the table in which a keyval line stands: the header line changes alone
rename_table : Keeps (rename t x ∷ []) (Row n y y y y y y y y)
rename_table = refl

-- what the key of the line has
rename_front_of_key : Keeps (rename ta x ∷ []) (Row y y n y y y y y y)
rename_front_of_key = refl

rename_key : Keeps (rename tab x ∷ []) (Row y y n y y y y y y)
rename_key = refl

-- what the key of a pair has
rename_pair : Keeps (rename (member x) x ∷ []) (Row y y n y n n y y y)
rename_pair = refl

-- ---- remove

remove_header : Keeps (remove t ∷ []) (Row n n n n n n n n n)
remove_header = refl

remove_above_line : Keeps (remove ta ∷ []) (Row y y n n n n n n n)
remove_above_line = refl

remove_line : Keeps (remove tab ∷ []) (Row y y n n n n n n n)
remove_line = refl

remove_element : Keeps (remove (element 1) ∷ []) (Row y y n y n n y y y)
remove_element = refl

remove_pair : Keeps (remove (member x) ∷ []) (Row y y n y n n y y y)
remove_pair = refl

-- ---- a new section

-- below a header's address: its line stays, as all does
section_below_header : Keeps (new_section (t ++ Name x ∷ []) ∷ []) (Row y y y y y y y y y)
section_below_header = refl

-- above a keyval line, or at it: the line stays
section_above_line : Keeps (new_section ta ∷ []) (Row y y y y y y y y y)
section_above_line = refl

section_at_line : Keeps (new_section tab ∷ []) (Row y y y y y y y y y)
section_at_line = refl

-- below it, in no element: the line changes alone
section_below_line : Keeps (new_section (tab ++ Name x ∷ []) ∷ []) (Row y y n y y y y y y)
section_below_line = refl

-- at an element's address, not below it
section_at_element : Keeps (new_section (element 1) ∷ []) (Row y y n y y y y y y)
section_at_element = refl

-- below an element, whose pair stays,
section_in_element : Keeps (new_section (member (0x7A ∷ [])) ∷ []) (Row y y n y n y y y y)
section_in_element = refl

-- and below the pair too
section_in_pair : Keeps (new_section (member x ++ Name x ∷ []) ∷ []) (Row y y n y n n y y y)
section_in_pair = refl

-- ---- a new element

element_below_header : Keeps (new_element (t ++ Name x ∷ Index 0 ∷ []) ∷ []) (Row y y y y y y y y y)
element_below_header = refl

-- of the table itself: its header line stays
element_of_header : Keeps (new_element (t ++ Index 0 ∷ []) ∷ []) (Row y y y y y y y y y)
element_of_header = refl

-- of the array of a keyval line: its elements stay, and the comment in it
element_of_line : Keeps (new_element (element 3) ∷ []) (Row y y n y y y y y y)
element_of_line = refl

element_at_element : Keeps (new_element (element 1) ∷ []) (Row y y n y y y y y y)
element_at_element = refl

element_in_element : Keeps (new_element (member (0x7A ∷ []) ++ Index 0 ∷ []) ∷ []) (Row y y n y n y y y y)
element_in_element = refl

element_in_pair : Keeps (new_element (member x ++ Index 0 ∷ []) ∷ []) (Row y y n y n n y y y)
element_in_pair = refl

-- ---- lists: each edit finds a unit where those before it have carried it

-- the second edit finds the element that has moved up
element_moved_up : Keeps (remove (element 0) ∷ set (element 0) x ∷ []) (Row y y n n n n y y y)
element_moved_up = refl

-- and here the one that was put there
element_put_in : Keeps (insert (element 0) x ∷ remove (element 0) ∷ []) (Row y y n y y y y y y)
element_put_in = refl

-- a new element moves none: it is the first that is removed
element_moves_none : Keeps (new_element (element 0) ∷ remove (element 0) ∷ []) (Row y y n n y y y y y)
element_moves_none = refl

-- nothing is there under the old name,
old_name : Keeps (rename t x ∷ remove tab ∷ []) (Row n y y y y y y y y)
old_name = refl

-- but under the new one
new_name : Keeps (rename t x ∷ remove (Name x ∷ Name (0x61 ∷ []) ∷ []) ∷ []) (Row n y n n n n n n n)
new_name = refl

-- ---- what edits owe

-- what is at, above and below the result
owed_here : IsOwed (set ta x ∷ []) ta
owed_here = inl (ta, ta, refl, refl, inl ([], refl))

owed_above : IsOwed (set ta x ∷ []) t
owed_above = inl (ta, ta, refl, refl, inl (Name (0x61 ∷ []) ∷ [], refl))

owed_below : IsOwed (insert ta x ∷ []) tab
owed_below = inl (ta, ta, refl, refl, inr (Name (0x62 ∷ []) ∷ [], refl))

-- under the new name,
owed_new_name : IsOwed (rename ta x ∷ []) (t ++ Name x ∷ [])
owed_new_name = inl (t ++ Name x ∷ [], t ++ Name x ∷ [], refl, refl, inl ([], refl))

-- where later edits have carried it
owed_carried : IsOwed (set ta x ∷ rename t x ∷ []) (Name x ∷ Name (0x61 ∷ []) ∷ [])
owed_carried = inl (ta, Name x ∷ Name (0x61 ∷ []) ∷ [], refl, refl, inl ([], refl))

-- a removal owes what the removed stood in,
owed_parent : IsOwed (remove tab ∷ []) ta
owed_parent = inl (ta, ta, refl, refl, ([], refl))

-- and nothing below that
not_below : (r to : Address) → Some ta ≡ Some r → Some r ≡ Some to → (rest : Address) → to ≡ tab ++ rest → ⊥
not_below r to e f rest is =
    let a : ta ≡ to = cc in
    omega (arith, ap length (a ∙ is), length-append tab rest)

not_owed_below_parent : ¬ (IsOwed (remove tab ∷ []) tab)
not_owed_below_parent = λ w. elim w [ inl o ↦ not_below o.0 o.1 o.2 o.3 o.4.0 o.4.1 | inr o ↦ o ]

-- a new section owes what is at it, above it and below it,
owed_section : IsOwed (new_section ta ∷ []) ta
owed_section = inl (ta, ta, refl, refl, inl ([], refl))

owed_above_section : IsOwed (new_section ta ∷ []) t
owed_above_section = inl (ta, ta, refl, refl, inl (Name (0x61 ∷ []) ∷ [], refl))

owed_below_section : IsOwed (new_section ta ∷ []) tab
owed_below_section = inl (ta, ta, refl, refl, inr (Name (0x62 ∷ []) ∷ [], refl))

-- a new element too, which may have made its array,
owed_element : IsOwed (new_element (element 3) ∷ []) (element 3)
owed_element = inl (element 3, element 3, refl, refl, inl ([], refl))

owed_array : IsOwed (new_element (element 3) ∷ []) tab
owed_array = inl (element 3, element 3, refl, refl, inl (Index 3 ∷ [], refl))

owed_below_element : IsOwed (new_element (element 3) ∷ []) (element 3 ++ Name x ∷ [])
owed_below_element = inl (element 3, element 3, refl, refl, inr (Name x ∷ [], refl))

-- where later edits have carried it,
owed_element_carried : IsOwed (new_element (element 3) ∷ remove (element 0) ∷ []) (element 2)
owed_element_carried = inl (element 3, element 2, refl, refl, inl ([], refl))

-- and nothing beside it
abbrev last_of : Address → ℕ
last_of (u ∷ v ∷ w ∷ Index i ∷ rest) = i
last_of _ = 0

not_beside : (r to : Address) → Some (element 3) ≡ Some r → Some r ≡ Some to → IsAtOrAbove (element 2) to ⊎ IsAtOrAbove to (element 2) → ⊥
not_beside r to e f w = by w
  where
    here : to ≡ element 3
    here = cc

    by : IsAtOrAbove (element 2) to ⊎ IsAtOrAbove to (element 2) → ⊥
    by (inl (rest, is)) = let same : 3 ≡ 2 = ap last_of (sym here ∙ is) in omega (arith, same)
    by (inr (rest, is)) = let same : 2 ≡ 3 = ap last_of (is ∙ ap (λ p. p ++ rest) here) in omega (arith, same)

not_owed_beside : ¬ (IsOwed (new_element (element 3) ∷ []) (element 2))
not_owed_beside = λ w. elim w [ inl o ↦ not_beside o.0 o.1 o.2 o.3 o.4 | inr o ↦ o ]

-- The header line of a new table, or of a new element of an array of tables, and where it goes among lines.
use Rattle.std.specs.Prelude.{◌≡◌, ◌==◌, ◌&&◌, ℕ, Bool, true, false, not, is_some, List, [], ◌∷◌, ◌++◌, length, map, Option, Some, None, option_map, if◌then◌else◌}
use Rattle.std.specs.Bool.{nat_lt}
use Rattle.std.specs.List.{list_any}
use Rattle.toml_scalar.specs.Spelling.{spelled}
use Rattle.toml_names.specs.declared.model.address.Step.{Step}
use Rattle.toml_names.specs.declared.model.address.Step.TheVariants.{Name, Index}
use Rattle.toml_names.specs.model.Addresses.{Address, same_address}
use Rattle.toml_layout.specs.NewKeys.{bare_part}
use Rattle.toml_layout.specs.OpenOutlines.{closing_brackets, opening_brackets}
use Rattle.toml_layout.specs.Outlines as outline
use Rattle.toml_layout.specs.Outlines.{ExprOutline, LineOutline}
use Rattle.toml_layout.specs.declared.tree.Brackets.{Brackets}
use Rattle.toml_working.specs.declared.lines.Sought.TheVariants as sought
use Rattle.toml_working.specs.InsertStanding.{end_in}
use Rattle.toml_working.specs.Placing.{is_header}
use Rattle.toml_working.specs.Seeing.{is_sought_line}
use Rattle.toml_working.specs.Standing.{Standing}

-- ---- the line

-- the names of an address: indices are left out
abbrev pub names_of : Address → List (List ℕ)
names_of [] = []
names_of (Name n ∷ steps) = n ∷ names_of steps
names_of (Index i ∷ steps) = names_of steps

-- a header of a key of these parts, without whitespace
abbrev pub header_of : Brackets → List (List ℕ) → ExprOutline
header_of brackets [] = outline.Header (opening_brackets brackets) [] [] [] [] (closing_brackets brackets)
header_of brackets (part ∷ parts) = outline.Header (opening_brackets brackets) [] part (map bare_part parts) [] (closing_brackets brackets)

-- the header line of what stands at the address, by the spellings of its names, with this whitespace before it and this newline
abbrev pub header_outline : Address → Brackets → List ℕ → List ℕ → LineOutline
header_outline p brackets ws newline =
    record { ws = ws; expr = header_of brackets (map spelled (names_of p)); tail = []; comment = None; newline = newline }

-- the line with it
abbrev pub new_header : Address → Brackets → List ℕ → List ℕ → Standing
new_header p brackets ws newline = record { address = Some p; base = None; outline = header_outline p brackets ws newline }

-- ---- where it goes, in layout `Plain`

-- one step more before the innermost element of the steps behind it
abbrev pub inner_of : Option Address → Step → Option Address
inner_of (Some steps) s = Some (s ∷ steps)
inner_of None (Name n) = None
inner_of None (Index i) = Some (Index i ∷ [])

-- the element at the address, or the innermost one above it: the address up to its last index
abbrev pub innermost : Address → Option Address
innermost [] = None
innermost (s ∷ steps) = inner_of (innermost steps) s

-- whether one of the lines is a header at the address or below it
abbrev pub has_below : Address → List Standing → Bool
has_below e = list_any (is_sought_line sought.HeaderBelow e)

-- lines with a new one before their first header line, if they have one
abbrev pub before_header : Standing → List Standing → Option (List Standing)
before_header new [] = None
before_header new (s ∷ ss) = if is_header s.base s.address then Some (new ∷ s ∷ ss) else option_map (λ r. s ∷ r) (before_header new ss)

-- with it before the first header line behind the last one that stands at the element or below it, if there is one
abbrev pub before_next : Address → Standing → List Standing → Option (List Standing)
before_next e new [] = None
before_next e new (s ∷ ss) = option_map (λ r. s ∷ r) (
    if has_below e ss then before_next e new ss else if is_sought_line sought.HeaderBelow e s then before_header new ss else None)

-- whether neither a key nor a header stands on a line
abbrev pub is_nothing : ExprOutline → Bool
is_nothing outline.Nothing = true
is_nothing (outline.Pair a v) = false
is_nothing (outline.Header opening before first rest after closing) = false

-- whether a line has no bytes: nothing stands on it, and it ends in no newline
abbrev pub has_no_bytes : LineOutline → Bool
has_no_bytes l = is_nothing l.expr && (length l.ws == 0) && (length l.tail == 0) && not (is_some l.comment) && (length l.newline == 0)

-- A line, by its newline, and a new one behind it. What has no newline is a former last line: it gets that of new lines, and the new one
-- has none.
abbrev pub put_after : (List ℕ → Standing) → List ℕ → Standing → List ℕ → List Standing
put_after new style s [] = end_in style s ∷ new [] ∷ []
put_after new style s (b ∷ bs) = s ∷ new style ∷ []

-- a new line at the end of the text: before the last line where that has no bytes, else behind it
abbrev pub put_at_text_end : (List ℕ → Standing) → List ℕ → List Standing → List Standing
put_at_text_end new style [] = []
put_at_text_end new style (s ∷ []) = if has_no_bytes s.outline then new style ∷ s ∷ [] else put_after new style s s.outline.newline
put_at_text_end new style (s ∷ t ∷ ss) = s ∷ put_at_text_end new style (t ∷ ss)

-- these lines, if there are any, else those with the new one at the end
abbrev pub or_at_text_end : (List ℕ → Standing) → List ℕ → List Standing → Option (List Standing) → List Standing
or_at_text_end new style ss None = put_at_text_end new style ss
or_at_text_end new style ss (Some put) = put

-- Where `Plain` puts a new line: before the next header line behind the last one of the element, if there are such; else, or in no element, at
-- the end of the text.
abbrev pub put_plainly : Option Address → (List ℕ → Standing) → List ℕ → List Standing → List Standing
put_plainly None new style ss = put_at_text_end new style ss
put_plainly (Some e) new style ss = or_at_text_end new style ss (before_next e (new style) ss)

-- ---- what documents have under the table rules

-- the index of an element of the root, if the step is an index
abbrev pub index_alone : Step → Option (Address × ℕ)
index_alone (Name n) = None
index_alone (Index i) = Some ([], i)

-- the array and the index of an element, if the address is one's
abbrev pub element_of : Address → Option (Address × ℕ)
element_of [] = None
element_of (s ∷ []) = index_alone s
element_of (s ∷ t ∷ steps) = option_map (λ e. (s ∷ e.0, e.1)) (element_of (t ∷ steps))

-- whether the second is a later element of the array of the first
abbrev pub later_in : Option (Address × ℕ) → Option (Address × ℕ) → Bool
later_in None other = false
later_in (Some (array, index)) None = false
later_in (Some (array, index)) (Some (other, number)) = nat_lt index number && same_address other array

-- the same of addresses
abbrev pub is_later : Address → Address → Bool
is_later e a = later_in (element_of e) (element_of a)

-- whether a line of this base and address is the header of such an element
abbrev pub begins_later : Address → Option ℕ → Option Address → Bool
begins_later e (Some n) own = false
begins_later e None None = false
begins_later e None (Some a) = is_later e a

-- no header line below an element of an array of tables stands before the element's own, and none at or below it behind that of a later element
-- of the array; others may stand between
pub record StandInTurn (e : Address) (ss : List Standing) : Type 0 where
  pub first : (front : List Standing) (h : Standing) (back : List Standing) → ss ≡ front ++ h ∷ back → is_sought_line sought.Header e h ≡ true
      → has_below e front ≡ false
  pub last : (front : List Standing) (h : Standing) (back : List Standing) → ss ≡ front ++ h ∷ back → begins_later e h.base h.address ≡ true
      → has_below e back ≡ false

-- those of the element, if there is one
abbrev pub ElementStands : Option Address → List Standing → Type 0
ElementStands None ss = Unit {0}
ElementStands (Some e) ss = StandInTurn e ss

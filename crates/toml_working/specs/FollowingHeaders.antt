-- Where a header line goes in layout `Follow`, and how it begins. `may_blank` tells whether a blank line may be written.
use Rattle.std.specs.Prelude.{◌==◌, ◌&&◌, ℕ, Bool, true, false, not, List, [], ◌∷◌, ◌++◌, Option, Some, None, is_some, option_map, if◌then◌else◌}
use Rattle.std.specs.List.{list_any}
use Rattle.toml_names.specs.model.Addresses.{Address}
use Rattle.toml_layout.specs.Holders.{parent_of}
use Rattle.toml_layout.specs.Outlines.{Nothing}
use Rattle.toml_layout.specs.declared.tree.Brackets.{Brackets}
use Rattle.toml_working.specs.Headers.{element_of, has_no_bytes, new_header, put_at_text_end}
use Rattle.toml_working.specs.InsertStanding.{has_pair, is_bare, is_blank, is_comment}
use Rattle.toml_working.specs.OpeningLines.{alone}
use Rattle.toml_working.specs.Placing.{is_header}
use Rattle.toml_working.specs.RenameStanding.{names_in}
use Rattle.toml_working.specs.Standing.{Standing, is_below}

-- ---- how it begins

-- a later line that is so, if there is one, else this one, if it is so
abbrev pub or_earlier : Option Standing → Bool → Standing → Option Standing
or_earlier (Some later) so s = Some later
or_earlier None true s = Some s
or_earlier None false s = None

-- the last line that is so, if there is one
abbrev pub last_that : (Standing → Bool) → List Standing → Option Standing
last_that f [] = None
last_that f (s ∷ ss) = or_earlier (last_that f ss) (f s) s

-- whether a line is a header
abbrev pub is_header_line : Standing → Bool
is_header_line s = is_header s.base s.address

-- whether a line of this base and address is a header whose key has so many parts
abbrev pub is_header_in : ℕ → Option ℕ → Option Address → Bool
is_header_in n base None = false
is_header_in n base (Some a) = is_header base (Some a) && names_in a == n

-- the same of what stands on a line
abbrev pub has_parts : ℕ → Standing → Bool
has_parts n s = is_header_in n s.base s.address

-- the whitespace with which a line begins, if there is one
abbrev pub ws_of : Option Standing → List ℕ
ws_of None = []
ws_of (Some s) = s.outline.ws

-- the whitespace of a header line at the address behind these lines: that of the last header line there whose key has as many parts
abbrev pub header_ws : Address → List Standing → List ℕ
header_ws p front = ws_of (last_that (has_parts (names_in p)) front)

-- the header line with it
abbrev pub header_behind : Address → Brackets → List Standing → List ℕ → Standing
header_behind p brackets front newline = new_header p brackets (header_ws p front) newline

-- ---- behind a section

-- whether something stands on a line
abbrev pub is_filled : Standing → Bool
is_filled s = not (is_blank s)

-- Lines of a section from one of its lines on, with a new line behind the last one with a key and a value, or behind the first line where
-- there is none; no lines where only blank ones follow that place. `front` are the lines before them.
abbrev pub behind_section : (List Standing → Standing) → List Standing → List Standing → Option (List Standing)
behind_section new front [] = None
behind_section new front (s ∷ ss) = option_map (λ r. s ∷ r) (
    if has_pair ss then behind_section new (front ++ s ∷ []) ss
    else if list_any is_filled ss then Some (new (front ++ s ∷ []) ∷ ss) else None)

-- lines with a new one so put in behind the section of the last line at the address or below it
abbrev pub behind_below : Address → (List Standing → Standing) → List Standing → List Standing → Option (List Standing)
behind_below r new front [] = None
behind_below r new front (s ∷ ss) =
    if list_any (is_below r) ss then option_map (λ t. s ∷ t) (behind_below r new (front ++ s ∷ []) ss)
    else if is_below r s then behind_section new front (s ∷ ss) else None

-- the family of what is to stand at `p`, right below `q`: of a new table `q`; of a new element its array `q`, or where no line stands there or
-- below it what the array stands in
abbrev pub family : Address → Address → List Standing → Address
family q p ss = if is_some (element_of p) && not (list_any (is_below q) ss) then parent_of q else q

-- behind the last section of the family; the root is no family
abbrev pub behind_family : Address → (List Standing → Standing) → List Standing → Option (List Standing)
behind_family [] new ss = None
behind_family (s ∷ r) new ss = behind_below (s ∷ r) new [] ss

-- ---- at the end

-- whether a line is no comment line
abbrev pub is_no_comment : Standing → Bool
is_no_comment s = not (is_comment s)

-- whether a line has a key or a header, and whether there is such a line
abbrev pub is_entry_line : Standing → Bool
is_entry_line s = not (is_bare s.base s.address)

abbrev pub is_entry : Option Standing → Bool
is_entry None = false
is_entry (Some s) = is_entry_line s

-- whether the last header line, with the comment lines directly above it, stands directly behind a header or a key; `front` are the lines
-- before these
abbrev pub is_close : List Standing → List Standing → Bool
is_close front [] = false
is_close front (s ∷ ss) =
    if list_any is_header_line ss then is_close (front ++ s ∷ []) ss else is_header_line s && is_entry (last_that is_no_comment front)

-- whether the last of the lines is there, and is not blank
abbrev pub ends_filled : List Standing → Bool
ends_filled [] = false
ends_filled (s ∷ []) = is_filled s
ends_filled (s ∷ t ∷ ss) = ends_filled (t ∷ ss)

-- whether the last line has no bytes
abbrev pub ends_empty : List Standing → Bool
ends_empty [] = false
ends_empty (s ∷ []) = has_no_bytes s.outline
ends_empty (s ∷ t ∷ ss) = ends_empty (t ∷ ss)

-- all lines but the last
abbrev pub but_last : List Standing → List Standing
but_last [] = []
but_last (s ∷ []) = []
but_last (s ∷ t ∷ ss) = s ∷ but_last (t ∷ ss)

-- whether a blank line is due at the end, if one may be written: the last line has no bytes, there is a line above it that is not blank, and
-- the last header line there is not close to what stands above it
abbrev pub wants_blank : List Standing → Bool
wants_blank ss = ends_empty ss && (ends_filled (but_last ss) && not (is_close [] (but_last ss)))

-- a blank line that ends so
abbrev pub blank_line : List ℕ → Standing
blank_line newline = record { address = None; base = None; outline = alone Nothing newline }

-- a header line at the end of the text, behind a blank line where one may be written and is due
abbrev pub put_at_end : Address → Brackets → List ℕ → Bool → List Standing → List Standing
put_at_end p brackets style may_blank ss =
    put_at_text_end (new_header p brackets (header_ws p ss)) style (if may_blank && wants_blank ss then put_at_text_end blank_line style ss else ss)

-- these lines, if there are any, else those with the header line at the end
abbrev pub or_at_end : Address → Brackets → List ℕ → Bool → List Standing → Option (List Standing) → List Standing
or_at_end p brackets style may_blank ss None = put_at_end p brackets style may_blank ss
or_at_end p brackets style may_blank ss (Some put) = put

-- lines with the header line of what is to stand at `p`, right below `q`, behind the last section of its family, where more than blank lines
-- follow there
abbrev pub beside_family : Address → Address → Brackets → List ℕ → List Standing → Option (List Standing)
beside_family q p brackets style ss = behind_family (family q p ss) (λ front. header_behind p brackets front style) ss

-- with it there, else at the end
abbrev pub put_following : Address → Address → Brackets → List ℕ → Bool → List Standing → List Standing
put_following q p brackets style may_blank ss =
    or_at_end p brackets style may_blank ss (beside_family q p brackets style ss)

-- whether a blank line is written before it
abbrev pub writes_blank : Address → Address → Brackets → List ℕ → Bool → List Standing → Bool
writes_blank q p brackets style may_blank ss = not (is_some (beside_family q p brackets style ss)) && (may_blank && wants_blank ss)

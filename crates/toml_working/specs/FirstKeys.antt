-- How a line with a key and a value begins that is put in behind another one: behind a header as the last such line above in a section whose
-- header begins with the same whitespace, else as the header.
use Rattle.std.specs.Prelude.{ℕ, Bool, ◌==◌, List, [], ◌∷◌, length, Option, Some, None, if◌then◌else◌}
use Rattle.std.specs.Str.{bytes_eq}
use Rattle.toml_names.specs.model.Addresses.{Address}
use Rattle.toml_layout.specs.Outlines.{LineOutline}
use Rattle.toml_layout.specs.Spacings.{Spacing, laid_out, plain_spacing}
use Rattle.toml_working.specs.InsertStanding.{spaced_by, spacing_of}
use Rattle.toml_working.specs.Manners.{Manner}
use Rattle.toml_working.specs.Standing.{Standing}

-- whether the lines behind one of this base and address stand in a section that fits; `same` tells whether that of its header does
abbrev pub fits_behind : Bool → Bool → Option ℕ → Option Address → Bool
fits_behind fits same (Some n) own = fits
fits_behind fits same None None = fits
fits_behind fits same None (Some a) = same

-- the last line that is found, this one too, if it has a key and a value and its section fits
abbrev pub found_behind : Bool → Option Standing → Standing → Option ℕ → Option Standing
found_behind fits found s (Some n) = if fits then Some s else found
found_behind fits found s None = found

-- the last line with a key and a value in a section whose header begins with this whitespace; what was found before these lines, if none of
-- them is one. They begin in a section of that kind, or not.
abbrev pub last_like : List ℕ → Bool → Option Standing → List Standing → Option Standing
last_like ws fits found [] = found
last_like ws fits found (s ∷ ss) =
    last_like ws (fits_behind fits (bytes_eq s.outline.ws ws) s.base s.address) (found_behind fits found s s.base) ss

-- the same of the lines with which a text begins: the section of the root has no header, and begins with no whitespace
abbrev pub like_before : List ℕ → List Standing → Option Standing
like_before ws front = last_like ws (length ws == 0) None front

-- as this line begins; as far in as the whitespace, if there is none
abbrev pub spacing_like : List ℕ → Option Standing → Spacing
spacing_like ws None = spaced_by ws None
spacing_like ws (Some s) = spacing_of s.base s.outline

-- the whitespace of a line behind one of this base, address and outline; those lines stand before that one
abbrev pub spacing_after : List Standing → Option ℕ → Option Address → LineOutline → Spacing
spacing_after front (Some n) own l = spacing_of (Some n) l
spacing_after front None None l = plain_spacing
spacing_after front None (Some a) l = spacing_like l.ws (like_before l.ws front)

-- the same in a layout
abbrev pub spacing_put : Manner → List Standing → Standing → Spacing
spacing_put manner front s = laid_out manner.layout (spacing_after front s.base s.address s.outline)

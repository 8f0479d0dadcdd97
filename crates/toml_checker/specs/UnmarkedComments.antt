-- Comments and their texts, read off the spans of units.
use Rattle.std.specs.Prelude.{◌&&◌, ℕ, Bool, not, if◌then◌else◌, List, [], ◌∷◌, length, nat_le, slice_range}
use Rattle.toml_units.specs.Plain.{Spanned}
use Rattle.toml_checker.specs.Comments.{is_comment}

-- what stands at the span of a unit; outside of the text nothing
abbrev pub text_at : List ℕ → Spanned → List ℕ
text_at text u = if nat_le u.start u.stop && nat_le u.stop (length text) then slice_range text u.start u.stop else []

-- the comments without a mark, in order
abbrev pub unmarked : List Bool → List Spanned → List Spanned
unmarked (m ∷ marks) (u ∷ us) = if is_comment u.kind && not m then u ∷ unmarked marks us else unmarked marks us
unmarked _ _ = []

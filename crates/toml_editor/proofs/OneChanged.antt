-- An edit of what an array or an inline table in a value holds makes one thing of lines, and so does the removal of a table.
use Rattle.std.proofs.Common.{◌≡◌, ◌∙◌, List, [], ◌∷◌, inl, inr, true, false, true≢false, ap, sym}
use Rattle.std.proofs.lemmas.Bool.{and_parts, or_cases, or_parts}
use Rattle.std.specs.List.{list_any}
use Rattle.toml_tree.proofs.Proved.{one_value}
use Rattle.toml_edits.specs.Edits.{insert, new_element, new_section, remove, rename, set}
use Rattle.toml_layout.specs.TreeOutlines.{value_outline}
use Rattle.toml_working.proofs.Proved.{put_lines_are_one, taken_lines_are_one}
use Rattle.toml_names.specs.model.Addresses.{Address}
use Rattle.toml_working.specs.HeldLines.{has_container_at}
use Rattle.toml_working.specs.Standing.{Standing, holds}
use Rattle.toml_editor.specs.LastTexts.{OneChange}

-- what an array or an inline table in a value holds stands in the value of a line
not_both : (p : Address) (ss : List Standing) → list_any (has_container_at p) ss ≡ true → list_any (holds p) ss ≡ false → ⊥
not_both p [] has none = true≢false (sym has)
not_both p (s ∷ ss) has none =
    let (free, others) = or_parts (holds p s) (list_any (holds p) ss) none in
    elim (or_cases (has_container_at p s) (list_any (has_container_at p) ss) has) [
      | inl here ↦ true≢false (sym (and_parts (holds p s) _ here).0 ∙ free)
      | inr later ↦ not_both p ss later others
    ]

pub one_change : OneChange
one_change layout profile (insert p text) old now new ordered h g =
    let same : h.tree ≡ g.tree = one_value h.tree g.tree 0 text h.is_value.0 g.is_value.0 in
    put_lines_are_one layout h.steps g.steps p h.new g.new old now new ordered (h.spelled ∙ sym g.spelled)
    (h.outlined ∙ ap value_outline same ∙ sym g.outlined) h.put g.put
one_change layout profile (remove p) old now new ordered (inl h) (inl g) = taken_lines_are_one layout p old now new ordered h.1 g.1
one_change layout profile (remove p) old now new ordered (inr h) (inr g) = h.1 ∙ sym g.1
one_change layout profile (remove p) old now new ordered (inl h) (inr g) = absurd (not_both p old h.0 g.0)
one_change layout profile (remove p) old now new ordered (inr h) (inl g) = absurd (not_both p old g.0 h.0)
one_change layout profile (set p text) old now new ordered h g = absurd h
one_change layout profile (rename p to) old now new ordered h g = absurd h
one_change layout profile (new_section p) old now new ordered h g = absurd h
one_change layout profile (new_element p) old now new ordered h g = absurd h

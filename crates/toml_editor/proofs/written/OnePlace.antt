-- In the section of a table with a header a new line has one place.
use Rattle.std.proofs.Common.{◌≡◌, ◌∙◌, inl, inr, List, [], ◌∷◌, ◌++◌, ap, sym, subst}
use Rattle.toml_working.specs.FirstKeys.{spacing_put}
use Rattle.toml_working.specs.InsertStanding.{has_pair, line_put}
use Rattle.toml_working.specs.Sections.{StandsBelow}
use Rattle.toml_working.specs.Standing.{Standing, standing}
use Rattle.toml_editor.specs.StandingLaws.{OnePlaceInSection}
use Rattle.toml_editor.proofs.written.DocumentSections.{document_sectioned, headers_differ}
use Rattle.toml_editor.proofs.written.OneSection.{not_before, two_places}

-- there is one place in the section
pub one_place_in_section : OnePlaceInSection
one_place_in_section q name v manner lines now new some keeps h g = elim (two_places h.front g.front h.line g.line h.back g.back (sym h.was ∙ g.was)) [
  | inl (fronts, lines_are, backs) ↦ h.is ∙ same fronts lines_are backs ∙ sym g.is
  | inr (inl later) ↦
      absurd (not_before q some (standing lines) (document_sectioned lines) (headers_differ lines keeps) h.front h.line later.mid g.line g.back
      (h.was ∙ ap (λ r. h.front ++ h.line ∷ r) later.back_is) (ap has_pair (sym later.back_is) ∙ h.last) h.below
      (subst (λ f. StandsBelow q f g.line) later.front_is g.below))
  | inr (inr later) ↦
      absurd (not_before q some (standing lines) (document_sectioned lines) (headers_differ lines keeps) g.front g.line later.mid h.line h.back
      (g.was ∙ ap (λ r. g.front ++ g.line ∷ r) later.back_is) (ap has_pair (sym later.back_is) ∙ g.last) g.below
      (subst (λ f. StandsBelow q f h.line) later.front_is h.below))
]
  where
    made : List Standing → Standing → List Standing → List Standing
    made front line back = front ++ (line_put q (spacing_put manner front line) (name ∷ []) v manner line line.outline.newline ++ back)

    same : h.front ≡ g.front → h.line ≡ g.line → h.back ≡ g.back → made h.front h.line h.back ≡ made g.front g.line g.back
    same a b c = ap (λ f. made f h.line h.back) a ∙ ap (λ l. made g.front l h.back) b ∙ ap (made g.front g.line) c

-- The lines after an `insert` in a table with a header, by what finds them.
use Rattle.std.proofs.Common.{◌≡◌, ◌∙◌, inl, inr, ℕ, ◌+◌, List, [], ◌∷◌, ◌++◌, length, refl, sym, ap, subst}
use Rattle.std.proofs.lemmas.Bool.{cond-true}
use Rattle.toml_tree.specs.Spells.{AreLines}
use Rattle.toml_tree.specs.Tree.{Value, Line}
use Rattle.toml_names.specs.mentions.Mentions.{named, named_by, section}
use Rattle.toml_names.specs.model.Addresses.{Address}
use Rattle.toml_layout.specs.TreeOutlines.{line_outline, value_outline}
use Rattle.toml_working.specs.Inserting as lines
use Rattle.toml_working.specs.InsertStanding.{line_put}
use Rattle.toml_working.specs.Manners.{Manner}
use Rattle.toml_working.specs.Sections.{PutsInSection}
use Rattle.toml_working.specs.Standing.{line_stands, standing, standing_from}
use Rattle.toml_editor.specs.StandingLaws.{InsertStandsBelow}
use Rattle.toml_editor.proofs.written.BelowPlace.{IsPutBelow, below_place, below_section, standing_behind}
use Rattle.toml_editor.proofs.written.InsertSpaced.{first_formed}
use Rattle.toml_editor.proofs.written.InsertStands.{has_same}
use Rattle.toml_editor.proofs.written.PutStands.{put_stands}
use Rattle.toml_editor.proofs.written.DocumentSections.{named_next}

pub back_formed : (front back : List Line) (l : Line) → AreLines (front ++ l ∷ back) → AreLines (l ∷ back)
back_formed [] back l are = are
back_formed (m ∷ front) back l are = back_formed front back l (first_formed m front back l are).2

module _ (q : Address) (name : List ℕ) (v : Value) (manner : Manner) where
  below_puts : (old new : List Line) → AreLines old → IsPutBelow q name v manner old new → PutsInSection q name (value_outline v) manner (standing old) (standing new)
  below_puts old new are put =
      let xs = named put.front in
      let n = length put.front in
      let l = put.line in
      let behind = standing_from (xs ++ named_by xs n l.expr) (n + 1) put.back in
      let there : section (xs ++ named_by xs n l.expr) ≡ q = ap section (sym (named_next put.front l)) ∙ below_section q name v manner old new put in
      record {
        front = standing put.front;
        line = line_stands xs l;
        back = behind;
        was = ap standing put.was ∙ standing_behind put.front (l ∷ put.back) [];
        last = has_same put.back (xs ++ named_by xs n l.expr) (n + 1) ∙ put.last;
        below = put.below;
        is =
            ap standing put.is ∙ standing_behind put.front (lines.line_put put.spacing (name ∷ []) v manner l put.back) []
            ∙ ap (λ r. standing put.front ++ r)
            (put_stands q name [] v manner put.spacing xs n l put.back (back_formed put.front put.back l (subst AreLines put.was are)) there
            ∙ ap (λ s. line_put q s (name ∷ []) (value_outline v) manner (line_stands xs l) (line_outline l).newline ++ behind) put.spaced);
      }

pub insert_stands_below : InsertStandsBelow
insert_stands_below [] name v manner ls are some there = absurd (some refl)
insert_stands_below (s ∷ q) name v manner ls are some (inl none) = cc
insert_stands_below (s ∷ q) name v manner ls are some (inr header) =
    subst (λ t. PutsInSection (s ∷ q) name (value_outline v) manner (standing ls) (standing t)) (sym (cond-true _ _ _ header))
    (below_puts (s ∷ q) name v manner ls _ are (below_place (s ∷ q) name v manner ls header))

-- The lines after an `insert` in a table that longer headers alone imply, by what finds them.
use Rattle.std.proofs.Common.{◌≡◌, ◌∙◌, ℕ, ◌+◌, Some, List, [], ◌∷◌, ◌++◌, length, sym, ap, ap₂}
use Rattle.std.proofs.lemmas.Option.{same_Some}
use Rattle.toml_tree.specs.Tree.{Value, Line}
use Rattle.toml_names.specs.mentions.Mentions.{Named, named, named_by, section}
use Rattle.toml_names.specs.model.Addresses.{Address}
use Rattle.toml_names.proofs.Proved.{header_is_section}
use Rattle.toml_layout.specs.declared.tree.Brackets.TheVariants.{One}
use Rattle.toml_layout.specs.TreeOutlines.{value_outline}
use Rattle.toml_working.specs.declared.lines.Sought.TheVariants as sought
use Rattle.toml_working.specs.Heading.{header_expr, header_line}
use Rattle.toml_working.specs.Headers.{new_header}
use Rattle.toml_working.specs.ImpliedTables.{put_ahead, spacing_below}
use Rattle.toml_working.specs.Inserting.{new_line}
use Rattle.toml_working.specs.InsertingInTables.{insert_in}
use Rattle.toml_working.specs.InsertStanding.{new_standing_in}
use Rattle.toml_working.specs.Manners.{Manner}
use Rattle.toml_working.specs.Seeing.{is_sought_line}
use Rattle.toml_working.specs.Standing.{Standing, standing, standing_from}
use Rattle.toml_editor.specs.StandingLaws.{ImpliedIsBelow, InsertStandsAhead}
use Rattle.toml_editor.proofs.written.BelowPlace.{standing_behind}
use Rattle.toml_editor.proofs.written.DocumentSections.{named_next}
use Rattle.toml_editor.proofs.written.HeaderStood.{header_stood, others_stand}
use Rattle.toml_editor.proofs.written.ImpliedHeaders.{any_weaker, implied_below, is_implying}
use Rattle.toml_editor.proofs.written.ImpliedPlace.{IsPutAhead, ahead_place}
use Rattle.toml_editor.proofs.written.PutStands.{new_first}

-- a header below the table is one at the table or below it
pub implied_is_below : ImpliedIsBelow
implied_is_below q lines has = record {
  below =
      any_weaker (is_implying q) (is_sought_line sought.HeaderBelow q) (implied_below q) (standing lines) has.implied;
  no_header = has.no_header;
  no_dotted = has.no_dotted;
}

module _ (q : Address) (name : List ℕ) (v : Value) (manner : Manner) (old new : List Line) (put : IsPutAhead q name v manner old new) where
  abbrev front : List Line
  front = put.front

  -- what was named before the new line
  abbrev xs : List Named
  xs = named front ++ named_by (named front) (length front) (header_expr One q put.ws)

  abbrev behind : List Standing
  behind = standing_from (named front) (length front) put.back

  abbrev newline : List ℕ
  newline = manner.newline

  -- it stands in the section of the new header
  there : section xs ≡ q
  there =
      let header = header_line One q put.ws newline in
      same_Some (section xs) q
      (ap (λ ms. Some (section ms)) (sym (named_next front header)) ∙ sym (header_is_section front header tt) ∙ put.leads)

  lines_stand : standing_from (named front) (length front) (header_line One q put.ws newline ∷ new_line put.spacing (name ∷ []) v newline ∷ put.back)
      ≡ new_header q One put.ws newline ∷ new_standing_in q put.spacing (name ∷ []) (value_outline v) newline ∷ behind
  lines_stand =
      ap₂ (λ s ss. s ∷ ss) (header_stood One q put.ws newline (named front) put.leads)
      (new_first q name [] v manner put.spacing xs (length front + 1) (length front + 1) newline put.back there
      ∙ ap (λ ss. new_standing_in q put.spacing (name ∷ []) (value_outline v) newline ∷ ss) (others_stand One q front put.back put.ws put.leads tt put.unkeyed))

  ahead_stands : standing new ≡ put_ahead q name (value_outline v) manner [] (standing old)
  ahead_stands =
      ap standing put.is ∙ standing_behind front (header_line One q put.ws newline ∷ new_line put.spacing (name ∷ []) v newline ∷ put.back) []
      ∙ ap (λ ss. standing front ++ ss) lines_stand
      ∙ ap (λ s. standing front ++ new_header q One put.ws newline ∷ new_standing_in q s (name ∷ []) (value_outline v) newline ∷ behind) put.spacing_is
      ∙ ap (λ ws. standing front ++ new_header q One ws newline
      ∷ new_standing_in q (spacing_below manner.layout ws (standing front)) (name ∷ []) (value_outline v) newline ∷ behind) put.ws_is
      ∙ sym put.stands

pub insert_stands_ahead : InsertStandsAhead
insert_stands_ahead q name v manner lines are some keeps has =
    ahead_stands q name v manner lines (insert_in q name v manner lines) (ahead_place q name v manner lines some has)

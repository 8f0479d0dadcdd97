-- Where the new lines of an `insert` stand, in any table.
use Rattle.std.proofs.Common.{◌≡◌, ◌∙◌, ◌⊎◌, inl, inr, ℕ, List, [], ◌∷◌, false, sym, subst, true≢false}
use Rattle.std.proofs.lemmas.Bool.{cond-true}
use Rattle.std.specs.List.{list_any}
use Rattle.toml_tree.specs.Tree.{Value, Line}
use Rattle.toml_names.specs.model.Addresses.{Address}
use Rattle.toml_working.specs.InsertingInTables.{insert_in}
use Rattle.toml_working.specs.Manners.{Manner}
use Rattle.toml_working.specs.declared.lines.Sought.TheVariants as sought
use Rattle.toml_working.specs.Premises.{HasImplied, HasSection, HasTable}
use Rattle.toml_working.specs.Seeing.{is_sought_line}
use Rattle.toml_working.specs.Standing.{standing}
use Rattle.toml_editor.proofs.written.ImpliedPlace.{IsPutAhead, ahead_place}
use Rattle.toml_editor.proofs.written.BelowPlace.{below_place}
use Rattle.toml_editor.proofs.written.DottedPlace.{among_place}
use Rattle.toml_editor.proofs.written.InsertPlaces.{IsPlace, dotted_place, header_place, root_place}

-- a new header comes only with a table that longer headers alone imply
abbrev pub IsInserted : Address → List ℕ → Value → Manner → List Line → List Line → Type 0
IsInserted q name v manner old new = IsPlace q name v manner old new ⊎ (HasImplied old q × IsPutAhead q name v manner old new)

pub no_section : (q : Address) (lines : List Line) → ¬ (q ≡ []) → list_any (is_sought_line sought.Header q) (standing lines) ≡ false → ¬ HasSection lines q
no_section q lines below none (inl root) = below root
no_section q lines below none (inr header) = true≢false (sym header ∙ none)

pub insert_in_place : (q : Address) (name : List ℕ) (v : Value) (manner : Manner) (lines : List Line) → HasTable lines q
    → IsInserted q name v manner lines (insert_in q name v manner lines)
insert_in_place [] name v manner lines there = inl (root_place name v manner lines)
insert_in_place (s ∷ q) name v manner lines (inl (inl none)) = cc
insert_in_place (s ∷ q) name v manner lines (inl (inr header)) =
    inl (subst (IsPlace (s ∷ q) name v manner lines) (sym (cond-true _ _ _ header))
    (inr (header_place (s ∷ q) name v manner lines _ (below_place (s ∷ q) name v manner lines header))))
insert_in_place (s ∷ q) name v manner lines (inr (inl dotted)) =
    let put = among_place (s ∷ q) name v manner lines (λ is. cc) dotted in
    let (first, rest, key_is) = put.some in
    inl (inr (dotted_place (s ∷ q) name v manner lines _ put first rest key_is (no_section (s ∷ q) lines (λ is. cc) dotted.no_header)))
insert_in_place (s ∷ q) name v manner lines (inr (inr implied)) = inr (implied, ahead_place (s ∷ q) name v manner lines (λ is. cc) implied)

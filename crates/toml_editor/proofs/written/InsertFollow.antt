-- The working tree after a plain `insert` stands for the text that the edit writes.
use Rattle.std.proofs.Common.{◌≡◌, ◌∙◌, inl, inr, ℕ, List, [], ◌∷◌, ◌++◌, drop, length, map, None, refl, sym, subst, ap}
use Rattle.std.specs.declared.alloc.Global.{Global}
use Rattle.std.specs.declared.string.String.{String}
use Rattle.toml_text.specs.Source.{text_of}
use Rattle.toml_scalar.specs.Spelling.{spelled as spelled_name}
use Rattle.toml_tree.specs.Profiles.{IsValueIn}
use Rattle.toml_tree.specs.Spells.{AreLines}
use Rattle.toml_tree.specs.Tree.{Line, Value}
use Rattle.toml_tree.specs.declared.profile.Profile.{Profile}
use Rattle.toml_names.specs.declared.model.address.Step.{Step}
use Rattle.toml_names.specs.declared.model.address.Step.TheVariants.{Name}
use Rattle.toml_names.specs.mentions.Mentions.{named}
use Rattle.toml_names.specs.mentions.Rules.{KeepsRules}
use Rattle.toml_names.specs.model.Addresses.{Address, child}
use Rattle.toml_names.specs.model.Data.{Kinds}
use Rattle.toml_edits.specs.After.{IsAfter}
use Rattle.toml_edits.specs.Edits.{insert}
use Rattle.toml_edits.specs.Faults.{IsFault}
use Rattle.toml_layout.specs.declared.texts.Texts.{Texts}
use Rattle.toml_working.specs.declared.working.Tree.{Tree}
use Rattle.toml_editor.specs.Exact.{Follows, IsAt}
use Rattle.toml_working.specs.InsertingInTables.{insert_in}
use Rattle.toml_working.specs.Putting.{InsertsLines, IsNameIn, manner}
use Rattle.toml_working.specs.InTables.{TreePutsIn}
use Rattle.toml_working.specs.Spellings.{AreSteps, step_spelled}
use Rattle.toml_working.specs.Standing.{Read, standing}
use Rattle.toml_working.specs.Stands.{KeepsRest, Stands}
use Rattle.toml_working.specs.Starting.{NoneIsGone}
use Rattle.toml_working.specs.Premises.{HasTable}
use Rattle.toml_editor.specs.Steps.{IsPlain}
use Rattle.toml_layout.specs.TreeOutlines.{value_outline}
use Rattle.toml_editor.proofs.SourceKept.{source_kept}
use Rattle.toml_editor.proofs.written.ImpliedStands.{implied_is_below, insert_stands_ahead}
use Rattle.toml_editor.proofs.written.BelowStands.{insert_stands_below}
use Rattle.toml_editor.proofs.written.DottedKeys.{dotted_is_keyed}
use Rattle.toml_editor.proofs.written.DottedStands.{insert_stands_among}
use Rattle.toml_editor.proofs.written.Follow.{follows}
use Rattle.toml_editor.proofs.written.HeadersAlone.{header_is_alone}
use Rattle.toml_editor.proofs.written.InsertStands.{insert_stands, root_comes_first}
use Rattle.toml_editor.proofs.written.OnePlace.{one_place_in_section}
use Rattle.toml_editor.proofs.written.OnePlaceDotted.{one_place_among}
use Rattle.toml_editor.proofs.written.StandingOrder.{rules_order}

-- edited lines, for which the tree stands
module _ (profile : Profile) (read : Read) (old new : Tree) (value text : List ℕ) (kinds now : Kinds) (at : IsAt profile read old text kinds) (rest : KeepsRest old new)
    (q : Address) (name : List ℕ) (v : Value) (is : IsValueIn profile v value) (there : HasTable at.good.tree.lines q) where
  abbrev lines : List Line
  lines = at.good.tree.lines

  edited_follows : IsFault profile (insert (child q name) value) kinds None → IsAfter profile (insert (child q name) value) kinds now
      → Stands (text_of old.texts.source) read new.slots.items (standing (insert_in q name v (manner old) lines)) → Follows profile read (insert (child q name) value) old new text now
  edited_follows none is_after made =
      follows profile read (insert (child q name) value) old new text kinds now (insert_in q name v (manner old) lines) at.newline at.good none is_after
      (v, is, q, name, refl, there, refl)
      (subst (λ (s : Texts). Stands (text_of s.source) read new.slots.items (standing (insert_in q name v (manner old) lines))) (sym rest.texts) made)
      (subst NoneIsGone (sym rest.elements) at.whole) rest.texts (source_kept old new rest.texts rest.style rest.blank).mannered

-- the spelling of the last step
name_spelled : (q : Address) (name : List ℕ) (p : Address) (steps : List (String Global)) → p ≡ child q name → AreSteps p steps → IsNameIn q name p steps
name_spelled q name p steps is spelled = record {
  some = λ none. cc;
  at_is = is;
  steps_is = ap (drop (length q)) (spelled ∙ ap (map step_spelled) is) ∙ last_of q;
}
  where
    last_of : (r : Address) → drop (length r) (map step_spelled (r ++ Name name ∷ [])) ≡ spelled_name name ∷ []
    last_of [] = refl
    last_of (s ∷ r) = last_of r

-- the lines for which it stands are those
made_lines : (read : Read) (old new : Tree) (p : Address) (name : List ℕ) (q : Address) (v : Value) (steps : List (String Global)) (lines : List Line) → AreLines lines
    → KeepsRules (named lines) → Stands (text_of old.texts.source) read old.slots.items (standing lines) → p ≡ child q name → AreSteps p steps → HasTable lines q
    → InsertsLines p steps (value_outline v) (manner old) (text_of old.texts.source) read old.slots.items new.slots.items
    → TreePutsIn q p steps (value_outline v) read old new
    → Stands (text_of old.texts.source) read new.slots.items (standing (insert_in q name v (manner old) lines))
made_lines read old new p name [] v steps lines forms keeps stands own spelled there inserts below =
    subst (Stands (text_of old.texts.source) read new.slots.items) (sym (insert_stands name v (manner old) lines forms))
    (inserts name (name_spelled [] name p steps own spelled) (standing lines) stands (root_comes_first lines forms))
made_lines read old new p name (s ∷ q) v steps lines forms keeps stands own spelled (inl (inl none)) inserts below = cc
made_lines read old new p name (s ∷ q) v steps lines forms keeps stands own spelled (inl (inr header)) inserts below =
    let some : ¬ (s ∷ q ≡ []) = λ e. cc in
    let (ts, made, put) = below.header some name (name_spelled (s ∷ q) name p steps own spelled) (standing lines) stands (rules_order lines keeps)
    (header_is_alone (s ∷ q) lines keeps header) in
    subst (Stands (text_of old.texts.source) read new.slots.items)
    (one_place_in_section (s ∷ q) name (value_outline v) (manner old) lines ts _ some keeps put
    (insert_stands_below (s ∷ q) name v (manner old) lines forms some (inr header))) made
made_lines read old new p name (s ∷ q) v steps lines forms keeps stands own spelled (inr (inl dotted)) inserts below =
    let some : ¬ (s ∷ q ≡ []) = λ e. cc in
    let (ts, made, put) = below.dotted name own spelled (standing lines) stands (rules_order lines keeps) (dotted_is_keyed (s ∷ q) lines dotted) in
    subst (Stands (text_of old.texts.source) read new.slots.items)
    (one_place_among (s ∷ q) name (value_outline v) (manner old) lines ts _ keeps put (insert_stands_among (s ∷ q) name v (manner old) lines forms some dotted)) made
made_lines read old new p name (s ∷ q) v steps lines forms keeps stands own spelled (inr (inr implied)) inserts below =
    let some : ¬ (s ∷ q ≡ []) = λ e. cc in
    subst (Stands (text_of old.texts.source) read new.slots.items) (sym (insert_stands_ahead (s ∷ q) name v (manner old) lines forms some keeps implied))
    (below.implied some name own spelled (standing lines) stands (rules_order lines keeps) (implied_is_below (s ∷ q) lines implied))

pub insert_follows : (profile : Profile) (read : Read) (old new : Tree) (p : Address) (value text : List ℕ) (kinds now : Kinds)
    (at : IsAt profile read old text kinds) → IsFault profile (insert p value) kinds None → IsAfter profile (insert p value) kinds now
    → IsPlain at.good.tree.lines (insert p value) → KeepsRest old new → (v : Value) → IsValueIn profile v value → (steps : List (String Global)) → AreSteps p steps
    → InsertsLines p steps (value_outline v) (manner old) (text_of old.texts.source) read old.slots.items new.slots.items
    → ((q : Address) (last : Step) → p ≡ q ++ last ∷ [] → TreePutsIn q p steps (value_outline v) read old new)
    → Follows profile read (insert p value) old new text now
insert_follows profile read old new p value text kinds now at none is_after (q, name, own, there) rest v is steps spelled inserts below =
    let lines = at.good.tree.lines in
    let made = made_lines read old new p name q v steps lines at.good.spelled.0.lines.forms at.good.good.0 at.stands own spelled there inserts
    (below q (Name name) own) in
    subst (λ x. Follows profile read (insert x value) old new text now) (sym own)
    (edited_follows profile read old new value text kinds now at rest q name v is there
    (subst (λ x. IsFault profile (insert x value) kinds None) own none) (subst (λ x. IsAfter profile (insert x value) kinds now) own is_after) made)

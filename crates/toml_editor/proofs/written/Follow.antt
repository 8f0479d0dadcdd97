-- The working tree after a plain edit stands for the text that the edit writes.
use Rattle.std.proofs.Common.{◌≡◌, ℕ, Bool, true, List, [], ◌∷◌, ◌++◌, None, refl, sym, ap, subst, ◌∙◌, subst₂}
use Rattle.toml_text.specs.Forms.{IsNewline}
use Rattle.toml_text.specs.Source.{text_of}
use Rattle.toml_tree.specs.Bare.{bare_lines}
use Rattle.toml_tree.specs.Profiles.{IsValueIn}
use Rattle.toml_tree.specs.Spells.{joined, lines_parts}
use Rattle.toml_tree.specs.Tree.{Value, Line}
use Rattle.toml_tree.specs.declared.profile.Profile.{Profile}
use Rattle.toml_names.specs.model.Addresses.{Address, child}
use Rattle.toml_names.specs.model.Data.{Kinds}
use Rattle.toml_edits.specs.After.{IsAfter}
use Rattle.toml_edits.specs.Edits.{Change, set, remove}
use Rattle.toml_edits.specs.Faults.{IsFault}
use Rattle.toml_layout.specs.declared.texts.Texts.{Texts}
use Rattle.toml_working.specs.declared.working.Tree.{Tree}
use Rattle.toml_editor.specs.Exact.{Follows, IsAt}
use Rattle.toml_layout.specs.OpenOutlines.{leaf_text}
use Rattle.toml_working.specs.Manners.{Manner}
use Rattle.toml_working.specs.Putting.{manner}
use Rattle.toml_working.specs.Removing.{remove_lines}
use Rattle.toml_working.specs.RemovingIn.{RemovesLines}
use Rattle.toml_working.specs.Setting.{set_lines}
use Rattle.toml_working.specs.Standing.{Read, standing}
use Rattle.toml_working.specs.Stands.{KeepsRest, SetsLines, Stands}
use Rattle.toml_working.specs.Starting.{NoneIsGone}
use Rattle.toml_editor.specs.Steps.{IsGoodText, IsPlain}
use Rattle.toml_layout.specs.TreeOutlines.{value_outline}
use Rattle.toml_working.specs.Premises.{HasLine, HasValue}
use Rattle.toml_editor.specs.EditedLines.{AreEdited, IsWritten, manner_after}
use Rattle.toml_editor.proofs.Mannered.{keeps_newline}
use Rattle.toml_editor.proofs.SourceKept.{source_kept}
use Rattle.toml_editor.proofs.written.RemoveNamed.{line_parts}
use Rattle.toml_editor.proofs.written.RemovedEither.{remove_stands}
use Rattle.toml_editor.proofs.written.Steps.{plain_step, step_lines}
use Rattle.toml_editor.proofs.written.SetStanding.{set_stands}
use Rattle.toml_editor.proofs.written.StandingBare.{places_do_not_stand}
use Rattle.toml_editor.proofs.written.StandingHas.{value_stands}
use Rattle.toml_editor.proofs.written.StandingThere.{standing_is_value}
use Rattle.toml_editor.proofs.written.StandingOrder.{rules_order}

-- edited lines, for which the tree stands
pub follows : (profile : Profile) (read : Read) (c : Change) (old new : Tree) (text : List ℕ) (kinds now : Kinds) (edited : List Line) → IsNewline (leaf_text old.style)
    → (good : IsGoodText profile text kinds) → IsFault profile c kinds None → IsAfter profile c kinds now
    → AreEdited profile c (manner old) good.tree.lines edited
    → Stands (text_of new.texts.source) read new.slots.items (standing edited) → NoneIsGone new.elements → new.texts ≡ old.texts
    → manner new ≡ manner_after c (manner old) good.tree.lines
    → Follows profile read c old new text now
follows profile read c old new text kinds now edited newline good none is_after are stands whole texts mannered =
    let after = good.tree.mark.text ++ joined (lines_parts edited) in
    let written : IsWritten profile c (manner old) text after = (good.tree, good.spelled, edited, are, refl) in
    let step = plain_step profile c (manner old) text after kinds now newline good none is_after written in
    let same : bare_lines step.0.tree.lines ≡ bare_lines edited =
    step_lines profile c (manner old) text after kinds now newline good none is_after written in
    record {
      after = after;
      written = written;
      at = record {
        good = step.0;
        stands = subst (Stands (text_of new.texts.source) read new.slots.items) (sym (places_do_not_stand step.0.tree.lines edited same)) stands;
        whole = whole;
        newline = subst IsNewline (sym (ap (λ (m : Manner). m.newline) mannered ∙ keeps_newline c (manner old) good.tree.lines)) newline;
      };
      texts = texts;
      mannered = mannered;
    }

-- a `set` of a value that is there is made, and the tree then stands for the text that it writes
module _ (profile : Profile) (read : Read) (old new : Tree) (p : Address) (value text : List ℕ) (kinds now : Kinds)
    (at : IsAt profile read old text kinds) (none : IsFault profile (set p value) kinds None) (is_after : IsAfter profile (set p value) kinds now)
    (there : HasValue at.good.tree.lines p) (rest : KeepsRest old new) where
  pub set_follows : ¬ (p ≡ []) → (v : Value) → IsValueIn profile v value → (done : Bool)
      → SetsLines p (value_outline v) (text_of old.texts.source) read old.slots.items new.slots.items done
      → (done ≡ true) × Follows profile read (set p value) old new text now
  set_follows apart v is done sets =
      let lines = at.good.tree.lines in
      let rules = at.good.good.0 in
      let made = sets apart (standing lines) at.stands (rules_order lines rules) in
      let edited = set_lines p v lines in
      let stands : Stands (text_of new.texts.source) read new.slots.items (standing edited) =
      subst₂ (λ (s : Texts) ls. Stands (text_of s.source) read new.slots.items ls) (sym rest.texts) (sym (set_stands p v lines apart there rules)) made.0 in (
        made.1 ∙ value_stands p lines apart there,
        follows profile read (set p value) old new text kinds now edited at.newline at.good none is_after (v, is, there, refl) stands
            (subst NoneIsGone (sym rest.elements) at.whole) rest.texts (source_kept old new rest.texts rest.style rest.blank).mannered,
      )

-- a `set` that is made is one of a value that is there
pub set_is_there : (profile : Profile) (read : Read) (old new : Tree) (p : Address) (text : List ℕ) (kinds : Kinds) (at : IsAt profile read old text kinds)
    → ¬ (p ≡ []) → (v : Value) (done : Bool) → SetsLines p (value_outline v) (text_of old.texts.source) read old.slots.items new.slots.items done
    → done ≡ true → HasValue at.good.tree.lines p
set_is_there profile read old new p text kinds at apart v done sets is =
    let lines = at.good.tree.lines in
    let made = sets apart (standing lines) at.stands (rules_order lines at.good.good.0) in
    standing_is_value p lines (sym made.1 ∙ is)

-- the root is no value of a line
value_not_root : (p : Address) (lines : List Line) → HasLine lines p → ¬ (p ≡ [])
value_not_root p lines there none = let (table, name, member) = line_parts p lines there in no_member table name (sym none ∙ member)
  where
    no_member : (table : Address) (name : List ℕ) → [] ≡ child table name → ⊥
    no_member [] name is = cc
    no_member (s ∷ table) name is = cc

-- a `remove` of the line of a value is made, and so is the text
pub remove_follows : (profile : Profile) (read : Read) (old new : Tree) (p : Address) (text : List ℕ) (kinds now : Kinds) (at : IsAt profile read old text kinds)
    → IsFault profile (remove p) kinds None → IsAfter profile (remove p) kinds now → IsPlain at.good.tree.lines (remove p)
    → RemovesLines p read old new → Follows profile read (remove p) old new text now
remove_follows profile read old new p text kinds now at none is_after there removes =
    let lines = at.good.tree.lines in
    let (rest, made) = removes (value_not_root p lines there) (standing lines) at.stands (rules_order lines at.good.good.0) there in
    let edited = remove_lines p lines in
    let stands : Stands (text_of new.texts.source) read new.slots.items (standing edited) =
    subst₂ (λ (s : Texts) ls. Stands (text_of s.source) read new.slots.items ls) (sym rest.texts) (sym (remove_stands p lines there at.good.good.0)) made in
    follows profile read (remove p) old new text kinds now edited at.newline at.good none is_after (there, refl) stands
    (subst NoneIsGone (sym rest.elements) at.whole) rest.texts (source_kept old new rest.texts rest.style rest.blank).mannered

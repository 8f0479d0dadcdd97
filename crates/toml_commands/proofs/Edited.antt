-- What the editor's answers come to.
use Rattle.std.proofs.Common.{◌≡◌, ◌≤◌, ◌+◌, inl, inr, ℕ, List, [], ◌∷◌, length, Result, Ok, Err, refl, ap, subst, arith, length-append}
use Rattle.std.proofs.lemmas.List.{length-drop}
use Rattle.std.proofs.lemmas.Result.{IfOk-weaker}
use Rattle.std.specs.Prelude.{IfErr, IfOk, codes}
use Rattle.std.specs.declared.alloc.AllocError.{AllocError}
use Rattle.toml_text.specs.Forms.{IsNewline}
use Rattle.toml_text.specs.Limit.{IsText, max_len}
use Rattle.toml_tree.specs.Parts.{size}
use Rattle.toml_tree.specs.Spells.{AreLines, Spells, expr_parts, line_parts, lines_parts, mark_of, piece}
use Rattle.toml_tree.specs.Tree.{Doc, Line}
use Rattle.toml_tree.proofs.Proved.{sizes_add}
use Rattle.toml_tree.specs.declared.profile.Profile.{Profile}
use Rattle.toml_names.specs.reader.Names.{RefusesNames}
use Rattle.toml_names.specs.declared.fault.NameFault.{NameFault}
use Rattle.toml_names.specs.declared.fault.NameFault.TheVariants as names
use Rattle.toml_edits.specs.EditList.{IsEditList}
use Rattle.toml_edits.specs.Edits.{Change}
use Rattle.toml_units.specs.Certificates.{certificate_of}
use Rattle.toml_editor.specs.Edited as editor
use Rattle.toml_layout.specs.declared.layout.Layout.{Layout}
use Rattle.toml_layout.specs.declared.layout.Layout.TheVariants as layouts
use Rattle.toml_editor.specs.declared.fault.EditorFault.{EditorFault}
use Rattle.toml_editor.specs.declared.fault.EditorFault.TheVariants as faults
use Rattle.toml_commands.specs.Edit.{Edits, IsEditing, IsEditorEnding, IsUnedited, IsUnmade, TellsNumber}
use Rattle.toml_delivery.specs.Outcomes.{Answers, Ends, Gives, Tells, texts_of}
use Rattle.toml_commands.specs.Reading.{HasNumber}
use Rattle.toml_delivery.specs.declared.ending.Ending.{Ending}
use Rattle.toml_delivery.specs.declared.ending.Ending.TheVariants as ends
use Rattle.toml_delivery.specs.declared.outcome.Answer.{Answer}
use Rattle.toml_delivery.specs.declared.outcome.Outcome.{Outcome}
use Rattle.toml_delivery.specs.declared.refusal.Refusal.{Refusal}

-- ---- a text has at most one line more than bytes

newline_has_byte : (bs : List ℕ) → IsNewline bs → 1 ≤ length bs
newline_has_byte bs (inl is) = let one = ap length is in omega (arith, one)
newline_has_byte bs (inr is) = let two = ap length is in omega (arith, two)

lines_have_bytes : (ls : List Line) → AreLines ls → length ls ≤ size (lines_parts ls) + 1
lines_have_bytes [] are = absurd are
lines_have_bytes (l ∷ []) are = omega arith
lines_have_bytes (l ∷ m ∷ ls) are =
    let rest = lines_have_bytes (m ∷ ls) are.2 in
    let one = sizes_add (line_parts l) (lines_parts (m ∷ ls)) in
    let two = sizes_add (expr_parts l.expr) (piece l.newline ∷ []) in
    let three = length-append l.newline.text [] in
    let byte = newline_has_byte l.newline.text are.1 in
    omega (arith, rest, one, two, three, byte)

lines_are_few : (d : Doc) (text : List ℕ) → IsText text → Spells d text → length d.lines ≤ max_len + 1
lines_are_few d text fits spelled =
    let few = lines_have_bytes d.lines spelled.lines.forms in
    let all = ap length spelled.lines.text_is in
    let behind = length-drop (length (mark_of text)) text in
    let most = fits.fits in
    omega (arith, few, all, behind, most)

refused_line : (d : Doc) (fault : NameFault) → length d.lines ≤ max_len + 1 → RefusesNames d.lines fault → HasNumber fault
refused_line d (names.Redefined line at) few refused = let there = refused.there in omega (arith, few, there)
refused_line d (names.LongAddress line) few refused = let there = refused.there in omega (arith, few, there)
refused_line d names.NoMemory few refused = tt

-- so the number of a line that the editor tells is a machine number
pub numbered : (layout : Layout) (profile : Profile) (before : List ℕ) (cs : List Change) (fault : EditorFault)
    → editor.TellsWith layout profile before cs fault → TellsNumber fault
numbered layout profile before cs (faults.Text fault) told = tt
numbered layout profile before cs (faults.Syntax fault) told = tt
numbered layout profile before cs (faults.Names fault) told = refused_line told.2.0 fault (lines_are_few told.2.0 before told.1 told.2.1) told.2.2.1
numbered layout profile before cs (faults.Edit index fault) told = tt
numbered layout profile before cs (faults.Spread index) told = tt
numbered layout profile before cs (faults.LastElement index) told = tt
numbered layout profile before cs faults.TooLong told = tt
numbered layout profile before cs (faults.Unverified reason) told = tt
numbered layout profile before cs faults.NoMemory told = tt

module _ (layout : Layout) (profile : Profile) (before edits : List ℕ) where
  -- the ending of an editor's fault is one of the edits,
  pub unmade : (cs : List Change) (fault : EditorFault) (e : Ending) → editor.TellsWith layout profile before cs fault → IsEditorEnding fault e → Ends (IsUnmade layout profile before cs) e
  unmade cs fault (ends.Refused r) told stands = record { fault = fault; told = told; stands = stands }
  unmade cs fault ends.NoMemory told stands = tt

  -- and so of `edit`
  pub unedited : (cs : List Change) (e : Ending) → IsEditList edits cs → Ends (IsUnmade layout profile before cs) e → Ends (IsUnedited layout profile before edits) e
  unedited cs (ends.Refused r) listed is = inr (record { changes = cs; listed = listed; unmade = is })
  unedited cs ends.NoMemory listed is = tt

module _ (profile : Profile) (before edits : List ℕ) where
  pub edited : (cs : List Change) (text : List ℕ) (pairs : List (ℕ × ℕ)) (a : Answer) → IsEditList edits cs → editor.IsEditedWith layouts.Plain profile before cs text pairs → a.out.items ≡ codes "ok\n" → texts_of a.files.items ≡ text ∷ certificate_of pairs ∷ []
      → IsEditing profile before edits a
  edited cs text pairs a listed is printed written = (printed, text, certificate_of pairs, written, record { changes = cs; listed = listed; made = record { pairs = pairs; edited = is; written = refl } })

  told : (r : Refusal) → IsUnedited layouts.Plain profile before edits r → (o : Outcome) → Tells r o → Edits profile before edits o
  told r (inl bad) o tells = inl (r, bad, tells)
  told r (inr is) o tells = inr (is.changes, is.listed, inr (r, is.unmade, tells))

  -- what the command comes to
  pub comes : (answer : Result Answer Ending) (result : Result Outcome AllocError) → IfOk answer (IsEditing profile before edits) → IfErr answer (Ends (IsUnedited layouts.Plain profile before edits)) → IfOk result (Answers answer) → IfOk result (Edits profile before edits)
  comes (Ok a) result good bad =
      IfOk-weaker result (Gives a.out.items (texts_of a.files.items)) (Edits profile before edits)
      (λ o gives. inr (
        good.4.changes,
        good.4.listed,
        inl (
          good.1,
          good.2,
          good.4.made,
          subst (λ (out : List ℕ). Gives out (good.1 ∷ good.2 ∷ []) o) good.0
              (subst (λ (files : List (List ℕ)). Gives a.out.items files o) good.3 gives),
        ),
      ))
  comes (Err (ends.Refused r)) result good bad = IfOk-weaker result (Tells r) (Edits profile before edits) (told r bad)
  comes (Err ends.NoMemory) result good bad = IfOk-weaker result (λ o. ⊥) (Edits profile before edits) (λ o none. absurd none)

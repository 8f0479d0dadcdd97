-- The working tree after a plain section or element stands for the text that it writes.
use Rattle.std.proofs.Common.{◌≡◌, ℕ, Bool, true, false, ◌&&◌, ◌||◌, None, List, [], ◌∷◌, ◌++◌, map, refl, sym, ap, ap₂, ◌∙◌, subst, subst₂}
use Rattle.std.specs.Prelude.{is_some, not, string_bytes}
use Rattle.std.specs.List.{list_any}
use Rattle.std.specs.declared.alloc.Global.{Global}
use Rattle.std.specs.declared.string.String.{String}
use Rattle.std.proofs.lemmas.Bool.{cond-false}
use Rattle.toml_text.specs.Source.{text_of}
use Rattle.toml_scalar.specs.Spelling.{spelled}
use Rattle.toml_tree.specs.Profiles.{SpellsIn}
use Rattle.toml_tree.specs.Tree.{Doc, Line}
use Rattle.toml_tree.specs.declared.profile.Profile.{Profile}
use Rattle.toml_names.specs.declared.model.address.Step.{Step}
use Rattle.toml_names.specs.declared.model.address.Step.TheVariants.{Index, Name}
use Rattle.toml_names.specs.model.Addresses.{Address, child, element}
use Rattle.toml_names.specs.model.Data.{Kinds}
use Rattle.toml_names.proofs.Proved.{lines_are_closed}
use Rattle.toml_edits.specs.After.{IsAfter}
use Rattle.toml_edits.specs.Edits.{new_element, new_section}
use Rattle.toml_edits.specs.Faults.{IsFault}
use Rattle.toml_edits.specs.declared.fault.EditFault.TheVariants.{NotAName, NotAnElement}
use Rattle.toml_layout.specs.OpenOutlines.{leaf_text}
use Rattle.toml_layout.specs.Holders.{parent_of}
use Rattle.toml_layout.specs.declared.texts.Texts.{Texts}
use Rattle.toml_layout.specs.declared.tree.Brackets.{Brackets}
use Rattle.toml_layout.specs.declared.tree.Brackets.TheVariants.{One, Two}
use Rattle.toml_layout.specs.declared.tree.Leaf.{Leaf}
use Rattle.toml_working.specs.declared.working.Tree.{Tree}
use Rattle.toml_working.specs.AddingHeaders.{IsAsked}
use Rattle.toml_working.specs.Following.{ArrayIsNotRoot, may_write_blank}
use Rattle.toml_working.specs.HeaderStanding.{blank_standing, header_laid_out, header_standing}
use Rattle.toml_working.specs.Headers.{element_of, innermost}
use Rattle.toml_working.specs.Manners.{Manner, ends_in_newline}
use Rattle.toml_working.specs.Putting.{manner}
use Rattle.toml_working.specs.PuttingHeaders.{AreSpellings}
use Rattle.toml_working.specs.Standing.{Read, holds, standing}
use Rattle.toml_working.specs.Stands.{KeepsTexts, Stands}
use Rattle.toml_working.specs.Starting.{NoneIsGone}
use Rattle.toml_working.specs.Premises.{IsInNoValue}
use Rattle.toml_editor.specs.EditedLines.{with_header, manner_behind}
use Rattle.toml_editor.specs.Exact.{Follows, IsAt, WritesHeader}
use Rattle.toml_editor.specs.PlainTexts.{IsRefusedIn}
use Rattle.toml_working.specs.Spellings.{AreSteps, step_spelled}
use Rattle.toml_editor.specs.Steps.{IsPlain}
use Rattle.toml_editor.proofs.written.Closed.{no_end}
use Rattle.toml_editor.proofs.written.Follow.{follows}
use Rattle.toml_editor.proofs.written.FollowedFacts.{name_is_no_element}
use Rattle.toml_editor.proofs.written.HeaderFacts.{element_room, section_room}
use Rattle.toml_editor.proofs.written.HeaderLaidOut.{StandsInLayout, element_laid_out, section_laid_out}
use Rattle.toml_editor.proofs.written.InTurn.{documents_are_ready}
use Rattle.toml_editor.proofs.written.StandingOrder.{rules_order}
use Rattle.toml_editor.proofs.written.TablesStay.{parent_is}

-- the steps that are spelled are the spellings of names
are_spellings : (p : Address) (texts : List (List ℕ)) → texts ≡ map step_spelled p → AreSpellings p texts
are_spellings [] texts is = tt
are_spellings (s ∷ p) [] is = cc
are_spellings (Name n ∷ p) (text ∷ texts) is =
    let first : text ≡ spelled n = cc in
    let rest : texts ≡ map step_spelled p = cc in
    (first, are_spellings p texts rest)
are_spellings (Index i ∷ p) (text ∷ texts) is = let rest : texts ≡ map step_spelled p = cc in are_spellings p texts rest

-- a blank line may be written if none was before, and none is now
still_may : (had now ends : Bool) → (not (had || now) && ends) ≡ ((not had && ends) && not now)
still_may true true true = refl
still_may true true false = refl
still_may true false true = refl
still_may true false false = refl
still_may false true true = refl
still_may false true false = refl
still_may false false true = refl
still_may false false false = refl

-- what is answered of a header line: what then stands, and that it is put in, or that a line's value stands right above or holds what does
pub header_told : (profile : Profile) (read : Read) (old new : Tree) (brackets : Brackets) (p q : Address) (last : Step) (text : List ℕ) (kinds : Kinds)
    (at : IsAt profile read old text kinds) → p ≡ q ++ last ∷ [] → ArrayIsNotRoot q p → (steps : List (String Global)) → AreSteps p steps
    → (done : Bool) → WritesHeader brackets read p steps old new done → let ss = standing at.good.tree.lines in
    Stands (text_of old.texts.source) read new.slots.items (header_standing q p brackets (manner old) ss)
    × (done ≡ not (list_any (holds q) ss))
    × (new.has_written_blank ≡ (old.has_written_blank || blank_standing q p brackets (manner old) ss))
header_told profile read old new brackets p q last text kinds at own array steps spells done puts =
    let lines = at.good.tree.lines in
    let rules = at.good.good.0 in
    let asked : IsAsked q p (innermost q) steps = record { right = (last, own); inner = refl; array = array; spells = are_spellings p (map string_bytes steps) spells } in
    puts q last own asked (standing lines) at.stands (rules_order lines rules)
    (documents_are_ready (manner old).layout q lines at.good.spelled.0.lines.forms rules)

module _ (profile : Profile) (read : Read) (old new : Tree) (brackets : Brackets) (p q : Address) (last : Step) (text : List ℕ) (kinds : Kinds)
    (at : IsAt profile read old text kinds) (own : p ≡ q ++ last ∷ []) (outside : IsInNoValue at.good.tree.lines q) (array : ArrayIsNotRoot q p)
    (rest : KeepsTexts old new) (steps : List (String Global)) (spells : AreSteps p steps) (done : Bool) (puts : WritesHeader brackets read p steps old new done) where
  abbrev lines : List Line
  lines = at.good.tree.lines

  -- what then is written by
  header_manner : new.has_written_blank ≡ (old.has_written_blank || blank_standing q p brackets (manner old) (standing lines))
      → manner new ≡ manner_behind brackets p (manner old) lines
  header_manner blank =
      ap₂ (λ (t : Texts) (s : Leaf). made t s (not new.has_written_blank && ends_in_newline (text_of t.source))) rest.texts rest.style
      ∙ ap (λ b. made old.texts old.style (not b && ends_in_newline (text_of old.texts.source))) blank
      ∙ ap (made old.texts old.style) (still_may old.has_written_blank (written q) (ends_in_newline (text_of old.texts.source)))
      ∙ ap (λ r. made old.texts old.style (may_write_blank old && not (written r))) (sym (parent_is q last) ∙ ap parent_of (sym own))
    where
      made : Texts → Leaf → Bool → Manner
      made t s b = record { newline = leaf_text s; layout = t.layout; may_blank = b }

      written : Address → Bool
      written r = blank_standing r p brackets (manner old) (standing lines)

  -- it is made, and the tree then stands for the lines with it
  header_made : StandsInLayout (manner old).layout q brackets (q ++ last ∷ []) (manner old) lines
      → (done ≡ true) × Stands (text_of new.texts.source) read new.slots.items (standing (with_header (manner old).layout q brackets p (manner old) lines))
      × (manner new ≡ manner_behind brackets p (manner old) lines)
  header_made there =
      let laid = subst Laid (sym own) there.stands in
      let (stands, told, blank) = header_told profile read old new brackets p q last text kinds at own array steps spells done puts in (
        told ∙ ap not outside,
        subst₂ (λ (s : Texts) ls. Stands (text_of s.source) read new.slots.items ls) (sym rest.texts) (cond-false _ _ _ outside ∙ sym laid) stands,
        header_manner blank,
      )
    where
      Laid : Address → Type 0
      Laid x =
          standing (with_header (manner old).layout q brackets x (manner old) lines)
          ≡ header_laid_out (manner old).layout q x brackets (manner old) (standing lines)

-- a section is made, and so is the text
pub section_follows : (profile : Profile) (read : Read) (old new : Tree) (p : Address) (text : List ℕ) (kinds now : Kinds) (at : IsAt profile read old text kinds)
    → IsFault profile (new_section p) kinds None → IsAfter profile (new_section p) kinds now → IsPlain at.good.tree.lines (new_section p)
    → KeepsTexts old new → (steps : List (String Global)) → AreSteps p steps → (done : Bool) → WritesHeader One read p steps old new done
    → (done ≡ true) × Follows profile read (new_section p) old new text now
section_follows profile read old new p text kinds now at none is_after (q, name, own, outside) rest steps spells done puts =
    let lines = at.good.tree.lines in
    let room = section_room profile q name kinds (subst (λ x. IsFault profile (new_section x) kinds None) own none) in
    let array : ArrayIsNotRoot q p = subst (ArrayIsNotRoot q) (sym own) (λ some root. (let x = name_is_no_element q name in cc)) in
    let put = with_header (manner old).layout q One p (manner old) lines in
    let there = section_laid_out q name (manner old) lines kinds at.good.spelled.0.lines.forms at.good.good.0 at.good.facts room outside in
    let (is_done, stands, mannered) = header_made profile read old new One p q (Name name) text kinds at own outside array rest steps spells done puts there in (
      is_done,
      follows profile read (new_section p) old new text kinds now put at.newline at.good none is_after (q, name, own, outside, refl) stands
          (subst NoneIsGone (sym rest.elements) at.whole) rest.texts mannered,
    )

-- and so is an element
pub element_follows : (profile : Profile) (read : Read) (old new : Tree) (p : Address) (text : List ℕ) (kinds now : Kinds) (at : IsAt profile read old text kinds)
    → IsFault profile (new_element p) kinds None → IsAfter profile (new_element p) kinds now → IsPlain at.good.tree.lines (new_element p)
    → KeepsTexts old new → (steps : List (String Global)) → AreSteps p steps → (done : Bool) → WritesHeader Two read p steps old new done
    → (done ≡ true) × Follows profile read (new_element p) old new text now
element_follows profile read old new p text kinds now at none is_after (q, i, own, outside) rest steps spells done puts =
    let lines = at.good.tree.lines in
    let room = element_room profile q i kinds (lines_are_closed lines kinds at.good.good.0 at.good.facts)
    (subst (λ x. IsFault profile (new_element x) kinds None) own none) in
    let array : ArrayIsNotRoot q p = (λ some root. no_end room.table.0 (Name room.table.1) [] (sym root ∙ room.table.2)) in
    let put = with_header (manner old).layout q Two p (manner old) lines in
    let there = element_laid_out q i (manner old) lines kinds at.good.spelled.0.lines.forms at.good.good.0 at.good.facts room outside in
    let (is_done, stands, mannered) = header_made profile read old new Two p q (Index i) text kinds at own outside array rest steps spells done puts there in (
      is_done,
      follows profile read (new_element p) old new text kinds now put at.newline at.good none is_after (q, i, own, outside, refl) stands
          (subst NoneIsGone (sym rest.elements) at.whole) rest.texts mannered,
    )

-- ---- where a header line is not put in

-- an array below the root is no element of it
below_root : (q p : Address) (s : Step) → p ≡ q ++ s ∷ [] → ((i : ℕ) → ¬ (p ≡ element [] i)) → ArrayIsNotRoot q p
below_root q p s own none some root = by s (own ∙ ap (λ x. x ++ s ∷ []) root)
  where
    by : (t : Step) → ¬ (p ≡ t ∷ [])
    by (Name n) is = (let x : is_some (element_of (Name n ∷ [])) ≡ true = subst (λ x. is_some (element_of x) ≡ true) is some in cc)
    by (Index i) is = none i is

-- right above stands a line's value, or what one holds: it is not put in
refused : (profile : Profile) (read : Read) (old new : Tree) (brackets : Brackets) (p q : Address) (last : Step) (text : List ℕ) (kinds : Kinds)
    → IsAt profile read old text kinds → p ≡ q ++ last ∷ [] → ArrayIsNotRoot q p → (steps : List (String Global)) → AreSteps p steps
    → (done : Bool) → WritesHeader brackets read p steps old new done → ((d : Doc) → SpellsIn profile d text → ¬ IsInNoValue d.lines q) → done ≡ false
refused profile read old new brackets p q last text kinds at own array steps spells done puts inside = by (list_any (holds q) (standing at.good.tree.lines)) refl
  where
    by : (b : Bool) → list_any (holds q) (standing at.good.tree.lines) ≡ b → done ≡ false
    by false is = absurd (inside at.good.tree at.good.spelled is)
    by true is = (header_told profile read old new brackets p q last text kinds at own array steps spells done puts).1 ∙ ap not is

-- so it is of a section
pub section_refused : (profile : Profile) (read : Read) (old new : Tree) (p : Address) (text : List ℕ) (kinds : Kinds) → IsAt profile read old text kinds
    → IsFault profile (new_section p) kinds None → (steps : List (String Global)) → AreSteps p steps → (done : Bool)
    → WritesHeader One read p steps old new done → IsRefusedIn profile text (new_section p) → done ≡ false
section_refused profile read old new p text kinds at none steps spells done puts (q, last, own, inside) =
    refused profile read old new One p q last text kinds at own (below_root q p last own (λ i is. none NotAName ([], i, is))) steps spells done puts inside

-- and of an element
pub element_refused : (profile : Profile) (read : Read) (old new : Tree) (p : Address) (text : List ℕ) (kinds : Kinds) → IsAt profile read old text kinds
    → IsFault profile (new_element p) kinds None → (steps : List (String Global)) → AreSteps p steps → (done : Bool)
    → WritesHeader Two read p steps old new done → IsRefusedIn profile text (new_element p) → done ≡ false
element_refused profile read old new p text kinds at none steps spells done puts (q, last, own, inside) =
    refused profile read old new Two p q last text kinds at own
    (below_root q p last own (λ i is. none NotAnElement (λ r n j other. not_long r n i j (sym is ∙ other)))) steps spells done puts inside
  where
    not_long : (r : Address) (n : List ℕ) (i j : ℕ) → ¬ (element [] i ≡ element (child r n) j)
    not_long [] n i j h = cc
    not_long (t ∷ []) n i j h = cc
    not_long (t ∷ u ∷ r) n i j h = cc

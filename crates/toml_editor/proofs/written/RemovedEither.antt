-- The `remove` of a value of a line, whether the table right above it stays without the line or not.
use Rattle.std.proofs.Common.{◌≡◌, ◌∙◌, Bool, true, false, Some, List, [], ◌∷◌, ◌++◌, refl, sym, ap, subst}
use Rattle.std.specs.Prelude.{flat_map}
use Rattle.toml_tree.specs.Spells.{AreLines, EachIs}
use Rattle.toml_tree.specs.Tree.{Line}
use Rattle.toml_names.specs.mentions.Clear.{IsClear}
use Rattle.toml_names.specs.mentions.Mentions.{fronts, named, section, table_at, value_named}
use Rattle.toml_names.specs.declared.mentions.mention.Role.TheVariants.{Dotted, Valued}
use Rattle.toml_names.specs.mentions.Rules.{KeepsRules}
use Rattle.toml_names.specs.model.Addresses.{Address, below, child}
use Rattle.toml_names.specs.model.Data.{IsDataOf}
use Rattle.toml_names.specs.reader.Names.{AreGood}
use Rattle.toml_edits.specs.After.{IsAfter}
use Rattle.toml_edits.specs.Edits.{remove}
use Rattle.toml_units.specs.Units.{TextUnit, units}
use Rattle.toml_editor.specs.Blocks.{IsPut, named_plain, value_block}
use Rattle.toml_editor.specs.RemoveLaws.{EmptyNames, RemoveData, RemoveGood, RemoveKeepsLines, RemoveNames}
use Rattle.toml_editor.specs.StandingLaws.{RemoveStands}
use Rattle.toml_editor.specs.UnitBlocks.{EmptyUnits, IsBlockTaken, RemoveUnits, pair_line_units}
use Rattle.toml_working.specs.Removing.{empty_table, lines_left, remove_lines}
use Rattle.toml_working.specs.RemoveStanding.{leaves_parent, removed_one, remove_standing}
use Rattle.toml_layout.specs.Holders.{parent_of}
use Rattle.toml_working.specs.Standing.{standing}
use Rattle.toml_working.specs.Premises.{HasLine}
use Rattle.toml_editor.proofs.written.EmptiedLine.{emptying, right_above}
use Rattle.toml_editor.proofs.written.EmptyKept.{empty_clear, empty_data, empty_good}
use Rattle.toml_editor.proofs.written.EmptyNamed.{empty_named}
use Rattle.toml_editor.proofs.written.EmptyStands.{AreEmptied, empty_stands, units_emptied}
use Rattle.toml_editor.proofs.written.RemoveKept.{taken_clear, taken_data, taken_good}
use Rattle.toml_editor.proofs.written.RemoveNamed.{line_parts, lines_part, taken_names}
use Rattle.toml_editor.proofs.written.RemoveStanding.{taken_stands}
use Rattle.toml_editor.proofs.written.UnitsTaken.{lines_taken}
use Rattle.toml_editor.proofs.written.WayEmptied.{emptied_way}
use Rattle.toml_editor.proofs.written.WayFits.{newlines}
use Rattle.toml_editor.proofs.written.WayTaken.{taken_way}
use Rattle.toml_editor.proofs.written.WayWhole.{HasWay}

-- what holds of both is what holds
pub either_way : (P : List Line → Type 0) (p : Address) (lines : List Line) → (leaves_parent p (standing lines) ≡ true → P (lines_left p true lines))
    → (leaves_parent p (standing lines) ≡ false → P (lines_left p false lines)) → P (remove_lines p lines)
either_way P p lines stays goes = by (leaves_parent p (standing lines)) refl
  where
    by : (b : Bool) → leaves_parent p (standing lines) ≡ b → P (remove_lines p lines)
    by true is = subst (λ t. P (lines_left p t lines)) (sym is) (stays is)
    by false is = subst (λ t. P (lines_left p t lines)) (sym is) (goes is)

lines_are : (p : Address) (b : Bool) (lines : List Line) → leaves_parent p (standing lines) ≡ b → remove_lines p lines ≡ lines_left p b lines
lines_are p b lines is = ap (λ t. lines_left p t lines) is

pub remove_names : RemoveNames
remove_names p lines there keeps =
    let (s, key, v, at, put) = taken_names p lines there.0 keeps in
    (s, key, v, at, subst (λ ls. IsPut (named_plain ls) (fronts 0 s key ++ value_block p v) (named_plain lines)) (sym (lines_are p true lines there.1)) put)

pub empty_names : EmptyNames
empty_names p lines there keeps =
    let e = emptying p lines there.0 there.1 keeps in
    let named_so = empty_named p lines e there.1 keeps in
    let q = right_above p lines e in
    record {
      value = named_so.value;
      front = named_so.front;
      back = named_so.back;
      before = named_so.before ∙ ap (λ a. named_so.front ++ ((table_at 0 Dotted a ∷ value_block p named_so.value) ++ named_so.back)) (sym q);
      after =
          ap named_plain (lines_are p false lines there.1) ∙ named_so.after
          ∙ ap (λ a. named_so.front ++ (value_named 0 Valued a empty_table ∷ named_so.back)) (sym q);
    }

pub remove_good : RemoveGood
remove_good p lines there good =
    either_way AreGood p lines (λ is. taken_good p lines there good)
    (λ is. empty_good p lines (emptying p lines there is good.0) is good.0 good)

pub remove_data : RemoveData
remove_data profile p lines old after there keeps is is' =
    either_way (λ ls. IsDataOf (named ls) after → IsAfter profile (remove p) old after) p lines
    (λ stays. taken_data profile p lines old after (there, stays) keeps is)
    (λ goes. empty_data p lines (emptying p lines there goes keeps) goes keeps profile old after is) is'

pub remove_keeps_lines : RemoveKeepsLines
remove_keeps_lines p lines there keeps = lines_part p (leaves_parent p (standing lines)) lines there keeps

-- nothing that is left is named at the value's address or below it
pub left_clear : (p : Address) (lines : List Line) → HasLine lines p → KeepsRules (named lines) → EachIs (λ m. IsClear p m.address) (named (remove_lines p lines))
left_clear p lines there keeps =
    either_way (λ ls. EachIs (λ m. IsClear p m.address) (named ls)) p lines (λ is. taken_clear p lines there keeps)
    (λ is. empty_clear p lines (emptying p lines there is keeps) is keeps)

pub remove_stands : RemoveStands
remove_stands p lines there keeps =
    either_way (λ ls. standing ls ≡ remove_standing p (standing lines)) p lines
    (λ is. taken_stands p lines ∙ ap (λ b. flat_map (removed_one p b) (standing lines)) (sym is))
    (λ is. empty_stands p lines (emptying p lines there is keeps) keeps ∙ ap (λ b. flat_map (removed_one p b) (standing lines)) (sym is))

pub remove_units : RemoveUnits
remove_units p lines is there keeps =
    let h = lines_taken p lines is there.0 keeps in
    (h.piece, h.base, h.value, h.comment, h.low, subst (λ ls. IsBlockTaken (units lines) (pair_line_units h.piece p h.base h.value h.comment) (units ls)) (sym (lines_are p true lines there.1)) h.taken)

pub empty_units : EmptyUnits
empty_units p lines there keeps =
    let h = units_emptied p lines (emptying p lines there.0 there.1 keeps) keeps in
    (h.piece, h.next, h.base, h.value, h.comment, h.front, h.back, h.before, ap units (lines_are p false lines there.1) ∙ h.after)

-- the newlines stay
same_ends : (front back : List Line) (l m : Line) → m.newline ≡ l.newline → newlines (front ++ m ∷ back) ≡ newlines (front ++ l ∷ back)
same_ends [] back l m is = ap (λ e. e.text ∷ newlines back) is
same_ends (x ∷ front) back l m is = ap (λ r. x.newline.text ∷ r) (same_ends front back l m is)

-- the way
module _ (p : Address) (lines : List Line) (forms : AreLines lines) (there : HasLine lines p) (keeps : KeepsRules (named lines)) where
  abbrev pub AllFar : List Line → Type 0
  AllFar ls = EachIs (λ (u : TextUnit). (a : Address) → u.address ≡ Some a → IsClear p a) (units ls)

  abbrev Way : List Line → Type 0
  Way ls = HasWay (remove p ∷ []) ([] ∷ []) lines ls

  taken : AllFar (lines_left p true lines) → Way (lines_left p true lines)
  taken far =
      let (table, name, at) = line_parts p lines there in
      subst (λ q. HasLine lines q → EachIs (λ (u : TextUnit). (a : Address) → u.address ≡ Some a → IsClear q a) (units (lines_left q true lines))
      → HasWay (remove q ∷ []) ([] ∷ []) lines (lines_left q true lines)) (sym at)
      (λ here clear. taken_way table name lines forms here keeps clear) there far

  emptied : leaves_parent p (standing lines) ≡ false → AllFar (lines_left p false lines) → Way (lines_left p false lines)
  emptied is far =
      let e = emptying p lines there is keeps in
      let q = below (section (named e.front)) (e.cut.first ∷ e.cut.rest) in
      let h = units_emptied p lines e keeps in
      let edited = lines_left p false lines in
      let same : newlines edited ≡ newlines lines = ap newlines e.now ∙ same_ends e.front e.back _ _ refl ∙ sym (ap newlines e.was) in
      subst (λ x. AreEmptied (parent_of p) x (units lines) (units edited)
      → EachIs (λ (u : TextUnit). (a : Address) → u.address ≡ Some a → IsClear x a) (units edited)
      → HasWay (remove x ∷ []) ([] ∷ []) lines edited) (sym e.at)
      (λ units_so clear. emptied_way q e.cut.last lines edited same
      (subst (λ t. AreEmptied t (child q e.cut.last) (units lines) (units edited)) (right_above p lines e) units_so) clear) h far

  pub remove_way : AllFar (remove_lines p lines) → Way (remove_lines p lines)
  remove_way far = either_way (λ ls. AllFar ls → Way ls) p lines (λ is. taken) (λ is. emptied is) far

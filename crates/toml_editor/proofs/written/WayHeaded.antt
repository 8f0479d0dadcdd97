-- The way of a new header line.
use Rattle.std.proofs.Common.{◌≡◌, inl, inr, ℕ, ◌+◌, ◌<◌, ◌&&◌, Bool, false, true, Option, Some, None, List, [], ◌∷◌, ◌++◌, length}
use Rattle.std.proofs.Common.{refl, sym, ap, ◌∙◌, subst, true≢false, append-nil, arith}
use Rattle.std.specs.Prelude.{not}
use Rattle.std.proofs.Math.Bool.{or-false}
use Rattle.toml_tree.specs.Spells.{AreLines, EachIs}
use Rattle.toml_tree.specs.Tree.{Line}
use Rattle.toml_names.specs.mentions.Mentions.{root}
use Rattle.toml_names.specs.model.Addresses.{Address, IsAbove, child, element}
use Rattle.toml_edits.specs.Carry.{carry}
use Rattle.toml_edits.specs.Edits.{Change, new_element, new_section, place}
use Rattle.toml_edits.specs.Sides.{is_below, side}
use Rattle.toml_edits.specs.declared.side.Side.{Side}
use Rattle.toml_edits.specs.declared.side.Side.TheVariants as sides
use Rattle.toml_edits.proofs.Proved.{sides_are_right}
use Rattle.toml_layout.specs.declared.tree.Brackets.{Brackets}
use Rattle.toml_layout.specs.declared.tree.Brackets.TheVariants.{One, Two}
use Rattle.toml_units.specs.declared.unit.UnitKind.TheVariants as kinds
use Rattle.toml_units.specs.Units.{TextUnit, units}
use Rattle.toml_checker.specs.declared.tables.Part.TheVariants as parts
use Rattle.toml_checker.specs.CarriedTo.{At, IsAtOrAbove}
use Rattle.toml_checker.specs.Comments.{is_comment, texts}
use Rattle.toml_checker.specs.Owed.{IsOwed, Owes, result}
use Rattle.toml_checker.specs.Plain.{Site, home_stands, is_named, stands}
use Rattle.toml_editor.specs.UnitBlocks.{line_of_nothing}
use Rattle.toml_editor.proofs.written.HeaderPut.{IsHeaderPut, IsOneMore}
use Rattle.toml_editor.proofs.written.UnitsHeaded.{IsPutAlone, IsPutParted, header_block, header_units}
use Rattle.toml_editor.proofs.written.UnitsPut.{formed_well}
use Rattle.toml_editor.proofs.written.Way.{is_here}
use Rattle.toml_editor.proofs.written.WayBlock.{lines_append, new_fits}
use Rattle.toml_editor.proofs.written.WayComments.{comments}
use Rattle.toml_editor.proofs.written.WayFits.{IsAsked, newlines}
use Rattle.toml_editor.proofs.written.WayKeeps.{ComesOwed, line_is}
use Rattle.toml_editor.proofs.written.WayKept.{count_lines, header_named}
use Rattle.toml_editor.proofs.written.WayOwed.{OwesBelow}
use Rattle.toml_editor.proofs.written.WayPut.{PutsLines, put_way_if}
use Rattle.toml_editor.proofs.written.WayWhole.{HasWayIf}
use Rattle.toml_editor.proofs.written.WayZip.{comments_stay, lines_in}

-- What an edit has that puts a header line in: it carries each address to itself, and names the lines of keys alone whose addresses are above its
-- own, and no comment.
record PutsHeader (c : Change) : Type 0 where
  stays : (a : Address) → carry c a ≡ Some a
  pair : (n : ℕ) (s : Side) → is_named parts.Line c (Some n) s ≡ is_below s
  header : (s : Side) → is_named parts.Line c None s ≡ false
  home : (base : Option ℕ) (s : Side) → is_named parts.Home c base s ≡ false
  comment : (base : Option ℕ) (s : Side) → is_named parts.Comment c base s ≡ false
  goes : result c ≡ Some (place c)
  above : (a : Address) → IsAtOrAbove a (place c) → Owes c (place c) a
  itself : OwesBelow c (place c) (place c)

section_puts : (p : Address) → PutsHeader (new_section p)
section_puts p = record {
  stays = λ a. refl;
  pair = λ n s. or-false (is_below s);
  header = λ s. refl;
  home = λ base s. elim base as (λ k. is_named parts.Home (new_section p) k s ≡ false) [ None ↦ refl | Some n ↦ refl ];
  comment = λ base s. refl;
  goes = refl;
  above = λ a is. inl is;
  itself = ([], sym (append-nil p));
}

element_puts : (p : Address) → PutsHeader (new_element p)
element_puts p = record {
  stays = λ a. refl;
  pair = λ n s. or-false (is_below s);
  header = λ s. refl;
  home = λ base s. elim base as (λ k. is_named parts.Home (new_element p) k s ≡ false) [ None ↦ refl | Some n ↦ refl ];
  comment = λ base s. refl;
  goes = refl;
  above = λ a is. inl is;
  itself = ([], sym (append-nil p));
}

unnamed : (b : Bool) → b ≡ false → (not b && true) ≡ true
unnamed b is = ap (λ x. not x && true) is

module _ (c : Change) (puts : PutsHeader c) where
  abbrev p : Address
  p = place c

  line_lost : (line : Option Site) (u : TextUnit) → u.kind ≡ kinds.Line → is_here (c ∷ []) line u ≡ false
      → (a : Address) × (u.address ≡ Some a) × IsAbove a p
  line_lost line u is gone = by u.address refl u.base (sym (line_is (c ∷ []) line u is) ∙ gone)
    where
      above : (a : Address) (s : Side) → side p a ≡ s → (not (is_below s) && true) ≡ false → IsAbove a p
      above a sides.Below at h = (sides_are_right p a).below.0 at
      above a sides.Above at h = absurd (true≢false h)
      above a sides.At at h = absurd (true≢false h)
      above a sides.Apart at h = absurd (true≢false h)

      by : (o : Option Address) → u.address ≡ o → (base : Option ℕ) → stands parts.Line (c ∷ []) o base ≡ false
          → (a : Address) × (u.address ≡ Some a) × IsAbove a p
      by None at base h = absurd (true≢false h)
      by (Some a) at None h = absurd (true≢false (sym (unnamed (is_named parts.Line c None (side p a)) (puts.header (side p a))) ∙ h))
      by (Some a) at (Some n) h = (a, at, above a (side p a) refl (ap (λ b. not b && true) (sym (puts.pair n (side p a))) ∙ h))

  home_here : (a : Option Address) (base : Option ℕ) → stands parts.Home (c ∷ []) a base ≡ true
  home_here None base = refl
  home_here (Some a) base = unnamed (is_named parts.Home c base (side p a)) (puts.home base (side p a))

  homes_here : (line : Option Site) → home_stands (c ∷ []) line ≡ true
  homes_here None = refl
  homes_here (Some l) = home_here l.address l.base

  self_here : (a : Option Address) (base : Option ℕ) → stands parts.Comment (c ∷ []) a base ≡ true
  self_here None base = refl
  self_here (Some a) base = unnamed (is_named parts.Comment c base (side p a)) (puts.comment base (side p a))

  owed : (a : Address) → IsAtOrAbove a p → IsOwed (c ∷ []) a
  owed a is = inl (p, p, puts.goes, refl, puts.above a is)

  owed_above : (a : Address) → IsAbove a p → IsOwed (c ∷ []) a
  owed_above a (s, rest, is) = owed a (s ∷ rest, is)

  header_lost : (line : Option Site) (u : TextUnit) → is_here (c ∷ []) line u ≡ false
      → (u.kind ≡ kinds.Line → At u.address (IsOwed (c ∷ []))) × (is_comment u.kind ≡ false)
  header_lost line u gone = (
    (λ is. let l = line_lost line u is gone in subst (λ o. At o (IsOwed (c ∷ []))) (sym l.1) (owed_above l.0 l.2)),
    comments_stay c homes_here self_here line u gone,
  )

  puts_lines : (block : List TextUnit) → 0 < lines_in block → texts (comments block) ≡ [] → PutsLines c [] block
  puts_lines block some none = record {
    stays = puts.stays;
    lost = header_lost;
    header = λ u is base line gone. let h = header_named c line u is base gone in absurd (true≢false (sym h.2 ∙ puts.header (side p h.0)));
    some = some;
    texts_are = none;
  }

  module _ (brackets : Brackets) (ws : List ℕ) (old edited : List Line) where
    abbrev before : List (List ℕ)
    before = newlines old

    abbrev after : List (List ℕ)
    after = newlines edited

    abbrev Asked : ℕ → TextUnit → Type 0
    Asked k w = IsAsked (c ∷ []) ([] ∷ []) before after k w

    abbrev block : List TextUnit
    block = header_block brackets p ws

    abbrev Way : Type 0
    Way = HasWayIf (IsOneMore old edited) (c ∷ []) ([] ∷ []) old edited

    -- the header line is owed
    header_asked : EachIs (λ w. (k : ℕ) → Asked k w) block
    header_asked = (
      (λ k. record { line = λ is. inl (owed p ([], sym (append-nil p))); comment = λ is. absurd (true≢false (sym is)) }),
      tt,
    )

    abbrev Comes : TextUnit → Type 0
    Comes = ComesOwed (c ∷ []) before after

    header_comes : EachIs Comes block
    header_comes = ((λ is none. inr (inl (inl (p, p, puts.goes, refl, puts.itself)))), tt)

    way_alone : AreLines old → IsPutAlone brackets p ws old edited → Way
    way_alone formed well =
        let firm = formed_well (AreLines old) (IsOneMore old edited) (units old) (units edited) block before after (λ any. formed) well in
        put_way_if c [] block (puts_lines block (omega arith) refl) old edited header_comes firm
        (λ line a. new_fits (c ∷ []) ([] ∷ []) before after block line a (lines_in firm.put.front) header_asked)

    -- behind a blank line a last line of no bytes comes with it
    way_parted : IsPutParted brackets p ws old edited → Way
    way_parted (well, none) =
        let front = well.put.front in
        let both = block ++ line_of_nothing ∷ [] in
        let last : (lines_in front + 1) + 1 ≡ length after =
        (let a = ap lines_in (well.put.after ∙ ap (λ b. front ++ (both ++ b)) none) in let b = lines_append front (both ++ []) in
        let d = count_lines edited (root ∷ []) 0 in omega (arith, a, b, d)) in
        put_way_if c [] both (puts_lines both (omega arith) refl) old edited (header_comes.0, ((λ is bare. inl refl), tt)) well
        (λ line a. (
          header_asked.0 (lines_in front),
          (record { line = λ is. inr (last, refl, (λ none. cc)); comment = λ is. absurd (true≢false (sym is)) }, tt),
        ))

header_way : (c : Change) → PutsHeader c → (brackets : Brackets) (style : List ℕ) (old edited : List Line) → IsHeaderPut brackets (place c) style old edited
    → AreLines old → HasWayIf (IsOneMore old edited) (c ∷ []) ([] ∷ []) old edited
header_way c puts brackets style old edited put formed = elim (header_units brackets (place c) style old edited put) [
  | inl alone ↦ way_alone c puts brackets put.ws old edited formed alone
  | inr parted ↦ way_parted c puts brackets put.ws old edited parted
]

-- All units of before go along, each to its address, and the header line comes, owed; where the last line of no bytes becomes a blank one,
-- another one comes behind it. So a last line of no bytes stays the last where one line comes.
pub section_way : (q : Address) (name style : List ℕ) (old edited : List Line) → IsHeaderPut One (child q name) style old edited → AreLines old
    → HasWayIf (IsOneMore old edited) (new_section (child q name) ∷ []) ([] ∷ []) old edited
section_way q name = let p = child q name in header_way (new_section p) (section_puts p) One

-- and so of an element
pub element_way : (q : Address) (i : ℕ) (style : List ℕ) (old edited : List Line) → IsHeaderPut Two (element q i) style old edited → AreLines old
    → HasWayIf (IsOneMore old edited) (new_element (element q i) ∷ []) ([] ∷ []) old edited
element_way q i = let p = element q i in header_way (new_element p) (element_puts p) Two

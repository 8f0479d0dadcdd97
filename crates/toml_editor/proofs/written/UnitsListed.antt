-- What lists of plain edits carry along, from text to text.
use Rattle.std.proofs.Common.{◌≡◌, inl, ◌+◌, ℕ, true, ◌&&◌, Option, Some, None, option_map, List, [], ◌∷◌, ◌++◌, map, refl, sym, ap, ◌∙◌, subst, true≢false, arith, Bool, false, length}
use Rattle.std.proofs.Math.Bool.{and-false}
use Rattle.std.specs.List.{flat_map}
use Rattle.toml_text.specs.Forms.{IsNewline}
use Rattle.toml_tree.specs.Bare.{bare_lines}
use Rattle.toml_tree.specs.Spells.{Spells}
use Rattle.toml_tree.specs.Tree.{Line, Doc}
use Rattle.toml_tree.specs.declared.profile.Profile.{Profile}
use Rattle.toml_tree.proofs.Proved.{one_tree}
use Rattle.toml_names.specs.model.Addresses.{Address}
use Rattle.toml_names.specs.model.Data.{Kinds}
use Rattle.toml_edits.specs.Edits.{Change}
use Rattle.toml_edits.specs.Lists.{Lead}
use Rattle.toml_units.specs.declared.unit.UnitKind.{UnitKind}
use Rattle.toml_units.specs.declared.unit.UnitKind.TheVariants as kinds
use Rattle.toml_units.specs.Units.{TextUnit, units}
use Rattle.toml_checker.specs.CarriedTo.{IsCarriedTo}
use Rattle.toml_checker.specs.Comments.{texts, times}
use Rattle.toml_checker.specs.Comments as written
use Rattle.toml_checker.specs.Plain.{Site, site, next_line, is_kept}
use Rattle.toml_units.specs.Bares.{bare_unit}
use Rattle.toml_editor.specs.CarriedLists.{ListIsCarried}
use Rattle.toml_editor.specs.Steps.{IsGoodText, AreWritten}
use Rattle.toml_editor.proofs.written.Steps.{plain_step}
use Rattle.toml_units.proofs.Proved.{units_of_bares}
use Rattle.toml_editor.proofs.written.UnitsCarried.{lines_again, plain_goes, puts_blank}
use Rattle.toml_editor.proofs.written.Way.{news, olds, one_line, is_here}
use Rattle.toml_editor.proofs.written.WayComments.{added, comments, times_cons}
use Rattle.toml_editor.proofs.written.WayFits.{Fits, newlines}
use Rattle.toml_editor.proofs.written.WayKeeps.{moved_site, Keeps, KeepsIf, no_more, line_goes, same_ends}
use Rattle.toml_editor.proofs.written.WayKept.{count_lines, same_way, same_olds, same_news, same_adds}
use Rattle.toml_editor.proofs.written.WayOn.{IsSure, goes_on}
use Rattle.toml_editor.proofs.written.WayWhole.{HasWay, HasWayIf, partners, same_newlines, as_many, way_weaker}
use Rattle.toml_working.specs.Manners.{Manner}
use Rattle.toml_editor.specs.EditedLines.{manner_after}
use Rattle.toml_editor.proofs.Mannered.{keeps_newline}
use Rattle.std.specs.List.{list_any}
use Rattle.std.specs.Prelude.{is_some, not}
use Rattle.toml_edits.specs.Edits.{insert, new_element, new_section, remove, rename, set}
use Rattle.toml_names.specs.mentions.Mentions.{root}
use Rattle.toml_layout.specs.Holders.{parent_of}
use Rattle.toml_layout.specs.declared.layout.Layout.{Layout}
use Rattle.toml_layout.specs.declared.layout.Layout.TheVariants as layouts
use Rattle.toml_layout.specs.declared.tree.Brackets.{Brackets}
use Rattle.toml_layout.specs.declared.tree.Brackets.TheVariants.{One, Two}
use Rattle.toml_working.specs.FollowingHeaders.{beside_family, wants_blank}
use Rattle.toml_working.specs.HeaderStanding.{blank_laid_out, blank_standing}
use Rattle.toml_working.specs.Standing.{Standing, holds, standing}
use Rattle.toml_editor.proofs.SourceKept.{text_ends}
use Rattle.toml_editor.proofs.written.LastBare.{last_is_bare, same_bare}
use Rattle.toml_editor.proofs.written.Way.{Step}
use Rattle.toml_editor.proofs.written.WayLast.{LastIsBare, all_sure, last_stays}
use Rattle.toml_editor.proofs.written.WayZip.{lines_in}

-- ---- no edit

all_here : (line : Option Site) (u : TextUnit) → is_here [] line u ≡ true
all_here line u = by u.kind u.address u.base
  where
    home : (line : Option Site)
        → is_kept kinds.TailComment [] line (record { kind = kinds.TailComment; address = None; base = None }) ≡ true
    home None = refl
    home (Some l) = refl

    by : (kind : UnitKind) (o : Option Address) (base : Option ℕ)
        → is_kept kind [] (next_line line (record { kind = kind; address = o; base = base }))
        (record { kind = kind; address = o; base = base }) ≡ true
    by kinds.Line o base = refl
    by kinds.Pair o base = refl
    by kinds.Element o base = refl
    by kinds.TailComment o base = home line
    by kinds.InnerComment o base = ap (λ b. b && true) (home line)

stays_there : (o : Option Address) → IsCarriedTo [] o o
stays_there None = tt
stays_there (Some a) = refl

module _ (ends : List (List ℕ)) where
  none_fits : (us : List TextUnit) (line : Option Site) (a : ℕ) → Fits [] [] ends ends line a a (same_way us)
  none_fits [] line a = tt
  none_fits (u ∷ us) line a = (
    record {
      kind = refl;
      kept = λ here. record { text = refl; address = stays_there u.address; newline = λ is. inl refl };
      lost = λ gone. absurd (true≢false (sym (all_here line u) ∙ gone));
    },
    none_fits us (next_line line (site u)) (a + one_line u.kind),
  )

  site_stays : (u : TextUnit) → site u ≡ moved_site [] (site u)
  site_stays u = ap (λ o. record { kind = u.kind; address = o; base = u.base }) (sym (no_more u.address))

  none_keeps : (us : List TextUnit) (line next : Option Site) → next ≡ option_map (moved_site []) line → (a : ℕ)
      → Keeps [] ends ends line next a a (same_way us)
  none_keeps [] line next home a = tt
  none_keeps (u ∷ us) line next home a = (
    record {
      goes = site_stays u;
      home = λ is. home;
      ends = λ is. same_ends [] ends ends refl a;
      empty = λ firm is here none last. last;
      header = λ is none gone. absurd (true≢false (sym (all_here line u) ∙ gone));
    },
    none_keeps us (next_line line (site u)) (next_line next (site u)) (line_goes [] line next u u (site_stays u) (inl home))
        (a + one_line u.kind),
  )

none_way : (lines : List Line) → HasWay [] [] lines lines
none_way lines = record {
  way = same_way (units lines);
  olds_are = same_olds (units lines);
  news_are = same_news (units lines);
  fits = none_fits (newlines lines) (units lines) None 0;
  keeps = none_keeps (newlines lines) (units lines) None None refl 0;
  comments_few =
      λ t. as_many t (texts (comments (added (same_way (units lines))))) [] (ap (λ us. texts (comments us)) (same_adds (units lines)));
}

-- ---- one edit, and others

times_append : (t : List ℕ) (xs ys : List (List ℕ)) → times t (xs ++ ys) ≡ times t xs + times t ys
times_append t [] ys = omega arith
times_append t (x ∷ xs) ys =
    let a = times_cons t x (xs ++ ys) in
    let b = times_cons t x xs in
    let more = times_append t xs ys in
    omega (arith, a, b, more)

module _ (Firm Former Later : Type 0) (former : Firm → Former) (later : Firm → Later) (c : Change) (cs : List Change) (ts : List (List ℕ))
    (more : List (List (List ℕ))) (lines edited mid after : List Line) where
  way_on : (first : HasWayIf Former (c ∷ []) (ts ∷ []) lines edited) → IsSure Later c first.way → bare_lines mid ≡ bare_lines edited → HasWayIf Later cs more mid after
      → HasWayIf Firm (c ∷ cs) (ts ∷ more) lines after
  way_on first sure again second =
      let meets : map bare_unit (news first.way) ≡ map bare_unit (olds second.way) =
      ap (map bare_unit) first.news_are ∙ sym (units_of_bares edited) ∙ ap units (sym again) ∙ units_of_bares mid
      ∙ ap (map bare_unit) (sym second.olds_are) in
      let ends : newlines edited ≡ newlines mid = same_newlines edited mid (sym again) in
      let fit = subst (λ ns. Fits (c ∷ []) (ts ∷ []) (newlines lines) ns None 0 0 first.way) ends first.fits in
      let keep = subst (λ ns. KeepsIf Former (c ∷ []) (newlines lines) ns None None 0 0 first.way) ends first.keeps in
      let whole = goes_on Firm Former Later former later c cs ts more (newlines lines) (newlines mid)
      (newlines after) first.way second.way meets None None None 0 0 0 fit keep sure second.fits second.keeps in
      record {
        way = whole.way;
        olds_are = whole.olds_are ∙ first.olds_are;
        news_are = whole.news_are ∙ second.news_are;
        fits = whole.fits;
        keeps = whole.keeps;
        comments_few = λ t.
            let few = whole.few t in
            let one = first.comments_few t in
            let two = second.comments_few t in
            let a = times_append t ts [] in
            let b = times_append t ts (flat_map (λ xs. xs) more) in
            let none : times t [] ≡ 0 = refl in
            omega (arith, few, one, two, a, b, none);
      }

-- ---- whether a blank line may be written

and_not : (a b : Bool) → (a && not b) ≡ true → (a ≡ true) × (b ≡ false)
and_not true false is = (refl, refl)
and_not true true is = cc
and_not false b is = cc

none_laid : (layout : Layout) (q p : Address) (brackets : Brackets) (manner : Manner) (ss : List Standing) → manner.may_blank ≡ false
    → blank_laid_out layout q p brackets manner ss ≡ false
none_laid layouts.Plain q p brackets manner ss is = refl
none_laid layouts.Follow q p brackets manner ss is =
    ap (λ b. not (is_some (beside_family q p brackets manner.newline ss)) && (b && wants_blank ss)) is ∙ and-false _

none_standing : (q p : Address) (brackets : Brackets) (manner : Manner) (ss : List Standing) → manner.may_blank ≡ false
    → blank_standing q p brackets manner ss ≡ false
none_standing q p brackets manner ss is =
    ap (λ b. not (list_any (holds q) ss) && b) (none_laid manner.layout q p brackets manner ss is) ∙ and-false _

after_may : (c : Change) (manner : Manner) (lines : List Line) → (manner_after c manner lines).may_blank ≡ true
    → (manner.may_blank ≡ true) × (puts_blank c manner lines ≡ false)
after_may (set p text) manner lines is = (is, refl)
after_may (insert p text) manner lines is = (is, refl)
after_may (rename p to) manner lines is = (is, refl)
after_may (remove p) manner lines is = (is, refl)
after_may (new_section p) manner lines is = and_not manner.may_blank (puts_blank (new_section p) manner lines) is
after_may (new_element p) manner lines is = and_not manner.may_blank (puts_blank (new_element p) manner lines) is

-- none is put in where none may be
none_put : (c : Change) (manner : Manner) (lines : List Line) → manner.may_blank ≡ false → puts_blank c manner lines ≡ false
none_put (set p text) manner lines is = refl
none_put (insert p text) manner lines is = refl
none_put (rename p to) manner lines is = refl
none_put (remove p) manner lines is = refl
none_put (new_section p) manner lines is = none_standing (parent_of p) p One manner (standing lines) is
none_put (new_element p) manner lines is = none_standing (parent_of p) p Two manner (standing lines) is

none_after : (c : Change) (manner : Manner) (lines : List Line) → manner.may_blank ≡ false → (manner_after c manner lines).may_blank ≡ false
none_after (set p text) manner lines is = is
none_after (insert p text) manner lines is = is
none_after (rename p to) manner lines is = is
none_after (remove p) manner lines is = is
none_after (new_section p) manner lines is = ap (λ b. b && not (puts_blank (new_section p) manner lines)) is
none_after (new_element p) manner lines is = ap (λ b. b && not (puts_blank (new_element p) manner lines)) is

-- it is known whether one may be written
sure_of : (b x : Bool) → b ≡ x → (c : Change) (s : List Step) → (x ≡ true → IsSure (b ≡ false) c s) → IsSure (b ≡ false) c s
sure_of b true is c s stays = stays refl
sure_of b false is c s stays = all_sure (b ≡ false) is c s

-- under one edit that puts none in, a last line of no bytes stays the last, and no other comes there
one_stays : (Firm Later : Type 0) → Firm → (c : Change) (ts : List (List ℕ)) (lines edited : List Line) (way : HasWayIf Firm (c ∷ []) (ts ∷ []) lines edited)
    → LastIsBare (units lines) → IsSure Later c way.way × LastIsBare (units edited)
one_stays Firm Later firm c ts lines edited way bare =
    let old_count : 0 + lines_in (olds way.way) ≡ length (newlines lines) = (let e = ap lines_in way.olds_are in let n = count_lines lines (root ∷ []) 0 in omega (arith, e, n)) in
    let new_count : 0 + lines_in (news way.way) ≡ length (newlines edited) = (let e = ap lines_in way.news_are in let n = count_lines edited (root ∷ []) 0 in omega (arith, e, n)) in
    let it = last_stays Firm Later firm c (ts ∷ []) (newlines lines) (newlines edited) way.way None None 0 0 way.fits way.keeps (subst LastIsBare (sym way.olds_are) bare)
    old_count new_count in
    (it.sure, subst LastIsBare way.news_are it.bare)

-- where a blank line may be written, the last line has no bytes
abbrev EndsBare : Manner → List Line → Type 0
EndsBare manner lines = manner.may_blank ≡ true → LastIsBare (units lines)

-- the way of a list, and the comments in its values
pub record HasListWay (Firm : Type 0) (cs : List Change) (d e : Doc) : Type 0 where
  pub comments_in : List (List (List ℕ))
  pub comments_are : written.AreWritten cs comments_in
  pub way : HasWayIf Firm cs comments_in d.lines e.lines

list_goes : (cs : List Change) (profile : Profile) (manner : Manner) (before after : List ℕ) (old now : Kinds) → IsNewline manner.newline
    → (good : IsGoodText profile before old) → EndsBare manner good.tree.lines
    → Lead profile cs old now → AreWritten profile cs manner before after → (new : IsGoodText profile after now)
    → HasListWay (manner.may_blank ≡ false) cs good.tree new.tree
list_goes [] profile manner before after old now newline good ends lead is new =
    let same : good.tree ≡ new.tree = one_tree good.tree new.tree after (subst (Spells good.tree) is good.spelled.0) new.spelled.0 in
    record {
      comments_in = [];
      comments_are = tt;
      way = subst (λ (x : Doc). HasWayIf (manner.may_blank ≡ false) [] [] good.tree.lines x.lines) same
          (way_weaker (manner.may_blank ≡ false) [] [] good.tree.lines good.tree.lines (λ none. tt) (none_way good.tree.lines));
    }
list_goes (c ∷ cs) profile manner before after old now newline good ends (none, mid, is_after, lead) (between, is, more) new =
    let one = plain_step profile c manner before between old mid newline good none is_after is in
    let gone = plain_goes c profile manner before between old mid newline good none is_after is in
    let again = lines_again c profile manner before between old mid good one.0 gone in
    let lines = good.tree.lines in
    let same : is.0 ≡ good.tree = one_tree is.0 good.tree before is.1.0 good.spelled.0 in
    let manner' = manner_after c manner lines in
    let written' = subst (λ (d : Doc). AreWritten profile cs (manner_after c manner d.lines) between after) same more in
    let stays : manner'.may_blank ≡ true → IsSure (manner'.may_blank ≡ false) c gone.way.way × LastIsBare (units gone.edited) =
    λ may. one_stays (puts_blank c manner lines ≡ false) (manner'.may_blank ≡ false) (after_may c manner lines may).1 c gone.comments_in lines gone.edited gone.way
    (ends (after_may c manner lines may).0) in
    let ends' : EndsBare manner' one.0.tree.lines = λ may. same_bare (units gone.edited) (units one.0.tree.lines)
    (sym (units_of_bares gone.edited) ∙ ap units (sym again) ∙ units_of_bares one.0.tree.lines) (stays may).1 in
    let others = list_goes cs profile manner' between after mid now (subst IsNewline (sym (keeps_newline c manner lines)) newline) one.0 ends' lead written' new in
    record {
      comments_in = gone.comments_in ∷ others.comments_in;
      comments_are = (gone.comments_are, others.comments_are);
      way =
          way_on (manner.may_blank ≡ false) (puts_blank c manner lines ≡ false) (manner'.may_blank ≡ false) (none_put c manner lines) (none_after c manner lines)
          c cs gone.comments_in others.comments_in lines gone.edited one.0.tree.lines new.tree.lines gone.way
          (sure_of manner'.may_blank manner'.may_blank refl c gone.way.way (λ may. (stays may).0)) again others.way;
    }

pub list_is_carried : ListIsCarried
list_is_carried cs profile manner before after old now newline good told lead is new =
    let ends : EndsBare manner good.tree.lines =
    λ may. last_is_bare good.tree.lines good.spelled.0.lines.forms (sym (text_ends good.tree before good.spelled.0) ∙ told may) in
    let goes = list_goes cs profile manner before after old now newline good ends lead is new in
    partners cs goes.comments_in good.tree new.tree new.tree.lines goes.way goes.comments_are refl refl

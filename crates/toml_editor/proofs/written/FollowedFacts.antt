-- Where layout `Follow` puts the header line of a section or an element without a fault.
use Rattle.std.proofs.Common.{◌≡◌, ℕ, Bool, true, false, ◌&&◌, ◌||◌, Option, Some, None, IsSome, List, [], ◌∷◌, ◌++◌, length, refl, sym, ap, ap₂, ◌∙◌, subst, true≢false}
use Rattle.std.specs.Prelude.{is_some, not, option_map}
use Rattle.std.specs.Bool.{nat_lt}
use Rattle.std.specs.List.{list_any}
use Rattle.std.proofs.lemmas.Bool.{cond-true, cond-false}
use Rattle.toml_tree.specs.Spells.{AreLines, EachIs}
use Rattle.toml_tree.specs.Tree.{Line}
use Rattle.toml_names.specs.declared.model.address.Step.TheVariants.{Name}
use Rattle.toml_names.specs.mentions.Mentions.{named}
use Rattle.toml_names.specs.mentions.Rules.{KeepsRules}
use Rattle.toml_names.specs.model.Addresses.{Address, child, element, is_above}
use Rattle.toml_names.specs.model.Data.{IsDataOf, Kinds}
use Rattle.toml_names.specs.reader.Names.{own_address}
use Rattle.toml_names.proofs.Proved.{above_is_above}
use Rattle.toml_layout.specs.declared.tree.Brackets.TheVariants.{One, Two}
use Rattle.toml_layout.specs.Holders.{parent_of}
use Rattle.toml_working.specs.FollowingHeaders.{behind_family, family, header_behind, or_at_end, put_following, wants_blank, writes_blank}
use Rattle.toml_working.specs.Heading.{header_expr, shown}
use Rattle.toml_working.specs.Headers.{element_of}
use Rattle.toml_working.specs.RemoveStanding.{makes}
use Rattle.toml_working.specs.Standing.{Standing, holds, is_below, lies_below, standing, standing_from}
use Rattle.toml_working.specs.HeadingFollowed.{with_header_following, header_line_behind, line_behind_family, or_header_at_end}
use Rattle.toml_editor.proofs.written.BelowPlace.{standing_behind}
use Rattle.toml_editor.proofs.written.Counted.{AreLast, last_child}
use Rattle.toml_editor.proofs.written.ElementHeaded.{away_unnamed, none_holds, some_named}
use Rattle.toml_editor.proofs.written.ElementLeads.{apart_element, next_leads}
use Rattle.toml_editor.proofs.written.EmptyAlone.{IsAway, not_any}
use Rattle.toml_editor.proofs.written.FollowedPlace.{header_put_following}
use Rattle.toml_editor.proofs.written.HeaderFacts.{IsNextElement, IsRoom}
use Rattle.toml_editor.proofs.written.HeaderPut.{IsApart}
use Rattle.toml_editor.proofs.written.HeaderSplit.{any_back}
use Rattle.toml_editor.proofs.written.HeaderThere.{StandsWithHeader}
use Rattle.toml_editor.proofs.written.SectionLeads.{name_leads}
use Rattle.toml_editor.proofs.written.TablesStay.{under_begins}
use Rattle.toml_editor.proofs.written.TablesStay.{parent_is}

-- ---- addresses

-- the address of a name is no element's, and that of an element is one
pub name_is_no_element : (q : Address) (name : List ℕ) → element_of (child q name) ≡ None
name_is_no_element [] name = refl
name_is_no_element (s ∷ []) name = refl
name_is_no_element (s ∷ t ∷ q) name = ap (option_map (λ e. (s ∷ e.0, e.1))) (name_is_no_element (t ∷ q) name)

pub index_is_element : (q : Address) (i : ℕ) → is_some (element_of (element q i)) ≡ true
index_is_element [] i = refl
index_is_element (s ∷ []) i = refl
index_is_element (s ∷ t ∷ q) i = by (element_of (element (t ∷ q) i)) (index_is_element (t ∷ q) i)
  where
    behind : Address × ℕ → Address × ℕ
    behind e = (s ∷ e.0, e.1)

    by : (o : Option (Address × ℕ)) → is_some o ≡ true → is_some (option_map behind o) ≡ true
    by None is = is
    by (Some e) is = refl

-- ---- a line stands there

-- where a line makes it or has a header below it, it stands at the address or below it
not_below : (q : Address) (s : Standing) → is_below q s ≡ false → makes q s.base s.address ≡ false
not_below q s none = by s.base s.address none
  where
    by : (base : Option ℕ) (own : Option Address) → lies_below q own ≡ false → makes q base own ≡ false
    by None own h = h
    by (Some n) None h = refl
    by (Some n) (Some a) h = dotted (nat_lt n (length q)) (is_above q a) refl
      where
        dotted : (x y : Bool) → is_above q a ≡ y → ((x && y) || false) ≡ false
        dotted false y is = refl
        dotted true false is = refl
        dotted true true is = let (t, rest, at) = (above_is_above q a).0 is in absurd (true≢false (sym (under_begins q a (t ∷ rest, at)) ∙ h))

-- What the data have, and no line's value holds, has a line at it or below it, but for the root.
line_below : (lines : List Line) (kinds : Kinds) → IsDataOf (named lines) kinds → (q : Address) → IsSome (kinds q) → list_any (holds q) (standing lines) ≡ false
    → ¬ (q ≡ []) → list_any (is_below q) (standing lines) ≡ true
line_below lines kinds facts q some outside not_root = by (list_any (is_below q) (standing lines)) refl
  where
    away : (ss : List Standing) → EachIs (λ s. is_below q s ≡ false) ss → EachIs (λ s. holds q s ≡ false) ss → EachIs (IsAway q) ss
    away [] none held = tt
    away (s ∷ ss) none held = (record { makes_none = not_below q s none.0; holds_none = held.0 }, away ss none.1 held.1)

    by : (b : Bool) → list_any (is_below q) (standing lines) ≡ b → list_any (is_below q) (standing lines) ≡ true
    by true is = is
    by false is =
        absurd (away_unnamed q (λ root. not_root (sym root)) lines
        (away (standing lines) (not_any (is_below q) (standing lines) is) (not_any (holds q) (standing lines) outside)) (some_named lines kinds facts q some))

-- ---- a section

-- by layout `Follow` the header line goes where it may stand
pub section_put_following : (q : Address) (name style : List ℕ) (may : Bool) (lines : List Line) (kinds : Kinds) → AreLines lines → KeepsRules (named lines)
    → IsDataOf (named lines) kinds → IsRoom q name kinds → list_any (holds q) (standing lines) ≡ false
    → StandsWithHeader One (child q name) style lines (writes_blank q (child q name) One style may (standing lines) ≡ true)
    (with_header_following q One (child q name) style may lines) (put_following q (child q name) One style may (standing lines))
section_put_following q name style may lines kinds forms keeps facts room outside =
    subst (λ f. StandsWithHeader One p style lines Blank (header_at f) (put_at f)) (sym family_is)
    (header_put_following One p q q style may lines Blank forms (λ xs last. last)
    (λ ws front back split last apart. name_leads lines front back q name ws kinds split keeps facts room.table last)
    (line_below lines kinds facts q (subst IsSome (sym room.table) refl) outside) (λ front back split none. tt)
    (λ absent due. ap₂ (λ o b. not (is_some o) && b) (ap beside family_is ∙ absent) due))
  where
    p : Address
    p = child q name

    Blank : Type 0
    Blank = writes_blank q p One style may (standing lines) ≡ true

    beside : Address → Option (List Standing)
    beside f = behind_family f (λ front. header_behind p One front style) (standing lines)

    family_is : family q p (standing lines) ≡ q
    family_is = cond-false _ _ _ (ap (λ o. is_some o && not (list_any (is_below q) (standing lines))) (name_is_no_element q name))

    header_at : Address → List Line
    header_at f = or_header_at_end p One style may lines (line_behind_family f (header_line_behind p One style) (shown lines))

    put_at : Address → List Standing
    put_at f = or_at_end p One style may (standing lines) (behind_family f (λ front. header_behind p One front style) (standing lines))

-- ---- an element

-- by layout `Follow` the header line goes where it may stand
pub element_put_following : (q : Address) (i : ℕ) (style : List ℕ) (may : Bool) (lines : List Line) (kinds : Kinds) → AreLines lines → KeepsRules (named lines)
    → IsDataOf (named lines) kinds → IsNextElement q i kinds → list_any (holds q) (standing lines) ≡ false
    → StandsWithHeader Two (element q i) style lines (writes_blank q (element q i) Two style may (standing lines) ≡ true)
    (with_header_following q Two (element q i) style may lines) (put_following q (element q i) Two style may (standing lines))
element_put_following q i style may lines kinds forms keeps facts next outside = by (list_any (is_below q) (standing lines)) refl
  where
    p : Address
    p = element q i

    r : Address
    r = next.table.0

    n : List ℕ
    n = next.table.1

    q_is : q ≡ child r n
    q_is = next.table.2

    header_at : Address → List Line
    header_at f = or_header_at_end p Two style may lines (line_behind_family f (header_line_behind p Two style) (shown lines))

    put_at : Address → List Standing
    put_at f = or_at_end p Two style may (standing lines) (behind_family f (λ front. header_behind p Two front style) (standing lines))

    leads_there : (ws : List ℕ) (front back : List Line) → lines ≡ front ++ back → AreLast (named front) q → IsApart Two p front back
        → own_address (named front) (header_expr Two p ws) ≡ Some p
    leads_there = next_leads q i lines kinds keeps facts next outside

    Blank : Type 0
    Blank = writes_blank q p Two style may (standing lines) ≡ true

    beside : Address → Option (List Standing)
    beside f = behind_family f (λ front. header_behind p Two front style) (standing lines)

    blank_by : (f : Address) → family q p (standing lines) ≡ f → beside f ≡ None → (may && wants_blank (standing lines)) ≡ true → Blank
    blank_by f is absent due = ap₂ (λ o b. not (is_some o) && b) (ap beside is ∙ absent) due

    put_by : (f : Address) → family q p (standing lines) ≡ f → StandsWithHeader Two p style lines Blank (header_at f) (put_at f)
        → StandsWithHeader Two p style lines Blank (with_header_following q Two p style may lines) (put_following q p Two style may (standing lines))
    put_by f is = subst (λ x. StandsWithHeader Two p style lines Blank (header_at x) (put_at x)) (sym is)

    by : (b : Bool) → list_any (is_below q) (standing lines) ≡ b
        → StandsWithHeader Two p style lines Blank (with_header_following q Two p style may lines) (put_following q p Two style may (standing lines))
    by true there =
        let is : family q p (standing lines) ≡ q = cond-false _ _ _ (ap₂ (λ a b. a && not b) (index_is_element q i) there) in
        put_by q is
        (header_put_following Two p q q style may lines Blank forms (λ xs last. last) leads_there (λ not_root. there)
        (λ front back split none. apart_element q i front back none) (blank_by q is))
    by false none =
        let is : family q p (standing lines) ≡ r =
        cond-true _ _ _ (ap₂ (λ a b. a && not b) (index_is_element q i) none) ∙ ap parent_of q_is ∙ parent_is r (Name n) in
        put_by r is
        (header_put_following Two p q r style may lines Blank forms (λ xs last. subst (AreLast xs) (sym q_is) (last_child xs r n last)) leads_there
        (line_below lines kinds facts r (subst IsSome (sym next.table.3) refl)
        (none_holds r (Name n ∷ []) (standing lines) (subst (λ x. list_any (holds x) (standing lines) ≡ false) q_is outside)))
        (λ front back split away. apart_element q i front back
        (any_back (is_below q) (standing front) (standing_from (named front) (length front) back)
        (ap (list_any (is_below q)) (sym (standing_behind front back [])) ∙ ap (λ ls. list_any (is_below q) (standing ls)) (sym split) ∙ none)))
        (blank_by r is))

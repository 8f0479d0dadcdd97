-- Where the new header and the line behind it stand that an `insert` puts in for a table which longer headers alone imply.
use Rattle.std.proofs.Common.{◌≡◌, ◌∙◌, inl, ℕ, Bool, true, false, ◌||◌, Option, Some, None, List, [], ◌∷◌, ◌++◌, length, refl, sym, ap, ap₂, subst, true≢false, append_assoc}
use Rattle.std.specs.List.{list_any}
use Rattle.std.proofs.lemmas.Bool.{cond-false}
use Rattle.std.proofs.lemmas.List.{map-append}
use Rattle.std.proofs.lemmas.List.Folds.{list_any-append}
use Rattle.toml_text.specs.Forms.{IsWs}
use Rattle.toml_tree.specs.Spells.{AreLines, EachIs, IsExpr}
use Rattle.toml_tree.specs.Tree.{Value, Expr, BlankLine, KeyValLine, TableLine, ArrayTableLine, Line}
use Rattle.toml_names.specs.mentions.Alike.{AreAlike}
use Rattle.toml_names.specs.mentions.Mentions.{count_tables, named, root, section}
use Rattle.toml_names.specs.model.Addresses.{Address}
use Rattle.toml_names.specs.reader.Names.{own_address}
use Rattle.toml_layout.specs.declared.layout.Layout.{Layout}
use Rattle.toml_layout.specs.declared.layout.Layout.TheVariants as layouts
use Rattle.toml_layout.specs.declared.tree.Brackets.TheVariants.{One}
use Rattle.toml_layout.specs.Spacings.{Spacing, laid_out, plain_spacing}
use Rattle.toml_layout.specs.TreeOutlines.{line_outline, value_outline}
use Rattle.toml_working.specs.declared.lines.Sought.TheVariants as sought
use Rattle.toml_working.specs.FirstKeys.{like_before, spacing_like}
use Rattle.toml_working.specs.Heading.{Shown, header_expr, header_line, shown}
use Rattle.toml_working.specs.Headers.{has_below}
use Rattle.toml_working.specs.ImpliedTables.{section_standing, put_ahead, spacing_below, ws_ahead}
use Rattle.toml_working.specs.Inserting.{has_pair, new_line}
use Rattle.toml_working.specs.InsertingInTables.{insert_ahead, insert_in}
use Rattle.toml_working.specs.InsertStanding as stands
use Rattle.toml_working.specs.InsertStanding.{is_bare, pair_or}
use Rattle.toml_working.specs.Manners.{Manner}
use Rattle.toml_working.specs.Placing.{is_header}
use Rattle.toml_working.specs.Premises.{HasImplied, implies}
use Rattle.toml_working.specs.Seeing.{heads_below, is_sought_line}
use Rattle.toml_working.specs.Standing.{Standing, line_stands, standing, standing_from}
use Rattle.toml_editor.proofs.written.Counted.{counts_stay}
use Rattle.toml_editor.proofs.written.DottedPlace.{section_stays}
use Rattle.toml_editor.proofs.written.HeaderPut.{IsHeaderPut}
use Rattle.toml_editor.proofs.written.HeaderSplit.{IsHeadlessShown, lines_of, stand_of}
use Rattle.toml_editor.proofs.written.HeaderStood.{front_headless, parts, shown_stands}
use Rattle.toml_editor.proofs.written.ImpliedSplit.{IsScanned, IsWsOf, LeadsTo, lead_to, scanned}
use Rattle.toml_editor.proofs.written.InsertSpaced.{IsSpacing, front_spaced, laid_spaced, line_formed}
use Rattle.toml_editor.proofs.written.InsertStands.{has_same}
use Rattle.toml_editor.proofs.written.UnitsAlike.{own_alike}
use Rattle.toml_editor.proofs.written.ImpliedHeaders.{any_weaker, first_passes, implied_below, is_implying, leads_so}

-- ---- the place

module _ (q : Address) (name : List ℕ) (v : Value) (manner : Manner) where
  -- Before the first header below the table, and comment lines above that by layout `Follow`. The new header's key leads to the table there.
  pub record IsPutAhead (old new : List Line) : Type 0 where
    pub front : List Line
    pub back : List Line
    pub ws : List ℕ
    pub spacing : Spacing
    pub not_root : ¬ (q ≡ [])
    pub some : ¬ (back ≡ [])
    pub was : old ≡ front ++ back
    pub is : new ≡ front ++ header_line One q ws manner.newline ∷ new_line spacing (name ∷ []) v manner.newline ∷ back
    pub leads : own_address (named front) (header_expr One q ws) ≡ Some q
    pub unkeyed : has_pair back ≡ false
    pub spaced : AreLines old → IsWs ws × IsSpacing spacing
    pub plain : manner.layout ≡ layouts.Plain → (ws ≡ []) × (spacing ≡ plain_spacing)
    pub ws_is : ws ≡ ws_ahead manner.layout (standing_from (named front) (length front) back)
    pub spacing_is : spacing ≡ spacing_below manner.layout ws (standing front)
    pub stands : put_ahead q name (value_outline v) manner [] (standing old)
        ≡ standing front ++ (section_standing q name (value_outline v) manner (standing front) (standing_from (named front) (length front) back)
        ++ standing_from (named front) (length front) back)

  -- the header alone, put in there
  pub ahead_header : (old new : List Line) (put : IsPutAhead old new)
      → IsHeaderPut One q manner.newline old (put.front ++ header_line One q put.ws manner.newline ∷ put.back)
  ahead_header old new put = record {
    front = put.front;
    back = put.back;
    ws = put.ws;
    spaced = λ are. (put.spaced are).0;
    put = inl (record { some = put.some; was = put.was; is = refl });
    leads = put.leads;
    unkeyed = put.unkeyed;
    apart = tt;
  }

-- ---- before the comment lines above it

-- comment lines have no key
comments_unpaired : (cs : List Shown) (h : Shown) (rest : List Shown) → EachIs (λ (x : Shown). is_bare x.1.base x.1.address ≡ true) cs
    → is_header h.1.base h.1.address ≡ true → stands.has_pair (stand_of (cs ++ h ∷ rest)) ≡ false
comments_unpaired [] h rest bare head = by h.1.base h.1.address head
  where
    by : (base : Option ℕ) (own : Option Address) → is_header base own ≡ true → pair_or base own (stands.has_pair (stand_of rest)) ≡ false
    by (Some n) own is = absurd (true≢false (sym is))
    by None None is = absurd (true≢false (sym is))
    by None (Some a) is = refl
comments_unpaired (c ∷ cs) h rest bare head = by c.1.base c.1.address bare.0 (comments_unpaired cs h rest bare.1 head)
  where
    by : (base : Option ℕ) (own : Option Address) → is_bare base own ≡ true → stands.has_pair (stand_of (cs ++ h ∷ rest)) ≡ false
        → pair_or base own (stands.has_pair (stand_of (cs ++ h ∷ rest))) ≡ false
    by (Some n) own is more = absurd (true≢false (sym is))
    by None None is more = more
    by None (Some a) is more = absurd (true≢false (sym is))

-- nor a header
comments_headless : (cs : List Shown) → EachIs (λ (x : Shown). is_bare x.1.base x.1.address ≡ true) cs → EachIs IsHeadlessShown cs
comments_headless [] bare = tt
comments_headless (c ∷ cs) bare = (by c.1.base c.1.address bare.0, comments_headless cs bare.1)
  where
    by : (base : Option ℕ) (own : Option Address) → is_bare base own ≡ true → is_header base own ≡ false
    by (Some n) own is = absurd (true≢false (sym is))
    by None None is = refl
    by None (Some a) is = absurd (true≢false (sym is))

-- nor is one of them implied by one
comments_imply_none : (q : Address) (cs : List Shown) → EachIs (λ (x : Shown). is_bare x.1.base x.1.address ≡ true) cs
    → list_any (is_implying q) (stand_of cs) ≡ false
comments_imply_none q [] bare = refl
comments_imply_none q (c ∷ cs) bare = ap₂ (λ a b. a || b) (by c.1.base c.1.address bare.0) (comments_imply_none q cs bare.1)
  where
    by : (base : Option ℕ) (own : Option Address) → is_bare base own ≡ true → implies q base own ≡ false
    by (Some n) own is = absurd (true≢false (sym is))
    by None None is = refl
    by None (Some a) is = absurd (true≢false (sym is))

-- a header line by what stands on it
below_heads : (q : Address) (base : Option ℕ) (own : Option Address) → heads_below q base own ≡ true → is_header base own ≡ true
below_heads q (Some n) own is = absurd (true≢false (sym is))
below_heads q None None is = absurd (true≢false (sym is))
below_heads q None (Some a) is = refl

ws_formed : (l : Line) → IsExpr l.expr → IsWs (line_outline l).ws
ws_formed l is = by l.expr is
  where
    by : (e : Expr) → IsExpr e → IsWs (line_outline (record { expr = e; newline = l.newline })).ws
    by (BlankLine b) h = tt
    by (KeyValLine ws pair tail) h = h.0
    by (TableLine ws header tail) h = h.0
    by (ArrayTableLine ws header tail) h = h.0

module _ (q : Address) (name : List ℕ) (v : Value) (manner : Manner) (lines : List Line) (some : ¬ (q ≡ [])) (has : HasImplied lines q)
    (it : IsScanned q name v manner [] (shown lines)) (lead : LeadsTo q manner.layout (it.head ∷ it.rest)) where
  abbrev front : List Line
  front = lines_of it.first

  abbrev back : List Line
  back = lines_of (it.head ∷ it.rest)

  abbrev behind : List Standing
  behind = stand_of (it.head ∷ it.rest)

  abbrev before : List Line
  before = lines_of (it.first ++ lead.comments)

  abbrev head : Line
  head = lead.head.0

  abbrev ws : List ℕ
  ws = ws_ahead manner.layout behind

  lines_are : lines ≡ front ++ back
  lines_are = (parts it.first (it.head ∷ it.rest) lines [] it.was).lines

  front_stands : standing front ≡ stand_of it.first
  front_stands = (parts it.first (it.head ∷ it.rest) lines [] it.was).front_stands

  back_stands : standing_from (named front) (length front) back ≡ behind
  back_stands = (parts it.first (it.head ∷ it.rest) lines [] it.was).back_stands

  outer : shown lines ≡ (it.first ++ lead.comments) ++ lead.head ∷ lead.rest
  outer = it.was ∙ ap (λ r. it.first ++ r) lead.is ∙ sym (append_assoc it.first lead.comments (lead.head ∷ lead.rest))

  outer_are : lines ≡ before ++ head ∷ lines_of lead.rest
  outer_are = (parts (it.first ++ lead.comments) (lead.head ∷ lead.rest) lines [] outer).lines

  here : line_stands (named before) head ≡ lead.head.1
  here = let x = (parts (it.first ++ lead.comments) (lead.head ∷ lead.rest) lines [] outer).back_stands in cc

  -- no header below the table is in front
  none_implied : list_any (is_implying q) (standing before) ≡ false
  none_implied =
      let test = is_implying q in
      let stands = (parts (it.first ++ lead.comments) (lead.head ∷ lead.rest) lines [] outer).front_stands in
      ap (list_any test) (stands ∙ map-append (λ (x : Shown). x.1) it.first lead.comments)
      ∙ list_any-append test (stand_of it.first) (stand_of lead.comments)
      ∙ ap₂ (λ a b. a || b) (first (list_any test (stand_of it.first)) refl) (comments_imply_none q lead.comments lead.bare)
    where
      first : (b : Bool) → list_any (is_implying q) (stand_of it.first) ≡ b
          → list_any (is_implying q) (stand_of it.first) ≡ false
      first false is = is
      first true is =
          absurd (true≢false (sym (any_weaker (is_implying q) (is_sought_line sought.HeaderBelow q) (implied_below q) (stand_of it.first) is) ∙ it.none))

  -- comment lines leave what was named before them alike
  before_alike : AreAlike (named front) (named before)
  before_alike =
      let headless = front_headless lead.comments (lead.head ∷ lead.rest) (named front) (length front)
      (subst (λ xs. standing_from (named front) (length front) (lines_of xs) ≡ stand_of xs) lead.is back_stands) (comments_headless lead.comments lead.bare) in
      let same : before ≡ front ++ lines_of lead.comments = map-append (λ (x : Shown). x.0) it.first lead.comments in
      record {
        sections = sym (ap (λ bs. section (named bs)) same ∙ section_stays (lines_of lead.comments) front headless);
        counts = λ at. sym (ap (λ bs. count_tables (named bs) at) same ∙ counts_stay front (lines_of lead.comments) at headless);
      }

  leads : own_address (named front) (header_expr One q ws) ≡ Some q
  leads =
      own_alike (named front) (named before) before_alike (header_expr One q ws)
      ∙ leads_so q lines some has before ws
      (first_passes q lines some has before (lines_of lead.rest) head outer_are (ap (is_sought_line sought.HeaderBelow q) here ∙ lead.below) none_implied)

  unkeyed : has_pair back ≡ false
  unkeyed =
      sym (has_same back (named front) (length front)) ∙ ap stands.has_pair back_stands ∙ ap (λ xs. stands.has_pair (stand_of xs)) lead.is
      ∙ comments_unpaired lead.comments lead.head lead.rest lead.bare (below_heads q lead.head.1.base lead.head.1.address lead.below)

  ws_is_ws : AreLines lines → IsWs ws
  ws_is_ws are = by manner.layout lead.ws
    where
      header : IsWs lead.head.1.outline.ws
      header = subst (λ (s : Standing). IsWs s.outline.ws) here (ws_formed head (line_formed before (lines_of lead.rest) head (subst AreLines outer_are are)))

      by : (o : Layout) → IsWsOf q o ws lead.head.1 → IsWs ws
      by layouts.Plain is = subst IsWs (sym is) tt
      by layouts.Follow is = subst IsWs (sym is) header

  spaced : AreLines lines → IsWs ws × IsSpacing (spacing_below manner.layout ws (standing front))
  spaced are = (
    ws_is_ws are,
    laid_spaced manner.layout (spacing_like ws (like_before ws (standing front)))
        (front_spaced front (lines_of it.rest) it.head.0 ws (subst AreLines lines_are are) (ws_is_ws are)),
  )

  place_is : IsPutAhead q name v manner lines (insert_ahead q name v manner [] (shown lines))
  place_is = record {
    front = front;
    back = back;
    ws = ws;
    spacing = spacing_below manner.layout ws (standing front);
    not_root = some;
    some = λ none. absurd (let e : ⊥ = cc in e);
    was = lines_are;
    is =
        it.lines
        ∙ ap (λ f. front ++ header_line One q ws manner.newline ∷ new_line (spacing_below manner.layout ws f) (name ∷ []) v manner.newline ∷ back) (sym front_stands);
    leads = leads;
    unkeyed = unkeyed;
    spaced = spaced;
    plain = λ is. (ap (λ o. ws_ahead o behind) is, ap (λ o. laid_out o (spacing_like ws (like_before ws (standing front)))) is);
    ws_is = ap (ws_ahead manner.layout) (sym back_stands);
    spacing_is = refl;
    stands =
        ap (put_ahead q name (value_outline v) manner []) (sym (shown_stands lines (root ∷ []) 0)) ∙ it.stands
        ∙ ap₂ (λ f b. f ++ (section_standing q name (value_outline v) manner f b ++ b)) (sym front_stands) (sym back_stands);
  }

-- Where no line makes the table, and one is a header below it, the new lines go there.
pub ahead_place : (q : Address) (name : List ℕ) (v : Value) (manner : Manner) (lines : List Line) → ¬ (q ≡ []) → HasImplied lines q
    → IsPutAhead q name v manner lines (insert_in q name v manner lines)
ahead_place [] name v manner lines some has = absurd (some refl)
ahead_place (t ∷ q) name v manner lines some has =
    let at = t ∷ q in
    let below = any_weaker (is_implying at) (is_sought_line sought.HeaderBelow at) (implied_below at) (standing lines) has.implied in
    let it = scanned at name v manner (shown lines) [] (ap (has_below at) (shown_stands lines (root ∷ []) 0) ∙ below) in
    subst (IsPutAhead at name v manner lines) (sym (cond-false _ _ _ has.no_header ∙ cond-false _ _ _ has.no_dotted))
    (place_is at name v manner lines some has it (lead_to at manner.layout (it.head ∷ it.rest) it.lead))

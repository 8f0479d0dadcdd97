-- The first header below a table that longer headers imply, among the lines before which the new ones go.
use Rattle.std.proofs.Common.{◌≡◌, ◌∙◌, ℕ, Bool, true, false, ◌||◌, Option, Some, None, List, [], ◌∷◌, ◌++◌, refl, sym, ap, true≢false, append_assoc, append-nil}
use Rattle.std.proofs.lemmas.Bool.{and_parts, cond-true, cond-false}
use Rattle.toml_tree.specs.Spells.{EachIs}
use Rattle.toml_tree.specs.Tree.{Value, Line}
use Rattle.toml_names.specs.model.Addresses.{Address}
use Rattle.toml_layout.specs.declared.layout.Layout.{Layout}
use Rattle.toml_layout.specs.declared.layout.Layout.TheVariants as layouts
use Rattle.toml_layout.specs.TreeOutlines.{value_outline}
use Rattle.toml_working.specs.declared.lines.Sought.TheVariants as sought
use Rattle.toml_working.specs.Heading.{Shown}
use Rattle.toml_working.specs.Headers.{has_below}
use Rattle.toml_working.specs.ImpliedTables.{lead_below, section_standing, put_ahead, ws_ahead}
use Rattle.toml_working.specs.InsertingInTables.{insert_ahead, section_ahead}
use Rattle.toml_working.specs.InsertStanding.{is_bare, is_comment}
use Rattle.toml_working.specs.Manners.{Manner}
use Rattle.toml_working.specs.Seeing.{heads_below, is_sought_line}
use Rattle.toml_working.specs.Standing.{Standing}
use Rattle.toml_editor.proofs.written.HeaderSplit.{lines_of, stand_of}

-- a comment line is no header
comment_bare : (s : Standing) → is_comment s ≡ true → is_bare s.base s.address ≡ true
comment_bare s is = (and_parts (is_bare s.base s.address) _ is).0

bare_below : (q : Address) (base : Option ℕ) (own : Option Address) → is_bare base own ≡ true → heads_below q base own ≡ false
bare_below q (Some n) own is = absurd (true≢false (sym is))
bare_below q None None is = refl
bare_below q None (Some a) is = absurd (true≢false (sym is))

comment_below : (q : Address) (s : Standing) → is_comment s ≡ true → is_sought_line sought.HeaderBelow q s ≡ false
comment_below q s is = bare_below q s.base s.address (comment_bare s is)

-- ---- the comment lines above a header

module _ (q : Address) where
  -- the whitespace that the layout takes from the header
  abbrev pub IsWsOf : Layout → List ℕ → Standing → Type 0
  IsWsOf layouts.Plain ws s = ws ≡ []
  IsWsOf layouts.Follow ws s = ws ≡ s.outline.ws

  -- lines lead to a header at the address or below it
  pub record LeadsTo (layout : Layout) (xs : List Shown) : Type 0 where
    pub comments : List Shown
    pub head : Shown
    pub rest : List Shown
    pub is : xs ≡ comments ++ head ∷ rest
    pub bare : EachIs (λ (x : Shown). is_bare x.1.base x.1.address ≡ true) comments
    pub below : is_sought_line sought.HeaderBelow q head.1 ≡ true
    pub ws : IsWsOf layout (ws_ahead layout (stand_of xs)) head.1

  pub lead_to : (layout : Layout) (xs : List Shown) → lead_below layout q (stand_of xs) ≡ true → LeadsTo layout xs
  lead_to layout [] lead = absurd (true≢false (sym lead))
  lead_to layouts.Plain (x ∷ xs) lead = record { comments = []; head = x; rest = xs; is = refl; bare = tt; below = lead; ws = refl }
  lead_to layouts.Follow (x ∷ xs) lead = by (is_comment x.1) refl (λ more. lead_to layouts.Follow xs more)
    where
      by : (b : Bool) → is_comment x.1 ≡ b → (lead_below layouts.Follow q (stand_of xs) ≡ true → LeadsTo layouts.Follow xs) → LeadsTo layouts.Follow (x ∷ xs)
      by true comment more =
          let found = more (sym (cond-true _ _ _ comment) ∙ lead) in
          record {
            comments = x ∷ found.comments;
            head = found.head;
            rest = found.rest;
            is = ap (λ r. x ∷ r) found.is;
            bare = (comment_bare x.1 comment, found.bare);
            below = found.below;
            ws = cond-true _ _ _ comment ∙ found.ws;
          }
      by false none more = record {
        comments = [];
        head = x;
        rest = xs;
        is = refl;
        bare = tt;
        below = sym (cond-false _ _ _ none) ∙ lead;
        ws = cond-false _ _ _ none;
      }

  -- what does not lead to one is none
  not_lead : (layout : Layout) (s : Standing) (ss : List Standing) → lead_below layout q (s ∷ ss) ≡ false → is_sought_line sought.HeaderBelow q s ≡ false
  not_lead layouts.Plain s ss none = none
  not_lead layouts.Follow s ss none = by (is_comment s) refl
    where
      by : (b : Bool) → is_comment s ≡ b → is_sought_line sought.HeaderBelow q s ≡ false
      by true comment = comment_below q s comment
      by false other = sym (cond-false _ _ _ other) ∙ none

-- ---- the lines in front

module _ (q : Address) (name : List ℕ) (v : Value) (manner : Manner) where
  abbrev ahead : List Standing → List Shown → List Line
  ahead = insert_ahead q name v manner

  -- none of them is a header below the table, and the next ones lead to such a header
  pub record IsScanned (front : List Standing) (xs : List Shown) : Type 0 where
    pub first : List Shown
    pub head : Shown
    pub rest : List Shown
    pub was : xs ≡ first ++ head ∷ rest
    pub lead : lead_below manner.layout q (stand_of (head ∷ rest)) ≡ true
    pub none : has_below q (stand_of first) ≡ false
    pub lines : insert_ahead q name v manner front xs
        ≡ lines_of first ++ (section_ahead q name v manner (front ++ stand_of first) (stand_of (head ∷ rest)) ++ lines_of (head ∷ rest))
    pub stands : put_ahead q name (value_outline v) manner front (stand_of xs)
        ≡ stand_of first ++ (section_standing q name (value_outline v) manner (front ++ stand_of first) (stand_of (head ∷ rest)) ++ stand_of (head ∷ rest))

  pub scanned : (xs : List Shown) (front : List Standing) → has_below q (stand_of xs) ≡ true → IsScanned front xs
  scanned [] front has = absurd (true≢false (sym has))
  scanned ((l, s) ∷ xs) front has = by (lead_below manner.layout q (s ∷ stand_of xs)) refl (λ more. scanned xs (front ++ s ∷ []) more)
    where
      by : (b : Bool) → lead_below manner.layout q (s ∷ stand_of xs) ≡ b → (has_below q (stand_of xs) ≡ true → IsScanned (front ++ s ∷ []) xs)
          → IsScanned front ((l, s) ∷ xs)
      by true lead more = record {
        first = [];
        head = (l, s);
        rest = xs;
        was = refl;
        lead = lead;
        none = refl;
        lines = cond-true _ _ _ lead ∙ ap (λ f. section_ahead q name v manner f (s ∷ stand_of xs) ++ l ∷ lines_of xs) (sym (append-nil front));
        stands = cond-true _ _ _ lead ∙ ap (λ f. section_standing q name (value_outline v) manner f (s ∷ stand_of xs) ++ s ∷ stand_of xs) (sym (append-nil front));
      }
      by false past more =
          let here = not_lead q manner.layout s (stand_of xs) past in
          let found = more (sym (ap (λ b. b || has_below q (stand_of xs)) here) ∙ has) in
          let group : (front ++ s ∷ []) ++ stand_of found.first ≡ front ++ s ∷ stand_of found.first = append_assoc front (s ∷ []) (stand_of found.first) in
          let back = found.head ∷ found.rest in
          record {
            first = (l, s) ∷ found.first;
            head = found.head;
            rest = found.rest;
            was = ap (λ r. (l, s) ∷ r) found.was;
            lead = found.lead;
            none = ap (λ b. b || has_below q (stand_of found.first)) here ∙ found.none;
            lines =
                cond-false _ _ _ past ∙ ap (λ r. l ∷ r) found.lines
                ∙ ap (λ f. l ∷ (lines_of found.first ++ (section_ahead q name v manner f (stand_of back) ++ lines_of back))) group;
            stands =
                cond-false _ _ _ past ∙ ap (λ r. s ∷ r) found.stands
                ∙ ap (λ f. s ∷ (stand_of found.first ++ (section_standing q name (value_outline v) manner f (stand_of back) ++ stand_of back))) group;
          }

-- Where layout `Follow` puts a header line: two parts of the lines, on the lines of a tree and on what stands on them.
use Rattle.std.proofs.Common.{◌≡◌, ◌⊎◌, inl, inr, ℕ, Bool, true, false, ◌||◌, List, [], ◌∷◌, ◌++◌, Option, Some, None, refl, sym, ap, ap₂, ◌∙◌, true≢false, append_assoc}
use Rattle.std.specs.Prelude.{is_some, not, option_map}
use Rattle.std.proofs.lemmas.Bool.{and_parts, cond-true, cond-false}
use Rattle.std.specs.List.{list_any}
use Rattle.toml_tree.specs.Spells.{EachIs}
use Rattle.toml_tree.specs.Tree.{Line}
use Rattle.toml_names.specs.model.Addresses.{Address}
use Rattle.toml_working.specs.FollowingHeaders.{behind_below, behind_section, is_filled}
use Rattle.toml_working.specs.Heading.{Shown}
use Rattle.toml_working.specs.InsertStanding.{has_pair, is_bare, is_blank, pair_or}
use Rattle.toml_working.specs.Placing.{is_header}
use Rattle.toml_working.specs.Standing.{Standing, is_below}
use Rattle.toml_working.specs.HeadingFollowed.{line_behind_below, line_behind_section}
use Rattle.toml_editor.proofs.written.HeaderSplit.{IsHeadlessShown, lines_of, stand_of}

-- ---- lines without a header

-- the first of lines with a key and a value before the first header is none
pair_headless : (base : Option ℕ) (own : Option Address) (behind : Bool) → pair_or base own behind ≡ true → is_header base own ≡ false
pair_headless (Some n) own behind is = refl
pair_headless None None behind is = refl
pair_headless None (Some a) behind is = absurd (true≢false (sym is))

-- blank lines are none
bare_headless : (base : Option ℕ) (own : Option Address) → is_bare base own ≡ true → is_header base own ≡ false
bare_headless (Some n) own is = refl
bare_headless None None is = refl
bare_headless None (Some a) is = absurd (true≢false (sym is))

blank_headless : (xs : List Shown) → list_any is_filled (stand_of xs) ≡ false → EachIs IsHeadlessShown xs
blank_headless [] none = tt
blank_headless (x ∷ xs) none = by (is_blank x.1) refl none (blank_headless xs)
  where
    by : (b : Bool) → is_blank x.1 ≡ b → (not b || list_any is_filled (stand_of xs)) ≡ false → (list_any is_filled (stand_of xs) ≡ false → EachIs IsHeadlessShown xs)
        → EachIs IsHeadlessShown (x ∷ xs)
    by true is rest more =
        (bare_headless x.1.base x.1.address (and_parts (is_bare x.1.base x.1.address) (not (is_some x.1.outline.comment)) is).0, more rest)
    by false is rest more = absurd (true≢false rest)

-- ---- behind a section

module _ (h : List Standing → Line) (new : List Standing → Standing) where
  -- Behind a line, and some lines without a header. More than blank lines follows, and no key before the next header.
  pub record InSection (front : List Standing) (x : Shown) (xs : List Shown) (put : Option (List Line)) (stand : Option (List Standing)) : Type 0 where
    pub between : List Shown
    pub back : List Shown
    pub was : xs ≡ between ++ back
    pub headless : EachIs IsHeadlessShown between
    pub unkeyed : has_pair (stand_of back) ≡ false
    pub more : list_any is_filled (stand_of back) ≡ true
    pub lines : put ≡ Some (x.0 ∷ lines_of between ++ h (front ++ x.1 ∷ stand_of between) ∷ lines_of back)
    pub stands : stand ≡ Some (x.1 ∷ stand_of between ++ new (front ++ x.1 ∷ stand_of between) ∷ stand_of back)

  -- no header and only blank lines follow
  record NotInSection (xs : List Shown) (put : Option (List Line)) (stand : Option (List Standing)) : Type 0 where
    put_none : put ≡ None
    stand_none : stand ≡ None
    headless : EachIs IsHeadlessShown xs

  in_section : (xs : List Shown) (x : Shown) (front : List Standing)
      → NotInSection xs (line_behind_section h front (x ∷ xs)) (behind_section new front (stand_of (x ∷ xs)))
      ⊎ InSection front x xs (line_behind_section h front (x ∷ xs)) (behind_section new front (stand_of (x ∷ xs)))
  in_section [] x front = inl (record { put_none = refl; stand_none = refl; headless = tt })
  in_section (y ∷ ys) x front = by (has_pair (stand_of (y ∷ ys))) refl (list_any is_filled (stand_of (y ∷ ys))) refl (in_section ys y (front ++ x.1 ∷ []))
    where
      put : Option (List Line)
      put = line_behind_section h front (x ∷ y ∷ ys)

      stand : Option (List Standing)
      stand = behind_section new front (stand_of (x ∷ y ∷ ys))

      put_later : Option (List Line)
      put_later = line_behind_section h (front ++ x.1 ∷ []) (y ∷ ys)

      stand_later : Option (List Standing)
      stand_later = behind_section new (front ++ x.1 ∷ []) (stand_of (y ∷ ys))

      by : (a : Bool) → has_pair (stand_of (y ∷ ys)) ≡ a → (b : Bool) → list_any is_filled (stand_of (y ∷ ys)) ≡ b
          → NotInSection ys put_later stand_later ⊎ InSection (front ++ x.1 ∷ []) y ys put_later stand_later
          → NotInSection (y ∷ ys) put stand ⊎ InSection front x (y ∷ ys) put stand
      by true pairs b filled (inl none) = inl (record {
        put_none = ap (option_map (λ r. x.0 ∷ r)) (cond-true _ _ _ pairs ∙ none.put_none);
        stand_none = ap (option_map (λ r. x.1 ∷ r)) (cond-true _ _ _ pairs ∙ none.stand_none);
        headless = (pair_headless y.1.base y.1.address (has_pair (stand_of ys)) pairs, none.headless);
      })
      by true pairs b filled (inr it) =
          let all : (front ++ x.1 ∷ []) ++ y.1 ∷ stand_of it.between ≡ front ++ x.1 ∷ y.1 ∷ stand_of it.between =
          append_assoc front (x.1 ∷ []) (y.1 ∷ stand_of it.between) in
          inr (record {
            between = y ∷ it.between;
            back = it.back;
            was = ap (λ r. y ∷ r) it.was;
            headless = (pair_headless y.1.base y.1.address (has_pair (stand_of ys)) pairs, it.headless);
            unkeyed = it.unkeyed;
            more = it.more;
            lines =
                ap (option_map (λ r. x.0 ∷ r)) (cond-true _ _ _ pairs ∙ it.lines)
                ∙ ap (λ f. Some (x.0 ∷ y.0 ∷ lines_of it.between ++ h f ∷ lines_of it.back)) all;
            stands =
                ap (option_map (λ r. x.1 ∷ r)) (cond-true _ _ _ pairs ∙ it.stands)
                ∙ ap (λ f. Some (x.1 ∷ y.1 ∷ stand_of it.between ++ new f ∷ stand_of it.back)) all;
          })
      by false pairs true filled later = inr (record {
        between = [];
        back = y ∷ ys;
        was = refl;
        headless = tt;
        unkeyed = pairs;
        more = filled;
        lines = ap (option_map (λ r. x.0 ∷ r)) (cond-false _ _ _ pairs ∙ cond-true _ _ _ filled);
        stands = ap (option_map (λ r. x.1 ∷ r)) (cond-false _ _ _ pairs ∙ cond-true _ _ _ filled);
      })
      by false pairs false filled later = inl (record {
        put_none = ap (option_map (λ r. x.0 ∷ r)) (cond-false _ _ _ pairs ∙ cond-false _ _ _ filled);
        stand_none = ap (option_map (λ r. x.1 ∷ r)) (cond-false _ _ _ pairs ∙ cond-false _ _ _ filled);
        headless = blank_headless (y ∷ ys) filled;
      })

  -- ---- behind the last section

  module _ (f : Address) where
    -- behind the section of the last line at the address or below it, with more than blank lines behind that
    pub record Followed (front : List Standing) (xs : List Shown) (put : Option (List Line)) (stand : Option (List Standing)) : Type 0 where
      pub before : List Shown
      pub line : Shown
      pub between : List Shown
      pub back : List Shown
      pub was : xs ≡ before ++ line ∷ (between ++ back)
      pub below : is_below f line.1 ≡ true
      pub headless : EachIs IsHeadlessShown between
      pub apart : list_any (is_below f) (stand_of (between ++ back)) ≡ false
      pub unkeyed : has_pair (stand_of back) ≡ false
      pub more : list_any is_filled (stand_of back) ≡ true
      pub lines : put ≡ Some (lines_of before ++ line.0 ∷ lines_of between ++ h (front ++ (stand_of before ++ line.1 ∷ stand_of between)) ∷ lines_of back)
      pub stands : stand ≡ Some (stand_of before ++ line.1 ∷ stand_of between ++ new (front ++ (stand_of before ++ line.1 ∷ stand_of between)) ∷ stand_of back)

    -- the last line at the address or below it, behind which no header follows
    pub record LastThere (xs : List Shown) : Type 0 where
      pub before : List Shown
      pub line : Shown
      pub between : List Shown
      pub is : xs ≡ before ++ line ∷ between
      pub below : is_below f line.1 ≡ true
      pub headless : EachIs IsHeadlessShown between

    -- there is no such line, or only blank lines follow
    pub record NotFollowed (xs : List Shown) (put : Option (List Line)) (stand : Option (List Standing)) : Type 0 where
      pub put_none : put ≡ None
      pub stand_none : stand ≡ None
      pub last : list_any (is_below f) (stand_of xs) ≡ true → LastThere xs

    pub followed : (xs : List Shown) (front : List Standing)
        → NotFollowed xs (line_behind_below f h front xs) (behind_below f new front (stand_of xs))
        ⊎ Followed front xs (line_behind_below f h front xs) (behind_below f new front (stand_of xs))
    followed [] front = inl (record { put_none = refl; stand_none = refl; last = λ is. absurd (true≢false (sym is)) })
    followed (x ∷ xs) front = by (list_any (is_below f) (stand_of xs)) refl (is_below f x.1) refl (followed xs (front ++ x.1 ∷ [])) (in_section xs x front)
      where
        put : Option (List Line)
        put = line_behind_below f h front (x ∷ xs)

        stand : Option (List Standing)
        stand = behind_below f new front (stand_of (x ∷ xs))

        put_later : Option (List Line)
        put_later = line_behind_below f h (front ++ x.1 ∷ []) xs

        stand_later : Option (List Standing)
        stand_later = behind_below f new (front ++ x.1 ∷ []) (stand_of xs)

        put_here : Option (List Line)
        put_here = line_behind_section h front (x ∷ xs)

        stand_here : Option (List Standing)
        stand_here = behind_section new front (stand_of (x ∷ xs))

        by : (a : Bool) → list_any (is_below f) (stand_of xs) ≡ a → (b : Bool) → is_below f x.1 ≡ b
            → NotFollowed xs put_later stand_later ⊎ Followed (front ++ x.1 ∷ []) xs put_later stand_later
            → NotInSection xs put_here stand_here ⊎ InSection front x xs put_here stand_here
            → NotFollowed (x ∷ xs) put stand ⊎ Followed front (x ∷ xs) put stand
        by true later b here (inl none) there = inl (record {
          put_none = cond-true _ _ _ later ∙ ap (option_map (λ r. x.0 ∷ r)) none.put_none;
          stand_none = cond-true _ _ _ later ∙ ap (option_map (λ r. x.1 ∷ r)) none.stand_none;
          last = λ is. (let it = none.last later in
              record { before = x ∷ it.before; line = it.line; between = it.between; is = ap (λ r. x ∷ r) it.is; below = it.below; headless = it.headless });
        })
        by true later b here (inr it) there =
            let rest = stand_of it.before ++ it.line.1 ∷ stand_of it.between in
            let all : (front ++ x.1 ∷ []) ++ rest ≡ front ++ x.1 ∷ rest = append_assoc front (x.1 ∷ []) rest in
            inr (record {
              before = x ∷ it.before;
              line = it.line;
              between = it.between;
              back = it.back;
              was = ap (λ r. x ∷ r) it.was;
              below = it.below;
              headless = it.headless;
              apart = it.apart;
              unkeyed = it.unkeyed;
              more = it.more;
              lines =
                  cond-true _ _ _ later ∙ ap (option_map (λ r. x.0 ∷ r)) it.lines
                  ∙ ap (λ g. Some (x.0 ∷ lines_of it.before ++ it.line.0 ∷ lines_of it.between ++ h g ∷ lines_of it.back)) all;
              stands =
                  cond-true _ _ _ later ∙ ap (option_map (λ r. x.1 ∷ r)) it.stands
                  ∙ ap (λ g. Some (x.1 ∷ stand_of it.before ++ it.line.1 ∷ stand_of it.between ++ new g ∷ stand_of it.back)) all;
            })
        by false later true here more (inl none) = inl (record {
          put_none = cond-false _ _ _ later ∙ cond-true _ _ _ here ∙ none.put_none;
          stand_none = cond-false _ _ _ later ∙ cond-true _ _ _ here ∙ none.stand_none;
          last = λ is. record { before = []; line = x; between = xs; is = refl; below = here; headless = none.headless };
        })
        by false later true here more (inr it) = inr (record {
          before = [];
          line = x;
          between = it.between;
          back = it.back;
          was = ap (λ r. x ∷ r) it.was;
          below = here;
          headless = it.headless;
          apart = ap (λ r. list_any (is_below f) (stand_of r)) (sym it.was) ∙ later;
          unkeyed = it.unkeyed;
          more = it.more;
          lines = cond-false _ _ _ later ∙ cond-true _ _ _ here ∙ it.lines;
          stands = cond-false _ _ _ later ∙ cond-true _ _ _ here ∙ it.stands;
        })
        by false later false here more there = inl (record {
          put_none = cond-false _ _ _ later ∙ cond-false _ _ _ here;
          stand_none = cond-false _ _ _ later ∙ cond-false _ _ _ here;
          last = λ is. absurd (true≢false (sym is ∙ ap₂ (λ a b. a || b) here later));
        })

-- Where layout `Plain` puts a header line: two parts of the lines, on the lines of a tree and on what stands on them.
use Rattle.std.proofs.Common.{◌≡◌, ◌⊎◌, inl, inr, ℕ, Bool, true, false, ◌||◌, List, [], ◌∷◌, ◌++◌, map, Option, Some, None, option_map, refl, sym, ap, ap₂, ◌∙◌, true≢false}
use Rattle.std.proofs.lemmas.Bool.{cond-true, cond-false}
use Rattle.std.proofs.lemmas.List.{map-append}
use Rattle.std.proofs.lemmas.List.Folds.{list_any-append}
use Rattle.std.specs.List.{list_any}
use Rattle.toml_tree.specs.Spells.{EachIs}
use Rattle.toml_tree.specs.Tree.{Line}
use Rattle.toml_names.specs.model.Addresses.{Address}
use Rattle.toml_layout.specs.Outlines.{LineOutline}
use Rattle.toml_layout.specs.TreeOutlines.{line_outline}
use Rattle.toml_working.specs.declared.lines.Sought.TheVariants as sought
use Rattle.toml_working.specs.Heading.{Shown, line_at_end, line_before_header, line_before_next, line_put_after}
use Rattle.toml_working.specs.Headers.{before_header, before_next, has_below, has_no_bytes, put_after, put_at_text_end}
use Rattle.toml_working.specs.Placing.{IsNoHeader, is_header}
use Rattle.toml_working.specs.Seeing.{is_sought_line}
use Rattle.toml_working.specs.Standing.{Standing}
use Rattle.toml_editor.proofs.written.PutStands.{newline_same}

-- the lines of such, and what stands on them
abbrev pub lines_of : List Shown → List Line
lines_of = map (λ (x : Shown). x.0)

abbrev pub stand_of : List Shown → List Standing
stand_of = map (λ (x : Shown). x.1)

abbrev pub IsHeadlessShown : Shown → Type 0
IsHeadlessShown x = IsNoHeader x.1

-- where none of the lines is so, none of the last ones is
pub any_back : (test : Standing → Bool) (xs ys : List Standing) → list_any test (xs ++ ys) ≡ false → list_any test ys ≡ false
any_back test xs ys none = by (list_any test xs) (sym (list_any-append test xs ys) ∙ none)
  where
    by : (b : Bool) → (b || list_any test ys) ≡ false → list_any test ys ≡ false
    by true h = absurd (true≢false h)
    by false h = h

-- the last header line at the address or below it, if there is one, has no header line behind it
pub record LastBelow (e : Address) (xs : List Shown) : Type 0 where
  pub before : List Shown
  pub line : Shown
  pub between : List Shown
  pub is : xs ≡ before ++ line ∷ between
  pub below : is_sought_line sought.HeaderBelow e line.1 ≡ true
  pub headless : EachIs IsHeadlessShown between

later_below : (e : Address) (x : Shown) (xs : List Shown) → LastBelow e xs → LastBelow e (x ∷ xs)
later_below e x xs last =
    record { before = x ∷ last.before; line = last.line; between = last.between; is = ap (λ r. x ∷ r) last.is; below = last.below; headless = last.headless }

module _ (h : Line) (new : Standing) where
  -- before a header line, the lines are put so, and so is what stands on them
  pub record IsParted (xs : List Shown) (put : Option (List Line)) (stand : Option (List Standing)) : Type 0 where
    pub front : List Shown
    pub head : Shown
    pub rest : List Shown
    pub was : xs ≡ front ++ head ∷ rest
    pub heads : is_header head.1.base head.1.address ≡ true
    pub lines : put ≡ Some (lines_of front ++ h ∷ head.0 ∷ lines_of rest)
    pub stands : stand ≡ Some (stand_of front ++ new ∷ head.1 ∷ stand_of rest)

  -- the first header line, where no other stands in front
  record FirstHeader (xs : List Shown) : Type 0 where
    parted : IsParted xs (line_before_header h xs) (before_header new (stand_of xs))
    headless : EachIs IsHeadlessShown parted.front

  record NoHeader (xs : List Shown) : Type 0 where
    put : line_before_header h xs ≡ None
    stand : before_header new (stand_of xs) ≡ None
    headless : EachIs IsHeadlessShown xs

  abbrev parted_later : (x : Shown) (xs : List Shown) (put : Option (List Line)) (stand : Option (List Standing)) → IsParted xs put stand
      → IsParted (x ∷ xs) (option_map (λ r. x.0 ∷ r) put) (option_map (λ r. x.1 ∷ r) stand)
  parted_later x xs put stand p = record {
    front = x ∷ p.front;
    head = p.head;
    rest = p.rest;
    was = ap (λ r. x ∷ r) p.was;
    heads = p.heads;
    lines = ap (option_map (λ r. x.0 ∷ r)) p.lines;
    stands = ap (option_map (λ r. x.1 ∷ r)) p.stands;
  }

  abbrev parted_as : (xs : List Shown) (put put' : Option (List Line)) (stand stand' : Option (List Standing)) → put' ≡ put → stand' ≡ stand → (p : IsParted xs put stand)
      → IsParted xs put' stand'
  parted_as xs put put' stand stand' e f p =
      record { front = p.front; head = p.head; rest = p.rest; was = p.was; heads = p.heads; lines = e ∙ p.lines; stands = f ∙ p.stands }

  first_header : (xs : List Shown) → NoHeader xs ⊎ FirstHeader xs
  first_header [] = inl (record { put = refl; stand = refl; headless = tt })
  first_header ((l, s) ∷ xs) = by (is_header s.base s.address) refl (first_header xs)
    where
      by : (b : Bool) → is_header s.base s.address ≡ b → NoHeader xs ⊎ FirstHeader xs → NoHeader ((l, s) ∷ xs) ⊎ FirstHeader ((l, s) ∷ xs)
      by true is more = inr (record {
        parted = record { front = []; head = (l, s); rest = xs; was = refl; heads = is; lines = cond-true _ _ _ is; stands = cond-true _ _ _ is };
        headless = tt;
      })
      by false is (inl none) = inl (record {
        put = cond-false _ _ _ is ∙ ap (option_map (λ r. l ∷ r)) none.put;
        stand = cond-false _ _ _ is ∙ ap (option_map (λ r. s ∷ r)) none.stand;
        headless = (is, none.headless);
      })
      by false is (inr first) = inr (record {
        parted =
            parted_as ((l, s) ∷ xs) _ _ _ _ (cond-false _ _ _ is) (cond-false _ _ _ is)
            (parted_later (l, s) xs (line_before_header h xs) (before_header new (stand_of xs)) first.parted);
        headless = (is, first.headless);
      })

  module _ (e : Address) where
    -- before the next header line behind the last one at the address or below it
    pub record NextHeader (xs : List Shown) : Type 0 where
      pub parted : IsParted xs (line_before_next e h xs) (before_next e new (stand_of xs))
      pub last : LastBelow e parted.front
      pub behind : has_below e (stand_of (parted.head ∷ parted.rest)) ≡ false

    -- there is none
    pub record NoNext (xs : List Shown) : Type 0 where
      pub put : line_before_next e h xs ≡ None
      pub stand : before_next e new (stand_of xs) ≡ None
      pub last : has_below e (stand_of xs) ≡ true → LastBelow e xs

    -- there is no next header line, or one
    pub next_header : (xs : List Shown) → NoNext xs ⊎ NextHeader xs
    next_header [] = inl (record { put = refl; stand = refl; last = λ is. absurd (true≢false (sym is)) })
    next_header ((l, s) ∷ xs) = by (has_below e (stand_of xs)) refl (is_sought_line sought.HeaderBelow e s) refl (next_header xs) (first_header xs)
      where
        x : Shown
        x = (l, s)

        by : (a : Bool) → has_below e (stand_of xs) ≡ a → (b : Bool) → is_sought_line sought.HeaderBelow e s ≡ b → NoNext xs ⊎ NextHeader xs
            → NoHeader xs ⊎ FirstHeader xs → NoNext (x ∷ xs) ⊎ NextHeader (x ∷ xs)
        by true more b here (inl none) first = inl (record {
          put = ap (option_map (λ r. l ∷ r)) (cond-true _ _ _ more ∙ none.put);
          stand = ap (option_map (λ r. s ∷ r)) (cond-true _ _ _ more ∙ none.stand);
          last = λ is. later_below e x xs (none.last more);
        })
        by true more b here (inr next) first = inr (record {
          parted = parted_as (x ∷ xs) _ _ _ _ (ap (option_map (λ r. l ∷ r)) (cond-true _ _ _ more)) (ap (option_map (λ r. s ∷ r)) (cond-true _ _ _ more))
              (parted_later x xs (line_before_next e h xs) (before_next e new (stand_of xs)) next.parted);
          last = later_below e x next.parted.front next.last;
          behind = next.behind;
        })
        by false more true here next (inl none) = inl (record {
          put = ap (option_map (λ r. l ∷ r)) (cond-false _ _ _ more ∙ cond-true _ _ _ here ∙ none.put);
          stand = ap (option_map (λ r. s ∷ r)) (cond-false _ _ _ more ∙ cond-true _ _ _ here ∙ none.stand);
          last = λ is. record { before = []; line = x; between = xs; is = refl; below = here; headless = none.headless };
        })
        by false more true here next (inr first) = inr (record {
          parted =
              parted_as (x ∷ xs) _ _ _ _ (ap (option_map (λ r. l ∷ r)) (cond-false _ _ _ more ∙ cond-true _ _ _ here))
              (ap (option_map (λ r. s ∷ r)) (cond-false _ _ _ more ∙ cond-true _ _ _ here))
              (parted_later x xs (line_before_header h xs) (before_header new (stand_of xs)) first.parted);
          last = record { before = []; line = x; between = first.parted.front; is = refl; below = here; headless = first.headless };
          behind =
              any_back (is_sought_line sought.HeaderBelow e) (stand_of first.parted.front) (stand_of (first.parted.head ∷ first.parted.rest))
              (ap (has_below e) (sym (ap stand_of first.parted.was ∙ map-append (λ (y : Shown). y.1) first.parted.front (first.parted.head ∷ first.parted.rest))) ∙ more);
        })
        by false more false here next first = inl (record {
          put = ap (option_map (λ r. l ∷ r)) (cond-false _ _ _ more ∙ cond-false _ _ _ here);
          stand = ap (option_map (λ r. s ∷ r)) (cond-false _ _ _ more ∙ cond-false _ _ _ here);
          last = λ is. absurd (true≢false (sym is ∙ ap₂ (λ a b. a || b) here more));
        })

-- ---- at the end

-- what stands on a line has its outline
abbrev pub IsOutlined : Shown → Type 0
IsOutlined x = x.1.outline ≡ line_outline x.0

module _ (h : List ℕ → Line) (new : List ℕ → Standing) (style : List ℕ) where
  -- before a last line without bytes
  pub record BeforeEmpty (xs : List Shown) : Type 0 where
    pub front : List Shown
    pub last : Shown
    pub was : xs ≡ front ++ last ∷ []
    pub empty : has_no_bytes (line_outline last.0) ≡ true
    pub lines : line_at_end h style (lines_of xs) ≡ lines_of front ++ h style ∷ last.0 ∷ []
    pub stands : put_at_text_end new style (stand_of xs) ≡ stand_of front ++ new style ∷ last.1 ∷ []

  -- behind the last line, by its newline
  pub record BehindLast (xs : List Shown) : Type 0 where
    pub front : List Shown
    pub last : Shown
    pub was : xs ≡ front ++ last ∷ []
    pub full : has_no_bytes (line_outline last.0) ≡ false
    pub lines : line_at_end h style (lines_of xs) ≡ lines_of front ++ line_put_after h style last.0 last.0.newline.text
    pub stands : put_at_text_end new style (stand_of xs) ≡ stand_of front ++ put_after new style last.1 last.0.newline.text

  -- lines end so, if there are some
  pub at_end : (xs : List Shown) → EachIs IsOutlined xs → ¬ (xs ≡ []) → BeforeEmpty xs ⊎ BehindLast xs
  at_end [] outlined some = absurd (some refl)
  at_end ((l, s) ∷ []) outlined some = by (has_no_bytes (line_outline l)) refl
    where
      is : s.outline ≡ line_outline l
      is = outlined.0

      by : (b : Bool) → has_no_bytes (line_outline l) ≡ b → BeforeEmpty ((l, s) ∷ []) ⊎ BehindLast ((l, s) ∷ [])
      by true empty = inl (record {
        front = [];
        last = (l, s);
        was = refl;
        empty = empty;
        lines = cond-true _ _ _ empty;
        stands = cond-true _ _ _ (ap has_no_bytes is ∙ empty);
      })
      by false full = inr (record {
        front = [];
        last = (l, s);
        was = refl;
        full = full;
        lines = cond-false _ _ _ full;
        stands = cond-false _ _ _ (ap has_no_bytes is ∙ full) ∙ ap (put_after new style s) (ap (λ (o : LineOutline). o.newline) is ∙ newline_same l.expr l.newline);
      })
  at_end (x ∷ (m, t) ∷ xs) outlined some = elim (at_end ((m, t) ∷ xs) outlined.1 (λ none. cc)) [
    | inl it ↦ inl (record {
      front = x ∷ it.front;
      last = it.last;
      was = ap (λ r. x ∷ r) it.was;
      empty = it.empty;
      lines = ap (λ r. x.0 ∷ r) it.lines;
      stands = ap (λ r. x.1 ∷ r) it.stands;
    })
    | inr it ↦ inr (record {
      front = x ∷ it.front;
      last = it.last;
      was = ap (λ r. x ∷ r) it.was;
      full = it.full;
      lines = ap (λ r. x.0 ∷ r) it.lines;
      stands = ap (λ r. x.1 ∷ r) it.stands;
    })
  ]

-- The lines with a new header line: where it stands, and what then stands on the lines.
use Rattle.std.proofs.Common.{◌≡◌, inr, ℕ, ◌+◌, false, Option, Some, None, List, [], ◌∷◌, ◌++◌, map, length, length-append, refl, sym, ap, ap₂, ◌∙◌, subst, true≢false, append-nil, append_assoc}
use Rattle.std.proofs.lemmas.List.{map-append}
use Rattle.toml_scalar.specs.Spelling.{spelled}
use Rattle.toml_tree.specs.Bare.{fresh}
use Rattle.toml_tree.specs.Spells.{EachIs}
use Rattle.toml_tree.specs.Tree.{Expr, BlankLine, KeyValLine, TableLine, ArrayTableLine, Line}
use Rattle.toml_names.specs.declared.model.address.Step.TheVariants.{Index}
use Rattle.toml_names.specs.mentions.Mentions.{Named, count_tables, named, named_by}
use Rattle.toml_names.specs.model.Addresses.{Address}
use Rattle.toml_names.specs.reader.Names.{own_address}
use Rattle.toml_units.specs.Units.{line_base}
use Rattle.toml_layout.specs.Outlines as outline
use Rattle.toml_layout.specs.Outlines.{DottedOutline, LineOutline}
use Rattle.toml_layout.specs.TreeOutlines.{dotted_outline, line_outline}
use Rattle.toml_layout.specs.TreeOutlines as trees
use Rattle.toml_layout.specs.OpenOutlines.{closing_brackets, opening_brackets}
use Rattle.toml_layout.specs.declared.tree.Brackets.{Brackets}
use Rattle.toml_layout.specs.declared.tree.Brackets.TheVariants.{One, Two}
use Rattle.toml_working.specs.FreshKeys.{key_named}
use Rattle.toml_working.specs.Heading.{Shown, header_expr, header_line, shown, shown_from}
use Rattle.toml_working.specs.Headers.{has_below, has_no_bytes, header_outline, inner_of, innermost, names_of, new_header, put_plainly}
use Rattle.toml_working.specs.Headers as headers
use Rattle.toml_working.specs.Inserting.{has_pair}
use Rattle.toml_working.specs.Removing.{no_blank}
use Rattle.toml_working.specs.Placing.{is_header}
use Rattle.toml_working.specs.Standing.{Standing, line_stands, standing, standing_from}
use Rattle.toml_editor.proofs.written.BelowPlace.{standing_behind}
use Rattle.toml_editor.proofs.written.Counted.{counts_stay, own_counts}
use Rattle.toml_editor.proofs.written.CountedAlike.{stand_same, standing_same}
use Rattle.toml_editor.proofs.written.DocumentSections.{named_next}
use Rattle.toml_editor.proofs.written.FreshKeys.{names_outlined}
use Rattle.toml_editor.proofs.written.HeaderCounted.{back_apart, header_counted}
use Rattle.toml_editor.proofs.written.HeaderPut.{IsApart}
use Rattle.toml_editor.proofs.written.HeaderSplit.{IsHeadlessShown, IsOutlined, lines_of, stand_of}
use Rattle.toml_editor.proofs.written.InsertPlace.{IsHeadless}

-- ---- lines, each with what stands on it

-- the lines are those that are shown, and what stands on them is that
pub shown_lines : (ls : List Line) (xs : List Named) (n : ℕ) → lines_of (shown_from xs n ls) ≡ ls
shown_lines [] xs n = refl
shown_lines (l ∷ ls) xs n = ap (λ r. l ∷ r) (shown_lines ls (xs ++ named_by xs n l.expr) (n + 1))

pub shown_stands : (ls : List Line) (xs : List Named) (n : ℕ) → stand_of (shown_from xs n ls) ≡ standing_from xs n ls
shown_stands [] xs n = refl
shown_stands (l ∷ ls) xs n = ap (λ r. line_stands xs l ∷ r) (shown_stands ls (xs ++ named_by xs n l.expr) (n + 1))

pub shown_outlined : (ls : List Line) (xs : List Named) (n : ℕ) → EachIs IsOutlined (shown_from xs n ls)
shown_outlined [] xs n = tt
shown_outlined (l ∷ ls) xs n = (refl, shown_outlined ls (xs ++ named_by xs n l.expr) (n + 1))

-- two parts of lines behind others
pub record AreParts (before ls : List Line) (front back : List Shown) : Type 0 where
  pub lines : ls ≡ lines_of front ++ lines_of back
  pub front_stands : standing_from (named before) (length before) (lines_of front) ≡ stand_of front
  pub back_stands : standing_from (named (before ++ lines_of front)) (length (before ++ lines_of front)) (lines_of back) ≡ stand_of back

-- where lines are shown in two parts, they are these parts, and stand so
pub parts : (front back : List Shown) (ls before : List Line) → shown_from (named before) (length before) ls ≡ front ++ back → AreParts before ls front back
parts [] back ls before is =
    let are : ls ≡ lines_of back = sym (shown_lines ls (named before) (length before)) ∙ ap lines_of is in
    record {
      lines = are;
      front_stands = refl;
      back_stands =
          ap (λ bs. standing_from (named bs) (length bs) (lines_of back)) (append-nil before) ∙ ap (standing_from (named before) (length before)) (sym are)
          ∙ sym (shown_stands ls (named before) (length before)) ∙ ap stand_of is;
    }
parts (f ∷ front) back [] before is = cc
parts (f ∷ front) back (l ∷ ls) before is =
    let head : ◌≡◌ {A = Shown} (l, line_stands (named before) l) f = cc in
    let rest : shown_from (named before ++ named_by (named before) (length before) l.expr) (length before + 1) ls ≡ front ++ back = cc in
    let more = parts front back ls (before ++ l ∷ []) (ap₂ (λ xs n. shown_from xs n ls) (named_next before l) (length-append before (l ∷ [])) ∙ rest) in
    subst (λ (x : Shown). AreParts before (l ∷ ls) (x ∷ front) back) head (record {
      lines = ap (λ r. l ∷ r) more.lines;
      front_stands =
          ap (λ r. line_stands (named before) l ∷ r)
          (ap₂ (λ xs n. standing_from xs n (lines_of front)) (sym (named_next before l)) (sym (length-append before (l ∷ []))) ∙ more.front_stands);
      back_stands =
          ap (λ bs. standing_from (named bs) (length bs) (lines_of back)) (sym (append_assoc before (l ∷ []) (lines_of front))) ∙ more.back_stands;
    })

-- ---- lines without a header, by what stands on them

-- a line that is no header by what stands on it has none
headless : (xs : List Named) (e : Expr) → is_header (line_base xs e) (own_address xs e) ≡ false → IsHeadless e
headless xs (BlankLine b) is = tt
headless xs (KeyValLine ws pair tail) is = tt
headless xs (TableLine ws header tail) is = true≢false is
headless xs (ArrayTableLine ws header tail) is = true≢false is

-- so the first of some lines have none
pub front_headless : (zs back : List Shown) (xs : List Named) (n : ℕ) → standing_from xs n (lines_of (zs ++ back)) ≡ stand_of (zs ++ back) → EachIs IsHeadlessShown zs
    → EachIs (λ (l : Line). IsHeadless l.expr) (lines_of zs)
front_headless [] back xs n is none = tt
front_headless (z ∷ zs) back xs n is none =
    let head : line_stands xs z.0 ≡ z.1 = cc in
    let rest : standing_from (xs ++ named_by xs n z.0.expr) (n + 1) (lines_of (zs ++ back)) ≡ stand_of (zs ++ back) = cc in (
      headless xs z.0.expr (ap (λ (s : Standing). is_header s.base s.address) head ∙ none.0),
      front_headless zs back (xs ++ named_by xs n z.0.expr) (n + 1) rest none.1,
    )

-- Behind a line, and lines without a header, the arrays of tables on the way to the line have so many tables as its address says.
pub counted_behind : (lines : List Line) (before : List Shown) (line : Shown) (between back : List Shown) → shown lines ≡ before ++ line ∷ (between ++ back)
    → EachIs IsHeadlessShown between → (a r rest : Address) (i : ℕ) → line.1.address ≡ Some a → a ≡ r ++ Index i ∷ rest
    → count_tables (named (lines_of (before ++ line ∷ between))) r ≡ i + 1
counted_behind lines before line between back whole none a r rest i own at =
    let all = parts before (line ∷ (between ++ back)) lines [] whole in
    let b = lines_of before in
    let here : line_stands (named b) line.0 ≡ line.1 = (let x = all.back_stands in cc) in
    let owned : own_address (named b) line.0.expr ≡ Some a = ap (λ (x : Standing). x.address) here ∙ own in
    let rest_shown : shown lines ≡ (before ++ line ∷ []) ++ (between ++ back) = whole ∙ sym (append_assoc before (line ∷ []) (between ++ back)) in
    ap (λ ls. count_tables (named ls) r) (map-append (λ (x : Shown). x.0) before (line ∷ between) ∙ sym (append_assoc b (line.0 ∷ []) (lines_of between)))
    ∙ counts_stay (b ++ line.0 ∷ []) (lines_of between) r
    (front_headless between back _ _ (parts (before ++ line ∷ []) (between ++ back) lines [] rest_shown).back_stands none)
    ∙ own_counts b line.0 a r rest i owned at

-- ---- the header line

outlined : (brackets : Brackets) (ws newline : List ℕ) (ns : List (List ℕ))
    → trees.line_of ws (trees.header_outline (opening_brackets brackets) (closing_brackets brackets)
    (record { before = fresh []; key = key_named ns; after = fresh [] })) no_blank (fresh newline)
    ≡ record { ws = ws; expr = headers.header_of brackets (map spelled ns); tail = []; comment = None; newline = newline }
outlined brackets ws newline [] = refl
outlined brackets ws newline (n ∷ ns) =
    ap (λ (r : List DottedOutline). record {
      ws = ws;
      expr = outline.Header (opening_brackets brackets) [] (spelled n) r [] (closing_brackets brackets);
      tail = [];
      comment = None;
      newline = newline;
    }) (names_outlined ns)

header_outlined : (brackets : Brackets) (p : Address) (ws newline : List ℕ)
    → line_outline (header_line brackets p ws newline) ≡ header_outline p brackets ws newline
header_outlined One p ws newline = outlined One ws newline (names_of p)
header_outlined Two p ws newline = outlined Two ws newline (names_of p)

-- behind it lines stand as without it
pub others_stand : (brackets : Brackets) (p : Address) (front back : List Line) (ws : List ℕ) → own_address (named front) (header_expr brackets p ws) ≡ Some p
    → IsApart brackets p front back → has_pair back ≡ false
    → standing_from (named front ++ named_by (named front) (length front) (header_expr brackets p ws)) (length front + 1) back
    ≡ standing_from (named front) (length front) back
others_stand brackets p front back ws leads apart unkeyed =
    let xs = named front in
    let ys = xs ++ named_by xs (length front) (header_expr brackets p ws) in
    sym (standing_same back xs ys (length front) (length front + 1) (stand_same back xs ys (length front) (length front + 1) (inr unkeyed)
    (header_counted brackets p ws xs (length front) (standing_from xs (length front) back) leads (back_apart brackets p front back apart))))

pub header_stood : (brackets : Brackets) (p : Address) (ws newline : List ℕ) (xs : List Named) → own_address xs (header_expr brackets p ws) ≡ Some p
    → line_stands xs (header_line brackets p ws newline) ≡ new_header p brackets ws newline
header_stood One p ws newline xs leads =
    ap₂ (λ (a : Option Address) (o : LineOutline). record { address = a; base = None; outline = o }) leads (header_outlined One p ws newline)
header_stood Two p ws newline xs leads =
    ap₂ (λ (a : Option Address) (o : LineOutline). record { address = a; base = None; outline = o }) leads (header_outlined Two p ws newline)

-- where its key leads to the address, and no key follows before the next header, it stands there, and the others stay
header_stands : (brackets : Brackets) (p : Address) (front back : List Line) (ws newline : List ℕ) → own_address (named front) (header_expr brackets p ws) ≡ Some p
    → IsApart brackets p front back → has_pair back ≡ false
    → standing_from (named front) (length front) (header_line brackets p ws newline ∷ back)
    ≡ new_header p brackets ws newline ∷ standing_from (named front) (length front) back
header_stands brackets p front back ws newline leads apart unkeyed =
    ap₂ (λ s t. s ∷ t) (header_stood brackets p ws newline (named front) leads) (others_stand brackets p front back ws leads apart unkeyed)

-- so it is of all lines
pub put_stands : (brackets : Brackets) (p : Address) (front back : List Line) (ws newline : List ℕ) → own_address (named front) (header_expr brackets p ws) ≡ Some p
    → IsApart brackets p front back → has_pair back ≡ false
    → standing (front ++ header_line brackets p ws newline ∷ back)
    ≡ standing front ++ new_header p brackets ws newline ∷ standing_from (named front) (length front) back
put_stands brackets p front back ws newline leads apart unkeyed =
    standing_behind front (header_line brackets p ws newline ∷ back) []
    ∙ ap (λ t. standing front ++ t) (header_stands brackets p front back ws newline leads apart unkeyed)

-- ---- the innermost element

-- an index in the address lies in its innermost element
pub index_in : (r rest : Address) (i : ℕ) → (e : Address) × (innermost (r ++ Index i ∷ rest) ≡ Some e) × (more : Address) × (e ≡ r ++ Index i ∷ more)
index_in [] rest i = by (innermost rest) refl
  where
    by : (o : Option Address) → innermost rest ≡ o → (e : Address) × (inner_of (innermost rest) (Index i) ≡ Some e) × (more : Address) × (e ≡ Index i ∷ more)
    by None is = (Index i ∷ [], ap (λ o. inner_of o (Index i)) is, [], refl)
    by (Some steps) is = (Index i ∷ steps, ap (λ o. inner_of o (Index i)) is, steps, refl)
index_in (s ∷ r) rest i =
    let (e, is, more, split) = index_in r rest i in (s ∷ e, ap (λ o. inner_of o s) is, more, ap (λ x. s ∷ x) split)

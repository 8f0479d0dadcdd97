-- Where the new line of an `insert` stands.
use Rattle.std.proofs.Common.{◌≡◌, ◌∙◌, ◌⊎◌, inl, inr, ℕ, true, List, [], ◌∷◌, ◌++◌, length, map, refl, sym, ap, ap₂, subst, subst₂, true≢false, append_assoc, append-nil}
use Rattle.std.specs.Bool.{nat_lt}
use Rattle.std.proofs.lemmas.Bool.{and_parts}
use Rattle.std.proofs.lemmas.List.{append_cancel_left, map-append, same_from_push}
use Rattle.toml_tree.specs.Spells.{AreLines, EachIs}
use Rattle.toml_tree.specs.Tree.{Value, Expr, BlankLine, KeyValLine, TableLine, ArrayTableLine, Line}
use Rattle.toml_names.specs.declared.mentions.mention.Role.TheVariants.{Passed, Dotted, Valued}
use Rattle.toml_names.specs.declared.model.address.Step.{Step}
use Rattle.toml_names.specs.declared.model.address.Step.TheVariants.{Name}
use Rattle.toml_names.specs.mentions.Keys.{Key, key_names}
use Rattle.toml_names.specs.mentions.Mentions.{Named, a_table, fronts, inside, named, named_by, pair_named, section, table_at, value_named}
use Rattle.toml_names.specs.model.Addresses.{Address, IsAbove, below, child, is_above}
use Rattle.toml_names.specs.reader.Names.{own_address}
use Rattle.toml_names.proofs.Proved.{above_is_above}
use Rattle.toml_units.specs.Units.{line_base}
use Rattle.toml_layout.specs.declared.layout.Layout.TheVariants as layouts
use Rattle.toml_layout.specs.Spacings.{Spacing, laid_out, plain_spacing}
use Rattle.toml_working.specs.FirstKeys.{spacing_after}
use Rattle.toml_working.specs.Inserting.{line_put, new_line, spacing_behind, spacing_of}
use Rattle.toml_working.specs.InsertingInTables.{insert_in}
use Rattle.toml_working.specs.Manners.{Manner}
use Rattle.toml_working.specs.Premises.{HasSection}
use Rattle.toml_working.specs.Seeing.{is_dotted}
use Rattle.toml_working.specs.Standing.{line_stands, standing}
use Rattle.toml_editor.specs.Blocks.{named_plain}
use Rattle.toml_editor.proofs.Each.{each_append, each_back, each_weaker}
use Rattle.toml_editor.proofs.written.BelowPlace.{IsKeyed, IsPutBelow, all_headless, below_full, below_section}
use Rattle.toml_editor.proofs.written.Clear.{below-cons}
use Rattle.toml_editor.proofs.written.DocumentSections.{over_is_section}
use Rattle.toml_editor.proofs.written.DottedPlace.{IsPutAmong}
use Rattle.toml_editor.proofs.written.InsertPlace.{IsFull, IsHeadless, insert_place}
use Rattle.toml_editor.proofs.written.InsertSpaced.{IsSpacing, behind_spaced, put_spaced}
use Rattle.toml_editor.proofs.written.OneSection.{over_between}
use Rattle.toml_editor.proofs.written.Plain.{behind, plain_alike, plain_parts}
use Rattle.toml_editor.proofs.written.Roles.{IsPart, IsUnpassed, pair_parts}

-- one that the list has as a table of a dotted key, and behind it nothing that a header passes
pub record IsDottedAgain (ms : List Named) (t : Named) : Type 0 where
  pub before : List Named
  pub twin : Named
  pub after : List Named
  pub is : ms ≡ before ++ twin ∷ after
  pub address : twin.address ≡ t.address
  pub role : twin.role ≡ Dotted
  pub kind : twin.kind ≡ a_table
  pub none : EachIs (λ m. ¬ (m.role ≡ Passed)) after

module _ (q : Address) (name : List ℕ) (v : Value) (manner : Manner) where
  -- behind a line of a section, by a key that has the names from there on; the tables that it passes are tables of dotted keys already
  pub record IsPutAt (old new : List Line) : Type 0 where
    pub section_at : Address
    pub first : List ℕ
    pub rest : Key
    pub same : child q name ≡ below section_at (first ∷ rest)
    pub front : List Line
    pub line : Line
    pub back : List Line
    pub spacing : Spacing
    pub was : old ≡ front ++ line ∷ back
    pub is : new ≡ front ++ line_put spacing (first ∷ rest) v manner line back
    pub section_is : section (named (front ++ line ∷ [])) ≡ section_at
    pub again : EachIs (IsDottedAgain (named_plain (front ++ line ∷ []))) (fronts 0 section_at (first ∷ rest))
    pub spaced : AreLines old → IsSpacing spacing
    pub plain : manner.layout ≡ layouts.Plain → spacing ≡ plain_spacing
    pub full : IsFull line.expr
    pub own : HasSection old q → rest ≡ []

  -- or as the first line of the root
  abbrev pub IsPlace : List Line → List Line → Type 0
  IsPlace old new = ((q ≡ []) × (new ≡ new_line plain_spacing (name ∷ []) v manner.newline ∷ old)) ⊎ IsPutAt old new

no_header_section : (front : List Line) (l : Line) → EachIs (λ (m : Line). IsHeadless m.expr) front → IsHeadless l.expr → section (named (front ++ l ∷ [])) ≡ []
no_header_section front l heads head =
    sym (over_is_section (front ++ l ∷ [])) ∙ over_between (standing (front ++ l ∷ [])) [] (all_headless (front ++ l ∷ []) [] (each front heads))
  where
    each : (ls : List Line) → EachIs (λ (m : Line). IsHeadless m.expr) ls → EachIs (λ (m : Line). IsHeadless m.expr) (ls ++ l ∷ [])
    each [] h = (head, tt)
    each (m ∷ ls) h = (h.0, each ls h.1)

-- at the root
pub root_place : (name : List ℕ) (v : Value) (manner : Manner) (lines : List Line) → IsPlace [] name v manner lines (insert_in [] name v manner lines)
root_place name v manner lines = elim (insert_place name v manner lines) [
  | inl first ↦ inl (refl, first)
  | inr found ↦ inr (record {
    section_at = [];
    first = name;
    rest = [];
    same = refl;
    front = found.front;
    line = found.line;
    back = found.back;
    spacing = laid_out manner.layout (spacing_of found.line.expr);
    was = found.before;
    is = found.after;
    section_is = no_header_section found.front found.line found.heads found.head;
    again = tt;
    spaced = λ forms. behind_spaced manner.layout found.front found.back found.line (subst AreLines found.before forms);
    plain = λ is. ap (λ x. laid_out x (spacing_of found.line.expr)) is;
    full = found.full;
    own = λ has. refl;
  })
]

-- in a table that has a header
pub header_place : (q : Address) (name : List ℕ) (v : Value) (manner : Manner) (lines new : List Line) → IsPutBelow q name v manner lines new
    → IsPutAt q name v manner lines new
header_place q name v manner lines new put = record {
  section_at = q;
  first = name;
  rest = [];
  same = refl;
  front = put.front;
  line = put.line;
  back = put.back;
  spacing = put.spacing;
  was = put.was;
  is = put.is;
  section_is = below_section q name v manner lines new put;
  again = tt;
  spaced = λ forms. subst IsSpacing (sym put.spaced) (put_spaced manner put.front put.back put.line (subst AreLines put.was forms));
  plain = λ is.
      put.spaced
      ∙ ap (λ x. laid_out x (spacing_after (standing put.front) (line_stands (named put.front) put.line).base (line_stands (named put.front) put.line).address
      (line_stands (named put.front) put.line).outline)) is;
  full = below_full q name v manner lines new put;
  own = λ has. refl;
}

-- ---- in a table that dotted keys make

-- a longer key passes what a shorter one does, and more
fronts_longer : (at : Address) (ns : Key) (n m : List ℕ) (more : Key) → fronts 0 at (ns ++ m ∷ more) ≡ fronts 0 at (ns ++ n ∷ []) ++ fronts 0 (below at ns) (m ∷ more)
fronts_longer at [] n m more = ap (λ a. fronts 0 a (m ∷ more)) (sym (append-nil at))
fronts_longer at (k ∷ []) n m more = refl
fronts_longer at (k ∷ l ∷ ns) n m more =
    ap (λ r. table_at 0 Dotted (child at k) ∷ r)
    (fronts_longer (child at k) (l ∷ ns) n m more ∙ ap (λ a. fronts 0 (child at k) ((l ∷ ns) ++ n ∷ []) ++ fronts 0 a (m ∷ more)) (below-cons at k (l ∷ ns)))

-- a nonempty list by its last element
snoc : {A : Type 0} (x : A) (xs : List A) → (ys : List A) × (y : A) × (x ∷ xs ≡ ys ++ y ∷ [])
snoc x [] = ([], x, refl)
snoc x (z ∷ xs) = let (ys, y, is) = snoc z xs in (x ∷ ys, y, ap (λ r. x ∷ r) is)

below_last : (at : Address) (ns : Key) (n : List ℕ) → below at (ns ++ n ∷ []) ≡ child (below at ns) n
below_last at ns n = ap (λ r. at ++ r) (map-append Name ns (n ∷ [])) ∙ sym (append_assoc at (map Name ns) (Name n ∷ []))

-- the key of a name in a table has the names that lead to the table, and the name
pub key_parts : (q at : Address) (name first : List ℕ) (rest : Key) → child q name ≡ below at (first ∷ rest) → (ns : Key) × (first ∷ rest ≡ ns ++ name ∷ []) × (q ≡ below at ns)
key_parts q at name first rest same =
    let (ns, n, is) = snoc first rest in
    let (tables, steps) = same_from_push q (below at ns) (Name name) (Name n) (same ∙ ap (below at) is ∙ below_last at ns n) in
    let names : n ≡ name = cc in
    (ns, is ∙ ap (λ x. ns ++ x ∷ []) names, tables)

-- where an address goes on behind names, the names behind a section's address go on so
names_on : (ns key : Key) (s : Step) (rest : Address) → map Name key ≡ map Name ns ++ s ∷ rest → (m : List ℕ) × (more : Key) × (key ≡ ns ++ m ∷ more)
names_on [] [] s rest is = absurd (let e : ⊥ = cc in e)
names_on [] (k ∷ key) s rest is = (k, key, refl)
names_on (n ∷ ns) [] s rest is = absurd (let e : ⊥ = cc in e)
names_on (n ∷ ns) (k ∷ key) s rest is =
    let head : k ≡ n = cc in
    let tail : map Name key ≡ map Name ns ++ s ∷ rest = cc in
    let (m, more, on) = names_on ns key s rest tail in
    (m, more, ap₂ (λ x y. x ∷ y) head on)

key_goes_on : (at : Address) (ns key : Key) → IsAbove (below at ns) (below at key) → (m : List ℕ) × (more : Key) × (key ≡ ns ++ m ∷ more)
key_goes_on at ns key (s, rest, is) = names_on ns key s rest (append_cancel_left at (map Name key) (map Name ns ++ s ∷ rest) (is ∙ append_assoc at (map Name ns) (s ∷ rest)))

-- each of these stands among lists that no header passes
again_among : (before ts after : List Named) → EachIs (λ t. (t.role ≡ Dotted) × (t.kind ≡ a_table) × IsUnpassed t) ts → EachIs IsUnpassed after
    → EachIs (IsDottedAgain (before ++ (ts ++ after))) ts
again_among before [] after are unpassed = tt
again_among before (t ∷ ts) after are unpassed = (
  record {
    before = before;
    twin = t;
    after = ts ++ after;
    is = refl;
    address = refl;
    role = are.0.0;
    kind = are.0.1;
    none = each_append IsUnpassed ts after (each_weaker _ IsUnpassed (λ x h. h.2) ts are.1) unpassed;
  },
  subst (λ ms. EachIs (IsDottedAgain ms) ts) (append_assoc before (t ∷ []) (ts ++ after)) (again_among (before ++ t ∷ []) ts after are.1 unpassed),
)

pub fronts_dotted : (at : Address) (key : Key) → EachIs (λ t. (t.role ≡ Dotted) × (t.kind ≡ a_table) × IsUnpassed t) (fronts 0 at key)
fronts_dotted at [] = tt
fronts_dotted at (n ∷ []) = tt
fronts_dotted at (n ∷ m ∷ more) = ((refl, refl, (λ is. cc)), fronts_dotted (child at n) (m ∷ more))

-- lines without headers name nothing that a header passes
unpassed_lines : (ls : List Line) (xs : List Named) → EachIs (λ (l : Line). IsHeadless l.expr) ls → EachIs IsUnpassed (behind xs ls)
unpassed_lines [] xs heads = tt
unpassed_lines (l ∷ ls) xs heads =
    each_append IsUnpassed (named_by xs 0 l.expr) (behind (xs ++ named_by xs 0 l.expr) ls) (by l.expr heads.0) (unpassed_lines ls (xs ++ named_by xs 0 l.expr) heads.1)
  where
    by : (e : Expr) → IsHeadless e → EachIs IsUnpassed (named_by xs 0 e)
    by (BlankLine b) h = tt
    by (KeyValLine ws pair tail) h =
        each_weaker IsPart IsUnpassed (λ m part. part.0) (pair_named 0 (section xs) pair.assign pair.value) (pair_parts 0 pair.assign pair.value (section xs))
    by (TableLine ws header tail) h = absurd h
    by (ArrayTableLine ws header tail) h = absurd h

module _ (q : Address) (name : List ℕ) (v : Value) (manner : Manner) (lines new : List Line) (put : IsPutAmong q name v manner lines new) where
  keyed_full : (e : Expr) → IsKeyed e → IsFull e
  keyed_full (KeyValLine ws pair tail) h = tt
  keyed_full (BlankLine b) h = absurd h
  keyed_full (TableLine ws header tail) h = absurd h
  keyed_full (ArrayTableLine ws header tail) h = absurd h

  -- the tables that the key passes are those of the line that makes the table
  dotted_again : (first : List ℕ) (rest : Key) → put.key ≡ first ∷ rest
      → EachIs (IsDottedAgain (named_plain (put.front ++ put.line ∷ []))) (fronts 0 put.section_at (first ∷ rest))
  dotted_again first rest key_is = by put.maker.expr refl put.makes
    where
      xs : List Named
      xs = named_plain put.before

      at : Address
      at = put.section_at

      there : section xs ≡ at
      there = sym (plain_alike (named put.before)).sections ∙ put.made_in

      outer : (ns : Key) × (first ∷ rest ≡ ns ++ name ∷ []) × (q ≡ below at ns)
      outer = key_parts q at name first rest (put.same ∙ ap (below at) key_is)

      Test : Expr → Type 0
      Test e = is_dotted q (line_base (named put.before) e) (own_address (named put.before) e) ≡ true

      by : (e : Expr) → put.maker.expr ≡ e → Test put.maker.expr → EachIs (IsDottedAgain (named_plain (put.front ++ put.line ∷ []))) (fronts 0 at (first ∷ rest))
      by (BlankLine b) is makes = absurd (true≢false (sym (subst Test is makes)))
      by (TableLine ws header tail) is makes = absurd (true≢false (sym (subst Test is makes)))
      by (ArrayTableLine ws header tail) is makes = absurd (true≢false (sym (subst Test is makes)))
      by (KeyValLine ws pair tail) is makes =
          let s = section (named put.before) in
          let names = key_names pair.assign.key in
          let above = (and_parts (nat_lt (length s) (length q)) (is_above q (below s names)) (subst Test is makes)).1 in
          let over : IsAbove (below at outer.0) (below at names) = subst₂ (λ a b. IsAbove a (below b names)) outer.2 put.made_in ((above_is_above q _).0 above) in
          let (m, more, longer) = key_goes_on at outer.0 names over in
          let passed = fronts 0 at (outer.0 ++ name ∷ []) in
          let others = fronts 0 (below at outer.0) (m ∷ more) in
          let value = value_named 0 Valued (below at names) pair.value ∷ inside 0 (below at names) pair.value in
          let behind_it = behind (xs ++ named_by xs 0 put.maker.expr) put.mid in
          let named_it : pair_named 0 (section xs) pair.assign pair.value ≡ passed ++ (others ++ value) =
          ap (λ a. pair_named 0 a pair.assign pair.value) there
          ∙ ap (λ r. r ++ value) (ap (fronts 0 at) longer ∙ fronts_longer at outer.0 name m more) ∙ append_assoc passed others value in
          let own : named_by xs 0 put.maker.expr ≡ passed ++ (others ++ value) = ap (named_by xs 0) is ∙ named_it in
          let whole : named_plain (put.front ++ put.line ∷ []) ≡ xs ++ (passed ++ ((others ++ value) ++ behind_it)) =
          ap named_plain (sym put.parts) ∙ plain_parts put.before (put.maker ∷ put.mid)
          ∙ ap (λ r. xs ++ (r ++ behind_it)) own ∙ ap (λ r. xs ++ r) (append_assoc passed (others ++ value) behind_it) in
          let parts = each_weaker IsPart IsUnpassed (λ x part. part.0) (passed ++ (others ++ value))
          (subst (EachIs IsPart) named_it (pair_parts 0 pair.assign pair.value (section xs))) in
          subst₂ (λ ms ts. EachIs (IsDottedAgain ms) (fronts 0 at ts)) (sym whole) (sym outer.1)
          (again_among xs passed ((others ++ value) ++ behind_it) (fronts_dotted at (outer.0 ++ name ∷ []))
          (each_append IsUnpassed (others ++ value) behind_it (each_back IsUnpassed passed (others ++ value) parts) (unpassed_lines put.mid _ put.headless)))

  pub dotted_place : (first : List ℕ) (rest : Key) → put.key ≡ first ∷ rest → ¬ HasSection lines q → IsPutAt q name v manner lines new
  dotted_place first rest key_is unheaded = record {
    section_at = put.section_at;
    first = first;
    rest = rest;
    same = put.same ∙ ap (below put.section_at) key_is;
    front = put.front;
    line = put.line;
    back = put.back;
    spacing = spacing_behind manner put.line;
    was = put.was;
    is = put.is ∙ ap (λ k. put.front ++ line_put (spacing_behind manner put.line) k v manner put.line put.back) key_is;
    section_is = put.section_is;
    again = dotted_again first rest key_is;
    spaced = λ forms. behind_spaced manner.layout put.front put.back put.line (subst AreLines put.was forms);
    plain = λ is. ap (λ x. laid_out x (spacing_of put.line.expr)) is;
    full = keyed_full put.line.expr put.keyed;
    own = λ has. absurd (unheaded has);
  }

-- Where the new line of an `insert` in a table with a header stands.
use Rattle.std.proofs.Common.{◌≡◌, ◌∙◌, inl, inr, ℕ, ◌+◌, Bool, true, false, ◌||◌, Some, List, [], ◌∷◌, ◌++◌, length, length-append, refl, sym, ap, ap₂, subst, subst₂, true≢false, append_assoc, append-nil}
use Rattle.std.specs.List.{list_any}
use Rattle.std.proofs.lemmas.Bool.{cond-true, cond-false}
use Rattle.std.proofs.lemmas.Option.{none-some}
use Rattle.toml_tree.specs.Spells.{EachIs}
use Rattle.toml_tree.specs.Tree.{Value, Expr, BlankLine, KeyValLine, TableLine, ArrayTableLine, Line}
use Rattle.toml_names.specs.mentions.Keys.{Key}
use Rattle.toml_names.specs.mentions.Mentions.{Named, named, named_by, section}
use Rattle.toml_names.specs.model.Addresses.{Address}
use Rattle.toml_names.specs.reader.Names.{own_address}
use Rattle.toml_units.specs.Units.{line_base}
use Rattle.toml_layout.specs.Spacings.{Spacing}
use Rattle.toml_working.specs.declared.lines.Sought.TheVariants as sought
use Rattle.toml_working.specs.FirstKeys.{spacing_put}
use Rattle.toml_working.specs.Inserting as lines
use Rattle.toml_working.specs.Manners.{Manner}
use Rattle.toml_working.specs.Placing.{IsNoHeader, IsPair}
use Rattle.toml_working.specs.Sections.{StandsBelow, stands_in}
use Rattle.toml_working.specs.Seeing.{heads, is_sought_line}
use Rattle.toml_working.specs.Standing.{line_stands, standing, standing_from}
use Rattle.toml_layout.specs.TreeOutlines.{line_outline}
use Rattle.toml_editor.proofs.written.InsertPlace.{IsFull, IsHeadless}
use Rattle.toml_editor.proofs.written.DocumentSections.{document_sectioned, named_next, over_is_section}
use Rattle.toml_editor.proofs.written.OneSection.{AreSectioned, section_over, stands_below}

-- lines behind others, by what finds them
pub standing_behind : (a b before : List Line) → standing_from (named before) (length before) (a ++ b)
    ≡ standing_from (named before) (length before) a ++ standing_from (named (before ++ a)) (length (before ++ a)) b
standing_behind [] b before = ap (λ bs. standing_from (named bs) (length bs) b) (sym (append-nil before))
standing_behind (l ∷ a) b before =
    let next = ap₂ (λ xs k. standing_from xs k (a ++ b)) (sym (named_next before l)) (sym (length-append before (l ∷ []))) in
    let back = ap₂ (λ xs k. standing_from xs k a) (named_next before l) (length-append before (l ∷ [])) in
    ap (λ r. line_stands (named before) l ∷ r)
    (next ∙ standing_behind a b (before ++ l ∷ [])
    ∙ ap₂ (λ x bs. x ++ standing_from (named bs) (length bs) b) back (append_assoc before (l ∷ []) a))

-- so they are behind one
pub standing_next : (before : List Line) (l : Line) (ls : List Line) → standing_from (named before ++ named_by (named before) (length before) l.expr) (length before + 1) ls
    ≡ standing_from (named (before ++ l ∷ [])) (length (before ++ l ∷ [])) ls
standing_next before l ls = ap₂ (λ xs k. standing_from xs k ls) (sym (named_next before l)) (sym (length-append before (l ∷ [])))

-- a key stands on it
abbrev pub IsKeyed : Expr → Type 0
IsKeyed (KeyValLine ws pair tail) = Unit {0}
IsKeyed _ = ⊥

headless_stands : (xs : List Named) (l : Line) → IsHeadless l.expr → IsNoHeader (line_stands xs l)
headless_stands xs l headless = by l.expr headless
  where
    by : (e : Expr) → IsHeadless e → IsNoHeader (record { address = own_address xs e; base = line_base xs e; outline = line_outline l })
    by (BlankLine b) h = refl
    by (KeyValLine ws pair tail) h = refl
    by (TableLine ws header tail) h = absurd h
    by (ArrayTableLine ws header tail) h = absurd h

pub all_headless : (ls before : List Line) → EachIs (λ (l : Line). IsHeadless l.expr) ls → EachIs IsNoHeader (standing_from (named before) (length before) ls)
all_headless [] before headless = tt
all_headless (l ∷ ls) before headless = (
  headless_stands (named before) l headless.0,
  subst₂ (λ xs k. EachIs IsNoHeader (standing_from xs k ls)) (named_next before l) (length-append before (l ∷ [])) (all_headless ls (before ++ l ∷ []) headless.1),
)

keyed_stands : (xs : List Named) (l : Line) → IsKeyed l.expr → IsPair (line_stands xs l)
keyed_stands xs l keyed = by l.expr refl keyed
  where
    by : (e : Expr) → l.expr ≡ e → IsKeyed e → (n : ℕ) × (line_base xs l.expr ≡ Some n)
    by (KeyValLine ws pair tail) is h = (length (section xs), ap (line_base xs) is)
    by (BlankLine b) is h = absurd h
    by (TableLine ws header tail) is h = absurd h
    by (ArrayTableLine ws header tail) is h = absurd h

module _ (key : Key) (v : Value) (manner : Manner) where
  -- the last keyval line before the first header
  pub record IsLastOne (spacing : Line → Spacing) (old new : List Line) : Type 0 where
    pub mid : List Line
    pub line : Line
    pub back : List Line
    pub was : old ≡ mid ++ line ∷ back
    pub headless : EachIs (λ (l : Line). IsHeadless l.expr) mid
    pub keyed : IsKeyed line.expr
    pub last : lines.has_pair back ≡ false
    pub is : new ≡ mid ++ lines.line_put (spacing line) key v manner line back

  pub last_one : (spacing : Line → Spacing) (ls : List Line) → lines.has_pair ls ≡ true → IsLastOne spacing ls (lines.put_last lines.has_pair spacing key v manner ls)
  last_one spacing [] has = absurd (true≢false (sym has))
  last_one spacing (l ∷ ls) has = by (lines.has_pair ls) refl (last_one spacing ls)
    where
      head : (e : Expr) → elim e [ BlankLine b ↦ lines.has_pair ls | KeyValLine ws pair tail ↦ true | TableLine ws header tail ↦ false | ArrayTableLine ws header tail ↦ false ] ≡ true → IsHeadless e
      head (BlankLine b) h = tt
      head (KeyValLine ws pair tail) h = tt
      head (TableLine ws header tail) h = absurd (true≢false (sym h))
      head (ArrayTableLine ws header tail) h = absurd (true≢false (sym h))

      keyed_at : lines.has_pair ls ≡ false → (e : Expr) → elim e [ BlankLine b ↦ lines.has_pair ls | KeyValLine ws pair tail ↦ true | TableLine ws header tail ↦ false | ArrayTableLine ws header tail ↦ false ] ≡ true → IsKeyed e
      keyed_at none (BlankLine b) h = absurd (true≢false (sym h ∙ none))
      keyed_at none (KeyValLine ws pair tail) h = tt
      keyed_at none (TableLine ws header tail) h = absurd (true≢false (sym h))
      keyed_at none (ArrayTableLine ws header tail) h = absurd (true≢false (sym h))

      by : (b : Bool) → lines.has_pair ls ≡ b → (lines.has_pair ls ≡ true → IsLastOne spacing ls (lines.put_last lines.has_pair spacing key v manner ls))
          → IsLastOne spacing (l ∷ ls) (lines.put_last lines.has_pair spacing key v manner (l ∷ ls))
      by true here more =
          let found = more here in
          record {
            mid = l ∷ found.mid;
            line = found.line;
            back = found.back;
            was = ap (λ r. l ∷ r) found.was;
            headless = (head l.expr has, found.headless);
            keyed = found.keyed;
            last = found.last;
            is = cond-true _ _ _ here ∙ ap (λ r. l ∷ r) found.is;
          }
      by false here more = record {
        mid = [];
        line = l;
        back = ls;
        was = refl;
        headless = tt;
        keyed = keyed_at here l.expr has;
        last = here;
        is = cond-false _ _ _ here;
      }

module _ (q : Address) (name : List ℕ) (v : Value) (manner : Manner) where
  -- The line is put in behind one of the table's section.
  pub record IsPutBelow (old new : List Line) : Type 0 where
    pub front : List Line
    pub line : Line
    pub back : List Line
    pub spacing : Spacing
    pub was : old ≡ front ++ line ∷ back
    pub is : new ≡ front ++ lines.line_put spacing (name ∷ []) v manner line back
    pub below : StandsBelow q (standing front) (line_stands (named front) line)
    pub last : lines.has_pair back ≡ false
    pub spaced : spacing ≡ spacing_put manner (standing front) (line_stands (named front) line)

  abbrev Spaced : List Line → List Line → Line → Type 0
  Spaced before front l = lines.spacing_put manner before l ≡ spacing_put manner (standing front) (line_stands (named front) l)

  keyed_spaced : (before front : List Line) (l : Line) → IsKeyed l.expr → Spaced before front l
  keyed_spaced before front l keyed = by l.expr refl keyed
    where
      by : (e : Expr) → l.expr ≡ e → IsKeyed e → Spaced before front l
      by (KeyValLine ws pair tail) is h = subst (λ e. Spaced before front (record { expr = e; newline = l.newline })) (sym is) refl
      by (BlankLine b) is h = absurd h
      by (TableLine ws header tail) is h = absurd h
      by (ArrayTableLine ws header tail) is h = absurd h

  header_spaced : (before : List Line) (l : Line) → Spaced before before l
  header_spaced before l = by l.expr refl
    where
      by : (e : Expr) → l.expr ≡ e → Spaced before before l
      by (KeyValLine ws pair tail) is = subst (λ e. Spaced before before (record { expr = e; newline = l.newline })) (sym is) refl
      by (BlankLine b) is = subst (λ e. Spaced before before (record { expr = e; newline = l.newline })) (sym is) refl
      by (TableLine ws header tail) is = subst (λ e. Spaced before before (record { expr = e; newline = l.newline })) (sym is) refl
      by (ArrayTableLine ws header tail) is = subst (λ e. Spaced before before (record { expr = e; newline = l.newline })) (sym is) refl

  -- behind the header, or behind the last keyval line of its section
  header_place : (before : List Line) (h : Line) (ls : List Line) → lines.is_header_of q before h ≡ true
      → IsPutBelow (before ++ h ∷ ls) (before ++ lines.put_last lines.has_pair (lines.spacing_put manner before) (name ∷ []) v manner (h ∷ ls))
  header_place before h ls heads_it = by (lines.has_pair ls) refl
    where
      by : (b : Bool) → lines.has_pair ls ≡ b → IsPutBelow (before ++ h ∷ ls) (before ++ lines.put_last lines.has_pair (lines.spacing_put manner before) (name ∷ []) v manner (h ∷ ls))
      by false none = record {
        front = before;
        line = h;
        back = ls;
        spacing = lines.spacing_put manner before h;
        was = refl;
        is = ap (λ r. before ++ r) (cond-false _ _ _ none);
        below = inl heads_it;
        last = none;
        spaced = header_spaced before h;
      }
      by true has =
          let one = last_one (name ∷ []) v manner (lines.spacing_put manner before) ls has in
          let front = before ++ h ∷ one.mid in
          let split : standing front ≡ standing before ++ line_stands (named before) h ∷ standing_from (named (before ++ h ∷ [])) (length (before ++ h ∷ [])) one.mid =
          standing_behind before (h ∷ one.mid) []
          ∙ ap (λ r. standing before ++ line_stands (named before) h ∷ r)
          (ap₂ (λ xs k. standing_from xs k one.mid) (sym (named_next before h)) (sym (length-append before (h ∷ [])))) in
          record {
            front = front;
            line = one.line;
            back = one.back;
            spacing = lines.spacing_put manner before one.line;
            was = ap (λ r. before ++ h ∷ r) one.was ∙ sym (append_assoc before (h ∷ one.mid) (one.line ∷ one.back));
            is =
                ap (λ r. before ++ r) (cond-true _ _ _ has ∙ ap (λ r. h ∷ r) one.is)
                ∙ sym (append_assoc before (h ∷ one.mid) (lines.line_put (lines.spacing_put manner before one.line) (name ∷ []) v manner one.line one.back));
            below = inr (inr (
              keyed_stands (named front) one.line one.keyed,
              (
                standing before,
                line_stands (named before) h,
                standing_from (named (before ++ h ∷ [])) (length (before ++ h ∷ [])) one.mid,
                split,
                heads_it,
                all_headless one.mid (before ++ h ∷ []) one.headless,
              ),
            ));
            last = one.last;
            spaced = keyed_spaced before front one.line one.keyed;
          }

  below_from : (ls before : List Line) → list_any (is_sought_line sought.Header q) (standing_from (named before) (length before) ls) ≡ true
      → IsPutBelow (before ++ ls) (before ++ lines.insert_from q name v manner before ls)
  below_from [] before there = absurd (true≢false (sym there))
  below_from (l ∷ ls) before there = by (lines.is_header_of q before l) refl there (λ more. below_from ls (before ++ l ∷ []) more)
    where
      next : list_any (is_sought_line sought.Header q) (standing_from (named before ++ named_by (named before) (length before) l.expr) (length before + 1) ls)
          ≡ list_any (is_sought_line sought.Header q) (standing_from (named (before ++ l ∷ [])) (length (before ++ l ∷ [])) ls)
      next = ap (list_any (is_sought_line sought.Header q)) (standing_next before l ls)

      by : (b : Bool) → lines.is_header_of q before l ≡ b
          → (b || list_any (is_sought_line sought.Header q) (standing_from (named before ++ named_by (named before) (length before) l.expr) (length before + 1) ls)) ≡ true
          → (list_any (is_sought_line sought.Header q) (standing_from (named (before ++ l ∷ [])) (length (before ++ l ∷ [])) ls) ≡ true
          → IsPutBelow ((before ++ l ∷ []) ++ ls) ((before ++ l ∷ []) ++ lines.insert_from q name v manner (before ++ l ∷ []) ls))
          → IsPutBelow (before ++ l ∷ ls) (before ++ lines.insert_from q name v manner before (l ∷ ls))
      by true is h more = subst (λ r. IsPutBelow (before ++ l ∷ ls) (before ++ r)) (sym (cond-true _ _ _ is)) (header_place before l ls is)
      by false is h more =
          subst₂ IsPutBelow (append_assoc before (l ∷ []) ls)
          (append_assoc before (l ∷ []) (lines.insert_from q name v manner (before ++ l ∷ []) ls) ∙ ap (λ r. before ++ r) (sym (cond-false _ _ _ is)))
          (more (sym next ∙ h))

  pub below_place : (ls : List Line) → list_any (is_sought_line sought.Header q) (standing ls) ≡ true → IsPutBelow ls (lines.insert_from q name v manner [] ls)
  below_place ls there = below_from ls [] there

  -- that section is the table's
  pub below_section : (old new : List Line) (put : IsPutBelow old new) → section (named (put.front ++ put.line ∷ [])) ≡ q
  below_section old new put =
      let split : standing (put.front ++ put.line ∷ []) ≡ standing put.front ++ line_stands (named put.front) put.line ∷ [] = standing_behind put.front (put.line ∷ []) [] in
      sym (over_is_section (put.front ++ put.line ∷ [])) ∙ ap (section_over []) split
      ∙ (stands_below q [] (standing put.front) (line_stands (named put.front) put.line) []
      (subst (AreSectioned []) split (document_sectioned (put.front ++ put.line ∷ []))) put.below).0

  pub below_full : (old new : List Line) (put : IsPutBelow old new) → IsFull put.line.expr
  below_full old new put = by put.line.expr refl
    where
      xs : List Named
      xs = named put.front

      by : (e : Expr) → put.line.expr ≡ e → IsFull e
      by (KeyValLine ws pair tail) is = tt
      by (TableLine ws header tail) is = tt
      by (ArrayTableLine ws header tail) is = tt
      by (BlankLine b) is = absurd (elim put.below [
        | inl heads_it ↦ true≢false (sym (ap (λ e. heads q (line_base xs e) (own_address xs e)) (sym is) ∙ heads_it))
        | inr (inl of_section) ↦ true≢false (sym (ap (λ e. stands_in q (line_base xs e) (own_address xs e)) (sym is) ∙ of_section))
        | inr (inr ((n, pair), behind)) ↦ none-some n (ap (line_base xs) (sym is) ∙ pair)
      ])

-- The lines of a text, one after another, in which a value is looked for.
use Rattle.std.proofs.Common.{◌≡◌, ◌⊎◌, ◌+◌, ◌<◌, ℕ, List, [], ◌∷◌, ◌++◌, length, Bool, true, false, Option, Some, None, is_some, Ok, Bor, refl, sym, ap, ◌∙◌, subst, append_assoc, inl, inr}
use Rattle.std.proofs.lemmas.List.{append-nil}
use Rattle.toml_tree.specs.HandedOut.{AreLinesIn, HandsOut, front_of, lines_from, tree_of}
use Rattle.toml_tree.specs.Loops.{prefixed}
use Rattle.toml_tree.specs.Reading.{Cursor, all_of, many, here}
use Rattle.toml_tree.specs.ReadingLines.{line_step, lines_at, document_at}
use Rattle.toml_tree.specs.Reads.{cursor}
use Rattle.toml_tree.specs.Spells.{mark_of}
use Rattle.toml_tree.specs.Tree.{Value, Line, Doc}
use Rattle.toml_tree.specs.declared.line_reader.LineReader.{LineReader}
use Rattle.toml_tree.specs.declared.profile.Profile.{Profile}
use Rattle.toml_tree.proofs.Proved.{one_tree, reader_complete}
use Rattle.toml_names.specs.declared.line_names.LineNames.{LineNames as Names}
use Rattle.toml_names.specs.mentions.Mentions.{named}
use Rattle.toml_names.specs.model.Addresses.{Address}
use Rattle.toml_names.specs.reader.LineNames.{StandFor, IsTold}
use Rattle.toml_names.specs.reader.Names.{own_address}
use Rattle.toml_names.specs.reader.Texts.{AreLeft, more_left}
use Rattle.toml_print.specs.Searching.{FindsOfLine, FindsInText, ArePassed, IsFoundIn, IsOfLine, LooksOn}
use Rattle.toml_print.specs.ValueTexts.{HasValueAt, IsValueAt}

-- a text has one list of lines
one_lines : (profile : Profile) (text : List ℕ) (a b : List Line) → AreLinesIn profile text a → AreLinesIn profile text b → a ≡ b
one_lines profile text a b is was = ap (λ (d : Doc). d.lines) (one_tree (tree_of text a) (tree_of text b) text is.spelled.0 was.spelled.0)

-- the document of what was read of the lines
abbrev all_lines : Option (List Line × Line × Cursor) → Option (List Line × Cursor)
all_lines None = None
all_lines (Some r) = Some (r.0 ++ r.1 ∷ [], r.2)

abbrev whole_document : List ℕ → Option (List Line × Cursor) → Option Doc
whole_document text None = None
whole_document text (Some r) = Some (record { mark = here (length (mark_of text)) (front_of text); lines = r.0 })

-- what the plain reader reads, where this is read of the lines
read_so : (profile : Profile) (text : List ℕ) (o : Option (List Line × Line × Cursor)) → all_of (line_step profile) (lines_from text) ≡ o
    → document_at profile text ≡ whole_document text (all_lines o)
unfolding document_at lines_at
read_so profile text o is = by o is
  where
    by : (o : Option (List Line × Line × Cursor)) → all_of (line_step profile) (lines_from text) ≡ o → document_at profile text ≡ whole_document text (all_lines o)
    by None is = rw is refl
    by (Some r) is = rw is refl

-- the lines of the text go on behind those that were handed out
handed_front : (profile : Profile) (text : List ℕ) (front lines : List Line) (r : LineReader) → HandsOut profile text front r → AreLinesIn profile text lines → (rest : List Line) × (lines ≡ front ++ rest)
handed_front profile text front lines r hands are = by (many (line_step profile) hands.behind.fuel (cursor r.reader)) hands.behind.same
  where
    whole : document_at profile text ≡ Some (tree_of text lines)
    whole = reader_complete profile text (tree_of text lines) are.spelled

    by : (o : Option (List Line × Line × Cursor)) → all_of (line_step profile) (lines_from text) ≡ prefixed front o → (rest : List Line) × (lines ≡ front ++ rest)
    by None is = let no : None ≡ Some (tree_of text lines) = sym (read_so profile text (prefixed front None) is) ∙ whole in absurd cc
    by (Some s) is =
        let both : Some (tree_of text lines) ≡ Some (tree_of text ((front ++ s.0) ++ s.1 ∷ [])) = sym whole ∙ read_so profile text (prefixed front (Some s)) is in
        let same : tree_of text lines ≡ tree_of text ((front ++ s.0) ++ s.1 ∷ []) = cc in
        (s.0 ++ s.1 ∷ [], ap (λ (d : Doc). d.lines) same ∙ append_assoc front s.0 (s.1 ∷ []))

front_of_all : (profile : Profile) (text : List ℕ) (front lines : List Line) (left : Option LineReader) → AreLeft profile text front left → AreLinesIn profile text lines → (rest : List Line) × (lines ≡ front ++ rest)
front_of_all profile text front lines (Some r) left are = handed_front profile text front lines r left are
front_of_all profile text front lines None left are = ([], one_lines profile text lines front are left ∙ sym (append-nil front))

-- the same of a list of one more: all of it before, or the last
split : (front before behind : List Line) (l x : Line) → front ++ l ∷ [] ≡ before ++ x ∷ behind → ((front ≡ before) × (l ≡ x)) ⊎ ((more : List Line) × (front ≡ before ++ x ∷ more))
split [] [] behind l x is = let last : l ≡ x = cc in inl (refl, last)
split (f ∷ front) [] behind l x is = let first : f ≡ x = cc in inr (front, ap (λ y. y ∷ front) first)
split [] (b ∷ before) behind l x is = let rest : [] ≡ before ++ x ∷ behind = cc in absurd (not_empty before rest)
  where
    not_empty : (ls : List Line) → [] ≡ ls ++ x ∷ behind → ⊥
    not_empty [] e = cc
    not_empty (y ∷ ls) e = cc
split (f ∷ front) (b ∷ before) behind l x is =
    let first : f ≡ b = cc in
    let rest : front ++ l ∷ [] ≡ before ++ x ∷ behind = cc in
    elim (split front before behind l x rest) [
      | inl h ↦ inl ((λ i. first i ∷ h.0 i), h.1)
      | inr h ↦ inr (h.0, λ i. first i ∷ h.1 i)
    ]

-- no line has the value
none_at_all : (at : Address) (w : Value) → ¬ IsValueAt [] at w
none_at_all at w h = none h.before h.is
  where
    none : (before : List Line) → [] ≡ before ++ h.line ∷ h.behind → ⊥
    none [] e = cc
    none (l ∷ ls) e = cc

-- one more line has none
none_more : (front : List Line) (l : Line) (at : Address) → ((w : Value) → ¬ IsValueAt front at w) → ((w : Value) → ¬ HasValueAt front l at w) → (w : Value) → ¬ IsValueAt (front ++ l ∷ []) at w
none_more front l at none last w h = elim (split front h.before h.behind l h.line h.is) [
  | inl e ↦ last w (subst (λ (ls : List Line). HasValueAt ls l at w) (sym e.0) (subst (λ (x : Line). HasValueAt h.before x at w) (sym e.1) h.has))
  | inr e ↦ none w (record { before = h.before; line = h.line; behind = e.0; is = e.1; has = h.has })
]

in_more : (front rest : List Line) (at : Address) (w : Value) → IsValueAt front at w → IsValueAt (front ++ rest) at w
in_more front rest at w h = record {
  before = h.before;
  line = h.line;
  behind = h.behind ++ rest;
  is = ap (λ ls. ls ++ rest) h.is ∙ append_assoc h.before (h.line ∷ h.behind) rest;
  has = h.has;
}

-- a value that was found so stands in the line
has_value : (front : List Line) (l : Line) (own at : Address) (w : Value) → own_address (named front) l.expr ≡ Some own → IsOfLine l.expr own at w → HasValueAt front l at w
has_value front l own at w address (v, rest, there, is, stands) = record { own = own; address = address; value = v; there = there; rest = rest; is = is; inside = stands }

of_line : (front : List Line) (l : Line) (own at : Address) (w : Value) → own_address (named front) l.expr ≡ Some own → HasValueAt front l at w → IsOfLine l.expr own at w
of_line front l own at w address h =
    let both : Some h.own ≡ Some own = sym h.address ∙ address in
    let same : h.own ≡ own = cc in
    (h.value, h.rest, h.there, h.is ∙ ap (λ a. a ++ h.rest) same, h.inside)

no_address : (front : List Line) (l : Line) (at : Address) → own_address (named front) l.expr ≡ None → (w : Value) → ¬ HasValueAt front l at w
no_address front l at none w h = let no : None ≡ Some h.own = sym none ∙ h.address in cc

pub passed_start : (profile : Profile) (text : List ℕ) (at : Address) (names : Names) (reader : LineReader) → StandFor names [] → HandsOut profile text [] reader → ArePassed profile text at names (Some reader)
passed_start profile text at names reader stand hands = record { taken = record { front = []; are = hands; stand = stand }; none = none_at_all at }

module _ (profile : Profile) (text : List ℕ) (at : Address) (new : Names) (front : List Line) (l : Line) (more : Option LineReader)
    (none : (w : Value) → ¬ IsValueAt front at w) (are : AreLeft profile text (front ++ l ∷ []) more) (stand : StandFor new (front ++ l ∷ [])) where
  -- a line without an address of its own was passed,
  pub passed_blank : own_address (named front) l.expr ≡ None → ArePassed profile text at new more
  passed_blank blank = record { taken = record { front = front ++ l ∷ []; are = are; stand = stand }; none = none_more front l at none (no_address front l at blank) }

  -- so was one in which nothing was found,
  pub passed_line : (own : Address) → own_address (named front) l.expr ≡ Some own → FindsOfLine l.expr own at None → ArePassed profile text at new more
  passed_line own address finds = record {
    taken = record { front = front ++ l ∷ []; are = are; stand = stand };
    none = none_more front l at none (λ w h. finds w (of_line front l own at w address h));
  }

  -- and in another it was found
  pub found_line : (own : Address) (found : Bor (List ℕ)) → own_address (named front) l.expr ≡ Some own → FindsOfLine l.expr own at (Some found) → IsFoundIn profile text at more found.now
  found_line own found address finds = record {
    front = front ++ l ∷ [];
    are = are;
    value = finds.0;
    there = record { before = front; line = l; behind = []; is = refl; has = has_value front l own at finds.0 address finds.1 };
    is = finds.2;
  }

  -- either way
  pub looked : (found : Option (Bor (List ℕ))) (n : ℕ) (own : Address) → own_address (named front) l.expr ≡ Some own → FindsOfLine l.expr own at found → more_left more < n + 1 → LooksOn profile text at n new (Ok (found, more))
  looked None n own address finds less = (passed_line own address finds, less)
  looked (Some found) n own address finds less = found_line own found address finds

-- the address that a line was told to have
pub address_told : (own : Option Address) (old here : Address) (told : Bool) → told ≡ true → IsTold own old here told → own ≡ Some here
address_told own old here true is h = h
address_told own old here false is h = let e : false ≡ true = is in cc

pub no_address_told : (own : Option Address) (old here : Address) (told : Bool) → told ≡ false → IsTold own old here told → own ≡ None
no_address_told own old here true is h = let e : true ≡ false = is in cc
no_address_told own old here false is h = h.0

pub found_in_text : (profile : Profile) (text : List ℕ) (at : Address) (lines : List Line) (left : Option LineReader) (found : Bor (List ℕ)) → AreLinesIn profile text lines → IsFoundIn profile text at left found.now → FindsInText lines at (Some found)
found_in_text profile text at lines left found are h =
    let all = front_of_all profile text h.front lines left h.are are in
    (h.value, subst (λ (ls : List Line). IsValueAt ls at h.value) (sym all.1) (in_more h.front all.0 at h.value h.there), h.is)

pub none_in_text : (profile : Profile) (text : List ℕ) (at : Address) (lines : List Line) (names : Names) → AreLinesIn profile text lines → ArePassed profile text at names None → FindsInText lines at None
none_in_text profile text at lines names are h w there =
    h.none w (subst (λ (ls : List Line). IsValueAt ls at w) (one_lines profile text lines h.taken.front are h.taken.are) there)

-- the loop goes on, or ends with what was found
pub goes_on : (profile : Profile) (text : List ℕ) (at : Address) (n : ℕ) (names : Names) (found : Option (Bor (List ℕ))) (more : Option LineReader) → is_some found ≡ false → LooksOn profile text at n names (Ok (found, more))
    → ArePassed profile text at names more × (more_left more < n + 1)
goes_on profile text at n names None more is looks = looks
goes_on profile text at n names (Some found) more is looks = let e : true ≡ false = is in cc

pub ends_found : (profile : Profile) (text : List ℕ) (at : Address) (n : ℕ) (names : Names) (found : Option (Bor (List ℕ))) (more : Option LineReader) → is_some found ≡ true → LooksOn profile text at n names (Ok (found, more))
    → (lines : List Line) → AreLinesIn profile text lines → FindsInText lines at found
ends_found profile text at n names None more is looks lines are = let e : false ≡ true = is in cc
ends_found profile text at n names (Some found) more is looks lines are = found_in_text profile text at lines more found are looks

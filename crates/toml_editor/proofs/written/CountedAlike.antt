-- Behind lists in which each array of tables has as many tables, but for arrays that the lines do not see, lines without keys of their own
-- sections stand alike.
use Rattle.std.proofs.Common.{◌≡◌, ◌⊎◌, inl, inr, ℕ, ◌+◌, false, Option, Some, List, [], ◌∷◌, ◌++◌, length, refl, sym, ap, ap₂, ◌∙◌, true≢false, append-nil}
use Rattle.std.specs.List.{list_any}
use Rattle.std.specs.Prelude.{◌==◌, ◌-◌, if◌then◌else◌}
use Rattle.std.proofs.lemmas.Bool.{or_parts}
use Rattle.toml_tree.specs.Tree.{Piece, Expr, BlankLine, KeyValLine, TableLine, ArrayTableLine, Line}
use Rattle.toml_names.specs.declared.mentions.mention.Role.TheVariants.{Element, Passed, Tables}
use Rattle.toml_names.specs.declared.model.address.Step.TheVariants.{Index}
use Rattle.toml_names.specs.mentions.Keys.{Key, key_names, part_name, rest_names}
use Rattle.toml_names.specs.mentions.Mentions.{Named, an_array, count_tables, ends_table, ends_tables, entered, followed, named_by, pair_named, section, section_from, table_at}
use Rattle.toml_names.specs.mentions.OwnAddresses.{IsHeaderLine}
use Rattle.toml_names.specs.model.Addresses.{Address, below, child, element}
use Rattle.toml_names.specs.reader.Names.{header_end, own_address}
use Rattle.toml_names.proofs.Proved.{count-append, pairs_leave_alike, section_from-append}
use Rattle.toml_units.specs.Units.{line_base}
use Rattle.toml_layout.specs.TreeOutlines.{line_outline}
use Rattle.toml_working.specs.Inserting.{has_pair}
use Rattle.toml_working.specs.Standing.{Standing, is_below, lies_below, line_stands, standing_from}
use Rattle.toml_editor.proofs.written.Alike.{alike_self, section_pair}
use Rattle.toml_editor.proofs.written.Clear.{IsUnder}
use Rattle.toml_editor.proofs.written.EmptyAlone.{first_under, under_trans}
use Rattle.toml_editor.proofs.written.TablesStay.{under_begins}
use Rattle.toml_editor.proofs.written.UnitsAlike.{step_alike}

-- each array of tables has as many tables in both, or else it is not seen
abbrev pub AreCountedBut : (Address → Type 0) → List Named → List Named → Type 0
AreCountedBut Unseen xs ys = (at : Address) → Unseen at ⊎ (count_tables xs at ≡ count_tables ys at)

-- by a line of this address: it stands neither at the array nor below it
abbrev IsUnseen : Option Address → Address → Type 0
IsUnseen own at = lies_below at own ≡ false

-- by lines
abbrev pub AreUnseen : List Standing → Address → Type 0
AreUnseen ss at = list_any (is_below at) ss ≡ false

-- ---- a header's key goes the same way

module _ (xs ys : List Named) (own : Address) (same : AreCountedBut (IsUnseen (Some own)) xs ys) where
  counted_above : (at : Address) → IsUnder at own → count_tables xs at ≡ count_tables ys at
  counted_above at under = elim (same at) [
    | inl none ↦ absurd (true≢false (sym (under_begins at own under) ∙ none))
    | inr counted ↦ counted
  ]

  -- each table that it passes is above its own
  passed_above : (key : Key) (m n : List ℕ) (at : Address) → IsUnder (header_end xs at (n ∷ m ∷ key)) own
      → count_tables xs (child at n) ≡ count_tables ys (child at n)
  passed_above key m n at under =
      counted_above (child at n) (under_trans (child at n) (header_end xs at (n ∷ m ∷ key)) own (first_under xs (m ∷ key) n at) under)

  entered_same : (at : Address) → count_tables xs at ≡ count_tables ys at → entered xs at ≡ entered ys at
  entered_same at counted = ap (λ n. if n == 0 then at else element at (n - 1)) counted

  end_same : (key : Key) (at : Address) → IsUnder (header_end xs at key) own → header_end xs at key ≡ header_end ys at key
  end_same [] at under = refl
  end_same (n ∷ []) at under = refl
  end_same (n ∷ m ∷ more) at under =
      end_same (m ∷ more) (entered xs (child at n)) under
      ∙ ap (λ here. header_end ys here (m ∷ more)) (entered_same (child at n) (passed_above more m n at under))

  followed_same : (line : ℕ) (f g : Address → List Named) → ((at : Address) → IsUnder at own → f at ≡ g at) → (n : List ℕ) (key : Key) (at : Address)
      → IsUnder (header_end xs at (n ∷ key)) own → followed line xs f at (n ∷ key) ≡ followed line ys g at (n ∷ key)
  followed_same line f g ends n [] at under = ends (child at n) under
  followed_same line f g ends n (m ∷ more) at under =
      ap (λ ms. table_at line Passed (entered xs (child at n)) ∷ ms) (followed_same line f g ends m more (entered xs (child at n)) under)
      ∙ ap (λ here. table_at line Passed here ∷ followed line ys g here (m ∷ more)) (entered_same (child at n) (passed_above more m n at under))

  tables_same : (line : ℕ) (at : Address) → IsUnder at own → ends_tables line xs at ≡ ends_tables line ys at
  tables_same line at under = ap tables (counted_above at under)
    where
      tables : ℕ → List Named
      tables n = record { address = at; role = Tables; kind = an_array; line = line } ∷ table_at line Element (element at n) ∷ []

-- a header names the same, and stands at the same address
header_named : (xs ys : List Named) (line : ℕ) (e : Expr) → IsHeaderLine e → AreCountedBut (IsUnseen (own_address xs e)) xs ys
    → named_by xs line e ≡ named_by ys line e
header_named xs ys line (BlankLine b) is same = absurd is
header_named xs ys line (KeyValLine ws pair tail) is same = absurd is
header_named xs ys line (TableLine ws h tail) is same =
    let own = header_end xs [] (key_names h.key) in
    followed_same xs ys own same line (ends_table line) (ends_table line) (λ at under. refl) (part_name h.key.first) (rest_names h.key.rest) []
    ([], sym (append-nil own))
header_named xs ys line (ArrayTableLine ws h tail) is same =
    let at = header_end xs [] (key_names h.key) in
    let own = element at (count_tables xs at) in
    followed_same xs ys own same line (ends_tables line xs) (ends_tables line ys) (tables_same xs ys own same line) (part_name h.key.first)
    (rest_names h.key.rest) [] (Index (count_tables xs at) ∷ [], refl)

header_owned : (xs ys : List Named) (e : Expr) → IsHeaderLine e → AreCountedBut (IsUnseen (own_address xs e)) xs ys → own_address xs e ≡ own_address ys e
header_owned xs ys (BlankLine b) is same = absurd is
header_owned xs ys (KeyValLine ws pair tail) is same = absurd is
header_owned xs ys (TableLine ws h tail) is same =
    let own = header_end xs [] (key_names h.key) in ap Some (end_same xs ys own same (key_names h.key) [] ([], sym (append-nil own)))
header_owned xs ys (ArrayTableLine ws h tail) is same =
    let at = header_end xs [] (key_names h.key) in
    let own = element at (count_tables xs at) in
    let under : IsUnder at own = (Index (count_tables xs at) ∷ [], refl) in
    ap (λ n. Some (element at n)) (counted_above xs ys own same at under)
    ∙ ap (λ a. Some (element a (count_tables ys a))) (end_same xs ys own same (key_names h.key) [] under)

-- the section behind a header is its own, whatever it was before
section_followed : (xs : List Named) (line : ℕ) (end : Address → List Named) → ((at a b : Address) → section_from a (end at) ≡ section_from b (end at))
    → (n : List ℕ) (key : Key) (at a b : Address) → section_from a (followed line xs end at (n ∷ key)) ≡ section_from b (followed line xs end at (n ∷ key))
section_followed xs line end ends n [] at a b = ends (child at n) a b
section_followed xs line end ends n (m ∷ more) at a b = section_followed xs line end ends m more (entered xs (child at n)) a b

header_section : (xs : List Named) (line : ℕ) (e : Expr) → IsHeaderLine e → (a b : Address)
    → section_from a (named_by xs line e) ≡ section_from b (named_by xs line e)
header_section xs line (BlankLine t) is a b = absurd is
header_section xs line (KeyValLine ws pair tail) is a b = absurd is
header_section xs line (TableLine ws header tail) is a b =
    section_followed xs line (ends_table line) (λ at x y. refl) (part_name header.key.first) (rest_names header.key.rest) [] a b
header_section xs line (ArrayTableLine ws header tail) is a b =
    section_followed xs line (ends_tables line xs) (λ at x y. refl) (part_name header.key.first) (rest_names header.key.rest) [] a b

-- ---- lines

-- the same section is behind both, or the lines have no key before their first header
abbrev pub IsSameSection : List Named → List Named → List Line → Type 0
IsSameSection xs ys ls = (section xs ≡ section ys) ⊎ (has_pair ls ≡ false)

-- what a line has that stands alike behind both, and the lines behind it
pub record IsAlike (xs ys : List Named) (n m : ℕ) (e : Expr) (ls : List Line) : Type 0 where
  pub names : named_by xs n e ≡ named_by ys n e
  pub own : own_address xs e ≡ own_address ys e
  pub base : line_base xs e ≡ line_base ys e
  pub sections : IsSameSection (xs ++ named_by xs n e) (ys ++ named_by ys m e) ls
  pub counts : (at : Address) → count_tables xs at ≡ count_tables ys at → count_tables (xs ++ named_by xs n e) at ≡ count_tables (ys ++ named_by ys m e) at

module _ (xs ys : List Named) (n m : ℕ) (ls : List Line) where
  header_alike : (e : Expr) → IsHeaderLine e → line_base xs e ≡ line_base ys e → AreCountedBut (IsUnseen (own_address xs e)) xs ys → IsAlike xs ys n m e ls
  header_alike e is base same =
      let new = named_by ys n e in
      let names = header_named xs ys n e is same in
      let numbers = step_alike ys ys n m e (alike_self ys) in
      record {
        names = names;
        own = header_owned xs ys e is same;
        base = base;
        sections = inl (
            ap (λ ms. section (xs ++ ms)) names ∙ section_from-append xs new [] ∙ header_section ys n e is (section xs) (section ys)
            ∙ sym (section_from-append ys new []) ∙ numbers.sections);
        counts = λ at counted.
            ap (λ ms. count_tables (xs ++ ms) at) names ∙ count-append xs new at ∙ ap (λ k. k + count_tables new at) counted ∙ sym (count-append ys new at)
            ∙ numbers.counts at;
      }

  -- so is any line, where it is alike before it
  pub line_alike : (e : Expr) (newline : Piece) → IsSameSection xs ys (record { expr = e; newline = newline } ∷ ls) → AreCountedBut (IsUnseen (own_address xs e)) xs ys
      → IsAlike xs ys n m e ls
  line_alike (BlankLine b) newline sections same = record {
    names = refl;
    own = refl;
    base = refl;
    sections = elim sections [ inl one ↦ inl (ap section (append-nil xs) ∙ one ∙ ap section (sym (append-nil ys))) | inr none ↦ inr none ];
    counts = λ at counted. ap (λ ms. count_tables ms at) (append-nil xs) ∙ counted ∙ ap (λ ms. count_tables ms at) (sym (append-nil ys));
  }
  line_alike (KeyValLine ws pair tail) newline (inr none) same = absurd (true≢false none)
  line_alike (KeyValLine ws pair tail) newline (inl one) same = record {
    names = ap (λ s. pair_named n s pair.assign pair.value) one;
    own = ap (λ s. Some (below s (key_names pair.assign.key))) one;
    base = ap (λ (s : Address). Some (length s)) one;
    sections = inl (section_pair xs n (section xs) pair.assign pair.value ∙ one ∙ sym (section_pair ys m (section ys) pair.assign pair.value));
    counts = λ at counted.
        (pairs_leave_alike xs n (section xs) pair.assign pair.value).counts at ∙ counted
        ∙ sym ((pairs_leave_alike ys m (section ys) pair.assign pair.value).counts at);
  }
  line_alike (TableLine ws h tail) newline sections same = header_alike (TableLine ws h tail) tt refl same
  line_alike (ArrayTableLine ws h tail) newline sections same = header_alike (ArrayTableLine ws h tail) tt refl same

-- each line stands at the same address behind both, and in the same table
abbrev pub StandSame : List Line → List Named → List Named → ℕ → ℕ → Type 0
StandSame [] xs ys n m = Unit {0}
StandSame (l ∷ ls) xs ys n m =
    (own_address xs l.expr ≡ own_address ys l.expr) × (line_base xs l.expr ≡ line_base ys l.expr)
    × StandSame ls (xs ++ named_by xs n l.expr) (ys ++ named_by ys m l.expr) (n + 1) (m + 1)

-- So it is where each array that the lines see has as many tables in both, and they have no key before their first header.
pub stand_same : (ls : List Line) (xs ys : List Named) (n m : ℕ) → IsSameSection xs ys ls → AreCountedBut (AreUnseen (standing_from xs n ls)) xs ys
    → StandSame ls xs ys n m
stand_same [] xs ys n m sections same = tt
stand_same (l ∷ ls) xs ys n m sections same =
    let rest = standing_from (xs ++ named_by xs n l.expr) (n + 1) ls in
    let one = line_alike xs ys n m ls l.expr l.newline sections (λ at. elim (same at) [
      | inl none ↦ inl (or_parts (is_below at (line_stands xs l)) (list_any (is_below at) rest) none).0
      | inr counted ↦ inr counted
    ]) in (
      one.own,
      one.base,
      stand_same ls (xs ++ named_by xs n l.expr) (ys ++ named_by ys m l.expr) (n + 1) (m + 1) one.sections (λ at. elim (same at) [
        | inl none ↦ inl (or_parts (is_below at (line_stands xs l)) (list_any (is_below at) rest) none).1
        | inr counted ↦ inr (one.counts at counted)
      ]),
    )

-- then the same stands on them
pub standing_same : (ls : List Line) (xs ys : List Named) (n m : ℕ) → StandSame ls xs ys n m → standing_from xs n ls ≡ standing_from ys m ls
standing_same [] xs ys n m same = refl
standing_same (l ∷ ls) xs ys n m same =
    ap₂ (λ s t. s ∷ t)
    (ap₂ (λ (a : Option Address) (b : Option ℕ). record { address = a; base = b; outline = line_outline l }) same.0 same.1)
    (standing_same ls (xs ++ named_by xs n l.expr) (ys ++ named_by ys m l.expr) (n + 1) (m + 1) same.2)

-- A table that longer headers alone imply: what its new header names was named by them.
use Rattle.std.proofs.Common.{◌≡◌, ◌∙◌, inl, inr, ℕ, true, false, ◌&&◌, Option, Some, None, List, [], ◌∷◌, ◌++◌, refl, sym, ap, ap₂, subst, append_assoc, append-nil}
use Rattle.std.proofs.lemmas.Bool.{and_parts}
use Rattle.toml_tree.specs.Spells.{EachIs}
use Rattle.toml_tree.specs.Tree.{Expr, BlankLine, KeyValLine, TableLine, ArrayTableLine, Line}
use Rattle.toml_names.specs.declared.model.address.Step.TheVariants.{Name, Index}
use Rattle.toml_names.specs.declared.mentions.mention.Role.TheVariants.{Passed}
use Rattle.toml_names.specs.mentions.Keys.{Key, key_names}
use Rattle.toml_names.specs.mentions.Mentions.{Named, a_table, count_tables, ends_table, ends_tables, entered, followed, named, named_by}
use Rattle.toml_names.specs.model.Addresses.{Address, child, element, same_step}
use Rattle.toml_names.specs.reader.Names.{header_end, own_address}
use Rattle.toml_names.proofs.Proved.{alike_name_the_same, same_step-equal}
use Rattle.toml_units.specs.Units.{line_base}
use Rattle.toml_working.specs.Headers.{names_of}
use Rattle.toml_working.specs.Premises.{HasImplied, implies, is_child_below}
use Rattle.toml_working.specs.Standing.{standing}
use Rattle.toml_editor.specs.Blocks.{AreTablesAgain, named_plain, passed_from, section_block}
use Rattle.toml_editor.proofs.Each.{each_weaker}
use Rattle.toml_editor.proofs.written.DocumentSections.{line_of}
use Rattle.toml_editor.proofs.written.HeaderCounted.{Enters, enters}
use Rattle.toml_editor.proofs.written.HeaderNamed.{follows, names_of_element}
use Rattle.toml_editor.proofs.written.OneSection.{among_of}
use Rattle.toml_editor.proofs.written.Pairwise.{Has, any_of_has, has_append_left, has_append_right, has_weaker}
use Rattle.toml_editor.proofs.written.Plain.{behind, plain_alike, plain_parts}

-- ---- the header line below the table

child_is : (q a : Address) → is_child_below q a ≡ true → (x : List ℕ) × (rest : Address) × (a ≡ q ++ Name x ∷ rest)
child_is [] [] h = cc
child_is [] (Name x ∷ a) h = (x, a, refl)
child_is [] (Index i ∷ a) h = cc
child_is (s ∷ q) [] h = cc
child_is (s ∷ q) (t ∷ a) h =
    let (same, more) = and_parts (same_step s t) (is_child_below q a) h in
    let (x, rest, is) = child_is q a more in
    (x, rest, ap₂ (λ u w. u ∷ w) (sym (same_step-equal s t same)) is)

-- an element is below the table by a name where its array is
array_below : (q a : Address) (i : ℕ) → is_child_below q (element a i) ≡ true → is_child_below q a ≡ true
array_below [] [] i h = cc
array_below [] (Name x ∷ a) i h = refl
array_below [] (Index j ∷ a) i h = cc
array_below (s ∷ []) [] i h = let (one, more) = and_parts (same_step s (Index i)) false h in cc
array_below (s ∷ t ∷ q) [] i h = let (one, more) = and_parts (same_step s (Index i)) false h in cc
array_below (s ∷ q) (t ∷ a) i h =
    let (same, more) = and_parts (same_step s t) (is_child_below q (element a i)) h in
    ap₂ (λ x y. x && y) same (array_below q a i more)

pub implies_is : (q : Address) (base : Option ℕ) (own : Option Address) → implies q base own ≡ true
    → (base ≡ None) × (x : List ℕ) × (rest : Address) × (own ≡ Some (q ++ Name x ∷ rest))
implies_is q (Some n) own h = cc
implies_is q None None h = cc
implies_is q None (Some a) h = let (x, rest, is) = child_is q a h in (refl, x, rest, ap Some is)

-- ---- what it names

names_child : (at : Address) (n : List ℕ) → names_of (child at n) ≡ names_of at ++ n ∷ []
names_child [] n = refl
names_child (Name m ∷ at) n = ap (λ ns. m ∷ ns) (names_child at n)
names_child (Index i ∷ at) n = names_child at n

-- a key leads to an address of its names
names_at_end : (xs : List Named) (key : Key) (at : Address) → names_of (header_end xs at key) ≡ names_of at ++ key
names_at_end xs [] at = sym (append-nil (names_of at))
names_at_end xs (n ∷ []) at = names_child at n
names_at_end xs (n ∷ m ∷ more) at =
    names_at_end xs (m ∷ more) (entered xs (child at n)) ∙ ap (λ ns. ns ++ m ∷ more) (by (enters xs (child at n)))
    ∙ append_assoc (names_of at) (n ∷ []) (m ∷ more)
  where
    by : Enters xs (child at n) → names_of (entered xs (child at n)) ≡ names_of at ++ n ∷ []
    by (inl e) = ap names_of e ∙ names_child at n
    by (inr (i, e, c)) = ap names_of e ∙ names_of_element (child at n) i ∙ names_child at n

-- so it names what this address passes
key_passes : (xs : List Named) (end : Address → List Named) (key : Key) → followed 0 xs end [] key ≡ passed_from end [] (header_end xs [] key)
key_passes xs end key =
    let e : names_of (header_end xs [] key) ≡ key = names_at_end xs key [] in
    ap (followed 0 xs end []) (sym e) ∙ follows xs end (header_end xs [] key) [] (ap (header_end xs []) e)

-- a table of this address that a header passes
abbrev pub IsTwin : Address → Named → Type 0
IsTwin a m = (m.address ≡ a) × (m.role ≡ Passed) × (m.kind ≡ a_table)

abbrev pub HaveTwins : List Named → List Named → Type 0
HaveTwins ms = EachIs (λ b. Has (IsTwin b.address) ms)

-- a header below the table passes what the table's header names
passes_all : (end : Address → List Named) (steps at : Address) (x : List ℕ) (rest : Address)
    → HaveTwins (passed_from end at (steps ++ Name x ∷ rest)) (passed_from (ends_table 0) at steps)
passes_all end [] at x rest = tt
passes_all end (Index i ∷ steps) at x rest = passes_all end steps (element at i) x rest
passes_all end (Name n ∷ []) at x rest = (inl (refl, refl, refl), tt)
passes_all end (Name n ∷ Name m ∷ steps) at x rest = (
  inl (refl, refl, refl),
  each_weaker _ _ (λ b h. inr h) (passed_from (ends_table 0) (child at n) (Name m ∷ steps)) (passes_all end (Name m ∷ steps) (child at n) x rest),
)
passes_all end (Name n ∷ Index i ∷ steps) at x rest =
    let to = element (child at n) i in
    (inl (refl, refl, refl), each_weaker _ _ (λ b h. inr h) (passed_from (ends_table 0) to steps) (passes_all end steps to x rest))

-- a table at the address or above it
abbrev IsTableOver : Address → Named → Type 0
IsTableOver a b = (b.kind ≡ a_table) × ((rest : Address) × (a ≡ b.address ++ rest))

-- such are all these
all_above : (steps at : Address) → EachIs (IsTableOver (at ++ steps)) (passed_from (ends_table 0) at steps)
all_above [] at = tt
all_above (Index i ∷ steps) at =
    subst (λ a. EachIs (IsTableOver a) (passed_from (ends_table 0) (element at i) steps)) (append_assoc at (Index i ∷ []) steps) (all_above steps (element at i))
all_above (Name n ∷ []) at = ((refl, ([], sym (append-nil (child at n)))), tt)
all_above (Name n ∷ Name m ∷ steps) at = (
  (refl, (Name m ∷ steps, sym (append_assoc at (Name n ∷ []) (Name m ∷ steps)))),
  subst (λ a. EachIs (IsTableOver a) (passed_from (ends_table 0) (child at n) (Name m ∷ steps))) (append_assoc at (Name n ∷ []) (Name m ∷ steps))
      (all_above (Name m ∷ steps) (child at n)),
)
all_above (Name n ∷ Index i ∷ steps) at =
    let to = element (child at n) i in
    let same : to ++ steps ≡ at ++ Name n ∷ Index i ∷ steps =
    append_assoc (child at n) (Index i ∷ []) steps ∙ append_assoc at (Name n ∷ []) (Index i ∷ steps) in
    ((refl, (steps, sym same)), subst (λ a. EachIs (IsTableOver a) (passed_from (ends_table 0) to steps)) same (all_above steps to))

module _ (q : Address) where
  -- so it is of a key, and of a line
  key_twins : (xs : List Named) (end : Address → List Named) (key : Key) → (x : List ℕ) × (rest : Address) × (header_end xs [] key ≡ q ++ Name x ∷ rest)
      → HaveTwins (followed 0 xs end [] key) (section_block q)
  key_twins xs end key (x, rest, is) =
      subst (λ ms. HaveTwins ms (section_block q)) (sym (key_passes xs end key ∙ ap (passed_from end []) is)) (passes_all end q [] x rest)

  line_passes : (xs : List Named) (e : Expr) → implies q (line_base xs e) (own_address xs e) ≡ true → HaveTwins (named_by xs 0 e) (section_block q)
  line_passes xs (BlankLine b) h = cc
  line_passes xs (KeyValLine ws pair tail) h = cc
  line_passes xs (TableLine ws header tail) h =
      let key = key_names header.key in
      key_twins xs (ends_table 0) key (child_is q (header_end xs [] key) h)
  line_passes xs (ArrayTableLine ws header tail) h =
      let key = key_names header.key in
      let to = header_end xs [] key in
      key_twins xs (ends_tables 0 xs) key (child_is q to (array_below q to (count_tables xs to) h))

  -- and of the lines
  pub twins_there : (lines : List Line) → HasImplied lines q → HaveTwins (named_plain lines) (section_block q)
  twins_there lines implied =
      let among = among_of (λ s. implies q s.base s.address) (standing lines) implied.implied in
      let it = line_of among.front lines [] among.line among.back among.is in
      let xs = named it.first in
      let new = named_by xs 0 it.line.expr in
      let same : new ≡ named_by (named_plain it.first) 0 it.line.expr = alike_name_the_same xs (named_plain it.first) (plain_alike xs) 0 it.line.expr in
      let here : HaveTwins new (section_block q) = line_passes xs it.line.expr (subst (λ s. implies q s.base s.address ≡ true) it.is among.holds) in
      each_weaker (λ b. Has (IsTwin b.address) new) (λ b. Has (IsTwin b.address) (named_plain lines))
      (λ b h.
      subst (Has (IsTwin b.address)) (sym (ap named_plain it.lines_are ∙ plain_parts it.first (it.line ∷ it.rest)))
      (has_append_right (IsTwin b.address) (named_plain it.first) (behind (named_plain it.first) (it.line ∷ it.rest))
      (has_append_left (IsTwin b.address) (named_by (named_plain it.first) 0 it.line.expr) _ (subst (Has (IsTwin b.address)) same h))))
      (section_block q) here

  -- what the new header names was named as a table
  pub ahead_again : (lines : List Line) → HasImplied lines q → AreTablesAgain q (named_plain lines) (section_block q)
  ahead_again lines implied = all (section_block q) (all_above q []) (twins_there lines implied)
    where
      all : (bs : List Named) → EachIs (IsTableOver q) bs → HaveTwins (named_plain lines) bs → AreTablesAgain q (named_plain lines) bs
      all [] are twins = tt
      all (b ∷ bs) are twins = (
        (
          are.0.0,
          are.0.1,
          any_of_has _ (named_plain lines)
              (has_weaker (IsTwin b.address) (λ m. (m.address ≡ b.address) × (m.kind ≡ a_table)) (λ m is. (is.0, is.2)) (named_plain lines) twins.0),
        ),
        all bs are.1 twins.1,
      )

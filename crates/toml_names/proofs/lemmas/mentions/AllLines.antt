-- What a header names joins, and so does all that the lines of a document name: it has one kind at each address and values that stand alone.
use Rattle.toml_names.proofs.Common.{◌≡◌, ℕ, ◌+◌, Bool, true, false, List, [], ◌∷◌, ◌++◌, All, Some, refl, sym, ◌∙◌, subst, rules, append_assoc, append-nil, All-head, All-tail, if◌then◌else◌, Expr, BlankLine, KeyValLine, TableLine, ArrayTableLine, Line, Address, fact_at, Joined, LinesJoin, part_name, rest_names, a_table, Named, named_by, named_from, root, is_section, section_from, section, KeepsRules, LinesHaveOneKind, LineValuesStandAlone, ValuesHaveOneKind, InnerValuesStandAlone, named, value_facts, ◌⊎◌, ◌<◌, inl, inr, none-some, Passed, Header, Element, child, element, IsAgain, Key, table_at, count_tables, entered, followed, ends_table, ends_tables, fits}
use Rattle.toml_names.proofs.lemmas.mentions.Adding.{Adds, IsAdded-nil, Adds-append, after_first, IsAdded, IsAdded-one, IsAdded-name}
use Rattle.toml_names.proofs.lemmas.mentions.FactAt.{fact_kept}
use Rattle.toml_names.proofs.lemmas.mentions.FirstNamed.{suited_root, IsGrown-first, values_join}
use Rattle.toml_names.proofs.lemmas.mentions.Growing.{IsGrown, IsSuited, suited_mention}
use Rattle.toml_names.proofs.lemmas.mentions.InsideJoins.{pair_puts, inside_puts}
use Rattle.toml_names.proofs.lemmas.mentions.Offences.{misfit-from_KeepsRules, fits-from_misfit}
use Rattle.toml_names.proofs.lemmas.mentions.OfOneKind.{first_is_data, one_kind, values_stand_alone, one_kind_new}
use Rattle.toml_names.specs.model.DataLaws.{LinesHaveData}
use Rattle.toml_names.proofs.lemmas.mentions.Counting.{count_plain}
use Rattle.toml_names.proofs.lemmas.mentions.TablesJoin.{tables_at, tables_added}

-- a header goes on in the table itself, or in one that is counted
abbrev WayIn : List Named → Address → Address → Type 0
WayIn ms at here = (here ≡ at) ⊎ ((j : ℕ) × (j < count_tables ms at) × (here ≡ element at j))

way_in : (ms : List Named) (at : Address) → WayIn ms at (entered ms at)
way_in ms at = search rules

-- both lists have the same arrays of tables
abbrev pub AreCountedAlike : List Named → List Named → Type 0
AreCountedAlike earlier ms = (at : Address) → count_tables earlier at ≡ count_tables ms at

entered_alike : (earlier ms : List Named) (at : Address) → AreCountedAlike earlier ms → entered earlier at ≡ entered ms at
entered_alike earlier ms at alike = rw (alike at) refl

-- a table that is passed
module _ (line : ℕ) (ms : List Named) (at here : Address) (n : List ℕ) (grown : IsGrown ms) (table : fact_at ms at ≡ Some a_table) (good : fits ms (table_at line Passed here) ≡ true) where
  abbrev passed : Named
  passed = table_at line Passed here

  suited : IsSuited passed
  suited = suited_mention passed refl (λ h. cc)

  again_in : (j : ℕ) → j < count_tables ms (child at n) → here ≡ element (child at n) j → IsAgain ms passed
  again_in j low is = search rules

  passed_added : WayIn ms (child at n) here → IsAdded ms (passed ∷ [])
  passed_added (inl is) = IsAdded-name ms passed at n grown suited (λ h. cc) refl good is table
  passed_added (inr (j, low, is)) =
      let again = again_in j low is in
      IsAdded-one ms passed grown (inr again) suited refl (λ q i same none. absurd (none-some a_table (sym none ∙ again.there)))

-- what ends a header joins, at a name in a table
abbrev pub EndAdds : List Named → (Address → List Named) → Type 0
EndAdds earlier end = (ms : List Named) (at : Address) (n : List ℕ) → IsGrown ms → AreCountedAlike earlier ms → fact_at ms at ≡ Some a_table → Adds ms (end (child at n))

header_adds : (line : ℕ) (earlier : List Named) → EndAdds earlier (ends_table line)
header_adds line earlier ms at n grown alike table none =
    let m = table_at line Header (child at n) in
    IsAdded-name ms m at n grown (suited_mention m refl (λ h. cc)) (λ h. cc) refl (fits-from_misfit ms [] m none) refl table

tables_add : (line : ℕ) (earlier : List Named) → EndAdds earlier (ends_tables line earlier)
tables_add line earlier ms at n grown alike table none =
    let next = λ (c : ℕ). table_at line Element (element (child at n) c) ∷ [] in
    let good = fits-from_misfit ms (next (count_tables earlier (child at n))) (tables_at line (child at n)) none in
    subst (λ c. IsAdded ms (tables_at line (child at n) ∷ next c)) (sym (alike (child at n))) (tables_added line ms at n grown table good)

module _ (line : ℕ) (earlier : List Named) (end : Address → List Named) (ends : EndAdds earlier end) where
  followed_adds : (ns : Key) (n : List ℕ) (ms : List Named) (at : Address) → IsGrown ms → AreCountedAlike earlier ms → fact_at ms at ≡ Some a_table → Adds ms (followed line earlier end at (n ∷ ns))
  followed_adds [] n ms at grown alike table = ends ms at n grown alike table
  followed_adds (o ∷ ns) n ms at grown alike table =
      let here = entered earlier (child at n) in
      let m = table_at line Passed here in
      let way : WayIn ms (child at n) here = subst (WayIn ms (child at n)) (sym (entered_alike earlier ms (child at n) alike)) (way_in ms (child at n)) in
      Adds-append ms (m ∷ []) (followed line earlier end here (o ∷ ns))
      (λ none. passed_added line ms at here n grown table (fits-from_misfit ms [] m none) way)
      (λ added. followed_adds ns o (ms ++ m ∷ []) here added.grown (λ q. alike q ∙ sym (count_plain ms m q refl)) (one_kind_new ms m added.joins.0))

pub table_line_adds : (line : ℕ) (ns : Key) (n : List ℕ) (ms : List Named) → IsGrown ms → fact_at ms [] ≡ Some a_table → Adds ms (followed line ms (ends_table line) [] (n ∷ ns))
table_line_adds line ns n ms grown table = followed_adds line ms (ends_table line) (header_adds line ms) ns n ms [] grown (λ at. refl) table

pub tables_line_adds : (line : ℕ) (ns : Key) (n : List ℕ) (ms : List Named) → IsGrown ms → fact_at ms [] ≡ Some a_table → Adds ms (followed line ms (ends_tables line ms) [] (n ∷ ns))
tables_line_adds line ns n ms grown table = followed_adds line ms (ends_tables line ms) (tables_add line ms) ns n ms [] grown (λ at. refl) table

-- the table of the last header is there
abbrev IsSection : List Named → Named → Type 0
IsSection all m = is_section m.role ≡ true → fact_at all m.address ≡ Some a_table

section_there : (all ms : List Named) (at : Address) → fact_at all at ≡ Some a_table → All (IsSection all) ms → fact_at all (section_from at ms) ≡ Some a_table
section_there all [] at table sections = table
section_there all (m ∷ ms) at table sections = section_there all ms (if is_section m.role then m.address else at) (by (is_section m.role) refl) (All-tail (IsSection all) m ms sections)
  where
    by : (b : Bool) → is_section m.role ≡ b → fact_at all (if is_section m.role then m.address else at) ≡ Some a_table
    by true h = rw h (All-head (IsSection all) m ms sections h)
    by false h = rw h table

section_is_table : (ms : List Named) → IsGrown ms → fact_at ms [] ≡ Some a_table → fact_at ms (section ms) ≡ Some a_table
section_is_table ms grown table = search (rules, section_there)

line_adds : (ms : List Named) (line : ℕ) (e : Expr) → IsGrown ms → fact_at ms [] ≡ Some a_table → Adds ms (named_by ms line e)
line_adds ms line (BlankLine b) grown table = λ none. IsAdded-nil ms grown
line_adds ms line (KeyValLine ws pair tail) grown table = λ none.
    (pair_puts line pair.value (inside_puts line pair.value) (rest_names pair.assign.key.rest) (part_name pair.assign.key.first) (λ q. ⊥) ms (section ms) (λ q never. absurd never) grown
    (section_is_table ms grown table) none).added
line_adds ms line (TableLine ws header tail) grown table = table_line_adds line (rest_names header.key.rest) (part_name header.key.first) ms grown table
line_adds ms line (ArrayTableLine ws header tail) grown table = tables_line_adds line (rest_names header.key.rest) (part_name header.key.first) ms grown table

-- what lines name, without what was named before
abbrev pub new_from : List Named → ℕ → List Line → List Named
new_from ms line [] = []
new_from ms line (l ∷ ls) = named_by ms line l.expr ++ new_from (ms ++ named_by ms line l.expr) (line + 1) ls

pub named_from-is : (ls : List Line) (ms : List Named) (line : ℕ) → named_from ms line ls ≡ ms ++ new_from ms line ls
named_from-is [] ms line = sym (append-nil ms)
named_from-is (l ∷ ls) ms line =
    let new = named_by ms line l.expr in
    named_from-is ls (ms ++ new) (line + 1) ∙ append_assoc ms new (new_from (ms ++ new) (line + 1) ls)

lines_add : (ls : List Line) (ms : List Named) (line : ℕ) → IsGrown ms → fact_at ms [] ≡ Some a_table → Adds ms (new_from ms line ls)
lines_add [] ms line grown table = λ none. IsAdded-nil ms grown
lines_add (l ∷ ls) ms line grown table =
    let new = named_by ms line l.expr in
    Adds-append ms new (new_from (ms ++ new) (line + 1) ls) (line_adds ms line l.expr grown table)
    (λ added. lines_add ls (ms ++ new) (line + 1) added.grown (fact_kept ms new [] a_table table))

pub lines_join : LinesJoin
lines_join lines keeps =
    let new = new_from (root ∷ []) 0 lines in
    let is = named_from-is lines (root ∷ []) 0 in
    let none = after_first [] new root (misfit-from_KeepsRules (root ∷ new) [] (subst KeepsRules is keeps)) in
    subst Joined (sym is) (lines_add lines (root ∷ []) 0 (IsGrown-first root refl suited_root refl) refl none).joins

pub lines_have_data : LinesHaveData
lines_have_data lines keeps = first_is_data (named lines) (lines_join lines keeps)

pub lines_have_one_kind : LinesHaveOneKind
lines_have_one_kind lines keeps = one_kind (named lines) (lines_join lines keeps)

pub line_values_stand_alone : LineValuesStandAlone
line_values_stand_alone lines keeps = values_stand_alone (named lines) (lines_join lines keeps)

pub values_have_one_kind : ValuesHaveOneKind
values_have_one_kind v keeps = one_kind (value_facts v) (values_join v keeps)

pub inner_values_stand_alone : InnerValuesStandAlone
inner_values_stand_alone v keeps = values_stand_alone (value_facts v) (values_join v keeps)

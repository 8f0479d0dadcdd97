-- What is named after an `insert` in a table that longer headers alone imply: the table once more, and then the value.
use Rattle.std.proofs.Common.{◌≡◌, ◌∙◌, ◌⊎◌, inl, inr, ℕ, ◌+◌, ◌<◌, ◌≤◌, Bool, true, false, ◌&&◌, ◌||◌, Option, Some, None, List, [], ◌∷◌, ◌++◌, map, length, length-append, refl, sym, ap, ap₂, subst, true≢false, append_assoc, append-nil, arith}
use Rattle.std.specs.Bool.{nat_lt}
use Rattle.std.specs.List.{list_any}
use Rattle.std.proofs.lemmas.Bool.{or_parts}
use Rattle.std.proofs.lemmas.Bool.Decides.{nat_tests}
use Rattle.std.proofs.lemmas.Option.{same_Some}
use Rattle.toml_tree.specs.Spells.{EachIs}
use Rattle.toml_tree.specs.Tree.{Value, Expr, BlankLine, KeyValLine, TableLine, ArrayTableLine, Line}
use Rattle.toml_names.specs.declared.model.address.Step.TheVariants.{Name}
use Rattle.toml_names.specs.declared.mentions.mention.Role.{Role}
use Rattle.toml_names.specs.declared.mentions.mention.Role.TheVariants.{Passed, Header, Dotted, Valued, Tables, Element, Bare}
use Rattle.toml_names.specs.mentions.Keys.{Key, key_names}
use Rattle.toml_names.specs.mentions.Mentions.{Named, count_tables, ends_table, ends_tables, entered, followed, fronts, inside, named, named_by, named_from, root, section}
use Rattle.toml_names.specs.mentions.Rules.{KeepsRules, may_follow}
use Rattle.toml_names.specs.model.Addresses.{Address, IsAbove, below, child, element, is_above}
use Rattle.toml_names.specs.reader.Names.{header_end, own_address}
use Rattle.toml_names.proofs.Proved.{above_is_above, header_is_section, inside_is_below, same_address-decides}
use Rattle.toml_units.specs.Units.{line_base}
use Rattle.toml_layout.specs.Beginnings.{begins}
use Rattle.toml_layout.specs.declared.tree.Brackets.TheVariants.{One}
use Rattle.toml_working.specs.declared.lines.Sought.TheVariants as sought
use Rattle.toml_working.specs.Heading.{header_line}
use Rattle.toml_working.specs.Headers.{names_of}
use Rattle.toml_working.specs.Manners.{Manner}
use Rattle.toml_working.specs.Premises.{HasImplied, implies}
use Rattle.toml_working.specs.Seeing.{heads, is_dotted, is_sought_line}
use Rattle.toml_working.specs.Standing.{Standing, StandAlone, covers, covers_at, holds, leads_to, lies_below, line_stands, standing, standing_from}
use Rattle.toml_editor.specs.Blocks.{IsPut, named_plain, section_block, value_block}
use Rattle.toml_editor.proofs.Each.{each_append, each_back, each_front, each_weaker}
use Rattle.toml_editor.proofs.written.AheadPlace.{IsPutAhead, behind_header, header_put, headed}
use Rattle.toml_editor.proofs.written.AheadTables.{HaveTwins, IsTwin, ahead_again, implies_is, twins_there}
use Rattle.toml_editor.proofs.written.Clear.{below-cons}
use Rattle.toml_editor.proofs.written.DocumentSections.{begins_longer}
use Rattle.toml_editor.proofs.written.EmptyAlone.{each_both}
use Rattle.toml_editor.proofs.written.HeaderKept.{IsHeaderBlock, IsOfHeader, header_block}
use Rattle.toml_editor.proofs.written.HeaderNamed.{IsNamedBetween, follows, header_names_some, named_between, put_names}
use Rattle.toml_editor.proofs.written.HeaderPut.{IsHeaderPut}
use Rattle.toml_editor.proofs.written.InsertNamed.{line_named, named_parts}
use Rattle.toml_editor.proofs.written.OneSection.{among_of}
use Rattle.toml_editor.proofs.written.Pairwise.{Goes, Has, PairsAre, from_has, pairs_of_all}
use Rattle.toml_editor.proofs.written.Plain.{behind, plain_alike}
use Rattle.toml_editor.proofs.written.Roles.{IsLater, all_later}
use Rattle.toml_editor.proofs.written.SectionNamed.{section_leads, section_named}
use Rattle.toml_editor.proofs.written.StandingOrder.{begins_is, rules_order}
use Rattle.toml_editor.proofs.written.TablesAgain.{AreNamedFirst, block_between, each_other}
use Rattle.toml_editor.proofs.written.Unplain.{each_plain, rules_plain}

-- ---- no line holds the table

module _ (q more : Address) (l : Standing) (at : l.address ≡ Some (q ++ more)) (head : l.base ≡ None) where
  -- what begins the table's address begins that of the header below it
  held_below : (a : Address) (b : Bool) → begins a q ≡ b → begins a (q ++ more) ≡ false → b ≡ false
  held_below a false is not = refl
  held_below a true is not = absurd (true≢false (sym (longer (begins_is a q is)) ∙ not))
    where
      longer : (a ≡ q) ⊎ IsAbove a q → begins a (q ++ more) ≡ true
      longer (inl e) = ap (λ r. begins a (r ++ more)) (sym e) ∙ begins_longer a more
      longer (inr (t, rest, e)) = ap (begins a) (ap (λ (r : Address). r ++ more) e ∙ append_assoc a (t ∷ rest) more) ∙ begins_longer a (t ∷ (rest ++ more))

  not_held : (base : Option ℕ) (own : Option Address) → covers_at base own l ≡ false → leads_to q base own ≡ false
  not_held None own apart = refl
  not_held (Some n) None apart = refl
  not_held (Some n) (Some a) apart = held_below a (begins a q) refl (sym (ap (lies_below a) at) ∙ apart)

  abbrev Apart : Standing → Standing → Type 0
  Apart s t = (covers s t ≡ false) × (covers t s ≡ false)

  -- so none of the lines holds the table, where one is such a header and they stand alone
  none_held : (front back : List Standing) → PairsAre Apart (front ++ l ∷ back) → list_any (holds q) (front ++ l ∷ back) ≡ false
  none_held [] back alone = ap₂ (λ x y. x || y) (ap (λ b. leads_to q b l.address) head) (all back alone.0)
    where
      all : (ts : List Standing) → EachIs (Apart l) ts → list_any (holds q) ts ≡ false
      all [] h = refl
      all (t ∷ ts) h = ap₂ (λ x y. x || y) (not_held t.base t.address h.0.1) (all ts h.1)
  none_held (s ∷ front) back alone =
      ap₂ (λ x y. x || y) (not_held s.base s.address (each_back (Apart s) front (l ∷ back) alone.0).0.0) (none_held front back alone.1)

-- ---- no line makes the table

-- a thing that makes a table is named so: by its header, by a dotted key, or as an element
abbrev makes : Role → Bool
makes Header = true
makes Dotted = true
makes Element = true
makes _ = false

module _ (q : Address) where
  abbrev IsNotMade : Named → Type 0
  IsNotMade m = m.address ≡ q → makes m.role ≡ false

  fronts_not_made : (whole : Address) (k n : ℕ) → is_dotted q (Some k) (Some whole) ≡ false → (key : Key) (at : Address) → below at key ≡ whole → k ≤ length at
      → EachIs IsNotMade (fronts n at key)
  fronts_not_made whole k n not [] at is low = tt
  fronts_not_made whole k n not (x ∷ []) at is low = tt
  fronts_not_made whole k n not (x ∷ y ∷ more) at is low =
      let long : length (child at x) ≡ length at + 1 = length-append at (Name x ∷ []) in (
        (λ same.
            let above : is_above (child at x) whole ≡ true =
            (above_is_above (child at x) whole).1 (Name y, map Name more, sym is ∙ sym (below-cons at x (y ∷ more))) in
            let less : k < length (child at x) = omega (arith, low, long) in
            let both : is_dotted (child at x) (Some k) (Some whole) ≡ true = ap₂ (λ a b. a && b) (less_is k (length (child at x)) less) above in
            absurd (true≢false (sym both ∙ ap (λ a. is_dotted a (Some k) (Some whole)) same ∙ not))),
        fronts_not_made whole k n not (y ∷ more) (child at x) (below-cons at x (y ∷ more) ∙ is) (omega (arith, low, long)),
      )
    where
      less_is : (a b : ℕ) → a < b → nat_lt a b ≡ true
      less_is a b low = grind (arith, nat_tests)

  followed_not_made : (n : ℕ) (xs : List Named) (end : Address → List Named) (key : Key) (at : Address) → EachIs IsNotMade (end (header_end xs at key))
      → EachIs IsNotMade (followed n xs end at key)
  followed_not_made n xs end [] at h = tt
  followed_not_made n xs end (k ∷ []) at h = h
  followed_not_made n xs end (k ∷ l ∷ more) at h = ((λ same. refl), followed_not_made n xs end (l ∷ more) (entered xs (child at k)) h)

  not_headed : (a : Address) → heads q None (Some a) ≡ false → ¬ (a ≡ q)
  not_headed a not same = true≢false (sym ((same_address-decides a q).1 same) ∙ not)

  -- what a line names does not, where it neither holds the table nor makes it
  line_not_made : (xs : List Named) (n : ℕ) (e : Expr) → heads q (line_base xs e) (own_address xs e) ≡ false
      → is_dotted q (line_base xs e) (own_address xs e) ≡ false → leads_to q (line_base xs e) (own_address xs e) ≡ false → EachIs IsNotMade (named_by xs n e)
  line_not_made xs n (BlankLine b) head dotted held = tt
  line_not_made xs n (KeyValLine ws pair tail) head dotted held =
      let to = below (section xs) (key_names pair.assign.key) in
      each_append IsNotMade (fronts n (section xs) (key_names pair.assign.key)) _
      (fronts_not_made to (length (section xs)) n dotted (key_names pair.assign.key) (section xs) refl (omega arith)) (
        (λ same. refl),
        each_weaker (λ m. IsAbove to m.address) IsNotMade
            (λ m above same.
            absurd (true≢false (sym (begins_longer to (above.0 ∷ above.1)) ∙ ap (begins to) (sym above.2 ∙ same) ∙ held)))
            (inside n to pair.value) (inside_is_below n pair.value to),
      )
  line_not_made xs n (TableLine ws header tail) head dotted held =
      followed_not_made n xs (ends_table n) (key_names header.key) [] ((λ same. absurd (not_headed _ head same)), tt)
  line_not_made xs n (ArrayTableLine ws header tail) head dotted held =
      followed_not_made n xs (ends_tables n xs) (key_names header.key) [] ((λ same. refl), ((λ same. absurd (not_headed _ head same)), tt))

  from_not_made : (ls : List Line) (xs : List Named) (n : ℕ) → list_any (is_sought_line sought.Header q) (standing_from xs n ls) ≡ false
      → list_any (is_sought_line sought.Dotted q) (standing_from xs n ls) ≡ false → list_any (holds q) (standing_from xs n ls) ≡ false → EachIs IsNotMade xs
      → EachIs IsNotMade (named_from xs n ls)
  from_not_made [] xs n head dotted held are = are
  from_not_made (l ∷ ls) xs n head dotted held are =
      let new = named_by xs n l.expr in
      let ss = standing_from (xs ++ new) (n + 1) ls in
      let (head_here, head_rest) = or_parts (is_sought_line sought.Header q (line_stands xs l)) (list_any (is_sought_line sought.Header q) ss) head in
      let (dotted_here, dotted_rest) = or_parts (is_sought_line sought.Dotted q (line_stands xs l)) (list_any (is_sought_line sought.Dotted q) ss) dotted in
      let (held_here, held_rest) = or_parts (holds q (line_stands xs l)) (list_any (holds q) ss) held in
      from_not_made ls (xs ++ new) (n + 1) head_rest dotted_rest held_rest
      (each_append IsNotMade xs new are (line_not_made xs n l.expr head_here dotted_here held_here))

  -- nothing that is named makes the table
  none_makes : (lines : List Line) → HasImplied lines q → KeepsRules (named lines) → EachIs IsNotMade (named_plain lines)
  none_makes lines implied keeps =
      let among = among_of (λ s. implies q s.base s.address) (standing lines) implied.implied in
      let (head, x, rest, at) = implies_is q among.line.base among.line.address among.holds in
      let alone = pairs_of_all _ _ (subst StandAlone among.is (rules_order lines keeps).alone) in
      let held : list_any (holds q) (standing lines) ≡ false =
      ap (list_any (holds q)) among.is ∙ none_held q (Name x ∷ rest) among.line at head among.front among.back alone in
      each_plain lines IsNotMade (from_not_made lines (root ∷ []) 0 implied.no_header implied.no_dotted held ((λ same. refl), tt))

-- ---- what goes with a table that a header passed

abbrev Meets : Role → Type 0
Meets r = (may_follow r Passed ≡ true) ⊎ (may_follow Passed r ≡ true)

meets : (a : Address) (ms : List Named) → PairsAre Goes ms → Has (IsTwin a) ms → EachIs (λ e. e.address ≡ a → Meets e.role) ms
meets a [] goes h = tt
meets a (m ∷ ms) goes (inl (at, role, kind)) = (
  (λ same. inl (subst (λ r. may_follow r Passed ≡ true) (sym role) refl)),
  each_weaker (Goes m) (λ e. e.address ≡ a → Meets e.role) (λ l g same. inr (subst (λ r. may_follow r l.role ≡ true) role (g (at ∙ sym same)))) ms goes.0,
)
meets a (m ∷ ms) goes (inr h) = (
  (λ same.
      inl (from_has (Goes m) (IsTwin a) (may_follow m.role Passed ≡ true) (λ l g is. subst (λ r. may_follow m.role r ≡ true) is.1 (g (same ∙ sym is.0))) ms goes.0 h)),
  meets a ms goes.1 h,
)

-- it is passed once more behind it, and before it, but for an element
passed_behind : (r : Role) → Meets r → may_follow r Passed ≡ true
passed_behind r (inl h) = h
passed_behind Passed (inr h) = refl
passed_behind Header (inr h) = refl
passed_behind Dotted (inr h) = refl
passed_behind Element (inr h) = refl
passed_behind Bare (inr h) = refl
passed_behind Valued (inr h) = cc
passed_behind Tables (inr h) = cc

passed_before : (r : Role) → Meets r → ¬ (r ≡ Element) → may_follow Passed r ≡ true
passed_before r (inr h) not = h
passed_before Passed (inl h) not = refl
passed_before Header (inl h) not = refl
passed_before Dotted (inl h) not = refl
passed_before Element (inl h) not = absurd (not refl)
passed_before Bare (inl h) not = refl
passed_before Valued (inl h) not = cc
passed_before Tables (inl h) not = cc

-- the table's header goes with it, where nothing makes the table
header_goes : (r : Role) → Meets r → makes r ≡ false → (may_follow r Header ≡ true) × (may_follow Header r ≡ true)
header_goes Passed meet not = (refl, refl)
header_goes Bare meet not = (refl, refl)
header_goes Header meet not = absurd (true≢false not)
header_goes Dotted meet not = absurd (true≢false not)
header_goes Element meet not = absurd (true≢false not)
header_goes Valued (inl h) not = absurd (true≢false (sym h))
header_goes Valued (inr h) not = absurd (true≢false (sym h))
header_goes Tables (inl h) not = absurd (true≢false (sym h))
header_goes Tables (inr h) not = absurd (true≢false (sym h))

-- ---- the lines

module _ (q : Address) (name : List ℕ) (v : Value) (manner : Manner) (lines new : List Line) (implied : HasImplied lines q)
    (put : IsPutAhead q name v manner lines new) where
  abbrev mid : List Line
  mid = headed q name v manner lines new put

  abbrev style : List ℕ
  style = manner.newline

  abbrev at_header : IsHeaderPut One q style lines mid
  at_header = header_put q name v manner lines new put

  abbrev line : Line
  line = header_line One q put.ws style

  -- the value stands behind the header
  second : IsPut (named_plain mid) (value_block (child q name) v) (named_plain new)
  second = record {
    front = named_plain (put.front ++ line ∷ []);
    back = behind (named_plain (put.front ++ line ∷ [])) put.back;
    before = named_parts put.front line put.back;
    after =
        ap named_plain (behind_header q name v manner lines new put)
        ∙ line_named q name [] v manner put.spacing put.front line put.back
        (same_Some (section (named (put.front ++ line ∷ []))) q (sym (header_is_section put.front line tt) ∙ put.leads));
  }

  abbrev xs : List Named
  xs = named_plain at_header.front

  abbrev ys : List Named
  ys = behind xs at_header.back

  abbrev IsEnd : Named → Type 0
  IsEnd m = (m.address ≡ q) × (m.role ≡ Header)

  block : IsHeaderBlock IsEnd (ends_table 0) q (named at_header.front) (section_block q)
  block =
      let leads = section_leads q style lines mid at_header in
      header_block IsEnd (ends_table 0) (named at_header.front) (names_of q) q (section_block q)
      (header_names_some One q at_header.ws (named at_header.front) at_header.leads).0 leads (follows (named at_header.front) (ends_table 0) q [] leads)
      ((refl, refl), tt) (tt, tt) (λ m is. ([], is.0 ∙ sym (append-nil q)))

  there : IsNamedBetween (section_block q) at_header.front at_header.back lines mid
  there =
      subst (λ ms. IsNamedBetween ms at_header.front at_header.back lines mid) (section_named q style lines mid at_header)
      (named_between One q style lines mid at_header)

  -- each thing that the header names goes with what is named in front and behind
  abbrev BothGo : Named → Type 0
  BothGo b = EachIs (λ e. Goes e b) xs × EachIs (Goes b) ys

  -- where that meets a table that was passed, and does not make this one
  abbrev IsOld : Address → Named → Type 0
  IsOld a e = (e.address ≡ a → Meets e.role) × IsNotMade q e

  goes : (b : Named) → IsOfHeader IsEnd q (named at_header.front) b → EachIs (IsOld b.address) (xs ++ ys) → EachIs (IsLater (named at_header.front)) ys → BothGo b
  goes b (inl (at, role)) olds later = (
    each_weaker _ (λ e. Goes e b) (λ e h same. subst (λ r. may_follow e.role r ≡ true) (sym role) (header_goes e.role (h.0 same) (h.1 (same ∙ at))).0)
        xs (each_front _ xs ys olds),
    each_weaker _ (Goes b) (λ l h same. subst (λ r. may_follow r l.role ≡ true) (sym role) (header_goes l.role (h.0 (sym same)) (h.1 (sym same ∙ at))).1)
        ys (each_back _ xs ys olds),
  )
  goes b (inr passed) olds later = (
    each_weaker _ (λ e. Goes e b) (λ e h same. subst (λ r. may_follow e.role r ≡ true) (sym passed.role) (passed_behind e.role (h.0 same)))
        xs (each_front _ xs ys olds),
    each_weaker (λ l. IsOld b.address l × IsLater (named at_header.front) l) (Goes b)
        (λ l h same.
        subst (λ r. may_follow r l.role ≡ true) (sym passed.role) (passed_before l.role (h.0.0 (sym same)) (λ is. not_element l same (h.1 is))))
        ys (each_both _ (IsLater (named at_header.front)) ys (each_back _ xs ys olds) later),
  )
    where
      -- an element that is entered stands in front
      not_element : (l : Named) → b.address ≡ l.address → (c : Address) × (i : ℕ) × (l.address ≡ element c i) × (count_tables (named at_header.front) c ≤ i) → ⊥
      not_element l same (c, i, at, low) = let in_front = passed.there c i (same ∙ at) in omega (arith, in_front, low)

  laters : EachIs (IsLater (named at_header.front)) ys
  laters = each_weaker (IsLater xs) (IsLater (named at_header.front)) unplain ys (all_later at_header.back xs)
    where
      unplain : (m : Named) → IsLater xs m → IsLater (named at_header.front) m
      unplain m later is =
          let (c, i, at, low) = later is in
          let count = (plain_alike (named at_header.front)).counts c in
          let lower : count_tables (named at_header.front) c ≤ i = omega (arith, count, low) in (c, i, at, lower)

  all_go : KeepsRules (named_plain lines) → (bs : List Named) → EachIs (IsOfHeader IsEnd q (named at_header.front)) bs → HaveTwins (named_plain lines) bs
      → EachIs BothGo bs
  all_go keeps [] are twins = tt
  all_go keeps (b ∷ bs) are twins = (
    goes b are.0
        (subst (EachIs (IsOld b.address)) there.was
        (each_both (λ e. e.address ≡ b.address → Meets e.role) (IsNotMade q) (named_plain lines)
        (meets b.address (named_plain lines) (pairs_of_all Goes (named_plain lines) keeps) twins.0) (none_makes q lines implied ((rules_plain lines).1 keeps))))
        laters,
    all_go keeps bs are.1 twins.1,
  )

  rules : KeepsRules (named_plain lines) → KeepsRules (named_plain mid)
  rules keeps =
      let go = all_go keeps (section_block q) block.members (twins_there q lines implied) in
      subst KeepsRules (sym there.is)
      (block_between xs (section_block q) ys (subst KeepsRules there.was keeps) block.pairs
      (each_other Goes (section_block q) xs (each_weaker BothGo (λ b. EachIs (λ e. Goes e b) xs) (λ b h. h.0) (section_block q) go))
      (each_weaker BothGo (λ b. EachIs (Goes b) ys) (λ b h. h.1) (section_block q) go))

  pub ahead_named : AreNamedFirst q (named_plain lines) (value_block (child q name) v) (named_plain new)
  ahead_named = record {
    tables = section_block q;
    mid = named_plain mid;
    again = ahead_again q lines implied;
    first = put_names One q style lines mid at_header (section_block q) (section_named q style lines mid at_header);
    second = second;
    rules = rules;
  }

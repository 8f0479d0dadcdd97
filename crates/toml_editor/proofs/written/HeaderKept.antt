-- What is kept by a new header line, of a table or of an element: the table rules, the bound on addresses, the data.
use Rattle.std.proofs.Common.{◌≡◌, ◌⊎◌, inl, inr, ◌<◌, ◌≤◌, ℕ, true, false, Some, None, List, [], ◌∷◌, ◌++◌, length, length-append, refl, sym, ap, ◌∙◌, subst, subst₂, append_assoc, append-nil, arith}
use Rattle.std.proofs.lemmas.List.{same_from_push}
use Rattle.std.specs.List.{list_any}
use Rattle.std.proofs.lemmas.Option.{same_Some}
use Rattle.toml_tree.specs.Spells.{EachIs}
use Rattle.toml_tree.specs.Tree.{Line}
use Rattle.toml_names.specs.declared.model.address.Step.TheVariants.{Name, Index}
use Rattle.toml_names.specs.declared.mentions.mention.Role.{Role}
use Rattle.toml_names.specs.declared.mentions.mention.Role.TheVariants.{Passed, Header, Dotted, Valued, Tables, Element, Bare}
use Rattle.toml_names.specs.mentions.Keys.{Key}
use Rattle.toml_names.specs.mentions.Mentions.{Kind, Named, a_table, an_array, named, table_at, entered, followed, count_tables}
use Rattle.toml_names.specs.mentions.Rules.{KeepsRules, IsShort, may_follow, max_steps}
use Rattle.toml_names.specs.model.Addresses.{Address, child, element}
use Rattle.toml_names.specs.model.Data.{Kinds, IsDataOf}
use Rattle.toml_names.specs.reader.Names.{header_end}
use Rattle.toml_edits.specs.After.{Comes, Moves}
use Rattle.toml_working.specs.Standing.{holds, standing}
use Rattle.toml_editor.specs.Blocks.{IsPut, named_plain}
use Rattle.toml_editor.proofs.Each.{each_append, each_front, each_back, each_weaker}
use Rattle.toml_editor.proofs.written.BlockFacts.{each_put, has_old, has_block, has_new}
use Rattle.toml_editor.proofs.written.Clear.{above_apart}
use Rattle.toml_editor.proofs.written.CountedArrays.{followed_has}
use Rattle.toml_editor.proofs.written.EmptyAlone.{each_both}
use Rattle.toml_editor.proofs.written.HeaderCounted.{Enters, enters}
use Rattle.toml_editor.proofs.written.FreshKeys.{HasNames}
use Rattle.toml_editor.proofs.written.HeaderNamed.{IsNamedBetween, end_behind_name}
use Rattle.toml_editor.proofs.written.Pairwise.{PairsAre, Goes, Has, any_of_has, all_of_pairs, from_has, has_of_any, has_weaker, members_self, pairs_append, pairs_back, pairs_between, pairs_front, pairs_of_all}
use Rattle.toml_editor.proofs.written.Plain.{behind, plain_alike}
use Rattle.toml_editor.proofs.written.Roles.{HasKind, IsLater, IsNotOver, RoleHas, all_later, kinds_are, none_over}
use Rattle.toml_editor.proofs.written.SectionLeads.{IsKindAt}
use Rattle.toml_editor.proofs.written.Unplain.{each_plain, has_plain, plain_has, plain_short, rules_plain, short_plain}

-- ---- what the header names

-- a table that the header's key passes, or an element that is there: a name follows it
pub record IsPassed (a : Address) (xs : List Named) (m : Named) : Type 0 where
  pub kind : m.kind ≡ a_table
  pub role : m.role ≡ Passed
  pub name : List ℕ
  pub rest : Address
  pub is : a ≡ m.address ++ Name name ∷ rest
  pub there : (c : Address) (i : ℕ) → m.address ≡ element c i → i < count_tables xs c

-- such a one, or what stands at the end
abbrev pub IsOfHeader : (Named → Type 0) → Address → List Named → Named → Type 0
IsOfHeader E a xs m = E m ⊎ IsPassed a xs m

-- what stands at the end is at the address or below it
abbrev IsAtEnd : (Named → Type 0) → Address → Type 0
IsAtEnd E a = (m : Named) → E m → (rest : Address) × (m.address ≡ a ++ rest)

-- what the header of a key that leads to the address names goes together, and what stands at the end is in it
pub record IsHeaderBlock (E : Named → Type 0) (end : Address → List Named) (a : Address) (xs block : List Named) : Type 0 where
  pub members : EachIs (IsOfHeader E a xs) block
  pub pairs : PairsAre Goes block
  pub ends : (at : Address) (k : Kind) → Has (IsKindAt at k) (end a) → Has (IsKindAt at k) block

module _ (E : Named → Type 0) (end : Address → List Named) (xs : List Named) where
  -- an element that is entered is there
  entered_there : (at : Address) (n : List ℕ) (c : Address) (i : ℕ) → entered xs (child at n) ≡ element c i → i < count_tables xs c
  entered_there at n c i is = by (enters xs (child at n))
    where
      by : Enters xs (child at n) → i < count_tables xs c
      by (inl e) = let (parents, lasts) = same_from_push at c (Name n) (Index i) (sym e ∙ is) in absurd (let f : ⊥ = cc in f)
      by (inr (j, e, count)) =
          let (arrays, lasts) = same_from_push (child at n) c (Index j) (Index i) (sym e ∙ is) in
          let same : j ≡ i = cc in
          subst (λ a. i < count_tables xs a) arrays (omega (arith, count, same))

  of_header : (key : Key) (at : Address) → EachIs E (end (header_end xs at key)) → EachIs (IsOfHeader E (header_end xs at key) xs) (followed 0 xs end at key)
  of_header [] at are = tt
  of_header (n ∷ []) at are = each_weaker E (IsOfHeader E (child at n) xs) (λ m is. inl is) (end (child at n)) are
  of_header (n ∷ m ∷ more) at are =
      let to = entered xs (child at n) in
      let (r, under) = end_behind_name xs more to m in
      ((inr (record { kind = refl; role = refl; name = m; rest = r; is = under; there = λ c i is. entered_there at n c i is })), of_header (m ∷ more) to are)

  -- what is passed goes before what is named behind it
  passes_first : (to : Address) (m : List ℕ) (more : Key) (x : Named) → IsAtEnd E (header_end xs to (m ∷ more)) → IsOfHeader E (header_end xs to (m ∷ more)) xs x
      → Goes (table_at 0 Passed to) x
  passes_first to m more x ends (inl is) same =
      let (r, under) = end_behind_name xs more to m in
      let (rest, at) = ends x is in
      absurd (above_apart to x.address (Name m, r ++ rest, at ∙ ap (λ (a : Address). a ++ rest) under ∙ append_assoc to (Name m ∷ r) rest) (sym same))
  passes_first to m more x ends (inr passed) same = subst (λ r. may_follow Passed r ≡ true) (sym passed.role) refl

  header_pairs : (key : Key) (at : Address) → EachIs E (end (header_end xs at key)) → PairsAre Goes (end (header_end xs at key)) → IsAtEnd E (header_end xs at key)
      → PairsAre Goes (followed 0 xs end at key)
  header_pairs [] at are pairs ends = tt
  header_pairs (n ∷ []) at are pairs ends = pairs
  header_pairs (n ∷ m ∷ more) at are pairs ends =
      let to = entered xs (child at n) in (
        each_weaker (IsOfHeader E (header_end xs to (m ∷ more)) xs) (Goes (table_at 0 Passed to)) (λ x of. passes_first to m more x ends of) _
            (of_header (m ∷ more) to are),
        header_pairs (m ∷ more) to are pairs ends,
      )

  -- what the header names is such a block
  pub header_block : (key : Key) (a : Address) (block : List Named) → HasNames key → header_end xs [] key ≡ a → followed 0 xs end [] key ≡ block
      → EachIs E (end a) → PairsAre Goes (end a) → IsAtEnd E a → IsHeaderBlock E end a xs block
  header_block key a block (n, ns, some) leads names are pairs ends =
      subst₂ (λ at ms. IsHeaderBlock E end at xs ms) leads names (record {
        members = of_header key [] (subst (λ at. EachIs E (end at)) (sym leads) are);
        pairs =
            header_pairs key [] (subst (λ at. EachIs E (end at)) (sym leads) are) (subst (λ at. PairsAre Goes (end at)) (sym leads) pairs)
            (subst (IsAtEnd E) (sym leads) ends);
        ends = λ at k.
            subst (λ ks. Has (IsKindAt at k) (end (header_end xs [] ks)) → Has (IsKindAt at k) (followed 0 xs end [] ks)) (sym some)
            (followed_has (IsKindAt at k) xs 0 end ns n []);
      })

-- ---- short

-- The bound on addresses is kept, where what stands at the end keeps it.
pub header_short : (E : Named → Type 0) (end : Address → List Named) (a : Address) (xs block : List Named) (old new : List Line) → IsHeaderBlock E end a xs block
    → IsPut (named_plain old) block (named_plain new) → IsShort (named old) → length a ≤ max_steps → ((m : Named) → E m → length m.address ≤ max_steps)
    → IsShort (named new)
header_short E end a xs block old new is puts short low ends =
    plain_short new
    (each_put (named_plain old) block (named_plain new) puts _ (short_plain old short)
    (each_weaker (IsOfHeader E a xs) (λ m. length m.address ≤ max_steps) member_short block is.members))
  where
    -- what the key passes is shorter than the address
    member_short : (m : Named) → IsOfHeader E a xs m → length m.address ≤ max_steps
    member_short m (inl at) = ends m at
    member_short m (inr passed) =
        let e = ap length passed.is in let long = length-append m.address (Name passed.name ∷ passed.rest) in omega (arith, low, e, long)

-- ---- data

-- what a name follows on the way to the address is a table
abbrev pub AreTables : Address → Kinds → Type 0
AreTables a kinds = (r rest : Address) (n : List ℕ) → a ≡ r ++ Name n ∷ rest → kinds r ≡ Some a_table

-- The new lines have the data of the old and what is placed, where the block has that, and nothing else that is new.
pub header_moves : (E : Named → Type 0) (end : Address → List Named) (a : Address) (xs block : List Named) (old new : List Line) (base : Address) (v kinds after : Kinds)
    → IsHeaderBlock E end a xs block → IsPut (named_plain old) block (named_plain new) → IsDataOf (named old) kinds → IsDataOf (named new) after → AreTables a kinds
    → ((m : Named) → E m → Comes Some base v kinds m.address m.kind) → ((r : Address) (k : Kind) → v r ≡ Some k → Has (IsKindAt (base ++ r) k) (end a))
    → Moves Some base v kinds after
header_moves E end a xs block old new base v kinds after are puts is is' tables comes placed =
    let was = named_plain old in
    let made = named_plain new in
    let shown : (at : Address) (k : Kind) → Has (IsKindAt at k) made → after at ≡ Some k =
    λ at k h. (is' at k).1 (any_of_has _ (named new) (plain_has new (IsKindAt at k) h)) in
    record {
      carried = λ at b k have to.
          let e : b ≡ at = same_Some b at to in
          shown at k
          (has_old was block made puts (IsKindAt at k) (has_plain old (IsKindAt at k) (has_of_any _ (named old) ((is at k).0 (ap kinds (sym e) ∙ have)))));
      placed = λ r k have. shown (base ++ r) k (has_block was block made puts (IsKindAt (base ++ r) k) (are.ends (base ++ r) k (placed r k have)));
      no_other = λ at k have.
          elim (has_new was block made puts (IsKindAt at k) (has_plain new (IsKindAt at k) (has_of_any _ (named new) ((is' at k).0 have)))) [
            | inl w ↦ inl (at, (is at k).1 (any_of_has _ (named old) (plain_has old (IsKindAt at k) w)), refl)
            | inr w ↦
                from_has (IsOfHeader E a xs) (IsKindAt at k) (Comes Some base v kinds at k)
                (λ m of here. subst₂ (λ x j. Comes Some base v kinds x j) here.0 here.1 (member_comes m of)) block are.members w
          ];
    }
  where
    member_comes : (m : Named) → IsOfHeader E a xs m → Comes Some base v kinds m.address m.kind
    member_comes m (inl at) = comes m at
    member_comes m (inr passed) = inl (m.address, tables m.address passed.rest passed.name passed.is ∙ ap Some (sym passed.kind), refl)

-- ---- rules

-- what holds of all that was named, where no line's value stands at the address or above it
abbrev IsOld : Kinds → Address → Named → Type 0
IsOld kinds q m = (kinds m.address ≡ Some m.kind) × HasKind m × IsNotOver q m

all_old : (old : List Line) (kinds : Kinds) (q : Address) → IsDataOf (named old) kinds → list_any (holds q) (standing old) ≡ false
    → EachIs (IsOld kinds q) (named_plain old)
all_old old kinds q is alone =
    each_plain old (IsOld kinds q)
    (each_weaker _ (IsOld kinds q) (λ m h. (h.0, h.1.0, h.1.1)) (named old)
    (each_both (λ m. kinds m.address ≡ Some m.kind) (λ m. HasKind m × IsNotOver q m) (named old)
    (each_weaker (λ m. Has (λ y. y ≡ m) (named old)) (λ m. kinds m.address ≡ Some m.kind)
    (λ m there. (is m.address m.kind).1
    (any_of_has _ (named old) (has_weaker (λ y. y ≡ m) (IsKindAt m.address m.kind) (λ y e. (ap (λ u. u.address) e, ap (λ u. u.kind) e)) (named old) there)))
    (named old) (members_self (named old)))
    (each_both HasKind (IsNotOver q) (named old) (kinds_are old) (none_over q old alone))))

module _ (kinds : Kinds) (q : Address) (xs : List Named) where
  -- it goes behind what was named, and before all of that but an element that comes no later
  abbrev pub BothGo : Named → Type 0
  BothGo b = ((e : Named) → IsOld kinds q e → Goes e b) × ((l : Named) → IsOld kinds q l → IsLater xs l → Goes b l)

  -- where nothing stands, nothing was named
  pub absent_goes : (b : Named) → kinds b.address ≡ None → BothGo b
  absent_goes b none = ((λ e was same. absurd (not_there e was same)), (λ l was later same. absurd (not_there l was (sym same))))
    where
      not_there : (e : Named) → IsOld kinds q e → ¬ (e.address ≡ b.address)
      not_there e was same = let there = was.0 in let here : kinds e.address ≡ None = ap kinds same ∙ none in cc

  -- an array of tables goes with an array that is no value
  array_role : (r : Role) (k : Kind) → RoleHas r k → k ≡ an_array → ¬ (r ≡ Valued) → (may_follow r Tables ≡ true) × (may_follow Tables r ≡ true)
  array_role Passed k is array v = absurd (let f : ⊥ = cc in f)
  array_role Header k is array v = absurd (let f : ⊥ = cc in f)
  array_role Dotted k is array v = absurd (let f : ⊥ = cc in f)
  array_role Valued k is array v = absurd (v refl)
  array_role Tables k is array v = (refl, refl)
  array_role Element k is array v = absurd (let f : ⊥ = cc in f)
  array_role Bare k is array v = (refl, refl)

  -- an array of tables that is there goes with what was named
  pub array_goes : (b : Named) → b.role ≡ Tables → b.address ≡ q → kinds q ≡ Some an_array → BothGo b
  array_goes b role at array = (
    (λ e was same. subst (λ r. may_follow e.role r ≡ true) (sym role) (roles e was same).0),
    (λ l was later same. subst (λ r. may_follow r l.role ≡ true) (sym role) (roles l was (sym same)).1),
  )
    where
      roles : (e : Named) → IsOld kinds q e → e.address ≡ b.address → (may_follow e.role Tables ≡ true) × (may_follow Tables e.role ≡ true)
      roles e was same =
          let is : e.kind ≡ an_array = same_Some e.kind an_array (sym was.0 ∙ ap kinds (same ∙ at) ∙ array) in
          array_role e.role e.kind was.1 is (λ value. was.2 value [] (sym at ∙ sym same ∙ sym (append-nil e.address)))

  -- a table goes with what is neither a value nor an array of tables, and with an element in front
  before_passed : (r : Role) → ¬ (r ≡ Valued) → ¬ (r ≡ Tables) → may_follow r Passed ≡ true
  before_passed Passed v t = refl
  before_passed Header v t = refl
  before_passed Dotted v t = refl
  before_passed Valued v t = absurd (v refl)
  before_passed Tables v t = absurd (t refl)
  before_passed Element v t = refl
  before_passed Bare v t = refl

  behind_passed : (r : Role) → ¬ (r ≡ Valued) → ¬ (r ≡ Tables) → ¬ (r ≡ Element) → may_follow Passed r ≡ true
  behind_passed Passed v t e = refl
  behind_passed Header v t e = refl
  behind_passed Dotted v t e = refl
  behind_passed Valued v t e = absurd (v refl)
  behind_passed Tables v t e = absurd (t refl)
  behind_passed Element v t e = absurd (e refl)
  behind_passed Bare v t e = refl

  passed_goes : (a : Address) (b : Named) → AreTables a kinds → ((r rest : Address) (n : List ℕ) → a ≡ r ++ Name n ∷ rest → (s : Address) × (q ≡ r ++ s))
      → IsPassed a xs b → BothGo b
  passed_goes a b tables over passed = (
    (λ e was same. subst (λ r. may_follow e.role r ≡ true) (sym passed.role) (before_passed e.role (not_valued e was same) (not_tables e was same))),
    (λ l was later same.
        subst (λ r. may_follow r l.role ≡ true) (sym passed.role)
        (behind_passed l.role (not_valued l was (sym same)) (not_tables l was (sym same)) (λ is. not_element l same (later is)))),
  )
    where
      -- no value is at what the key passes, and no array of tables
      not_valued : (e : Named) → IsOld kinds q e → e.address ≡ b.address → ¬ (e.role ≡ Valued)
      not_valued e was same role =
          let (s, at) = over b.address passed.rest passed.name passed.is in was.2 role s (at ∙ ap (λ (x : Address). x ++ s) (sym same))

      not_tables : (e : Named) → IsOld kinds q e → e.address ≡ b.address → ¬ (e.role ≡ Tables)
      not_tables e was same role =
          let has : e.kind ≡ an_array = subst (λ r. RoleHas r e.kind) role was.1 in
          let array : kinds b.address ≡ Some an_array = ap kinds (sym same) ∙ was.0 ∙ ap Some has in
          let is_table = tables b.address passed.rest passed.name passed.is in cc

      -- an element that is entered stands in front
      not_element : (l : Named) → b.address ≡ l.address → (c : Address) × (i : ℕ) × (l.address ≡ element c i) × (count_tables xs c ≤ i) → ⊥
      not_element l same (c, i, at, low) = let there = passed.there c i (same ∙ at) in omega (arith, there, low)

-- What the header names keeps the rules between what was named.
pub header_rules : (E : Named → Type 0) (end : Address → List Named) (a : Address) (block : List Named) (old new front back : List Line) (kinds : Kinds) (q : Address)
    → IsHeaderBlock E end a (named front) block → IsNamedBetween block front back old new → KeepsRules (named old) → IsDataOf (named old) kinds
    → list_any (holds q) (standing old) ≡ false → AreTables a kinds → ((r rest : Address) (n : List ℕ) → a ≡ r ++ Name n ∷ rest → (s : Address) × (q ≡ r ++ s))
    → ((m : Named) → E m → BothGo kinds q (named front) m) → KeepsRules (named new)
header_rules E end a block old new front back kinds q are there keeps is alone tables over ends =
    let xs = named_plain front in
    let ys = behind xs back in
    let pairs : PairsAre Goes (xs ++ ys) = pairs_of_all Goes (xs ++ ys) (subst KeepsRules there.was ((rules_plain old).0 keeps)) in
    let olds : EachIs (IsOld kinds q) (xs ++ ys) = subst (EachIs (IsOld kinds q)) there.was (all_old old kinds q is alone) in
    let laters : EachIs (IsLater (named front)) ys = each_weaker (IsLater xs) (IsLater (named front)) later_unplain ys (all_later back xs) in
    let go : EachIs (BothGo kinds q (named front)) block = each_weaker (IsOfHeader E a (named front)) (BothGo kinds q (named front)) member_goes block are.members in
    let front_block : EachIs (λ e. EachIs (Goes e) block) xs =
    each_weaker (IsOld kinds q) (λ e. EachIs (Goes e) block) (λ e was. each_weaker (BothGo kinds q (named front)) (Goes e) (λ b goes. goes.0 e was) block go)
    xs (each_front (IsOld kinds q) xs ys olds) in
    let block_back : EachIs (λ b. EachIs (Goes b) ys) block =
    each_weaker (BothGo kinds q (named front)) (λ b. EachIs (Goes b) ys)
    (λ b goes. each_weaker (λ l. IsOld kinds q l × IsLater (named front) l) (Goes b) (λ l h. goes.1 l h.0 h.1) ys
    (each_both (IsOld kinds q) (IsLater (named front)) ys (each_back (IsOld kinds q) xs ys olds) laters))
    block go in
    let front_rest : EachIs (λ e. EachIs (Goes e) (block ++ ys)) xs =
    each_weaker (λ e. EachIs (Goes e) block × EachIs (Goes e) ys) (λ e. EachIs (Goes e) (block ++ ys)) (λ e h. each_append (Goes e) block ys h.0 h.1) xs
    (each_both (λ e. EachIs (Goes e) block) (λ e. EachIs (Goes e) ys) xs front_block (pairs_between Goes xs ys pairs)) in
    (rules_plain new).1
    (subst KeepsRules (sym there.is)
    (all_of_pairs Goes (xs ++ (block ++ ys))
    (pairs_append Goes xs (block ++ ys) (pairs_front Goes xs ys pairs) (pairs_append Goes block ys are.pairs (pairs_back Goes xs ys pairs) block_back) front_rest)))
  where
    later_unplain : (m : Named) → IsLater (named_plain front) m → IsLater (named front) m
    later_unplain m later is =
        let (c, i, at, low) = later is in
        let count = (plain_alike (named front)).counts c in
        let lower : count_tables (named front) c ≤ i = omega (arith, count, low) in (c, i, at, lower)

    member_goes : (m : Named) → IsOfHeader E a (named front) m → BothGo kinds q (named front) m
    member_goes m (inl at) = ends m at
    member_goes m (inr passed) = passed_goes kinds q (named front) a m tables over passed

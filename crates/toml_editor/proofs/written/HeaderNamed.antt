-- What is named after a new header line.
use Rattle.std.proofs.Common.{◌≡◌, inl, inr, ℕ, List, [], ◌∷◌, ◌++◌, Some, refl, sym, ap, ◌∙◌, append_assoc, append-nil}
use Rattle.std.proofs.lemmas.List.{append_cancel_left}
use Rattle.std.proofs.lemmas.Option.{same_Some}
use Rattle.toml_tree.specs.Bare.{fresh}
use Rattle.toml_tree.specs.Tree.{Line}
use Rattle.toml_names.specs.declared.model.address.Step.TheVariants.{Name, Index}
use Rattle.toml_names.specs.declared.mentions.mention.Role.TheVariants.{Passed}
use Rattle.toml_names.specs.mentions.Keys.{Key, key_names, part_name}
use Rattle.toml_names.specs.mentions.Mentions.{Named, count_tables, entered, followed, named_by, root, table_at}
use Rattle.toml_names.specs.model.Addresses.{Address, child, element}
use Rattle.toml_names.specs.reader.Names.{header_end, own_address}
use Rattle.toml_layout.specs.declared.tree.Brackets.{Brackets}
use Rattle.toml_layout.specs.declared.tree.Brackets.TheVariants.{One, Two}
use Rattle.toml_working.specs.FreshKeys.{key_named}
use Rattle.toml_working.specs.Heading.{header_expr, header_line}
use Rattle.toml_working.specs.Headers.{names_of}
use Rattle.toml_working.specs.Removing.{empty_line}
use Rattle.toml_editor.specs.Blocks.{IsPut, named_plain, passed_from}
use Rattle.toml_editor.proofs.written.EmptyAlone.{first_under}
use Rattle.toml_editor.proofs.written.FreshKeys.{HasNames, key_again}
use Rattle.toml_editor.proofs.written.HeaderCounted.{Enters, enters, same_behind}
use Rattle.toml_editor.proofs.written.HeaderPut.{IsHeaderPut, IsPutBefore, ended}
use Rattle.toml_editor.proofs.written.Plain.{behind, plain_is, plain_parts}

-- ---- the key

-- an element has the names of its array
pub names_of_element : (at : Address) (i : ℕ) → names_of (element at i) ≡ names_of at
names_of_element [] i = refl
names_of_element (Name n ∷ at) i = ap (λ ns. n ∷ ns) (names_of_element at i)
names_of_element (Index j ∷ at) i = names_of_element at i

-- Where the key of an address's names leads to the address, it has names, and these are what the key spells.
names_lead : (xs : List Named) (names : Key) (at : Address) → names_of at ≡ names → header_end xs [] (key_names (key_named names)) ≡ at
    → HasNames names × (key_names (key_named names) ≡ names)
names_lead xs [] at are is = let x : ◌≡◌ {A = Key} (part_name (fresh []) ∷ []) [] = ap names_of is ∙ are in absurd (let e : ⊥ = cc in e)
names_lead xs (n ∷ ns) at are is = ((n, ns, refl), key_again n ns)

-- so it is where a header line leads to its address
pub header_names_some : (brackets : Brackets) (p : Address) (ws : List ℕ) (xs : List Named) → own_address xs (header_expr brackets p ws) ≡ Some p
    → HasNames (names_of p) × (key_names (key_named (names_of p)) ≡ names_of p)
header_names_some One p ws xs leads = names_lead xs (names_of p) p refl (same_Some (header_end xs [] (key_names (key_named (names_of p)))) p leads)
header_names_some Two p ws xs leads =
    let at = header_end xs [] (key_names (key_named (names_of p))) in
    names_lead xs (names_of p) at (sym (names_of_element at (count_tables xs at)) ∙ ap names_of (same_Some (element at (count_tables xs at)) p leads)) refl

-- ---- what a key passes

-- a key leads to what begins with its first name
pub end_behind_name : (xs : List Named) (ns : Key) (at : Address) (n : List ℕ) → (r : Address) × (header_end xs at (n ∷ ns) ≡ at ++ Name n ∷ r)
end_behind_name xs ns at n = let (r, is) = first_under xs ns n at in (r, is ∙ append_assoc at (Name n ∷ []) r)

-- and so to no index first
no_index_first : (xs : List Named) (key : Key) (at : Address) (i : ℕ) (rest : Address) → header_end xs at key ≡ at ++ Index i ∷ rest → ⊥
no_index_first xs [] at i rest is =
    let e : ◌≡◌ {A = Address} [] (Index i ∷ rest) = append_cancel_left at [] (Index i ∷ rest) (append-nil at ∙ is) in cc
no_index_first xs (n ∷ ns) at i rest is =
    let (r, under) = end_behind_name xs ns at n in
    let e : ◌≡◌ {A = Address} (Name n ∷ r) (Index i ∷ rest) = append_cancel_left at (Name n ∷ r) (Index i ∷ rest) (sym under ∙ is) in cc

module _ (xs : List Named) (end : Address → List Named) where
  abbrev Leads : Address → Address → Type 0
  Leads at steps = header_end xs at (names_of steps) ≡ at ++ steps

  abbrev Names : Address → Address → Type 0
  Names at steps = followed 0 xs end at (names_of steps) ≡ passed_from end at steps

  -- a front that a name follows is a table
  passes_table : (at : Address) (n m : List ℕ) (steps : Address) → Leads at (Name n ∷ Name m ∷ steps) → entered xs (child at n) ≡ child at n
  passes_table at n m steps is = by (enters xs (child at n))
    where
      under : (r : Address) × (header_end xs (entered xs (child at n)) (m ∷ names_of steps) ≡ entered xs (child at n) ++ Name m ∷ r)
      under = end_behind_name xs (names_of steps) (entered xs (child at n)) m

      by : Enters xs (child at n) → entered xs (child at n) ≡ child at n
      by (inl e) = e
      by (inr (i, e, c)) =
          let f : ◌≡◌ {A = Address} (Index i ∷ Name m ∷ under.0) (Name m ∷ steps) =
          append_cancel_left (child at n) (Index i ∷ Name m ∷ under.0) (Name m ∷ steps)
          (sym (append_assoc (child at n) (Index i ∷ []) (Name m ∷ under.0)) ∙ ap (λ (a : Address). a ++ Name m ∷ under.0) (sym e) ∙ sym under.1 ∙ is
          ∙ sym (append_assoc at (Name n ∷ []) (Name m ∷ steps))) in
          absurd (let g : ⊥ = cc in g)

  -- one that an index follows is an array, and this is the last one of its elements
  passes_element : (at : Address) (n : List ℕ) (i : ℕ) (steps : Address) (m : List ℕ) (ms : Key)
      → header_end xs at (n ∷ m ∷ ms) ≡ at ++ Name n ∷ Index i ∷ steps → entered xs (child at n) ≡ element (child at n) i
  passes_element at n i steps m ms is = by (enters xs (child at n))
    where
      under : (r : Address) × (header_end xs (entered xs (child at n)) (m ∷ ms) ≡ entered xs (child at n) ++ Name m ∷ r)
      under = end_behind_name xs ms (entered xs (child at n)) m

      whole : entered xs (child at n) ++ Name m ∷ under.0 ≡ child at n ++ Index i ∷ steps
      whole = sym under.1 ∙ is ∙ sym (append_assoc at (Name n ∷ []) (Index i ∷ steps))

      by : Enters xs (child at n) → entered xs (child at n) ≡ element (child at n) i
      by (inl e) =
          let f : ◌≡◌ {A = Address} (Name m ∷ under.0) (Index i ∷ steps) =
          append_cancel_left (child at n) (Name m ∷ under.0) (Index i ∷ steps) (ap (λ (a : Address). a ++ Name m ∷ under.0) (sym e) ∙ whole) in
          absurd (let g : ⊥ = cc in g)
      by (inr (j, e, c)) =
          let f : ◌≡◌ {A = Address} (Index j ∷ Name m ∷ under.0) (Index i ∷ steps) =
          append_cancel_left (child at n) (Index j ∷ Name m ∷ under.0) (Index i ∷ steps)
          (sym (append_assoc (child at n) (Index j ∷ []) (Name m ∷ under.0)) ∙ ap (λ (a : Address). a ++ Name m ∷ under.0) (sym e) ∙ whole) in
          let same : j ≡ i = cc in
          e ∙ ap (element (child at n)) same

  -- a key that leads to the address names what the address passes
  pub follows : (steps at : Address) → Leads at steps → Names at steps
  follows [] at is = refl
  follows (Index i ∷ steps) at is = absurd (no_index_first xs (names_of steps) at i steps is)
  follows (Name n ∷ []) at is = refl
  follows (Name n ∷ Name m ∷ steps) at is =
      let e = passes_table at n m steps is in
      ap (λ a. table_at 0 Passed a ∷ followed 0 xs end a (m ∷ names_of steps)) e
      ∙ ap (λ r. table_at 0 Passed (child at n) ∷ r)
      (follows (Name m ∷ steps) (child at n)
      (ap (λ a. header_end xs a (m ∷ names_of steps)) (sym e) ∙ is ∙ sym (append_assoc at (Name n ∷ []) (Name m ∷ steps))))
  follows (Name n ∷ Index i ∷ steps) at is = by (names_of steps) refl (λ h. follows steps (element (child at n) i) h)
    where
      Goal : Type 0
      Goal = followed 0 xs end at (n ∷ names_of steps) ≡ table_at 0 Passed (element (child at n) i) ∷ passed_from end (element (child at n) i) steps

      by : (key : Key) → names_of steps ≡ key → (Leads (element (child at n) i) steps → Names (element (child at n) i) steps) → Goal
      by [] none more =
          absurd (no_index_first xs [] (child at n) i steps (ap (λ k. header_end xs at (n ∷ k)) (sym none) ∙ is ∙ sym (append_assoc at (Name n ∷ []) (Index i ∷ steps))))
      by (m ∷ ms) some more =
          let to = element (child at n) i in
          let leads : header_end xs at (n ∷ m ∷ ms) ≡ at ++ Name n ∷ Index i ∷ steps = ap (λ k. header_end xs at (n ∷ k)) (sym some) ∙ is in
          let e = passes_element at n i steps m ms leads in
          ap (λ k. followed 0 xs end at (n ∷ k)) some
          ∙ ap (λ a. table_at 0 Passed a ∷ followed 0 xs end a (m ∷ ms)) e
          ∙ ap (λ k. table_at 0 Passed to ∷ followed 0 xs end to k) (sym some)
          ∙ ap (λ r. table_at 0 Passed to ∷ r)
          (more
          (ap (header_end xs to) some ∙ ap (λ a. header_end xs a (m ∷ ms)) (sym e) ∙ leads
          ∙ sym (append_assoc at (Name n ∷ []) (Index i ∷ steps)) ∙ sym (append_assoc (child at n) (Index i ∷ []) steps)))

-- ---- the lines

-- whatever a line's newline is, it names the same
ended_names : (style : List ℕ) (last : Line) (ls : List Line) (before : List Line) (xs : List Named)
    → behind xs (before ++ ended style last ∷ ls) ≡ behind xs (before ++ last ∷ ls)
ended_names style last ls [] xs = refl
ended_names style last ls (l ∷ before) xs = ap (λ r. named_by xs 0 l.expr ++ r) (ended_names style last ls before (xs ++ named_by xs 0 l.expr))

-- what the header names is put between what the lines in front and those behind it name
pub record IsNamedBetween (block : List Named) (front back old new : List Line) : Type 0 where
  pub was : named_plain old ≡ named_plain front ++ behind (named_plain front) back
  pub is : named_plain new ≡ named_plain front ++ (block ++ behind (named_plain front) back)

module _ (brackets : Brackets) (p : Address) (style : List ℕ) (old new : List Line) (put : IsHeaderPut brackets p style old new) where
  abbrev front : List Line
  front = put.front

  abbrev xs : List Named
  xs = named_plain front

  abbrev line : List ℕ → Line
  line = header_line brackets p put.ws

  -- what the header names
  abbrev pub put_block : List Named
  put_block = named_by xs 0 (header_expr brackets p put.ws)

  abbrev There : Type 0
  There = IsNamedBetween put_block front put.back old new

  -- behind it the same is named
  same : behind (xs ++ put_block) put.back ≡ behind xs put.back
  same = same_behind brackets p style old new put

  put_before : IsPutBefore brackets p style put.ws front put.back old new → There
  put_before at = record {
    was = ap named_plain at.was ∙ plain_parts front put.back;
    is =
        ap named_plain at.is ∙ plain_parts front (line style ∷ put.back) ∙ ap (λ r. xs ++ (put_block ++ r)) same;
  }

  -- behind the last line, which gets a newline, and before lines that name nothing
  put_end : (before : List Line) (last : Line) (newline : List ℕ) (rest : List Line) → front ≡ before ++ last ∷ [] → put.back ≡ [] → old ≡ before ++ last ∷ []
      → new ≡ before ++ ended style last ∷ line newline ∷ rest → ((ys : List Named) → behind ys rest ≡ []) → There
  put_end before last newline rest front_is none was is nothing = record {
    was =
        ap named_plain (was ∙ sym front_is) ∙ sym (append-nil xs)
        ∙ ap (λ b. xs ++ behind xs b) (sym none);
    is =
        ap named_plain is ∙ plain_is (before ++ ended style last ∷ line newline ∷ rest)
        ∙ ap (λ r. root ∷ r) (ended_names style last (line newline ∷ rest) before (root ∷ []))
        ∙ sym (plain_is (before ++ last ∷ line newline ∷ rest)) ∙ ap named_plain regrouped ∙ plain_parts front (line newline ∷ rest)
        ∙ ap (λ r. xs ++ (put_block ++ r)) (nothing (xs ++ put_block) ∙ ap (λ b. behind xs b) (sym none));
  }
    where
      regrouped : before ++ last ∷ (line newline ∷ rest) ≡ front ++ line newline ∷ rest
      regrouped = sym (append_assoc before (last ∷ []) (line newline ∷ rest)) ∙ ap (λ ls. ls ++ line newline ∷ rest) (sym front_is)

  -- It stands where the header does.
  pub named_between : There
  named_between = elim put.put [
    | inl at ↦ put_before at
    | inr (inl at) ↦ put_end at.before at.last [] [] at.front_is at.none at.was at.is (λ ys. refl)
    | inr (inr at) ↦ put_end at.before at.last style (empty_line ∷ []) at.front_is at.none at.was at.is (λ ys. refl)
  ]

  -- the new lines name what the old ones did, and in one place what the new header names
  pub put_names : (block : List Named) → put_block ≡ block → IsPut (named_plain old) block (named_plain new)
  put_names block are = record {
    front = xs;
    back = behind xs put.back;
    before = named_between.was;
    after = named_between.is ∙ ap (λ b. xs ++ (b ++ behind xs put.back)) are;
  }

-- What is named after the `remove` of a line.
use Rattle.std.proofs.Common.{◌≡◌, ℕ, ◌+◌, ◌==◌, ◌||◌, Bool, true, false, cond, ◌⊎◌, inl, inr, Option, List, [], ◌∷◌, ◌++◌, length, refl, sym, ap, ap₂, ◌∙◌, subst, subst₂, true≢false, append-nil}
use Rattle.std.proofs.lemmas.Bool.{cond-true, cond-false}
use Rattle.std.specs.List.{list_any}
use Rattle.toml_tree.specs.Spells.{EachIs}
use Rattle.toml_tree.specs.Pieces.{expr_piece}
use Rattle.toml_tree.specs.Tree.{Piece, Value, Expr, BlankLine, KeyValLine, TableLine, ArrayTableLine, Line}
use Rattle.toml_names.specs.declared.mentions.mention.Role.TheVariants.{Valued}
use Rattle.toml_names.specs.model.Addresses.{Address, same_address, child, below}
use Rattle.toml_names.specs.mentions.Keys.{Key, key_names, part_name, rest_names}
use Rattle.toml_names.specs.mentions.Mentions.{Named, named, named_by, named_from, root, pair_named, fronts, value_named, section}
use Rattle.toml_names.specs.mentions.Alike.{AreAlike}
use Rattle.toml_names.specs.mentions.Rules.{KeepsRules}
use Rattle.toml_names.proofs.Proved.{line_values_stand_alone}
use Rattle.toml_units.specs.Units.{line_units}
use Rattle.toml_editor.specs.UnitBlocks.{pair_line_units}
use Rattle.toml_editor.specs.Blocks.{IsPut, named_plain, value_block}
use Rattle.toml_editor.specs.RemoveLaws.{HasValueAt}
use Rattle.toml_working.specs.Lines.{lines_from}
use Rattle.toml_working.specs.Standing.{line_stands, standing_from}
use Rattle.toml_working.specs.Removing.{empty_line, left_behind, left_of_line, lines_left, remove_line}
use Rattle.toml_working.specs.Premises.{HasLine}
use Rattle.toml_working.specs.RemoveStanding.{is_pair}
use Rattle.toml_editor.proofs.written.Alike.{alike_self, alike_pair}
use Rattle.toml_editor.proofs.written.Behind.{put_behind, put_here}
use Rattle.toml_editor.proofs.Each.{each_front, each_back, each_weaker}
use Rattle.toml_editor.proofs.written.Pairwise.{PairsAre, pairs_back, pairs_between, Alone, Has, has_append_left, has_append_right, from_has, pairs_of_all}
use Rattle.toml_editor.proofs.written.Plain.{next_alike, behind, behind_alike, plain_is}
use Rattle.toml_editor.proofs.written.Clear.{below-cons, same_is}
use Rattle.toml_editor.proofs.written.Unplain.{pairs_plain}

-- no value has the address
abbrev pub NoPair : Address → List Named → Type 0
NoPair p = EachIs (λ m. m.address ≡ p → ¬ (m.role ≡ Valued))

-- it is that of a name in a table
abbrev pub IsMember : Address → Type 0
IsMember p = (table : Address) × (name : List ℕ) × (p ≡ child table name)

-- a key of a line leads to a member of a table
pub last_name : (s : Address) (n : List ℕ) (ns : Key) → IsMember (below s (n ∷ ns))
last_name s n [] = (s, n, refl)
last_name s n (m ∷ ns) = subst IsMember (below-cons s n (m ∷ ns)) (last_name (child s n) m ns)

-- what the line names of which this is the key, in the table
abbrev pub line_block : Address → Address → Key → Value → List Named
line_block p s key v = fronts 0 s key ++ value_block p v

module _ (p : Address) (b : Bool) where
  abbrev pub IsPair : Named → Type 0
  IsPair m = (m.address ≡ p) × (m.role ≡ Valued)

  -- a line stays
  abbrev pub Stays : List Named → Line → Type 0
  Stays xs l = (remove_line p b xs l ≡ l ∷ []) × (is_pair p (line_stands xs l) ≡ false)

  -- a line goes
  pub record Goes_away (xs : List Named) (l : Line) : Type 0 where
    pub own : HasValueAt p xs l.expr
    pub key : Key
    pub value : Value
    pub some : ¬ (key ≡ [])
    pub at : below (section xs) key ≡ p
    pub gone : remove_line p b xs l ≡ left_of_line p b (length (section xs)) l
    pub names : (ys : List Named) → AreAlike xs ys → named_by ys 0 l.expr ≡ line_block p (section xs) key value
    pub alike : (ys : List Named) → AreAlike xs ys → AreAlike ys (ys ++ line_block p (section xs) key value)
    pub units : (piece : Piece) × (comment : Option Piece) × (line_units xs l.expr ≡ pair_line_units piece p (length (section xs)) value comment)

  pub line_by : (xs : List Named) (l : Line) → Stays xs l ⊎ Goes_away xs l
  line_by xs l = by l.expr refl
    where
      by : (e : Expr) → l.expr ≡ e → Stays xs l ⊎ Goes_away xs l
      by (BlankLine b) is = inl ((rw is refl), (rw is refl))
      by (TableLine ws header tail) is = inl ((rw is refl), (rw is refl))
      by (ArrayTableLine ws header tail) is = inl ((rw is refl), (rw is refl))
      by (KeyValLine ws pair tail) is = at_test (same_address to p) refl
        where
          key : Key
          key = key_names pair.assign.key

          to : Address
          to = below (section xs) key

          removed : remove_line p b xs l ≡ cond (same_address to p) (left_of_line p b (length (section xs)) l) (l ∷ [])
          removed = rw is refl

          paired : is_pair p (line_stands xs l) ≡ same_address to p
          paired = rw is refl

          at_test : (t : Bool) → same_address to p ≡ t → Stays xs l ⊎ Goes_away xs l
          at_test false other = inl (removed ∙ cond-false _ _ _ other, paired ∙ other)
          at_test true same =
              let at : to ≡ p = same_is to p same in
              let pair_is : (ys : List Named) → AreAlike xs ys → pair_named 0 (section ys) pair.assign pair.value ≡ line_block p (section xs) key pair.value =
              λ ys alike. ap (λ s. pair_named 0 s pair.assign pair.value) (sym alike.sections) ∙ ap (λ q. fronts 0 (section xs) key ++ value_block q pair.value) at in
              inr (record {
                own = subst (HasValueAt p xs) (sym is) at;
                key = key;
                value = pair.value;
                some = λ e. cc;
                at = at;
                gone = removed ∙ cond-true _ _ _ same;
                names = λ ys alike. ap (named_by ys 0) is ∙ pair_is ys alike;
                alike = λ ys alike. subst (λ new. AreAlike ys (ys ++ new)) (pair_is ys alike) (alike_pair ys ys (alike_self ys) 0 (section ys) pair.assign pair.value);
                units = (
                  expr_piece (KeyValLine ws pair tail),
                  tail.comment,
                  ap (line_units xs) is ∙ ap (λ q. pair_line_units (expr_piece (KeyValLine ws pair tail)) q (length (section xs)) pair.value tail.comment) at,
                );
              })

  -- such a line names the pair
  pair_in : (s : Address) (key : Key) (v : Value) → Has IsPair (line_block p s key v)
  pair_in s key v = has_append_right IsPair (fronts 0 s key) (value_block p v) (inl (refl, refl))

  no_pair : (ms : List Named) → NoPair p ms → Has IsPair ms → ⊥
  no_pair = from_has (λ m. m.address ≡ p → ¬ (m.role ≡ Valued)) IsPair ⊥ (λ m not is. not is.0 is.1)

  -- where no pair has the address, all lines stay
  pub none_gone : (ls : List Line) (xs ys : List Named) (n : ℕ) → AreAlike xs ys → NoPair p (behind ys ls) → lines_from (remove_line p b) xs n ls ≡ ls
  none_gone [] xs ys n alike none = refl
  none_gone (l ∷ ls) xs ys n alike none =
      elim (line_by xs l) [
        | inl stays ↦
            ap (λ r. r ++ lines_from (remove_line p b) (xs ++ named_by xs n l.expr) (n + 1) ls) stays.0
            ∙ ap (λ r. l ∷ r) (none_gone ls (xs ++ named_by xs n l.expr) (ys ++ named_by ys 0 l.expr) (n + 1) (next_alike xs ys n l.expr alike) (each_back _ (named_by ys 0 l.expr) (behind (ys ++ named_by ys 0 l.expr) ls) none))
        | inr goes ↦
            absurd (no_pair (named_by ys 0 l.expr) (each_front _ (named_by ys 0 l.expr) (behind (ys ++ named_by ys 0 l.expr) ls) none)
            (subst (Has IsPair) (sym (goes.names ys alike)) (pair_in (section xs) goes.key goes.value)))
      ]

  -- one line is gone
  abbrev Gone : List Named → ℕ → List Line → Type 0
  Gone xs n ls =
      (front : List Line) × (l : Line) × (back : List Line) × (ls ≡ front ++ l ∷ back) × HasValueAt p (named_from xs n front) l.expr
      × (lines_from (remove_line p b) xs n ls ≡ front ++ (left_of_line p b (length (section (named_from xs n front))) l ++ back))

  -- what holds of lines of which one is the pair's: it does if that line comes first, and if it does of the lines behind one that stays
  abbrev pub Claim : Type 1
  Claim = List Named → List Named → ℕ → List Line → Type 0

  abbrev pub BehindOne : Claim → Type 0
  BehindOne C = (xs ys : List Named) (n : ℕ) (l : Line) (ls : List Line) → AreAlike xs ys → Stays xs l
      → C (xs ++ named_by xs n l.expr) (ys ++ named_by ys 0 l.expr) (n + 1) ls → C xs ys n (l ∷ ls)

  abbrev pub AtOne : Claim → Type 0
  AtOne C = (xs ys : List Named) (n : ℕ) (l : Line) (ls : List Line) → AreAlike xs ys → Goes_away xs l
      → lines_from (remove_line p b) (xs ++ named_by xs n l.expr) (n + 1) ls ≡ ls → C xs ys n (l ∷ ls)

  -- a line has the value there
  abbrev HasOne : List Named → ℕ → List Line → Type 0
  HasOne xs n ls = list_any (is_pair p) (standing_from xs n ls) ≡ true

  one_behind : (xs : List Named) (n : ℕ) (l : Line) (ls : List Line) → is_pair p (line_stands xs l) ≡ false → HasOne xs n (l ∷ ls) → HasOne (xs ++ named_by xs n l.expr) (n + 1) ls
  one_behind xs n l ls not there = ap (λ b. b || list_any (is_pair p) (standing_from (xs ++ named_by xs n l.expr) (n + 1) ls)) (sym not) ∙ there

  -- which is then named
  is_named : (ls : List Line) (xs ys : List Named) (n : ℕ) → AreAlike xs ys → HasOne xs n ls → Has IsPair (behind ys ls)
  is_named [] xs ys n alike there = absurd (true≢false (sym there))
  is_named (l ∷ ls) xs ys n alike there = by (line_by xs l) (λ more. is_named ls (xs ++ named_by xs n l.expr) (ys ++ named_by ys 0 l.expr) (n + 1) (next_alike xs ys n l.expr alike) more)
    where
      new_ones : List Named
      new_ones = named_by ys 0 l.expr

      rest : List Named
      rest = behind (ys ++ new_ones) ls

      by : Stays xs l ⊎ Goes_away xs l → (HasOne (xs ++ named_by xs n l.expr) (n + 1) ls → Has IsPair rest) → Has IsPair (new_ones ++ rest)
      by (inl stays) more = has_append_right IsPair new_ones rest (more (one_behind xs n l ls stays.1 there))
      by (inr goes) more = has_append_left IsPair new_ones rest (subst (Has IsPair) (sym (goes.names ys alike)) (pair_in (section xs) goes.key goes.value))

  by_lines : (C : Claim) → BehindOne C → AtOne C → (ls : List Line) (xs ys : List Named) (n : ℕ) → AreAlike xs ys → PairsAre Alone (behind ys ls) → HasOne xs n ls → C xs ys n ls
  by_lines C stays goes [] xs ys n alike alone there = absurd (true≢false (sym there))
  by_lines C stays goes (l ∷ ls) xs ys n alike alone there = by (line_by xs l) (λ more. by_lines C stays goes ls (xs ++ named_by xs n l.expr) (ys ++ named_by ys 0 l.expr) (n + 1) next (pairs_back Alone new_ones rest alone) more)
    where
      new_ones : List Named
      new_ones = named_by ys 0 l.expr

      rest : List Named
      rest = behind (ys ++ named_by ys 0 l.expr) ls

      next : AreAlike (xs ++ named_by xs n l.expr) (ys ++ named_by ys 0 l.expr)
      next = next_alike xs ys n l.expr alike

      apart : EachIs (λ x. EachIs (Alone x) rest) new_ones
      apart = pairs_between Alone new_ones rest alone

      by : Stays xs l ⊎ Goes_away xs l → (HasOne (xs ++ named_by xs n l.expr) (n + 1) ls → C (xs ++ named_by xs n l.expr) (ys ++ named_by ys 0 l.expr) (n + 1) ls) → C xs ys n (l ∷ ls)
      by (inl s) more = stays xs ys n l ls alike s (more (one_behind xs n l ls s.1 there))
      by (inr g) more =
          let from_it : EachIs (λ x. EachIs (Alone x) rest) (value_block p g.value) =
          each_back (λ x. EachIs (Alone x) rest) (fronts 0 (section xs) g.key) (value_block p g.value) (subst (λ b. EachIs (λ x. EachIs (Alone x) rest) b) (g.names ys alike) apart) in
          let none : NoPair p rest =
          each_weaker (Alone (value_named 0 Valued p g.value)) (λ m. m.address ≡ p → ¬ (m.role ≡ Valued)) (λ m lone here role. true≢false ((lone (sym here)).0)) rest from_it.0 in
          goes xs ys n l ls alike g (none_gone ls (xs ++ named_by xs n l.expr) (ys ++ named_by ys 0 l.expr) (n + 1) next none)

  -- so it is from the root on
  pub by_document : (C : Claim) → BehindOne C → AtOne C → (lines : List Line) → HasLine lines p → KeepsRules (named lines) → C (root ∷ []) (root ∷ []) 0 lines
  by_document C stays goes lines there keeps =
      let alone : PairsAre Alone (root ∷ behind (root ∷ []) lines) = subst (PairsAre Alone) (plain_is lines) (pairs_plain lines Alone (λ x y h. h) (pairs_of_all Alone (named lines) (line_values_stand_alone lines keeps))) in
      by_lines C stays goes lines (root ∷ []) (root ∷ []) 0 (alike_self (root ∷ [])) alone.1 there

  -- which line goes
  abbrev Parted : Claim
  Parted xs ys n ls = Gone xs n ls

  gone_behind : BehindOne Parted
  gone_behind xs ys n l ls alike stays gone =
      let kept = lines_from (remove_line p b) (xs ++ named_by xs n l.expr) (n + 1) ls in
      (l ∷ gone.0, gone.1, gone.2, ap (λ r. l ∷ r) gone.3, gone.4, ap (λ r. r ++ kept) stays.0 ∙ ap (λ r. l ∷ r) gone.5)

  gone_here : AtOne Parted
  gone_here xs ys n l ls alike goes same = ([], l, ls, refl, goes.own, ap₂ (λ x y. x ++ y) goes.gone same)

  pub parted : (lines : List Line) → HasLine lines p → KeepsRules (named lines) → Gone (root ∷ []) 0 lines
  parted = by_document Parted gone_behind gone_here

-- what is named where the line goes
module _ (p : Address) where
  left_names : (ys : List Named) (l : Line) (ls : List Line) → behind ys (left_behind l ++ ls) ≡ behind ys ls
  left_names ys l ls = by (length l.newline.text == 0)
    where
      by : (b : Bool) → behind ys (cond b (empty_line ∷ []) [] ++ ls) ≡ behind ys ls
      by true = ap (λ r. behind r ls) (append-nil ys)
      by false = refl

  abbrev Unnamed : Claim p true
  Unnamed xs ys n ls =
      (s : Address) × (key : Key) × (v : Value) × (p ≡ below s key)
      × IsPut (behind ys (lines_from (remove_line p true) xs n ls)) (line_block p s key v) (behind ys ls)

  behind_one : BehindOne p true Unnamed
  behind_one xs ys n l ls alike stays found =
      let kept = lines_from (remove_line p true) (xs ++ named_by xs n l.expr) (n + 1) ls in
      let new_ones = named_by ys 0 l.expr in (
        found.0,
        found.1,
        found.2,
        found.3,
        subst (λ r. IsPut (behind ys (r ++ kept)) (line_block p found.0 found.1 found.2) (new_ones ++ behind (ys ++ new_ones) ls)) (sym stays.0)
            (put_behind new_ones (behind (ys ++ new_ones) kept) (line_block p found.0 found.1 found.2) (behind (ys ++ new_ones) ls) found.4),
      )

  at_one : AtOne p true Unnamed
  at_one xs ys n l ls alike goes same =
      let kept = lines_from (remove_line p true) (xs ++ named_by xs n l.expr) (n + 1) ls in
      let new_ones = named_by ys 0 l.expr in
      let named_so = goes.names ys alike in
      let its = line_block p (section xs) goes.key goes.value in
      let left : behind ys (remove_line p true xs l ++ kept) ≡ behind ys ls = ap₂ (λ a b. behind ys (a ++ b)) goes.gone same ∙ left_names ys l ls in
      let right : new_ones ++ behind (ys ++ new_ones) ls ≡ its ++ behind ys ls = ap₂ (λ a b. a ++ b) named_so (ap (λ b. behind (ys ++ b) ls) named_so ∙ sym (behind_alike ls ys (ys ++ its) (goes.alike ys alike))) in
      (section xs, goes.key, goes.value, sym goes.at, subst₂ (λ a b. IsPut a its b) (sym left) (sym right) (put_here its (behind ys ls)))

  unnamed : (lines : List Line) → HasLine lines p → KeepsRules (named lines) → Unnamed (root ∷ []) (root ∷ []) 0 lines
  unnamed = by_document p true Unnamed behind_one at_one

line_member : (p : Address) (xs : List Named) (e : Expr) (newline : Piece) → is_pair p (line_stands xs (record { expr = e; newline = newline })) ≡ true → IsMember p
line_member p xs (BlankLine b) newline is = absurd (true≢false (sym is))
line_member p xs (TableLine ws header tail) newline is = absurd (true≢false (sym is))
line_member p xs (ArrayTableLine ws header tail) newline is = absurd (true≢false (sym is))
line_member p xs (KeyValLine ws pair tail) newline is =
    subst IsMember (same_is _ p is) (last_name (section xs) (part_name pair.assign.key.first) (rest_names pair.assign.key.rest))

lines_member : (p : Address) (ls : List Line) (xs : List Named) (n : ℕ) → list_any (is_pair p) (standing_from xs n ls) ≡ true → IsMember p
lines_member p [] xs n there = absurd (true≢false (sym there))
lines_member p (l ∷ ls) xs n there = at (is_pair p (line_stands xs l)) refl there (λ more. lines_member p ls (xs ++ named_by xs n l.expr) (n + 1) more)
  where
    Later : Bool
    Later = list_any (is_pair p) (standing_from (xs ++ named_by xs n l.expr) (n + 1) ls)

    at : (b : Bool) → is_pair p (line_stands xs l) ≡ b → (b || Later) ≡ true → (Later ≡ true → IsMember p) → IsMember p
    at true is h more = line_member p xs l.expr l.newline is
    at false is h more = more h

-- so is the address of a line's value
pub line_parts : (p : Address) (lines : List Line) → HasLine lines p → IsMember p
line_parts p lines there = lines_member p lines (root ∷ []) 0 there

-- the lines without that of the value
abbrev pub taken_lines : Address → List Line → List Line
taken_lines p = lines_left p true

pub taken_names : (p : Address) (lines : List Line) → HasLine lines p → KeepsRules (named lines)
    → (s : Address) × (key : Key) × (v : Value) × (p ≡ below s key)
    × IsPut (named_plain (taken_lines p lines)) (line_block p s key v) (named_plain lines)
taken_names p lines there keeps =
    let (s, key, v, at, put) = unnamed p lines there keeps in (
      s,
      key,
      v,
      at,
      subst₂ (λ a b. IsPut a (line_block p s key v) b) (sym (plain_is (taken_lines p lines))) (sym (plain_is lines))
          (put_behind (root ∷ []) (behind (root ∷ []) (taken_lines p lines)) (line_block p s key v) (behind (root ∷ []) lines) put),
    )

-- the lines before that of the value, and behind it
pub lines_part : (p : Address) (b : Bool) (lines : List Line) → HasLine lines p → KeepsRules (named lines)
    → (front : List Line) × (l : Line) × (back : List Line) × (lines ≡ front ++ l ∷ back) × HasValueAt p (named front) l.expr
    × (lines_left p b lines ≡ front ++ (left_of_line p b (length (section (named front))) l ++ back))
lines_part p b lines there keeps = parted p b lines there keeps

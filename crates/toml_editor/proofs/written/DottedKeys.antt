-- The names behind a section in the address of a table that a dotted key makes.
use Rattle.std.proofs.Common.{◌≡◌, ◌∙◌, ℕ, ◌+◌, ◌<◌, true, List, [], ◌∷◌, ◌++◌, map, length, refl, sym, ap, true≢false, append_assoc, arith}
use Rattle.std.specs.Bool.{nat_lt}
use Rattle.std.proofs.Math.Seq.{drop-append_seam}
use Rattle.std.proofs.lemmas.Bool.{and_parts}
use Rattle.std.proofs.lemmas.List.{map-append}
use Rattle.toml_tree.specs.Spells.{EachIs}
use Rattle.toml_tree.specs.Tree.{Piece, Blank, KeyVal, Expr, BlankLine, KeyValLine, TableLine, ArrayTableLine, Line}
use Rattle.toml_names.specs.declared.model.address.Step.TheVariants.{Name}
use Rattle.toml_names.specs.mentions.Keys.{Key, key_names}
use Rattle.toml_names.specs.mentions.Mentions.{Named, named_by, root, section}
use Rattle.toml_names.specs.model.Addresses.{Address, IsAbove, below, child, is_above}
use Rattle.toml_names.specs.reader.Names.{own_address}
use Rattle.toml_names.proofs.Proved.{above_is_above}
use Rattle.toml_units.specs.Units.{line_base}
use Rattle.toml_working.specs.declared.lines.Sought.TheVariants as sought
use Rattle.toml_working.specs.DottedTables.{IsKeyed}
use Rattle.toml_working.specs.Headers.{names_of}
use Rattle.toml_working.specs.InsertingInTables.{key_behind}
use Rattle.toml_working.specs.Seeing.{is_dotted, is_sought_line}
use Rattle.toml_working.specs.Standing.{line_stands, standing_from}
use Rattle.toml_editor.specs.StandingLaws.{DottedIsKeyed}
use Rattle.toml_editor.proofs.written.HeadersAlone.{is_less}

-- ---- addresses

-- the names of an address that names alone lead to
names_are : (key : Key) → names_of (map Name key) ≡ key
names_are [] = refl
names_are (n ∷ key) = ap (λ r. n ∷ r) (names_are key)

-- the names behind a section are the key from there
pub key_behind_is : (s : Address) (key : Key) → key_behind (length s) (below s key) ≡ key
key_behind_is s key = ap names_of (drop-append_seam s (map Name key)) ∙ names_are key

pub child_below : (s : Address) (key : Key) (name : List ℕ) → child (below s key) name ≡ below s (key ++ name ∷ [])
child_below s key name = append_assoc s (map Name key) (Name name ∷ []) ∙ ap (λ r. s ++ r) (sym (map-append Name key (name ∷ [])))

-- names that an address begins with are names alone
front_names : (key : Key) (q rest : Address) → map Name key ≡ q ++ rest → (k : Key) × (q ≡ map Name k)
front_names key [] rest is = ([], refl)
front_names [] (t ∷ q) rest is = cc
front_names (n ∷ key) (t ∷ q) rest is =
    let head : Name n ≡ t = cc in
    let tail : map Name key ≡ q ++ rest = cc in
    let (k, are) = front_names key q rest tail in
    (n ∷ k, ap (λ x. x ∷ q) (sym head) ∙ ap (λ r. Name n ∷ r) are)

-- the names from a section on to what is above the end of a key there
abbrev pub IsKeyFrom : Address → Address → Type 0
IsKeyFrom s q = (n : List ℕ) × (ns : Key) × (q ≡ below s (n ∷ ns))

pub key_from : (s : Address) (key : Key) (q : Address) → length s < length q → IsAbove q (below s key) → IsKeyFrom s q
key_from [] key [] long above = absurd (omega (arith, long))
key_from [] key (t ∷ q) long (u, rest, is) = by (front_names key (t ∷ q) (u ∷ rest) is)
  where
    by : (k : Key) × (t ∷ q ≡ map Name k) → IsKeyFrom [] (t ∷ q)
    by ([], are) = cc
    by (n ∷ ns, are) = (n, ns, are)
key_from (w ∷ s) key [] long above = absurd (omega (arith, long))
key_from (w ∷ s) key (t ∷ q) long (u, rest, is) =
    let head : w ≡ t = cc in
    let tail : below s key ≡ q ++ u ∷ rest = cc in
    from head (key_from s key q (omega (arith, long)) (u, rest, tail))
  where
    from : w ≡ t → IsKeyFrom s q → IsKeyFrom (w ∷ s) (t ∷ q)
    from head (n, ns, are) = (n, ns, ap (λ x. x ∷ q) (sym head) ∙ ap (λ r. w ∷ r) are)

-- ---- the line of such a key

module _ (q : Address) where
  -- it has a key and a value, and the table's address begins with that of its section
  pub record Makes (xs : List Named) (e : Expr) : Type 0 where
    pub ws : Piece
    pub pair : KeyVal
    pub tail : Blank
    pub is : e ≡ KeyValLine ws pair tail
    pub above : is_above q (below (section xs) (key_names pair.assign.key)) ≡ true
    pub key : IsKeyFrom (section xs) q

  pub maker_keys : (xs : List Named) (l : Line) → is_sought_line sought.Dotted q (line_stands xs l) ≡ true → Makes xs l.expr
  maker_keys xs l makes = by l.expr refl
    where
      found : (e : Expr) → l.expr ≡ e → is_dotted q (line_base xs e) (own_address xs e) ≡ true
      found e is = ap (λ x. is_dotted q (line_base xs x) (own_address xs x)) (sym is) ∙ makes

      by : (e : Expr) → l.expr ≡ e → Makes xs l.expr
      by (BlankLine b) is = absurd (true≢false (sym (found (BlankLine b) is)))
      by (TableLine ws header tail) is = absurd (true≢false (sym (found (TableLine ws header tail) is)))
      by (ArrayTableLine ws header tail) is = absurd (true≢false (sym (found (ArrayTableLine ws header tail) is)))
      by (KeyValLine ws pair tail) is =
          let at = below (section xs) (key_names pair.assign.key) in
          let (long, above) = and_parts (nat_lt (length (section xs)) (length q)) (is_above q at) (found (KeyValLine ws pair tail) is) in
          record {
            ws = ws;
            pair = pair;
            tail = tail;
            is = is;
            above = above;
            key = key_from (section xs) (key_names pair.assign.key) q (is_less (length (section xs)) (length q) long) ((above_is_above q at).0 above);
          }

-- so it is of the lines that stand behind others
keyed_from : (q : Address) (ls : List Line) (xs : List Named) (n : ℕ) → EachIs (IsKeyed q) (standing_from xs n ls)
keyed_from q [] xs n = tt
keyed_from q (l ∷ ls) xs n = (
  λ makes. let made = maker_keys q xs l makes in (section xs, made.key.0 ∷ made.key.1, ap (line_base xs) made.is, made.key.2),
  keyed_from q ls (xs ++ named_by xs n l.expr) (n + 1),
)

pub dotted_is_keyed : DottedIsKeyed
dotted_is_keyed q lines has = record { dotted = has.dotted; keyed = keyed_from q lines (root ∷ []) 0; no_header = has.no_header }

-- The line of a value that comes to stand for the table right above it: its key has parts before the last one.
use Rattle.std.proofs.Common.{◌≡◌, ◌∙◌, ℕ, suc, ◌+◌, ◌-◌, ◌<◌, ◌≤◌, Bool, true, false, ◌&&◌, ◌||◌, List, [], ◌∷◌, ◌++◌, length, length-append, map, take, refl, sym, ap, ap₂, subst, append_assoc, true≢false, arith}
use Rattle.std.specs.Bool.{nat_lt}
use Rattle.std.specs.List.{list_any}
use Rattle.std.specs.Prelude.{not}
use Rattle.std.proofs.lemmas.Bool.Decides.{nat_tests}
use Rattle.std.proofs.lemmas.List.{length-map, length-take-le, map-append}
use Rattle.toml_tree.specs.Tree as tree
use Rattle.toml_tree.specs.Tree.{Piece, Blank, Dotted, KeyVal, Expr, BlankLine, KeyValLine, TableLine, ArrayTableLine, Line}
use Rattle.toml_names.specs.declared.model.address.Step.TheVariants.{Name}
use Rattle.toml_names.specs.model.Addresses.{Address, below, child, same_address}
use Rattle.toml_names.specs.mentions.Keys.{Key, key_names, part_name, rest_names}
use Rattle.toml_names.specs.mentions.Mentions.{named, section}
use Rattle.toml_names.specs.mentions.Rules.{KeepsRules}
use Rattle.toml_working.specs.Removing.{emptied_line, key_cut, lines_left}
use Rattle.toml_working.specs.RemoveStanding.{is_undotted_pair, leaves_parent, makes_beside}
use Rattle.toml_layout.specs.Holders.{parent_of}
use Rattle.toml_working.specs.Standing.{Standing, line_stands, standing}
use Rattle.toml_working.specs.Premises.{HasLine}
use Rattle.toml_editor.specs.RemoveLaws.{HasValueAt}
use Rattle.toml_editor.proofs.written.BelowPlace.{standing_behind}
use Rattle.toml_editor.proofs.written.Clear.{self}
use Rattle.toml_editor.proofs.written.RemoveNamed.{lines_part}
use Rattle.toml_editor.proofs.written.TablesStay.{parent_is, any_at}

-- ---- keys

-- a list by its last element
snoc : {A : Type 0} (x : A) (xs : List A) → (ys : List A) × (y : A) × (x ∷ xs ≡ ys ++ y ∷ []) × (take (length xs) (x ∷ xs) ≡ ys)
snoc x [] = ([], x, refl, refl)
snoc x (z ∷ xs) = let (ys, y, is, front) = snoc z xs in (x ∷ ys, y, ap (λ r. x ∷ r) is, ap (λ r. x ∷ r) front)

-- a key by its last part, and what is left where it is cut before that
pub record IsCut (k : tree.Key) (parts : ℕ) : Type 0 where
  pub first : List ℕ
  pub rest : Key
  pub last : List ℕ
  pub whole : key_names k ≡ (first ∷ rest) ++ last ∷ []
  pub front : key_names (key_cut parts k) ≡ first ∷ rest

is_cut : (k : tree.Key) (parts : ℕ) → parts + 1 ≡ length (key_names k) → 1 ≤ parts → IsCut k parts
is_cut k parts count some = by k.rest refl
  where
    long : length (key_names k) ≡ suc (length k.rest)
    long = let e : length (map (λ (d : Dotted). part_name d.part) k.rest) ≡ length k.rest = length-map k.rest (λ (d : Dotted). part_name d.part) in ap suc e

    by : (ds : List Dotted) → k.rest ≡ ds → IsCut k parts
    by [] is = let none = ap length is in absurd (omega (arith, count, long, none, some))
    by (d ∷ ds) is =
        let (ys, y, whole, front) = snoc d ds in
        let few = ap length is in
        let less : parts - 1 ≡ length ds = omega (arith, count, long, few) in
        record {
          first = part_name k.first;
          rest = rest_names ys;
          last = part_name y.part;
          whole =
              ap (λ r. part_name k.first ∷ rest_names r) (is ∙ whole)
              ∙ ap (λ r. part_name k.first ∷ r) (map-append (λ (x : Dotted). part_name x.part) ys (y ∷ []));
          front =
              ap₂ (λ m r. part_name k.first ∷ rest_names (take m r)) less is ∙ ap (λ r. part_name k.first ∷ rest_names r) front;
        }

pub below_last : (s : Address) (key : Key) (n : List ℕ) → below s (key ++ n ∷ []) ≡ child (below s key) n
below_last s key n = ap (λ r. s ++ r) (map-append Name key (n ∷ [])) ∙ sym (append_assoc s (map Name key) (Name n ∷ []))

-- ---- the line

abbrev pub pair_line : Piece → KeyVal → Blank → Piece → Line
pair_line ws pair tail newline = record { expr = KeyValLine ws pair tail; newline = newline }

pub record IsEmptying (p : Address) (lines : List Line) : Type 0 where
  pub front : List Line
  pub back : List Line
  pub ws : Piece
  pub pair : KeyVal
  pub tail : Blank
  pub newline : Piece
  pub was : lines ≡ front ++ pair_line ws pair tail newline ∷ back
  pub cut : IsCut pair.assign.key (length (parent_of p) - length (section (named front)))
  pub at : p ≡ child (below (section (named front)) (cut.first ∷ cut.rest)) cut.last
  pub now : lines_left p false lines
      ≡ front ++ emptied_line (length (parent_of p) - length (section (named front))) (pair_line ws pair tail newline) ∷ back

not_there : (test : Standing → Bool) (front : List Standing) (s : Standing) (back : List Standing) → list_any test (front ++ s ∷ back) ≡ false → test s ≡ false
not_there test front s back none = by (test s) refl
  where
    by : (b : Bool) → test s ≡ b → test s ≡ false
    by true is = absurd (true≢false (sym (any_at test front s back is) ∙ none))
    by false is = is

pub either_false : (a b : Bool) → (a || b) ≡ false → (a ≡ false) × (b ≡ false)
either_false true b is = absurd (true≢false is)
either_false false b is = (refl, is)

less_is : (x y : ℕ) → not (nat_lt x y) ≡ false → x < y
less_is x y h = let e : x < y = grind (arith, nat_tests, h) in e

pub emptying : (p : Address) (lines : List Line) → HasLine lines p → leaves_parent p (standing lines) ≡ false → KeepsRules (named lines) → IsEmptying p lines
emptying p lines there gone keeps =
    let (front, l, back, was, own, now) = lines_part p false lines there keeps in by front l back was own now l.expr refl
  where
    by : (front : List Line) (l : Line) (back : List Line) → lines ≡ front ++ l ∷ back → HasValueAt p (named front) l.expr
        → lines_left p false lines ≡ front ++ emptied_line (length (parent_of p) - length (section (named front))) l ∷ back
        → (e : Expr) → l.expr ≡ e → IsEmptying p lines
    by front l back was own now (BlankLine b) is = absurd (subst (HasValueAt p (named front)) is own)
    by front l back was own now (TableLine ws h tail) is = absurd (subst (HasValueAt p (named front)) is own)
    by front l back was own now (ArrayTableLine ws h tail) is = absurd (subst (HasValueAt p (named front)) is own)
    by front l back was own now (KeyValLine ws pair tail) is =
        let s = section (named front) in
        let key = key_names pair.assign.key in
        let to : below s key ≡ p = subst (HasValueAt p (named front)) is own in
        let no_undotted = (either_false (list_any (is_undotted_pair p) (standing lines)) (list_any (makes_beside (parent_of p) p) (standing lines)) gone).0 in
        let here : is_undotted_pair p (line_stands (named front) l) ≡ false =
        not_there (is_undotted_pair p) (standing front) (line_stands (named front) l) _
        (ap (list_any (is_undotted_pair p)) (sym (ap standing was ∙ standing_behind front (l ∷ back) [])) ∙ no_undotted) in
        let told : is_undotted_pair p (line_stands (named front) l) ≡ (same_address (below s key) p && not (nat_lt (length s) (length p - 1))) = rw is refl in
        let dotted : length s < length p - 1 =
        less_is (length s) (length p - 1)
        (ap (λ b. b && not (nat_lt (length s) (length p - 1))) (sym (ap (λ a. same_address a p) to ∙ self p)) ∙ sym told ∙ here) in
        let steps : length (map Name key) ≡ length key = length-map key Name in
        let whole : length p ≡ length s + length key = ap length (sym to) ∙ length-append s (map Name key) ∙ ap (λ n. length s + n) steps in
        let over : length (parent_of p) ≡ length p - 1 = length-take-le (length p - 1) p (omega arith) in
        let cut = is_cut pair.assign.key (length (parent_of p) - length s) (omega (arith, dotted, whole, over)) (omega (arith, dotted, over)) in
        record {
          front = front;
          back = back;
          ws = ws;
          pair = pair;
          tail = tail;
          newline = l.newline;
          was = was ∙ ap (λ e. front ++ record { expr = e; newline = l.newline } ∷ back) is;
          cut = cut;
          at = sym to ∙ ap (below s) cut.whole ∙ below_last s (cut.first ∷ cut.rest) cut.last;
          now =
              now ∙ ap (λ e. front ++ emptied_line (length (parent_of p) - length s) (record { expr = e; newline = l.newline }) ∷ back) is;
        }

-- the table right above
pub right_above : (p : Address) (lines : List Line) (e : IsEmptying p lines) → parent_of p ≡ below (section (named e.front)) (e.cut.first ∷ e.cut.rest)
right_above p lines e = ap parent_of e.at ∙ parent_is (below (section (named e.front)) (e.cut.first ∷ e.cut.rest)) (Name e.cut.last)

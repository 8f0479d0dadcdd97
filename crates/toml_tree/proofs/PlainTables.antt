-- What profile 1 asks of a tree says nothing of places, and what it asks of a value it asks of each value inside.
use Rattle.std.proofs.Common.{◌≡◌, List, [], ◌∷◌, map, length, inl, inr, sym, refl, ap, subst, arith}
use Rattle.std.specs.Prelude.{◌↔◌}
use Rattle.toml_tree.specs.Bare.{bare_gap_line, bare_gap, bare_value, bare_items, bare_pairs, bare_expr, bare_lines, BareValueOfProfile, BareLinesOfProfile}
use Rattle.toml_tree.specs.Laws.{IsItemOf, IsPairOf, IsIn, InsideIsOfProfile}
use Rattle.toml_tree.specs.Places.{put_value, put_lines, PutValueOfProfile, PutLinesOfProfile}
use Rattle.toml_tree.specs.Profiles.{IsPlainGap, HasPair, HasNoLastComma, HasPlainTables, ItemsHavePlainTables, ArePlainPairs, ExprHasPlainTables, Asks, IsValueOfProfile, AreLinesOfProfile}
use Rattle.toml_tree.specs.Spells.{EachIs}
use Rattle.toml_tree.specs.Tree.{GapLine, Gap, Value, Scalar, Array, Inline, Items, Close, Last, More, Pairs, ClosePairs, LastPair, MorePairs, Expr, BlankLine, KeyValLine, TableLine, ArrayTableLine, Line}
use Rattle.toml_tree.specs.declared.profile.Profile.{Profile}
use Rattle.toml_tree.proofs.Profiled.{asked}
use Rattle.toml_tree.proofs.PutSame.{put_value_same, put_lines_same}

-- ---- places

same : (A : Type 0) → A ↔ A
same A = ((λ h. h), (λ h. h))

two : {A A' B B' : Type 0} → A ↔ A' → B ↔ B' → (A × B) ↔ (A' × B')
two f g = ((λ h. (f.0 h.0, g.0 h.1)), (λ h. (f.1 h.0, g.1 h.1)))

three : {A A' B B' C C' : Type 0} → A ↔ A' → B ↔ B' → C ↔ C' → (A × B × C) ↔ (A' × B' × C')
three f g h = ((λ k. (f.0 k.0, g.0 k.1, h.0 k.2)), (λ k. (f.1 k.0, g.1 k.1, h.1 k.2)))

four : {A A' B B' C C' D D' : Type 0} → A ↔ A' → B ↔ B' → C ↔ C' → D ↔ D' → (A × B × C × D) ↔ (A' × B' × C' × D')
four f g h k = ((λ l. (f.0 l.0, g.0 l.1, h.0 l.2, k.0 l.3)), (λ l. (f.1 l.0, g.1 l.1, h.1 l.2, k.1 l.3)))

plain_gap : (g : Gap) → IsPlainGap g ↔ IsPlainGap (bare_gap g)
plain_gap g = (ap (map bare_gap_line), back g.lines)
  where
    back : (ls : List GapLine) → map bare_gap_line ls ≡ [] → ls ≡ []
    back [] h = refl
    back (l ∷ ls) h = absurd (omega (arith, ap length h))

has_pair : (ps : Pairs) → HasPair ps ↔ HasPair (bare_pairs ps)
has_pair (ClosePairs g) = same ⊥
has_pair (LastPair g a v h) = same (Unit {0})
has_pair (MorePairs g a v h ps) = same (Unit {0})

no_comma : (ps : Pairs) → HasNoLastComma ps ↔ HasNoLastComma (bare_pairs ps)
no_comma (ClosePairs g) = same (Unit {0})
no_comma (LastPair g a v h) = same (Unit {0})
no_comma (MorePairs g a v h ps) = two (has_pair ps) (no_comma ps)

mutual
  plain_value : (v : Value) → HasPlainTables v ↔ HasPlainTables (bare_value v)
  plain_value (Scalar kind p) = same (Unit {0})
  plain_value (Array whole items) = plain_items items
  plain_value (Inline whole pairs) = two (no_comma pairs) (plain_pairs pairs)

  plain_items : (items : Items) → ItemsHavePlainTables items ↔ ItemsHavePlainTables (bare_items items)
  plain_items (Close g) = same (Unit {0})
  plain_items (Last g v h) = plain_value v
  plain_items (More g v h is) = two (plain_value v) (plain_items is)

  plain_pairs : (pairs : Pairs) → ArePlainPairs pairs ↔ ArePlainPairs (bare_pairs pairs)
  plain_pairs (ClosePairs g) = plain_gap g
  plain_pairs (LastPair g a v h) = three (plain_gap g) (plain_value v) (plain_gap h)
  plain_pairs (MorePairs g a v h ps) = four (plain_gap g) (plain_value v) (plain_gap h) (plain_pairs ps)

plain_expr : (e : Expr) → ExprHasPlainTables e ↔ ExprHasPlainTables (bare_expr e)
plain_expr (BlankLine b) = same (Unit {0})
plain_expr (KeyValLine ws k b) = plain_value k.value
plain_expr (TableLine ws h b) = same (Unit {0})
plain_expr (ArrayTableLine ws h b) = same (Unit {0})

abbrev ArePlain : List Line → Type 0
ArePlain ls = EachIs (λ l. ExprHasPlainTables l.expr) ls

plain_lines : (ls : List Line) → ArePlain ls ↔ ArePlain (bare_lines ls)
plain_lines [] = same (Unit {0})
plain_lines (l ∷ ls) = two (plain_expr l.expr) (plain_lines ls)

asked_alike : (p : Profile) {A B : Type 0} → A ↔ B → Asks p A ↔ Asks p B
asked_alike p f = (asked p f.0, asked p f.1)

pub bare_value_of_profile : BareValueOfProfile
bare_value_of_profile p v = asked_alike p (plain_value v)

pub bare_lines_of_profile : BareLinesOfProfile
bare_lines_of_profile p ls = asked_alike p (plain_lines ls)

-- two that are the same but for places
alike : {A : Type 0} (P : A → Type 0) (bare : A → A) → ((x : A) → P x ↔ P (bare x)) → (x y : A) → bare x ≡ bare y → P x ↔ P y
alike P bare same x y is = ((λ h. (same y).1 (subst P is ((same x).0 h))), (λ h. (same x).1 (subst P (sym is) ((same y).0 h))))

pub put_value_of_profile : PutValueOfProfile
put_value_of_profile p v at = alike (IsValueOfProfile p) bare_value (bare_value_of_profile p) v (put_value at v) (sym (put_value_same v at))

pub put_lines_of_profile : PutLinesOfProfile
put_lines_of_profile p ls at = alike (AreLinesOfProfile p) bare_lines (bare_lines_of_profile p) ls (put_lines at ls) (sym (put_lines_same ls at))

-- ---- inside

item_plain : (w : Value) (is : Items) → IsItemOf w is → ItemsHavePlainTables is → HasPlainTables w
item_plain w (Close g) here h = absurd here
item_plain w (Last g v k) here h = subst HasPlainTables (sym here) h
item_plain w (More g v k is) (inl here) h = subst HasPlainTables (sym here) h.0
item_plain w (More g v k is) (inr here) h = item_plain w is here h.1

pair_plain : (w : Value) (ps : Pairs) → IsPairOf w ps → ArePlainPairs ps → HasPlainTables w
pair_plain w (ClosePairs g) here h = absurd here
pair_plain w (LastPair g a v k) here h = subst HasPlainTables (sym here) h.1
pair_plain w (MorePairs g a v k ps) (inl here) h = subst HasPlainTables (sym here) h.1
pair_plain w (MorePairs g a v k ps) (inr here) h = pair_plain w ps here h.3

inside_plain : (v w : Value) → IsIn w v → HasPlainTables v → HasPlainTables w
inside_plain (Scalar kind p) w here h = absurd here
inside_plain (Array whole is) w here h = item_plain w is here h
inside_plain (Inline whole ps) w here h = pair_plain w ps here h.1

pub inside_of_profile : InsideIsOfProfile
inside_of_profile p v w here h = asked p (inside_plain v w here) h

-- A table that has a header is made by no dotted key.
use Rattle.std.proofs.Common.{◌≡◌, ◌∙◌, ◌⊎◌, inl, inr, ℕ, ◌+◌, ◌<◌, Bool, true, false, ◌||◌, Some, List, [], ◌∷◌, ◌++◌, length, length-append, refl, sym, ap, subst, true≢false, append-nil, arith}
use Rattle.std.specs.Bool.{nat_lt}
use Rattle.std.specs.List.{list_any}
use Rattle.std.specs.Prelude.{Any, IfSome}
use Rattle.std.proofs.lemmas.Bool.{and_parts}
use Rattle.std.proofs.lemmas.Bool.Decides.{nat_tests}
use Rattle.toml_tree.specs.Tree.{Expr, BlankLine, KeyValLine, TableLine, ArrayTableLine, Line}
use Rattle.toml_names.specs.declared.mentions.mention.Role.{Role}
use Rattle.toml_names.specs.declared.mentions.mention.Role.TheVariants.{Passed, Header, Dotted, Valued, Tables, Element, Bare}
use Rattle.toml_names.specs.mentions.Keys.{Key, key_names}
use Rattle.toml_names.specs.mentions.Mentions.{Named, fronts, named, named_by, named_from, root, section}
use Rattle.toml_names.specs.mentions.Rules.{KeepsRules, may_follow}
use Rattle.toml_names.specs.model.Addresses.{Address, IsAbove, below, child, is_above}
use Rattle.toml_names.specs.reader.Names.{is_own, own_address}
use Rattle.toml_names.proofs.Proved.{above_is_above, own_address_is_named}
use Rattle.toml_units.specs.Units.{line_base}
use Rattle.toml_working.specs.declared.lines.Sought.TheVariants as sought
use Rattle.toml_working.specs.Seeing.{AreHeaded, is_dotted, is_sought_line}
use Rattle.toml_working.specs.Standing.{Standing, line_stands, standing, standing_from}
use Rattle.toml_editor.specs.StandingLaws.{HeaderIsAlone}
use Rattle.toml_editor.proofs.written.Clear.{below-cons}
use Rattle.toml_editor.proofs.written.DocumentSections.{IsLineOf, headed_at, line_of}
use Rattle.toml_editor.proofs.written.OneSection.{among_of}
use Rattle.toml_editor.proofs.written.Pairwise.{Goes, Has, PairsAre, from_has, has_append_left, has_append_right, has_of_any, pairs_of_all}

-- what a test of two numbers tells
pub is_less : (m n : ℕ) → nat_lt m n ≡ true → m < n
is_less m n is = grind (arith, nat_tests)

-- two mentions of one address that do not go with each other are not both there
module _ (P Q : Named → Type 0) (one : (e l : Named) → P e → Q l → Goes e l → ⊥) (other : (e l : Named) → Q e → P l → Goes e l → ⊥) (both : (e : Named) → P e → Q e → ⊥) where
  apart : (ms : List Named) → PairsAre Goes ms → Has P ms → Has Q ms → ⊥
  apart [] goes p q = p
  apart (m ∷ ms) goes (inl p) (inl q) = both m p q
  apart (m ∷ ms) goes (inl p) (inr q) = from_has (Goes m) Q ⊥ (λ l g is. one m l p is g) ms goes.0 q
  apart (m ∷ ms) goes (inr p) (inl q) = from_has (Goes m) P ⊥ (λ l g is. other m l q is g) ms goes.0 p
  apart (m ∷ ms) goes (inr p) (inr q) = apart ms goes.1 p q

module _ (q : Address) where
  abbrev IsDotted : Named → Type 0
  IsDotted m = (m.address ≡ q) × (m.role ≡ Dotted)

  abbrev IsOwn : Named → Type 0
  IsOwn m = (m.address ≡ q) × (is_own m.role ≡ true)

  never_goes : (r : Role) → is_own r ≡ true → (may_follow r Dotted ≡ false) × (may_follow Dotted r ≡ false) × ¬ (r ≡ Dotted)
  never_goes Header h = (refl, refl, (λ e. cc))
  never_goes Valued h = (refl, refl, (λ e. cc))
  never_goes Element h = (refl, refl, (λ e. cc))
  never_goes Passed h = cc
  never_goes Dotted h = cc
  never_goes Tables h = cc
  never_goes Bare h = cc

  own_not_dotted : (ms : List Named) → PairsAre Goes ms → Has IsOwn ms → Has IsDotted ms → ⊥
  own_not_dotted =
      apart IsOwn IsDotted
      (λ e l own dotted goes.
      true≢false (sym (subst (λ r. may_follow e.role r ≡ true) dotted.1 (goes (own.0 ∙ sym dotted.0))) ∙ (never_goes e.role own.1).0))
      (λ e l dotted own goes.
      true≢false (sym (subst (λ r. may_follow r l.role ≡ true) dotted.1 (goes (dotted.0 ∙ sym own.0))) ∙ (never_goes l.role own.1).1))
      (λ e own dotted. (never_goes e.role own.1).2 dotted.1)

  -- a front of a key that is longer than the address of its table is named as a dotted key's
  prefix : (s : Address) (n : List ℕ) (rest p : Address) → IsAbove p (child s n ++ rest) → length s < length p → (p ≡ child s n) ⊎ (length (child s n) < length p)
  prefix [] n rest [] above long = absurd (omega (arith, long))
  prefix [] n rest (t ∷ []) (u, more, is) long = inl (let e : ◌≡◌ {A = Address} (t ∷ []) (child [] n) = cc in e)
  prefix [] n rest (t ∷ v ∷ p) above long = inr (omega arith)
  prefix (w ∷ s) n rest [] above long = absurd (omega (arith, long))
  prefix (w ∷ s) n rest (t ∷ p) (u, more, is) long =
      let head : w ≡ t = cc in
      let tail : child s n ++ rest ≡ p ++ u ∷ more = cc in
      elim (prefix s n rest p (u, more, tail) (omega (arith, long))) [
        | inl e ↦ inl (ap (λ x. x ∷ p) (sym head) ∙ ap (λ r. w ∷ r) e)
        | inr low ↦ inr (omega (arith, low))
      ]

  too_short : (p a : Address) → IsAbove p a → length p < length a
  too_short p a (t, rest, is) = let e : length a ≡ length p + length (t ∷ rest) = ap length is ∙ length-append p (t ∷ rest) in omega (arith, e)

  in_fronts : (line : ℕ) (s : Address) (key : Key) → IsAbove q (below s key) → length s < length q → Has IsDotted (fronts line s key)
  in_fronts line s [] above long =
      let short = too_short q (below s []) above in
      let e : length (below s []) ≡ length s = ap length (append-nil s) in absurd (omega (arith, short, e, long))
  in_fronts line s (n ∷ []) above long =
      let short = too_short q (child s n) above in
      let e : length (child s n) ≡ length s + 1 = length-append s _ in absurd (omega (arith, short, e, long))
  in_fronts line s (n ∷ m ∷ more) above long =
      let again : IsAbove q (below (child s n) (m ∷ more)) = subst (IsAbove q) (sym (below-cons s n (m ∷ more))) above in
      elim (prefix s n _ q again long) [
        | inl is ↦ inl (sym is, refl)
        | inr longer ↦ inr (in_fronts line (child s n) (m ∷ more) again longer)
      ]

  -- so it is of a line
  dotted_line : (xs : List Named) (n : ℕ) (l : Line) → is_sought_line sought.Dotted q (line_stands xs l) ≡ true → Has IsDotted (named_by xs n l.expr)
  dotted_line xs n l found = by l.expr refl
    where
      by : (e : Expr) → l.expr ≡ e → Has IsDotted (named_by xs n l.expr)
      by (BlankLine b) is = absurd (true≢false (sym (ap (λ e. is_dotted q (line_base xs e) (own_address xs e)) (sym is) ∙ found)))
      by (TableLine ws header tail) is = absurd (true≢false (sym (ap (λ e. is_dotted q (line_base xs e) (own_address xs e)) (sym is) ∙ found)))
      by (ArrayTableLine ws header tail) is = absurd (true≢false (sym (ap (λ e. is_dotted q (line_base xs e) (own_address xs e)) (sym is) ∙ found)))
      by (KeyValLine ws pair tail) is =
          let there : is_dotted q (Some (length (section xs))) (Some (below (section xs) (key_names pair.assign.key))) ≡ true =
          ap (λ e. is_dotted q (line_base xs e) (own_address xs e)) (sym is) ∙ found in
          let (long, above) = and_parts (nat_lt (length (section xs)) (length q)) (is_above q (below (section xs) (key_names pair.assign.key))) there in
          subst (λ e. Has IsDotted (named_by xs n e)) (sym is)
          (has_append_left IsDotted (fronts n (section xs) (key_names pair.assign.key)) _
          (in_fronts n (section xs) (key_names pair.assign.key) ((above_is_above q _).0 above) (is_less (length (section xs)) (length q) long)))

  dotted_named : (ls : List Line) (xs : List Named) (n : ℕ) → list_any (is_sought_line sought.Dotted q) (standing_from xs n ls) ≡ true → Has IsDotted (named_from xs n ls)
  dotted_named [] xs n there = absurd (true≢false (sym there))
  dotted_named (l ∷ ls) xs n there = by (is_sought_line sought.Dotted q (line_stands xs l)) refl there (λ more. dotted_named ls (xs ++ named_by xs n l.expr) (n + 1) more)
    where
      up : (ms : List Line) (ys : List Named) (k : ℕ) → Has IsDotted ys → Has IsDotted (named_from ys k ms)
      up [] ys k h = h
      up (m ∷ ms) ys k h = up ms (ys ++ named_by ys k m.expr) (k + 1) (has_append_left IsDotted ys (named_by ys k m.expr) h)

      by : (b : Bool) → is_sought_line sought.Dotted q (line_stands xs l) ≡ b
          → (b || list_any (is_sought_line sought.Dotted q) (standing_from (xs ++ named_by xs n l.expr) (n + 1) ls)) ≡ true
          → (list_any (is_sought_line sought.Dotted q) (standing_from (xs ++ named_by xs n l.expr) (n + 1) ls) ≡ true → Has IsDotted (named_from xs n (l ∷ ls)))
          → Has IsDotted (named_from xs n (l ∷ ls))
      by true is h more = up ls (xs ++ named_by xs n l.expr) (n + 1) (has_append_right IsDotted xs (named_by xs n l.expr) (dotted_line xs n l is))
      by false is h more = more h

  -- the header of a table is named as itself
  line_named : (lines : List Line) (front : List Standing) (s : Standing) (back : List Standing) → IsLineOf [] lines front s back → s.address ≡ Some q → Has IsOwn (named lines)
  line_named lines front s back it here =
      let own : own_address (named it.first) it.line.expr ≡ Some q = ap (λ (x : Standing). x.address) (sym it.is) ∙ here in
      let (k, m, low, at, is) = subst (λ o. IfSome o (λ a. Any (λ (x : Named). (x.address ≡ a) × (is_own x.role ≡ true) × (x.line ≡ length it.first)) (named (it.first ++ it.line ∷ it.rest))))
      own (own_address_is_named it.first it.rest it.line) in
      has_of_any IsOwn (named lines) (subst (λ ls. Any IsOwn (named ls)) (sym it.lines_are) (k, m, low, at, (is.0, is.1)))

  header_named : (lines : List Line) → list_any (is_sought_line sought.Header q) (standing lines) ≡ true → Has IsOwn (named lines)
  header_named lines there =
      let among = among_of (is_sought_line sought.Header q) (standing lines) there in
      line_named lines among.front among.line among.back (line_of among.front lines [] among.line among.back among.is)
      (headed_at q among.line.base among.line.address among.holds)

  alone : (lines : List Line) → KeepsRules (named lines) → list_any (is_sought_line sought.Header q) (standing lines) ≡ true → AreHeaded q (standing lines)
  alone lines keeps there = record {
    header = there;
    no_dotted = by (list_any (is_sought_line sought.Dotted q) (standing lines)) refl;
  }
    where
      by : (b : Bool) → list_any (is_sought_line sought.Dotted q) (standing lines) ≡ b → b ≡ false
      by false is = refl
      by true is = absurd (own_not_dotted (named lines) (pairs_of_all Goes (named lines) keeps) (header_named lines there) (dotted_named lines (root ∷ []) 0 is))

pub header_is_alone : HeaderIsAlone
header_is_alone q lines keeps there = alone q lines keeps there

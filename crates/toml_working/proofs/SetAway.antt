-- A `set` at an address leaves the values and the lines that do not hold what stands there; of lines that stand alone it changes one at most.
use Rattle.std.proofs.Common.{◌≡◌, ◌∙◌, ℕ, Bool, true, false, ◌&&◌, ◌||◌, ◌⊎◌, inl, inr, List, [], ◌∷◌, ◌++◌, map, Option, Some, None, All, refl, ap, ap₂, sym, subst}
use Rattle.std.specs.List.{list_any}
use Rattle.std.proofs.Math.Bool.{or-false}
use Rattle.std.proofs.lemmas.Bool.{and_parts}
use Rattle.std.proofs.lemmas.List.{map-append}
use Rattle.std.proofs.lemmas.List.Folds.{list_any-append}
use Rattle.toml_names.proofs.Proved.{same_step-equal}
use Rattle.toml_names.specs.model.Addresses.{Address, same_step}
use Rattle.toml_tree.specs.Spells.{EachIs}
use Rattle.toml_layout.specs.Outlines as outline
use Rattle.toml_layout.specs.Outlines.{ValueOutline, ExprOutline, LineOutline}
use Rattle.toml_layout.specs.SetOutlines.{set_outline}
use Rattle.toml_working.specs.Standing.{Standing, StandAlone, IsApart, leads_to, covers_at, covers, lies_below, holds, with_value_outline, set_outline_of, set_standing, expr_has, outline_has, has}
use Rattle.toml_layout.specs.Beginnings.{begins}
use Rattle.toml_working.proofs.Each.{each_back}
use Rattle.toml_layout.proofs.Proved.{set_aside}
use Rattle.toml_working.proofs.Pairwise.{PairsAre, pairs_of_all, each_of_all}

-- a line that does not hold what stands there
away_expr : (p : Address) (new : ValueOutline) (at : Address) (e : ExprOutline) → begins at p ≡ false
    → (with_value_outline (set_outline p new at) e ≡ e) × (expr_has p at e ≡ false)
away_expr p new at outline.Nothing h = (refl, refl)
away_expr p new at (outline.Pair a v) h = let (sets, has) = set_aside p new at v h in (ap (outline.Pair a) sets, has)
away_expr p new at (outline.Header opening before first rest after closing) h = (refl, refl)

away_line : (p : Address) (new : ValueOutline) (base : Option ℕ) (own : Option Address) (l : LineOutline) → leads_to p base own ≡ false
    → (set_outline_of p new base own l ≡ l) × (outline_has p base own l.expr ≡ false)
away_line p new None own l h = (refl, refl)
away_line p new (Some n) None l h = (refl, refl)
away_line p new (Some n) (Some a) l h = let inner = away_expr p new a l.expr h in (ap (λ e. record l { expr = e }) inner.0, inner.1)

or_parts : (a b : Bool) → (a || b) ≡ false → (a ≡ false) × (b ≡ false)
or_parts true b h = cc
or_parts false b h = (refl, h)

-- lines of which none does
pub away_lines : (p : Address) (new : ValueOutline) (ss : List Standing) → list_any (holds p) ss ≡ false → (map (set_standing p new) ss ≡ ss) × (list_any (has p) ss ≡ false)
away_lines p new [] h = (refl, refl)
away_lines p new (s ∷ ss) h =
    let parts = or_parts (holds p s) (list_any (holds p) ss) h in
    let here = away_line p new s.base s.address s.outline parts.0 in
    let later = away_lines p new ss parts.1 in (
      ap₂ (λ l ls. record { address = s.address; base = s.base; outline = l } ∷ ls) here.0 later.0,
      ap (λ b. b || list_any (has p) ss) here.1 ∙ later.1,
    )

-- two beginnings of one address: one of them is a beginning of the other
begins_either : (a b p : Address) → begins a p ≡ true → begins b p ≡ true → (begins a b ≡ true) ⊎ (begins b a ≡ true)
begins_either [] b p h k = inl refl
begins_either (s ∷ a) [] p h k = inr refl
begins_either (s ∷ a) (t ∷ b) [] h k = cc
begins_either (s ∷ a) (t ∷ b) (u ∷ p) h k =
    let one = and_parts (same_step s u) (begins a p) h in
    let two = and_parts (same_step t u) (begins b p) k in
    let e = same_step-equal s u one.0 in
    let f = same_step-equal t u two.0 in
    let st : same_step s t ≡ true = subst (λ x. same_step s x ≡ true) (sym f) one.0 in
    let ts : same_step t s ≡ true = subst (λ x. same_step t x ≡ true) (sym e) two.0 in
    elim (begins_either a b p one.1 two.1) [
      | inl x ↦ inl (ap (λ r. r && begins a b) st ∙ x)
      | inr x ↦ inr (ap (λ r. r && begins b a) ts ∙ x)
    ]

-- a line that holds what stands there, and another that stands apart from it
one_holds : (p : Address) (base other_base : Option ℕ) (own other : Option Address) (s t : Standing) → s.address ≡ own → t.address ≡ other → leads_to p base own ≡ true
    → covers_at base own t ≡ false → covers_at other_base other s ≡ false → leads_to p other_base other ≡ false
one_holds p base None own other s t here there h k l = refl
one_holds p base (Some m) own None s t here there h k l = refl
one_holds p None (Some m) own (Some b) s t here there h k l = cc
one_holds p (Some n) (Some m) None (Some b) s t here there h k l = cc
one_holds p (Some n) (Some m) (Some a) (Some b) s t here there h k l = by (begins b p) refl
  where
    by : (x : Bool) → begins b p ≡ x → begins b p ≡ false
    by false e = e
    by true e = elim (begins_either a b p h e) [
      | inl x ↦ let below : lies_below a (Some b) ≡ false = subst (λ o. lies_below a o ≡ false) there k in cc
      | inr x ↦ let below : lies_below b (Some a) ≡ false = subst (λ o. lies_below b o ≡ false) here l in cc
    ]

abbrev Apart : Standing → Standing → Type 0
Apart s t = (covers s t ≡ false) × (covers t s ≡ false)

others_behind : (p : Address) (s : Standing) (ts : List Standing) → holds p s ≡ true → EachIs (Apart s) ts → list_any (holds p) ts ≡ false
others_behind p s [] h k = refl
others_behind p s (t ∷ ts) h k =
    ap (λ b. b || list_any (holds p) ts) (one_holds p s.base t.base s.address t.address s t refl refl h k.0.0 k.0.1) ∙ others_behind p s ts h k.1

pub others_before : (p : Address) (front : List Standing) (s : Standing) (back : List Standing) → holds p s ≡ true → PairsAre Apart (front ++ s ∷ back)
    → (list_any (holds p) front ≡ false) × (list_any (holds p) back ≡ false)
others_before p [] s back h k = (refl, others_behind p s back h k.0)
others_before p (t ∷ front) s back h k =
    let here = each_back (Apart t) front (s ∷ back) k.0 in
    let later = others_before p front s back h k.1 in
    (ap (λ b. b || list_any (holds p) front) (one_holds p s.base t.base s.address t.address s t refl refl h here.0.1 here.0.0) ∙ later.0, later.1)

-- the line that holds it is changed, and no other
pub one_is_set : (p : Address) (new : ValueOutline) (front : List Standing) (s : Standing) (back : List Standing) → holds p s ≡ true → StandAlone (front ++ s ∷ back)
    → (map (set_standing p new) (front ++ s ∷ back) ≡ front ++ set_standing p new s ∷ back) × (list_any (has p) (front ++ s ∷ back) ≡ has p s)
one_is_set p new front s back h alone =
    let others = others_before p front s back h (pairs_of_all Apart (front ++ s ∷ back) alone) in
    let before = away_lines p new front others.0 in
    let behind = away_lines p new back others.1 in (
      map-append (set_standing p new) front (s ∷ back) ∙ ap₂ (λ xs ys. xs ++ set_standing p new s ∷ ys) before.0 behind.0,
      list_any-append (has p) front (s ∷ back) ∙ ap₂ (λ a b. a || (has p s || b)) before.1 behind.1 ∙ or-false (has p s),
    )

pub one_is_apart : (front : List Standing) (s : Standing) (back : List Standing) → All (λ (t : Standing). IsApart t.outline.expr) (front ++ s ∷ back) → IsApart s.outline.expr
one_is_apart front s back h = (each_back (λ (t : Standing). IsApart t.outline.expr) front (s ∷ back) (each_of_all (λ (t : Standing). IsApart t.outline.expr) (front ++ s ∷ back) h)).0

-- What a profile asks of a tree. `Spells` is the grammar of profile 2, and a tree of profile 1 is one of profile 2 whose
-- inline tables are plain. So the profile is a property of the tree, and no second grammar: what holds of each tree that
-- spells a text holds in either profile.
use Rattle.std.specs.Prelude.{◌≡◌, ℕ, List, []}
use Rattle.toml_tree.specs.Spells.{EachIs, Spells, SpellsValue}
use Rattle.toml_tree.specs.Tree.{Gap, Value, Scalar, Array, Inline, Items, Close, Last, More, Pairs, ClosePairs, LastPair, MorePairs, Expr, BlankLine, KeyValLine, TableLine, ArrayTableLine, Line, Doc}
use Rattle.toml_tree.specs.declared.profile.Profile.{Profile}
use Rattle.toml_tree.specs.declared.profile.Profile.TheVariants.{One, Two}

-- whitespace alone
abbrev pub IsPlainGap : Gap → Type 0
IsPlainGap g = g.lines ≡ []

abbrev pub HasPair : Pairs → Type 0
HasPair (ClosePairs g) = ⊥
HasPair (LastPair g a v h) = Unit {0}
HasPair (MorePairs g a v h ps) = Unit {0}

-- behind each comma stands a pair
abbrev pub HasNoLastComma : Pairs → Type 0
HasNoLastComma (ClosePairs g) = Unit {0}
HasNoLastComma (LastPair g a v h) = Unit {0}
HasNoLastComma (MorePairs g a v h ps) = HasPair ps × HasNoLastComma ps

-- TOML v1.0.0, Inline Table: each inline table, at any depth, has no newline but inside its values, no comment beside its
-- pairs, and no comma behind the last pair
abbrev mutual
  pub HasPlainTables : Value → Type 0
  HasPlainTables (Scalar kind p) = Unit {0}
  HasPlainTables (Array whole items) = ItemsHavePlainTables items
  HasPlainTables (Inline whole pairs) = HasNoLastComma pairs × ArePlainPairs pairs

  pub ItemsHavePlainTables : Items → Type 0
  ItemsHavePlainTables (Close g) = Unit {0}
  ItemsHavePlainTables (Last g v h) = HasPlainTables v
  ItemsHavePlainTables (More g v h is) = HasPlainTables v × ItemsHavePlainTables is

  pub ArePlainPairs : Pairs → Type 0
  ArePlainPairs (ClosePairs g) = IsPlainGap g
  ArePlainPairs (LastPair g a v h) = IsPlainGap g × HasPlainTables v × IsPlainGap h
  ArePlainPairs (MorePairs g a v h ps) = IsPlainGap g × HasPlainTables v × IsPlainGap h × ArePlainPairs ps

abbrev pub ExprHasPlainTables : Expr → Type 0
ExprHasPlainTables (BlankLine b) = Unit {0}
ExprHasPlainTables (KeyValLine ws k b) = HasPlainTables k.value
ExprHasPlainTables (TableLine ws h b) = Unit {0}
ExprHasPlainTables (ArrayTableLine ws h b) = Unit {0}

-- what profile 1 asks, and profile 2 doesn't
abbrev pub Asks : Profile → Type 0 → Type 0
Asks One A = A
Asks Two A = Unit {0}

-- a value, an expression, lines and a document of the profile
abbrev pub IsValueOfProfile : Profile → Value → Type 0
IsValueOfProfile profile v = Asks profile (HasPlainTables v)

abbrev pub IsExprOfProfile : Profile → Expr → Type 0
IsExprOfProfile profile e = Asks profile (ExprHasPlainTables e)

abbrev pub AreLinesOfProfile : Profile → List Line → Type 0
AreLinesOfProfile profile lines = Asks profile (EachIs (λ l. ExprHasPlainTables l.expr) lines)

abbrev pub IsOfProfile : Profile → Doc → Type 0
IsOfProfile profile d = AreLinesOfProfile profile d.lines

-- the tree spells the text in the profile
abbrev pub SpellsIn : Profile → Doc → List ℕ → Type 0
SpellsIn profile d text = Spells d text × IsOfProfile profile d

-- the text is the value in the profile
abbrev pub IsValueIn : Profile → Value → List ℕ → Type 0
IsValueIn profile v text = SpellsValue v 0 text × IsValueOfProfile profile v

-- no tree spells the text
abbrev pub SpelledByNone : Profile → List ℕ → Type 0
SpelledByNone profile text = (d : Doc) → ¬ SpellsIn profile d text

-- the text is no value
abbrev pub IsNoValue : Profile → List ℕ → Type 0
IsNoValue profile text = (v : Value) → ¬ IsValueIn profile v text

-- Laws: what spells a text in profile 1 spells it in profile 2
abbrev pub OneIsInTwo : Type 0
OneIsInTwo = (d : Doc) (text : List ℕ) → SpellsIn One d text → SpellsIn Two d text

-- in either profile a text has at most one tree
abbrev pub OneTreeIn : Type 0
OneTreeIn = (profile : Profile) (d e : Doc) (text : List ℕ) → SpellsIn profile d text → SpellsIn profile e text → d ≡ e

-- Laws: what the definitions of the tree give those who build on them.
use Rattle.std.specs.Prelude.{◌≡◌, ◌⊎◌, ◌≤◌, ℕ, zero, suc, List, [], length, Some}
use Rattle.toml_tree.specs.Profiles.{SpellsIn, IsValueOfProfile}
use Rattle.toml_tree.specs.Reading.{Cursor, ahead}
use Rattle.toml_tree.specs.ReadingLines.{document_at}
use Rattle.toml_tree.specs.ReadingValues.{value_at}
use Rattle.toml_tree.specs.Spells.{depth, max_depth, Spells, SpellsValue, SpellsKeyVal, SpellsExpr}
use Rattle.toml_tree.specs.Tree.{Value, Scalar, Array, Inline, Items, Close, Last, More, Pairs, ClosePairs, LastPair, MorePairs, KeyVal, Expr, Doc}
use Rattle.toml_tree.specs.declared.profile.Profile.{Profile}

-- a text has at most one tree
abbrev pub OneTree : Type 0
OneTree = (d e : Doc) (text : List ℕ) → Spells d text → Spells e text → d ≡ e

-- a text is at most one value
abbrev pub OneValue : Type 0
OneValue = (v w : Value) (at : ℕ) (text : List ℕ) → SpellsValue v at text → SpellsValue w at text → v ≡ w

-- a text is at most one pair
abbrev pub OneKeyVal : Type 0
OneKeyVal = (k l : KeyVal) (at : ℕ) (text : List ℕ) → SpellsKeyVal k at text → SpellsKeyVal l at text → k ≡ l

-- a text is at most one expression
abbrev pub OneExpr : Type 0
OneExpr = (e f : Expr) (at : ℕ) (text : List ℕ) → SpellsExpr e at text → SpellsExpr f at text → e ≡ f

-- the plain reader of a profile reads the tree that spells the text in it, and reads each tree that spells one
abbrev pub ReaderIsSound : Type 0
ReaderIsSound = (profile : Profile) (text : List ℕ) (d : Doc) → document_at profile text ≡ Some d → SpellsIn profile d text

abbrev pub ReaderIsComplete : Type 0
ReaderIsComplete = (profile : Profile) (text : List ℕ) (d : Doc) → SpellsIn profile d text → document_at profile text ≡ Some d

-- the same of a text that is one value
abbrev pub ValueReaderIsSound : Type 0
ValueReaderIsSound = (profile : Profile) (v : Value) (c d : Cursor) → value_at profile max_depth c ≡ Some (v, d) → d.rest ≡ [] → SpellsValue v c.at c.rest × IsValueOfProfile profile v

abbrev pub ValueReaderIsComplete : Type 0
ValueReaderIsComplete = (profile : Profile) (v : Value) (c : Cursor) → SpellsValue v c.at c.rest → IsValueOfProfile profile v → value_at profile max_depth c ≡ Some (v, ahead (length c.rest) c)

-- a value stands in another: in an array, or as the value of a pair of an inline table
abbrev pub IsItemOf : Value → Items → Type 0
IsItemOf v (Close g) = ⊥
IsItemOf v (Last g w h) = v ≡ w
IsItemOf v (More g w h is) = (v ≡ w) ⊎ IsItemOf v is

abbrev pub IsPairOf : Value → Pairs → Type 0
IsPairOf v (ClosePairs g) = ⊥
IsPairOf v (LastPair g a w h) = v ≡ w
IsPairOf v (MorePairs g a w h ps) = (v ≡ w) ⊎ IsPairOf v ps

abbrev pub IsIn : Value → Value → Type 0
IsIn v (Scalar kind p) = ⊥
IsIn v (Array whole is) = IsItemOf v is
IsIn v (Inline whole ps) = IsPairOf v ps

-- what stands in a value of a profile is of it
abbrev pub InsideIsOfProfile : Type 0
InsideIsOfProfile = (profile : Profile) (v w : Value) → IsIn w v → IsValueOfProfile profile v → IsValueOfProfile profile w

-- values stand in one another, so many deep, this one being the outermost
abbrev pub Nests : ℕ → Value → Type 0
Nests zero v = Unit {0}
Nests (suc zero) v = Unit {0}
Nests (suc (suc n)) v = (w : Value) × IsIn w v × Nests (suc n) w

-- the depth of a value is how deep values nest in it
abbrev pub DepthIsNesting : Type 0
DepthIsNesting = (v : Value) (n : ℕ) → (Nests n v → n ≤ depth v) × (n ≤ depth v → Nests n v)

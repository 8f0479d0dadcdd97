-- Of what was named before, a line sees the table of the last header, and how many tables the arrays of tables have.
use Rattle.std.specs.Prelude.{◌≡◌, ◌+◌, ◌++◌, ℕ, List}
use Rattle.toml_tree.specs.Tree.{Assign, Value, Expr}
use Rattle.toml_names.specs.model.Addresses.{Address}
use Rattle.toml_names.specs.mentions.Mentions.{Named, named_by, pair_named, section, section_from, count_tables}

-- the last header's table is the same, and each array of tables has as many
pub record AreAlike (xs ys : List Named) : Type 0 where
  pub sections : section xs ≡ section ys
  pub counts : (at : Address) → count_tables xs at ≡ count_tables ys at

-- Laws: the last header's table and the counts go on where a list before stopped.
abbrev pub SectionGoesOn : Type 0
SectionGoesOn = (xs ys : List Named) (at : Address) → section_from at (xs ++ ys) ≡ section_from (section_from at xs) ys

abbrev pub CountsAdd : Type 0
CountsAdd = (xs ys : List Named) (at : Address) → count_tables (xs ++ ys) at ≡ count_tables xs at + count_tables ys at

-- Behind lists that are alike so a line names the same;
abbrev pub AlikeNameTheSame : Type 0
AlikeNameTheSame = (xs ys : List Named) → AreAlike xs ys → (line : ℕ) (e : Expr) → named_by xs line e ≡ named_by ys line e

-- they stay alike once the same is named behind both;
abbrev pub AlikeStayAlike : Type 0
AlikeStayAlike = (xs ys new : List Named) → AreAlike xs ys → AreAlike (xs ++ new) (ys ++ new)

-- and what a pair names leaves a list as it was.
abbrev pub PairsLeaveAlike : Type 0
PairsLeaveAlike = (ms : List Named) (line : ℕ) (at : Address) (a : Assign) (v : Value) → AreAlike (ms ++ pair_named line at a v) ms

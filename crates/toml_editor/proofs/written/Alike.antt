-- What was named before a line: what the line sees of it.
use Rattle.std.proofs.Common.{◌≡◌, ℕ, ◌+◌, cond, List, [], ◌∷◌, ◌++◌, sym, refl, ◌∙◌}
use Rattle.std.proofs.lemmas.List.Sums.{sum_by-cons}
use Rattle.toml_tree.specs.Spells.{EachIs}
use Rattle.toml_tree.specs.Tree.{Assign, Value, Line}
use Rattle.toml_names.specs.mentions.Alike.{AreAlike}
use Rattle.toml_names.specs.mentions.Mentions.{Named, named_by, named_from, pair_named, section, is_tables_at, count_tables}
use Rattle.toml_names.specs.model.Addresses.{Address}
use Rattle.toml_names.proofs.Proved.{pairs_leave_alike}
use Rattle.toml_editor.proofs.Each.{each_front}
use Rattle.toml_editor.proofs.written.Pairwise.{PairsAre, pairs_front}

pub alike_self : (xs : List Named) → AreAlike xs xs
alike_self xs = record { sections = refl; counts = λ at. refl }

pub alike_trans : (xs ys zs : List Named) → AreAlike xs ys → AreAlike ys zs → AreAlike xs zs
alike_trans xs ys zs a b = record { sections = a.sections ∙ b.sections; counts = λ at. a.counts at ∙ b.counts at }

pub alike_sym : (xs ys : List Named) → AreAlike xs ys → AreAlike ys xs
alike_sym xs ys a = record { sections = sym a.sections; counts = λ at. sym (a.counts at) }

-- a pair leaves the table of the last header
pub section_pair : (xs : List Named) (line : ℕ) (at : Address) (a : Assign) (v : Value) → section (xs ++ pair_named line at a v) ≡ section xs
section_pair xs line at a v = (pairs_leave_alike xs line at a v).sections

module _ (xs ys : List Named) (alike : AreAlike xs ys) where
  -- a pair is named behind the second alone
  pub alike_pair : (line : ℕ) (at : Address) (a : Assign) (v : Value) → AreAlike xs (ys ++ pair_named line at a v)
  alike_pair line at a v = alike_trans xs ys (ys ++ pair_named line at a v) alike (alike_sym (ys ++ pair_named line at a v) ys (pairs_leave_alike ys line at a v))

  -- a pair is named behind each
  pub alike_pairs : (line other : ℕ) (at there : Address) (a b : Assign) (v w : Value) → AreAlike (xs ++ pair_named line at a v) (ys ++ pair_named other there b w)
  alike_pairs line other at there a b v w = alike_trans (xs ++ pair_named line at a v) xs (ys ++ pair_named other there b w) (pairs_leave_alike xs line at a v) (alike_pair other there b w)

-- one table more, if the thing is an array of tables at the address
abbrev pub adds : Address → Named → ℕ
adds at m = cond (is_tables_at at m) 1 0

pub count_cons : (m : Named) (ms : List Named) (at : Address) → count_tables (m ∷ ms) at ≡ adds at m + count_tables ms at
count_cons m ms at = sum_by-cons (adds at) m ms

-- what holds of all that was named holds of what was named before some lines
pub each_from : (P : Named → Type 0) (ls : List Line) (xs : List Named) (n : ℕ) → EachIs P (named_from xs n ls) → EachIs P xs
each_from P [] xs n h = h
each_from P (l ∷ ls) xs n h = each_front P xs (named_by xs n l.expr) (each_from P ls (xs ++ named_by xs n l.expr) (n + 1) h)

-- and so of every two
pub pairs_from : (R : Named → Named → Type 0) (ls : List Line) (xs : List Named) (n : ℕ) → PairsAre R (named_from xs n ls) → PairsAre R xs
pairs_from R [] xs n h = h
pairs_from R (l ∷ ls) xs n h = pairs_front R xs (named_by xs n l.expr) (pairs_from R ls (xs ++ named_by xs n l.expr) (n + 1) h)

-- Addresses of what stands in pairs and under headers, clear of the address of an edit.
use Rattle.std.proofs.Common.{ℕ, List, [], ◌∷◌, map, sym, subst}
use Rattle.toml_tree.specs.Tree.{Assign, Value}
use Rattle.toml_names.specs.declared.mentions.mention.Role.TheVariants.{Valued}
use Rattle.toml_names.specs.mentions.Clear.{AreClear, AreValuesAt, IsClear}
use Rattle.toml_names.specs.mentions.Inside.{shifted}
use Rattle.toml_names.specs.mentions.Keys.{Key, key_names, part_name, rest_names}
use Rattle.toml_names.specs.mentions.Mentions.{Named, entered, followed, fronts, value_named, pair_named}
use Rattle.toml_names.specs.mentions.Mentions as mentions
use Rattle.toml_names.specs.model.Addresses.{Address, IsAbove, child, below}
use Rattle.toml_names.proofs.Proved.{inside_moves}
use Rattle.toml_names.specs.reader.Names.{header_end}
use Rattle.toml_editor.proofs.Each.{each_front, each_back}
use Rattle.toml_editor.proofs.written.SetNamed.{end_not_above}

values_map : (p : Address) (ms : List Named) → AreValuesAt p ms → AreValuesAt p (map (shifted 0 []) ms)
values_map p [] values = tt
values_map p (m ∷ ms) values = (values.0, values_map p ms values.1)

module _ (p : Address) (new : Value) where
  -- the value of a pair is not below the address
  pub pair_end : (a : Assign) (v : Value) (at : Address) → IsClear p at → AreValuesAt p (pair_named 0 at a v)
      → ¬ IsAbove p (below at (key_names a.key))
  pair_end a v at clear values =
      let to = below at (key_names a.key) in
      end_not_above p new 0 (rest_names a.key.rest) (part_name a.key.first) at clear
      (each_front _ (fronts 0 at (key_names a.key)) (value_named 0 Valued to v ∷ mentions.inside 0 to v) values)

  -- where all that a pair names is a value's at the address, so is what is named in its value
  pub pair_rest : (a : Assign) (v : Value) (at : Address) → AreValuesAt p (pair_named 0 at a v)
      → AreValuesAt p (mentions.inside 0 (below at (key_names a.key)) v)
  pair_rest a v at values =
      let to = below at (key_names a.key) in
      (each_back _ (fronts 0 at (key_names a.key)) (value_named 0 Valued to v ∷ mentions.inside 0 to v) values).1

  -- what a value names is at the same addresses, in the same roles, whatever its line
  pub plain_values : (n : ℕ) (to : Address) (v : Value) → AreValuesAt p (mentions.inside n to v) → AreValuesAt p (mentions.inside 0 to v)
  plain_values n to v values = subst (AreValuesAt p) (sym (inside_moves 0 n v [] to)) (values_map p (mentions.inside n to v) values)

  -- what a header's key leads to is clear where all its parts are
  pub end_clear : (ns : Key) (n : List ℕ) (line : ℕ) (xs : List Named) (e : Address → List Named) (at : Address)
      → AreClear p (followed line xs e at (n ∷ ns)) → AreClear p (e (header_end xs at (n ∷ ns)))
  end_clear [] n line xs e at all = all
  end_clear (m ∷ ns) n line xs e at all = end_clear ns m line xs e (entered xs (child at n)) all.1

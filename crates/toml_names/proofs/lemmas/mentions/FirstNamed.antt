-- The first thing named: a value at the root, or the root itself.
use Rattle.toml_names.proofs.Common.{◌≡◌, false, [], ◌∷◌, ◌++◌, length, None, sym, ap, ◌∙◌, arith, rules, none-some, Step, Name, Address, fact_at, ValuesJoin, Named, is_tables, count_tables, root}
use Rattle.toml_names.proofs.lemmas.mentions.Adding.{after_first}
use Rattle.toml_names.proofs.lemmas.mentions.Counting.{count_plain}
use Rattle.toml_names.proofs.lemmas.mentions.FactAt.{fact_here, fact_later}
use Rattle.toml_names.proofs.lemmas.mentions.Growing.{IsGrown, IsSuited}
use Rattle.toml_names.proofs.lemmas.mentions.InsideJoins.{suited_value, inside_puts}
use Rattle.toml_names.proofs.lemmas.model.Equal.{one_longer}
use Rattle.toml_names.proofs.lemmas.mentions.Offences.{misfit-from_KeepsRules}

below_root : (at : Address) (s : Step) → ¬ ([] ≡ at ++ s ∷ [])
below_root at s same = let none : 0 ≡ length (at ++ s ∷ []) = ap length same in omega (arith, one_longer at s)

pub suited_root : IsSuited root
suited_root = record { kind = λ k h. absurd (none-some k h); bare = λ _ at n. below_root at (Name n) }

module _ (m : Named) (is : m.address ≡ []) (suited : IsSuited m) (plain : is_tables m.role ≡ false) where
  no_table : (at : Address) → count_tables (m ∷ []) at ≡ 0
  no_table at = count_plain [] m at plain

  nothing_below : (at : Address) (s : Step) → fact_at (m ∷ []) (at ++ s ∷ []) ≡ None
  nothing_below at s = fact_later m [] (at ++ s ∷ []) (λ same. below_root at s (sym is ∙ same))

  pub IsGrown-first : IsGrown (m ∷ [])
  IsGrown-first = search rules

pub values_join : ValuesJoin
values_join = search (rules, suited_value, after_first, misfit-from_KeepsRules, inside_puts, IsGrown-first, fact_here, nothing_below, no_table)

-- What a text's tree reads as, the text reads as.
use Rattle.std.proofs.Common.{◌≡◌, ℕ, List, subst, refl}
use Rattle.toml_text.specs.Limit.{IsText}
use Rattle.toml_tree.specs.Profiles.{IsValueOfProfile}
use Rattle.toml_tree.specs.Spells.{SpellsValue}
use Rattle.toml_tree.specs.Tree.{Value}
use Rattle.toml_tree.proofs.Proved.{one_value}
use Rattle.toml_tree.specs.declared.profile.Profile.{Profile}
use Rattle.toml_names.specs.mentions.Mentions.{value_facts}
use Rattle.toml_names.specs.mentions.Rules.{KeepsRules}
use Rattle.toml_edits.specs.declared.value.Reading.{Reading}
use Rattle.toml_edits.specs.declared.value.Reading.TheVariants.{Good, Bad, Long}
use Rattle.toml_edits.specs.Readings.{IsReading, IsTreeReading}
use Rattle.toml_edits.specs.ValueTexts.{IsValueText, IsBadValue}

abbrev whole : (profile : Profile) (text : List ℕ) (v : Value) → IsText text → SpellsValue v 0 text → IsValueOfProfile profile v → KeepsRules (value_facts v) → IsValueText profile text
whole profile text v within spelled of keeps = record { within = within; tree = v; is_value = (spelled, of); keeps = keeps }

pub tree_read : (profile : Profile) (text : List ℕ) (v : Value) (r : Reading) → IsText text → SpellsValue v 0 text → IsValueOfProfile profile v → IsTreeReading v r → IsReading profile text r
tree_read profile text v (Good d) within spelled of h = record { value = whole profile text v within spelled of h.0; short = h.1; facts = h.2 }
tree_read profile text v Bad within spelled of h = λ w. h (subst (λ u. KeepsRules (value_facts u)) (one_value w.tree v 0 text w.is_value.0 spelled) w.keeps)
tree_read profile text v Long within spelled of h = record { value = whole profile text v within spelled of h.0; long = h.1 }

pub one_if_not_bad : (profile : Profile) (text : List ℕ) (r : Reading) → IsReading profile text r → ¬ (r ≡ Bad) → ¬ IsBadValue profile text
one_if_not_bad profile text (Good d) reads not bad = bad reads.value
one_if_not_bad profile text Bad reads not bad = not refl
one_if_not_bad profile text Long reads not bad = bad reads.value

-- The rules, the bound on addresses and the data do not see the numbers of lines.
use Rattle.std.proofs.Common.{◌↔◌, List, refl}
use Rattle.toml_tree.specs.Spells.{EachIs}
use Rattle.toml_tree.specs.Tree.{Line}
use Rattle.toml_names.specs.mentions.Mentions.{Named, named}
use Rattle.toml_names.specs.mentions.Rules.{KeepsRules, IsShort}
use Rattle.toml_names.proofs.Proved.{moved_keep_rules}
use Rattle.toml_editor.specs.Blocks.{unnumbered, named_plain}
use Rattle.toml_editor.proofs.Each.{each_map, map_each}
use Rattle.toml_editor.proofs.written.Deep.{AllShort}
use Rattle.toml_editor.proofs.written.Pairwise.{PairsAre, each_of_all, all_of_each, pairs_map, Has, has_map, map_has}

module _ (lines : List Line) where
  pub pairs_plain : (R : Named → Named → Type 0) → ((x y : Named) → R x y → R (unnumbered x) (unnumbered y)) → PairsAre R (named lines) → PairsAre R (named_plain lines)
  pairs_plain R w h = pairs_map R R unnumbered w (named lines) h

  pub rules_plain : KeepsRules (named lines) ↔ KeepsRules (named_plain lines)
  rules_plain = moved_keep_rules unnumbered (named lines) (λ m. refl) (λ i j d low high. (λ same. same, λ same. same))

  pub short_plain : IsShort (named lines) → AllShort (named_plain lines)
  short_plain short = each_map _ unnumbered (named lines) (each_of_all _ (named lines) short)

  pub plain_short : AllShort (named_plain lines) → IsShort (named lines)
  plain_short short = all_of_each _ (named lines) (map_each _ unnumbered (named lines) short)

  pub each_plain : (P : Named → Type 0) → EachIs (λ m. P (unnumbered m)) (named lines) → EachIs P (named_plain lines)
  each_plain P h = each_map P unnumbered (named lines) h

  pub has_plain : (P : Named → Type 0) → Has (λ m. P (unnumbered m)) (named lines) → Has P (named_plain lines)
  has_plain P h = has_map P unnumbered (named lines) h

  pub plain_has : (P : Named → Type 0) → Has P (named_plain lines) → Has (λ m. P (unnumbered m)) (named lines)
  plain_has P h = map_has P unnumbered (named lines) h

-- Keys that are cut.
use Rattle.std.proofs.Common.{◌≡◌, ◌-◌, ◌∙◌, ℕ, List, map, take, ap, sym}
use Rattle.std.proofs.lemmas.List.{take-map}
use Rattle.toml_layout.specs.declared.tree.Dotted.{Dotted}
use Rattle.toml_layout.specs.Emptying.{rest_cut}
use Rattle.toml_layout.specs.OpenOutlines.{dotted}

-- the parts behind the first one, by those that the working tree has there
pub rest_left : (parts : ℕ) (old new : List Dotted) → new ≡ take (parts - 1) old → map dotted new ≡ rest_cut parts (map dotted old)
rest_left parts old new is = ap (map dotted) is ∙ sym (take-map dotted (parts - 1) old)

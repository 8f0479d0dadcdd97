-- The line that tells a refusal.
use Rattle.std.specs.Prelude.{ℕ, List, [], ◌∷◌, ◌++◌, codes}
use Rattle.std.specs.Fmt.{decimal}
use Rattle.toml_delivery.specs.declared.refusal.Refusal.{Refusal}

-- `refused CODE PLACE` and LF
abbrev pub refusal_line : Refusal → List ℕ
refusal_line r = codes "refused " ++ (decimal r.code ++ (0x20 ∷ (decimal r.place ++ 0x0A ∷ [])))

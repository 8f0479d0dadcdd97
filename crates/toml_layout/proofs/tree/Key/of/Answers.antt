use Rattle.std.proofs.Common.{◌≡◌, ◌∙◌, ◌+◌, ◌++◌, ◌∷◌, [], ◌<◌, ℕ, List, ap, length, get_or, map, refl, string_bytes, subst, sym, take}
use Rattle.std.proofs.lemmas.List.{map-append, take_more, take_all}
use Rattle.std.specs.declared.alloc.Global.{Global}
use Rattle.std.specs.declared.string.String.{String}
use Rattle.toml_layout.specs.NewKeys.{HasParts, bare_part}
use Rattle.toml_layout.specs.OpenOutlines.{dotted, leaf_text}
use Rattle.toml_layout.proofs.tree.Key.of.Goals as goal

-- one part more
taken_on : (xs : List (String Global)) (i : ℕ) (x : String Global) → i < length xs → x ≡ get_or xs i x
    → map bare_part (map string_bytes (take (i + 1) xs)) ≡ map bare_part (map string_bytes (take i xs)) ++ bare_part (string_bytes x) ∷ []
taken_on xs i x low is =
    ap (λ ys. map bare_part (map string_bytes ys)) (take_more xs i x low ∙ ap (λ y. take i xs ++ y ∷ []) (sym is))
    ∙ ap (map bare_part) (map-append string_bytes (take i xs) (x ∷ [])) ∙ map-append bare_part (map string_bytes (take i xs)) (string_bytes x ∷ [])

pub loop-part-init : goal.loop-part-init
loop-part-init c = (refl, ap (map dotted) c.new.ensures.items)

pub loop-part-preserved : goal.loop-part-preserved
loop-part-preserved c = (
  c.in_ok-add.ensures.first ∙ c.loop-part.invariant.0,
  c.in_ok-add.ensures.part ∙ ap (λ ds. ds ++ bare_part c.as_str-in-loop-part.result.now ∷ []) c.loop-part.invariant.1
      ∙ ap (λ t. map bare_part (map string_bytes (take c.loop-part.part-index c.in-Some.others.now)) ++ bare_part t ∷ []) c.as_str-in-loop-part.ensures.value
      ∙ sym (taken_on c.in-Some.others.now c.loop-part.part-index c.part-item.result c.loop-part-test.true c.part-item.is),
)

pub returns : goal.returns
returns c = subst (λ ps. HasParts (map string_bytes ps) c.loop-part.key) (sym c.in-Some.ensures.cases.0) (
  ap leaf_text c.loop-part.invariant.0 ∙ c.as_str.ensures.value,
  c.loop-part.invariant.1 ∙ ap (λ ps. map bare_part (map string_bytes ps)) (take_all c.loop-part.part-index c.in-Some.others.now c.loop-part-test.false),
)

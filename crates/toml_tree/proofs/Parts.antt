-- How many bytes parts have, and where some of them stand.
use Rattle.std.proofs.Common.{◌≡◌, ℕ, ◌+◌, List, [], ◌∷◌, length, sym, ap, subst, ◌∙◌, arith, length-append}
use Rattle.toml_tree.specs.Parts.{size, PartsJoin, SizesAdd, FrontIsPlaced, BackIsPlaced, BothArePlaced}
use Rattle.toml_tree.specs.Spells.{Part, part_text, joined, Placed}
use Rattle.toml_tree.proofs.Texts.{joined_append}

pub parts_join : PartsJoin
parts_join = joined_append

pub sizes_add : SizesAdd
sizes_add ps qs = ap length (joined_append ps qs) ∙ length-append (joined ps) (joined qs)

more : (p : Part) (ps : List Part) (at : ℕ) → (at + length (part_text p)) + size ps ≡ at + size (p ∷ ps)
more p ps at = omega (arith, length-append (part_text p) (joined ps))

pub placed_front : FrontIsPlaced
placed_front [] qs at h = tt
placed_front (p ∷ ps) qs at h = (h.0, placed_front ps qs (at + length (part_text p)) h.1)

pub placed_back : BackIsPlaced
placed_back [] qs at h = subst (λ n. Placed n qs) (let e : at ≡ at + 0 = omega arith in e) h
placed_back (p ∷ ps) qs at h = subst (λ n. Placed n qs) (more p ps at) (placed_back ps qs (at + length (part_text p)) h.1)

pub placed_both : BothArePlaced
placed_both [] qs at h k = subst (λ n. Placed n qs) (let e : at + 0 ≡ at = omega arith in e) k
placed_both (p ∷ ps) qs at h k = (h.0, placed_both ps qs (at + length (part_text p)) h.1 (subst (λ n. Placed n qs) (sym (more p ps at)) k))

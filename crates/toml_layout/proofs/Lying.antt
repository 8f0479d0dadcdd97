-- Parts that stand in a text: the first ones of them, the others, and the text where they stand.
use Rattle.std.proofs.Common.{◌≡◌, ◌+◌, ◌-◌, ◌∙◌, ℕ, List, [], ◌∷◌, ◌++◌, ap, sym, arith, append_assoc, length-append, take, drop, slice_range}
use Rattle.std.proofs.Math.Seq.{drop-append_seam, take-append_seam}
use Rattle.toml_tree.proofs.Proved.{parts_join, placed_front, placed_back}
use Rattle.toml_tree.specs.Parts.{size}
use Rattle.toml_tree.specs.Spells.{Part, joined}
use Rattle.toml_layout.specs.Opening.{LieAt}

pub lie_front : (text : List ℕ) (at : ℕ) (ps qs : List Part) → LieAt text at (ps ++ qs) → LieAt text at ps
lie_front text at ps qs l = record {
  placed = placed_front ps qs at l.placed;
  front = l.front;
  back = joined qs ++ l.back;
  split = l.split ∙ ap (λ t. l.front ++ (t ++ l.back)) (parts_join ps qs) ∙ ap (λ t. l.front ++ t) (append_assoc (joined ps) (joined qs) l.back);
  begins = l.begins;
}

pub lie_back : (text : List ℕ) (at : ℕ) (ps qs : List Part) → LieAt text at (ps ++ qs) → LieAt text (at + size ps) qs
lie_back text at ps qs l = record {
  placed = placed_back ps qs at l.placed;
  front = l.front ++ joined ps;
  back = l.back;
  split =
      l.split ∙ ap (λ t. l.front ++ (t ++ l.back)) (parts_join ps qs) ∙ ap (λ t. l.front ++ t) (append_assoc (joined ps) (joined qs) l.back)
      ∙ sym (append_assoc l.front (joined ps) (joined qs ++ l.back));
  begins = length-append l.front (joined ps) ∙ ap (λ n. n + size ps) l.begins;
}

-- behind a first part
pub lie_next : (text : List ℕ) (at : ℕ) (p : Part) (ps : List Part) → LieAt text at (p ∷ ps) → LieAt text (at + size (p ∷ [])) ps
lie_next text at p ps l = lie_back text at (p ∷ []) ps l

-- where they stand the text is theirs
pub lie_slice : (text : List ℕ) (at : ℕ) (ps : List Part) → LieAt text at ps → slice_range text at (at + size ps) ≡ joined ps
lie_slice text at ps l =
    let e : (at + size ps) - at ≡ size ps = omega arith in
    ap (λ n. take n (drop at text)) e
    ∙ ap (λ t. take (size ps) (drop at t)) l.split
    ∙ ap (λ n. take (size ps) (drop n (l.front ++ (joined ps ++ l.back)))) (sym l.begins)
    ∙ ap (take (size ps)) (drop-append_seam l.front (joined ps ++ l.back))
    ∙ take-append_seam (joined ps) l.back

-- Parts that stand in a text.
use Rattle.std.proofs.Common.{◌≡◌, ℕ, ◌+◌, ◌-◌, ◌==◌, ◌&&◌, Bool, true, false, List, [], ◌∷◌, ◌++◌, length, take, drop, refl, sym, ap, ◌∙◌, arith, append_assoc, length-append}
use Rattle.std.proofs.Math.Seq.{drop-append_seam, take-append_seam}
use Rattle.toml_tree.specs.Spells.{Part, part_text, joined, Placed, mark_of}
use Rattle.toml_tree.specs.Parts.{size}
use Rattle.toml_tree.proofs.Proved.{placed_front, placed_back, parts_join}
use Rattle.toml_units.specs.Blocks.{end}
use Rattle.toml_units.specs.Texts.{ReadsIn}
use Rattle.toml_units.specs.Units.{TextUnit}

-- the parts, joined, are what the text has from the place on
pub record StandIn (text : List ℕ) (n : ℕ) (ps : List Part) : Type 0 where
  pub placed : Placed n ps
  pub front : List ℕ
  pub back : List ℕ
  pub long : length front ≡ n
  pub is : text ≡ front ++ (joined ps ++ back)

module _ (text : List ℕ) where
  pub stand_front : (ps qs : List Part) (n : ℕ) → StandIn text n (ps ++ qs) → StandIn text n ps
  stand_front ps qs n h = record {
    placed = placed_front ps qs n h.placed;
    front = h.front;
    back = joined qs ++ h.back;
    long = h.long;
    is = h.is ∙ ap (λ l. h.front ++ l) (ap (λ l. l ++ h.back) (parts_join ps qs) ∙ append_assoc (joined ps) (joined qs) h.back);
  }

  pub stand_back : (ps qs : List Part) (n : ℕ) → StandIn text n (ps ++ qs) → StandIn text (n + size ps) qs
  stand_back ps qs n h = record {
    placed = placed_back ps qs n h.placed;
    front = h.front ++ joined ps;
    back = h.back;
    long = omega (arith, length-append h.front (joined ps), h.long);
    is = h.is ∙ ap (λ l. h.front ++ l) (ap (λ l. l ++ h.back) (parts_join ps qs) ∙ append_assoc (joined ps) (joined qs) h.back) ∙ sym (append_assoc h.front (joined ps) (joined qs ++ h.back));
  }

  pub stand_behind : (p : Part) (ps : List Part) (n : ℕ) → StandIn text n (p ∷ ps) → StandIn text (n + length (part_text p)) ps
  stand_behind p ps n h = record {
    placed = h.placed.1;
    front = h.front ++ part_text p;
    back = h.back;
    long = omega (arith, length-append h.front (part_text p), h.long);
    is = h.is ∙ ap (λ l. h.front ++ l) (append_assoc (part_text p) (joined ps) h.back) ∙ sym (append_assoc h.front (part_text p) (joined ps ++ h.back));
  }

  -- a unit of all these parts
  pub reads : (ps : List Part) (n : ℕ) (u : TextUnit) → StandIn text n ps → u.piece.start ≡ n → joined ps ≡ u.piece.text → ReadsIn text u
  reads ps n u h start is =
      let whole : text ≡ h.front ++ (u.piece.text ++ h.back) = h.is ∙ ap (λ l. h.front ++ (l ++ h.back)) is in
      let at : u.piece.start ≡ length h.front = start ∙ sym h.long in
      let count : end u - u.piece.start ≡ length u.piece.text = omega arith in (
        omega (arith, ap length whole, length-append h.front (u.piece.text ++ h.back), length-append u.piece.text h.back, at),
        ap (λ k. take k (drop u.piece.start text)) count
            ∙ ap (λ k. take (length u.piece.text) (drop k text)) at
            ∙ ap (λ l. take (length u.piece.text) (drop (length h.front) l)) whole
            ∙ ap (take (length u.piece.text)) (drop-append_seam h.front (u.piece.text ++ h.back))
            ∙ take-append_seam u.piece.text h.back,
      )

-- the mark, and what stands behind it
pub mark_ahead : (text : List ℕ) → mark_of text ++ drop (length (mark_of text)) text ≡ text
mark_ahead [] = refl
mark_ahead (a ∷ []) = refl
mark_ahead (a ∷ b ∷ []) = refl
mark_ahead (a ∷ b ∷ c ∷ bs) = by (a == 0xEF && b == 0xBB && c == 0xBF) refl
  where
    by : (t : Bool) → (a == 0xEF && b == 0xBB && c == 0xBF) ≡ t → mark_of (a ∷ b ∷ c ∷ bs) ++ drop (length (mark_of (a ∷ b ∷ c ∷ bs))) (a ∷ b ∷ c ∷ bs) ≡ a ∷ b ∷ c ∷ bs
    by true e = rw e refl
    by false e = rw e refl

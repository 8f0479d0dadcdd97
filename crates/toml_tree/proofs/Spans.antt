-- Parts that stand between two places of a text.
use Rattle.std.proofs.Common.{◌≡◌, ℕ, ◌+◌, List, [], ◌∷◌, ◌++◌, length, take, drop, sym, refl, ap, ◌∙◌, subst, arith, append_assoc, length-append}
use Rattle.std.proofs.Math.Seq.{take-append_seam, drop-append_seam}
use Rattle.toml_tree.specs.Spells.{Part, part_text, joined, StartsAt, Placed}
use Rattle.toml_tree.specs.Reading.{Cursor, ahead}
pub use Rattle.toml_tree.specs.Stands.{Behind, Spans}

pub spans_append : (ps qs : List Part) (c m d : Cursor) → Spans ps c m → Spans qs m d → Spans (ps ++ qs) c d
spans_append [] qs c m d h k = subst (λ x. Spans qs x d) (sym h) k
spans_append (p ∷ ps) qs c m d h k = (h.0, h.1, h.2, spans_append ps qs h.0 m d h.3 k)

pub spans_split : (ps qs : List Part) (c d : Cursor) → Spans (ps ++ qs) c d → (m : Cursor) × Spans ps c m × Spans qs m d
spans_split [] qs c d h = (c, refl, h)
spans_split (p ∷ ps) qs c d h = let k = spans_split ps qs h.0 d h.3 in (k.0, (h.0, h.1, h.2, k.1), k.2)

pub spans_one : (p : Part) (c d : Cursor) → StartsAt p c.at → Behind (part_text p) c d → Spans (p ∷ []) c d
spans_one p c d s b = (d, s, b, refl)

pub spans_joined : (ps : List Part) (c d : Cursor) → Spans ps c d → Behind (joined ps) c d
spans_joined [] c d h = record { rest = ap (λ x. x.rest) h; at = subst (λ x. x.at ≡ c.at + 0) h (omega arith) }
spans_joined (p ∷ ps) c d h =
    let k = spans_joined ps h.0 d h.3 in
    record {
      rest = h.2.rest ∙ ap (λ l. part_text p ++ l) k.rest ∙ sym (append_assoc (part_text p) (joined ps) d.rest);
      at = omega (arith, k.at, h.2.at, length-append (part_text p) (joined ps));
    }

pub spans_placed : (ps : List Part) (c d : Cursor) → Spans ps c d → Placed c.at ps
spans_placed [] c d h = tt
spans_placed (p ∷ ps) c d h = (h.1, subst (λ n. Placed n ps) h.2.at (spans_placed ps h.0 d h.3))

-- where parts that are placed stand in a text
pub spans_from : (ps : List Part) (at : ℕ) (rest : List ℕ) → Placed at ps → Spans ps (record { at = at; rest = joined ps ++ rest }) (record { at = at + length (joined ps); rest = rest })
spans_from [] at rest h = λ i. record { at = sym (let e : at + 0 ≡ at = omega arith in e) i; rest = rest }
spans_from (p ∷ ps) at rest h =
    let m : Cursor = record { at = at + length (part_text p); rest = joined ps ++ rest } in
    let e : at + length (part_text p) + length (joined ps) ≡ at + length (part_text p ++ joined ps) = omega (arith, length-append (part_text p) (joined ps)) in
    (m, h.0, record { rest = append_assoc (part_text p) (joined ps) rest; at = refl }, subst (λ n. Spans ps m (record { at = n; rest = rest })) e (spans_from ps (at + length (part_text p)) rest h.1))

-- a step over as many bytes as some text has
pub behind_ahead : (bytes : List ℕ) (c d : Cursor) → Behind bytes c d → d ≡ ahead (length bytes) c
behind_ahead bytes c d b = λ i. record { at = b.at i; rest = (sym (ap (drop (length bytes)) b.rest ∙ drop-append_seam bytes d.rest)) i }

pub behind_take : (bytes : List ℕ) (c d : Cursor) → Behind bytes c d → take (length bytes) c.rest ≡ bytes
behind_take bytes c d b = ap (take (length bytes)) b.rest ∙ take-append_seam bytes d.rest

-- Lines that the working tree stands for are what its slots spell.
use Rattle.std.proofs.Common.{◌≡◌, ◌∙◌, ℕ, List, [], ◌∷◌, ◌++◌, map, Option, ap, refl, sym, append_assoc, append-nil}
use Rattle.toml_names.specs.model.Addresses.{Address}
use Rattle.toml_tree.specs.Spells.{EachIs}
use Rattle.toml_working.specs.declared.lines.Body.{Body}
use Rattle.toml_working.specs.declared.lines.Body.TheVariants as bodies
use Rattle.toml_working.specs.declared.lines.Kept.{Kept}
use Rattle.toml_working.specs.declared.lines.Line.{Line}
use Rattle.toml_working.specs.declared.lines.Slot.{Slot}
use Rattle.toml_working.specs.declared.lines.Slot.TheVariants as slots
use Rattle.toml_layout.specs.Outlines.{line_outlined, lines_outlined}
use Rattle.toml_working.specs.Standing.{Read, Standing, kept_outline, body_outline, line_standing, outline_of, slot_standing, slots_standing}
use Rattle.toml_working.specs.Stands.{BodyKept, IsKept, SlotKept}
use Rattle.toml_working.specs.Writing.{SpellAll, SpellsKept, SpellsLine, SpellsSlot}

-- the texts of lines, one behind the other
abbrev pub all_outlined : List Standing → List ℕ
all_outlined ss = lines_outlined (map (λ (s : Standing). s.outline) ss)

pub outlined_append : (ss ts : List Standing) → all_outlined (ss ++ ts) ≡ all_outlined ss ++ all_outlined ts
outlined_append [] ts = refl
outlined_append (s ∷ ss) ts =
    ap (λ r. line_outlined s.outline ++ r) (outlined_append ss ts) ∙ sym (append_assoc (line_outlined s.outline) (all_outlined ss) (all_outlined ts))

module _ (text : List ℕ) (read : Read) where
  kept_spells : (kept : Kept) → IsKept text read kept → SpellsKept text kept (line_outlined (kept_outline read kept))
  kept_spells kept h = (h.held, ap (λ l. line_outlined (outline_of l)) h.is ∙ sym h.spells)

  line_spells : (address : Option Address) (base : Option ℕ) (body : Body) → BodyKept text read body
      → SpellsLine text (record { address = address; base = base; body = body }) (line_outlined (body_outline read body))
  line_spells address base (bodies.Kept kept) h = kept_spells kept h
  line_spells address base (bodies.Open opened) h = refl

  lines_spell : (ls : List Line) → EachIs (λ (l : Line). BodyKept text read l.body) ls → SpellAll (SpellsLine text) ls (all_outlined (map (line_standing read) ls))
  lines_spell [] h = refl
  lines_spell (l ∷ ls) h = (line_outlined (body_outline read l.body), all_outlined (map (line_standing read) ls), line_spells l.address l.base l.body h.0, lines_spell ls h.1, refl)

  slot_spells : (slot : Slot) → SlotKept text read slot → SpellsSlot text slot (all_outlined (slot_standing read slot))
  slot_spells (slots.Kept kept) h = let k = kept_spells kept h in (k.0, append-nil _ ∙ k.1)
  slot_spells (slots.Lines lines) h = lines_spell lines.items h

  -- so what is written of them is the text of the lines
  pub slots_spell : (all : List Slot) → EachIs (SlotKept text read) all → SpellAll (SpellsSlot text) all (all_outlined (slots_standing read all))
  slots_spell [] h = refl
  slots_spell (s ∷ ss) h =
      (all_outlined (slot_standing read s), all_outlined (slots_standing read ss), slot_spells s h.0, slots_spell ss h.1, outlined_append (slot_standing read s) (slots_standing read ss))

-- What becomes of lines of the working tree at or below an address that gets another name.
use Rattle.std.proofs.Common.{◌≡◌, ◌∙◌, ℕ, ◌+◌, ◌<◌, Bool, true, false, cond, ◌||◌, List, [], ◌∷◌, ◌++◌, length, take, get_or, map, refl, ap, ap₂, sym, subst, arith}
use Rattle.std.specs.declared.alloc.Global.{Global}
use Rattle.std.specs.declared.vec.Vec.{Vec}
use Rattle.std.proofs.lemmas.List.{take_more}
use Rattle.std.specs.List.{list_any}
use Rattle.std.specs.Prelude.{option_map}
use Rattle.toml_names.specs.declared.model.address.Step.{Step}
use Rattle.toml_names.specs.declared.model.address.Step.TheVariants.{Name, Index}
use Rattle.toml_names.specs.model.Addresses.{Address}
use Rattle.toml_text.specs.Source.{text_of}
use Rattle.toml_tree.specs.Spells.{EachIs}
use Rattle.toml_tree.specs.Tree as tree
use Rattle.toml_working.specs.declared.lines.Line.{Line}
use Rattle.toml_working.specs.declared.lines.Slot.{Slot}
use Rattle.toml_working.specs.declared.lines.Slot.TheVariants as slots
use Rattle.toml_layout.specs.declared.texts.Texts.{Texts}
use Rattle.toml_working.specs.Becoming.{BodyBecomes, LineBecomes, LinesBecome, SlotBecomes}
use Rattle.toml_layout.specs.Outlines.{LineOutline}
use Rattle.toml_working.specs.RenameStanding.{names_in, part_number, rename_below, rename_own, renamed_address}
use Rattle.toml_layout.specs.RenamedPairs.{line_part_with}
use Rattle.toml_working.specs.Standing.{Standing, Read, body_outline, is_below, lies_below, line_standing, slot_standing}
use Rattle.toml_working.specs.Stands.{BodyKept, OpensSlot}
use Rattle.toml_working.proofs.Turned.{opened_kept, opened_standing}

-- ---- the names among steps

names_append : (a b : Address) → names_in (a ++ b) ≡ names_in a + names_in b
names_append [] b = omega arith
names_append (Name n ∷ a) b = let later = names_append a b in omega (arith, later)
names_append (Index i ∷ a) b = names_append a b

pub one_step_more : (steps : Address) (i count more : ℕ) (step : Step) → i < length steps → step ≡ get_or steps i step → more ≡ names_in (step ∷ [])
    → count ≡ names_in (take i steps) → count + more ≡ names_in (take (i + 1) steps)
one_step_more steps i count more step low is counts so_far =
    let all = ap names_in (take_more steps i step low) ∙ names_append (take i steps) (get_or steps i step ∷ []) ∙ ap (λ s. names_in (take i steps) + names_in (s ∷ [])) (sym is) in
    ap₂ (λ a b. a + b) so_far counts ∙ sym all

-- ---- one line

module _ (p : Address) (to spelled : List ℕ) where
  abbrev own : Standing → Standing
  own = rename_own p to spelled

  abbrev below : Standing → Standing
  below = rename_below p to spelled

  pub line_renamed : (texts : Texts) (lines : List tree.Line) (old mid now : Line) → mid.address ≡ old.address → mid.base ≡ old.base
      → BodyBecomes texts lines (line_part_with (part_number p old.base) spelled) old.body mid.body
      → now.body ≡ mid.body → now.base ≡ mid.base → now.address ≡ option_map (renamed_address p to) mid.address → LineBecomes texts lines own old now
  line_renamed texts lines old mid now mid_address mid_base becomes body base address read are kept =
      let (kept_mid, outlined) = becomes read are kept in (
        subst (BodyKept (text_of texts.source) read) (sym body) kept_mid,
        ap₂ (λ a b. record { address = a; base = b; outline = body_outline read now.body }) (address ∙ ap (option_map (renamed_address p to)) mid_address) (base ∙ mid_base)
            ∙ ap (λ (l : LineOutline). record { address = option_map (renamed_address p to) old.address; base = old.base; outline = l }) (ap (body_outline read) body ∙ outlined),
      )

  pub below_renamed : (texts : Texts) (lines : List tree.Line) (old now : Line) → lies_below p old.address ≡ true → LineBecomes texts lines own old now → LineBecomes texts lines below old now
  below_renamed texts lines old now h becomes read are kept =
      let (kept_now, stands) = becomes read are kept in
      (kept_now, stands ∙ sym (ap (λ b. cond b (own (line_standing read old)) (line_standing read old)) h))

  pub not_below : (ss : List Standing) → list_any (is_below p) ss ≡ false → map below ss ≡ ss
  not_below [] h = refl
  not_below (s ∷ ss) h = by (is_below p s) (list_any (is_below p) ss) refl h (not_below ss)
    where
      by : (a b : Bool) → is_below p s ≡ a → (a || b) ≡ false → (b ≡ false → map below ss ≡ ss) → cond (is_below p s) (own s) s ∷ map below ss ≡ s ∷ ss
      by true b e h later = cc
      by false b e h later = ap₂ (λ x xs. x ∷ xs) (ap (λ c. cond c (own s) s) e) (later h)

  pub slot_not_below : (texts : Texts) (read : Read) (slot : Slot) → list_any (is_below p) (slot_standing read slot) ≡ false → SlotBecomes texts read below slot slot
  slot_not_below texts read slot h kept = (kept, sym (not_below (slot_standing read slot) h))

pub any_below : (p : Address) (read : Read) (ls : List Line) → list_any (λ (l : Line). lies_below p l.address) ls ≡ list_any (is_below p) (map (line_standing read) ls)
any_below p read [] = refl
any_below p read (l ∷ ls) = ap (λ b. lies_below p l.address || b) (any_below p read ls)

-- ---- the lines of a slot

lines_become : (texts : Texts) (read : Read) (f : Standing → Standing) (old now : List Line) → LinesBecome texts read.lines f old now
    → EachIs (λ (l : Line). BodyKept (text_of texts.source) read l.body) old
    → EachIs (λ (l : Line). BodyKept (text_of texts.source) read l.body) now × (map (line_standing read) now ≡ map f (map (line_standing read) old))
lines_become texts read f [] [] all kept = (tt, refl)
lines_become texts read f [] (m ∷ now) all kept = absurd all
lines_become texts read f (l ∷ old) [] all kept = absurd all
lines_become texts read f (l ∷ old) (m ∷ now) all kept =
    let (kept_now, stands) = all.0 read refl kept.0 in
    let (kept_later, later) = lines_become texts read f old now all.1 kept.1 in
    ((kept_now, kept_later), ap₂ (λ x xs. x ∷ xs) stands later)

pub slot_becomes : (texts : Texts) (read : Read) (f : Standing → Standing) (old mid : Slot) (lines made : Vec Line Global) → OpensSlot read.units old mid → mid ≡ slots.Lines lines
    → LinesBecome texts read.lines f lines.items made.items → SlotBecomes texts read f old (slots.Lines made)
slot_becomes texts read f old mid lines made opens is all kept =
    let (kept_now, stands) = lines_become texts read f lines.items made.items all (opened_kept (text_of texts.source) read old mid lines opens is kept) in
    (kept_now, stands ∙ ap (map f) (opened_standing read old mid lines opens is))

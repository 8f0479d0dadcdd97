-- A line that is put in for a table which dotted keys make.
use Rattle.std.proofs.Common.{◌≡◌, ◌∙◌, inl, inr, ℕ, suc, ◌+◌, ◌≤◌, true, ◌&&◌, List, [], ◌∷◌, ◌++◌, drop, length, map, take, Option, Some, None, refl, ap, ap₂, sym, subst, arith, append_assoc}
use Rattle.std.specs.List.{list_any}
use Rattle.std.specs.declared.alloc.Global.{Global}
use Rattle.std.specs.declared.string.String.{String}
use Rattle.std.proofs.lemmas.Bool.{eq-eqb, ltb-true}
use Rattle.std.proofs.lemmas.List.{append_cancel_right, length-append, take_at}
use Rattle.toml_scalar.specs.Spelling.{spelled}
use Rattle.toml_names.specs.declared.model.address.Step.{Step}
use Rattle.toml_names.specs.declared.model.address.Step.TheVariants.{Name}
use Rattle.toml_names.specs.mentions.Keys.{Key}
use Rattle.toml_names.specs.model.Addresses.{Address, below, child, is_above}
use Rattle.toml_text.specs.Source.{text_of}
use Rattle.toml_tree.specs.Spells.{EachIs}
use Rattle.toml_names.proofs.Proved.{same_step-self}
use Rattle.toml_layout.specs.Beginnings.{begins}
use Rattle.toml_layout.specs.Outlines.{ValueOutline}
use Rattle.toml_working.specs.declared.lines.Slot.{Slot}
use Rattle.toml_working.specs.declared.lines.Sought.TheVariants as sought
use Rattle.toml_working.specs.declared.working.Position.{Position}
use Rattle.toml_working.specs.declared.working.Tree.{Tree}
use Rattle.toml_working.specs.DottedTables.{IsKeyed, PutsDotted, StandsAmong, TreePutsDotted, is_in_table, is_maker, makes_from, stands_in_table}
use Rattle.toml_working.specs.FirstKeys.{spacing_put}
use Rattle.toml_working.specs.InTables.{TreePutsIn}
use Rattle.toml_working.specs.InsertStanding.{line_put}
use Rattle.toml_working.specs.Placing.{IsNoHeader, IsPair, lines_before, lines_from}
use Rattle.toml_working.specs.Putting.{IsKeyIn, TreePutsBehind, manner}
use Rattle.toml_working.specs.RemovingIn.{base_of, steps_or_zero}
use Rattle.toml_working.specs.Sections.{is_of_section, stands_in}
use Rattle.toml_working.specs.Seeing.{IsSoughtAt, LacksSought, is_dotted, is_sought_line, line_at}
use Rattle.toml_working.specs.Spellings.{AreSteps, step_spelled}
use Rattle.toml_working.specs.Standing.{Standing, Read, slots_standing}
use Rattle.toml_working.specs.Stands.{SlotKept, Stands}
use Rattle.toml_working.specs.TableEnds.{EndsAmong}
use Rattle.toml_working.proofs.Alone.{above_begins, and_parts, any_there, at_split, begins_through}
use Rattle.toml_working.proofs.AtPlace.{slot_of}
use Rattle.toml_working.proofs.Each.{each_back}
use Rattle.toml_working.proofs.RemovedOne.{any_split}
use Rattle.toml_working.proofs.Placed.{behind_line, from_line, split_at}
use Rattle.toml_working.proofs.Sectioned.{front_is, sought_here}

-- ---- keys below a section

names_spelled : (key : Key) → map step_spelled (map Name key) ≡ map spelled key
names_spelled [] = refl
names_spelled (n ∷ key) = ap (λ r. spelled n ∷ r) (names_spelled key)

spelled_below : (section : Address) (key : Key) → drop (length section) (map step_spelled (below section key)) ≡ map spelled key
spelled_below [] key = names_spelled key
spelled_below (s ∷ section) key = spelled_below section key

child_below : (section : Address) (key : Key) (name : List ℕ) → child (below section key) name ≡ below section (key ++ name ∷ [])
child_below [] [] name = refl
child_below [] (n ∷ key) name = ap (λ r. Name n ∷ r) (child_below [] key name)
child_below (s ∷ section) key name = ap (λ r. s ∷ r) (child_below section key name)

-- the key of a name in a table is that of the table, and the name
pub key_in : (section q at : Address) (key : Key) (name : List ℕ) (steps : List (String Global)) → q ≡ below section key → at ≡ child q name → AreSteps at steps
    → IsKeyIn section (key ++ name ∷ []) at steps
key_in section q at key name steps q_is at_is spellings =
    let own : at ≡ below section (key ++ name ∷ []) = at_is ∙ ap (λ a. child a name) q_is ∙ child_below section key name in
    record {
      some = some key;
      at_is = own;
      steps_is = ap (drop (length section)) (spellings ∙ ap (map step_spelled) own) ∙ spelled_below section (key ++ name ∷ []);
    }
  where
    some : (k : Key) → ¬ (k ++ name ∷ [] ≡ [])
    some [] e = cc
    some (n ∷ k) e = cc

begins_below : (section : Address) (key : Key) → begins section (below section key) ≡ true
begins_below [] key = refl
begins_below (s ∷ section) key = ap (λ r. r && begins section (below section key)) (same_step-self s) ∙ begins_below section key

-- ---- a line whose dotted key makes the table

module _ (q : Address) (s : Standing) (makes : is_sought_line sought.Dotted q s ≡ true) where
  -- it stands strictly below the table,
  pub maker_in_table : is_in_table q s ≡ true
  maker_in_table = by s.base s.address makes
    where
      by : (base : Option ℕ) (own : Option Address) → is_dotted q base own ≡ true → stands_in_table q base own ≡ true
      by None own h = cc
      by (Some n) None h = cc
      by (Some n) (Some a) h = (and_parts _ (is_above q a) h).1

  module _ (section : Address) (key : Key) (base_is : s.base ≡ Some (length section)) (q_is : q ≡ below section key) where
    -- and in the section of which its key is
    pub maker_there : is_of_section section s ≡ true
    maker_there = ap (λ b. stands_in section b s.address) base_is ∙ by s.address (subst (λ b. is_dotted q b s.address ≡ true) base_is makes)
      where
        by : (own : Option Address) → is_dotted q (Some (length section)) own ≡ true → stands_in section (Some (length section)) own ≡ true
        by None h = cc
        by (Some a) h =
            ap (λ r. r && begins section a) (eq-eqb (length section) (length section) refl)
            ∙ begins_through section q a (ap (begins section) q_is ∙ begins_below section key) (above_begins q a (and_parts _ (is_above q a) h).1).0

    pub maker_is : is_maker section q s ≡ true
    maker_is =
        ap (λ b. makes_from section q b s.address) base_is
        ∙ ap (λ r. r && is_dotted q (Some (length section)) s.address) (eq-eqb (length section) (length section) refl)
        ∙ subst (λ b. is_dotted q b s.address ≡ true) base_is makes

-- ---- the line is put in

-- from the line that makes the table on, the last one stands in its section
behind_maker : (section : Address) (read : Read) (slots : List Slot) (from at : Position) (m line : Standing) (front back : List Standing)
    → line_at read slots from ≡ Some m → is_of_section section m ≡ true → lines_from read slots from.slot from.index ≡ front ++ line ∷ back → EachIs IsNoHeader front
    → IsPair line → line_at read slots at ≡ Some line → lines_from read slots at.slot at.index ≡ line ∷ back
    → StandsAmong section (lines_before read slots at.slot at.index) line
behind_maker section read slots from at m line front back there of_section is heads pair here rest =
    let (slot, slot_is, own) = slot_of read slots from m there in
    let all = from_line read slots from.slot from.index slot m slot_is own in
    by front (sym all ∙ is) is heads
  where
    by : (xs : List Standing) → m ∷ lines_from read slots from.slot (from.index + 1) ≡ xs ++ line ∷ back → lines_from read slots from.slot from.index ≡ xs ++ line ∷ back
        → EachIs IsNoHeader xs → StandsAmong section (lines_before read slots at.slot at.index) line
    by [] e is heads = let same : m ≡ line = cc in inl (subst (λ x. is_of_section section x ≡ true) same of_section)
    by (x ∷ xs) e is heads =
        let same : x ≡ m = cc in
        inr (
          pair,
          (
            lines_before read slots from.slot from.index,
            m,
            xs,
            append_cancel_right _ _ (line ∷ back)
                (ap (λ r. lines_before read slots at.slot at.index ++ r) (sym rest) ∙ sym (split_at read slots at.slot at.index) ∙ split_at read slots from.slot from.index
                ∙ ap (λ r. lines_before read slots from.slot from.index ++ r) (is ∙ ap (λ y. y ∷ (xs ++ line ∷ back)) same)
                ∙ sym (append_assoc (lines_before read slots from.slot from.index) (m ∷ xs) (line ∷ back))),
            of_section,
            heads.1,
          ),
        )

module _ (q own : Address) (steps : List (String Global)) (v : ValueOutline) (read : Read) (from at : Position) (old now : Tree) where
  -- what then stands on the lines
  abbrev Put : List ℕ → List Standing → Type 0
  Put name ss = (ts : List Standing) × Stands (text_of old.texts.source) read now.slots.items ts × PutsDotted q name v (manner old) ss ts

  -- it stands behind the last one, and has the key of the table's address and the name
  put_among : (section : Address) (key : Key) (name : List ℕ) (m : Standing) (base : ℕ) → base ≡ length section → q ≡ below section key
      → IsKeyIn section (key ++ name ∷ []) own steps → EachIs (SlotKept (text_of old.texts.source) read) old.slots.items
      → line_at read old.slots.items from ≡ Some m → is_sought_line sought.Dotted q m ≡ true → m.base ≡ Some (length section)
      → EndsAmong old.texts.layout section q read old.slots.items from at → TreePutsBehind own base steps v read at old now
      → Put name (slots_standing read old.slots.items)
  put_among section key name m base at_base q_is named kept there makes m_base end puts =
      let slots = old.slots.items in
      let last = end.last in
      let (before, behind, split) = at_split read slots from m there in
      let put = puts section at_base (key ++ name ∷ []) named last.next kept last.line last.there in
      let front = lines_before read slots at.slot at.index in (
        slots_standing read now.slots.items,
        record { kept = put.0; are = refl },
        record {
          section = section;
          key = key ++ name ∷ [];
          same = ap (λ a. child a name) q_is ∙ child_below section key name;
          made = ap (list_any (is_maker section q)) split ∙ any_there (is_maker section q) before m behind (maker_is q m makes section key m_base q_is);
          front = front;
          line = last.line;
          back = last.back;
          was = split_at read slots at.slot at.index ∙ ap (λ r. front ++ r) last.from;
          among = elim end.there [
            | inl here ↦ behind_maker section read slots from at m last.line last.front last.back there (maker_there q m makes section key m_base q_is)
                (sym (ap₂ (lines_from read slots) here.0 here.1) ∙ last.is) last.heads last.pair last.there last.from
            | inr so ↦ inl so
          ];
          in_table = last.in_table;
          last = last.none;
          is =
              put.1
              ∙ ap (λ r. front ++ (line_put section (spacing_put (manner old) front last.line) (key ++ name ∷ []) v (manner old) last.line last.line.outline.newline ++ r))
              (sym (behind_line read slots at last.line last.back last.there last.from));
        },
      )

  -- so it is put in, where the line that is found makes the table
  pub puts_dotted : (above part : Address) (last : Step) (base n : ℕ) → own ≡ above ++ last ∷ [] → base ≡ base_of (line_at read old.slots.items from)
      → (base ≤ length above → n ≡ base) → part ≡ take n above
      → (LacksSought sought.Header q (slots_standing read old.slots.items) → list_any (is_sought_line sought.Dotted q) (slots_standing read old.slots.items) ≡ true
      → IsSoughtAt sought.Dotted q read old.slots.items from)
      → ((s : Standing) → line_at read old.slots.items from ≡ Some s → is_in_table q s ≡ true → EndsAmong old.texts.layout part q read old.slots.items from at)
      → TreePutsBehind own base steps v read at old now → TreePutsDotted q own steps v read old now
  puts_dotted above part last base n own_is base_is low part_is finds ends puts name at_is spellings ss stands ordered dotted =
      let slots = old.slots.items in
      let found = finds (ap (list_any (is_sought_line sought.Header q)) stands.are ∙ dotted.no_header) (ap (list_any (is_sought_line sought.Dotted q)) stands.are ∙ dotted.dotted) in
      let (m, there, makes) = sought_here sought.Dotted q read slots from found in
      let (before, behind, split) = at_split read slots from m there in
      let keyed = subst (EachIs (IsKeyed q)) (sym stands.are ∙ split) dotted.keyed in
      let (section, key, m_base, q_is) = (each_back (IsKeyed q) before (m ∷ behind) keyed).0 makes in
      let above_is : above ≡ below section key = front_is above q last (Name name) (sym own_is ∙ at_is) ∙ q_is in
      let at_base : base ≡ length section = base_is ∙ ap base_of there ∙ ap steps_or_zero m_base in
      let enough : base ≤ length above = let whole = ap length above_is ∙ length-append section (map Name key) in omega (arith, whole, at_base) in
      let same : part ≡ section = part_is ∙ ap₂ take (low enough ∙ at_base) above_is ∙ take_at section (map Name key) (length section) refl in
      let end = subst (λ a. EndsAmong old.texts.layout a q read slots from at) same (ends m there (maker_in_table q m makes)) in
      subst (Put name) stands.are
      (put_among section key name m base at_base q_is (key_in section q own key name steps q_is at_is spellings) stands.kept there makes m_base end puts)

-- ---- a name at the root

root_of_one : (q at : Address) (name : List ℕ) → length at ≡ 1 → at ≡ child q name → q ≡ []
root_of_one [] at name one is = refl
root_of_one (s ∷ q) at name one is = absurd (let whole = ap length is ∙ ap suc (length-append q (Name name ∷ [])) in omega (arith, whole, one))

-- no dotted key makes the root
never_root : (ss : List Standing) → list_any (is_sought_line sought.Dotted []) ss ≡ true → ⊥
never_root ss there = let (front, s, back, split, makes) = any_split (is_sought_line sought.Dotted []) ss there in by s.base s.address makes
  where
    by : (base : Option ℕ) (own : Option Address) → is_dotted [] base own ≡ true → ⊥
    by None own h = cc
    by (Some n) None h = cc
    by (Some n) (Some a) h = absurd (omega (arith, ltb-true n 0 (and_parts _ (is_above [] a) h).0))

-- it stands in no table that is not the root
pub root_puts : (q at : Address) (steps : List (String Global)) (v : ValueOutline) (read : Read) (old now : Tree) → length at ≡ 1 → TreePutsIn q at steps v read old now
root_puts q at steps v read old now one = record {
  header = λ not_root name named. absurd (not_root (root_of_one q at name one named.at_is));
  dotted = λ name at_is spellings ss stands ordered dotted.
      absurd (never_root ss (subst (λ r. list_any (is_sought_line sought.Dotted r) ss ≡ true) (root_of_one q at name one at_is) dotted.dotted));
  implied = λ not_root name at_is. absurd (not_root (root_of_one q at name one at_is));
}

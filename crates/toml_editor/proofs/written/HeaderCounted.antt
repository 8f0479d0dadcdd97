-- What a header line counts, and that the lines behind a new one name the same.
use Rattle.std.proofs.Common.{◌≡◌, ◌⊎◌, inl, inr, ℕ, ◌+◌, ◌-◌, ◌==◌, Bool, true, false, cond, Some, List, [], ◌∷◌, ◌++◌, length, refl, sym, ap, ◌∙◌, arith}
use Rattle.std.specs.List.{list_any}
use Rattle.std.proofs.lemmas.Bool.{or_parts}
use Rattle.std.proofs.lemmas.Bool.Decides.{nat_tests}
use Rattle.std.proofs.lemmas.Option.{same_Some}
use Rattle.toml_tree.specs.Tree.{Line}
use Rattle.toml_names.specs.mentions.Keys.{key_names, part_name, rest_names}
use Rattle.toml_names.specs.mentions.Mentions.{Named, count_tables, entered, named, named_by}
use Rattle.toml_names.specs.model.Addresses.{Address, element, same_address}
use Rattle.toml_names.specs.reader.Names.{header_end, own_address}
use Rattle.toml_names.proofs.Proved.{count-append}
use Rattle.toml_layout.specs.declared.tree.Brackets.{Brackets}
use Rattle.toml_layout.specs.declared.tree.Brackets.TheVariants.{One, Two}
use Rattle.toml_working.specs.FreshKeys.{key_named}
use Rattle.toml_working.specs.Heading.{header_expr}
use Rattle.toml_working.specs.Headers.{names_of}
use Rattle.toml_working.specs.Standing.{Standing, is_below, line_stands, standing_from}
use Rattle.toml_editor.specs.Blocks.{named_plain}
use Rattle.toml_editor.proofs.written.Alike.{alike_self}
use Rattle.toml_editor.proofs.written.Clear.{same_is}
use Rattle.toml_editor.proofs.written.Counted.{count_array, count_table, one_if}
use Rattle.toml_editor.proofs.written.CountedAlike.{AreCountedBut, AreUnseen, IsSameSection, line_alike}
use Rattle.toml_editor.proofs.written.HeaderPut.{IsApart, IsHeaderPut}
use Rattle.toml_editor.proofs.written.Plain.{behind, behind_alike, next_alike, plain_alike}
use Rattle.toml_editor.proofs.written.PutStands.{stand_alike}
use Rattle.toml_editor.proofs.written.UnitsAlike.{step_alike}

-- ---- where a key goes on

-- what a key enters is the table itself, or the last element of an array that has some
abbrev pub Enters : List Named → Address → Type 0
Enters xs a = (entered xs a ≡ a) ⊎ ((i : ℕ) × (entered xs a ≡ element a i) × (count_tables xs a ≡ i + 1))

-- a key enters one of the two
pub enters : (xs : List Named) (a : Address) → Enters xs a
enters xs a = by (count_tables xs a == 0) refl
  where
    by : (b : Bool) → (count_tables xs a == 0) ≡ b → Enters xs a
    by true none = inl (ap (λ t. cond t a (element a (count_tables xs a - 1))) none)
    by false some = inr (
      count_tables xs a - 1,
      ap (λ t. cond t a (element a (count_tables xs a - 1))) some,
      (let e : count_tables xs a ≡ (count_tables xs a - 1) + 1 = grind (arith, nat_tests) in e),
    )

-- ---- behind lists that the lines see alike

-- There lines name the same.
behind_same : (ls : List Line) (xs ys : List Named) (n : ℕ) → IsSameSection xs ys ls → AreCountedBut (AreUnseen (standing_from xs n ls)) xs ys
    → behind xs ls ≡ behind ys ls
behind_same [] xs ys n sections same = refl
behind_same (l ∷ ls) xs ys n sections same =
    let rest = standing_from (xs ++ named_by xs n l.expr) (n + 1) ls in
    let new = named_by xs 0 l.expr in
    let one = line_alike xs ys 0 0 ls l.expr l.newline sections (λ at. elim (same at) [
      | inl none ↦ inl (or_parts (is_below at (line_stands xs l)) (list_any (is_below at) rest) none).0
      | inr counted ↦ inr counted
    ]) in
    let stand : standing_from (xs ++ new) 1 ls ≡ rest =
    stand_alike ls (xs ++ new) (xs ++ named_by xs n l.expr) 1 (n + 1) (step_alike xs xs 0 n l.expr (alike_self xs)) in
    ap (λ r. new ++ r) (behind_same ls (xs ++ new) (ys ++ named_by ys 0 l.expr) 1 one.sections (λ at. elim (same at) [
      | inl none ↦ inl (ap (list_any (is_below at)) stand ∙ (or_parts (is_below at (line_stands xs l)) (list_any (is_below at) rest) none).1)
      | inr counted ↦ inr (one.counts at counted)
    ]))
    ∙ ap (λ r. r ++ behind (ys ++ named_by ys 0 l.expr) ls) one.names

-- ---- behind a new header line

-- none of what stands on lines is at the array of a new element, or below it
abbrev pub AreApart : Brackets → Address → List Standing → Type 0
AreApart One p ss = Unit {0}
AreApart Two p ss = (q : Address) (i : ℕ) → p ≡ element q i → list_any (is_below q) ss ≡ false

-- The header of a table changes no count, that of an element the count of its array alone.
pub header_counted : (brackets : Brackets) (p : Address) (ws : List ℕ) (xs : List Named) (line : ℕ) (ss : List Standing)
    → own_address xs (header_expr brackets p ws) ≡ Some p → AreApart brackets p ss
    → AreCountedBut (AreUnseen ss) xs (xs ++ named_by xs line (header_expr brackets p ws))
header_counted One p ws xs line ss leads apart a =
    let all = count-append xs (named_by xs line (header_expr One p ws)) a in
    let key = key_named (names_of p) in
    let none = count_table xs line a (part_name key.first) (rest_names key.rest) in
    inr (omega (arith, all, none))
header_counted Two p ws xs line ss leads apart a = by (same_address at a) refl
  where
    at : Address
    at = header_end xs [] (key_names (key_named (names_of p)))

    by : (b : Bool) → same_address at a ≡ b → AreUnseen ss a ⊎ (count_tables xs a ≡ count_tables (xs ++ named_by xs line (header_expr Two p ws)) a)
    by true same =
        inl (apart a (count_tables xs at)
        (sym (same_Some (element at (count_tables xs at)) p leads) ∙ ap (λ (x : Address). element x (count_tables xs at)) (same_is at a same)))
    by false differs =
        let all = count-append xs (named_by xs line (header_expr Two p ws)) a in
        let key = key_named (names_of p) in
        let none = count_array xs line a (part_name key.first) (rest_names key.rest) ∙ ap one_if differs in
        inr (omega (arith, all, none))

-- what is apart of lines is so of what stands on them
pub back_apart : (brackets : Brackets) (p : Address) (front back : List Line) → IsApart brackets p front back
    → AreApart brackets p (standing_from (named front) (length front) back)
back_apart One p front back apart = tt
back_apart Two p front back apart = apart

-- So lines behind it name the same as without it.
pub same_behind : (brackets : Brackets) (p : Address) (style : List ℕ) (old new : List Line) → (put : IsHeaderPut brackets p style old new)
    → behind (named_plain put.front ++ named_by (named_plain put.front) 0 (header_expr brackets p put.ws)) put.back ≡ behind (named_plain put.front) put.back
same_behind brackets p style old new put =
    let xs = named put.front in
    let plain = named_plain put.front in
    let e = header_expr brackets p put.ws in
    sym (behind_alike put.back (xs ++ named_by xs 0 e) (plain ++ named_by plain 0 e) (next_alike xs plain 0 e (plain_alike xs)))
    ∙ sym (behind_same put.back xs (xs ++ named_by xs 0 e) (length put.front) (inr put.unkeyed)
    (header_counted brackets p put.ws xs 0 _ put.leads (back_apart brackets p put.front put.back put.apart)))
    ∙ behind_alike put.back xs plain (plain_alike xs)

-- The units of a line whose value is an array, item by item.
use Rattle.std.proofs.Common.{◌≡◌, ℕ, zero, suc, ◌+◌, ◌<◌, ◌≤◌, List, [], ◌∷◌, ◌++◌, length, length-append, map, drop, get_or, Option, Some, None, refl, sym, ap, ◌∙◌, arith, append_assoc}
use Rattle.std.proofs.lemmas.List.{append-nil, drop-map, drop_all, drop_more, length-map}
use Rattle.std.specs.Prelude.{option_map, vec_len}
use Rattle.toml_tree.specs.declared.piece.Blank.{Blank}
use Rattle.toml_tree.specs.declared.piece.Gap.{Gap}
use Rattle.toml_tree.specs.declared.tree.Array as declared
use Rattle.toml_tree.specs.declared.tree.Item.{Item}
use Rattle.toml_tree.specs.declared.tree.Value.TheViews.{out-Array}
use Rattle.toml_tree.specs.ReadingValues.{Element, before_end}
use Rattle.toml_tree.specs.Spells.{EachIs}
use Rattle.toml_tree.specs.Tree as tree
use Rattle.toml_tree.specs.Tree.{Items, Close, Expr, Last, More}
use Rattle.toml_tree.specs.View.{array_items, blank, element as tree_element, expr, gap, last_ends}
use Rattle.toml_names.specs.model.Addresses.{Address, element}
use Rattle.toml_units.specs.Arrays.{IsArrayLine, behind_in_line, behind_in_value, behind_items, count_items, items_in}
use Rattle.toml_units.specs.Opened.{AddsFirst, opened_items, opened_units}
use Rattle.toml_units.specs.Plain.{Spanned, element_units, element_units_at, end_units, items_of, plain_elements, plain_inside, spanned}
use Rattle.toml_units.specs.Units.{element_unit, gap_units, tail_units}
use Rattle.toml_units.specs.View.{AddsUnits, all_units, unit}
use Rattle.toml_units.specs.declared.opened.Opened.{Opened}
use Rattle.toml_units.specs.declared.unit.Unit.{Unit as Made}
use Rattle.toml_units.proofs.Each.{each_append}
use Rattle.toml_units.proofs.Lined.{IsNoLine, elements_no_lines, tail_no_lines}
use Rattle.toml_units.proofs.Walked.{items-array_items}

-- ---- how many items there are

count-before_end : (es : List Element) (g : tree.Gap) → count_items (before_end es (Close g)) ≡ length es
count-before_end [] g = refl
count-before_end (e ∷ es) g = ap suc (count-before_end es g)

count-last_ends : (es : List Element) → count_items (last_ends es) ≡ length es
count-last_ends [] = refl
count-last_ends (e ∷ []) = refl
count-last_ends (e ∷ f ∷ es) = ap suc (count-last_ends (f ∷ es))

count-array_items : (es : List Element) (end : Option Gap) → count_items (array_items es end) ≡ length es
count-array_items es (Some g) = count-before_end es (gap g)
count-array_items es None = count-last_ends es

-- ---- what comes behind so many of them

behind-array_items : (at : Address) (end : Option Gap) (n : ℕ) (es : List Element) (i j : ℕ) → i + n ≡ j → n ≤ length es
    → behind_items n at i (array_items es end) ≡ items_of at j (drop n es) ++ end_units at (option_map gap end)
behind-array_items at end zero es i j is few =
    let same : i ≡ j = omega (arith, is) in
    ap (λ k. plain_elements at k (array_items es end)) same ∙ items-array_items at es j end
behind-array_items at end (suc n) [] i j is few = absurd (omega arith)
behind-array_items at (Some g) (suc n) (e ∷ es) i j is few =
    let next : (i + 1) + n ≡ j = omega (arith, is) in
    behind-array_items at (Some g) n es (i + 1) j next (omega arith)
behind-array_items at None (suc zero) (e ∷ []) i j is few = refl
behind-array_items at None (suc (suc n)) (e ∷ []) i j is few = absurd (omega arith)
behind-array_items at None (suc n) (e ∷ f ∷ es) i j is few =
    let next : (i + 1) + n ≡ j = omega (arith, is) in
    behind-array_items at None n (f ∷ es) (i + 1) j next (omega arith)

-- ---- units that were added

element_some : (at here : Address) (e : Element) → 0 < length (element_units_at at here e)
element_some at here e =
    let before = map spanned (gap_units at e.before) in
    let own = spanned (element_unit here e.value) ∷ plain_inside here e.value in
    let after = map spanned (gap_units at e.after) in
    omega (arith, length-append before (own ++ after), length-append own after)

more_units : (old new : List Made) (us : List Spanned) → AddsUnits old new us → 0 < length us → length old < length new
more_units old new us h some =
    let long = ap length h in
    omega (arith, long, some, length-map old unit, length-map new unit, length-append (all_units old) us)

pub adds_first : (old new : List Made) (us left these : List Spanned) → AddsUnits old new us → us ++ left ≡ these → 0 < length us → AddsFirst old new these left
adds_first old new us left these h is some = record {
  units = ap (λ l. l ++ left) h ∙ append_assoc (all_units old) us left ∙ ap (λ l. all_units old ++ l) is;
  some = more_units old new us h some;
}

adds_all : (old mid new : List Made) (us more these : List Spanned) → AddsUnits old mid us → AddsUnits mid new more → us ++ more ≡ these → 0 < length us
    → AddsFirst old new these []
adds_all old mid new us more these h g is some =
    let both : AddsUnits old new (us ++ more) = g ∙ ap (λ l. l ++ more) h ∙ append_assoc (all_units old) us more in
    adds_first old new (us ++ more) [] these both (append-nil (us ++ more) ∙ is) (omega (arith, some, length-append us more))

-- ---- the line of an array

module _ (e : Expr) (a : declared.Array) (tail : Blank) (line : IsArrayLine e a tail) where
  abbrev pub items : List Item
  items = (out-Array a).items.items

  pub items_are : items_in e ≡ length items
  items_are = ap items_in line.is ∙ count-array_items (map tree_element items) (out-Array a).end ∙ length-map items tree_element

  -- so many are in memory, and there are fewer than 2 ^ 64
  pub items_long : items_in e ≡ vec_len (out-Array a).items
  items_long = items_are ∙ sym (out-Array a).items.ok.0

  pub items_few : items_in e < 18446744073709551616
  items_few = let few = (out-Array a).items.small in omega (arith, items_long, (out-Array a).items.ok.1, few)

  module _ (at : Address) where
    abbrev pub ends : List Spanned
    ends = end_units at (option_map gap (out-Array a).end)

    abbrev pub last : List Spanned
    last = map spanned (tail_units (Some at) (blank tail))

    behind : (n : ℕ) → n ≤ length items → behind_in_line n at e ≡ (items_of at n (map tree_element (drop n items)) ++ ends) ++ last
    behind n few =
        ap (behind_in_line n at) line.is
        ∙ ap (λ us. us ++ last) (behind-array_items at (out-Array a).end n (map tree_element items) 0 n (omega arith) (omega (arith, few, length-map items tree_element))
        ∙ ap (λ es. items_of at n es ++ ends) (drop-map tree_element n items))

    -- the next item comes first
    next : (n : ℕ) (x : Item) → n < length items → x ≡ get_or items n x
        → behind_in_line n at e ≡ element_units at n (tree_element x) ++ ((items_of at (n + 1) (map tree_element (drop (n + 1) items)) ++ ends) ++ last)
    next n x less is =
        let here = element_units at n (tree_element x) in
        let more = items_of at (n + 1) (map tree_element (drop (n + 1) items)) in
        behind n (omega (arith, less))
        ∙ ap (λ xs. (items_of at n (map tree_element xs) ++ ends) ++ last) (drop_more items n x less ∙ ap (λ y. y ∷ drop (n + 1) items) (sym is))
        ∙ ap (λ us. us ++ last) (append_assoc here more ends)
        ∙ append_assoc here (more ++ ends) last

    -- it was added, and there is one behind it
    pub adds_item : (n : ℕ) (x : Item) (here : Address) (old new : List Made) → n + 1 < length items → x ≡ get_or items n x → here ≡ element at n
        → AddsUnits old new (element_units_at at here (tree_element x)) → AddsFirst old new (behind_in_line n at e) (behind_in_line (n + 1) at e)
    adds_item n x here old new less is own h =
        adds_first old new (element_units_at at here (tree_element x)) (behind_in_line (n + 1) at e) (behind_in_line n at e) h
        (ap (λ us. element_units_at at here (tree_element x) ++ us) (behind (n + 1) (omega (arith, less)))
        ∙ ap (λ p. element_units_at at p (tree_element x) ++ ((items_of at (n + 1) (map tree_element (drop (n + 1) items)) ++ ends) ++ last)) own
        ∙ sym (next n x (omega (arith, less)) is))
        (element_some at here (tree_element x))

    -- it was added with what stands behind it, and it is the last one
    pub adds_last : (n : ℕ) (x : Item) (here : Address) (old mid ended new : List Made) → n < length items → length items ≤ n + 1 → x ≡ get_or items n x → here ≡ element at n
        → AddsUnits old mid (element_units_at at here (tree_element x)) → AddsUnits mid ended ends → AddsUnits ended new last → AddsFirst old new (behind_in_line n at e) []
    adds_last n x here old mid ended new less past is own h f g =
        let first = element_units_at at here (tree_element x) in
        adds_all old mid new first (ends ++ last) (behind_in_line n at e) h
        (g ∙ ap (λ us. us ++ last) f ∙ append_assoc (all_units mid) ends last)
        (ap (λ p. element_units_at at p (tree_element x) ++ (ends ++ last)) own
        ∙ ap (λ xs. element_units at n (tree_element x) ++ ((items_of at (n + 1) (map tree_element xs) ++ ends) ++ last)) (sym (drop_all (n + 1) items past))
        ∙ sym (next n x less is))
        (element_some at here (tree_element x))

-- ---- what lies in an array is no line

items_no_lines : (n : ℕ) (at : Address) (i : ℕ) (is : Items) → EachIs IsNoLine (behind_items n at i is)
items_no_lines zero at i is = elements_no_lines is at i
items_no_lines (suc n) at i (Close g) = tt
items_no_lines (suc n) at i (Last g v h) = tt
items_no_lines (suc n) at i (More g v h is) = items_no_lines n at (i + 1) is

value_no_lines : (n : ℕ) (at : Address) (v : tree.Value) → EachIs IsNoLine (behind_in_value n at v)
value_no_lines n at (tree.Scalar kind p) = tt
value_no_lines n at (tree.Array whole is) = items_no_lines n at 0 is
value_no_lines n at (tree.Inline whole ps) = tt

rest_no_lines : (n : ℕ) (at : Address) (e : Expr) → EachIs IsNoLine (behind_in_line n at e)
rest_no_lines n at (tree.BlankLine b) = tt
rest_no_lines n at (tree.KeyValLine ws k b) =
    each_append IsNoLine (behind_in_value n at k.value) (map spanned (tail_units (Some at) b)) (value_no_lines n at k.value) (tail_no_lines (Some at) b)
rest_no_lines n at (tree.TableLine ws h b) = tt
rest_no_lines n at (tree.ArrayTableLine ws h b) = tt

pub opened_no_lines : (o : Option Opened) → EachIs IsNoLine (opened_units o)
opened_no_lines None = tt
opened_no_lines (Some o) = rest_no_lines o.item o.at (expr o.line.expr)

pub opened_few : (o : Option Opened) → opened_items o < 18446744073709551616
opened_few None = omega arith
opened_few (Some o) = omega (arith, o.few)

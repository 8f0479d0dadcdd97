-- A change that is reverted leaves the nodes as they were.
use Rattle.toml_names.proofs.Common.{◌≡◌, ℕ, ◌-◌, ◌<◌, List, [], ◌∷◌, ◌++◌, length, refl, ap, ◌∙◌, take, slice_index_or, slice_set, arith, rules, length_push, take_at, set-set, set-get_or, get_or-set_same, get_or_default, Name, Index, Role, Change, Spot, nowhere, linked, remarked, without_name, without_element, reverted, undone}
use Rattle.toml_names.specs.declared.tree.name_tree.Change.TheVariants.{NameLinked, ElementLinked, RoleNoted}

pub undone-push : (cs : List Change) (c : Change) (nodes : List Spot) → undone (cs ++ c ∷ []) nodes ≡ undone cs (reverted c nodes)
undone-push [] c nodes = refl
undone-push (x ∷ cs) c nodes = ap (reverted x) (undone-push cs c nodes)

front : {A : Type 0} → (xs : List A) (x : A) → take (length (xs ++ x ∷ []) - 1) (xs ++ x ∷ []) ≡ xs
front xs x = take_at xs (x ∷ []) (length (xs ++ x ∷ []) - 1) (omega (arith, length_push xs x))

without_name-linked : (s : Spot) (n : List ℕ) (id : ℕ) → without_name (linked s (Name n) id) ≡ s
without_name-linked s n id = ap (λ l. record s { children = l }) (front s.children (n, id))

without_element-linked : (s : Spot) (i id : ℕ) → without_element (linked s (Index i) id) ≡ s
without_element-linked s i id = ap (λ l. record s { elements = l }) (front s.elements id)

-- `v` is what the code read at the node
module _ (nodes : List Spot) (v : Spot) (p : ℕ) (low : p < length nodes) (read : v ≡ slice_index_or nodes p v) (cs : List Change) where
  -- writing back what stood there
  back : (x y : Spot) → y ≡ v → slice_set (slice_set nodes p x) p y ≡ nodes
  back x y is = set-set nodes p x y ∙ ap (slice_set nodes p) (is ∙ read) ∙ set-get_or nodes p v

  reverted-element : (i : ℕ) (m : Spot) → reverted (ElementLinked p) (slice_set nodes p (linked v (Index i) (length nodes)) ++ m ∷ []) ≡ nodes
  reverted-element i m = search (rules, front, back, get_or-set_same, without_element-linked)

  reverted-role : (r : Role) (line : ℕ) → reverted (RoleNoted p v.role v.line) (slice_set nodes p (remarked v r line)) ≡ nodes
  reverted-role r line = back (remarked v r line) _ (ap (λ s. remarked s v.role v.line) (get_or-set_same nodes p (remarked v r line) nowhere low))

  module _ (ds : List Change) where
    pub undone-grown_name : (n : List ℕ) (m after : Spot) (id : ℕ) → after ≡ linked v (Name n) id → id ≡ length nodes → ds ≡ cs ++ NameLinked p ∷ []
        → (more : List Spot) → more ≡ slice_set nodes p after ++ m ∷ [] → undone ds more ≡ undone cs nodes
    undone-grown_name n m after id made is pushed more grew = search (rules, undone-push, front, back, get_or-set_same, without_name-linked)

    pub undone-grown_element : (i : ℕ) (m after : Spot) (id : ℕ) → after ≡ linked v (Index i) id → id ≡ length nodes → ds ≡ cs ++ ElementLinked p ∷ []
        → (more : List Spot) → more ≡ slice_set nodes p after ++ m ∷ [] → undone ds more ≡ undone cs nodes
    undone-grown_element i m after id made is pushed more grew =
        ap (λ l. undone l more) pushed ∙ undone-push cs (ElementLinked p) more
        ∙ ap (λ l. undone cs (reverted (ElementLinked p) l)) (grew ∙ ap (λ s. slice_set nodes p s ++ m ∷ []) (made ∙ ap (linked v (Index i)) is))
        ∙ ap (undone cs) (reverted-element i m)

    -- `w` is what it read again
    pub undone-noted : (w after : Spot) (was is : Role) (of_line line : ℕ) → w ≡ slice_index_or nodes p w → was ≡ v.role → of_line ≡ v.line → after ≡ remarked w is line
        → ds ≡ cs ++ RoleNoted p was of_line ∷ [] → undone ds (slice_set nodes p after) ≡ undone cs nodes
    undone-noted w after was is of_line line again role from made pushed = grind (arith, get_or_default, undone-push, reverted-role)

-- A dotted key's proper fronts, entered one by one.
use Rattle.toml_names.proofs.Common.{common_steps, ◌≡◌, ℕ, ◌+◌, ◌<◌, ◌≤◌, List, [], ◌∷◌, ◌++◌, length, map, take, drop, refl, sym, ap, subst, ◌∙◌, slice_index_or, arith, append_assoc, map-append, drop_more, take-append-drop, piece, dotted, key as tree_key, Name, Dotted, Address, child, below, Key, part_name, key_names, FollowedFronts, Named, a_table, table_at, fronts, Enters, EntersTo, Clashes, name_at, Spot, address_at, IsNode}
use Rattle.toml_tree.specs.declared.tree.Dotted.{Dotted as Part}
use Rattle.toml_tree.specs.declared.tree.Key.{Key as TreeKey}
use Rattle.toml_names.proofs.lemmas.mentions.Along.{names_left}
use Rattle.toml_names.proofs.lemmas.tree.EnterSteps.{Enters-none, Enters-append, KeepsElements-same, KeepsElements-then, Clashes-later, Clashes-front}

-- the fronts of a key up to a name, and those from there on
pub fronts-append : (line : ℕ) (xs : Key) (at : Address) (n y : List ℕ) (ys : Key)
    → fronts line at (n ∷ xs ++ y ∷ ys) ≡ fronts line at (n ∷ xs) ++ (table_at line Dotted (below at (n ∷ xs)) ∷ fronts line (below at (n ∷ xs)) (y ∷ ys))
fronts-append line [] at n y ys = refl
fronts-append line (x ∷ xs) at n y ys =
    ap (λ l. table_at line Dotted (child at n) ∷ l)
    (fronts-append line xs (child at n) x y ys
    ∙ ap (λ a. fronts line (child at n) (x ∷ xs) ++ (table_at line Dotted a ∷ fronts line a (y ∷ ys))) (append_assoc at (Name n ∷ []) (map Name (x ∷ xs))))

below-push : (at : Address) (key : Key) (n : List ℕ) → below at (key ++ n ∷ []) ≡ child (below at key) n
below-push at key n = ap (λ l. at ++ l) (map-append Name key (n ∷ [])) ∙ sym (append_assoc at (map Name key) (Name n ∷ []))

left-append : (xs ys : List Part) → names_left (xs ++ ys) ≡ names_left xs ++ names_left ys
left-append xs ys = ap (map (λ d. part_name d.part)) (map-append dotted xs ys) ∙ map-append (λ d. part_name d.part) (map dotted xs) (map dotted ys)

-- a key's first names
abbrev pub first_names : List ℕ → List Part → ℕ → Key
first_names first rest i = first ∷ names_left (take i rest)

module _ (first : List ℕ) (rest : List Part) (i : ℕ) (d : Part) (low : i < length rest) (is : d ≡ slice_index_or rest i d) where
  abbrev n : List ℕ
  n = part_name (piece d.part)

  pub one_more : first_names first rest (i + 1) ≡ first_names first rest i ++ n ∷ []
  one_more = grind (arith, common_steps)

  pub all_names : first ∷ names_left rest ≡ first_names first rest i ++ n ∷ names_left (drop (i + 1) rest)
  all_names =
      ap (λ ds. first ∷ names_left ds) (sym (take-append-drop i rest) ∙ ap (λ l. take i rest ++ l) (drop_more rest i d low ∙ ap (λ x. x ∷ drop (i + 1) rest) (sym is)))
      ∙ ap (λ l. first ∷ l) (left-append (take i rest) (d ∷ drop (i + 1) rest))

  module _ (old now : List Spot) (line : ℕ) (at : Address) (here : ℕ) (part : List ℕ) (followed : FollowedFronts old now line at here part (first_names first rest i)) where
    abbrev before : Key
    before = first_names first rest i

    abbrev front : Named
    front = name_at now here part Dotted a_table line

    front_is : front ≡ table_at line Dotted (below at before)
    front_is = ap (table_at line Dotted) followed.last

    made : fronts line at (first_names first rest (i + 1)) ≡ fronts line at before ++ front ∷ []
    made = ap (fronts line at) one_more ∙ fronts-append line (names_left (take i rest)) at first n [] ∙ ap (λ m. fronts line at before ++ m ∷ []) (sym front_is)

    pub FollowedFronts-more : (next : List Spot) (id : ℕ) → EntersTo now next (front ∷ []) (child (address_at now here) part) id
        → FollowedFronts old next line at id n (first_names first rest (i + 1))
    FollowedFronts-more next id enters = record {
      entered = subst (Enters old next) (sym made) (Enters-append (fronts line at before) (front ∷ []) followed.entered enters.enters);
      within = enters.leads.within;
      last = ap (λ x. child x n) (enters.leads.address ∙ followed.last) ∙ sym (ap (below at) one_more ∙ below-push at before n);
      elements = KeepsElements-then old now next followed.entered.kept.longer followed.elements enters.elements;
    }

    pub Clashes-fronts : (a : Address) → Clashes now (front ∷ []) a → Clashes old (fronts line at (first ∷ names_left rest)) a
    Clashes-fronts a clash =
        let behind : List Named = fronts line (below at before) (n ∷ names_left (drop (i + 1) rest)) in
        subst (λ l. Clashes old l a)
        (sym (ap (fronts line at) all_names ∙ fronts-append line (names_left (take i rest)) at first n (names_left (drop (i + 1) rest))
        ∙ ap (λ m. fronts line at before ++ (m ∷ behind)) (sym front_is)))
        (Clashes-later (fronts line at before) (front ∷ behind) a followed.entered (Clashes-front (front ∷ []) behind a clash))

-- all names of the key, as the code reads it
pub all-named : (P : Key → Type 0) (k : TreeKey) (items : List Part) (i : ℕ) → items ≡ k.rest.items → length items ≤ i → P (first_names (part_name (piece k.first)) items i) → P (key_names (tree_key k))
all-named P k items i are past h3 = grind (arith, common_steps)

-- no front was entered yet
pub FollowedFronts-first : (old : List Spot) (line at : ℕ) (first : List ℕ) → IsNode old at → FollowedFronts old old line (address_at old at) at first (first ∷ [])
FollowedFronts-first old line at first there = record { entered = Enters-none old there.tree; within = there.within; last = refl; elements = KeepsElements-same old }

-- a key has one part more than dots
pub key-length : (k : TreeKey) → length (key_names (tree_key k)) ≡ length k.rest.items + 1
key-length k = grind (arith, common_steps)

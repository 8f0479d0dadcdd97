-- What lines and values name does not depend on where their pieces stand.
use Rattle.toml_names.proofs.Common.{◌≡◌, ℕ, ◌+◌, List, [], ◌∷◌, ◌++◌, map, refl, sym, ap, ap₂, ◌∙◌, rules, Assign, Value, Scalar, Array, Inline, Items, Close, Last, More, Pairs, ClosePairs, LastPair, MorePairs, Line, Role, Valued, Bare, Address, element, part_name, rest_names, Named, kind_of, value_named, inside, elements, members, pair_named, named, named_by, named_from, root, value_facts}
use Rattle.toml_tree.specs.Bare.{bare_dotted, bare_assign, bare_value, bare_items, bare_pairs, bare_line}
use Rattle.toml_tree.specs.Tree.{Dotted}
use Rattle.toml_names.specs.mentions.Placeless.{KeyPlacesAreNotNamed, LinePlacesAreNotNamed, PlacesAreNotNamed, ValuePlacesAreNotNamed}

pub key_places_are_not_named : KeyPlacesAreNotNamed
key_places_are_not_named k = ap (λ r. part_name k.first ∷ r) (by k.rest)
  where
    by : (ds : List Dotted) → rest_names (map bare_dotted ds) ≡ rest_names ds
    by [] = refl
    by (d ∷ ds) = ap (λ r. part_name d.part ∷ r) (by ds)

kind_bared : (v : Value) → kind_of (bare_value v) ≡ kind_of v
kind_bared v = search rules

block_bared : (v : Value) (line : ℕ) (role : Role) (at : Address) → inside line at (bare_value v) ≡ inside line at v → value_named line role at (bare_value v) ∷ inside line at (bare_value v) ≡ value_named line role at v ∷ inside line at v
block_bared v line role at within = ap₂ (λ k l. record { address = at; role = role; kind = k; line = line } ∷ l) (kind_bared v) within

pair_bared : (a : Assign) (v : Value) (line : ℕ) (at : Address) → ((here : Address) → inside line here (bare_value v) ≡ inside line here v) → pair_named line at (bare_assign a) (bare_value v) ≡ pair_named line at a v
pair_bared a v line at within = search (rules, key_places_are_not_named, block_bared)

mutual
  inside_bared : (v : Value) (line : ℕ) (at : Address) → inside line at (bare_value v) ≡ inside line at v
  inside_bared (Scalar kind p) line at = refl
  inside_bared (Array whole items) line at = elements_bared items line at 0
  inside_bared (Inline whole pairs) line at = members_bared pairs line at

  elements_bared : (items : Items) (line : ℕ) (at : Address) (i : ℕ) → elements line at i (bare_items items) ≡ elements line at i items
  elements_bared (Close g) line at i = refl
  elements_bared (Last g v h) line at i = block_bared v line Bare (element at i) (inside_bared v line (element at i))
  elements_bared (More g v h is) line at i = ap₂ (λ s t. s ++ t) (block_bared v line Bare (element at i) (inside_bared v line (element at i))) (elements_bared is line at (i + 1))

  members_bared : (pairs : Pairs) (line : ℕ) (at : Address) → members line at (bare_pairs pairs) ≡ members line at pairs
  members_bared (ClosePairs g) line at = refl
  members_bared (LastPair g a v h) line at = pair_bared a v line at (λ here. inside_bared v line here)
  members_bared (MorePairs g a v h ps) line at = ap₂ (λ s t. s ++ t) (pair_bared a v line at (λ here. inside_bared v line here)) (members_bared ps line at)

pub line_places_are_not_named : LinePlacesAreNotNamed
line_places_are_not_named ms line e = search (rules, pair_bared, inside_bared, key_places_are_not_named)

from_bared : (ls : List Line) (ms : List Named) (line : ℕ) → named_from ms line (map bare_line ls) ≡ named_from ms line ls
from_bared [] ms line = refl
from_bared (l ∷ ls) ms line = ap (λ new. named_from (ms ++ new) (line + 1) (map bare_line ls)) (line_places_are_not_named ms line l.expr) ∙ from_bared ls (ms ++ named_by ms line l.expr) (line + 1)

named_bared : (ls : List Line) → named (map bare_line ls) ≡ named ls
named_bared ls = from_bared ls (root ∷ []) 0

pub places_are_not_named : PlacesAreNotNamed
places_are_not_named ls ms same = sym (named_bared ls) ∙ ap named same ∙ named_bared ms

facts_bared : (v : Value) → value_facts (bare_value v) ≡ value_facts v
facts_bared v = block_bared v 0 Valued [] (inside_bared v 0 [])

pub value_places_are_not_named : ValuePlacesAreNotNamed
value_places_are_not_named v w same = sym (facts_bared v) ∙ ap value_facts same ∙ facts_bared w

-- An array or an inline table by what was read of it.
use Rattle.std.proofs.Common.{◌≡◌, Bool, true, false, not, List, [], ◌∷◌, ◌++◌, map, length, ◌==◌, Some, None, refl, sym, ap, ◌∙◌, arith}
use Rattle.toml_tree.specs.Tree as tree
use Rattle.toml_tree.specs.ReadingValues.{Element, Member, before_end, pairs_before_end, ends_in_comma, may_end}
use Rattle.toml_tree.specs.View.{gap, element, member, last_ends, last_pairs, array_items, table_pairs}
use Rattle.toml_tree.specs.declared.piece.Gap.{Gap}
use Rattle.toml_tree.specs.declared.profile.Profile.TheVariants.{One}
use Rattle.toml_tree.specs.declared.tree.Item.{Item}
use Rattle.toml_tree.specs.declared.tree.Pair.{Pair}
use Rattle.toml_tree.proofs.Complete.{positive}
use Rattle.toml_tree.proofs.Many.{map_push}

last_ends_push : (es : List Element) (e : Element) → last_ends (es ++ e ∷ []) ≡ before_end es (tree.Last e.before e.value e.after)
last_ends_push [] e = refl
last_ends_push (f ∷ []) e = refl
last_ends_push (f ∷ g ∷ es) e = ap (λ i. tree.More f.before f.value f.after i) (last_ends_push (g ∷ es) e)

last_pairs_push : (ms : List Member) (m : Member) → last_pairs (ms ++ m ∷ []) ≡ pairs_before_end ms (tree.LastPair m.before m.pair.assign m.pair.value m.after)
last_pairs_push [] m = refl
last_pairs_push (l ∷ []) m = refl
last_pairs_push (l ∷ k ∷ ms) m = ap (λ ps. tree.MorePairs l.before l.pair.assign l.pair.value l.after ps) (last_pairs_push (k ∷ ms) m)

-- an item taken into the list
pub item_taken : (is all : List Item) (i : Item) → all ≡ is ++ i ∷ [] → map element all ≡ map element is ++ element i ∷ []
item_taken is all i same = ap (map element) same ∙ map_push element is i

pub last_item_taken : (is all : List Item) (i : Item) → all ≡ is ++ i ∷ [] → array_items (map element all) None ≡ before_end (map element is) (last_ends (element i ∷ []))
last_item_taken is all i same = ap last_ends (item_taken is all i same) ∙ last_ends_push (map element is) (element i)

-- a pair taken into the list
pub pair_taken : (ps all : List Pair) (p : Pair) → all ≡ ps ++ p ∷ [] → map member all ≡ map member ps ++ member p ∷ []
pair_taken ps all p same = ap (map member) same ∙ map_push member ps p

pub last_pair_taken : (ps all : List Pair) (p : Pair) → all ≡ ps ++ p ∷ [] → table_pairs (map member all) None ≡ pairs_before_end (map member ps) (last_pairs (member p ∷ []))
last_pair_taken ps all p same = ap last_pairs (pair_taken ps all p same) ∙ last_pairs_push (map member ps) (member p)

-- a gap behind a comma ends an inline table of profile 1 only where no pair stands before it
ends_behind : (ms : List Member) (g : tree.Gap) → ends_in_comma true (pairs_before_end ms (tree.ClosePairs g)) ≡ true
ends_behind [] g = refl
ends_behind (m ∷ ms) g = ends_behind ms g

pub closed_so : (ps : List Pair) (g : Gap) → may_end One (table_pairs (map member ps) (Some g)) ≡ (length ps == 0)
closed_so [] g = refl
closed_so (p ∷ ps) g = ap not (ends_behind (map member ps) (gap g)) ∙ sym (positive (length (p ∷ ps)) (omega arith))

last_so : (comma : Bool) (p : Pair) (ps : List Pair) → ends_in_comma comma (last_pairs (map member (p ∷ ps))) ≡ false
last_so comma p [] = refl
last_so comma p (q ∷ ps) = last_so true q ps

pub lasts_so : (ps : List Pair) → may_end One (table_pairs (map member ps) None) ≡ true
lasts_so [] = refl
lasts_so (p ∷ ps) = ap not (last_so false p ps)

-- Where the data have a scalar, the lines have one value: only a table and an array can be spread over several. What is refused of the lines
-- may be refused by the data.
use Rattle.std.proofs.Common.{◌≡◌, inl, inr, ℕ, ◌+◌, true, List, [], ◌∷◌, ◌++◌, Option, Some, None, refl, ap}
use Rattle.std.specs.Prelude.{Any, IsSome, is_some}
use Rattle.toml_scalar.specs.Values.{ScalarValue}
use Rattle.toml_tree.specs.Spells.{EachIs}
use Rattle.toml_tree.specs.Tree.{Value, Scalar, Array, Inline, Items, Close, Last, More, Pairs, ClosePairs, LastPair, MorePairs, Assign, Expr, BlankLine, KeyValLine, TableLine, ArrayTableLine, Line}
use Rattle.toml_tree.specs.declared.profile.Profile.{Profile}
use Rattle.toml_names.specs.mentions.Joining.{is_lone}
use Rattle.toml_names.specs.mentions.Keys.{Key, key_names}
use Rattle.toml_names.specs.mentions.Mentions.{Kind, a_table, an_array, a_scalar, Named, named, named_by, named_from, root, section, fronts, pair_named, inside, elements, members, entered, followed, ends_table, ends_tables}
use Rattle.toml_names.specs.model.Addresses.{Address, child, element, below}
use Rattle.toml_names.specs.model.Data.{IsDataOf, IsFact, Kinds}
use Rattle.toml_edits.specs.declared.fault.EditFault.TheVariants.{NoSuchPlace}
use Rattle.toml_edits.specs.Edits.{Change, set, insert, rename, remove, new_section, new_element}
use Rattle.toml_edits.specs.Faults.{IsFault}
use Rattle.toml_editor.specs.Edited.{MayBeRefused}
use Rattle.toml_editor.specs.PlainTexts.{IsRefusedIn}
use Rattle.toml_editor.specs.Steps.{IsGoodText}
use Rattle.toml_working.specs.Premises.{HasValue}
use Rattle.toml_editor.proofs.Each.{each_append}
use Rattle.toml_editor.proofs.written.Pairwise.{has_of_any, any_of_has, has_each}

-- if a scalar stands there, it is a value of its own
abbrev IsLone : Named → Type 0
IsLone m = (v : ScalarValue) → m.kind ≡ a_scalar v → is_lone m.role ≡ true

fronts_lone : (line : ℕ) (at : Address) (k : Key) → EachIs IsLone (fronts line at k)
fronts_lone line at [] = tt
fronts_lone line at (n ∷ []) = tt
fronts_lone line at (n ∷ m ∷ more) = ((λ v is. cc), fronts_lone line (child at n) (m ∷ more))

pair_lone : (line : ℕ) (at : Address) (a : Assign) (v : Value) → EachIs IsLone (inside line (below at (key_names a.key)) v)
    → EachIs IsLone (pair_named line at a v)
pair_lone line at a v all =
    each_append IsLone (fronts line at (key_names a.key)) _ (fronts_lone line at (key_names a.key)) ((λ w is. refl), all)

mutual
  inside_lone : (line : ℕ) (at : Address) (v : Value) → EachIs IsLone (inside line at v)
  inside_lone line at (Scalar kind p) = tt
  inside_lone line at (Array whole items) = elements_lone line at 0 items
  inside_lone line at (Inline whole pairs) = members_lone line at pairs

  elements_lone : (line : ℕ) (at : Address) (i : ℕ) (items : Items) → EachIs IsLone (elements line at i items)
  elements_lone line at i (Close g) = tt
  elements_lone line at i (Last g v h) = ((λ w is. refl), inside_lone line (element at i) v)
  elements_lone line at i (More g v h is) =
      ((λ w is. refl), each_append IsLone (inside line (element at i) v) (elements line at (i + 1) is) (inside_lone line (element at i) v) (elements_lone line at (i + 1) is))

  members_lone : (line : ℕ) (at : Address) (pairs : Pairs) → EachIs IsLone (members line at pairs)
  members_lone line at (ClosePairs g) = tt
  members_lone line at (LastPair g a v h) = pair_lone line at a v (inside_lone line (below at (key_names a.key)) v)
  members_lone line at (MorePairs g a v h ps) =
      each_append IsLone (pair_named line at a v) (members line at ps) (pair_lone line at a v (inside_lone line (below at (key_names a.key)) v)) (members_lone line at ps)

followed_lone : (line : ℕ) (earlier : List Named) (end : Address → List Named) → ((at : Address) → EachIs IsLone (end at)) → (at : Address) (k : Key)
    → EachIs IsLone (followed line earlier end at k)
followed_lone line earlier end ends at [] = tt
followed_lone line earlier end ends at (n ∷ []) = ends (child at n)
followed_lone line earlier end ends at (n ∷ m ∷ more) = ((λ v is. cc), followed_lone line earlier end ends (entered earlier (child at n)) (m ∷ more))

by_lone : (earlier : List Named) (line : ℕ) (e : Expr) → EachIs IsLone (named_by earlier line e)
by_lone earlier line (BlankLine b) = tt
by_lone earlier line (KeyValLine ws pair tail) =
    let at = section earlier in
    pair_lone line at pair.assign pair.value (inside_lone line (below at (key_names pair.assign.key)) pair.value)
by_lone earlier line (TableLine ws header tail) = followed_lone line earlier (ends_table line) (λ at. ((λ v is. cc), tt)) [] (key_names header.key)
by_lone earlier line (ArrayTableLine ws header tail) =
    followed_lone line earlier (ends_tables line earlier) (λ at. ((λ v is. cc), ((λ v is. cc), tt))) [] (key_names header.key)

from_lone : (ls : List Line) (earlier : List Named) (line : ℕ) → EachIs IsLone earlier → EachIs IsLone (named_from earlier line ls)
from_lone [] earlier line all = all
from_lone (l ∷ ls) earlier line all =
    from_lone ls (earlier ++ named_by earlier line l.expr) (line + 1) (each_append IsLone earlier (named_by earlier line l.expr) all (by_lone earlier line l.expr))

scalar_has_value : (lines : List Line) (p : Address) (v : ScalarValue) → IsFact (named lines) p (a_scalar v) → HasValue lines p
scalar_has_value lines p v fact =
    any_of_has _ (named lines)
    (has_each IsLone (λ m. (m.address ≡ p) × (m.kind ≡ a_scalar v)) (λ m. (m.address ≡ p) × (is_lone m.role ≡ true)) (λ m lone at. (at.0, lone v at.1))
    (named lines) (from_lone lines (root ∷ []) 0 ((λ w is. cc), tt)) (has_of_any _ (named lines) fact))

-- what is removed without a fault is there
pub is_there : (profile : Profile) (kinds : Kinds) (p : Address) → IsFault profile (remove p) kinds None → IsSome (kinds p)
is_there profile kinds p none = by (kinds p) refl
  where
    by : (found : Option Kind) → kinds p ≡ found → IsSome (kinds p)
    by None is = absurd (none NoSuchPlace is)
    by (Some k) is = ap is_some is

-- what the lines do not name is not there
pub is_not_there : (lines : List Line) (kinds : Kinds) (p : Address) → IsDataOf (named lines) kinds → (¬ Any (λ m. m.address ≡ p) (named lines)) → kinds p ≡ None
is_not_there lines kinds p facts unnamed = by (kinds p) refl
  where
    by : (found : Option Kind) → kinds p ≡ found → kinds p ≡ None
    by None is = is
    by (Some k) is = let (n, m, low, at, named_so) = (facts p k).0 is in absurd (unnamed (n, m, low, at, named_so.0))

-- Where the lines have no one place for an edit without a fault, a `set` is of a table or an array; and what takes a last element of them
-- takes it of the data.
pub may_be_refused : (profile : Profile) (text : List ℕ) (kinds : Kinds) (c : Change) → IsGoodText profile text kinds → IsFault profile c kinds None
    → IsRefusedIn profile text c → MayBeRefused c kinds
may_be_refused profile text kinds (set p value) good none refused = by (kinds p) refl
  where
    by : (there : Option Kind) → kinds p ≡ there → MayBeRefused (set p value) kinds
    by None is = absurd (none NoSuchPlace is)
    by (Some a_table) is = inl (inl is)
    by (Some an_array) is = inl (inr is)
    by (Some (a_scalar v)) is = absurd (refused good.tree good.spelled (scalar_has_value good.tree.lines p v ((good.facts p (a_scalar v)).0 is)))
may_be_refused profile text kinds (insert p value) good none (q, i, own, outside) = inl (q, i, own)
may_be_refused profile text kinds (rename p to) good none refused = absurd refused
may_be_refused profile text kinds (remove p) good none (q, own, only) =
    inr (q, own, is_there profile kinds p none, is_not_there good.tree.lines kinds (element q 1) good.facts (only good.tree good.spelled).1)
may_be_refused profile text kinds (new_section p) good none refused = inl tt
may_be_refused profile text kinds (new_element p) good none refused = inl tt

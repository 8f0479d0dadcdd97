-- Where the arrays of tables stand that what is named counts.
use Rattle.std.proofs.Common.{◌≡◌, ◌∙◌, inl, inr, ℕ, zero, suc, ◌+◌, Bool, true, false, List, [], ◌∷◌, ◌++◌, refl, ap, subst, arith}
use Rattle.std.proofs.lemmas.List.{same_from_push}
use Rattle.toml_tree.specs.Tree.{Expr, BlankLine, KeyValLine, TableLine, ArrayTableLine, Line}
use Rattle.toml_names.specs.declared.model.address.Step.TheVariants.{Name, Index}
use Rattle.toml_names.specs.mentions.Keys.{Key, part_name, rest_names}
use Rattle.toml_names.specs.mentions.Mentions.{Named, an_array, count_tables, ends_tables, entered, followed, named, named_by, named_from, root, section}
use Rattle.toml_names.specs.model.Addresses.{Address, child, element, same_address}
use Rattle.toml_names.specs.reader.Names.{header_end}
use Rattle.toml_names.proofs.Proved.{count-append}
use Rattle.toml_editor.proofs.written.Clear.{same_is}
use Rattle.toml_editor.proofs.written.Closed.{no_end}
use Rattle.toml_editor.proofs.written.Counted.{count_array, count_none, count_pair, count_table, one_if}
use Rattle.toml_editor.proofs.written.Pairwise.{Has, has_append_left, has_append_right}

-- ---- where arrays of tables stand

-- the last step is a name
abbrev pub IsNamedLast : Address → Type 0
IsNamedLast at = (u : Address) × (n : List ℕ) × (at ≡ child u n)

-- a header's key ends in a name
pub end_named : (xs : List Named) (key : Key) (n : List ℕ) (at : Address) → IsNamedLast (header_end xs at (n ∷ key))
end_named xs [] n at = (at, n, refl)
end_named xs (m ∷ more) n at = end_named xs more m (entered xs (child at n))

abbrev IsArrayAt : Address → Named → Type 0
IsArrayAt r m = (m.address ≡ r) × (m.kind ≡ an_array)

-- what counts for an address is an array there, and the address ends in a name
abbrev AreArrays : Address → List Named → Type 0
AreArrays r xs = ¬ (count_tables xs r ≡ 0) → IsNamedLast r × Has (IsArrayAt r) xs

-- a header names what its end names
pub followed_has : (P : Named → Type 0) (xs : List Named) (line : ℕ) (end : Address → List Named) (key : Key) (n : List ℕ) (at : Address)
    → Has P (end (header_end xs at (n ∷ key))) → Has P (followed line xs end at (n ∷ key))
followed_has P xs line end [] n at h = h
followed_has P xs line end (m ∷ more) n at h = inr (followed_has P xs line end more m (entered xs (child at n)) h)

line_arrays : (xs : List Named) (line : ℕ) (e : Expr) (r : Address) → AreArrays r (named_by xs line e)
line_arrays xs line (BlankLine b) r some = absurd (some refl)
line_arrays xs line (KeyValLine ws pair tail) r some = absurd (some (count_pair line (section xs) pair.assign pair.value r))
line_arrays xs line (TableLine ws header tail) r some = absurd (some (count_table xs line r (part_name header.key.first) (rest_names header.key.rest)))
line_arrays xs line (ArrayTableLine ws header tail) r some = by (same_address at r) refl
  where
    n : List ℕ
    n = part_name header.key.first

    key : Key
    key = rest_names header.key.rest

    at : Address
    at = header_end xs [] (n ∷ key)

    by : (b : Bool) → same_address at r ≡ b → IsNamedLast r × Has (IsArrayAt r) (followed line xs (ends_tables line xs) [] (n ∷ key))
    by true same = (
      subst IsNamedLast (same_is at r same) (end_named xs key n []),
      followed_has (IsArrayAt r) xs line (ends_tables line xs) key n [] (inl (same_is at r same, refl)),
    )
    by false other = absurd (some (count_array xs line r n key ∙ ap one_if other))

append_arrays : (xs ys : List Named) (r : Address) → AreArrays r xs → AreArrays r ys → AreArrays r (xs ++ ys)
append_arrays xs ys r first then some = by (count_tables xs r) refl
  where
    by : (k : ℕ) → count_tables xs r ≡ k → IsNamedLast r × Has (IsArrayAt r) (xs ++ ys)
    by zero none =
        let more = then (λ no. some (let all = count-append xs ys r in let e : count_tables (xs ++ ys) r ≡ 0 = omega (arith, all, none, no) in e)) in
        (more.0, has_append_right (IsArrayAt r) xs ys more.1)
    by (suc k) is =
        let more = first (λ no. absurd (omega (arith, is, no))) in
        (more.0, has_append_left (IsArrayAt r) xs ys more.1)

arrays_from : (ls : List Line) (xs : List Named) (n : ℕ) (r : Address) → AreArrays r xs → AreArrays r (named_from xs n ls)
arrays_from [] xs n r are = are
arrays_from (l ∷ ls) xs n r are =
    arrays_from ls (xs ++ named_by xs n l.expr) (n + 1) r (append_arrays xs (named_by xs n l.expr) r are (line_arrays xs n l.expr r))

-- What counts for an address in what lines name is an array there, and the address ends in a name.
pub counted_arrays : (lines : List Line) (r : Address) → ¬ (count_tables (named lines) r ≡ 0) → IsNamedLast r × Has (IsArrayAt r) (named lines)
counted_arrays lines r = arrays_from lines (root ∷ []) 0 r (λ some. absurd (some (count_none r root [] refl)))

-- so no address else is counted
pub count_unnamed : (lines : List Line) (r : Address) → ¬ IsNamedLast r → count_tables (named lines) r ≡ 0
count_unnamed lines r not = by (count_tables (named lines) r) refl
  where
    by : (k : ℕ) → count_tables (named lines) r ≡ k → count_tables (named lines) r ≡ 0
    by zero none = none
    by (suc k) is = absurd (not (counted_arrays lines r (λ no. absurd (omega (arith, is, no)))).0)

-- the address of an element ends in no name, nor does that of the root
pub element_unnamed : (at : Address) (i : ℕ) → ¬ IsNamedLast (element at i)
element_unnamed at i (u, n, is) = let same = (same_from_push at u (Index i) (Name n) is).1 in cc

pub root_unnamed : ¬ IsNamedLast []
root_unnamed (u, n, is) = no_end u (Name n) [] is

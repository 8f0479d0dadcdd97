-- What is named after a new element of an array of tables.
use Rattle.std.proofs.Common.{◌≡◌, ℕ, List, [], ◌∷◌, refl, sym, ap, ◌∙◌}
use Rattle.std.proofs.lemmas.List.{same_from_push}
use Rattle.std.proofs.lemmas.Option.{same_Some}
use Rattle.toml_tree.specs.Tree.{Line}
use Rattle.toml_names.specs.declared.model.address.Step.TheVariants.{Index}
use Rattle.toml_names.specs.declared.mentions.mention.Role.TheVariants.{Passed, Tables, Element}
use Rattle.toml_names.specs.mentions.Keys.{Key, key_names}
use Rattle.toml_names.specs.mentions.Mentions.{Named, an_array, count_tables, ends_tables, entered, followed, named, table_at}
use Rattle.toml_names.specs.model.Addresses.{Address, child, element}
use Rattle.toml_names.specs.reader.Names.{header_end}
use Rattle.toml_names.proofs.Proved.{alike_name_the_same}
use Rattle.toml_layout.specs.declared.tree.Brackets.TheVariants.{Two}
use Rattle.toml_working.specs.FreshKeys.{key_named}
use Rattle.toml_working.specs.Heading.{header_expr}
use Rattle.toml_working.specs.Headers.{names_of}
use Rattle.toml_editor.specs.Blocks.{IsPut, element_block, ends_element, named_plain}
use Rattle.toml_editor.proofs.written.FreshKeys.{HasNames}
use Rattle.toml_editor.proofs.written.HeaderNamed.{follows, header_names_some, names_of_element, put_block, put_names}
use Rattle.toml_editor.proofs.written.HeaderPut.{IsHeaderPut}
use Rattle.toml_editor.proofs.written.Plain.{plain_alike}

-- what a key names is the same with the same at its end
followed_end : (xs : List Named) (e f : Address → List Named) (key : Key) (at : Address) → e (header_end xs at key) ≡ f (header_end xs at key)
    → followed 0 xs e at key ≡ followed 0 xs f at key
followed_end xs e f [] at same = refl
followed_end xs e f (n ∷ []) at same = same
followed_end xs e f (n ∷ m ∷ more) at same =
    ap (λ ms. table_at 0 Passed (entered xs (child at n)) ∷ ms) (followed_end xs e f (m ∷ more) (entered xs (child at n)) same)

module _ (q : Address) (i : ℕ) (style : List ℕ) (old new : List Line) (put : IsHeaderPut Two (element q i) style old new) where
  abbrev xs : List Named
  xs = named put.front

  names_some : HasNames (names_of (element q i)) × (key_names (key_named (names_of (element q i))) ≡ names_of (element q i))
  names_some = header_names_some Two (element q i) put.ws xs put.leads

  pub element_has_names : HasNames (names_of q)
  element_has_names = let (n, ns, some) = names_some.0 in (n, ns, sym (names_of_element q i) ∙ some)

  abbrev key : Key
  key = key_names (key_named (names_of (element q i)))

  key_is : key ≡ names_of q
  key_is = names_some.1 ∙ names_of_element q i

  -- the new header's key leads to the array, which has as many tables in front
  ends_there : (header_end xs [] key ≡ q) × (Index (count_tables xs (header_end xs [] key)) ≡ Index i)
  ends_there =
      let at = header_end xs [] key in
      same_from_push at q (Index (count_tables xs at)) (Index i) (same_Some (element at (count_tables xs at)) (element q i) put.leads)

  pub element_leads : header_end xs [] (names_of q) ≡ q
  element_leads = ap (header_end xs []) (sym key_is) ∙ ends_there.0

  element_counted : count_tables xs q ≡ i
  element_counted =
      let same = ends_there.1 in
      let count : count_tables xs (header_end xs [] key) ≡ i = cc in
      ap (count_tables xs) (sym ends_there.0) ∙ count

  -- its end is the element
  ends_are : ends_tables 0 xs (header_end xs [] (names_of q)) ≡ ends_element i (header_end xs [] (names_of q))
  ends_are =
      let at = header_end xs [] (names_of q) in
      ap (λ k. record { address = at; role = Tables; kind = an_array; line = 0 } ∷ table_at 0 Element (element at k) ∷ [])
      (ap (count_tables xs) element_leads ∙ element_counted)

  -- it names what the address passes, the array and the element
  pub element_named : put_block Two (element q i) style old new put ≡ element_block q i
  element_named =
      sym (alike_name_the_same xs (named_plain put.front) (plain_alike xs) 0 (header_expr Two (element q i) put.ws))
      ∙ ap (followed 0 xs (ends_tables 0 xs) []) key_is
      ∙ followed_end xs (ends_tables 0 xs) (ends_element i) (names_of q) [] ends_are
      ∙ follows xs (ends_element i) q [] element_leads

-- The new lines name what the old ones did, and in one place what the new header names.
pub element_is_put : (q : Address) (i : ℕ) (style : List ℕ) (old new : List Line) → IsHeaderPut Two (element q i) style old new
    → IsPut (named_plain old) (element_block q i) (named_plain new)
element_is_put q i style old new put = put_names Two (element q i) style old new put (element_block q i) (element_named q i style old new put)

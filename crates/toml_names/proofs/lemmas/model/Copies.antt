-- Arrays and tables that are copied part by part.
use Rattle.toml_names.proofs.Common.{◌≡◌, ℕ, ◌+◌, ◌<◌, ◌≤◌, Bool, true, false, cond, List, [], ◌∷◌, ◌++◌, length, map, take, get_or, Option, Some, None, string_bytes, nat_cmp, is_eq, bytes_eq, refl, sym, ap, ◌∙◌, rules, take_more, take_all, map-append, is_eq-slice_cmp, bytes_eq-Decides, slice_get, is_at, get_by_text, slice_cmp, lookup, Datum, Kinds, kind_at, kind_in, within, Members, AreSame, AreSameElements, AreSameIn, AreSameMembers}
use mathlib.Core.Path.{fun_ext}
use Rattle.toml_names.proofs.lemmas.model.Alike.{Entry}
use Rattle.toml_names.proofs.lemmas.model.Levels.{item_part}

-- ---- arrays

-- so many elements were copied
abbrev pub AreCopied : ℕ → List Datum → List Datum → Type 0
AreCopied count items copies = map kind_at copies ≡ map kind_at (take count items)

pub copied_more : (items copies : List Datum) (count : ℕ) (d e : Datum) → count < length items → e ≡ get_or items count e → AreCopied count items copies → AreSame d e → AreCopied (count + 1) items (copies ++ d ∷ [])
copied_more items copies count d e low is copied alike =
    let one : kind_at d ≡ kind_at (get_or items count e) = fun_ext alike ∙ ap kind_at is in
    map-append kind_at copies (d ∷ [])
    ∙ ap (λ l. l ++ kind_at d ∷ []) copied
    ∙ ap (λ (k : Kinds). map kind_at (take count items) ++ k ∷ []) one
    ∙ sym (map-append kind_at (take count items) (get_or items count e ∷ []))
    ∙ ap (map kind_at) (sym (take_more items count e low))

pub copied_all : (items copies : List Datum) (count : ℕ) → length items ≤ count → AreCopied count items copies → AreSameElements copies items
copied_all items copies count past copied index at =
    sym (item_part copies index at)
    ∙ ap (λ (ks : List Kinds). within (slice_get ks index) at) (copied ∙ ap (map kind_at) (take_all count items past))
    ∙ item_part items index at

-- ---- tables

abbrev found : List ℕ → List Entry → Option Datum
found name es = lookup (is_at (λ k. slice_cmp nat_cmp name (string_bytes k))) es

abbrev or_part : Option Datum → Option Datum → Option Datum
or_part None p = p
or_part (Some d) p = Some d

-- with what is left the copies are like all members
abbrev pub Completes : Members → List Entry → Members → Type 0
Completes copies left all = (name : List ℕ) → AreSameIn (or_part (get_by_text copies name) (found name left)) (get_by_text all name)

or_none : (o : Option Datum) → or_part o None ≡ o
or_none None = refl
or_none (Some d) = refl

pub completed : (copies all : Members) → Completes copies [] all → AreSameMembers copies all
completed copies all done name at = ap (λ o. kind_in o at) (sym (or_none (get_by_text copies name))) ∙ done name at

pub apart : (k q : List ℕ) → bytes_eq k q ≡ false → bytes_eq q k ≡ false
apart k q h = search rules

module _ (copies more all : Members) (left rest : List Entry) (e : Entry) (d : Datum) (k : List ℕ) (is : left ≡ e ∷ rest) (key : k ≡ string_bytes e.0) (alike : AreSame d e.1) (there : get_by_text all (string_bytes e.0) ≡ Some e.1) where
  pub completes_more : Completes copies left all → ((q : List ℕ) → get_by_text more q ≡ cond (bytes_eq k q) (Some d) (get_by_text copies q)) → Completes more rest all
  completes_more completes inserted q at = ap (λ o. kind_in (or_part o (found q rest)) at) (inserted q) ∙ by (bytes_eq k q) refl (completes q at)
    where
      by : (b : Bool) → bytes_eq k q ≡ b → kind_in (or_part (get_by_text copies q) (found q left)) at ≡ kind_in (get_by_text all q) at
          → kind_in (or_part (cond b (Some d) (get_by_text copies q)) (found q rest)) at ≡ kind_in (get_by_text all q) at
      by true same was =
          let name : string_bytes e.0 ≡ q = sym key ∙ (bytes_eq-Decides k q).0 same in
          alike at ∙ ap (λ (o : Option Datum). kind_in o at) (sym there) ∙ ap (λ n. kind_in (get_by_text all n) at) name
      by false other was =
          let test : is_eq (slice_cmp nat_cmp q (string_bytes e.0)) ≡ false = is_eq-slice_cmp q (string_bytes e.0) ∙ ap (bytes_eq q) (sym key) ∙ apart k q other in
          ap (λ b. kind_in (or_part (get_by_text copies q) (cond b (Some e.1) (found q rest))) at) (sym test)
          ∙ ap (λ es. kind_in (or_part (get_by_text copies q) (found q es)) at) (sym is)
          ∙ was

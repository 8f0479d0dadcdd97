-- Data in which no table stands.
use Rattle.std.proofs.Common.{◌≡◌, ℕ, Bool, true, false, cond, List, [], ◌∷◌, Option, Some, None, String, Global, string_bytes, is_eq, nat_cmp, refl, sym, ap, subst, ◌∙◌}
use Rattle.std.specs.BTreeMap.{is_at}
use Rattle.std.specs.Cmp.Lexicographic.{slice_cmp}
use Rattle.std.specs.Map.{lookup}
use Rattle.std.specs.Prelude.{slice_get}
use Rattle.toml_scalar.specs.Values.{scalar_value}
use Rattle.toml_scalar.specs.declared.scalar.Scalar.{Scalar as Token}
use Rattle.toml_names.specs.declared.model.address.Step.TheVariants.{Name, Index}
use Rattle.toml_names.specs.declared.model.datum.Datum.{Datum, Scalar, Array, Table}
use Rattle.toml_names.specs.mentions.Mentions.{Kind, a_scalar, a_table, an_array}
use Rattle.toml_names.specs.model.Addresses.{Address}
use Rattle.toml_names.specs.model.Data.{Kinds, kind_at, kind_in}
use Rattle.toml_names.specs.model.Levels.{Elements, Members}
use Rattle.toml_names.proofs.Proved.{kind_at-scalar, scalar-below, array-here, array-item, array-name, table-member, table-index}
use Rattle.toml_working.specs.FlatTables.{IsFlat}

-- no table stands in it
abbrev pub HasNoTable : Kinds → Type 0
HasNoTable kinds = (a : Address) → ¬ (kinds a ≡ Some a_table)

abbrev pub Entry : Type 0
Entry = String Global × Datum

-- nor in any of the members
abbrev pub NoneHasTable : List Entry → Type 0
NoneHasTable [] = Unit {0}
NoneHasTable (e ∷ es) = HasNoTable (kind_at e.1) × NoneHasTable es

pub scalar_has_none : (s : Token) → HasNoTable (kind_at (Scalar s))
scalar_has_none s [] is = let e : ◌≡◌ {A = Option Kind} (Some (a_scalar (scalar_value s))) (Some a_table) = sym (ap (λ (f : Kinds). f []) (kind_at-scalar s)) ∙ is in cc
scalar_has_none s (t ∷ a) is = let e : ◌≡◌ {A = Option Kind} None (Some a_table) = sym (scalar-below s t a) ∙ is in cc

pub scalars_have_none : (ds : List Datum) → ((i : ℕ) (d : Datum) → slice_get ds i ≡ Some d → (s : Token) × (d ≡ Scalar s)) → (i : ℕ) → HasNoTable (kind_in (slice_get ds i))
scalars_have_none ds are i a = by (slice_get ds i) refl
  where
    by : (o : Option Datum) → slice_get ds i ≡ o → ¬ (kind_in o a ≡ Some a_table)
    by None is h = cc
    by (Some d) is h = let s = are i d is in scalar_has_none s.0 a (subst (λ (x : Datum). kind_at x a ≡ Some a_table) s.1 h)

pub array_has_none : (v : Elements) (ds : List Datum) → ds ≡ v.items → ((i : ℕ) (d : Datum) → slice_get ds i ≡ Some d → (s : Token) × (d ≡ Scalar s)) → HasNoTable (kind_at (Array v))
array_has_none v ds these are [] is = let e : ◌≡◌ {A = Option Kind} (Some an_array) (Some a_table) = sym (array-here v) ∙ is in cc
array_has_none v ds these are (Name n ∷ a) is = let e : ◌≡◌ {A = Option Kind} None (Some a_table) = sym (array-name v n a) ∙ is in cc
array_has_none v ds these are (Index i ∷ a) is =
    scalars_have_none ds are i a (ap (λ (xs : List Datum). kind_in (slice_get xs i) a) these ∙ sym (array-item v i a) ∙ is)

-- what a look-up finds has none either
pub found_has_none : (es : List Entry) → NoneHasTable es → (name : List ℕ) → HasNoTable (kind_in (lookup (is_at (λ k. slice_cmp nat_cmp name (string_bytes k))) es))
found_has_none [] none name = λ a is. cc
found_has_none (e ∷ es) none name = by (is_eq (slice_cmp nat_cmp name (string_bytes e.0))) (found_has_none es none.1 name)
  where
    by : (b : Bool) → HasNoTable (kind_in (lookup (is_at (λ k. slice_cmp nat_cmp name (string_bytes k))) es)) → HasNoTable (kind_in (cond b (Some e.1) (lookup (is_at (λ k. slice_cmp nat_cmp name (string_bytes k))) es)))
    by true later = none.0
    by false later = later

pub table_is_flat : (m : Members) → NoneHasTable m.entries → IsFlat (Some (Table m))
table_is_flat m none (Name n) a is = found_has_none m.entries none n a (sym (table-member m n a) ∙ is)
table_is_flat m none (Index i) a is = let e : ◌≡◌ {A = Option Kind} None (Some a_table) = sym (table-index m i a) ∙ is in cc

-- as a table of these members
pub found_is_flat : (found : Option Datum) (m : Members) (es : List Entry) → found ≡ Some (Table m) → es ≡ m.entries → NoneHasTable es → IsFlat found
found_is_flat found m es is these none = rw is (table_is_flat m (subst NoneHasTable these none))

-- ---- of what a loop went over

pub none_more : (es left : List Entry) (e : Entry) → es ≡ e ∷ left → HasNoTable (kind_at e.1) → NoneHasTable left → NoneHasTable es
none_more es left e is here none = subst NoneHasTable (sym is) (here, none)

pub none_left : (es : List Entry) → es ≡ [] → NoneHasTable es
none_left es is = subst NoneHasTable (sym is) tt

-- Data that are the same, level by level.
use Rattle.std.specs.Prelude.{◌≡◌, ◌↔◌, ℕ, List, Option, IsSome, slice_get}
use Rattle.std.specs.BTreeMap.{get_by_text}
use Rattle.toml_scalar.specs.declared.scalar.Scalar.{Scalar as Token}
use Rattle.toml_scalar.specs.Values.{scalar_value}
use Rattle.toml_names.specs.declared.model.datum.Datum.{Datum, Scalar, Array, Table}
use Rattle.toml_names.specs.model.Addresses.{Address}
use Rattle.toml_names.specs.model.Data.{kind_at, kind_in}
use Rattle.toml_names.specs.model.Levels.{Elements, Members}

-- the same stands at each address
abbrev pub AreSame : Datum → Datum → Type 0
AreSame d e = (at : Address) → kind_at d at ≡ kind_at e at

-- the same of parts that may not be there
abbrev pub AreSameIn : Option Datum → Option Datum → Type 0
AreSameIn o p = (at : Address) → kind_in o at ≡ kind_in p at

-- elements that are the same, index by index, and members, name by name
abbrev pub AreSameElements : List Datum → List Datum → Type 0
AreSameElements ds es = (i : ℕ) → AreSameIn (slice_get ds i) (slice_get es i)

abbrev pub AreSameMembers : Members → Members → Type 0
AreSameMembers m n = (name : List ℕ) → AreSameIn (get_by_text m name) (get_by_text n name)

-- each member of the first table is in the second under its name, and the same
abbrev pub AreMembersOf : Members → Members → Type 0
AreMembersOf m n = (name : List ℕ) → IsSome (get_by_text m name) → AreSameIn (get_by_text m name) (get_by_text n name)

-- the first table has each name of the second
abbrev pub HasAllNames : Members → Members → Type 0
HasAllNames m n = (name : List ℕ) → IsSome (get_by_text n name) → IsSome (get_by_text m name)

-- Laws: scalars are the same where their values are, arrays where they are so at each index,
abbrev pub SameScalars : Type 0
SameScalars = (s t : Token) → (scalar_value s ≡ scalar_value t) ↔ AreSame (Scalar s) (Scalar t)

abbrev pub SameArrays : Type 0
SameArrays = (v w : Elements) → AreSameElements v.items w.items ↔ AreSame (Array v) (Array w)

-- and tables where they are so at each name.
abbrev pub SameTables : Type 0
SameTables = (m n : Members) → AreSameMembers m n ↔ AreSame (Table m) (Table n)

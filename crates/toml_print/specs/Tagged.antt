-- Tagged JSON, toml-test's convention: which JSON stands for data.
use Rattle.std.specs.Prelude.{◌≡◌, ◌⊎◌, ◌+◌, ℕ, List, [], ◌∷◌, Contains, IsSome, Some, None, String, codes, true, false}
use Rattle.std.specs.Cmp.Lexicographic.{slice_cmp}
use Rattle.std.specs.Fmt.{signed_decimal}
use Rattle.std.specs.List.Sorted.{IsStrictlySortedBy}
use Rattle.std.specs.Ordering.{nat_cmp}
use Rattle.std.specs.declared.alloc.Global.{Global}
use Rattle.serde_json.specs.Data.{Data, null, boolean, number, string, array, object, Items, no_items, item, Members, no_members, member}
use Rattle.toml_scalar.specs.Values.{ScalarValue, Text, Integer, Float, Boolean, Moment}
use Rattle.toml_scalar.specs.declared.kind.MomentKind.{MomentKind}
use Rattle.toml_scalar.specs.declared.kind.MomentKind.TheVariants.{Offset, Local, Date, Time}
use Rattle.toml_names.specs.declared.model.address.Step.{Step}
use Rattle.toml_names.specs.declared.model.address.Step.TheVariants.{Name, Index}
use Rattle.toml_names.specs.declared.model.datum.Datum.{Datum}
use Rattle.toml_names.specs.model.Data.{Kinds, kind_at}
use Rattle.toml_names.specs.mentions.Mentions.{a_table, an_array, a_scalar}

-- the type that is told of a date or a time
abbrev pub moment_tag : MomentKind → List ℕ
moment_tag Offset = codes "datetime"
moment_tag Local = codes "datetime-local"
moment_tag Date = codes "date-local"
moment_tag Time = codes "time-local"

-- the type that is told of a scalar
abbrev pub tag_of : ScalarValue → List ℕ
tag_of (Text v) = codes "string"
tag_of (Integer n) = codes "integer"
tag_of (Float v) = codes "float"
tag_of (Boolean b) = codes "bool"
tag_of (Moment kind v) = moment_tag kind

-- the text that is told of it: an integer in decimal, a float, a date or a time in its normalised spelling
abbrev pub text_of : ScalarValue → List ℕ
text_of (Text v) = v
text_of (Integer n) = signed_decimal n
text_of (Float v) = v
text_of (Boolean true) = codes "true"
text_of (Boolean false) = codes "false"
text_of (Moment kind v) = v

-- `"type": tag, "value": text`
abbrev pub told : List ℕ → List ℕ → Members
told tag text = member (codes "type") (string tag) (member (codes "value") (string text) no_members)

abbrev pub keys : Members → List (List ℕ)
keys no_members = []
keys (member k d ms) = k ∷ keys ms

-- the data below a step
abbrev pub part : Kinds → Step → Kinds
part f s at = f (s ∷ at)

-- each name where something stands is a key, and the keys ascend by their bytes
pub record HasKeys (f : Kinds) (ms : Members) : Type 0 where
  pub each : (n : List ℕ) → IsSome (f (Name n ∷ [])) → Contains (keys ms) n
  pub ascending : IsStrictlySortedBy (slice_cmp nat_cmp) (keys ms)

-- the members tell the scalar that stands here
abbrev pub TellsScalar : Kinds → Members → Type 0
TellsScalar f ms = (v : ScalarValue) × (f [] ≡ Some (a_scalar v)) × (ms ≡ told (tag_of v) (text_of v))

abbrev mutual
  -- The JSON stands for the data: a list for an array, an object for a table or for a scalar, and nothing else for anything.
  pub IsTagged : Kinds → Data → Type 0
  IsTagged f null = ⊥
  IsTagged f (boolean b) = ⊥
  IsTagged f (number n) = ⊥
  IsTagged f (string s) = ⊥
  IsTagged f (array ds) = (f [] ≡ Some an_array) × AreItems f 0 ds
  IsTagged f (object ms) = ((f [] ≡ Some a_table) × AreMembers f ms × HasKeys f ms) ⊎ TellsScalar f ms

  -- each item stands for what is at its index, from one index on, and nothing stands behind the last
  pub AreItems : Kinds → ℕ → Items → Type 0
  AreItems f i no_items = f (Index i ∷ []) ≡ None
  AreItems f i (item d ds) = IsTagged (part f (Index i)) d × AreItems f (i + 1) ds

  -- each member stands for what is at its name
  pub AreMembers : Kinds → Members → Type 0
  AreMembers f no_members = Unit {0}
  AreMembers f (member k d ms) = IsTagged (part f (Name k)) d × AreMembers f ms

-- an entry, its datum seen as its map
abbrev pub kinds_of : String Global × Datum → String Global × Kinds
kinds_of e = (e.0, kind_at e.1)

-- Law: data have at most one tagged JSON.
abbrev pub OneTagged : Type 0
OneTagged = (f : Kinds) (j k : Data) → IsTagged f j → IsTagged f k → j ≡ k

-- What a scalar's token and a key part mean: the relation, and the plain functions beside it.
use Rattle.std.specs.Prelude.{◌≡◌, ◌⊎◌, ◌==◌, ℕ, ℤ, Bool, true, false, if◌then◌else◌, List, length, Option, Some, None, option_map, not, codes}
use Rattle.std.specs.String.{string_bytes}
use Rattle.toml_text.specs.Bytes.{is_bare}
use Rattle.toml_text.specs.Runs.{run_len, begins}
use Rattle.toml_scalar.specs.Booleans.{is_bool, bool_value}
use Rattle.toml_scalar.specs.Floats.{IsFloat, float_text}
use Rattle.toml_scalar.specs.FloatRuns.{is_float}
use Rattle.toml_scalar.specs.Integers.{IsInteger, integer_value}
use Rattle.toml_scalar.specs.IntegerRuns.{is_integer}
use Rattle.toml_scalar.specs.Moments.{IsMoment, moment_text}
use Rattle.toml_scalar.specs.MomentRuns.{moment_kind}
use Rattle.toml_scalar.specs.Strings.{MeansString}
use Rattle.toml_scalar.specs.StringRuns.{kind_at, string_value, is_multi_line}
use Rattle.toml_scalar.specs.declared.kind.MomentKind.{MomentKind}
use Rattle.toml_scalar.specs.declared.kind.MomentKind.TheVariants as moments
use Rattle.toml_scalar.specs.declared.kind.ScalarKind.{ScalarKind}
use Rattle.toml_scalar.specs.declared.kind.ScalarKind.TheVariants as kinds
use Rattle.toml_scalar.specs.declared.strings.kind.StringKind.{StringKind}
use Rattle.toml_scalar.specs.declared.scalar.Scalar.{Scalar}
use Rattle.toml_scalar.specs.declared.scalar.Scalar.TheVariants as scalars

-- a scalar's value: a string's characters in UTF-8, a number, a float's normalised spelling, a truth value, or a moment's kind and normalised spelling
pub data ScalarValue : Type 0 where
  Text : List ℕ → ScalarValue
  Integer : ℤ → ScalarValue
  Float : List ℕ → ScalarValue
  Boolean : Bool → ScalarValue
  Moment : MomentKind → List ℕ → ScalarValue

-- the value that a token of a kind spells
abbrev pub Means : ScalarKind → List ℕ → ScalarValue → Type 0
Means kinds.Text bs d = (v : List ℕ) × (d ≡ Text v) × ((kind : StringKind) × MeansString kind bs v)
Means kinds.Integer bs d = IsInteger bs × (d ≡ Integer (integer_value bs))
Means kinds.Float bs d = IsFloat bs × (d ≡ Float (float_text bs))
Means kinds.Bool bs d = ((bs ≡ codes "true") × (d ≡ Boolean true)) ⊎ ((bs ≡ codes "false") × (d ≡ Boolean false))
Means (kinds.Moment kind) bs d = IsMoment kind bs × (d ≡ Moment kind (moment_text bs))

abbrev pub given : {A : Type 0} → Bool → A → Option A
given test x = if test then Some x else None

-- the moment kinds as numbers
abbrev pub moment_number : MomentKind → ℕ
moment_number moments.Offset = 0
moment_number moments.Local = 1
moment_number moments.Date = 2
moment_number moments.Time = 3

abbrev pub is_moment_kind : MomentKind → Option MomentKind → Bool
is_moment_kind kind None = false
is_moment_kind kind (Some found) = moment_number found == moment_number kind

-- the value of the bytes, where they are a token of the kind
unfoldable pub scalar_of : ScalarKind → List ℕ → Option ScalarValue
scalar_of kinds.Text bs = option_map Text (string_value bs)
scalar_of kinds.Integer bs = given (is_integer bs) (Integer (integer_value bs))
scalar_of kinds.Float bs = given (is_float bs) (Float (float_text bs))
scalar_of kinds.Bool bs = given (is_bool bs) (Boolean (bool_value bs))
scalar_of (kinds.Moment kind) bs = given (is_moment_kind kind (moment_kind bs)) (Moment kind (moment_text bs))

abbrev pub is_one_line : Option StringKind → Bool
is_one_line None = false
is_one_line (Some kind) = not (is_multi_line kind)

-- the value of the bytes, where they are a string of one line
abbrev pub quoted_name : List ℕ → Option (List ℕ)
quoted_name bs = if is_one_line (kind_at bs) then string_value bs else None

-- the name of the bytes, where they are a key part
unfoldable pub name_of : List ℕ → Option (List ℕ)
name_of bs = if begins is_bare bs then given (run_len is_bare bs == length bs) bs else quoted_name bs

-- the value that a `Scalar` holds
abbrev pub scalar_value : Scalar → ScalarValue
scalar_value (scalars.Text s) = Text (string_bytes s)
scalar_value (scalars.Integer n) = Integer n
scalar_value (scalars.Float f) = Float (string_bytes f.text)
scalar_value (scalars.Bool b) = Boolean b
scalar_value (scalars.Moment m) = Moment m.kind (string_bytes m.text)

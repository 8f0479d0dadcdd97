-- Laws: the plain tests of runs answer yes to the forms of integers, floats and booleans, and to nothing else; an integer out of range is of the form too.
use Rattle.std.specs.Prelude.{◌≡◌, ◌⊎◌, ℕ, true, List}
use Rattle.toml_scalar.specs.Booleans.{IsBool, is_bool}
use Rattle.toml_scalar.specs.Floats.{IsFloat}
use Rattle.toml_scalar.specs.FloatRuns.{is_float}
use Rattle.toml_scalar.specs.Integers.{IsDecimal, IsBased, FitsInteger, IsInteger}
use Rattle.toml_scalar.specs.IntegerRuns.{is_integer_form, fits_integer, is_integer}

abbrev pub IntegerIsForm : Type 0
IntegerIsForm = (bs : List ℕ) → is_integer bs ≡ true → IsInteger bs

abbrev pub FormIsInteger : Type 0
FormIsInteger = (bs : List ℕ) → IsInteger bs → is_integer bs ≡ true

abbrev pub IntegerFormIsForm : Type 0
IntegerFormIsForm = (bs : List ℕ) → is_integer_form bs ≡ true → IsDecimal bs ⊎ IsBased bs

abbrev pub FormIsIntegerForm : Type 0
FormIsIntegerForm = (bs : List ℕ) → IsDecimal bs ⊎ IsBased bs → is_integer_form bs ≡ true

abbrev pub FittingFits : Type 0
FittingFits = (bs : List ℕ) → fits_integer bs ≡ true → FitsInteger bs

abbrev pub FitsIsFitting : Type 0
FitsIsFitting = (bs : List ℕ) → FitsInteger bs → fits_integer bs ≡ true

abbrev pub FloatIsForm : Type 0
FloatIsForm = (bs : List ℕ) → is_float bs ≡ true → IsFloat bs

abbrev pub FormIsFloat : Type 0
FormIsFloat = (bs : List ℕ) → IsFloat bs → is_float bs ≡ true

abbrev pub BoolIsForm : Type 0
BoolIsForm = (bs : List ℕ) → is_bool bs ≡ true → IsBool bs

abbrev pub FormIsBool : Type 0
FormIsBool = (bs : List ℕ) → IsBool bs → is_bool bs ≡ true

-- The faults of what stands at a place are at that place.
use Rattle.std.proofs.Common.{ℕ, Bool, true, false, cond, ◌==◌, not, List, take, refl}
use Rattle.toml_text.specs.Runs.{begins}
use Rattle.toml_scalar.specs.IntegerRuns.{is_integer_form}
use Rattle.toml_scalar.specs.Scanning.{is_mark, value_len}
use Rattle.toml_scalar.specs.Faults.{IsAt, begins_control, byte_fault, begins_moment, is_number_start, run_fault, scalar_fault, key_fault, value_fault}
use Rattle.toml_scalar.specs.declared.fault.SyntaxFault.{SyntaxFault}
use Rattle.toml_scalar.specs.declared.kind.ScalarKind.{ScalarKind}
use Rattle.toml_scalar.specs.declared.kind.ScalarKind.TheVariants as kinds

either_at : (at : ℕ) (test : Bool) (e f : SyntaxFault) → IsAt at e → IsAt at f → IsAt at (cond test e f)
either_at at true e f he hf = he
either_at at false e f he hf = hf

byte_fault_at : (bs : List ℕ) (at : ℕ) → IsAt at (byte_fault bs at)
byte_fault_at bs at = either_at at (begins_control bs) _ _ refl refl

run_fault_at : (run : List ℕ) (at : ℕ) → IsAt at (run_fault run at)
run_fault_at run at = either_at at (begins_moment run) _ _ refl (either_at at (not (begins is_number_start run)) _ _ refl (either_at at (is_integer_form run) _ _ refl refl))

pub scalar_fault_at : (bs : List ℕ) (at : ℕ) → IsAt at (scalar_fault bs at)
unfolding scalar_fault
scalar_fault_at bs at = either_at at (begins is_mark bs) _ _ refl (either_at at (value_len bs == 0) _ _ (byte_fault_at bs at) (run_fault_at (take (value_len bs) bs) at))

pub key_fault_at : (bs : List ℕ) (at : ℕ) → IsAt at (key_fault bs at)
unfolding key_fault
key_fault_at bs at = either_at at (begins is_mark bs) _ _ refl (byte_fault_at bs at)

pub value_fault_at : (kind : ScalarKind) (bs : List ℕ) (at : ℕ) → IsAt at (value_fault kind bs at)
value_fault_at kinds.Text bs at = refl
value_fault_at kinds.Integer bs at = either_at at (is_integer_form bs) _ _ refl refl
value_fault_at kinds.Float bs at = refl
value_fault_at kinds.Bool bs at = refl
value_fault_at (kinds.Moment kind) bs at = refl

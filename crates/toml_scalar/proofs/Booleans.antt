-- The plain function tells which runs are booleans, and a boolean is a run of the bytes of values.
use Rattle.std.proofs.Common.{◌≡◌, ℕ, true, List, ◌++◌, refl, sym, subst, inl, inr, ⊎_elim}
use Rattle.std.proofs.lemmas.Bool.{or_cases, or_left, or_right}
use Rattle.std.proofs.lemmas.Slice.Eq.{bytes_eq-Decides}
use Rattle.std.specs.Prelude.{codes}
use Rattle.toml_text.specs.Forms.{Each}
use Rattle.toml_text.specs.Runs.{begins}
use Rattle.toml_scalar.specs.Runs.{is_value_byte}
use Rattle.toml_scalar.specs.Booleans.{IsBool, is_bool}

pub bool_sound : (bs : List ℕ) → is_bool bs ≡ true → IsBool bs
bool_sound bs h = ⊎_elim (λ e. inl ((bytes_eq-Decides bs (codes "true")).0 e)) (λ e. inr ((bytes_eq-Decides bs (codes "false")).0 e)) (or_cases _ _ h)

pub bool_complete : (bs : List ℕ) → IsBool bs → is_bool bs ≡ true
bool_complete bs h = ⊎_elim (λ e. or_left _ _ ((bytes_eq-Decides bs (codes "true")).1 e)) (λ e. or_right _ _ ((bytes_eq-Decides bs (codes "false")).1 e)) h

-- what holds of the two booleans holds of each
pub bool_either : (P : List ℕ → Type 0) → P (codes "true") → P (codes "false") → (bs : List ℕ) → IsBool bs → P bs
bool_either P at_true at_false bs h = ⊎_elim (λ e. subst P (sym e) at_true) (λ e. subst P (sym e) at_false) h

pub bool_run : (bs : List ℕ) → IsBool bs → Each is_value_byte bs
bool_run = bool_either (Each is_value_byte) (refl, (refl, (refl, (refl, tt)))) (refl, (refl, (refl, (refl, (refl, tt)))))

pub bool_some : (bs rest : List ℕ) → IsBool bs → begins is_value_byte (bs ++ rest) ≡ true
bool_some bs rest h = bool_either (λ xs. begins is_value_byte (xs ++ rest) ≡ true) refl refl bs h

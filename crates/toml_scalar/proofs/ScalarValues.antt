-- The value that is computed of a text is the one that it means.
use Rattle.std.proofs.Common.{◌≡◌, ℕ, Bool, true, false, cond, eqb, List, Option, Some, None, option_map, codes, ◌⊎◌, inl, inr, refl, sym, ap, ◌∙◌}
use Rattle.std.proofs.lemmas.Bool.{false≢true, eqb-true, eq-eqb, cond-true}
use Rattle.std.proofs.lemmas.Option.{none-some, same_Some}
use Rattle.toml_scalar.specs.Booleans.{is_bool, bool_value}
use Rattle.toml_scalar.specs.Floats.{float_text}
use Rattle.toml_scalar.specs.FloatRuns.{is_float}
use Rattle.toml_scalar.specs.Integers.{integer_value}
use Rattle.toml_scalar.specs.IntegerRuns.{is_integer}
use Rattle.toml_scalar.specs.Moments.{moment_text}
use Rattle.toml_scalar.specs.MomentRuns.{moment_kind}
use Rattle.toml_scalar.specs.StringRuns.{string_value}
use Rattle.toml_scalar.specs.Values.{ScalarValue, Text, Integer, Float, Boolean, Moment, Means, given, moment_number, is_moment_kind, scalar_of}
use Rattle.toml_scalar.specs.ValueLaws.{TokenHasValue, ValueIsOfToken, ScalarIsFound, ScalarIsMeant, OneScalarValue}
use Rattle.toml_scalar.specs.declared.kind.MomentKind.{MomentKind}
use Rattle.toml_scalar.specs.declared.kind.MomentKind.TheVariants as moments
use Rattle.toml_scalar.specs.declared.kind.ScalarKind.TheVariants as kinds
use Rattle.toml_scalar.proofs.Booleans.{bool_sound}
use Rattle.toml_scalar.proofs.Floats.{float_sound, float_complete}
use Rattle.toml_scalar.proofs.Integers.{integer_sound, integer_complete}
use Rattle.toml_scalar.proofs.Moments.{moment_sound, moment_complete}
use Rattle.toml_scalar.proofs.ScanSound.{option_map_some}
use Rattle.toml_scalar.proofs.StringLaws.{value_found, value_means}

pub given_some : {A : Type 0} (test : Bool) (x y : A) → given test x ≡ Some y → (test ≡ true) × (x ≡ y)
given_some true x y h = (refl, same_Some x y h)
given_some false x y h = absurd (none-some y h)

pub given_true : {A : Type 0} (test : Bool) (x : A) → test ≡ true → given test x ≡ Some x
given_true test x h = cond-true test (Some x) None h

abbrev kind_by : ℕ → MomentKind
kind_by n = cond (eqb n 0) moments.Offset (cond (eqb n 1) moments.Local (cond (eqb n 2) moments.Date moments.Time))

numbered : (kind : MomentKind) → kind_by (moment_number kind) ≡ kind
numbered moments.Offset = refl
numbered moments.Local = refl
numbered moments.Date = refl
numbered moments.Time = refl

kind_is : (kind : MomentKind) (found : Option MomentKind) → is_moment_kind kind found ≡ true → found ≡ Some kind
kind_is kind None h = absurd (false≢true h)
kind_is kind (Some j) h = ap Some (sym (numbered j) ∙ ap kind_by (eqb-true (moment_number j) (moment_number kind) h) ∙ numbered kind)

bool_meant : (bs : List ℕ) (d : ScalarValue) → (bs ≡ codes "true") ⊎ (bs ≡ codes "false") → Boolean (bool_value bs) ≡ d → Means kinds.Bool bs d
bool_meant bs d (inl h) is = inl (h, sym is ∙ ap (λ (x : List ℕ). Boolean (bool_value x)) h)
bool_meant bs d (inr h) is = inr (h, sym is ∙ ap (λ (x : List ℕ). Boolean (bool_value x)) h)

pub scalar_meant : ScalarIsMeant
unfolding scalar_of
scalar_meant kinds.Text bs v h =
    let m = option_map_some Text (string_value bs) v h in
    let k = value_means bs m.0 m.1 in
    (m.0, sym m.2, k)
scalar_meant kinds.Integer bs v h = let g = given_some (is_integer bs) (Integer (integer_value bs)) v h in (integer_sound bs g.0, sym g.1)
scalar_meant kinds.Float bs v h = let g = given_some (is_float bs) (Float (float_text bs)) v h in (float_sound bs g.0, sym g.1)
scalar_meant kinds.Bool bs v h = let g = given_some (is_bool bs) (Boolean (bool_value bs)) v h in bool_meant bs v (bool_sound bs g.0) g.1
scalar_meant (kinds.Moment kind) bs v h =
    let g = given_some (is_moment_kind kind (moment_kind bs)) (Moment kind (moment_text bs)) v h in
    (moment_sound bs kind (kind_is kind (moment_kind bs) g.0), sym g.1)

pub scalar_found : ScalarIsFound
unfolding scalar_of
scalar_found kinds.Text bs v (text, is, string) = ap (option_map Text) (value_found string.0 bs text string.1) ∙ ap Some (sym is)
scalar_found kinds.Integer bs v (form, is) = given_true (is_integer bs) _ (integer_complete bs form) ∙ ap Some (sym is)
scalar_found kinds.Float bs v (form, is) = given_true (is_float bs) _ (float_complete bs form) ∙ ap Some (sym is)
scalar_found kinds.Bool bs v (inl h) = ap (λ (x : List ℕ). given (is_bool x) (Boolean (bool_value x))) h.0 ∙ ap Some (sym h.1)
scalar_found kinds.Bool bs v (inr h) = ap (λ (x : List ℕ). given (is_bool x) (Boolean (bool_value x))) h.0 ∙ ap Some (sym h.1)
scalar_found (kinds.Moment kind) bs v (form, is) =
    given_true (is_moment_kind kind (moment_kind bs)) _ (ap (is_moment_kind kind) (moment_complete bs kind form) ∙ eq-eqb (moment_number kind) (moment_number kind) refl) ∙ ap Some (sym is)

pub one_scalar_value : OneScalarValue
one_scalar_value kind bs v w means_v means_w = same_Some v w (sym (scalar_found kind bs v means_v) ∙ scalar_found kind bs w means_w)

pub token_has_value : TokenHasValue
token_has_value kinds.Text bs (kind, string) = (Text string.0, (string.0, refl, (kind, string.1)))
token_has_value kinds.Integer bs is = (Integer (integer_value bs), (is, refl))
token_has_value kinds.Float bs is = (Float (float_text bs), (is, refl))
token_has_value kinds.Bool bs (inl is) = (Boolean true, inl (is, refl))
token_has_value kinds.Bool bs (inr is) = (Boolean false, inr (is, refl))
token_has_value (kinds.Moment kind) bs is = (Moment kind (moment_text bs), (is, refl))

pub value_is_of_token : ValueIsOfToken
value_is_of_token kinds.Text bs v (text, is, string) = (string.0, (text, string.1))
value_is_of_token kinds.Integer bs v (is, value) = is
value_is_of_token kinds.Float bs v (is, value) = is
value_is_of_token kinds.Bool bs v (inl h) = inl h.0
value_is_of_token kinds.Bool bs v (inr h) = inr h.0
value_is_of_token (kinds.Moment kind) bs v (is, value) = is

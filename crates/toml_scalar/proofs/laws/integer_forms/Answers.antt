use Rattle.toml_scalar.proofs.Integers.{integer_form_sound, integer_form_complete, fits_sound, fits_complete}
use Rattle.toml_scalar.proofs.laws.integer_forms.Goals as goal

pub returns-clause-form : goal.returns-clause-form
returns-clause-form c = integer_form_sound

pub returns-clause-form_found : goal.returns-clause-form_found
returns-clause-form_found c = integer_form_complete

pub returns-clause-range : goal.returns-clause-range
returns-clause-range c = fits_sound

pub returns-clause-range_found : goal.returns-clause-range_found
returns-clause-range_found c = fits_complete

-- What is printed of a part is what stands at its place.
use Rattle.std.proofs.Common.{◌≡◌, ◌++◌, ℕ, List, [], Option, Some, None, IsSome, is_some, true, false, sym, ap, ◌∙◌, subst}
use Rattle.std.proofs.Math.Path.{fun_ext}
use Rattle.std.proofs.lemmas.List.{append-nil}
use Rattle.toml_scalar.specs.Values.{ScalarValue}
use Rattle.toml_names.specs.mentions.Mentions.{a_scalar}
use Rattle.toml_names.specs.model.Addresses.{Address}
use Rattle.toml_names.specs.model.Data.{Kinds, IsClosed}
use Rattle.toml_names.specs.reader.Parts.{part_kinds}
use Rattle.toml_names.specs.tree.Nodes.{Spot}
use Rattle.toml_places.specs.Leading.{LeadsTo, LeadsNowhere, below_steps}
use Rattle.toml_places.specs.Parts.{Stands}
use Rattle.toml_places.specs.declared.place.PlaceStep.{PlaceStep}
use Rattle.toml_places.proofs.Proved.{one_address, below_steps_closed, part_is_there}
use Rattle.toml_print.specs.JsonTexts.{scalar_text, text_with, tagged_scalar}
use Rattle.toml_print.specs.Printed.{IsPrinted, NothingAt, PrintsAt, plain_text, standing}
use Rattle.toml_print.specs.Trees.{scalar}
use Rattle.toml_print.specs.Writing.{Writes, PrintsBehind}
use Rattle.toml_print.specs.declared.form.Form.{Form}
use Rattle.toml_print.specs.declared.form.Form.TheVariants.{Plain, Tagged}
use Rattle.toml_print.specs.declared.style.Style.TheVariants as styles
use Rattle.toml_print.proofs.TreesTagged.{tagged_text_is}

-- a scalar by its text
pub scalar_behind : (f : Kinds) (v : ScalarValue) (old new : List ℕ) (text : List ℕ) → f [] ≡ Some (a_scalar v) → text ≡ plain_text (scalar v) → new ≡ old ++ text → PrintsBehind Plain f old new
scalar_behind f v old new text here told written = (text, record { tree = scalar v; of_data = here; is = told }, written)

pub tagged_printed : (f : Kinds) (old new : List ℕ) → Writes (scalar_text styles.Tagged) f old new → PrintsBehind Tagged f old new
tagged_printed f old new w = (text_with tagged_scalar w.tree, record { tree = w.tree; of_data = w.of_data; is = sym (tagged_text_is w.tree) }, w.is)

-- in closed data a step leads to what stands there
standing_is : (kinds : Kinds) (at : Address) → IsClosed kinds → below_steps at kinds ≡ standing kinds at
standing_is kinds at closed = fun_ext (λ rest. below_steps_closed kinds at rest closed)

pub nowhere : (kinds : Kinds) (place : List PlaceStep) → LeadsNowhere kinds place → NothingAt kinds place
nowhere kinds place none at leads = absurd (none at leads)

module _ (kinds : Kinds) (place : List PlaceStep) (parts : List Spot) (at : Address) (closed : IsClosed kinds) (leads : LeadsTo kinds place at) where
  pub nothing_there : Stands parts None (below_steps at kinds) → NothingAt kinds place
  nothing_there none other there =
      let same : other ≡ at = one_address kinds place other at there leads in
      ap kinds same ∙ ap kinds (sym (append-nil at)) ∙ sym (below_steps_closed kinds at [] closed) ∙ none

  pub something_there : (id : ℕ) → Stands parts (Some id) (below_steps at kinds) → part_kinds parts id ≡ standing kinds at
  something_there id stands = sym (fun_ext stands.1) ∙ standing_is kinds at closed

  pub part_printed : (form : Form) (id : ℕ) (text : List ℕ) → Stands parts (Some id) (below_steps at kinds) → IsPrinted form (part_kinds parts id) text → PrintsAt form kinds place text
  part_printed form id text stands printed = (at, leads, subst (λ f. IsPrinted form f text) (something_there id stands) printed)

  pub there : (part : Option ℕ) → is_some part ≡ true → Stands parts part (below_steps at kinds) → IsSome (kinds at)
  there None some stands = let e : false ≡ true = some in cc
  there (Some id) some stands =
      let here : kinds (at ++ []) ≡ kinds at = ap kinds (append-nil at) in
      ap is_some (sym here) ∙ ap (λ (f : Kinds). is_some (f [])) (sym (something_there id stands)) ∙ part_is_there parts id stands.0

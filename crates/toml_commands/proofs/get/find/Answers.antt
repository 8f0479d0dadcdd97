use Rattle.toml_names.specs.reader.Parts.{part_kinds}
use Rattle.toml_commands.specs.declared.get.GetForm.TheVariants.{Printed, Toml}
use Rattle.toml_commands.proofs.Gotten.{finds_form, finds_spelled, told}
use Rattle.toml_commands.proofs.get.find.Goals as goal
use Rattle.toml_commands.proofs.get.find.Goals.{in-Printed+in_ok-found-in-Printed, in-Toml+in_ok-found-in-Toml}

pub returns-clause-found : goal.returns-clause-found
returns-clause-found c =
    let good = c.in_ok-names.ensures.facts in
    let profile = c.args.profile in
    let file = c.args.file.now in
    let kinds = part_kinds c.in_ok-names.names 0 in
    let place = c.args.place.now in
    elim c.match-form.branch [
      | in-Printed+in_ok-found-in-Printed w ↦ told profile file place c.args.form (Printed w.in-Printed.form) c.match-form.found w.in_ok-found-in-Printed.found w.in-Printed.is w.found-is
          (finds_form profile file kinds place w.in_ok-found-in-Printed.found good w.in-Printed.form w.in_ok-found-in-Printed.ensures)
      | in-Toml+in_ok-found-in-Toml w ↦ told profile file place c.args.form Toml c.match-form.found w.in_ok-found-in-Toml.found w.in-Toml.is w.found-is
          (finds_spelled profile file kinds place w.in_ok-found-in-Toml.found good w.in_ok-found-in-Toml.ensures.found)
    ]

use Rattle.std.proofs.Common.{map, subst}
use Rattle.toml_names.specs.model.AddressSets.{is_hidden}
use Rattle.toml_names.specs.model.Data.{kind_at}
use Rattle.toml_edits.specs.Edits.{change}
use Rattle.toml_checker.specs.After.{GivesData}
use Rattle.toml_edits.proofs.Proved.{leads_beside}
use Rattle.toml_checker.proofs.Leading.{given}
use Rattle.toml_checker.proofs.MadeNear.{not_made}
use Rattle.toml_checker.proofs.facts.make.Goals as goal

pub returns-in-Some : goal.returns-in-Some
returns-in-Some c =
    let cs = map change c.args.edits.now in
    let lead = given c.args.profile cs c.in_ok-near.near c.in_ok-data.field-0 c.in-Some.«data» c.in-Some.is c.in_ok-data.ensures in
    λ lines stand old facts. record {
      taken = stand;
      leads = leads_beside c.args.profile (is_hidden c.in_ok-touched.touched) cs old (kind_at c.in_ok-near.near.root) (kind_at c.in-Some.«data».root) c.in_ok-touched.ensures.near (c.in_ok-near.ensures lines stand old facts) lead;
    }

pub returns : goal.returns
returns c =
    let cs = map change c.args.edits.now in
    let none = subst (GivesData c.args.profile cs c.in_ok-near.near) c.in-None.is c.in_ok-data.ensures in
    λ lines stand old facts. not_made c.args.profile cs (is_hidden c.in_ok-touched.touched) c.in_ok-touched.ensures.near old c.in_ok-near.near (c.in_ok-near.ensures lines stand old facts) none

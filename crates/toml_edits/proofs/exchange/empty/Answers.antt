use Rattle.std.proofs.Common.{◌≡◌, ◌∙◌, ap, true}
use Rattle.toml_names.specs.declared.model.datum.Datum.{Array}
use Rattle.toml_names.specs.model.Data.{kind_at}
use Rattle.toml_names.proofs.Proved.{array-here}
use Rattle.toml_edits.specs.Drafts.{is_array}
use Rattle.toml_edits.proofs.OpenElements.{part_root, put_back_there}
use Rattle.toml_edits.proofs.exchange.empty.Goals as goal

pub returns-clause-emptied : goal.returns-clause-emptied
returns-clause-emptied c =
    let q = c.args.steps.now in
    ap is_array (c.exchange-array.ensures.whole q ∙ part_root q (kind_at (Array c.new.result)) (kind_at c.args.root.now) ∙ array-here c.new.result)

pub returns-clause-elements : goal.returns-clause-elements
returns-clause-elements c =
    let q = c.args.steps.now in
    let empty = kind_at (Array c.new.result) in
    let there : is_array (kind_at c.exchange-array.new.root q) ≡ true =
    ap is_array (c.exchange-array.ensures.whole q ∙ part_root q empty (kind_at c.args.root.now) ∙ array-here c.new.result) in
    λ at. put_back_there q at c.elements_of.result.items empty (kind_at c.args.root.now) (kind_at c.exchange-array.new.root)
    c.exchange-array.ensures.whole there (λ r. c.elements_of.ensures r ∙ c.exchange-array.ensures.part r)

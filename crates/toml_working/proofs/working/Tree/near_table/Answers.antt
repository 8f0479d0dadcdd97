use Rattle.toml_working.specs.Seeing.{IsHeaderPlace, read_by}
use Rattle.toml_working.specs.TablePlaces.{IsDottedPlace}
use Rattle.toml_working.proofs.Alone.{met_in}
use Rattle.toml_working.proofs.TablesFound.{no_header_met}
use Rattle.toml_working.proofs.working.Tree.near_table.Goals as goal

pub returns-in-Some-Header-clause-meets : goal.returns-in-Some-Header-clause-meets
returns-in-Some-Header-clause-meets c lines headed = met_in IsHeaderPlace c.header_in.result _ (c.header_in.ensures.header lines)

pub returns-in-Some-Header-clause-dotted : goal.returns-in-Some-Header-clause-dotted
returns-in-Some-Header-clause-dotted c lines lacks =
    no_header_met c.args.at.now (read_by c.args.before.units.now lines) c.args.self.now.slots.items IsDottedPlace c.header_in.result _ lacks
    (c.header_in.ensures.finds lines) (c.header_in.ensures.header lines)

pub returns-in-Some-Dotted-clause-dotted : goal.returns-in-Some-Dotted-clause-dotted
returns-in-Some-Dotted-clause-dotted c lines lacks = met_in IsDottedPlace c.dotted_in.result _ (c.dotted_in.ensures.dotted lines)

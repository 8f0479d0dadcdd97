use Rattle.std.proofs.Common.{[]}
use Rattle.toml_text.specs.Source.{text_of}
use Rattle.toml_units.proofs.Cursors.{starts_stand, starts_walk}
use Rattle.toml_units.proofs.cursor.UnitCursor.new.Goals as goal

pub hold_next-requires : goal.hold_next-requires
hold_next-requires c = starts_stand c.args.profile (text_of c.args.source) _ c.in_ok-new.ensures.0 c.in_ok-new.ensures.1 c.new-2.ensures.items

pub returns : goal.returns
returns c =
    let text = text_of c.args.source in
    starts_walk c.args.profile text _ _ c.in_ok-new.ensures.0 c.in_ok-new.ensures.1 c.new-2.ensures.items (c.in_ok-hold_next.ensures c.args.profile text [])

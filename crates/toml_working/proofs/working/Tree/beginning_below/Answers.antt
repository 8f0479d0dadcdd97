use Rattle.std.proofs.Common.{◌∙◌, ap, subst, sym}
use Rattle.toml_layout.specs.OpenOutlines.{leaf_text}
use Rattle.toml_working.specs.FirstKeys.{like_before, spacing_like}
use Rattle.toml_working.specs.LookingUp.{IsPlaceOfLine}
use Rattle.toml_working.specs.Placing.{lines_before}
use Rattle.toml_working.specs.Starting.{read_of}
use Rattle.toml_working.proofs.Looked.{looks_spaced}
use Rattle.toml_working.proofs.LookedUp.{alike_pair, pair_spaced}
use Rattle.toml_working.proofs.working.Tree.beginning_below.Goals as goal

pub returns-in_ok-look-in-Some : goal.returns-in_ok-look-in-Some
returns-in_ok-look-in-Some c s there =
    let read = read_of c.args.before in
    let slots = c.args.self.now.slots.items in
    let ws = leaf_text c.args.ws in
    let front = lines_before read slots c.args.header.slot c.args.header.index in
    let (t, at, is) = subst (IsPlaceOfLine read slots (like_before ws front)) c.in-Some.is (c.in_ok-pair.ensures s there) in
    looks_spaced c.in_ok-look-in-Some.look t.outline (c.in_ok-look-in-Some.ensures t at) ∙ pair_spaced t (alike_pair ws front t is)
    ∙ ap (spacing_like ws) (sym is)

use Rattle.std.proofs.Common.{sym, ◌∙◌}
use Rattle.std.proofs.lemmas.Bool.{false≢true}
use Rattle.toml_names.specs.reader.Parts.{part_kinds}
use Rattle.toml_places.specs.Leading.{below_steps}
use Rattle.toml_one.proofs.Members.{some_is_there}
use Rattle.toml_one.proofs.wish.is_free.Goals as goal

pub returns-then-is_some : goal.returns-then-is_some
returns-then-is_some c =
    let parts = c.args.names.now in
    let stands = some_is_there parts c.in_ok-part_at.field-0 (below_steps c.args.at.now (part_kinds parts 0)) c.in_ok-part_at.ensures (sym c.is_some.ensures ∙ c.if-is_some.true) in
    (λ t. absurd (false≢true t), λ h. absurd (stands h.0))

use Rattle.std.proofs.Common.{◌-◌, ◌∙◌, ap}
use Rattle.toml_text.specs.Source.{text_of}
use Rattle.toml_working.proofs.FollowedEnd.{held_so, not_held}
use Rattle.toml_working.proofs.working.Tree.ended.Goals as goal

pub returns-then-holds : goal.returns-then-holds
returns-then-holds c =
    c.eq.ensures
    ∙ held_so (text_of c.args.self.now.texts.source) c.slice.result.now c.saturating_sub.result c.len-end.result
    (c.saturating_sub.ensures ∙ ap (λ n. n - 1) c.len-end.ensures) c.len-end.ensures c.slice.ensures

pub returns-else-holds : goal.returns-else-holds
returns-else-holds c =
    not_held (text_of c.args.self.now.texts.source) (record { start = c.saturating_sub.result; end = c.len-end.result }) c.holds.result
    (c.saturating_sub.ensures ∙ ap (λ n. n - 1) c.len-end.ensures) c.len-end.ensures c.holds.ensures c.if-holds.false

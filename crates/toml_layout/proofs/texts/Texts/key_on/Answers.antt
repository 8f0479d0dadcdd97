use Rattle.std.proofs.Common.{◌≡◌, ◌∙◌, Some, None, ap, arith, sym}
use Rattle.std.proofs.lemmas.Grind.{common_steps}
use Rattle.std.specs.Prelude.{option_map}
use Rattle.toml_layout.specs.Leading.{key_in, led_by, open_names}
use Rattle.toml_layout.specs.OpenOutlines.{entries}
use Rattle.toml_layout.proofs.OpenEntries.{key_at}
use Rattle.toml_layout.proofs.texts.Texts.key_on.Goals as goal

pub returns-in_default : goal.returns-in_default
returns-in_default c =
    let here : None ≡ key_in (entries c.args.pairs.now).entries c.args.index =
    ap (option_map (λ k. open_names k.now)) (sym c.in_default.is) ∙ c.key_at.ensures ∙ sym (key_at c.args.pairs.now c.args.index) in
    ap (λ k. led_by k c.args.steps.now) here

pub returns : goal.returns
returns c =
    let here : Some (open_names c.in-Some.key.now) ≡ key_in (entries c.args.pairs.now).entries c.args.index =
    ap (option_map (λ k. open_names k.now)) (sym c.in-Some.is) ∙ c.key_at.ensures ∙ sym (key_at c.args.pairs.now c.args.index) in
    let led : c.then_some.result ≡ led_by (Some (open_names c.in-Some.key.now)) c.args.steps.now = grind (arith, common_steps) in
    led ∙ ap (λ k. led_by k c.args.steps.now) here

use Rattle.std.proofs.Common.{ap, ◌∙◌, string_bytes, Ok, Err}
use Rattle.std.specs.Prelude.{Result, IfOk}
use Rattle.toml_scalar.specs.Strings.{IsString}
use Rattle.toml_scalar.specs.StringRuns.{kind_at}
use Rattle.toml_scalar.proofs.StringWholes.{opened_whole, opened_none, basic_value, literal_value}
use Rattle.toml_scalar.proofs.strings.value.string_value.Goals as goal

ok_map : {A E : Type 0} (P Q : A → Type 0) (r : Result A E) → ((a : A) → P a → Q a) → IfOk r P → IfOk r Q
ok_map P Q (Ok a) f h = f a h
ok_map P Q (Err e) f h = tt

pub returns-in_default : goal.returns-in_default
returns-in_default c = absurd (opened_none c.args.text.now c.requires (c.in_default.ensures ∙ ap kind_at c.as_bytes.ensures.value))

pub content-content-requires : goal.content-content-requires
content-content-requires c = opened_whole c.in-Some.kind c.args.text.now c.requires (c.in-Some.ensures ∙ ap kind_at c.as_bytes.ensures.value)

pub returns-in-Basic : goal.returns-in-Basic
returns-in-Basic c =
    let whole : IsString c.in-Some.kind c.args.text.now = opened_whole c.in-Some.kind c.args.text.now c.requires (c.in-Some.ensures ∙ ap kind_at c.as_bytes.ensures.value) in
    ok_map _ _ c.unescape.result (λ s h. basic_value c.in-Some.kind c.args.text.now c.content-content.result.now (string_bytes s) c.in-Basic.is whole c.content-content.ensures h) c.unescape.ensures

pub returns-in-Literal : goal.returns-in-Literal
returns-in-Literal c =
    let whole : IsString c.in-Some.kind c.args.text.now = opened_whole c.in-Some.kind c.args.text.now c.requires (c.in-Some.ensures ∙ ap kind_at c.as_bytes.ensures.value) in
    ok_map _ _ c.copy.result (λ s h. literal_value c.in-Some.kind c.args.text.now c.content-content.result.now (string_bytes s) c.in-Literal.is whole c.content-content.ensures h) c.copy.ensures

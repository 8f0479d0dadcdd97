use Rattle.std.proofs.Common.{◌≡◌, ◌++◌, arith, encode_utf8, length, string_bytes, ap, ◌∙◌}
use Rattle.std.proofs.lemmas.List.{nil_from_length}
use Rattle.std.proofs.lemmas.Str.{IsUtf8-past_char}
use Rattle.toml_explain.specs.Openings.{shown_character, shown_text}
use Rattle.toml_explain.proofs.Shown.{no_more, one_more}
use Rattle.toml_explain.proofs.place.shown_place.Goals as goal

pub loop-character-preserved : goal.loop-character-preserved
loop-character-preserved c =
    let bs = c.loop-character.character-iterator.rest.now in
    let rest = c.next.new.self.rest.now in
    let steps = c.in-Some.ensures.steps in
    let inv = c.loop-character.invariant in
    let pushed = c.in_ok-push.ensures.bytes in
    let more = one_more (λ x. encode_utf8 (shown_character x)) bs rest (string_bytes c.loop-character.text) (shown_text c.args.place.now) c.in-Some.character inv.utf8 steps.0 inv.shown in
    record {
      utf8 = IsUtf8-past_char bs rest c.in-Some.character inv.utf8 steps.0;
      shown = ap (λ l. l ++ shown_text rest) (pushed ∙ ap (λ x. string_bytes c.loop-character.text ++ encode_utf8 x) c.shown_character.ensures) ∙ more;
    }

pub returns : goal.returns
returns c =
    let bs = c.loop-character.character-iterator.rest.now in
    let inv = c.loop-character.invariant in
    let steps = c.in-None.ensures.steps in
    let none : length bs ≡ 0 = omega (arith, steps.0) in
    no_more (λ x. encode_utf8 (shown_character x)) bs (string_bytes c.loop-character.text) (shown_text c.args.place.now) (nil_from_length bs none) inv.shown

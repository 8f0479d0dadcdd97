use Rattle.std.proofs.Common.{Some, ap, sym, ◌∙◌}
use Rattle.std.specs.Prelude.{option_map}
use Rattle.std.specs.Cow.{cow_str_bytes}
use Rattle.toml_text.specs.Source.{text_of}
use Rattle.toml_scalar.specs.Values.{name_of}
use Rattle.toml_places.specs.Reads.{cursor}
use Rattle.toml_places.proofs.Numbers.{no_part, part_done, part_missed}
use Rattle.toml_places.proofs.reader.Reader.part.Goals as goal

pub returns-in_default : goal.returns-in_default
returns-in_default c = rw c.refuse.ensures (no_part (cursor c.args.self.now) c.in_default.ensures.0)

pub returns-in_ok-spelled-in-Some : goal.returns-in_ok-spelled-in-Some
returns-in_ok-spelled-in-Some c =
    let reader = c.args.self.now in
    let k = c.in-Ok.ensures in
    let named = ap name_of (sym c.slice.ensures) ∙ sym c.in_ok-name.ensures ∙ ap (option_map cow_str_bytes) c.in-Some.is ∙ ap Some (sym (c.in_ok-spelled-in-Some.ensures ∙ c.as_str.ensures.value)) in
    part_done (text_of reader.source) reader.at k.0 c.in-Ok.span.start c.in-Ok.span.end k.3.start k.3.end _ k.1 named

pub returns-in-None : goal.returns-in-None
returns-in-None c =
    let reader = c.args.self.now in
    let k = c.in-Ok.ensures in
    let none = ap name_of (sym c.slice.ensures) ∙ sym c.in_ok-name.ensures ∙ ap (option_map cow_str_bytes) c.in-None.is in
    rw c.refuse-in-None.ensures (part_missed (text_of reader.source) reader.at k.0 c.in-Ok.span.start c.in-Ok.span.end k.3.start k.3.end k.1 none)

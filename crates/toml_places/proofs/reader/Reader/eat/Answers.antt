use Rattle.std.proofs.Common.{sym, ◌∙◌}
use Rattle.toml_text.specs.Source.{text_of}
use Rattle.toml_places.proofs.Cuts.{behind_byte}
use Rattle.toml_places.proofs.reader.Reader.eat.Goals as goal

pub invariant_of-self : goal.invariant_of-self
invariant_of-self c =
    let reader = c.args.self.now in
    record { bound = behind_byte (text_of reader.source) reader.at reader.source.is_text reader.bound c.args.byte c.requires (sym c.begins.ensures ∙ c.if-begins.true) }

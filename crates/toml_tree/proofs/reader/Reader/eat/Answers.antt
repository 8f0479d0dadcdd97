use Rattle.std.proofs.Common.{sym, ◌∙◌}
use Rattle.toml_text.specs.Source.{text_of}
use Rattle.toml_tree.proofs.Cuts.{behind_byte}
use Rattle.toml_tree.proofs.reader.Reader.eat.Goals as goal

pub take_to-requires-clause-bound : goal.take_to-requires-clause-bound
take_to-requires-clause-bound c =
    let reader = c.args.self.now in
    behind_byte (text_of reader.source) reader.at reader.source.is_text reader.bound c.args.byte c.requires (sym c.begins.ensures ∙ c.if-begins.true)

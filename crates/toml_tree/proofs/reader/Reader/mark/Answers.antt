use Rattle.toml_text.specs.Source.{text_of}
use Rattle.toml_tree.proofs.Cuts.{behind_mark}
use Rattle.toml_tree.proofs.reader.Reader.mark.Goals as goal

pub take_to-requires-clause-bound : goal.take_to-requires-clause-bound
take_to-requires-clause-bound c =
    let reader = c.args.self.now in
    rw (c.mark_len-len.ensures, c.rest.ensures) (behind_mark (text_of reader.source) reader.at reader.source.is_text reader.bound)

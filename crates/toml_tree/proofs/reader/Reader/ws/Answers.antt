use Rattle.std.proofs.Common.{◌∙◌}
use Rattle.toml_text.specs.Bytes.{is_ws}
use Rattle.toml_tree.specs.Reads.{cursor}
use Rattle.toml_tree.proofs.Pieces.{run_here, run_ahead}
use Rattle.toml_tree.proofs.reader.Reader.ws.Goals as goal

pub returns-clause-piece : goal.returns-clause-piece
returns-clause-piece c = c.take_to.ensures.piece ∙ run_here is_ws (cursor c.args.self.now) c.ws_end-end.result c.ws_end-end.ensures.exact

pub returns-clause-after : goal.returns-clause-after
returns-clause-after c = c.take_to.ensures.after ∙ run_ahead is_ws (cursor c.args.self.now) c.ws_end-end.result c.ws_end-end.ensures.exact

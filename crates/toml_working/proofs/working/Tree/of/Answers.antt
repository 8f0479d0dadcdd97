use Rattle.std.proofs.Common.{refl}
use Rattle.toml_text.specs.Source.{text_of}
use Rattle.toml_working.proofs.working.Tree.of.Goals as goal

pub returns : goal.returns
returns c = record {
  stands = c.in_ok-kept_slots.ensures (text_of c.args.texts.source) c.args.before refl c.requires.facts c.requires.read;
  texts_are = refl;
  elements = c.all.ensures;
  style = c.in_ok-style_of.ensures;
  blank = refl;
}

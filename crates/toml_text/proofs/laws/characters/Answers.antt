use Rattle.toml_text.proofs.Characters.{characters_begin}
use Rattle.toml_text.proofs.laws.characters.Goals as goal

pub returns : goal.returns
returns c = characters_begin

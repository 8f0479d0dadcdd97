use Rattle.toml_editor.proofs.Proved.{element_is_laid_out, element_names, documents_are_ready, section_is_laid_out, section_names}
use Rattle.toml_editor.proofs.laws.headers.Goals as goal

pub returns : goal.returns
returns c = record {
  section_names = section_names;
  element_names = element_names;
  section_laid_out = section_is_laid_out;
  element_laid_out = element_is_laid_out;
  ready = documents_are_ready;
}

use Rattle.toml_editor.proofs.SourceKept.{first_blank_needs_newline}
use Rattle.toml_editor.proofs.written.Certify.{partners_certify, outer_partners_certify, plain_list_is_certified}
use Rattle.toml_editor.proofs.written.OuterPairs.{outer_are_named}
use Rattle.toml_editor.proofs.laws.certified.Goals as goal

pub returns : goal.returns
returns c = record {
  partners = partners_certify;
  named = outer_are_named;
  outer = outer_partners_certify;
  list = plain_list_is_certified;
  blank = first_blank_needs_newline;
}

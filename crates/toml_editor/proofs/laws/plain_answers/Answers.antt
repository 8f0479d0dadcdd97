use Rattle.toml_editor.proofs.PlainAnswers.{first_fault_is_answered, first_refused_is_answered, long_is_answered, plain_is_answered}
use Rattle.toml_editor.proofs.PlainRefused.{only_refused_is_told}
use Rattle.toml_editor.proofs.laws.plain_answers.Goals as goal

pub returns : goal.returns
returns c = record {
  plain = plain_is_answered;
  long = long_is_answered;
  fault = first_fault_is_answered;
  refused = first_refused_is_answered;
  told = only_refused_is_told;
}

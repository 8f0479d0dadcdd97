use Rattle.toml_checker.proofs.Together.{unplaced_are_protected, blank_lines_are_partners}
use Rattle.toml_checker.proofs.laws.blank_lines.Goals as goal

pub returns-clause-protected : goal.returns-clause-protected
returns-clause-protected c = unplaced_are_protected

pub returns-clause-partners : goal.returns-clause-partners
returns-clause-partners c = blank_lines_are_partners

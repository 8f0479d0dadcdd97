use Rattle.toml_scalar.proofs.Scanned.{scan_complete, token_first}
use Rattle.toml_scalar.proofs.ScanSound.{scan_sound, scan_is_longest}
use Rattle.toml_scalar.proofs.OneKind.{one_kind}
use Rattle.toml_scalar.proofs.laws.scans.Goals as goal

pub returns-clause-sound : goal.returns-clause-sound
returns-clause-sound c = scan_sound

pub returns-clause-found : goal.returns-clause-found
returns-clause-found c = scan_complete

pub returns-clause-longest : goal.returns-clause-longest
returns-clause-longest c = scan_is_longest

pub returns-clause-one_kind : goal.returns-clause-one_kind
returns-clause-one_kind c = one_kind

pub returns-clause-first : goal.returns-clause-first
returns-clause-first c = token_first

use Rattle.std.proofs.Common.{◌≡◌, ℕ, length, subst, arith}
use Rattle.std.specs.Prelude.{min, string_bytes}
use Rattle.toml_text.specs.Positions.{IsPosition}
use Rattle.toml_explain.proofs.Opened.{at_in_file, ends_in, opens_at}
use Rattle.toml_explain.proofs.opening.opened.Goals as goal

pub returns-clause-position : goal.returns-clause-position
returns-clause-position c =
    let bytes = c.args.file.bytes.now in
    let held : c.min.result ≡ min c.args.at (length bytes) = omega arith in
    let exact = subst (λ (n : ℕ). IsPosition bytes n c.position-place.result) held c.position-place.ensures in
    opens_at string_bytes c.args.file.word.now c.args.rest.now bytes c.args.at c.position-place.result c.positioned.result exact c.positioned.ensures

pub returns-clause-file : goal.returns-clause-file
returns-clause-file c = at_in_file string_bytes c.args.file.word.now c.args.file.bytes.now c.args.at c.positioned.result (returns-clause-position c)

pub returns-clause-behind : goal.returns-clause-behind
returns-clause-behind c = ends_in string_bytes c.args.file.word.now c.args.rest.now c.position-place.result c.positioned.result c.positioned.ensures

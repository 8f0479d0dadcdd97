use Rattle.std.proofs.Common.{◌≡◌, ◌≤◌, arith, rules}
use Rattle.toml_scalar.proofs.SpelledBytes.{spelled_same}
use Rattle.toml_scalar.proofs.spelling.push_spelled.Goals as goal

pub returns-in_default : goal.returns-in_default
returns-in_default c =
    let low : 0x20 ≤ c.args.character = omega arith in
    let quote : ¬ (c.args.character ≡ 0x22) = λ e. omega arith in
    let slash : ¬ (c.args.character ≡ 0x5C) = λ e. omega arith in
    let delete : ¬ (c.args.character ≡ 0x7F) = λ e. grind arith in
    rw (spelled_same c.args.character low quote slash delete) (search rules)

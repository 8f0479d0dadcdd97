use Rattle.std.proofs.Common.{◌≡◌, ◌∷◌, ◌++◌, IfOk, string_bytes, rules}
use Rattle.std.proofs.lemmas.Result.{IfOk-weaker}
use Rattle.toml_replace.specs.Beside.{IsBeside, suffix}
use Rattle.toml_replace.proofs.Names.{in_folder, beside_in_folder, beside_alone, no_slash, split_at_slash}
use Rattle.toml_replace.proofs.beside.path_beside.Goals as goal

pub returns-in-Some : goal.returns-in-Some
returns-in-Some c =
    let file = c.args.file.now in
    let parts = split_at_slash file c.in-Some.folder.now c.in-Some.name.now c.in-Some.ensures.cases in
    let written : IfOk c.format.result (λ new. string_bytes new ≡ in_folder c.in-Some.folder.now c.in-Some.name.now c.args.number) = search rules in
    IfOk-weaker c.format.result (λ new. string_bytes new ≡ in_folder c.in-Some.folder.now c.in-Some.name.now c.args.number)
    (λ new. IsBeside file (string_bytes new))
    (λ new same. beside_in_folder file c.in-Some.folder.now c.in-Some.name.now (string_bytes new) c.args.number parts.0 parts.1 same) written

pub returns-in-None : goal.returns-in-None
returns-in-None c =
    let file = c.args.file.now in
    let lacks = no_slash file c.in-None.ensures.cases in
    let written : IfOk c.format-in-None.result (λ new. string_bytes new ≡ 46 ∷ (file ++ suffix c.args.number)) = search rules in
    IfOk-weaker c.format-in-None.result (λ new. string_bytes new ≡ 46 ∷ (file ++ suffix c.args.number)) (λ new. IsBeside file (string_bytes new))
    (λ new same. beside_alone file (string_bytes new) c.args.number lacks same) written

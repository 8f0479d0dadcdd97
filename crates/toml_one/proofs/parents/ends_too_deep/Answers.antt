use Rattle.std.proofs.Common.{List, [], ◌∷◌, map, sym, ap, ◌∙◌}
use Rattle.std.proofs.lemmas.List.{map-append}
use Rattle.toml_edits.specs.Edits.{change}
use Rattle.toml_edits.specs.declared.edit.Edit.{Edit}
use Rattle.toml_one.specs.Walking.{ends_too_deep}
use Rattle.toml_one.proofs.Cutting.{last_ends}
use Rattle.toml_one.proofs.parents.ends_too_deep.Goals as goal

pub returns-in-Some : goal.returns-in-Some
returns-in-Some c =
    let front = c.in-Some.field-0-1.now in
    let last = c.in-Some.last.now in
    c.puts_too_deep.ensures ∙ sym (last_ends (map change front) (change last)) ∙ ap ends_too_deep (sym (map-append change front (last ∷ [])))
    ∙ ap (λ (es : List Edit). ends_too_deep (map change es)) (sym c.in-Some.ensures.cases.0)

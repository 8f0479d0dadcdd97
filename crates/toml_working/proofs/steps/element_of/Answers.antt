use Rattle.std.proofs.Common.{◌∙◌, ◌∷◌, ◌++◌, [], ap, sym}
use Rattle.toml_working.specs.Headers.{element_of}
use Rattle.toml_working.proofs.HeaderSteps.{ends_in_index, ends_in_name}
use Rattle.toml_working.proofs.steps.element_of.Goals as goal

pub returns-in-Index : goal.returns-in-Index
returns-in-Index c =
    sym (ap element_of (c.in_ok-last.ensures.cases.0 ∙ ap (λ s. c.in_ok-last.array.now ++ s ∷ []) c.in-Index.is)
    ∙ ends_in_index c.in_ok-last.array.now c.in-Index.index)

pub returns-in-Name : goal.returns-in-Name
returns-in-Name c =
    sym (ap element_of (c.in_ok-last.ensures.cases.0 ∙ ap (λ s. c.in_ok-last.array.now ++ s ∷ []) c.in-Name.is)
    ∙ ends_in_name c.in_ok-last.array.now c.in-Name.field-0)

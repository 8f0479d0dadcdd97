use Rattle.std.proofs.Common.{◌∷◌, ◌++◌, ◌∙◌, [], ap, ap₂, sym}
use Rattle.std.proofs.lemmas.List.{map-append}
use Rattle.std.proofs.lemmas.Result.{err_from_is_err_and}
use Rattle.toml_tree.specs.Lines.{line as tree_line}
use Rattle.toml_tree.specs.Tree.{Line}
use Rattle.toml_layout.specs.KnownLines.{known_line, lines_known}
use Rattle.toml_working.specs.Reading.{fact_of}
use Rattle.toml_working.proofs.reading.ReadDocument.take.Goals as goal

pub take-requires : goal.take-requires
take-requires c = (c.requires.taken.0, c.requires.taken.1.taken)

pub returns-in_err-take : goal.returns-in_err-take
returns-in_err-take c = λ lines h.
    let p = err_from_is_err_and c.from_residual-in_err-take.result c.from_residual-in_err-take.ensures.1 in
    rw (p.1, p.2) (c.in_err-take.ensures lines h.taken)

pub returns : goal.returns
returns c = λ lines h.
    let l = tree_line c.args.read.line in
    record {
      lines = ap lines_known c.in_ok-push-2.ensures.items ∙ map-append known_line c.args.self.now.lines.items _ ∙ ap₂ (λ ls ms. ls ++ ms) h.lines (ap (λ (x : Line). x ∷ []) c.in_ok-known.ensures);
      facts = c.in_ok-push.ensures.items ∙ ap₂ (λ fs gs. fs ++ gs) h.facts (ap (λ f. f ∷ []) c.facts_of.ensures) ∙ sym (map-append fact_of lines (l ∷ []));
      taken = c.in_ok-take.ensures lines h.taken;
    }

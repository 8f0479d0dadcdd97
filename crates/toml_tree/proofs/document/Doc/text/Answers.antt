use Rattle.std.proofs.Common.{◌≡◌, arith, ap, ◌∙◌, ◌++◌, map, string_bytes}
use Rattle.toml_tree.specs.Document.{document}
use Rattle.toml_tree.specs.Lines.{line}
use Rattle.toml_tree.specs.Spells.{joined, doc_parts, line_parts, lines_parts}
use Rattle.toml_tree.proofs.Texts.{text_step, text_all, text_read}
use Rattle.toml_tree.proofs.document.Doc.text.Goals as goal

pub loop-l-preserved : goal.loop-l-preserved
loop-l-preserved c =
    text_step line line_parts c.deref-l-items.result.now c.loop-l.l-index c.l-item.result _ _ _ (omega arith) c.loop-l.invariant
    (c.in_ok-push_line.ensures ∙ ap (λ x. string_bytes c.loop-l.out ++ joined (line_parts (line x))) c.l-item.is)

written : (c : goal.After-loop-l) → string_bytes c.loop-l.out ≡ joined (doc_parts (document c.args.self.now))
written c =
    text_all line line_parts c.deref-l-items.result.now c.loop-l.l-index _ _ (omega arith) c.loop-l.invariant
    ∙ ap (λ front. front ++ joined (lines_parts (map line c.deref-l-items.result.now))) (c.in_ok-push_str.ensures.bytes ∙ ap (λ front. front ++ c.args.self.now.mark.text.now) c.new-out.ensures.bytes)
    ∙ ap (λ items. c.args.self.now.mark.text.now ++ joined (lines_parts (map line items))) c.deref-l-items.ensures.value

pub returns-clause-parts : goal.returns-clause-parts
returns-clause-parts c = written c

pub returns-clause-read : goal.returns-clause-read
returns-clause-read c text spelled = written c ∙ text_read (document c.args.self.now) text spelled

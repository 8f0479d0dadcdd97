use Rattle.std.proofs.Common.{◌++◌, ◌∷◌, ◌∙◌, ◌<◌, [], ap, ap₂, arith, length, map, sym}
use Rattle.std.proofs.lemmas.List.{length-map, map-append}
use Rattle.toml_tree.specs.Lines.{line as tree_line}
use Rattle.toml_tree.specs.Tree.{Line}
use Rattle.toml_units.specs.Plain.{line_spans}
use Rattle.toml_units.specs.Taken.{newline_text}
use Rattle.toml_units.proofs.ReadLines.{plain_push}
use Rattle.toml_units.proofs.taken.TakenLines.take.Goals as goal

pub returns : goal.returns
returns c = λ lines h.
    let l = tree_line c.args.line.now in
    let few : length lines < 18446744073709551615 = omega (arith, ap length h.newlines, length-map c.args.self.now.newlines.items newline_text, length-map lines (λ (x : Line). x.newline.text), c.args.self.now.newlines.ok) in
    let entered = c.in_ok-enter.ensures.names lines (record { names = h.names; section_is = h.section_is; few = few }) in
    record {
      names = entered.names;
      section_is = entered.section_is;
      left = c.in_ok-enter.ensures.left ∙ h.left;
      closed = c.in_ok-enter.ensures.opened ∙ h.closed;
      units = c.in_ok-push_line_at.ensures ∙ ap₂ (λ us ms. us ++ ms) h.units (ap₂ line_spans entered.own_is c.expr-2.ensures) ∙ sym (plain_push lines l);
      newlines = ap (map newline_text) c.in_ok-push.ensures.items ∙ map-append newline_text c.args.self.now.newlines.items _ ∙ ap₂ (λ ns ms. ns ++ ms) h.newlines (ap (λ t. t ∷ []) c.of-2.ensures) ∙ sym (map-append (λ (x : Line). x.newline.text) lines (l ∷ []));
    }

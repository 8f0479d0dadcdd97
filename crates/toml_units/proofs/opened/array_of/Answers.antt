use Rattle.std.proofs.Common.{sym, ap, ◌∙◌}
use Rattle.toml_tree.proofs.Proved.{keyval_is, value_array}
use Rattle.toml_tree.specs.Tree.{KeyVal, KeyValLine, Value}
use Rattle.toml_tree.specs.View.{assign, blank, expr, piece, value}
use Rattle.toml_units.specs.Arrays.{array}
use Rattle.toml_units.proofs.opened.array_of.Goals as goal

pub returns-in-Array : goal.returns-in-Array
returns-in-Array c =
    let k = c.in-KeyVal.keyval in
    let own = assign k.assign in
    record {
      ws = piece c.in-KeyVal.ws;
      assign = own;
      is = ap expr c.in-KeyVal.is
          ∙ ap (λ (pair : KeyVal). KeyValLine (piece c.in-KeyVal.ws) pair (blank c.in-KeyVal.tail))
          (keyval_is k ∙ ap (λ (v : Value). record { assign = own; value = v }) (ap value c.in-Array.is ∙ value_array c.in-Array.array ∙ ap array (sym c.deref.ensures)));
    }

use Rattle.toml_names.proofs.Common.{arith, subst, sym}
use Rattle.std.proofs.lemmas.Str.{IsCharBoundary-start, IsCharBoundary-end, IsUtf8-from_is_utf8}
use Rattle.std.specs.Str.{IsCharBoundary}
use Rattle.toml_text.specs.Source.{text_of}
use Rattle.toml_names.proofs.tree.hash_key.key_of_text.Goals as goal

pub slice-requires : goal.slice-requires
slice-requires c =
    let text = text_of c.args.source in
    record {
      order = omega arith;
      start = IsCharBoundary-start text (IsUtf8-from_is_utf8 text c.args.source.is_text.utf8);
      end = subst (IsCharBoundary text) (sym c.len.ensures) (IsCharBoundary-end text);
    }

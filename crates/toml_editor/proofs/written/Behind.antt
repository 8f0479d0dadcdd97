-- A block in a list, further in.
use Rattle.std.proofs.Common.{List, [], ◌++◌, refl, sym, ap, ◌∙◌, append_assoc}
use Rattle.toml_names.specs.mentions.Mentions.{Named}
use Rattle.toml_editor.specs.Blocks.{IsPut}

pub put_behind : (xs old block new : List Named) → IsPut old block new → IsPut (xs ++ old) block (xs ++ new)
put_behind xs old block new put = record {
  front = xs ++ put.front;
  back = put.back;
  before = ap (λ l. xs ++ l) put.before ∙ sym (append_assoc xs put.front put.back);
  after = ap (λ l. xs ++ l) put.after ∙ sym (append_assoc xs put.front (block ++ put.back));
}

pub put_here : (block back : List Named) → IsPut back block (block ++ back)
put_here block back = record { front = []; back = back; before = refl; after = refl }

-- What is known of the working tree after a `rename`, taken together.
use Rattle.std.proofs.Common.{◌≡◌, ℕ, List, subst₂}
use Rattle.std.specs.Prelude.{Result, Ok, Err, OnOk}
use Rattle.toml_scalar.specs.Spelling.{spelled}
use Rattle.toml_text.specs.Source.{text_of}
use Rattle.toml_names.specs.model.Addresses.{Address}
use Rattle.toml_working.specs.declared.working.Tree.{Tree}
use Rattle.toml_working.specs.Becoming.{RenamesLines}
use Rattle.toml_editor.specs.Exact.{WritesRename}
use Rattle.toml_working.specs.Standing.{Read}
use Rattle.toml_working.specs.Starting.{NoneIsGone}
use Rattle.toml_editor.proofs.SourceKept.{source_kept}

pub rename_is_written : {A E : Type 0} (r : Result A E) (read : Read) (p : Address) (name to spelling : List ℕ) (old new : Tree) → name ≡ to → spelling ≡ spelled to
    → OnOk r (RenamesLines p name spelling (text_of old.texts.source) read old.slots.items new.slots.items) → OnOk r (new.texts ≡ old.texts) → OnOk r (new.style ≡ old.style) → OnOk r (new.has_written_blank ≡ old.has_written_blank)
    → OnOk r (NoneIsGone old.elements → NoneIsGone new.elements) → OnOk r (NoneIsGone old.elements → WritesRename read p to old new)
rename_is_written (Err e) read p name to spelling old new named spells lines texts style blank elements = tt
rename_is_written (Ok x) read p name to spelling old new named spells lines texts style blank elements = λ whole. record {
  lines = subst₂ (λ n s. RenamesLines p n s (text_of old.texts.source) read old.slots.items new.slots.items) named spells lines;
  source = source_kept old new texts style blank;
  whole = elements whole;
}

-- The bytes of names.
use Rattle.std.specs.Prelude.{ℕ, List}
use Rattle.std.specs.Rc.{rc_str_bytes}
use Rattle.toml_names.specs.declared.model.name.NameText.{NameText}
use Rattle.toml_names.specs.declared.model.name.NameText.TheVariants.{Short, Long}

abbrev pub name_bytes : NameText → List ℕ
name_bytes (Short text) = text.bytes
name_bytes (Long text) = rc_str_bytes text

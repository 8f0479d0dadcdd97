-- What edits make of the data that they can touch, they make of all data.
use Rattle.std.proofs.Math.Path.{fun_ext}
use Rattle.std.proofs.Common.{◌≡◌, List, subst, sym}
use Rattle.toml_tree.specs.declared.profile.Profile.{Profile}
use Rattle.toml_names.specs.declared.model.datum.Data.{Data}
use Rattle.toml_names.specs.model.Addresses.{Address}
use Rattle.toml_names.specs.model.Data.{Kinds, kind_at}
use Rattle.toml_names.specs.model.Hidden.{Cover, near}
use Rattle.toml_edits.specs.Edits.{Change}
use Rattle.toml_edits.specs.Lists.{Lead}
use Rattle.toml_edits.specs.Near.{AreNear}
use Rattle.toml_edits.proofs.Proved.{leads_near}
use Rattle.toml_checker.specs.Documents.{AreDefined}

module _ (profile : Profile) (cs : List Change) (h : Cover) (are : AreNear h cs) (old : Kinds) (part : Data) (of : (a : Address) → kind_at part.root a ≡ near h old a) where
  pub not_made : ¬ AreDefined profile cs (kind_at part.root) → ¬ AreDefined profile cs old
  not_made none (new, lead) = none (near h new, subst (λ (k : Kinds). Lead profile cs k (near h new)) (sym (fun_ext of)) (leads_near profile h cs old new are lead))

-- What is written of an edit, by which edit it is.
use Rattle.std.proofs.Common.{◌≡◌, ◌∙◌, Bool, ap, subst, sym}
use Rattle.std.specs.Prelude.{IfOk, Result}
use Rattle.toml_tree.specs.declared.profile.Profile.{Profile}
use Rattle.toml_names.specs.model.Addresses.{Address}
use Rattle.toml_edits.specs.Edits.{change, place}
use Rattle.toml_edits.specs.declared.edit.Edit.{Edit}
use Rattle.toml_working.specs.declared.working.Tree.{Tree}
use Rattle.toml_editor.specs.Exact.{WritesEdit}
use Rattle.toml_working.specs.Standing.{Read}
use Rattle.toml_working.specs.Starting.{NoneIsGone}

pub edit_written : {E : Type 0} (r : Result Bool E) (profile : Profile) (read : Read) (flat : Bool) (old new : Tree) (at : Address) (e f : Edit) → e ≡ f
    → (NoneIsGone old.elements → at ≡ place (change e))
    → ((NoneIsGone old.elements → at ≡ place (change f)) → IfOk r (WritesEdit profile read flat (change f) old new))
    → IfOk r (WritesEdit profile read flat (change e) old new)
edit_written r profile read flat old new at e f is finds writes =
    subst (λ x. IfOk r (WritesEdit profile read flat (change x) old new)) (sym is)
    (writes (λ whole. finds whole ∙ ap (λ x. place (change x)) is))

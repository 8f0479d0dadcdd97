-- A text is a token of at most one kind.
use Rattle.std.proofs.Common.{◌≡◌, ℕ, [], length, Some, sym, ap, ◌∙◌}
use Rattle.std.proofs.lemmas.Option.{same_Some}
use Rattle.toml_scalar.specs.ScanLaws.{OneKind}
use Rattle.toml_scalar.specs.declared.kind.ScalarKind.{ScalarKind}
use Rattle.toml_scalar.proofs.Scanned.{scan_complete}

pub one_kind : OneKind
one_kind j k text is_j is_k =
    let same : Some (length text, j) ≡ Some (length text, k) = sym (scan_complete j text [] is_j tt) ∙ scan_complete k text [] is_k tt in
    ap (λ (r : ℕ × ScalarKind). r.1) (same_Some (length text, j) (length text, k) same)

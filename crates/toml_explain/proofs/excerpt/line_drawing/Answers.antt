use Rattle.std.proofs.Common.{◌≡◌, ℕ, length, subst, arith}
use Rattle.std.specs.Prelude.{min, slice_range}
use Rattle.toml_text.specs.Positions.{IsPosition}
use Rattle.toml_explain.proofs.ShownLines.{drawn_at}
use Rattle.toml_explain.proofs.excerpt.line_drawing.Goals as goal

pub returns : goal.returns
returns c =
    let bytes = c.args.bytes.now in
    let held : c.min.result ≡ min c.args.meant.start (length bytes) = omega arith in
    let exact = subst (λ (n : ℕ). IsPosition bytes n c.position.result) held c.position.ensures in
    drawn_at bytes c.args.meant.start c.position.result exact c.draw.result c.draw.ensures

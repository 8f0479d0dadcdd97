-- A key part or a scalar that was scanned and taken is what the plain reader reads, and a fault tells that it reads nothing.
use Rattle.std.proofs.Common.{◌≡◌, ℕ, ◌+◌, ◌-◌, Option, Some, None, sym, ap, ◌∙◌, arith, refl}
use Rattle.toml_scalar.specs.Faults.{IsAt}
use Rattle.toml_scalar.specs.Scanning.{scan_at, key_part_len}
use Rattle.toml_scalar.specs.declared.fault.SyntaxFault.{SyntaxFault}
use Rattle.toml_scalar.specs.declared.kind.ScalarKind.{ScalarKind}
use Rattle.toml_tree.specs.Tree.{Piece, Scalar}
use Rattle.toml_tree.specs.Reading.{Cursor, here, ahead, part_at}
use Rattle.toml_tree.specs.ReadingValues.{scalar_at}
use Rattle.toml_tree.specs.Reads.{end, Fails}

module _ (c : Cursor) (n last : ℕ) (is : last ≡ c.at + n) (p : Piece) (d : Cursor) (piece_is : p ≡ here (last - c.at) c) (behind : d ≡ ahead (last - c.at) c) where
  len : last - c.at ≡ n
  len = omega (arith, is)

  here_is : here n c ≡ p
  here_is = sym (piece_is ∙ ap (λ m. here m c) len)

  ahead_is : ahead n c ≡ d
  ahead_is = sym (behind ∙ ap (λ m. ahead m c) len)

  pub part_taken : key_part_len c.rest ≡ Some n → part_at c ≡ Some (p, d)
  unfolding part_at
  part_taken found = rw found (λ i. Some (here_is i, ahead_is i))

  pub scalar_taken : (k : ScalarKind) → scan_at c.rest ≡ Some (n, k) → scalar_at c ≡ Some (Scalar k p, d)
  unfolding scalar_at
  scalar_taken k found = rw found (λ i. Some (Scalar k (here_is i), ahead_is i))

pub no_part : (c : Cursor) → key_part_len c.rest ≡ None → part_at c ≡ None
unfolding part_at
no_part c none = rw none refl

pub no_scalar : (c : Cursor) → scan_at c.rest ≡ None → scalar_at c ≡ None
unfolding scalar_at
no_scalar c none = rw none refl

-- a fault at the place itself
pub fails_here : {Y : Type 0} (e : SyntaxFault) (c : Cursor) (o : Option Y) → IsAt c.at e → o ≡ None → Fails (end c) e o
fails_here e c o at none = rw at (omega arith, none)

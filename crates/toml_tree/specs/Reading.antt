-- The plain reader: total functions on lists that compute the tree of a text, beside the relation of `Spells`. Here its
-- cursor, its loop, and what it reads of pieces and keys.
use Rattle.std.specs.Prelude.{ℕ, zero, suc, ◌+◌, ◌-◌, Bool, List, [], ◌∷◌, length, take, drop, Option, Some, None, option_and_then, if◌then◌else◌, ◌==◌}
use Rattle.toml_text.specs.Bytes.{is_ws}
use Rattle.toml_text.specs.Runs.{run_len, begins, is_byte, comment_len}
use Rattle.toml_scalar.specs.Scanning.{key_part_len}
use Rattle.toml_tree.specs.Tree.{Piece, Blank, Dotted, Key, Assign}
use Rattle.toml_tree.specs.declared.step.Step.{Step}
use Rattle.toml_tree.specs.declared.step.Step.TheVariants.{Next, Done}

infixl 10 ◌>>=◌
abbrev pub ◌>>=◌ : {A B : Type 0} → Option A → (A → Option B) → Option B
o >>= f = option_and_then f o

-- a place in a text, and the bytes from there on
pub record Cursor : Type 0 where
  pub at : ℕ
  pub rest : List ℕ

-- the piece of so many bytes at a place
abbrev pub here : ℕ → Cursor → Piece
here n c = record { start = c.at; text = take n c.rest }

abbrev pub ahead : ℕ → Cursor → Cursor
ahead n c = record { at = c.at + n; rest = drop n c.rest }

-- the piece from a place up to a later one
abbrev pub up_to : Cursor → Cursor → Piece
up_to last c = here (last.at - c.at) c

-- Reads until a step is the last; the fuel bounds the steps.
abbrev pub many : {A B : Type 0} → (Cursor → Option (Step A B × Cursor)) → ℕ → Cursor → Option (List A × B × Cursor)
many step zero c = None
many step (suc fuel) c = step c >>= λ r. elim r.0 [
  | Next a ↦ many step fuel r.1 >>= λ s. Some (a ∷ s.0, s.1, s.2)
  | Done b ↦ Some ([], b, r.1)
]

-- a step takes a byte or more, so there are at most as many as bytes, and the last
abbrev pub all_of : {A B : Type 0} → (Cursor → Option (Step A B × Cursor)) → Cursor → Option (List A × B × Cursor)
all_of step c = many step (length c.rest + 1) c

-- the longest run of bytes that pass the test
unfoldable pub run_at : (ℕ → Bool) → Cursor → Piece × Cursor
run_at p c = (here (run_len p c.rest) c, ahead (run_len p c.rest) c)

-- a comment or none
unfoldable pub comment_at : Cursor → Option Piece × Cursor
comment_at c = let n = comment_len c.rest in if n == 0 then (None, c) else (Some (here n c), ahead n c)

unfoldable pub blank_at : Cursor → Blank × Cursor
blank_at c = let w = run_at is_ws c in let m = comment_at w.1 in (record { ws = w.0; comment = m.0 }, m.1)

unfoldable pub part_at : Cursor → Option (Piece × Cursor)
part_at c = key_part_len c.rest >>= λ n. Some (here n c, ahead n c)

-- a dot and the part behind it; where no dot comes, the whitespace is no part of the key
unfoldable pub dotted_step : Cursor → Option (Step Dotted (Unit {0}) × Cursor)
dotted_step c =
    let b = run_at is_ws c in
    if begins (is_byte 0x2E) b.1.rest
    then (let a = run_at is_ws (ahead 1 b.1) in part_at a.1 >>= λ p. Some (Next (record { before_dot = b.0; after_dot = a.0; part = p.0 }), p.1))
    else Some (Done tt, c)

unfoldable pub dotted_at : Cursor → Option (List Dotted × Cursor)
dotted_at c = all_of dotted_step c >>= λ r. Some (r.0, r.2)

unfoldable pub key_at : Cursor → Option (Key × Cursor)
key_at c = part_at c >>= λ p. dotted_at p.1 >>= λ r. Some (record { first = p.0; rest = r.0 }, r.1)

-- `=` between whitespace
unfoldable pub equals_at : Cursor → Option ((Piece × Piece) × Cursor)
equals_at c =
    let b = run_at is_ws c in
    if begins (is_byte 0x3D) b.1.rest then (let a = run_at is_ws (ahead 1 b.1) in Some ((b.0, a.0), a.1)) else None

unfoldable pub assign_at : Cursor → Option (Assign × Cursor)
assign_at c =
    key_at c >>= λ k.
    equals_at k.1 >>= λ e.
    Some (record { key = k.0; before_equals = e.0.0; after_equals = e.0.1 }, e.1)

-- The plain reader of lines and of a whole text.
use Rattle.std.specs.Prelude.{ℕ, List, [], ◌∷◌, ◌++◌, length, drop, Option, Some, None, if◌then◌else◌, ◌==◌}
use Rattle.toml_text.specs.Bytes.{is_ws}
use Rattle.toml_text.specs.Runs.{begins, is_byte, newline_len}
use Rattle.toml_scalar.specs.Scanning.{is_key_start}
use Rattle.toml_tree.specs.Reading.{Cursor, here, ahead, all_of, run_at, comment_at, blank_at, key_at, ◌>>=◌}
use Rattle.toml_tree.specs.ReadingValues.{keyval_at, value_at}
use Rattle.toml_tree.specs.Spells.{max_depth, mark_of}
use Rattle.toml_tree.specs.Tree.{Piece, Header, Expr, BlankLine, KeyValLine, TableLine, ArrayTableLine, Line, Doc}
use Rattle.toml_tree.specs.declared.profile.Profile.{Profile}
use Rattle.toml_tree.specs.declared.step.Step.{Step}
use Rattle.toml_tree.specs.declared.step.Step.TheVariants.{Next, Done}

-- a key between whitespace, and `]`
unfoldable pub named_at : Cursor → Option (Header × Cursor)
named_at c =
    let b = run_at is_ws c in
    key_at b.1 >>= λ k.
    let a = run_at is_ws k.1 in
    if begins (is_byte 0x5D) a.1.rest then Some (record { before = b.0; key = k.0; after = a.0 }, ahead 1 a.1) else None

unfoldable pub header_at : Cursor → Option (Header × Cursor)
header_at c = if begins (is_byte 0x5B) c.rest then named_at (ahead 1 c) else None

-- a header between one more pair of brackets
unfoldable pub array_header_at : Cursor → Option (Header × Cursor)
array_header_at c =
    if begins (is_byte 0x5B) c.rest
    then (header_at (ahead 1 c) >>= λ h. if begins (is_byte 0x5D) h.1.rest then Some (h.0, ahead 1 h.1) else None)
    else None

-- the line of a header behind whitespace
unfoldable pub header_line_at : Piece → Cursor → Option (Expr × Cursor)
header_line_at ws c =
    if begins (is_byte 0x5B) (drop 1 c.rest)
    then (array_header_at c >>= λ h. let b = blank_at h.1 in Some (ArrayTableLine ws h.0 b.0, b.1))
    else (header_at c >>= λ h. let b = blank_at h.1 in Some (TableLine ws h.0 b.0, b.1))

unfoldable pub keyval_line_at : Profile → Piece → Cursor → Option (Expr × Cursor)
keyval_line_at profile ws c = keyval_at (value_at profile max_depth) c >>= λ k. let b = blank_at k.1 in Some (KeyValLine ws k.0 b.0, b.1)

unfoldable pub expr_at : Profile → Cursor → Option (Expr × Cursor)
expr_at profile c =
    let w = run_at is_ws c in
    if begins is_key_start w.1.rest then keyval_line_at profile w.0 w.1
    else (if begins (is_byte 0x5B) w.1.rest then header_line_at w.0 w.1
    else (let m = comment_at w.1 in Some (BlankLine (record { ws = w.0; comment = m.0 }), m.1)))

unfoldable pub line_step : Profile → Cursor → Option (Step Line Line × Cursor)
line_step profile c =
    expr_at profile c >>= λ e.
    let n = newline_len e.1.rest in
    let line : Line = record { expr = e.0; newline = here n e.1 } in
    if n == 0 then (if length e.1.rest == 0 then Some (Done line, ahead n e.1) else None)
    else Some (Next line, ahead n e.1)

unfoldable pub lines_at : Profile → Cursor → Option (List Line × Cursor)
lines_at profile c = all_of (line_step profile) c >>= λ r. Some (r.0 ++ r.1 ∷ [], r.2)

unfoldable pub document_at : Profile → List ℕ → Option Doc
document_at profile text =
    let n = length (mark_of text) in
    let start : Cursor = record { at = 0; rest = text } in
    lines_at profile (ahead n start) >>= λ r. Some (record { mark = here n start; lines = r.0 })

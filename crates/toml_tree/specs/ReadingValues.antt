-- The plain reader of values and of key/value pairs.
use Rattle.std.specs.Prelude.{ℕ, zero, suc, Bool, true, false, not, List, [], ◌∷◌, Option, Some, None, if◌then◌else◌, ◌==◌}
use Rattle.toml_text.specs.Bytes.{is_ws}
use Rattle.toml_text.specs.Runs.{begins, is_byte, newline_len}
use Rattle.toml_scalar.specs.Scanning.{scan_at}
use Rattle.toml_tree.specs.Reading.{Cursor, here, ahead, up_to, all_of, run_at, blank_at, assign_at, ◌>>=◌}
use Rattle.toml_tree.specs.Tree.{Piece, GapLine, Gap, Value, Scalar, Array, Inline, Items, Close, Last, More, Pairs, ClosePairs, LastPair, MorePairs, KeyVal}
use Rattle.toml_tree.specs.declared.profile.Profile.{Profile}
use Rattle.toml_tree.specs.declared.profile.Profile.TheVariants.{One, Two}
use Rattle.toml_tree.specs.declared.step.Step.{Step}
use Rattle.toml_tree.specs.declared.step.Step.TheVariants.{Next, Done}

unfoldable pub scalar_at : Cursor → Option (Value × Cursor)
scalar_at c = scan_at c.rest >>= λ r. Some (Scalar r.1 (here r.0 c), ahead r.0 c)

-- a gap ends where no newline comes; a comment there has none behind it
abbrev pub gap_end : Option Piece → Piece → Cursor → Option (Step GapLine Piece × Cursor)
gap_end None ws c = Some (Done ws, c)
gap_end (Some p) ws c = None

unfoldable pub gap_step : Cursor → Option (Step GapLine Piece × Cursor)
gap_step c =
    let b = blank_at c in
    let n = newline_len b.1.rest in
    if n == 0 then gap_end b.0.comment b.0.ws b.1 else Some (Next (record { blank = b.0; newline = here n b.1 }), ahead n b.1)

unfoldable pub gap_at : Cursor → Option (Gap × Cursor)
gap_at c = all_of gap_step c >>= λ r. Some (record { lines = r.0; ws = r.1 }, r.2)

-- a value of an array between its gaps
pub record Element : Type 0 where
  pub before : Gap
  pub value : Value
  pub after : Gap

-- elements that a comma follows, and then the end
abbrev pub before_end : List Element → Items → Items
before_end [] end = end
before_end (e ∷ es) end = More e.before e.value e.after (before_end es end)

-- behind an element: a comma, or the end of the array
unfoldable pub after_element : Element → Cursor → Option (Step Element Items × Cursor)
after_element e c =
    if begins (is_byte 0x2C) c.rest then Some (Next e, ahead 1 c)
    else (if begins (is_byte 0x5D) c.rest then Some (Done (Last e.before e.value e.after), ahead 1 c) else None)

unfoldable pub item_step : (Cursor → Option (Value × Cursor)) → Cursor → Option (Step Element Items × Cursor)
item_step value c =
    gap_at c >>= λ g.
    if begins (is_byte 0x5D) g.1.rest then Some (Done (Close g.0), ahead 1 g.1)
    else (value g.1 >>= λ v. gap_at v.1 >>= λ h. after_element (record { before = g.0; value = v.0; after = h.0 }) h.1)

unfoldable pub items_at : (Cursor → Option (Value × Cursor)) → Cursor → Option (Items × Cursor)
items_at value c = all_of (item_step value) c >>= λ r. Some (before_end r.0 r.1, r.2)

unfoldable pub array_at : (Cursor → Option (Value × Cursor)) → Cursor → Option (Value × Cursor)
array_at value c =
    if begins (is_byte 0x5B) c.rest then (items_at value (ahead 1 c) >>= λ r. Some (Array (up_to r.1 c) r.0, r.1)) else None

unfoldable pub keyval_at : (Cursor → Option (Value × Cursor)) → Cursor → Option (KeyVal × Cursor)
keyval_at value c =
    assign_at c >>= λ a.
    value a.1 >>= λ v.
    Some (record { assign = a.0; value = v.0 }, v.1)

-- a pair of an inline table between its gaps
pub record Member : Type 0 where
  pub before : Gap
  pub pair : KeyVal
  pub after : Gap

-- pairs that a comma follows, and then the end
abbrev pub pairs_before_end : List Member → Pairs → Pairs
pairs_before_end [] end = end
pairs_before_end (m ∷ ms) end = MorePairs m.before m.pair.assign m.pair.value m.after (pairs_before_end ms end)

-- a gap beside a pair: in profile 1 whitespace alone
unfoldable pub pair_gap_at : Profile → Cursor → Option (Gap × Cursor)
pair_gap_at One c = let w = run_at is_ws c in Some (record { lines = []; ws = w.0 }, w.1)
pair_gap_at Two c = gap_at c

-- behind a pair: a comma, or the end of the inline table
unfoldable pub after_member : Member → Cursor → Option (Step Member Pairs × Cursor)
after_member m c =
    if begins (is_byte 0x2C) c.rest then Some (Next m, ahead 1 c)
    else (if begins (is_byte 0x7D) c.rest then Some (Done (LastPair m.before m.pair.assign m.pair.value m.after), ahead 1 c) else None)

-- a pair behind its first gap, and what stands behind it
unfoldable pub pair_at : Profile → (Cursor → Option (Value × Cursor)) → Gap → Cursor → Option (Step Member Pairs × Cursor)
pair_at profile value before c =
    keyval_at value c >>= λ k.
    pair_gap_at profile k.1 >>= λ h.
    after_member (record { before = before; pair = k.0; after = h.0 }) h.1

unfoldable pub pair_step : Profile → (Cursor → Option (Value × Cursor)) → Cursor → Option (Step Member Pairs × Cursor)
pair_step profile value c =
    pair_gap_at profile c >>= λ g.
    if begins (is_byte 0x7D) g.1.rest then Some (Done (ClosePairs g.0), ahead 1 g.1)
    else pair_at profile value g.0 g.1

unfoldable pub pairs_at : Profile → (Cursor → Option (Value × Cursor)) → Cursor → Option (Pairs × Cursor)
pairs_at profile value c = all_of (pair_step profile value) c >>= λ r. Some (pairs_before_end r.0 r.1, r.2)

-- whether `}` closes behind a comma, one standing before these pairs or not
abbrev pub ends_in_comma : Bool → Pairs → Bool
ends_in_comma comma (ClosePairs g) = comma
ends_in_comma comma (LastPair g a v h) = false
ends_in_comma comma (MorePairs g a v h ps) = ends_in_comma true ps

-- whether the pairs may end so: in profile 1 not with a comma
abbrev pub may_end : Profile → Pairs → Bool
may_end One ps = not (ends_in_comma false ps)
may_end Two ps = true

unfoldable pub inline_at : Profile → (Cursor → Option (Value × Cursor)) → Cursor → Option (Value × Cursor)
inline_at profile value c =
    if begins (is_byte 0x7B) c.rest
    then (pairs_at profile value (ahead 1 c) >>= λ r. if may_end profile r.0 then Some (Inline (up_to r.1 c) r.0, r.1) else None)
    else None

-- a value that nests at most so deep
abbrev pub value_at : Profile → ℕ → Cursor → Option (Value × Cursor)
value_at profile zero c = None
value_at profile (suc deep) c =
    if begins (is_byte 0x5B) c.rest then array_at (value_at profile deep) c
    else (if begins (is_byte 0x7B) c.rest then inline_at profile (value_at profile deep) c else scalar_at c)

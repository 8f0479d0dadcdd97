-- That a last line has a byte.
use Rattle.std.proofs.Common.{◌≡◌, inr, ℕ, ◌<◌, ◌+◌, true, Option, Some, None, List, [], ◌∷◌, ◌++◌, length, length-append, refl, sym, ap, ◌∙◌, true≢false, arith}
use Rattle.std.specs.Prelude.{is_some}
use Rattle.toml_text.specs.Forms.{IsComment}
use Rattle.toml_tree.specs.Spells.{EachIs, IsCommentOrNone, IsExpr, Part, joined, equals_parts, assign_parts, comment_parts, key_parts, value_parts, keyval_parts, header_parts, array_header_parts, blank_parts, expr_parts}
use Rattle.toml_tree.specs.Tree.{Piece, Blank, Header, KeyVal, Expr, BlankLine, KeyValLine, TableLine, ArrayTableLine}
use Rattle.toml_tree.proofs.Proved.{parts_join}
use Rattle.toml_names.specs.mentions.Keys.{key_names}
use Rattle.toml_names.specs.mentions.Mentions.{Named, section}
use Rattle.toml_names.specs.model.Addresses.{Address, below}
use Rattle.toml_names.specs.reader.Names.{own_address}
use Rattle.toml_units.specs.Places.{is_line}
use Rattle.toml_units.specs.Units.{TextUnit, comment_units, inside, line_units}
use Rattle.toml_units.specs.declared.unit.UnitKind.{UnitKind}
use Rattle.toml_units.specs.declared.unit.UnitKind.TheVariants as kinds
use Rattle.toml_editor.specs.ChangedUnits.{is_inner, LiesInValue}
use Rattle.toml_editor.proofs.Each.{each_append}
use Rattle.toml_editor.proofs.written.InsertPlace.{IsFull}
use Rattle.toml_editor.proofs.written.UnitsGone.{inner_line, value_in}
use Rattle.toml_editor.proofs.written.WayBlock.{lines_append}
use Rattle.toml_editor.proofs.written.WayZip.{lines_in}

-- the last of the units that are lines has a byte
abbrev pub LastIsFull : List TextUnit → Type 0
LastIsFull [] = Unit {0}
LastIsFull (u ∷ us) = (u.kind ≡ kinds.Line → lines_in us ≡ 0 → ¬ (u.piece.text ≡ [])) × LastIsFull us

-- it is the second list's, if that has lines
pub full_behind : (us vs : List TextUnit) → 0 < lines_in vs → LastIsFull vs → LastIsFull (us ++ vs)
full_behind [] vs some full = full
full_behind (u ∷ us) vs some full =
    ((λ is none. let e = lines_append us vs in let f : ⊥ = omega (arith, some, none, e) in absurd f), full_behind us vs some full)

-- units that are no lines
pub full_inner : (us : List TextUnit) → EachIs (λ (u : TextUnit). ¬ (u.kind ≡ kinds.Line)) us → LastIsFull us
full_inner [] h = tt
full_inner (u ∷ us) h = ((λ is none. absurd (h.0 is)), full_inner us h.1)

pub inner_is_no_line : (kind : UnitKind) → is_inner kind ≡ true → ¬ (kind ≡ kinds.Line)
inner_is_no_line kind inner is = true≢false (sym (ap is_line is) ∙ inner_line kind inner)

pub no_lines : (p : Address) (us : List TextUnit) → EachIs (LiesInValue p) us → EachIs (λ (w : TextUnit). ¬ (w.kind ≡ kinds.Line)) us
no_lines p [] h = tt
no_lines p (u ∷ us) h = (inner_is_no_line u.kind h.0.0, no_lines p us h.1)

pub tail_no_line : (at : Option Address) (o : Option Piece)
    → EachIs (λ (w : TextUnit). ¬ (w.kind ≡ kinds.Line)) (comment_units kinds.TailComment at o)
tail_no_line at None = tt
tail_no_line at (Some p) = ((λ is. cc), tt)

-- a line with a key and a value has an equals sign
pub both_long : (ps qs : List Part) → length (joined (ps ++ qs)) ≡ length (joined ps) + length (joined qs)
both_long ps qs = ap length (parts_join ps qs) ∙ length-append (joined ps) (joined qs)

equals_long : (a b : Piece) → 0 < length (joined (equals_parts a b))
equals_long a b = let e = length-append a.text (0x3D ∷ (b.text ++ [])) in omega (arith, e)

pub pair_long : (ws : Piece) (k : KeyVal) (b : Blank) → 0 < length (joined (expr_parts (KeyValLine ws k b)))
pair_long ws k b =
    let all = length-append ws.text (joined (keyval_parts k ++ blank_parts b)) in
    let line = both_long (keyval_parts k) (blank_parts b) in
    let pair = both_long (assign_parts k.assign) (value_parts k.value) in
    let assign = both_long (key_parts k.assign.key) (equals_parts k.assign.before_equals k.assign.after_equals) in
    let some = equals_long k.assign.before_equals k.assign.after_equals in
    omega (arith, all, line, pair, assign, some)

-- and one with a comment has that
pub comment_long : (ws : List ℕ) (c : Option Piece) → is_some c ≡ true → IsCommentOrNone c → 0 < length (ws ++ joined (comment_parts c))
comment_long ws None some is = absurd (true≢false (sym some))
comment_long ws (Some p) some is =
    let all = length-append ws (p.text ++ []) in
    let own = length-append p.text [] in
    let one = text_long p.text is in
    omega (arith, all, own, one)
  where
    text_long : (text : List ℕ) → IsComment text → 0 < length text
    text_long [] is = absurd is
    text_long (b ∷ bs) is = omega arith

-- and a header its brackets
pub table_long : (ws : Piece) (h : Header) (b : Blank) → 0 < length (joined (expr_parts (TableLine ws h b)))
table_long ws h b =
    let all = length-append ws.text (joined (header_parts h ++ blank_parts b)) in
    let some : 0 < length (joined (header_parts h ++ blank_parts b)) = omega arith in
    omega (arith, all, some)

pub array_long : (ws : Piece) (h : Header) (b : Blank) → 0 < length (joined (expr_parts (ArrayTableLine ws h b)))
array_long ws h b =
    let all = length-append ws.text (joined (array_header_parts h ++ blank_parts b)) in
    let some : 0 < length (joined (array_header_parts h ++ blank_parts b)) = omega arith in
    omega (arith, all, some)

pub full_line : (xs : List Named) (e : Expr) → IsFull e → IsExpr e → LastIsFull (line_units xs e)
full_line xs (KeyValLine ws k b) full form =
    let at = below (section xs) (key_names k.assign.key) in (
      (λ line none empty. let some = pair_long ws k b in let zero = ap length empty in let e : ⊥ = omega (arith, some, zero) in absurd e),
      full_inner (inside at k.value ++ comment_units kinds.TailComment (Some at) b.comment)
          (each_append _ (inside at k.value) (comment_units kinds.TailComment (Some at) b.comment)
          (no_lines at (inside at k.value) (value_in at k.value at (inr refl))) (tail_no_line (Some at) b.comment)),
    )
full_line xs (BlankLine b) full form = (
  (λ line none empty. let some = comment_long b.ws.text b.comment full form.1 in let zero = ap length empty in let e : ⊥ = omega (arith, some, zero) in absurd e),
  full_inner (comment_units kinds.TailComment None b.comment) (tail_no_line None b.comment),
)
full_line xs (TableLine ws h b) full form = (
  (λ line none empty. let some = table_long ws h b in let zero = ap length empty in let e : ⊥ = omega (arith, some, zero) in absurd e),
  full_inner (comment_units kinds.TailComment (own_address xs (TableLine ws h b)) b.comment) (tail_no_line (own_address xs (TableLine ws h b)) b.comment),
)
full_line xs (ArrayTableLine ws h b) full form = (
  (λ line none empty. let some = array_long ws h b in let zero = ap length empty in let e : ⊥ = omega (arith, some, zero) in absurd e),
  full_inner (comment_units kinds.TailComment (own_address xs (ArrayTableLine ws h b)) b.comment) (tail_no_line (own_address xs (ArrayTableLine ws h b)) b.comment),
)

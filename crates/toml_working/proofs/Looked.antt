-- How lines look, and lines that begin as others do.
use Rattle.std.proofs.Common.{◌≡◌, ◌∙◌, ℕ, Bool, true, false, ◌&&◌, cond, List, [], ◌∷◌, Option, Some, None, refl, ap, ap₂, sym}
use Rattle.std.specs.Global.{Box}
use Rattle.std.specs.Prelude.{slice_get}
use Rattle.toml_working.specs.declared.lines.Body.{Body}
use Rattle.toml_working.specs.declared.lines.Body.TheVariants as bodies
use Rattle.toml_working.specs.declared.lines.Kept.{Kept}
use Rattle.toml_working.specs.declared.lines.Slot.{Slot}
use Rattle.toml_layout.specs.declared.layout.Layout.{Layout}
use Rattle.toml_layout.specs.declared.layout.Layout.TheVariants as layouts
use Rattle.toml_layout.specs.declared.looks.Equals.{Equals}
use Rattle.toml_layout.specs.declared.looks.Look.{Look}
use Rattle.toml_layout.specs.declared.tree.Leaf.{Leaf}
use Rattle.toml_layout.specs.declared.tree.OpenLine.{OpenLine}
use Rattle.toml_working.specs.declared.working.Position.{Position}
use Rattle.toml_names.specs.mentions.Keys.{Key}
use Rattle.toml_names.specs.model.Addresses.{Address}
use Rattle.toml_working.specs.FirstKeys.{like_before, spacing_after, spacing_like, spacing_put}
use Rattle.toml_working.specs.InsertStanding.{is_bare, new_assign, new_outline, spaced_by, spacing_behind, spacing_of}
use Rattle.toml_working.specs.Manners.{Manner}
use Rattle.toml_working.specs.Placing.{is_header, lines_before}
use Rattle.toml_working.specs.Looking.{BeginsBehind, BodyBegins, LaysOut, LooksAt, SlotLooks}
use Rattle.toml_layout.specs.Looks.{LooksAs, around, begun_as, equals_in}
use Rattle.toml_working.specs.OpeningLines.{HasOutline}
use Rattle.toml_layout.specs.OpenOutlines.{leaf_text, line}
use Rattle.toml_layout.specs.Outlines.{AssignOutline, LineOutline, Pair, ValueOutline}
use Rattle.toml_layout.specs.Spacings.{is_narrow, laid_out, plain_spacing}
use Rattle.toml_working.specs.Standing.{Read, Standing}
use Rattle.toml_working.proofs.AtPlace.{line_in, no_line as no_place}

-- ---- how lines look

-- the line at a place
pub place_looks : (read : Read) (all : List Slot) (at : Position) (slot : Slot) (look : Look) → slice_get all at.slot ≡ Some slot
    → SlotLooks read.lines slot at.index look → LooksAt read all at look
place_looks read all at slot look there looks s e = looks read.units s (line_in read all at slot s there e)

pub no_place_looks : (read : Read) (all : List Slot) (at : Position) (look : Look) → slice_get all at.slot ≡ None → LooksAt read all at look
no_place_looks read all at look none s e = absurd (no_place read all at s none e)

-- in layout `Follow`
pub follow_lays : (layout : Layout) (read : Read) (all : List Slot) (at : Position) (ws : Leaf) (equals : Option Equals) → layout ≡ layouts.Follow
    → BeginsBehind read all at ws equals → LaysOut layout read all at ws equals
follow_lays layout read all at ws equals is begins s e =
    begins s e ∙ sym (ap (λ l. laid_out l (spacing_after (lines_before read all at.slot at.index) s.base s.address s.outline)) is)

-- ---- the whitespace of a line behind another

-- one with a key and a value,
pub after_pair : (front : List Standing) (base : Option ℕ) (own : Option Address) (l : LineOutline) → is_bare base own ≡ false → is_header base own ≡ false
    → spacing_after front base own l ≡ spaced_by l.ws (equals_in l.expr)
after_pair front (Some n) own l bare head = refl
after_pair front None None l bare head = cc
after_pair front None (Some a) l bare head = cc

-- and a header
pub after_header : (front : List Standing) (base : Option ℕ) (own : Option Address) (l : LineOutline) → is_header base own ≡ true
    → spacing_after front base own l ≡ spacing_like l.ws (like_before l.ws front)
after_header front (Some n) own l is = cc
after_header front None None l is = cc
after_header front None (Some a) l is = refl

-- behind no header it is that of the line
pub put_behind_no_header : (manner : Manner) (front : List Standing) (s : Standing) → is_header s.base s.address ≡ false → spacing_put manner front s ≡ spacing_behind manner s
put_behind_no_header manner front s not = ap (laid_out manner.layout) (by s.base s.address not)
  where
    by : (base : Option ℕ) (own : Option Address) → is_header base own ≡ false → spacing_after front base own s.outline ≡ spacing_of base s.outline
    by (Some n) own h = refl
    by None None h = refl
    by None (Some a) h = cc

-- a line that looks so has this whitespace
pub looks_spaced : (look : Look) (l : LineOutline) → LooksAs look l → spaced_by (leaf_text look.ws) (around look.equals) ≡ spaced_by l.ws (equals_in l.expr)
looks_spaced look l looks = ap₂ spaced_by looks.ws looks.equals

-- ---- lines that begin as others do

kept_open : (k : Kept) (o : Box OpenLine) → bodies.Kept k ≡ bodies.Open o → ⊥
kept_open k o is = cc

-- what stands on a line
pub body_begun : (ws : List ℕ) (equals : Option (List ℕ × List ℕ)) (old now : Body) (o : LineOutline) → HasOutline o old → BodyBegins ws equals old now
    → HasOutline (begun_as ws equals o) now
body_begun ws equals (bodies.Open n) now o (opened, is, outlined) (m, now_is, line_is) =
    let same : n ≡ opened = cc in
    (m, now_is, line_is ∙ ap (begun_as ws equals) (ap (λ (x : Box OpenLine). line x.value) same ∙ outlined))
body_begun ws equals (bodies.Kept k) now o (opened, is, outlined) begins = absurd (kept_open k opened is)

-- a new line
pub begun_new : (ws : List ℕ) (equals : Option (List ℕ × List ℕ)) (key : Key) (v : ValueOutline) (newline : List ℕ)
    → begun_as ws equals (new_outline plain_spacing key v newline) ≡ new_outline (spaced_by ws equals) key v newline
begun_new ws None key v newline = refl
begun_new ws (Some (before, after)) key v newline = by (is_narrow before && is_narrow after)
  where
    with_assign : AssignOutline → LineOutline
    with_assign a = record { ws = ws; expr = Pair a v; tail = []; comment = None; newline = newline }

    by : (b : Bool)
        → with_assign (cond b (record (new_assign plain_spacing key) { before_equals = before; after_equals = after }) (new_assign plain_spacing key))
        ≡ new_outline (cond b (record { ws = ws; before_equals = before; after_equals = after }) (record { ws = ws; before_equals = 0x20 ∷ []; after_equals = 0x20 ∷ [] })) key v newline
    by true = refl
    by false = refl

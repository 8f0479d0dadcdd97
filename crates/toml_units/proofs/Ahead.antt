-- The units that a cursor holds: the one before which it stands, and those behind it.
use Rattle.std.proofs.Common.{◌≡◌, ℕ, zero, suc, ◌+◌, List, [], ◌∷◌, ◌++◌, length, drop, true, false, Option, Some, None, option_map, refl, sym, ap, subst, ◌∙◌, arith}
use Rattle.std.specs.Prelude.{slice_get}
use Rattle.std.proofs.lemmas.List.{append-nil}
use Rattle.std.proofs.lemmas.Option.{none-some, same_Some, slice_get_past}
use Rattle.toml_tree.specs.Spells.{EachIs}
use Rattle.toml_units.specs.Cursors.{HasNextNewline, ahead, current, later_newlines, lined_behind, lined_by, lined_first, newlines_ahead, own_newline}
use Rattle.toml_units.specs.Lined.{LinedUnit, with_newline}
use Rattle.toml_units.specs.Opened.{opened_units}
use Rattle.toml_units.specs.Places.{is_line}
use Rattle.toml_units.specs.View.{Spanned, all_units, unit}
use Rattle.toml_units.specs.declared.cursor.UnitCursor.{UnitCursor}
use Rattle.toml_units.specs.declared.opened.Opened.{Opened}
use Rattle.toml_units.specs.declared.unit.Unit.{Unit as Made}
use Rattle.toml_units.specs.declared.unit.UnitKind.{UnitKind}
use Rattle.toml_units.specs.declared.unit.UnitKind.TheVariants as kinds
use Rattle.toml_units.proofs.Lined.{IsNoLine}
use Rattle.toml_units.proofs.OpenedLines.{opened_no_lines}

-- ---- units with their newlines

own_other : (k : UnitKind) (newline : List ℕ) (newlines : List (List ℕ)) → ¬ (k ≡ kinds.Line) → own_newline k newline newlines ≡ newline
own_other kinds.Line newline newlines none = absurd (none refl)
own_other kinds.TailComment newline newlines none = refl
own_other kinds.InnerComment newline newlines none = refl
own_other kinds.Element newline newlines none = refl
own_other kinds.Pair newline newlines none = refl

later_other : (k : UnitKind) (newlines : List (List ℕ)) → ¬ (k ≡ kinds.Line) → later_newlines k newlines ≡ newlines
later_other kinds.Line newlines none = absurd (none refl)
later_other kinds.TailComment newlines none = refl
later_other kinds.InnerComment newlines none = refl
later_other kinds.Element newlines none = refl
later_other kinds.Pair newlines none = refl

-- what a test of a kind tells
pub line_of : (k : UnitKind) → is_line k ≡ true → k ≡ kinds.Line
line_of kinds.Line is = refl
line_of kinds.TailComment is = cc
line_of kinds.InnerComment is = cc
line_of kinds.Element is = cc
line_of kinds.Pair is = cc

pub no_line_of : (k : UnitKind) → is_line k ≡ false → ¬ (k ≡ kinds.Line)
no_line_of k none = λ is. let e : true ≡ false = sym (ap is_line is) ∙ none in cc

-- a unit that is no line has the newline of the one before it,
first_in_line : (newline : List ℕ) (newlines : List (List ℕ)) (u : Spanned) (us : List Spanned) → IsNoLine u
    → lined_first newline newlines (u ∷ us) ≡ lined_behind newline newlines (u ∷ us)
first_in_line newline newlines u us none =
    let own = sym (own_other u.kind newline newlines none) in
    let later = sym (later_other u.kind newlines none) in
    λ i. record { unit = u; newline = own i } ∷ lined_behind (own i) (later i) us

-- also the first one of some
pub all_in_line : (newline : List ℕ) (newlines : List (List ℕ)) (us : List Spanned) → EachIs IsNoLine us → lined_first newline newlines us ≡ lined_behind newline newlines us
all_in_line newline newlines [] none = refl
all_in_line newline newlines (u ∷ us) none = first_in_line newline newlines u us none.0

-- and a line has the next one
first_of_line : (newline own : List ℕ) (newlines later : List (List ℕ)) (u : Spanned) (us : List Spanned) → own ≡ own_newline kinds.Line newline newlines
    → later ≡ later_newlines kinds.Line newlines → u.kind ≡ kinds.Line → lined_first own later (u ∷ us) ≡ lined_behind newline newlines (u ∷ us)
first_of_line newline own newlines later u us is are line =
    let same = is ∙ ap (λ k. own_newline k newline newlines) (sym line) in
    let rest = are ∙ ap (λ k. later_newlines k newlines) (sym line) in
    λ i. record { unit = u; newline = same i } ∷ lined_behind (same i) (rest i) us

-- units of one line, and what is behind them
pub behind_front : (newline : List ℕ) (newlines : List (List ℕ)) (us ws : List Spanned) → EachIs IsNoLine us
    → lined_behind newline newlines (us ++ ws) ≡ with_newline newline us ++ lined_behind newline newlines ws
behind_front newline newlines [] ws none = refl
behind_front newline newlines (u ∷ us) ws none =
    sym (first_in_line newline newlines u (us ++ ws) none.0)
    ∙ ap (λ xs. record { unit = u; newline = newline } ∷ xs) (behind_front newline newlines us ws none.1)

pub behind_line : (newline : List ℕ) (newlines : List (List ℕ)) (us : List Spanned) → EachIs IsNoLine us
    → lined_behind newline newlines us ≡ with_newline newline us
behind_line newline newlines us none =
    ap (lined_behind newline newlines) (sym (append-nil us)) ∙ behind_front newline newlines us [] none ∙ append-nil (with_newline newline us)

-- ---- places

drop_empty : {A : Type 0} (i : ℕ) (xs : List A) → xs ≡ [] → drop i xs ≡ []
drop_empty zero xs is = is
drop_empty (suc i) xs is = ap (drop (suc i)) is

drop_at : {A : Type 0} (xs : List A) (i : ℕ) (x : A) → slice_get xs i ≡ Some x → drop i xs ≡ x ∷ drop (i + 1) xs
drop_at [] i x is = absurd (none-some x is)
drop_at (y ∷ xs) zero x is = ap (λ z. z ∷ xs) (same_Some y x is)
drop_at (y ∷ xs) (suc i) x is =
    let next : suc i + 1 ≡ suc (i + 1) = omega arith in
    subst (λ j. drop i xs ≡ x ∷ drop j (y ∷ xs)) (sym next) (drop_at xs i x is)

drop_none : {A : Type 0} (xs : List A) (i : ℕ) → slice_get xs i ≡ None → drop i xs ≡ []
drop_none [] i is = drop_empty i [] refl
drop_none (x ∷ xs) zero is = absurd (none-some x (sym is))
drop_none (x ∷ xs) (suc i) is = drop_none xs i is

-- ---- what is ahead

-- the code's unit before which the cursor stands
here : (c : UnitCursor) (o : Option Made) (x : LinedUnit) → option_map (lined_by c) o ≡ Some x → (u : Made) × (o ≡ Some u) × (lined_by c u ≡ x)
here c (Some u) x is = (u, refl, same_Some (lined_by c u) x is)
here c None x is = absurd (none-some x is)

none_here : (c : UnitCursor) (o : Option Made) → option_map (lined_by c) o ≡ None → o ≡ None
none_here c (Some u) is = absurd (none-some (lined_by c u) (sym is))
none_here c None is = refl

-- units, and behind them those of the opened line, with the cursor's newline, and with those that come behind it
abbrev first_of : UnitCursor → List Made → List LinedUnit
first_of c us = lined_first c.newline.now (newlines_ahead c) (all_units us ++ opened_units c.reading.opened)

abbrev behind_of : UnitCursor → List Made → List LinedUnit
behind_of c us = lined_behind c.newline.now (newlines_ahead c) (all_units us ++ opened_units c.reading.opened)

-- what comes behind the unit before which the cursor stands
abbrev pub rest : UnitCursor → List LinedUnit
rest c = behind_of c (drop (c.place + 1) c.units.items)

pub ahead_is : (c : UnitCursor) (x : LinedUnit) → current c ≡ Some x → ahead c ≡ x ∷ rest c
ahead_is c x is =
    let at = here c (slice_get c.units.items c.place) x is in
    ap (first_of c) (drop_at c.units.items c.place at.0 at.1) ∙ ap (λ y. y ∷ rest c) at.2

-- where no unit that is held is ahead, only those of the opened line are
abbrev pub unheld : UnitCursor → List LinedUnit
unheld c = first_of c []

nothing_held : (c : UnitCursor) → slice_get c.units.items c.place ≡ None → ahead c ≡ unheld c
nothing_held c none = ap (first_of c) (drop_none c.units.items c.place none)

pub ahead_none : (c : UnitCursor) → current c ≡ None → ahead c ≡ unheld c
ahead_none c none = nothing_held c (none_here c (slice_get c.units.items c.place) none)

-- and none is where no line is opened
pub ahead_closed : (c : UnitCursor) → current c ≡ None → c.reading.opened ≡ None → ahead c ≡ []
ahead_closed c none closed = ahead_none c none ∙ ap (λ (o : Option Opened). lined_first c.newline.now (newlines_ahead c) (opened_units o)) closed

pub none_held : (c : UnitCursor) → c.units.items ≡ [] → c.reading.opened ≡ None → ahead c ≡ []
none_held c none closed =
    ap (first_of c) (drop_empty c.place c.units.items none)
    ∙ ap (λ (o : Option Opened). lined_first c.newline.now (newlines_ahead c) (opened_units o)) closed

pub no_unit : (c : UnitCursor) → slice_get c.units.items c.place ≡ None → current c ≡ None
no_unit c none = ap (option_map (lined_by c)) none

pub none_kept : (c : UnitCursor) → c.units.items ≡ [] → current c ≡ None
none_kept c none = no_unit c (ap (λ us. slice_get us c.place) none ∙ slice_get_past [] c.place (omega arith))

-- the next places are fewer
pub fewer : (c : UnitCursor) (x : LinedUnit) → current c ≡ Some x → length (drop c.place c.units.items) ≡ suc (length (drop (c.place + 1) c.units.items))
fewer c x is =
    let at = here c (slice_get c.units.items c.place) x is in
    ap length (drop_at c.units.items c.place at.0 at.1)

pub none_there : (c : UnitCursor) → current c ≡ None → length (drop c.place c.units.items) ≡ 0
none_there c none = ap length (drop_none c.units.items c.place (none_here c (slice_get c.units.items c.place) none))

pub some_here : (c : UnitCursor) (u : Made) → slice_get c.units.items c.place ≡ Some u → ¬ (current c ≡ None)
some_here c u is = λ none. none-some u (sym (none_here c (slice_get c.units.items c.place) none) ∙ is)

-- ---- the next place

-- the cursor at the next place, its newline being the same
abbrev pub behind : UnitCursor → UnitCursor
behind c = record { reading = c.reading; units = c.units; place = c.place + 1; newline = c.newline; newlines = c.newlines }

-- nothing that is held stands there: what is on the opened line has its newline
pub rest_none : (c : UnitCursor) → slice_get c.units.items (c.place + 1) ≡ None → ahead (behind c) ≡ rest c
rest_none c none =
    nothing_held (behind c) none
    ∙ all_in_line c.newline.now (newlines_ahead c) (opened_units c.reading.opened) (opened_no_lines c.reading.opened)
    ∙ sym (ap (behind_of c) (drop_none c.units.items (c.place + 1) none))

-- a unit that is no line stands there
pub rest_in_line : (c : UnitCursor) (u : Made) → slice_get c.units.items (c.place + 1) ≡ Some u → ¬ (u.kind ≡ kinds.Line) → ahead (behind c) ≡ rest c
rest_in_line c u is none =
    let at = drop_at c.units.items (c.place + 1) u is in
    let more = all_units (drop (c.place + 1 + 1) c.units.items) ++ opened_units c.reading.opened in
    ap (first_of c) at ∙ first_in_line c.newline.now (newlines_ahead c) (unit u) more none ∙ ap (behind_of c) (sym at)

-- or a line does, whose newline was taken
pub rest_of_line : (c new : UnitCursor) (u : Made) → slice_get c.units.items (c.place + 1) ≡ Some u → u.kind ≡ kinds.Line → HasNextNewline (behind c) new
    → ahead new ≡ rest c
rest_of_line c new u is line h =
    let at = drop_at c.units.items (c.place + 1) u is in
    let more = all_units (drop (c.place + 1 + 1) c.units.items) ++ opened_units c.reading.opened in
    (λ i. lined_first new.newline.now (newlines_ahead new) (all_units (drop (h.place i) (h.units i).items) ++ opened_units (h.reading i).opened))
    ∙ ap (λ us. lined_first new.newline.now (newlines_ahead new) (all_units us ++ opened_units c.reading.opened)) at
    ∙ first_of_line c.newline.now new.newline.now (newlines_ahead c) (newlines_ahead new) (unit u) more h.newline h.newlines line
    ∙ ap (behind_of c) (sym at)

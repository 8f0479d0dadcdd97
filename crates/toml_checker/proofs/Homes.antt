-- Whether the line of a unit stays, carried from unit to unit.
use Rattle.std.proofs.Common.{◌≡◌, ◌||◌, ◌&&◌, not, Bool, true, false, ℕ, List, [], ◌∷◌, Option, Some, None, if◌then◌else◌, refl, sym, ap, ◌∙◌}
use Rattle.toml_edits.specs.Carry.{carry}
use Rattle.toml_edits.specs.Edits.{Change, place}
use Rattle.toml_units.specs.declared.unit.UnitKind.{UnitKind}
use Rattle.toml_units.specs.declared.unit.UnitKind.TheVariants as kinds
use Rattle.toml_units.specs.Places.{is_line}
use Rattle.toml_names.specs.model.Addresses.{Address}
use Rattle.toml_edits.specs.declared.side.Side.{Side}
use Rattle.toml_checker.specs.declared.tables.Part.TheVariants as parts
use Rattle.toml_edits.specs.Sides.{side}
use Rattle.toml_checker.specs.Plain.{Site, home_stands, home_with, is_kept_by, is_named, line_is_changed, line_is_gone, next_line, stands}

pub home_next : (cs : List Change) (line : Option Site) (s : Site) → home_with cs (home_stands cs line) s ≡ home_stands cs (next_line line s)
home_next cs line s = by s.kind refl
  where
    by : (k : UnitKind) → s.kind ≡ k → home_with cs (home_stands cs line) s ≡ home_stands cs (next_line line s)
    by kinds.Line e = rw e refl
    by kinds.TailComment e = rw e refl
    by kinds.InnerComment e = rw e refl
    by kinds.Element e = rw e refl
    by kinds.Pair e = rw e refl

-- a line that no edit names is not gone
gone_is_named : (c : Change) (base : Option ℕ) (s : Side) → is_named parts.Line c base s ≡ false → is_named parts.Home c base s ≡ false
gone_is_named c base s h = off (line_is_gone c base s) (line_is_changed c base s) h
  where
    off : (a b : Bool) → (a || b) ≡ false → a ≡ false
    off true b h = h
    off false b h = refl

pub line_is_home : (cs : List Change) (o : Option Address) (base : Option ℕ) → stands parts.Line cs o base ≡ true → stands parts.Home cs o base ≡ true
line_is_home [] o base h = refl
line_is_home (c ∷ cs) None base h = refl
line_is_home (c ∷ cs) (Some a) base h =
    both (is_named parts.Line c base (side (place c) a)) (is_named parts.Home c base (side (place c) a)) (stands parts.Line cs (carry c a) base) (stands parts.Home cs (carry c a) base)
    (gone_is_named c base (side (place c) a)) (line_is_home cs (carry c a) base) h
  where
    both : (m n p q : Bool) → (m ≡ false → n ≡ false) → (p ≡ true → q ≡ true) → (not m && p) ≡ true → (not n && q) ≡ true
    both true n p q f g h = cc
    both false n p q f g h = rw (f refl, g h) refl

-- whether a unit is protected does not ask for the line that it is
pub kept_before : (cs : List Change) (home : Bool) (s : Site) → is_kept_by s.kind cs (home_with cs home s) s ≡ is_kept_by s.kind cs home s
kept_before cs home s = by s.kind refl
  where
    by : (k : UnitKind) → s.kind ≡ k → is_kept_by s.kind cs (home_with cs home s) s ≡ is_kept_by s.kind cs home s
    by kinds.Line e = rw e refl
    by kinds.TailComment e = rw e refl
    by kinds.InnerComment e = rw e refl
    by kinds.Element e = rw e refl
    by kinds.Pair e = rw e refl

-- a protected line is there
pub home_of_line : (cs : List Change) (home : Bool) (s : Site) → s.kind ≡ kinds.Line → is_kept_by s.kind cs home s ≡ true → true ≡ home_with cs home s
home_of_line cs home s line h =
    let kept : stands parts.Line cs s.address s.base ≡ true = sym (ap (λ k. is_kept_by k cs home s) line) ∙ h in
    let here : stands parts.Home cs s.address s.base ≡ true = line_is_home cs s.address s.base kept in
    sym (ap (λ (k : UnitKind). if is_line k then stands parts.Home cs s.address s.base else home) line ∙ here)

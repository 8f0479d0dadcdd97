-- Pairs of units, one of the text before the edits and one of the text after them.
use Rattle.std.specs.Prelude.{◌≡◌, ◌⊎◌, ◌<◌, ◌+◌, ℕ, List, [], ◌∷◌, length, take, count_by, Option, Some, option_map, slice_get}
use Rattle.toml_tree.specs.Spells.{EachIs}
use Rattle.toml_tree.specs.Tree.{Doc, Line}
use Rattle.toml_edits.specs.Edits.{Change}
use Rattle.toml_units.specs.declared.unit.UnitKind.TheVariants as kinds
use Rattle.toml_units.specs.Places.{is_line}
use Rattle.toml_units.specs.Units.{TextUnit, units}
use Rattle.toml_checker.specs.CarriedTo.{IsCarriedTo}

-- the number of the line at the place, from 0: that of the lines before it
abbrev pub line_number : List TextUnit → ℕ → ℕ
line_number us i = count_by (λ (u : TextUnit). is_line u.kind) (take i us)

abbrev pub newline_of : Doc → ℕ → Option (List ℕ)
newline_of d i = option_map (λ (l : Line). l.newline.text) (slice_get d.lines (line_number (units d.lines) i))

abbrev pub IsLastLine : Doc → ℕ → Type 0
IsLastLine d i = line_number (units d.lines) i + 1 ≡ length d.lines

-- the two lines have one newline, or one of them is the last of its text
abbrev pub KeepsNewline : Doc → Doc → ℕ → ℕ → Type 0
KeepsNewline d e i k = (newline_of d i ≡ newline_of e k) ⊎ IsLastLine d i ⊎ IsLastLine e k

-- The unit at the first place stands in the second text as that at the second: of one kind, with the same bytes, at the carried
-- address, and, a line, with the same newline.
pub record StandsAs (cs : List Change) (d e : Doc) (i k : ℕ) : Type 0 where
  pub first : TextUnit
  pub first_is : slice_get (units d.lines) i ≡ Some first
  pub second : TextUnit
  pub second_is : slice_get (units e.lines) k ≡ Some second
  pub kind : first.kind ≡ second.kind
  pub text : first.piece.text ≡ second.piece.text
  pub address : IsCarriedTo cs first.address second.address
  pub newline : first.kind ≡ kinds.Line → KeepsNewline d e i k

-- both numbers rise strictly from pair to pair
abbrev pub RiseFrom : ℕ → ℕ → List (ℕ × ℕ) → Type 0
RiseFrom i k [] = Unit {0}
RiseFrom i k (p ∷ ps) = (i < p.0) × (k < p.1) × RiseFrom p.0 p.1 ps

abbrev pub Rise : List (ℕ × ℕ) → Type 0
Rise [] = Unit {0}
Rise (p ∷ ps) = RiseFrom p.0 p.1 ps

abbrev pub AllFit : List Change → Doc → Doc → List (ℕ × ℕ) → Type 0
AllFit cs d e ps = EachIs (λ p. StandsAs cs d e p.0 p.1) ps

-- the pairs name units that are there, in order, each two the same but for where the edits carry them
abbrev pub PairsFit : List Change → Doc → Doc → List (ℕ × ℕ) → Type 0
PairsFit cs d e ps = Rise ps × AllFit cs d e ps

-- the number is the first of a pair
abbrev pub IsFirst : List (ℕ × ℕ) → ℕ → Type 0
IsFirst [] i = ⊥
IsFirst (p ∷ ps) i = (p.0 ≡ i) ⊎ IsFirst ps i

-- or the second of one
abbrev pub IsSecond : List (ℕ × ℕ) → ℕ → Type 0
IsSecond [] k = ⊥
IsSecond (p ∷ ps) k = (p.1 ≡ k) ⊎ IsSecond ps k

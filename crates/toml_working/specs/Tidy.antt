-- Pieces of a text as an edited text keeps them: in the order of the text, none empty, and as few as can be.
use Rattle.std.specs.Prelude.{◌≡◌, ◌≢◌, ◌<◌, ◌≤◌, ℕ, List, [], ◌∷◌, ◌++◌, Option, Some, None, String, string_bytes}
use Rattle.std.specs.Global.{Global}
use Rattle.toml_text.specs.declared.span.Span.{Span}
use Rattle.toml_tree.specs.Spells.{EachIs}
use Rattle.toml_units.specs.Pieces.{AreHeld, joined_text}
use Rattle.toml_units.specs.declared.piece.Piece.{Piece}
use Rattle.toml_units.specs.declared.piece.Piece.TheVariants.{Kept, New}

-- the kept spans begin at the place or behind it, and each begins where the one before it ends, or behind that
abbrev pub RiseFrom : ℕ → List Piece → Type 0
RiseFrom at [] = Unit {0}
RiseFrom at (Kept span ∷ ps) = (at ≤ span.start) × RiseFrom span.end ps
RiseFrom at (New new ∷ ps) = RiseFrom at ps

-- the piece is not empty
abbrev pub IsFull : Piece → Type 0
IsFull (Kept span) = span.start < span.end
IsFull (New new) = string_bytes new ≢ []

-- the two are not one piece when they meet: they are no two new texts, and no two spans that touch
abbrev pub AreApart : Piece → Piece → Type 0
AreApart (Kept span) (Kept next) = span.end ≢ next.start
AreApart (Kept span) (New next) = Unit {0}
AreApart (New new) (Kept next) = Unit {0}
AreApart (New new) (New next) = ⊥

-- each is apart from the next one
abbrev pub NeighboursAreApart : List Piece → Type 0
NeighboursAreApart [] = Unit {0}
NeighboursAreApart (p ∷ []) = Unit {0}
NeighboursAreApart (p ∷ (q ∷ ps)) = AreApart p q × NeighboursAreApart (q ∷ ps)

-- the text holds the spans that are kept, these rise and do not overlap, no piece is empty, and no two that meet are one
pub record AreTidy (text : List ℕ) (ps : List Piece) : Type 0 where
  pub held : AreHeld text ps
  pub rise : RiseFrom 0 ps
  pub full : EachIs IsFull ps
  pub apart : NeighboursAreApart ps

-- the piece is new, or it ends at the place or before it
abbrev pub EndsBy : ℕ → Piece → Type 0
EndsBy at (Kept span) = span.end ≤ at
EndsBy at (New new) = Unit {0}

-- the pieces are tidy, and the kept ones end at the place or before it
pub record AreTidyUpTo (text : List ℕ) (end : ℕ) (ps : List Piece) : Type 0 where
  pub tidy : AreTidy text ps
  pub before : EachIs (EndsBy end) ps

-- the piece is kept, and ends at the place
abbrev pub IsKeptTo : ℕ → Piece → Type 0
IsKeptTo place (Kept span) = span.end ≡ place
IsKeptTo place (New new) = ⊥

-- the piece is new
abbrev pub IsNew : Piece → Type 0
IsNew (Kept span) = ⊥
IsNew (New new) = Unit {0}

-- there is a last piece, and this holds of it
abbrev pub EndsWith : (Piece → Type 0) → List Piece → Type 0
EndsWith P [] = ⊥
EndsWith P (p ∷ []) = P p
EndsWith P (p ∷ (q ∷ ps)) = EndsWith P (q ∷ ps)

-- the last piece is taken out, if it is kept and ends at the place
abbrev pub TakesKept : ℕ → List Piece → List Piece → Option Span → Type 0
TakesKept place old new None = (new ≡ old) × (¬ EndsWith (IsKeptTo place) old)
TakesKept place old new (Some last) = (last.end ≡ place) × (old ≡ new ++ Kept last ∷ [])

-- the last piece is taken out, if it is new
abbrev pub TakesNew : List Piece → List Piece → Option (String Global) → Type 0
TakesNew old new None = (new ≡ old) × (¬ EndsWith IsNew old)
TakesNew old new (Some last) = old ≡ new ++ New last ∷ []

-- the pieces, which are tidy, are the text
pub record ArePieces (before after : List ℕ) (pieces : List Piece) : Type 0 where
  pub joined : joined_text before pieces ≡ after
  pub tidy : AreTidy before pieces

-- Lines of a text as they are shown below a sentence.
use Rattle.std.specs.Prelude.{◌≡◌, ◌≢◌, ◌+◌, ◌-◌, ◌==◌, ℕ, List, [], ◌∷◌, ◌++◌, codes, count_by, decimal, if◌then◌else◌, length, min, replicate, string_bytes, take}
use Rattle.std.specs.List.{AllByRecursion}
use Rattle.toml_text.specs.Positions.{is_lf}
use Rattle.toml_explain.specs.Shown.{ShowsLine, ShowsRun}
use Rattle.toml_explain.specs.declared.drawing.Drawing.{Drawing}
use Rattle.toml_explain.specs.declared.excerpt.Excerpt.{Excerpt}

-- the number of the line in which a place of the bytes stands, from 1; a place behind their end is the end
abbrev pub line_number : List ℕ → ℕ → ℕ
line_number bytes at = count_by is_lf (take (min at (length bytes)) bytes) + 1

-- a space, where the column of numbers has a width
abbrev pub space_behind : ℕ → List ℕ
space_behind width = replicate (min width 1) 0x20

-- what stands in front of a line, behind spaces up to the width of the column of numbers
abbrev pub margin : ℕ → List ℕ → List ℕ
margin width label = codes "  " ++ (replicate (width - length label) 0x20 ++ (label ++ (space_behind width ++ codes "| ")))

-- a word behind carets, if there is one
abbrev pub noted : List ℕ → List ℕ
noted [] = []
noted (c ∷ word) = 0x20 ∷ c ∷ word

-- the carets below a line, and a word behind them
abbrev pub below_line : ℕ → List ℕ → List ℕ → List ℕ
below_line width carets note = margin width [] ++ (carets ++ (noted note ++ (0x0A ∷ [])))

-- a line behind its label, and what stands below it
abbrev pub labelled : ℕ → List ℕ → List ℕ → List ℕ → List ℕ → List ℕ
labelled width label line carets note = margin width label ++ (line ++ (0x0A ∷ below_line width carets note))

-- no newline stands in it
abbrev pub IsOneLine : List ℕ → Type 0
IsOneLine = AllByRecursion (λ b. b ≢ 0x0A)

-- a line as it is shown, and the carets below it
pub record Drawn : Type 0 where
  pub line : List ℕ
  pub carets : List ℕ
  pub one : IsOneLine line
  pub other : IsOneLine carets

-- what stands below the line of a mention that forbids another
abbrev pub first_defined : List ℕ
first_defined = codes "first defined here"

-- the lines of two places of the bytes, each behind its number: `again` with carets, and `first` with carets and the word; a line that
-- has both is shown once
abbrev pub both_lines : List ℕ → ℕ → ℕ → Drawn → Drawn → List ℕ
both_lines bytes first again one other =
    let number = line_number bytes again in
    let width = length (decimal number) in
    labelled width (decimal number) one.line one.carets []
    ++ (if line_number bytes first == number then below_line width other.carets first_defined
    else labelled width (decimal (line_number bytes first)) other.line other.carets first_defined)

-- these lines are shown, and no more
abbrev pub ShowsBoth : List ℕ → ℕ → ℕ → List ℕ → Type 0
ShowsBoth bytes first again shown =
    (one other : Drawn) × ShowsLine bytes again one.line × ShowsLine bytes first other.line × (shown ≡ both_lines bytes first again one other)

-- the text ends in these lines, behind a newline
pub record EndsInBoth (bytes : List ℕ) (first again : ℕ) (text : List ℕ) : Type 0 where
  pub front : List ℕ
  pub shown : List ℕ
  pub lines : ShowsBoth bytes first again shown
  pub ends : text ≡ front ++ 0x0A ∷ shown

-- a line behind its number, and carets below it
abbrev pub numbered : ℕ → Drawn → List ℕ
numbered number d = labelled (length (decimal number)) (decimal number) d.line d.carets []

-- The text ends in the line in which the place of the bytes stands, behind its number, and carets below it, behind a newline.
pub record EndsInLine (bytes : List ℕ) (at : ℕ) (text : List ℕ) : Type 0 where
  pub front : List ℕ
  pub shown : Drawn
  pub line : ShowsLine bytes at shown.line
  pub ends : text ≡ front ++ 0x0A ∷ numbered (line_number bytes at) shown

-- it has this line, and more behind it
pub record HasLineOf (bytes : List ℕ) (at : ℕ) (text : List ℕ) : Type 0 where
  pub front : List ℕ
  pub shown : Drawn
  pub line : ShowsLine bytes at shown.line
  pub rest : List ℕ
  pub has : text ≡ front ++ 0x0A ∷ (numbered (line_number bytes at) shown ++ rest)

-- Words of the code's own contracts. A drawing is one line, and so are its carets.
pub record IsDrawn (d : Drawing) : Type 0 where
  pub line : IsOneLine (string_bytes d.text)
  pub carets : IsOneLine (string_bytes d.below)

-- the drawing of a line
pub record IsDrawnOf (line : List ℕ) (d : Drawing) : Type 0 where
  pub drawn : IsDrawn d
  pub run : ShowsRun line (string_bytes d.text)

-- of the line in which a place of the bytes stands
pub record IsDrawnAt (bytes : List ℕ) (at : ℕ) (d : Drawing) : Type 0 where
  pub drawn : IsDrawn d
  pub line : ShowsLine bytes at (string_bytes d.text)

-- the excerpt got these bytes more
pub record Gains (old new : Excerpt) (more : List ℕ) : Type 0 where
  pub width : new.width ≡ old.width
  pub text : string_bytes new.text ≡ string_bytes old.text ++ more

-- it got a line more, in which the place of the bytes stands
abbrev pub GainsLine : Excerpt → Excerpt → List ℕ → ℕ → List ℕ → Type 0
GainsLine old new bytes at note =
    (d : Drawn) × ShowsLine bytes at d.line × Gains old new (labelled old.width (decimal (line_number bytes at)) d.line d.carets note)

-- it got carets more, below that line
abbrev pub GainsCarets : Excerpt → Excerpt → List ℕ → ℕ → List ℕ → Type 0
GainsCarets old new bytes at note = (d : Drawn) × ShowsLine bytes at d.line × Gains old new (below_line old.width d.carets note)

-- it got something more
abbrev pub GainsMore : Excerpt → Excerpt → Type 0
GainsMore old new = (more : List ℕ) × Gains old new more

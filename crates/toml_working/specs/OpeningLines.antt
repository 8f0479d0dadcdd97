-- What lines of the working tree are once they are opened, and new ones.
use Rattle.std.specs.Prelude.{◌≡◌, ℕ, List, [], None, MatchOption, slice_get}
use Rattle.std.specs.Global.{Box}
use Rattle.toml_text.specs.Source.{text_of}
use Rattle.toml_tree.specs.Tree as tree
use Rattle.toml_working.specs.declared.lines.Body.{Body}
use Rattle.toml_working.specs.declared.lines.Body.TheVariants as bodies
use Rattle.toml_layout.specs.declared.texts.Texts.{Texts}
use Rattle.toml_layout.specs.declared.tree.OpenLine.{OpenLine}
use Rattle.toml_layout.specs.Opening.{LineStands}
use Rattle.toml_layout.specs.OpenOutlines.{line}
use Rattle.toml_layout.specs.Outlines.{ExprOutline, LineOutline}
use Rattle.toml_layout.specs.TreeOutlines.{line_outline}

-- it is a line with its pieces, of which the outline is this
abbrev pub HasOutline : LineOutline → Body → Type 0
HasOutline is body = (opened : Box OpenLine) × (body ≡ bodies.Open opened) × (line opened.value ≡ is)

-- a line of the document is opened: it has that line's outline where that stands in the text
abbrev pub IsOpened : Texts → tree.Line → Body → Type 0
IsOpened texts l body = (opened : Box OpenLine) × (body ≡ bodies.Open opened)
    × (LineStands (text_of texts.source) l → line opened.value ≡ line_outline l)

-- what was opened before stays as it was, and so does what the document does not have
abbrev pub OpensBody : Texts → List tree.Line → Body → Body → Type 0
OpensBody texts lines (bodies.Open opened) new = new ≡ bodies.Open opened
OpensBody texts lines (bodies.Kept kept) new =
    MatchOption (slice_get lines kept.line) (new ≡ bodies.Kept kept) (λ l. IsOpened texts l new)

-- a line with its pieces gets the newline, and keeps all else
abbrev pub EndsIn : List ℕ → Body → Body → Type 0
EndsIn newline (bodies.Open opened) new = HasOutline (record (line opened.value) { newline = newline }) new
EndsIn newline (bodies.Kept kept) new = new ≡ bodies.Kept kept

-- it is opened, and then gets the newline
abbrev pub OpensToEndIn : List ℕ → Texts → List tree.Line → Body → Body → Type 0
OpensToEndIn newline texts lines old new = (opened : Body) × OpensBody texts lines old opened × EndsIn newline opened new

-- the outline of a line on which nothing stands before and behind this
abbrev pub alone : ExprOutline → List ℕ → LineOutline
alone expr newline = record { ws = []; expr = expr; tail = []; comment = None; newline = newline }

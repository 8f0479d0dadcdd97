-- Outlines: what stands on a line by its texts, in text order. An outline has neither places nor kinds of scalars, and what stands between
-- the values of an array or an inline table, but for the commas, is a list of parts. A line of a tree has the outline of the line of the
-- working tree that is opened of it.
use Rattle.std.specs.Prelude.{ℕ, Bool, true, false, List, [], ◌∷◌, ◌++◌, Option, Some, None, if◌then◌else◌}
use Rattle.toml_layout.specs.Parts.{PartOutline, parts_outlined}

-- `.` between whitespace, and the key part behind it
pub record DottedOutline : Type 0 where
  pub before_dot : List ℕ
  pub after_dot : List ℕ
  pub part : List ℕ

-- a key, and `=` between whitespace
pub record AssignOutline : Type 0 where
  pub first : List ℕ
  pub rest : List DottedOutline
  pub before_equals : List ℕ
  pub after_equals : List ℕ

-- A value, by how it begins: a scalar whole, an array and an inline table by the bracket or the brace.
mutual
  pub data ValueOutline : Type 0 where
    Token : List ℕ → ValueOutline
    Listed : List ℕ → EntriesOutline → ValueOutline
    Braced : List ℕ → EntriesOutline → ValueOutline

  -- what stands behind the bracket or the brace: entries, each with what stands before and behind it, and what stands behind the last
  -- comma, where one follows the last entry; without an entry all that stands there
  pub data EntriesOutline : Type 0 where
    End : Option (List PartOutline) → EntriesOutline
    Entry : List PartOutline → Option AssignOutline → ValueOutline → List PartOutline → EntriesOutline → EntriesOutline

-- what stands on a line behind the whitespace before it
pub data ExprOutline : Type 0 where
  Nothing : ExprOutline
  Pair : AssignOutline → ValueOutline → ExprOutline
  Header : List ℕ → List ℕ → List ℕ → List DottedOutline → List ℕ → List ℕ → ExprOutline

-- a line by the whitespace before what stands on it, and what is behind that
pub record LineOutline : Type 0 where
  pub ws : List ℕ
  pub expr : ExprOutline
  pub tail : List ℕ
  pub comment : Option (List ℕ)
  pub newline : List ℕ

-- a line without anything on it
abbrev pub no_line : LineOutline
no_line = record { ws = []; expr = Nothing; tail = []; comment = None; newline = [] }

-- the text of an outline
abbrev pub dotted_outlined : List DottedOutline → List ℕ
dotted_outlined [] = []
dotted_outlined (d ∷ ds) = d.before_dot ++ (0x2E ∷ (d.after_dot ++ (d.part ++ dotted_outlined ds)))

abbrev pub assign_outlined : AssignOutline → List ℕ
assign_outlined a = a.first ++ (dotted_outlined a.rest ++ (a.before_equals ++ (0x3D ∷ a.after_equals)))

abbrev pub own_assign_outlined : Option AssignOutline → List ℕ
own_assign_outlined None = []
own_assign_outlined (Some a) = assign_outlined a

-- a comma, where an entry stands before
abbrev pub comma_if : Bool → List ℕ
comma_if behind = if behind then 0x2C ∷ [] else []

abbrev mutual
  pub value_outlined : ValueOutline → List ℕ
  value_outlined (Token text) = text
  value_outlined (Listed opening es) = opening ++ (entries_outlined false es ++ 0x5D ∷ [])
  value_outlined (Braced opening es) = opening ++ (entries_outlined false es ++ 0x7D ∷ [])

  pub entries_outlined : Bool → EntriesOutline → List ℕ
  entries_outlined behind (End None) = []
  entries_outlined behind (End (Some gap)) = comma_if behind ++ parts_outlined gap
  entries_outlined behind (Entry before a v after es) =
      comma_if behind
      ++ (parts_outlined before ++ (own_assign_outlined a ++ (value_outlined v ++ (parts_outlined after ++ entries_outlined true es))))

abbrev pub expr_outlined : ExprOutline → List ℕ
expr_outlined Nothing = []
expr_outlined (Pair a v) = assign_outlined a ++ value_outlined v
expr_outlined (Header opening before first rest after closing) =
    opening ++ (before ++ (first ++ (dotted_outlined rest ++ (after ++ closing))))

abbrev pub comment_outlined : Option (List ℕ) → List ℕ
comment_outlined None = []
comment_outlined (Some c) = c

abbrev pub line_outlined : LineOutline → List ℕ
line_outlined l = l.ws ++ (expr_outlined l.expr ++ (l.tail ++ (comment_outlined l.comment ++ l.newline)))

abbrev pub lines_outlined : List LineOutline → List ℕ
lines_outlined [] = []
lines_outlined (l ∷ ls) = line_outlined l ++ lines_outlined ls

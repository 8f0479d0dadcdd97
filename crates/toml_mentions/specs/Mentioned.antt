-- The key parts that stand for what a line mentions, and the one whose mention breaks the table rules.
use Rattle.std.specs.Prelude.{◌≡◌, ◌++◌, ℕ, List, [], ◌∷◌, length, map, filter, Some, slice_get}
use Rattle.toml_text.specs.Limit.{IsText}
use Rattle.toml_tree.specs.HandedOut.{AreLinesIn}
use Rattle.toml_tree.specs.Tree.{Piece, Dotted, Key, Value, Scalar, Array, Inline, Items, Close, Last, More, Pairs, ClosePairs, LastPair, MorePairs, Expr, BlankLine, KeyValLine, TableLine, ArrayTableLine, Line}
use Rattle.toml_tree.specs.declared.profile.Profile.{Profile}
use Rattle.toml_names.specs.mentions.Mentions.{is_mention}
use Rattle.toml_names.specs.model.Addresses.{Address}
use Rattle.toml_names.specs.reader.Names.{IsRedefined}

-- the parts of a key
abbrev pub parts_behind : List Dotted → List Piece
parts_behind = map (λ (d : Dotted). d.part)

abbrev pub key_pieces : Key → List Piece
key_pieces k = k.first ∷ parts_behind k.rest

-- the last of a part and those behind it
abbrev pub last_part : Piece → List Dotted → Piece
last_part p [] = p
last_part p (d ∷ ds) = last_part d.part ds

-- the key parts in a value, in text order
abbrev mutual
  pub value_pieces : Value → List Piece
  value_pieces (Scalar kind p) = []
  value_pieces (Array whole items) = item_pieces items
  value_pieces (Inline whole pairs) = pair_pieces pairs

  pub item_pieces : Items → List Piece
  item_pieces (Close g) = []
  item_pieces (Last g v h) = value_pieces v
  item_pieces (More g v h is) = value_pieces v ++ item_pieces is

  pub pair_pieces : Pairs → List Piece
  pair_pieces (ClosePairs g) = []
  pair_pieces (LastPair g a v h) = key_pieces a.key ++ value_pieces v
  pair_pieces (MorePairs g a v h ps) = (key_pieces a.key ++ value_pieces v) ++ pair_pieces ps

-- The key parts that stand for the mentions of a line, in the order of these: each part of a key for one, and the last part of a `[[..]]`
-- for two, the array and its element.
abbrev pub mention_pieces : Expr → List Piece
mention_pieces (BlankLine b) = []
mention_pieces (KeyValLine ws pair tail) = key_pieces pair.assign.key ++ value_pieces pair.value
mention_pieces (TableLine ws header tail) = key_pieces header.key
mention_pieces (ArrayTableLine ws header tail) = key_pieces header.key ++ last_part header.key.first header.key.rest ∷ []

-- The names of the text are refused at the line with the number, from 0, since it breaks the table rules, and the key part stands for its
-- first mention that forms a forbidden pair with an earlier one: as many of the line's mentions stand before that as parts before this.
pub record StandsForOffence (profile : Profile) (bytes : List ℕ) (number : ℕ) (p : Piece) : Type 0 where
  pub text : IsText bytes
  pub lines : List Line
  pub are : AreLinesIn profile bytes lines
  pub at : Address
  pub redefined : IsRedefined lines number at
  pub line : Line
  pub here : slice_get lines number ≡ Some line
  pub stands : slice_get (mention_pieces line.expr) (length (filter is_mention redefined.offence.before)) ≡ Some p

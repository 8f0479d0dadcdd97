-- Words of the code's own contracts: what is found of values at steps, in a value, in a line, in a text.
use Rattle.std.specs.Prelude.{◌≡◌, ◌⊎◌, ◌<◌, ◌+◌, ℕ, List, [], ◌∷◌, ◌++◌, Option, Some, None, MatchOption, Result, Ok, Err, slice_get}
use Rattle.std.specs.declared.alloc.AllocError.{AllocError}
use denote.Ref.{Bor}
use Rattle.toml_tree.specs.HandedOut.{left}
use Rattle.toml_tree.specs.Pieces.{piece_of}
use Rattle.toml_tree.specs.ReadingValues.{Element, Member}
use Rattle.toml_tree.specs.Tree.{Value, KeyVal, Expr, Line}
use Rattle.toml_tree.specs.declared.line_reader.LineReader.{LineReader}
use Rattle.toml_tree.specs.declared.tree.Item.{Item}
use Rattle.toml_tree.specs.declared.profile.Profile.{Profile}
use Rattle.toml_names.specs.declared.line_names.LineNames.{LineNames as Names}
use Rattle.toml_names.specs.declared.model.address.Step.{Step}
use Rattle.toml_names.specs.declared.model.address.Step.TheVariants.{Name, Index}
use Rattle.toml_names.specs.mentions.Keys.{key_names}
use Rattle.toml_names.specs.model.Addresses.{Address, below}
use Rattle.toml_names.specs.reader.Texts.{AreLeft, AreTaken, more_left}
use Rattle.toml_print.specs.ValueTexts.{StandsIn, IsValueAt, value_of}

-- the text is that of one of the values, or there is none of them
abbrev pub FindsOne : (Value → Type 0) → Option (Bor (List ℕ)) → Type 0
FindsOne P found = MatchOption found ((w : Value) → ¬ P w) (λ text. (w : Value) × P w × (text.now ≡ (piece_of w).text))

-- of a value that stands in another at the steps
abbrev pub Finds : Value → Address → Option (Bor (List ℕ)) → Type 0
Finds v at = FindsOne (StandsIn v at)

-- the element at a step
abbrev pub item_at : List Item → Step → Option Item
item_at items (Index i) = slice_get items i
item_at items (Name n) = None

-- of one that stands in one of the elements
abbrev pub IsInItems : List Element → Address → Value → Type 0
IsInItems es at w = (i : ℕ) × (e : Element) × (rest : Address) × (slice_get es i ≡ Some e) × (at ≡ Index i ∷ rest) × StandsIn e.value rest w

abbrev pub FindsInItems : List Element → Address → Option (Bor (List ℕ)) → Type 0
FindsInItems es at = FindsOne (IsInItems es at)

-- in a pair
abbrev pub IsInPair : KeyVal → Address → Value → Type 0
IsInPair p at w = (rest : Address) × (at ≡ below [] (key_names p.assign.key) ++ rest) × StandsIn p.value rest w

abbrev pub FindsInPair : KeyVal → Address → Option (Bor (List ℕ)) → Type 0
FindsInPair p at = FindsOne (IsInPair p at)

-- in one of the pairs
abbrev pub IsInPairs : List Member → Address → Value → Type 0
IsInPairs [] at w = ⊥
IsInPairs (m ∷ ms) at w = IsInPair m.pair at w ⊎ IsInPairs ms at w

abbrev pub FindsInPairs : List Member → Address → Option (Bor (List ℕ)) → Type 0
FindsInPairs ms at = FindsOne (IsInPairs ms at)

-- in a line with such an own address
abbrev pub IsOfLine : Expr → Address → Address → Value → Type 0
IsOfLine e own at w = (v : Value) × (rest : Address) × (value_of e ≡ Some v) × (at ≡ own ++ rest) × StandsIn v rest w

abbrev pub FindsOfLine : Expr → Address → Address → Option (Bor (List ℕ)) → Type 0
FindsOfLine e own at = FindsOne (IsOfLine e own at)

-- in one of the lines of a text
abbrev pub FindsInText : List Line → Address → Option (Bor (List ℕ)) → Type 0
FindsInText lines at = FindsOne (IsValueAt lines at)

-- the names of the first lines of the text were taken, and no value stands in these at the address
pub record ArePassed (profile : Profile) (text : List ℕ) (at : Address) (names : Names) (left : Option LineReader) : Type 0 where
  pub taken : AreTaken profile text names left
  pub none : (w : Value) → ¬ IsValueAt taken.front at w

-- a value stands in the first lines of the text, and the text is its
pub record IsFoundIn (profile : Profile) (text : List ℕ) (at : Address) (left : Option LineReader) (found : List ℕ) : Type 0 where
  pub front : List Line
  pub are : AreLeft profile text front left
  pub value : Value
  pub there : IsValueAt front at value
  pub is : found ≡ (piece_of value).text

-- one line more was passed, and less is left; or the value was found in it
abbrev pub LooksOn : Profile → List ℕ → Address → ℕ → Names → Result (Option (Bor (List ℕ)) × Option LineReader) AllocError → Type 0
LooksOn profile text at n names (Ok (None, more)) = ArePassed profile text at names more × (more_left more < n + 1)
LooksOn profile text at n names (Ok (Some found, more)) = IsFoundIn profile text at more found.now
LooksOn profile text at n names (Err _) = Unit {0}

-- whichever text it is of which the first lines were passed
abbrev pub LooksAt : Address → Names → LineReader → Names → Result (Option (Bor (List ℕ)) × Option LineReader) AllocError → Type 0
LooksAt at old reader new result = (profile : Profile) (text : List ℕ) → ArePassed profile text at old (Some reader) → LooksOn profile text at (left reader) new result

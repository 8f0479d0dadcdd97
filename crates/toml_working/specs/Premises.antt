-- What plain edits need of the lines of a text.
use Rattle.std.specs.Prelude.{◌≡◌, ◌⊎◌, ◌&&◌, ℕ, Bool, true, false, List, [], ◌∷◌, Any, Option, Some, None}
use Rattle.std.specs.List.{list_any}
use Rattle.toml_tree.specs.Tree.{Line}
use Rattle.toml_names.specs.declared.model.address.Step.TheVariants.{Name, Index}
use Rattle.toml_names.specs.model.Addresses.{Address, same_step}
use Rattle.toml_names.specs.mentions.Joining.{is_lone}
use Rattle.toml_names.specs.mentions.Mentions.{named}
use Rattle.toml_working.specs.declared.lines.Sought.TheVariants as sought
use Rattle.toml_working.specs.RemoveStanding.{is_pair}
use Rattle.toml_working.specs.Seeing.{is_sought_line}
use Rattle.toml_working.specs.Standing.{holds, standing}

-- a value stands at the address: a key's, or an element of an array in a value
abbrev pub HasValue : List Line → Address → Type 0
HasValue lines p = Any (λ m. (m.address ≡ p) × (is_lone m.role ≡ true)) (named lines)

-- a line has the value there
abbrev pub HasLine : List Line → Address → Type 0
HasLine lines p = list_any (is_pair p) (standing lines) ≡ true

-- the table at the address is the root, or lines have a header of it
abbrev pub HasSection : List Line → Address → Type 0
HasSection lines q = (q ≡ []) ⊎ (list_any (is_sought_line sought.Header q) (standing lines) ≡ true)

-- no line is a header of the table at the address, and a line's dotted key makes it
pub record HasDotted (lines : List Line) (q : Address) : Type 0 where
  pub no_header : list_any (is_sought_line sought.Header q) (standing lines) ≡ false
  pub dotted : list_any (is_sought_line sought.Dotted q) (standing lines) ≡ true

-- the second address lies below the first, and its next step behind that is a name
abbrev pub is_child_below : Address → Address → Bool
is_child_below [] [] = false
is_child_below [] (Name n ∷ a) = true
is_child_below [] (Index i ∷ a) = false
is_child_below (s ∷ q) [] = false
is_child_below (s ∷ q) (t ∷ a) = same_step s t && is_child_below q a

-- whether a line with this base and address is a header below a table at the address, not of an element of an array there
abbrev pub implies : Address → Option ℕ → Option Address → Bool
implies q (Some n) own = false
implies q None None = false
implies q None (Some a) = is_child_below q a

-- no line makes the table at the address, and one is a header below it
pub record HasImplied (lines : List Line) (q : Address) : Type 0 where
  pub no_header : list_any (is_sought_line sought.Header q) (standing lines) ≡ false
  pub no_dotted : list_any (is_sought_line sought.Dotted q) (standing lines) ≡ false
  pub implied : list_any (λ s. implies q s.base s.address) (standing lines) ≡ true

-- a table stands at the address that is no value, nor in one
abbrev pub HasTable : List Line → Address → Type 0
HasTable lines q = HasSection lines q ⊎ (HasDotted lines q ⊎ HasImplied lines q)

-- no line's value stands at the address or above it
abbrev pub IsInNoValue : List Line → Address → Type 0
IsInNoValue lines q = list_any (holds q) (standing lines) ≡ false

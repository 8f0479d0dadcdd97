-- The comments that edits write, as the code holds them.
use Rattle.std.specs.Prelude.{◌≡◌, ◌⊎◌, ◌<◌, ℕ, List, [], ◌∷◌, Option}
use Rattle.toml_tree.specs.declared.profile.Profile.{Profile}
use Rattle.toml_names.specs.model.Addresses.{Address}
use Rattle.toml_edits.specs.Edits.{Change, set, insert, place}
use Rattle.toml_edits.specs.Lists.{carried}
use Rattle.toml_edits.specs.ValueTexts.{IsBadValue}
use Rattle.toml_units.specs.declared.unit.UnitKind.TheVariants as kinds
use Rattle.toml_units.specs.Plain.{Spanned}
use Rattle.toml_checker.specs.declared.written.Written.{Written}
use Rattle.toml_checker.specs.CarriedTo.{IsAtOrAbove, At}
use Rattle.toml_checker.specs.Comments.{AreCommentsIn}
use Rattle.toml_checker.specs.Counts.{plain, seen, count_of}
use Rattle.toml_checker.specs.UnmarkedComments.{text_at}

-- the value of the edit, if it has one, is not refused
abbrev pub HasValue : Profile → Change → Type 0
HasValue profile (set at value) = ¬ (IsBadValue profile value)
HasValue profile (insert at value) = ¬ (IsBadValue profile value)
HasValue profile _ = Unit {0}

abbrev pub HaveValues : Profile → List Change → Type 0
HaveValues profile [] = Unit {0}
HaveValues profile (c ∷ cs) = HasValue profile c × HaveValues profile cs

-- the comments in the edit's value, how often each is there, and where the edit's place stands behind the edits that follow
pub record IsWrittenBy (c : Change) (later : List Change) (w : Written) : Type 0 where
  pub comments : AreCommentsIn c (plain w.texts.items)
  pub counts : (t : List ℕ) → count_of w.counts t ≡ seen t w.texts.items
  pub at : w.at ≡ carried later (place c)

-- those of each edit of a list
abbrev pub AreWrittenBy : List Change → List Written → Type 0
AreWrittenBy [] [] = Unit {0}
AreWrittenBy (c ∷ cs) (w ∷ ws) = IsWrittenBy c cs w × AreWrittenBy cs ws
AreWrittenBy _ _ = ⊥

-- a place is at or above an address, if there are both
abbrev pub LiesBelow : Option Address → Option Address → Type 0
LiesBelow place at = At place (λ to. At at (IsAtOrAbove to))

-- the text is one of the comments, and the place is at or above the address
abbrev pub Writes : Written → Option Address → List ℕ → Type 0
Writes w at text = (0 < count_of w.counts text) × LiesBelow w.at at

abbrev pub AnyWrites : List Written → Option Address → List ℕ → Type 0
AnyWrites [] at text = ⊥
AnyWrites (w ∷ ws) at text = Writes w at text ⊎ AnyWrites ws at text

-- a comment in an array or an inline table that one of the edits writes
abbrev pub IsAllowed : List Written → List ℕ → Spanned → Type 0
IsAllowed ws text u = (u.kind ≡ kinds.InnerComment) × AnyWrites ws u.address (text_at text u)

-- What a yes of the judge means to who reads the two texts.
use Rattle.std.specs.Prelude.{◌≡◌, ◌⊎◌, ◌<◌, ◌^◌, ℕ, List, [], length, Some, slice_get}
use Rattle.toml_tree.specs.Spells.{mark_of}
use Rattle.toml_tree.specs.Tree.{Doc}
use Rattle.toml_tree.specs.declared.profile.Profile.{Profile}
use Rattle.toml_names.specs.model.Documents.{IsDocumentIn}
use Rattle.toml_edits.specs.Edits.{Change}
use Rattle.toml_edits.specs.Lists.{Lead}
use Rattle.toml_units.specs.declared.unit.UnitKind.TheVariants as kinds
use Rattle.toml_units.specs.Units.{TextUnit, units}
use Rattle.toml_checker.specs.declared.verdict.Verdict.{Verdict}
use Rattle.toml_checker.specs.declared.verdict.Verdict.TheVariants.{Yes, No}
use Rattle.toml_checker.specs.CarriedTo.{At}
use Rattle.toml_checker.specs.Comments.{NoCommentsAdded}
use Rattle.toml_checker.specs.Demands.{Certified}
use Rattle.toml_checker.specs.Documents.{OfData}
use Rattle.toml_checker.specs.Lines.{IsEmptyEnd}
use Rattle.toml_checker.specs.Owed.{IsOwed}
use Rattle.toml_checker.specs.Pairs.{PairsFit, StandsAs}
use Rattle.toml_checker.specs.Protected.{IsProtected}

-- Each protected unit has a partner of its own: of its kind, with its bytes, at its carried address, and, a line, with its newline,
-- unless one of the two is the last line of its text.
-- The partners' numbers rise strictly.
pub record AllStand (cs : List Change) (before after : Doc) : Type 0 where
  pub partner : ℕ → ℕ
  pub rises : (i j : ℕ) → IsProtected cs (units before.lines) i → IsProtected cs (units before.lines) j → i < j → partner i < partner j
  pub stands : (i : ℕ) → IsProtected cs (units before.lines) i → StandsAs cs before after i (partner i)

-- the unit is the partner of a protected one
abbrev pub IsPartner : (cs : List Change) (before after : Doc) → AllStand cs before after → ℕ → Type 0
IsPartner cs before after standing k = (i : ℕ) × IsProtected cs (units before.lines) i × (standing.partner i ≡ k)

-- every line of the second text is a partner, or its address is owed, or it is a last line of no bytes and there is an edit
abbrev pub NothingUnasked : (cs : List Change) (before after : Doc) → AllStand cs before after → Type 0
NothingUnasked cs before after standing = (k : ℕ) (w : TextUnit) → slice_get (units after.lines) k ≡ Some w → w.kind ≡ kinds.Line
    → IsPartner cs before after standing k ⊎ At w.address (IsOwed cs) ⊎ IsEmptyEnd cs after k w

-- The headline: both texts are documents; the data of the second are what the edits make of those of the first, at every address;
-- each comment, expression, element and inline pair that no edit names stands in the second text, byte for byte, in the same order
-- and at its carried address; nothing unasked is added; and without an edit the two texts are equal.
pub record Headline (profile : Profile) (before : List ℕ) (cs : List Change) (after : List ℕ) (ps : List (ℕ × ℕ)) : Type 0 where
  -- both are documents of the profile handed in; what follows is about their trees
  pub old : IsDocumentIn profile before
  pub new : IsDocumentIn profile after
  -- the edits lead from the data of the one to those of the other
  pub facts : OfData before (λ x. OfData after (λ y. Lead profile cs x y))
  -- what no edit names stands in the second
  pub standing : AllStand cs old.1 new.1
  -- and each pair of the certificate is of two units that are the same, at the carried address
  pub paired : PairsFit cs old.1 new.1 ps
  -- no line is added unasked, no comment, and no mark
  pub lines : NothingUnasked cs old.1 new.1 standing
  pub comments : NoCommentsAdded cs new.1 ps
  pub mark : mark_of before ≡ mark_of after
  -- without an edit nothing changes
  pub same : cs ≡ [] → before ≡ after

-- a yes means the headline; a no says nothing here
abbrev pub YesMeans : Profile → List ℕ → List Change → List ℕ → List (ℕ × ℕ) → Verdict → Type 0
YesMeans profile before cs after ps Yes = Headline profile before cs after ps
YesMeans profile before cs after ps (No r) = Unit {0}

-- Law: what is certified has the headline's meaning.
abbrev pub CertifiedStand : Type 0
CertifiedStand = (profile : Profile) (before after : List ℕ) (cs : List Change) (ps : List (ℕ × ℕ)) → Certified profile before cs after ps → length cs < 2 ^ 63 → Headline profile before cs after ps

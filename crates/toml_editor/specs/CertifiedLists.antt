-- That what lists of plain edits write is certified by the pairs of partners, also by those alone that lie in no others.
use Rattle.std.specs.Prelude.{◌≡◌, ◌⊎◌, ◌↔◌, ℕ, List, [], ◌∷◌}
use Rattle.toml_text.specs.Forms.{IsNewline}
use Rattle.toml_text.specs.Limit.{IsText}
use Rattle.toml_tree.specs.Profiles.{SpellsIn}
use Rattle.toml_tree.specs.Tree.{Doc}
use Rattle.toml_tree.specs.declared.profile.Profile.{Profile}
use Rattle.toml_names.specs.model.Data.{Kinds}
use Rattle.toml_edits.specs.Edits.{Change}
use Rattle.toml_edits.specs.Lists.{Lead}
use Rattle.toml_units.specs.Units.{TextUnit, units}
use Rattle.toml_checker.specs.declared.verdict.Verdict.TheVariants.{Yes}
use Rattle.toml_checker.specs.Demands.{Certified, IsVerdict}
use Rattle.toml_checker.specs.Outer.{IsOuter}
use Rattle.toml_checker.specs.Pairs.{IsFirst}
use Rattle.toml_editor.specs.CarriedLists.{BlankNeedsNewline}
use Rattle.toml_editor.specs.CarriedUnits.{ArePartners}
use Rattle.toml_editor.specs.Steps.{IsGoodText, IsPlain, AreWritten}
use Rattle.toml_editor.specs.EditedLines.{IsWritten, manner_after}
use Rattle.toml_working.specs.Manners.{Manner}

-- Law: pairs of partners certify the text that a list of plain edits without a fault writes of a document.
abbrev pub PartnersCertify : Type 0
PartnersCertify = (cs : List Change) (profile : Profile) (manner : Manner) (before after : List ℕ) (old now : Kinds) → IsNewline manner.newline → IsText before
    → IsText after → (good : IsGoodText profile before old)
    → Lead profile cs old now → AreWritten profile cs manner before after → (new : IsGoodText profile after now)
    → (ps : List (ℕ × ℕ)) → ArePartners cs good.tree new.tree ps → Certified profile before cs after ps

-- of the pairs those whose first unit is protected and lies in no other protected one, in order
abbrev pub AreOuterOf : List Change → List TextUnit → List (ℕ × ℕ) → List (ℕ × ℕ) → Type 0
AreOuterOf cs us [] os = os ≡ []
AreOuterOf cs us (p ∷ ps) os = (IsOuter cs us p.0 × (more : List (ℕ × ℕ)) × (os ≡ p ∷ more) × AreOuterOf cs us ps more)
    ⊎ (¬ IsOuter cs us p.0 × AreOuterOf cs us ps os)

-- the partners of the units that are protected and lie in no other protected ones, and of no others
pub record AreOuterPartners (cs : List Change) (d e : Doc) (os : List (ℕ × ℕ)) : Type 0 where
  pub all : List (ℕ × ℕ)
  pub are : ArePartners cs d e all
  pub outer : AreOuterOf cs (units d.lines) all os

-- Law: they name just these units,
abbrev pub OuterAreNamed : Type 0
OuterAreNamed =
    (cs : List Change) (d e : Doc) (os : List (ℕ × ℕ)) → AreOuterPartners cs d e os → (i : ℕ) → IsFirst os i ↔ IsOuter cs (units d.lines) i

-- and they suffice.
abbrev pub OuterPartnersCertify : Type 0
OuterPartnersCertify = (cs : List Change) (profile : Profile) (manner : Manner) (before after : List ℕ) (old now : Kinds) → IsNewline manner.newline
    → IsText before → IsText after → (good : IsGoodText profile before old)
    → Lead profile cs old now → AreWritten profile cs manner before after → (new : IsGoodText profile after now)
    → (os : List (ℕ × ℕ)) → AreOuterPartners cs good.tree new.tree os → Certified profile before cs after os

-- each edit is plain on the text written so far
abbrev pub ArePlain : Profile → List Change → Manner → List ℕ → Type 0
ArePlain profile [] manner before = Unit {0}
ArePlain profile (c ∷ cs) manner before =
    ((d : Doc) → SpellsIn profile d before → IsPlain d.lines c)
    × ((between : List ℕ) (first : IsWritten profile c manner before between) → ArePlain profile cs (manner_after c manner first.0.lines) between)

-- the text is good and has outer partners with the first one; within the limit of a text the verdict is yes by any such
pub record IsCertifiedText (profile : Profile) (before : List ℕ) (old now : Kinds) (cs : List Change) (good : IsGoodText profile before old)
    (after : List ℕ) : Type 0 where
  pub new : IsGoodText profile after now
  pub pairs : List (ℕ × ℕ)
  pub partners : AreOuterPartners cs good.tree new.tree pairs
  pub verdict : IsText after → (os : List (ℕ × ℕ)) → AreOuterPartners cs good.tree new.tree os → IsVerdict profile before cs after os Yes

-- Law: a list of plain edits, each without a fault on the data so far, writes a text, and within the limit of a text that is certified.
abbrev pub PlainListIsCertified : Type 0
PlainListIsCertified = (cs : List Change) (profile : Profile) (manner : Manner) (before : List ℕ) (old now : Kinds) → IsNewline manner.newline → IsText before
    → (good : IsGoodText profile before old) → BlankNeedsNewline manner before
    → Lead profile cs old now → ArePlain profile cs manner before
    → (after : List ℕ) × AreWritten profile cs manner before after × IsCertifiedText profile before old now cs good after

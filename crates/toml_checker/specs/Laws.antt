-- Laws of what is protected, and of the demands.
use Rattle.std.specs.Prelude.{◌≡◌, ◌↔◌, ◌⊎◌, ◌<◌, ◌^◌, ◌++◌, ℕ, List, length, Option, Some, None, IfSome, option_map, slice_get}
use Rattle.toml_tree.specs.Spells.{EachIs}
use Rattle.toml_tree.specs.Tree.{Doc, Line}
use Rattle.toml_tree.specs.declared.profile.Profile.{Profile}
use Rattle.toml_names.specs.model.Addresses.{Address}
use Rattle.toml_names.specs.model.Documents.{IsDocumentIn}
use Rattle.toml_names.specs.model.Indices.{IsLow}
use Rattle.toml_edits.specs.Edits.{Change}
use Rattle.toml_edits.specs.Lists.{carried}
use Rattle.toml_units.specs.declared.unit.UnitKind.TheVariants as kinds
use Rattle.toml_units.specs.Apart.{AreOfOneArray}
use Rattle.toml_units.specs.Places.{LiesInside}
use Rattle.toml_units.specs.Units.{TextUnit, units}
use Rattle.toml_checker.specs.declared.verdict.Reason.{Reason}
use Rattle.toml_checker.specs.declared.verdict.Verdict.{Verdict}
use Rattle.toml_checker.specs.CarriedTo.{IsCarriedTo}
use Rattle.toml_checker.specs.Comments.{AreWritten, IsWritten}
use Rattle.toml_checker.specs.Demands.{Demand, Certified, IsVerdict}
use Rattle.toml_checker.specs.Documents.{AreDefined, OfData}
use Rattle.toml_checker.specs.Lines.{IsEmptyEnd, NoLinesAdded}
use Rattle.toml_checker.specs.Pairs.{IsSecond}
use Rattle.toml_checker.specs.Protected.{IsProtected}

-- Each index in the address of a unit of a document is far below the numbers that an index may be.
abbrev pub UnitsAreLow : Type 0
UnitsAreLow = (profile : Profile) (text : List ℕ) (doc : IsDocumentIn profile text) → EachIs (λ (u : TextUnit). IfSome u.address (IsLow (2 ^ 63))) (units doc.1.lines)

-- the second address goes with the first one, wherever that is carried
abbrev pub GoesWith : List Change → Option Address → Option Address → Type 0
GoesWith cs None w = w ≡ None
GoesWith cs (Some a) w = (rest : Address) × (w ≡ Some (a ++ rest)) × (carried cs (a ++ rest) ≡ option_map (λ b. b ++ rest) (carried cs a))

-- What lies in a protected unit is protected, and is carried along with it.
abbrev pub InnerAreProtected : Type 0
InnerAreProtected = (profile : Profile) (text : List ℕ) (doc : IsDocumentIn profile text) (cs : List Change) → length cs < 2 ^ 63 → (i j : ℕ) (l : LiesInside (units doc.1.lines) i j)
    → IsProtected cs (units doc.1.lines) i → IsProtected cs (units doc.1.lines) j × GoesWith cs l.outer.address l.inner.address

-- The address of a protected unit, where it has one, is carried to an address.
abbrev pub ProtectedAreCarried : Type 0
ProtectedAreCarried = (profile : Profile) (text : List ℕ) (doc : IsDocumentIn profile text) (cs : List Change) → length cs < 2 ^ 63 → (i : ℕ) (p : IsProtected cs (units doc.1.lines) i)
    → IfSome p.0.address (λ a. (b : Address) × (carried cs a ≡ Some b))

-- The comments of one array or inline table are protected together, or none of them is.
abbrev pub CommentsStayTogether : Type 0
CommentsStayTogether = (profile : Profile) (text : List ℕ) (doc : IsDocumentIn profile text) (cs : List Change) (i j : ℕ) (one other : TextUnit) → slice_get (units doc.1.lines) i ≡ Some one → slice_get (units doc.1.lines) j ≡ Some other
    → AreOfOneArray one other → IsProtected cs (units doc.1.lines) i ↔ IsProtected cs (units doc.1.lines) j

-- No edit writes a comment where a protected one of an array or inline table is carried to.
abbrev pub NoneIsWrittenThere : Type 0
NoneIsWrittenThere = (profile : Profile) (text : List ℕ) (doc : IsDocumentIn profile text) (cs : List Change) → OfData text (λ old. AreDefined profile cs old) → (written : List (List (List ℕ))) → AreWritten cs written
    → (i : ℕ) (p : IsProtected cs (units doc.1.lines) i) → p.0.kind ≡ kinds.InnerComment → (w : TextUnit) → IsCarriedTo cs p.0.address w.address → ¬ IsWritten cs written w

-- What has no address is protected, whatever the edits: blank lines, comment lines and the comments on them.
abbrev pub UnplacedAreProtected : Type 0
UnplacedAreProtected = (lines : List Line) (cs : List Change) (i : ℕ) (u : TextUnit) → slice_get (units lines) i ≡ Some u → u.address ≡ None → IsProtected cs (units lines) i

-- Where no line is added unasked, each blank line and comment line is a partner, but for a last one of no bytes.
abbrev pub BlankLinesArePartners : Type 0
BlankLinesArePartners = (cs : List Change) (e : Doc) (ps : List (ℕ × ℕ)) → NoLinesAdded cs e ps → (k : ℕ) (w : TextUnit) → slice_get (units e.lines) k ≡ Some w → w.kind ≡ kinds.Line → w.address ≡ None
    → IsSecond ps k ⊎ IsEmptyEnd cs e k w

-- A text is certified exactly where all demands hold.
abbrev pub CertifiedIsAllDemands : Type 0
CertifiedIsAllDemands = (profile : Profile) (before after : List ℕ) (cs : List Change) (ps : List (ℕ × ℕ)) → Certified profile before cs after ps ↔ ((r : Reason) → Demand profile r before cs after ps)

-- There is one verdict.
abbrev pub OneVerdict : Type 0
OneVerdict = (profile : Profile) (before after : List ℕ) (cs : List Change) (ps : List (ℕ × ℕ)) (v w : Verdict) → IsVerdict profile before cs after ps v → IsVerdict profile before cs after ps w → v ≡ w

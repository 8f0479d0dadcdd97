-- What is found of the data of two documents.
use Rattle.std.proofs.Math.Path.{fun_ext}
use Rattle.std.proofs.Common.{◌≡◌, ℕ, List, Option, Some, None, subst, sym, arith}
use Rattle.toml_tree.specs.Spells.{Spells}
use Rattle.toml_tree.specs.Tree.{Doc}
use Rattle.toml_tree.proofs.Proved.{one_tree}
use Rattle.toml_tree.specs.declared.profile.Profile.{Profile}
use Rattle.toml_names.specs.model.Data.{IsDataOf, Kinds, fact_at}
use Rattle.toml_names.specs.model.Documents.{IsDocumentIn}
use Rattle.toml_names.specs.mentions.Mentions.{named}
use Rattle.toml_names.specs.declared.line_names.LineNames.{LineNames}
use Rattle.toml_names.specs.reader.LineNames.{StandFor}
use Rattle.toml_names.specs.reader.Names.{AreGood}
use Rattle.toml_names.proofs.Proved.{lines_have_data, one_data}
use Rattle.toml_edits.specs.Edits.{Change}
use Rattle.toml_edits.specs.Lists.{Lead}
use Rattle.toml_edits.proofs.Proved.{one_lead}
use Rattle.toml_checker.specs.declared.facts.Made.{Made}
use Rattle.toml_checker.specs.declared.verdict.Reason.TheVariants.{BeforeRefused, AfterRefused, EditsRefused, OtherData}
use Rattle.toml_checker.specs.declared.verdict.Verdict.TheVariants.{No}
use Rattle.toml_checker.specs.After.{GivesMade, IsMadeOf, Makes, made_of}
use Rattle.toml_checker.specs.Demands.{IsVerdict}
use Rattle.toml_checker.specs.Documents.{OfData, AreDefined}
use Rattle.toml_checker.specs.Judging.{HoldBelow}
use Rattle.toml_checker.specs.WrittenComments.{HaveValues}
use Rattle.toml_checker.proofs.Values.{values_of}
use Rattle.toml_checker.proofs.Asked.{holds, none_below}
use Rattle.toml_checker.proofs.Leading.{lead_from}

-- the tree of the text, and its data
pub record HasData (text : List ℕ) (d : Doc) (x : Kinds) : Type 0 where
  pub spelled : Spells d text
  pub facts : IsDataOf (named d.lines) x

-- all data of a text are the same
pub one : (text : List ℕ) (d e : Doc) (x y : Kinds) → HasData text d x → Spells e text → IsDataOf (named e.lines) y → y ≡ x
one text d e x y h spelled facts =
    let tree : e ≡ d = one_tree e d text spelled h.spelled in
    fun_ext (one_data (named d.lines) y x (subst (λ (e : Doc). IsDataOf (named e.lines) y) tree facts) h.facts)

defined : (profile : Profile) (text : List ℕ) (d : Doc) (x : Kinds) (cs : List Change) → HasData text d x → OfData text (λ old. AreDefined profile cs old) → AreDefined profile cs x
defined profile text d x cs h (e, spelled, y, facts, (new, lead)) = (new, lead_from profile cs y x new (one text d e x y h spelled facts) lead)

-- good lines have data
pub has_data : (text : List ℕ) (d : Doc) → Spells d text → AreGood d.lines → HasData text d (fact_at (named d.lines))
has_data text d spelled good = record { spelled = spelled; facts = lines_have_data d.lines good.0 }

-- what the edits make of the data of the tree's lines they make of those of the text
pub gives_made : (profile : Profile) (text : List ℕ) (d : Doc) (old : Kinds) (cs : List Change) (names : LineNames) (found : Option Made) → StandFor names d.lines → HasData text d old → Makes profile names cs found
    → GivesMade profile text cs found
gives_made profile text d old cs names None stand h makes = λ all. makes d.lines stand old h.facts (defined profile text d old cs h all)
gives_made profile text d old cs names (Some made) stand h makes =
    let m = makes d.lines stand old h.facts in
    record { tree = d; spelled = h.spelled; taken = m.taken; old = old; facts = h.facts; leads = m.leads }

-- the demands on the documents and their data hold, or one is the first that does not
pub documents_hold : (profile : Profile) (before after : List ℕ) (cs : List Change) (ps : List (ℕ × ℕ)) → IsDocumentIn profile before → IsDocumentIn profile after → HoldBelow profile 2 before cs after ps
documents_hold profile before after cs ps old new = holds profile AfterRefused before after cs ps (holds profile BeforeRefused before after cs ps (none_below profile before after cs ps) old) new

pub after_refused : (profile : Profile) (before after : List ℕ) (cs : List Change) (ps : List (ℕ × ℕ)) → IsDocumentIn profile before → ¬ IsDocumentIn profile after → IsVerdict profile before cs after ps (No AfterRefused)
after_refused profile before after cs ps old none = (none, holds profile BeforeRefused before after cs ps (none_below profile before after cs ps) old)

pub edits_refused : (profile : Profile) (before after : List ℕ) (cs : List Change) (ps : List (ℕ × ℕ)) → IsDocumentIn profile before → IsDocumentIn profile after → ¬ OfData before (AreDefined profile cs) → IsVerdict profile before cs after ps (No EditsRefused)
edits_refused profile before after cs ps old new none = (none, documents_hold profile before after cs ps old new)

edits_hold : (profile : Profile) (before after : List ℕ) (cs : List Change) (ps : List (ℕ × ℕ)) (made : Made) → HoldBelow profile 2 before cs after ps → IsMadeOf profile before cs made → HoldBelow profile 3 before cs after ps
edits_hold profile before after cs ps made so is = holds profile EditsRefused before after cs ps so (is.tree, is.spelled, is.old, is.facts, (made_of made is.old, is.leads))

-- what the edits make of the data of the one text are the other's data, if any are
is_only : (profile : Profile) (before after : List ℕ) (e : Doc) (cs : List Change) (made : Made) (is : IsMadeOf profile before cs made) → Spells e after → OfData before (λ old. OfData after (λ new. Lead profile cs old new))
    → IsDataOf (named e.lines) (made_of made is.old)
is_only profile before after e cs made is spells (f, also, x, more, (g, there, y, new, other)) =
    let same = one before is.tree f is.old x (record { spelled = is.spelled; facts = is.facts }) also more in
    let kinds = fun_ext (one_lead profile cs is.old (made_of made is.old) y is.leads (lead_from profile cs x is.old y same other)) in
    let tree : g ≡ e = one_tree g e after there spells in
    subst (IsDataOf (named e.lines)) (sym kinds) (subst (λ (e : Doc). IsDataOf (named e.lines) y) tree new)

pub other_data : (profile : Profile) (before after : List ℕ) (e : Doc) (cs : List Change) (ps : List (ℕ × ℕ)) (made : Made) → IsDocumentIn profile before → IsDocumentIn profile after → (is : IsMadeOf profile before cs made) → Spells e after
    → ¬ IsDataOf (named e.lines) (made_of made is.old) → IsVerdict profile before cs after ps (No OtherData)
other_data profile before after e cs ps made old new is spells other = (
  λ all. other (is_only profile before after e cs made is spells all),
  edits_hold profile before after cs ps made (documents_hold profile before after cs ps old new) is,
)

pub data_hold : (profile : Profile) (before after : List ℕ) (e : Doc) (cs : List Change) (ps : List (ℕ × ℕ)) (made : Made) → IsDocumentIn profile before → IsDocumentIn profile after → (is : IsMadeOf profile before cs made) → Spells e after
    → IsDataOf (named e.lines) (made_of made is.old) → HoldBelow profile 4 before cs after ps
data_hold profile before after e cs ps made old new is spells are =
    holds profile OtherData before after cs ps (edits_hold profile before after cs ps made (documents_hold profile before after cs ps old new) is)
    (is.tree, is.spelled, is.old, is.facts, (e, spells, made_of made is.old, are, is.leads))

-- where the edits are defined no value of theirs is refused
pub values_hold : (profile : Profile) (before after : List ℕ) (cs : List Change) (ps : List (ℕ × ℕ)) → HoldBelow profile 4 before cs after ps → HaveValues profile cs
values_hold profile before after cs ps h = by (h EditsRefused (omega arith))
  where
    by : OfData before (λ old. AreDefined profile cs old) → HaveValues profile cs
    by (d, spelled, x, facts, (new, lead)) = values_of profile cs x new lead

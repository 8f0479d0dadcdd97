-- From what was judged and told to the editor's answers.
use Rattle.std.proofs.Common.{◌≡◌, ℕ, ◌≤◌, List, length, arith, subst, sym}
use Rattle.std.proofs.lemmas.Str.{IsUtf8-from_is_utf8}
use Rattle.toml_text.specs.Limit.{IsText, max_len}
use Rattle.toml_text.specs.Source.{IsFaultOf}
use Rattle.toml_text.specs.declared.fault.TextFault.{TextFault}
use Rattle.toml_text.specs.declared.fault.TextFault.TheVariants.{NotUtf8, TooLong}
use Rattle.toml_scalar.specs.declared.fault.SyntaxFault.{SyntaxFault}
use Rattle.toml_scalar.specs.declared.fault.SyntaxFault.TheVariants as syntax
use Rattle.toml_tree.specs.HandedOut.{tree_of}
use Rattle.toml_tree.specs.Document.{Refuses}
use Rattle.toml_tree.specs.Spells.{Spells}
use Rattle.toml_tree.specs.Tree.{Doc}
use Rattle.toml_tree.specs.declared.profile.Profile.{Profile}
use Rattle.toml_names.specs.declared.fault.NameFault.{NameFault}
use Rattle.toml_names.specs.declared.fault.NameFault.TheVariants as names
use Rattle.toml_names.specs.model.Data.{Kinds, IsDataOf}
use Rattle.toml_names.specs.model.Documents.{IsDocumentIn}
use Rattle.toml_names.specs.mentions.Mentions.{named}
use Rattle.toml_names.specs.declared.fault.ReadFault.TheVariants as reads
use Rattle.toml_names.specs.reader.Texts as texts
use Rattle.toml_names.proofs.Proved.{refused_text}
use Rattle.toml_edits.specs.Edits.{Change}
use Rattle.toml_editor.specs.PlainTexts.{IsNeitherPlainNorHeld, NoneIsRefused}
use Rattle.toml_editor.specs.Edited.{RefusesText, TellsWith}
use Rattle.toml_editor.specs.Exact.{OfNoPlaceAt, OfNumber}
use Rattle.toml_layout.specs.declared.layout.Layout.{Layout}
use Rattle.toml_editor.specs.Making.{TellsAny}
use Rattle.toml_editor.specs.declared.fault.EditorFault.{EditorFault}
use Rattle.toml_editor.specs.declared.fault.EditorFault.TheVariants as faults
use Rattle.toml_editor.specs.Faults.{of_syntax, of_names}
use Rattle.toml_editor.specs.declared.fault.EditorFault.TheVariants.{Text}

-- ---- refusals

no_text : (profile : Profile) (text : List ℕ) (fault : TextFault) → IsFaultOf text fault → ¬ IsDocumentIn profile text
no_text profile text (NotUtf8 at) h = λ document. h.0 (IsUtf8-from_is_utf8 text document.0.utf8)
no_text profile text TooLong h = λ document. let fits : length text ≤ max_len = document.0.fits in absurd (omega (arith, h.1))

pub text_refused : (profile : Profile) (text : List ℕ) (fault : TextFault) → IsFaultOf text fault → RefusesText profile text (Text fault)
text_refused profile text fault h = (no_text profile text fault h, h)

pub tree_refused : (profile : Profile) (text : List ℕ) (fault : SyntaxFault) → IsText text → Refuses profile text fault → RefusesText profile text (of_syntax fault)
tree_refused profile text (syntax.BadCharacter at) is h = ((λ document. h.1 document.1 (document.2, document.4)), is, h)
tree_refused profile text (syntax.Expected at) is h = ((λ document. h.1 document.1 (document.2, document.4)), is, h)
tree_refused profile text (syntax.BadString at) is h = ((λ document. h.1 document.1 (document.2, document.4)), is, h)
tree_refused profile text (syntax.BadNumber at) is h = ((λ document. h.1 document.1 (document.2, document.4)), is, h)
tree_refused profile text (syntax.IntegerRange at) is h = ((λ document. h.1 document.1 (document.2, document.4)), is, h)
tree_refused profile text (syntax.BadDate at) is h = ((λ document. h.1 document.1 (document.2, document.4)), is, h)
tree_refused profile text (syntax.TooDeep at) is h = ((λ document. h.1 document.1 (document.2, document.4)), is, h)
tree_refused profile text syntax.NoMemory is h = tt

-- the names of its lines
pub names_told : (profile : Profile) (text : List ℕ) (fault : NameFault) → IsText text → texts.RefusesText profile text (reads.Names fault) → RefusesText profile text (of_names fault)
names_told profile text (names.Redefined line at) is h =
    let k = h (λ e. cc) in
    (refused_text profile text (reads.Names (names.Redefined line at)) (λ e. cc) h, is, (tree_of text k.0, k.1.spelled.0, (k.1.spelled.1, k.2)))
names_told profile text (names.LongAddress line) is h =
    let k = h (λ e. cc) in
    (refused_text profile text (reads.Names (names.LongAddress line)) (λ e. cc) h, is, (tree_of text k.0, k.1.spelled.0, (k.1.spelled.1, k.2)))
names_told profile text names.NoMemory is h = tt

-- what is told of the data of a text is told of the text
pub any_tells : (layout : Layout) (profile : Profile) (before : List ℕ) (cs : List Change) (d : Doc) (old : Kinds) (fault : EditorFault) → IsDocumentIn profile before
    → Spells d before → IsDataOf (named d.lines) old → TellsAny profile cs old fault
    → OfNumber (NoneIsRefused layout profile before cs) fault → OfNoPlaceAt (IsNeitherPlainNorHeld layout profile before cs) fault → TellsWith layout profile before cs fault
any_tells layout profile before cs d old (faults.Edit i f) document spelled facts h passed not = (document, (d, spelled, old, facts, h), passed)
any_tells layout profile before cs d old (faults.Spread i) document spelled facts h passed not = (document, (d, spelled, old, facts, h), not, passed)
any_tells layout profile before cs d old (faults.LastElement i) document spelled facts h passed not = (document, (d, spelled, old, facts, h), not, passed)
any_tells layout profile before cs d old faults.NoMemory document spelled facts h passed not = tt
any_tells layout profile before cs d old (faults.Text f) document spelled facts h passed not = absurd h
any_tells layout profile before cs d old (faults.Syntax f) document spelled facts h passed not = absurd h
any_tells layout profile before cs d old (faults.Names f) document spelled facts h passed not = absurd h
any_tells layout profile before cs d old faults.TooLong document spelled facts h passed not = absurd h
any_tells layout profile before cs d old (faults.Unverified r) document spelled facts h passed not = absurd h

-- why a text is no document is told in each layout
pub refused_tells : (layout : Layout) (profile : Profile) (before : List ℕ) (cs : List Change) (fault : EditorFault) → RefusesText profile before fault
    → TellsWith layout profile before cs fault
refused_tells layout profile before cs (faults.Text f) h = h
refused_tells layout profile before cs (faults.Syntax f) h = h
refused_tells layout profile before cs (faults.Names f) h = h
refused_tells layout profile before cs faults.NoMemory h = tt
refused_tells layout profile before cs (faults.Edit i f) h = absurd h
refused_tells layout profile before cs (faults.Spread i) h = absurd h
refused_tells layout profile before cs (faults.LastElement i) h = absurd h
refused_tells layout profile before cs faults.TooLong h = absurd h
refused_tells layout profile before cs (faults.Unverified r) h = absurd h

pub memory_tells : (layout : Layout) (profile : Profile) (before : List ℕ) (cs : List Change) (fault : EditorFault) → fault ≡ faults.NoMemory
    → TellsWith layout profile before cs fault
memory_tells layout profile before cs fault is = subst (TellsWith layout profile before cs) (sym is) tt

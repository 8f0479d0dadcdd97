-- A text that is refused is no document.
use Rattle.toml_names.proofs.Common.{◌≡◌, ℕ, List, refl, subst, AreGood}
use Rattle.toml_scalar.specs.declared.fault.SyntaxFault.{SyntaxFault}
use Rattle.toml_scalar.specs.declared.fault.SyntaxFault.TheVariants as syntax
use Rattle.toml_tree.specs.Document.{Refuses}
use Rattle.toml_tree.specs.HandedOut.{tree_of}
use Rattle.toml_tree.specs.Tree.{Doc}
use Rattle.toml_tree.specs.declared.profile.Profile.{Profile}
use Rattle.toml_tree.proofs.Proved.{one_tree}
use Rattle.toml_names.specs.declared.fault.ReadFault.{ReadFault}
use Rattle.toml_names.specs.declared.fault.ReadFault.TheVariants.{Syntax, Names}
use Rattle.toml_names.specs.model.Documents.{IsDocumentIn}
use Rattle.toml_names.specs.reader.Texts.{IsOfMemory, RefusesText}
use Rattle.toml_names.proofs.lemmas.mentions.OneRefusal.{refused_are_bad}

no_tree : (profile : Profile) (text : List ℕ) (fault : SyntaxFault) → ¬ (fault ≡ syntax.NoMemory) → Refuses profile text fault → ¬ IsDocumentIn profile text
no_tree profile text (syntax.BadCharacter at) memory h = λ document. h.1 document.1 (document.2, document.4)
no_tree profile text (syntax.Expected at) memory h = λ document. h.1 document.1 (document.2, document.4)
no_tree profile text (syntax.BadString at) memory h = λ document. h.1 document.1 (document.2, document.4)
no_tree profile text (syntax.BadNumber at) memory h = λ document. h.1 document.1 (document.2, document.4)
no_tree profile text (syntax.IntegerRange at) memory h = λ document. h.1 document.1 (document.2, document.4)
no_tree profile text (syntax.BadDate at) memory h = λ document. h.1 document.1 (document.2, document.4)
no_tree profile text (syntax.TooDeep at) memory h = λ document. h.1 document.1 (document.2, document.4)
no_tree profile text syntax.NoMemory memory h = λ document. memory refl

pub refused_text : (profile : Profile) (text : List ℕ) (fault : ReadFault) → ¬ IsOfMemory fault → RefusesText profile text fault → ¬ IsDocumentIn profile text
refused_text profile text (Syntax fault) memory h = no_tree profile text fault memory h
refused_text profile text (Names fault) memory h = λ document.
    let k = h memory in
    let same = one_tree document.1 (tree_of text k.0) text document.2 k.1.spelled.0 in
    refused_are_bad k.0 fault k.2 memory (subst (λ (d : Doc). AreGood d.lines) same document.3)

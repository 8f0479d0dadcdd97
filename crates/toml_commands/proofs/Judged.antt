-- Why bytes that were refused are no document, and bytes that were not are one.
use Rattle.std.proofs.Common.{◌≡◌, ◌≤◌, ◌+◌, ℕ, List, length, Option, Some, sym, ap, ◌∙◌, subst, arith, inl, inr}
use Rattle.std.proofs.lemmas.Option.{none-some}
use Rattle.std.specs.Prelude.{IfSome}
use Rattle.std.specs.Str.{IsValidUpTo}
use Rattle.std.proofs.lemmas.Str.{IsUtf8-from_is_utf8}
use Rattle.toml_text.specs.Limit.{IsText, max_len}
use Rattle.toml_text.specs.Source.{IsFaultOf}
use Rattle.toml_text.specs.declared.fault.TextFault.{TextFault}
use Rattle.toml_text.specs.declared.fault.TextFault.TheVariants.{NotUtf8, TooLong}
use Rattle.toml_scalar.specs.declared.fault.SyntaxFault.{SyntaxFault}
use Rattle.toml_scalar.specs.declared.fault.SyntaxFault.TheVariants as faults
use Rattle.toml_tree.specs.Document as trees
use Rattle.toml_tree.specs.Profiles.{SpellsIn, SpelledByNone}
use Rattle.toml_tree.specs.Spells.{Spells}
use Rattle.toml_tree.specs.Tree.{Doc, Line}
use Rattle.toml_tree.proofs.Proved.{one_tree}
use Rattle.toml_delivery.specs.Outcomes.{Ends}
use Rattle.toml_commands.specs.Refusals.{IsRefused}
use Rattle.toml_commands.specs.Reading.{IsNameRefusal, IsNumbered, IsReadEnding, IsSyntaxEnding, IsTextRefusal, IsSyntaxRefusal, RefusesLines, code_of, name_code}
use Rattle.toml_tree.specs.declared.profile.Profile.{Profile}
use Rattle.toml_names.specs.model.Documents.{IsDocumentIn}
use Rattle.toml_names.specs.reader.Names.{AreGood, RefusesNames}
use Rattle.toml_names.specs.declared.fault.NameFault.{NameFault}
use Rattle.toml_names.specs.declared.fault.NameFault.TheVariants as names
use Rattle.toml_names.specs.declared.fault.ReadFault.{ReadFault}
use Rattle.toml_names.specs.declared.fault.ReadFault.TheVariants as reads
use Rattle.toml_names.specs.reader.Texts.{RefusesText}
use Rattle.toml_tree.specs.HandedOut.{tree_of}
use Rattle.toml_names.proofs.Proved.{refused_are_bad}
use Rattle.toml_commands.specs.Refusals.{IsSyntaxCode}
use Rattle.toml_delivery.specs.declared.ending.Ending.{Ending}
use Rattle.toml_delivery.specs.declared.ending.Ending.TheVariants as ends
use Rattle.toml_delivery.specs.declared.refusal.Refusal.{Refusal}

pub no_text : (profile : Profile) (bytes : List ℕ) (fault : TextFault) (r : Refusal) → IsFaultOf bytes fault → IsTextRefusal fault r → IsRefused profile bytes r
no_text profile bytes (NotUtf8 at) r h k = (
  (λ document. h.0 (IsUtf8-from_is_utf8 bytes document.0.utf8)),
  inl (k.0, h.0, subst (λ (at : ℕ). IsValidUpTo bytes at) (sym k.1) h.1),
)
no_text profile bytes TooLong r h k = (
  (λ document. let fits : length bytes ≤ max_len = document.0.fits in absurd (omega (arith, h.1))),
  inr (inl (k.0, k.1, h.0, h.1)),
)

coded : (fault : SyntaxFault) → IfSome (code_of fault) IsSyntaxCode
coded (faults.BadCharacter at) = (omega arith, omega arith)
coded (faults.Expected at) = (omega arith, omega arith)
coded (faults.BadString at) = (omega arith, omega arith)
coded (faults.BadNumber at) = (omega arith, omega arith)
coded (faults.IntegerRange at) = (omega arith, omega arith)
coded (faults.BadDate at) = (omega arith, omega arith)
coded (faults.TooDeep at) = (omega arith, omega arith)
coded faults.NoMemory = tt

told_tree : (profile : Profile) (bytes : List ℕ) (fault : SyntaxFault) (r : Refusal) → IsText bytes → trees.Refuses profile bytes fault → IsSyntaxRefusal fault r → IsRefused profile bytes r
told_tree profile bytes fault r text h k =
    let R : ℕ → Type 0 = λ at. (at ≤ length bytes) × SpelledByNone profile bytes in
    let told : R r.place = subst (λ (o : Option ℕ). IfSome o R) k.1 h in
    let code : IsSyntaxCode r.code = subst (λ (o : Option ℕ). IfSome o IsSyntaxCode) k.0 (coded fault) in
    ((λ document. told.1 document.1 (document.2, document.4)), inr (inr (inl (code, told.0, text, told.1))))

pub no_tree : (profile : Profile) (bytes : List ℕ) (fault : SyntaxFault) (e : Ending) → IsText bytes → trees.Refuses profile bytes fault → IsSyntaxEnding fault e → Ends (IsRefused profile bytes) e
no_tree profile bytes fault (ends.Refused r) text h k = told_tree profile bytes fault r text h k
no_tree profile bytes fault ends.NoMemory text h k = tt

-- a fault of the names refuses the lines
some_same : (m n : ℕ) → ◌≡◌ {A = Option ℕ} (Some m) (Some n) → n ≡ m
some_same m n e = cc

told_names : (lines : List Line) (fault : NameFault) (r : Refusal) → RefusesNames lines fault → IsNameRefusal fault r → RefusesLines lines r
told_names lines (names.Redefined line at) r h k = inl (some_same 201 r.code k.0, line, at, some_same (line + 1) r.place k.1, h)
told_names lines (names.LongAddress line) r h k = inr (some_same 203 r.code k.0, line, some_same (line + 1) r.place k.1, h)
told_names lines names.NoMemory r h k = absurd (none-some r.code k.0)

-- the lines of the one tree of the bytes are refused
bad_names : (profile : Profile) (bytes : List ℕ) (d : Doc) (fault : NameFault) → Spells d bytes → RefusesNames d.lines fault → (fault ≡ names.NoMemory → ⊥) → ¬ IsDocumentIn profile bytes
bad_names profile bytes d fault spelled refuses memory document =
    let same : document.1 ≡ d = one_tree document.1 d bytes document.2 spelled in
    refused_are_bad d.lines fault refuses memory (subst (λ (e : Doc). AreGood e.lines) same document.3)

pub no_lines : (profile : Profile) (bytes : List ℕ) (d : Doc) (r : Refusal) → IsText bytes → SpellsIn profile d bytes → RefusesLines d.lines r → IsRefused profile bytes r
no_lines profile bytes d r text spelled (inl h) = (
  bad_names profile bytes d (names.Redefined h.1 h.2) spelled.0 h.4 (λ e. cc),
  inr (inr (inr (inl (h.0, text, d, h.1, h.2, h.3, spelled, h.4)))),
)
no_lines profile bytes d r text spelled (inr h) = (
  bad_names profile bytes d (names.LongAddress h.1) spelled.0 h.3 (λ e. cc),
  inr (inr (inr (inr (h.0, text, d, h.1, h.2, spelled, h.3)))),
)

-- so are the bytes
pub no_names : (profile : Profile) (bytes : List ℕ) (d : Doc) (e : Ending) → IsText bytes → SpellsIn profile d bytes → Ends (RefusesLines d.lines) e → Ends (IsRefused profile bytes) e
no_names profile bytes d (ends.Refused r) text spelled h = no_lines profile bytes d r text spelled h
no_names profile bytes d ends.NoMemory text spelled h = tt

-- a line that is told is one of few
pub numbered : (profile : Profile) (bytes : List ℕ) (fault : ReadFault) → IsText bytes → RefusesText profile bytes fault → IsNumbered fault
numbered profile bytes (reads.Syntax fault) text h = tt
numbered profile bytes (reads.Names (names.Redefined line at)) text h = let told = h (λ e. cc) in omega (arith, told.1.few, told.2.there, text.fits)
numbered profile bytes (reads.Names (names.LongAddress line)) text h = let told = h (λ e. cc) in omega (arith, told.1.few, told.2.there, text.fits)
numbered profile bytes (reads.Names names.NoMemory) text h = tt

told_reading : (profile : Profile) (bytes : List ℕ) (fault : NameFault) (r : Refusal) → IsText bytes → RefusesText profile bytes (reads.Names fault) → IsNameRefusal fault r → IsRefused profile bytes r
told_reading profile bytes fault r text h k =
    let told = h (λ e. none-some r.code (sym (ap name_code e) ∙ k.0)) in
    no_lines profile bytes (tree_of bytes told.0) r text told.1.spelled (told_names told.0 fault r told.2 k)

-- so are bytes whose reading ends in a fault
pub no_reading : (profile : Profile) (bytes : List ℕ) (fault : ReadFault) (e : Ending) → IsText bytes → RefusesText profile bytes fault → IsReadEnding fault e → Ends (IsRefused profile bytes) e
no_reading profile bytes (reads.Syntax fault) e text h k = no_tree profile bytes fault e text h k
no_reading profile bytes (reads.Names fault) (ends.Refused r) text h k = told_reading profile bytes fault r text h k
no_reading profile bytes (reads.Names fault) ends.NoMemory text h k = tt

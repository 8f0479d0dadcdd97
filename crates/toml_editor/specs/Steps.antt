-- Plain edits, from text to text.
use Rattle.std.specs.Prelude.{◌≡◌, ◌↔◌, List, [], ◌∷◌, ℕ, None}
use Rattle.toml_text.specs.Forms.{IsNewline}
use Rattle.toml_text.specs.Limit.{IsText}
use Rattle.toml_tree.specs.Profiles.{SpellsIn}
use Rattle.toml_tree.specs.Spells.{AreLines}
use Rattle.toml_tree.specs.Tree.{Doc, Line}
use Rattle.toml_tree.specs.declared.profile.Profile.{Profile}
use Rattle.toml_names.specs.model.Addresses.{Address, child, element}
use Rattle.toml_names.specs.mentions.Mentions.{named}
use Rattle.toml_names.specs.model.Data.{Kinds, IsDataOf}
use Rattle.toml_names.specs.model.Documents.{IsDocumentIn}
use Rattle.toml_names.specs.reader.Names.{AreGood}
use Rattle.toml_edits.specs.After.{IsAfter}
use Rattle.toml_edits.specs.Edits.{Change, set, insert, rename, remove, new_section, new_element}
use Rattle.toml_edits.specs.Faults.{IsFault}
use Rattle.toml_edits.specs.Lists.{Lead}
use Rattle.toml_working.specs.Premises.{HasLine, HasTable, HasValue, IsInNoValue}
use Rattle.toml_editor.specs.EditedLines.{IsWritten, manner_after}
use Rattle.toml_working.specs.Manners.{Manner, style_of}

-- a text that a good tree of the profile spells, and its data
pub record IsGoodText (profile : Profile) (text : List ℕ) (kinds : Kinds) : Type 0 where
  pub tree : Doc
  pub spelled : SpellsIn profile tree text
  pub good : AreGood tree.lines
  pub facts : IsDataOf (named tree.lines) kinds

-- Law: within the limit of a text the good texts are the documents of the profile.
abbrev pub GoodTextsAreDocuments : Type 0
GoodTextsAreDocuments = (profile : Profile) (text : List ℕ) → IsText text
    → ((kinds : Kinds) × IsGoodText profile text kinds) ↔ IsDocumentIn profile text

-- the edit is plain on these lines: a `set` where a value stands, a `rename`, an `insert` of a name in a table that is no
-- value and lies in none, a `remove` of a value of a line, a `section` or an `element` above which no line's value stands
abbrev pub IsPlain : List Line → Change → Type 0
IsPlain lines (set p text) = HasValue lines p
IsPlain lines (insert p text) = (q : Address) × (name : List ℕ) × (p ≡ child q name) × HasTable lines q
IsPlain lines (rename p to) = Unit {0}
IsPlain lines (remove p) = HasLine lines p
IsPlain lines (new_section p) = (q : Address) × (name : List ℕ) × (p ≡ child q name) × IsInNoValue lines q
IsPlain lines (new_element p) = (q : Address) × (i : ℕ) × (p ≡ element q i) × IsInNoValue lines q

-- Law: a plain edit that makes something of the data writes a text.
abbrev pub PlainIsWritten : Type 0
PlainIsWritten = (profile : Profile) (c : Change) (manner : Manner) (before : List ℕ) (old now : Kinds) (good : IsGoodText profile before old)
    → IsAfter profile c old now → IsPlain good.tree.lines c → (after : List ℕ) × IsWritten profile c manner before after

-- Law: what a plain edit without a fault writes of a good text is a good text, its data are what the edit makes of the data before, and
-- the mark is kept.
abbrev pub PlainStep : Type 0
PlainStep = (profile : Profile) (c : Change) (manner : Manner) (before after : List ℕ) (old now : Kinds) → IsNewline manner.newline
    → (good : IsGoodText profile before old) → IsFault profile c old None → IsAfter profile c old now
    → IsWritten profile c manner before after
    → (new : IsGoodText profile after now) × (new.tree.mark ≡ good.tree.mark)

-- the edits one after the other, each on the text written so far, in the manner that those before it leave
abbrev pub AreWritten : Profile → List Change → Manner → List ℕ → List ℕ → Type 0
AreWritten profile [] manner before after = before ≡ after
AreWritten profile (c ∷ cs) manner before after = (between : List ℕ) × (first : IsWritten profile c manner before between)
    × AreWritten profile cs (manner_after c manner first.0.lines) between after

-- the manner behind them
abbrev pub last_manner : (profile : Profile) (cs : List Change) (manner : Manner) (before after : List ℕ) → AreWritten profile cs manner before after → Manner
last_manner profile [] manner before after written = manner
last_manner profile (c ∷ cs) manner before after (between, first, rest) = last_manner profile cs (manner_after c manner first.0.lines) between after rest

-- Law: so it is of a list of plain edits that leads from the data before to other data.
abbrev pub PlainSteps : Type 0
PlainSteps = (profile : Profile) (cs : List Change) (manner : Manner) (before after : List ℕ) (old now : Kinds) → IsNewline manner.newline
    → (good : IsGoodText profile before old) → Lead profile cs old now → AreWritten profile cs manner before after
    → (new : IsGoodText profile after now) × (new.tree.mark ≡ good.tree.mark)

-- Law: an edit writes one text,
abbrev pub OneWritten : Type 0
OneWritten = (profile : Profile) (c : Change) (manner : Manner) (before one two : List ℕ)
    → IsWritten profile c manner before one → IsWritten profile c manner before two → one ≡ two

-- and so do edits one after the other.
abbrev pub OneListWritten : Type 0
OneListWritten = (profile : Profile) (cs : List Change) (manner : Manner) (before one two : List ℕ)
    → AreWritten profile cs manner before one → AreWritten profile cs manner before two → one ≡ two

-- Law: the newline of new lines is one, of lines in the forms.
abbrev pub StyleIsNewline : Type 0
StyleIsNewline = (lines : List Line) → AreLines lines → IsNewline (style_of lines)

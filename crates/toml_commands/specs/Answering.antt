-- What each request asks of what it reads.
use Rattle.std.specs.Prelude.{◌≡◌, ◌⊎◌, ◌+◌, ◌-◌, ◌^◌, ℕ, length, Bool, true, false, List, [], ◌∷◌, Option, Some, None}
use Rattle.toml_text.specs.Limit.{max_len}
use Rattle.toml_tree.specs.declared.profile.Profile.{Profile}
use Rattle.toml_print.specs.declared.form.Form.TheVariants as printed
use Rattle.toml_words.specs.Request.{Asked, show, check, edit, verify, certify, get, edit_one, apply, validate}
use Rattle.toml_layout.specs.declared.layout.Layout as editor
use Rattle.toml_layout.specs.declared.layout.Layout.TheVariants as layouts
use Rattle.toml_words.specs.declared.request.Layout.{Layout}
use Rattle.toml_words.specs.declared.request.Layout.TheVariants as words
use Rattle.toml_words.specs.declared.request.Form.{Form}
use Rattle.toml_words.specs.declared.request.Form.TheVariants.{Plain, Json, Tagged, Toml, TypeName}
use Rattle.toml_commands.specs.Apply.{Applies}
use Rattle.toml_commands.specs.Certify.{Certifies}
use Rattle.toml_commands.specs.Check.{Checks}
use Rattle.toml_commands.specs.Edit.{Edits}
use Rattle.toml_commands.specs.Get.{Gets}
use Rattle.toml_commands.specs.Listing.{Lists}
use Rattle.toml_commands.specs.One.{MakesWish, wished_by}
use Rattle.toml_commands.specs.Show.{Shows}
use Rattle.toml_commands.specs.Verify.{Verifies}
use Rattle.toml_commands.specs.declared.answering.Source.{Source}
use Rattle.toml_commands.specs.declared.get.GetForm.{GetForm}
use Rattle.toml_commands.specs.declared.get.GetForm.TheVariants as forms
use Rattle.toml_delivery.specs.declared.outcome.Outcome.{Outcome}

-- what is read of a word: how many of its bytes at most, and whether `-` is standard input, and no file of that name
pub record Sought : Type 0 where
  pub word : List ℕ
  pub limit : ℕ
  pub may_be_input : Bool

abbrev pub sought : Source → Sought
sought s = record { word = s.word.now; limit = s.limit; may_be_input = s.may_be_input }

-- a document: one byte more than the longest has, so that a longer one is refused for its length
abbrev pub document_at : Bool → List ℕ → Sought
document_at input word = record { word = word; limit = max_len + 1; may_be_input = input }

-- an edit list or a certificate: all of it
abbrev pub list_at : Bool → List ℕ → Sought
list_at input word = record { word = word; limit = 2 ^ 64 - 1; may_be_input = input }

-- What a request reads, in the order of its words; `validate` reads one file after the other. `-` is standard input to `get`, the commands
-- of one edit, `apply` and `certify`.
abbrev pub words_read : Asked → List Sought
words_read (show file listed explain profile) = document_at false file ∷ []
words_read (check file explain profile) = document_at false file ∷ []
words_read (edit file edits out cert explain profile) = document_at false file ∷ list_at false edits ∷ []
words_read (verify before edits after cert explain profile) =
    document_at false before ∷ list_at false edits ∷ document_at false after ∷ list_at false cert ∷ []
words_read (certify before edits after cert profile) = document_at true before ∷ list_at true edits ∷ document_at true after ∷ []
words_read (get file place form default profile) = document_at true file ∷ []
words_read (edit_one file place e destination layout profile) = document_at true file ∷ []
words_read (apply file edits destination layout profile) = document_at true file ∷ list_at true edits ∷ []
words_read (validate files profile) = []

-- the form in which `get` prints
abbrev pub get_form : Form → GetForm
get_form Plain = forms.Printed printed.Plain
get_form Json = forms.Printed printed.Json
get_form Tagged = forms.Printed printed.Tagged
get_form TypeName = forms.Printed printed.TypeName
get_form Toml = forms.Toml

-- how the editor lays new text out
abbrev pub text_layout : Layout → editor.Layout
text_layout words.Plain = layouts.Plain
text_layout words.Follow = layouts.Follow

-- it holds of the bytes of one thing that was read, of two, of three or of four, and there are no more
abbrev pub OfOne : (List ℕ → Type 0) → List (List ℕ) → Type 0
OfOne P (a ∷ []) = P a
OfOne P _ = ⊥

abbrev pub OfTwo : (List ℕ → List ℕ → Type 0) → List (List ℕ) → Type 0
OfTwo P (a ∷ inputs) = OfOne (P a) inputs
OfTwo P [] = ⊥

abbrev pub OfThree : (List ℕ → List ℕ → List ℕ → Type 0) → List (List ℕ) → Type 0
OfThree P (a ∷ inputs) = OfTwo (P a) inputs
OfThree P [] = ⊥

abbrev pub OfFour : (List ℕ → List ℕ → List ℕ → List ℕ → Type 0) → List (List ℕ) → Type 0
OfFour P (a ∷ inputs) = OfThree (P a) inputs
OfFour P [] = ⊥

-- What `show` comes to, by whether the addresses are listed.
abbrev pub IsShown : Bool → Profile → List ℕ → Outcome → Type 0
IsShown true profile bytes o = Lists profile bytes o
IsShown false profile bytes o = Shows profile bytes o

-- What the request comes to, whose words read these bytes, in the order of the words: each command its own call, with the profile of
-- the words.
abbrev pub IsAnswer : Asked → List (List ℕ) → Outcome → Type 0
IsAnswer (show file listed explain profile) inputs o = OfOne (λ bytes. IsShown listed profile bytes o) inputs
IsAnswer (check file explain profile) inputs o = OfOne (λ bytes. Checks profile bytes o) inputs
IsAnswer (get file place form default profile) inputs o = OfOne (λ bytes. Gets profile bytes place (get_form form) default o) inputs
IsAnswer (edit_one file place e destination layout profile) inputs o = OfOne (λ bytes. MakesWish (text_layout layout) profile bytes place (wished_by e) o) inputs
IsAnswer (apply file edits destination layout profile) inputs o = OfTwo (λ bytes list. Applies (text_layout layout) profile bytes list o) inputs
IsAnswer (edit file edits out cert explain profile) inputs o = OfTwo (λ bytes list. Edits profile bytes list o) inputs
IsAnswer (verify before edits after cert explain profile) inputs o = OfFour (λ first list second certificate. Verifies profile first list second certificate o) inputs
IsAnswer (certify before edits after cert profile) inputs o = OfThree (λ first list second. Certifies profile first list second o) inputs
IsAnswer (validate files profile) inputs o = ⊥

-- that is told; none is only where what was read are not as many as the words that are read, and of `validate`
abbrev pub AnswersRequest : Asked → List (List ℕ) → Option Outcome → Type 0
AnswersRequest asked inputs (Some o) = IsAnswer asked inputs o
AnswersRequest asked inputs None = (¬ (length inputs ≡ length (words_read asked))) ⊎ (words_read asked ≡ [])

-- so of a request that reads one file; none of those that read more, or none
abbrev pub AnswersOfFile : Asked → List ℕ → Option Outcome → Type 0
AnswersOfFile asked bytes (Some o) = IsAnswer asked (bytes ∷ []) o
AnswersOfFile asked bytes None = ¬ (length (words_read asked) ≡ 1)

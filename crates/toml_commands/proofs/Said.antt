-- What is said of a refusal, by what the words name.
use Rattle.std.proofs.Common.{◌≡◌, ◌≢◌, ◌≤◌, ◌<◌, ◌⊎◌, ◌∷◌, ◌++◌, ◌∙◌, [], ℕ, Bool, List, Option, Vec, Bor, Result, Ok, Err, inl, inr, refl, sym, ap, subst, append-nil}
use Rattle.std.specs.Prelude.{IfOk}
use Rattle.std.specs.declared.alloc.Global.{Global}
use Rattle.toml_tree.specs.declared.profile.Profile.{Profile}
use Rattle.toml_names.specs.model.Documents.{IsDocumentIn}
use Rattle.toml_checker.specs.declared.verdict.Reason.{Reason}
use Rattle.toml_checker.specs.declared.verdict.Reason.TheVariants.{BeforeRefused, AfterRefused, EditsRefused, OtherData, BadPair, Lost, Unasked, NewComment, NotTheSame}
use Rattle.toml_explain.specs.Documents.{OpensAs, ShowsInFile, ShowsMoreInFile}
use Rattle.toml_explain.specs.Openings.{OpensBare, OpensPlace}
use Rattle.toml_explain.specs.Reasons.{told_of}
use Rattle.toml_explain.specs.declared.input.Input.{Input}
use Rattle.toml_words.specs.declared.request.Destination.{Destination}
use Rattle.toml_words.specs.declared.request.Form.{Form}
use Rattle.toml_words.specs.declared.request.Layout.{Layout}
use Rattle.toml_words.specs.declared.request.OneEdit.{OneEdit}
use Rattle.toml_words.specs.declared.request.Request.{Request}
use Rattle.toml_words.specs.declared.request.Request.TheVariants as requests
use Rattle.toml_commands.specs.Explaining.{IsSaid, IsSaidAtPlace, IsSaidOfEnding, IsSaidOfJudged, IsSaidOfList, IsSaidOfReason, IsSaidOfText, bytes_at, list_word}
use Rattle.toml_delivery.specs.Outcomes.{Ends}
use Rattle.toml_commands.specs.Refusals.{IsRefused}
use Rattle.toml_commands.specs.Verify.{reason_code}
use Rattle.toml_delivery.specs.declared.ending.Ending.{Ending}
use Rattle.toml_delivery.specs.declared.ending.Ending.TheVariants.{Refused, NoMemory}
use Rattle.toml_commands.specs.declared.judging.JudgedWords.{JudgedWords}
use Rattle.toml_delivery.specs.declared.refusal.Refusal.{Refusal}

module _ {S E : Type 0} (f : S → List ℕ) (inputs : List (Vec ℕ Global)) (profile : Profile) where
  module _ (r : Refusal) (word bytes : List ℕ) where
    pub at_place : (place : List ℕ) (t : Result S E) → (r.code ≡ 340 → IfOk t (λ x. OpensPlace place r.place (f x)))
        → (r.code < 300 → IfOk t (λ x. OpensAs profile word bytes r.code r.place (f x)))
        → (r.code ≡ 306 → IfOk t (λ x. ShowsMoreInFile word bytes (f x)))
        → (300 ≤ r.code → r.code ≢ 306 → r.code ≢ 340 → IfOk t (λ x. ShowsInFile word bytes (f x))) → IfOk t (λ x. IsSaidAtPlace profile word bytes place r (f x))
    at_place place (Ok x) p q v s = record { no_place = p; no_document = q; value = v; in_file = s }
    at_place place (Err e) p q v s = tt

    pub of_list : (list : List ℕ) (t : Result S E) → ((r.code ≡ 320) ⊎ (r.code ≡ 321) → IfOk t (λ x. OpensBare list (f x)))
        → (r.code < 300 → IfOk t (λ x. OpensAs profile word bytes r.code r.place (f x)))
        → (r.code ≡ 306 → IfOk t (λ x. ShowsMoreInFile word bytes (f x)))
        → (300 ≤ r.code → r.code ≢ 306 → r.code ≢ 320 → r.code ≢ 321 → IfOk t (λ x. ShowsInFile word bytes (f x))) → IfOk t (λ x. IsSaidOfList profile word bytes list r (f x))
    of_list list (Ok x) p q v s = record { no_list = p; no_document = q; value = v; in_file = s }
    of_list list (Err e) p q v s = tt

  -- by the judge's reason
  module _ (words : JudgedWords) where
    of_input : (P : List ℕ → List ℕ → List ℕ → Type 0) (file : Input) (word : Bor (List ℕ)) (n : ℕ) → file.word.now ≡ word.now → file.bytes.now ≡ bytes_at inputs n → (t : Result S E)
        → IfOk t (λ x. P file.word.now file.bytes.now (f x)) → IfOk t (λ x. P word.now (bytes_at inputs n) (f x))
    of_input P file word n p q t h =
        subst (λ w. IfOk t (λ x. P w (bytes_at inputs n) (f x))) p (subst (λ b. IfOk t (λ x. P file.word.now b (f x))) q h)

    module _ (before after : Input) (p : before.word.now ≡ words.before.now) (q : before.bytes.now ≡ bytes_at inputs 0)
        (u : after.word.now ≡ words.after.now) (v : after.bytes.now ≡ bytes_at inputs 2) (t : Result S E) where
      pub of_texts : (reason : Reason) → (reason ≢ EditsRefused → IfOk t (λ x. ShowsInFile (told_of before after reason).word.now (told_of before after reason).bytes.now (f x)))
          → (reason ≡ EditsRefused → IfOk t (λ x. ShowsMoreInFile before.word.now before.bytes.now (f x)))
          → reason ≢ BeforeRefused → reason ≢ AfterRefused → IfOk t (λ x. IsSaidOfReason profile words inputs reason (f x))
      of_texts BeforeRefused h g not_before not_after = absurd (not_before refl)
      of_texts AfterRefused h g not_before not_after = absurd (not_after refl)
      of_texts EditsRefused h g not_before not_after = of_input ShowsMoreInFile before words.before 0 p q t (g refl)
      of_texts Lost h g not_before not_after = of_input ShowsInFile before words.before 0 p q t (h (λ e. cc))
      of_texts OtherData h g not_before not_after = of_input ShowsInFile after words.after 2 u v t (h (λ e. cc))
      of_texts BadPair h g not_before not_after = of_input ShowsInFile after words.after 2 u v t (h (λ e. cc))
      of_texts Unasked h g not_before not_after = of_input ShowsInFile after words.after 2 u v t (h (λ e. cc))
      of_texts NewComment h g not_before not_after = of_input ShowsInFile after words.after 2 u v t (h (λ e. cc))
      of_texts NotTheSame h g not_before not_after = of_input ShowsInFile after words.after 2 u v t (h (λ e. cc))

    pub of_before_refused : (reason : Reason) → reason ≡ BeforeRefused → (w b : List ℕ) → w ≡ words.before.now → b ≡ bytes_at inputs 0 → (t : Result S E)
        → IfOk t (λ x. IsSaidOfText profile w b (f x)) → IfOk t (λ x. IsSaidOfReason profile words inputs reason (f x))
    of_before_refused reason is w b p q t h =
        subst (λ y. IfOk t (λ x. IsSaidOfReason profile words inputs y (f x))) (sym is)
        (subst (λ v. IfOk t (λ x. IsSaidOfText profile v (bytes_at inputs 0) (f x))) p (subst (λ v. IfOk t (λ x. IsSaidOfText profile w v (f x))) q h))

    pub of_after_refused : (reason : Reason) → reason ≡ AfterRefused → (w b : List ℕ) → w ≡ words.after.now → b ≡ bytes_at inputs 2 → (t : Result S E)
        → IfOk t (λ x. IsSaidOfText profile w b (f x)) → IfOk t (λ x. IsSaidOfReason profile words inputs reason (f x))
    of_after_refused reason is w b p q t h =
        subst (λ y. IfOk t (λ x. IsSaidOfReason profile words inputs y (f x))) (sym is)
        (subst (λ v. IfOk t (λ x. IsSaidOfText profile v (bytes_at inputs 2) (f x))) p (subst (λ v. IfOk t (λ x. IsSaidOfText profile w v (f x))) q h))

    pub by_reason : (r : Refusal) (reason : Reason) → reason_code reason ≡ r.code → (t : Result S E) → IfOk t (λ x. IsSaidOfReason profile words inputs reason (f x))
        → IfOk t (λ x. IsSaidOfJudged profile words inputs r (f x))
    by_reason r reason is (Ok x) h = inl (reason, is, h)
    by_reason r reason is (Err e) h = tt

    pub by_none : (r : Refusal) → ((reason : Reason) → reason_code reason ≢ r.code) → (word : List ℕ) → word ≡ list_word words r.code → (t : Result S E)
        → IfOk t (λ x. OpensBare word (f x)) → IfOk t (λ x. IsSaidOfJudged profile words inputs r (f x))
    by_none r none word is (Ok x) h = inr (none, subst (λ w. OpensBare w (f x)) is h)
    by_none r none word is (Err e) h = tt

-- of a text that is to be a document
module _ {S E : Type 0} (f : S → List ℕ) (profile : Profile) (word bytes : List ℕ) where
  pub text_is_good : (t : Result S E) → IsDocumentIn profile bytes → IfOk t (λ x. OpensBare word (f x)) → IfOk t (λ x. IsSaidOfText profile word bytes (f x))
  text_is_good (Ok x) good h = inl (good, h)
  text_is_good (Err e) good h = tt

  pub text_is_bad : (t : Result S E) (ending : Ending) → Ends (IsRefused profile bytes) ending → IfOk t (λ x. IsSaidOfEnding profile word bytes ending (f x))
      → IfOk t (λ x. IsSaidOfText profile word bytes (f x))
  text_is_bad (Ok x) (Refused r) bad h = inr (r, bad, h)
  text_is_bad (Ok x) NoMemory bad h = absurd h
  text_is_bad (Err e) ending bad h = tt

-- by the request
module _ {S E : Type 0} (f : S → List ℕ) (t : Result S E) (request : Request) (inputs : List (Vec ℕ Global)) (r : Refusal) (profile : Profile) where
  pub by_request : (other : Request) → request ≡ other → IfOk t (λ x. IsSaid other inputs r (f x)) → IfOk t (λ x. IsSaid request inputs r (f x))
  by_request other is h = subst (λ q. IfOk t (λ x. IsSaid q inputs r (f x))) (sym is) h

  module _ (file : Bor (List ℕ)) (w b : List ℕ) (word_is : w ≡ file.now) (bytes_is : b ≡ bytes_at inputs 0) where
    moved : (P : List ℕ → List ℕ → S → Type 0) → IfOk t (P w b) → IfOk t (P file.now (bytes_at inputs 0))
    moved P h = subst (λ v. IfOk t (P v (bytes_at inputs 0))) word_is (subst (λ v. IfOk t (P w v)) bytes_is h)

    pub of_show : (listed explain : Bool) → request ≡ requests.Show file listed explain profile → IfOk t (λ x. OpensAs profile w b r.code r.place (f x))
        → IfOk t (λ x. IsSaid request inputs r (f x))
    of_show listed explain is h = by_request (requests.Show file listed explain profile) is (moved (λ v c x. OpensAs profile v c r.code r.place (f x)) h)

    pub of_check : (explain : Bool) → request ≡ requests.Check file explain profile → IfOk t (λ x. OpensAs profile w b r.code r.place (f x))
        → IfOk t (λ x. IsSaid request inputs r (f x))
    of_check explain is h = by_request (requests.Check file explain profile) is (moved (λ v c x. OpensAs profile v c r.code r.place (f x)) h)

    module _ (place : Bor (List ℕ)) (no_place : r.code ≡ 340 → IfOk t (λ x. OpensPlace place.now r.place (f x)))
        (no_document : r.code < 300 → IfOk t (λ x. OpensAs profile w b r.code r.place (f x)))
        (value : r.code ≡ 306 → IfOk t (λ x. ShowsMoreInFile w b (f x)))
        (in_file : 300 ≤ r.code → r.code ≢ 306 → r.code ≢ 340 → IfOk t (λ x. ShowsInFile w b (f x))) where
      said : IfOk t (λ x. IsSaidAtPlace profile file.now (bytes_at inputs 0) place.now r (f x))
      said = moved (λ v c x. IsSaidAtPlace profile v c place.now r (f x)) (at_place f inputs profile r w b place.now t no_place no_document value in_file)

      pub of_get : (form : Form) (default : Option (Bor (List ℕ))) → request ≡ requests.Get file place form default profile → IfOk t (λ x. IsSaid request inputs r (f x))
      of_get form default is = by_request (requests.Get file place form default profile) is said

      pub of_one : (e : OneEdit) (destination : Destination) (layout : Layout) → request ≡ requests.One file place e destination layout profile → IfOk t (λ x. IsSaid request inputs r (f x))
      of_one e destination layout is = by_request (requests.One file place e destination layout profile) is said

    module _ (list : Bor (List ℕ)) (l : List ℕ) (list_is : l ≡ list.now) (no_list : (r.code ≡ 320) ⊎ (r.code ≡ 321) → IfOk t (λ x. OpensBare l (f x)))
        (no_document : r.code < 300 → IfOk t (λ x. OpensAs profile w b r.code r.place (f x)))
        (value : r.code ≡ 306 → IfOk t (λ x. ShowsMoreInFile w b (f x)))
        (in_file : 300 ≤ r.code → r.code ≢ 306 → r.code ≢ 320 → r.code ≢ 321 → IfOk t (λ x. ShowsInFile w b (f x))) where
      listed_said : IfOk t (λ x. IsSaidOfList profile file.now (bytes_at inputs 0) list.now r (f x))
      listed_said =
          subst (λ k. IfOk t (λ x. IsSaidOfList profile file.now (bytes_at inputs 0) k r (f x))) list_is
          (moved (λ v c x. IsSaidOfList profile v c l r (f x)) (of_list f inputs profile r w b l t no_list no_document value in_file))

      pub of_edit : (out cert : Bor (List ℕ)) (explain : Bool) → request ≡ requests.Edit file list out cert explain profile → IfOk t (λ x. IsSaid request inputs r (f x))
      of_edit out cert explain is = by_request (requests.Edit file list out cert explain profile) is listed_said

      pub of_apply : (destination : Destination) (layout : Layout) → request ≡ requests.Apply file list destination layout profile → IfOk t (λ x. IsSaid request inputs r (f x))
      of_apply destination layout is = by_request (requests.Apply file list destination layout profile) is listed_said

-- with nothing behind the line
shows_more : (word bytes text : List ℕ) → ShowsInFile word bytes text → ShowsMoreInFile word bytes text
shows_more word bytes text (inl (at, opens, e)) =
    inl (at, opens, record { front = e.front; shown = e.shown; line = e.line; rest = []; has = e.ends ∙ ap (λ l. e.front ++ 0x0A ∷ l) (sym (append-nil _)) })
shows_more word bytes text (inr opens) = inr opens

pub more_shown : {S E : Type 0} (f : S → List ℕ) (word bytes : List ℕ) (t : Result S E) → IfOk t (λ x. ShowsInFile word bytes (f x)) → IfOk t (λ x. ShowsMoreInFile word bytes (f x))
more_shown f word bytes (Ok x) h = shows_more word bytes (f x) h
more_shown f word bytes (Err e) h = tt

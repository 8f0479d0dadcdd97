-- How what is told begins.
use Rattle.std.proofs.Common.{◌≡◌, ◌≢◌, ◌-◌, ◌==◌, ℕ, true, false, refl, List, [], ◌∷◌, ◌++◌, length, Option, Some, inl, inr, sym, ap, ◌∙◌, subst, arith, append-nil}
use Rattle.std.specs.Prelude.{Result, Ok, Err, IfOk, max, min}
use Rattle.std.proofs.lemmas.Bool.{eqb-false, eqb-true}
use Rattle.toml_text.specs.declared.span.Position.{Position}
use Rattle.toml_text.specs.Positions.{IsPosition}
use Rattle.toml_tree.specs.Tree.{Piece}
use Rattle.toml_tree.specs.declared.profile.Profile.{Profile}
use Rattle.toml_mentions.specs.Mentioned.{StandsForOffence}
use Rattle.toml_explain.specs.Documents.{AreSpansAt, AreSpansOf, HasLine, OpensAs, OpensAtKey, OpensAtOffence, OpensInLine, ShowsClash, ShowsInFile, ShowsKey, ShowsMoreInFile}
use Rattle.toml_explain.specs.Excerpts.{EndsInLine, HasLineOf}
use Rattle.toml_explain.specs.Openings.{EndsIn, OpensAt, OpensBare, OpensInFile, opening, bare_opening}
use Rattle.toml_explain.specs.declared.spans.LineSpans.{LineSpans}
use Rattle.toml_explain.proofs.Lines.{ends_behind, part_held}

module _ {S E : Type 0} (f : S → List ℕ) (word rest : List ℕ) where
  pub opens_at : (bytes : List ℕ) (at : ℕ) (p : Position) (r : Result S E) → IsPosition bytes (min at (length bytes)) p → IfOk r (λ t. f t ≡ opening word p ++ rest) → IfOk r (λ t. OpensAt word bytes at (f t))
  opens_at bytes at p (Ok t) is e = record { position = p; exact = is; rest = rest; begins = e }
  opens_at bytes at p (Err d) is e = tt

  pub ends_in : (p : Position) (r : Result S E) → IfOk r (λ t. f t ≡ opening word p ++ rest) → IfOk r (λ t. EndsIn rest (f t))
  ends_in p (Ok t) e = (opening word p, e)
  ends_in p (Err d) e = tt

  pub bare_opens : (r : Result S E) → IfOk r (λ t. f t ≡ bare_opening word ++ rest) → IfOk r (λ t. OpensBare word (f t))
  bare_opens (Ok t) e = record { rest = rest; begins = e }
  bare_opens (Err d) e = tt

-- with nothing behind it
no_more : (word bytes text : List ℕ) → ShowsInFile word bytes text → ShowsMoreInFile word bytes text
no_more word bytes text (inl (at, opens, e)) =
    inl (at, opens, record { front = e.front; shown = e.shown; line = e.line; rest = []; has = e.ends ∙ ap (λ l. e.front ++ 0x0A ∷ l) (sym (append-nil _)) })
no_more word bytes text (inr opens) = inr opens

module _ {S E : Type 0} (f : S → List ℕ) (word bytes : List ℕ) where
  -- at some place, or at none
  pub at_in_file : (at : ℕ) (r : Result S E) → IfOk r (λ t. OpensAt word bytes at (f t)) → IfOk r (λ t. OpensInFile word bytes (f t))
  at_in_file at (Ok t) opens = inl (at, opens)
  at_in_file at (Err d) opens = tt

  pub bare_in_file : (r : Result S E) → IfOk r (λ t. OpensBare word (f t)) → IfOk r (λ t. OpensInFile word bytes (f t))
  bare_in_file (Ok t) opens = inr opens
  bare_in_file (Err d) opens = tt

  -- with the line below
  pub shows_at : (at : ℕ) (r : Result S E) → IfOk r (λ t. OpensAt word bytes at (f t)) → IfOk r (λ t. EndsInLine bytes at (f t)) → IfOk r (λ t. ShowsInFile word bytes (f t))
  shows_at at (Ok t) opens below = inl (at, opens, below)
  shows_at at (Err d) opens below = tt

  pub bare_shows : (r : Result S E) → IfOk r (λ t. OpensBare word (f t)) → IfOk r (λ t. ShowsInFile word bytes (f t))
  bare_shows (Ok t) opens = inr opens
  bare_shows (Err d) opens = tt

  pub more_at : (at : ℕ) (r : Result S E) → IfOk r (λ t. OpensAt word bytes at (f t)) → IfOk r (λ t. HasLineOf bytes at (f t)) → IfOk r (λ t. ShowsMoreInFile word bytes (f t))
  more_at at (Ok t) opens line = inl (at, opens, line)
  more_at at (Err d) opens line = tt

  pub bare_more : (r : Result S E) → IfOk r (λ t. OpensBare word (f t)) → IfOk r (λ t. ShowsMoreInFile word bytes (f t))
  bare_more (Ok t) opens = inr opens
  bare_more (Err d) opens = tt

  pub shows_more : (r : Result S E) → IfOk r (λ t. ShowsInFile word bytes (f t)) → IfOk r (λ t. ShowsMoreInFile word bytes (f t))
  shows_more (Ok t) h = no_more word bytes (f t) h
  shows_more (Err d) h = tt

  pub more_by : (code : ℕ) (r : Result S E) → (code ≡ 306 → IfOk r (λ t. ShowsMoreInFile word bytes (f t))) → (code ≢ 306 → IfOk r (λ t. ShowsInFile word bytes (f t)))
      → IfOk r (λ t. ShowsMoreInFile word bytes (f t))
  more_by code r same other =
      elim (code == 306) as (λ t. (code == 306) ≡ t → IfOk r (λ t. ShowsMoreInFile word bytes (f t))) [
        | true ↦ λ e. same (eqb-true code 306 e)
        | false ↦ λ e. shows_more r (other (eqb-false code 306 e))
      ] refl

  -- by the code of a refusal
  module _ (profile : Profile) (code place : ℕ) where
    pub length_as : (r : Result S E) → code ≡ 102 → IfOk r (λ t. OpensInFile word bytes (f t)) → IfOk r (λ t. OpensBare word (f t)) → IfOk r (λ t. OpensAs profile word bytes code place (f t))
    length_as (Ok t) is file bare = record {
      file = file;
      byte = λ other _ _. absurd (other is);
      byte_below = λ other _ _. absurd (other is);
      long = λ _. bare;
      twice = λ e. let no : ⊥ = omega (arith, is, e) in absurd no;
      key = λ e. let no : ⊥ = omega (arith, is, e) in absurd no;
      key_below = λ e. let no : ⊥ = omega (arith, is, e) in absurd no;
    }
    length_as (Err d) is file bare = tt

    pub twice_as : (r : Result S E) → code ≡ 201 → IfOk r (λ t. OpensInFile word bytes (f t)) → IfOk r (λ t. OpensInLine profile word bytes (place - 1) (f t))
        → IfOk r (λ t. OpensAtOffence profile word bytes (place - 1) (f t)) → IfOk r (λ t. ShowsClash profile bytes (place - 1) (f t)) → IfOk r (λ t. OpensAs profile word bytes code place (f t))
    twice_as (Ok t) is file inside offence clash = record {
      file = file;
      byte = λ _ other _. absurd (other is);
      byte_below = λ _ other _. absurd (other is);
      long = λ e. let no : ⊥ = omega (arith, is, e) in absurd no;
      twice = λ _. record { inside = inside; offence = offence; clash = clash };
      key = λ e. let no : ⊥ = omega (arith, is, e) in absurd no;
      key_below = λ e. let no : ⊥ = omega (arith, is, e) in absurd no;
    }
    twice_as (Err d) is file inside offence clash = tt

    pub key_as : (r : Result S E) → code ≡ 203 → IfOk r (λ t. OpensInFile word bytes (f t)) → IfOk r (λ t. OpensAtKey profile word bytes (place - 1) (f t)) → IfOk r (λ t. ShowsKey profile bytes (place - 1) (f t))
        → IfOk r (λ t. OpensAs profile word bytes code place (f t))
    key_as (Ok t) is file key below = record {
      file = file;
      byte = λ _ _ other. absurd (other is);
      byte_below = λ _ _ other. absurd (other is);
      long = λ e. let no : ⊥ = omega (arith, is, e) in absurd no;
      twice = λ e. let no : ⊥ = omega (arith, is, e) in absurd no;
      key = λ _. key;
      key_below = λ _. below;
    }
    key_as (Err d) is file key below = tt

    pub byte_as : (r : Result S E) → code ≢ 102 → code ≢ 201 → code ≢ 203 → IfOk r (λ t. OpensInFile word bytes (f t)) → IfOk r (λ t. OpensAt word bytes place (f t)) → IfOk r (λ t. EndsInLine bytes place (f t))
        → IfOk r (λ t. OpensAs profile word bytes code place (f t))
    byte_as (Ok t) long twice key file opens below = record {
      file = file;
      byte = λ _ _ _. opens;
      byte_below = λ _ _ _. below;
      long = λ e. absurd (long e);
      twice = λ e. absurd (twice e);
      key = λ e. absurd (key e);
      key_below = λ e. absurd (key e);
    }
    byte_as (Err d) long twice key file opens below = tt

-- at the key of a line, and in a line
module _ (profile : Profile) (word bytes : List ℕ) (number : ℕ) (s : LineSpans) (are : AreSpansAt profile bytes number s) where
  at_key : (text : List ℕ) → OpensAt word bytes s.key.start text → OpensAtKey profile word bytes number text
  at_key text opens l has = subst (λ at. OpensAt word bytes at text) (are l has).key opens

  held_in : (again at : ℕ) (text : List ℕ) → at ≡ max (min again s.whole.end) s.whole.start → OpensAt word bytes at text → OpensInLine profile word bytes number text
  held_in again at text is opens l has =
      let spans : AreSpansOf l.expr s = are l has in
      let start = spans.start in
      let stop = spans.stop in
      let order = ends_behind profile bytes number l has in
      record {
        at = at;
        low = omega (arith, start, stop, order, is);
        high = omega (arith, start, stop, order, is);
        opens = opens;
      }

pub opens_at_key : {S E : Type 0} (f : S → List ℕ) (profile : Profile) (word bytes : List ℕ) (number : ℕ) (s : LineSpans) → AreSpansAt profile bytes number s
    → (r : Result S E) → IfOk r (λ t. OpensAt word bytes s.key.start (f t)) → IfOk r (λ t. OpensAtKey profile word bytes number (f t))
opens_at_key f profile word bytes number s are (Ok t) opens = at_key profile word bytes number s are (f t) opens
opens_at_key f profile word bytes number s are (Err d) opens = tt

pub shows_key : {S E : Type 0} (f : S → List ℕ) (profile : Profile) (bytes : List ℕ) (number : ℕ) (s : LineSpans) → AreSpansAt profile bytes number s
    → (r : Result S E) → IfOk r (λ t. EndsInLine bytes s.key.start (f t)) → IfOk r (λ t. ShowsKey profile bytes number (f t))
shows_key f profile bytes number s are (Ok t) below = λ l has. subst (λ at. EndsInLine bytes at (f t)) (are l has).key below
shows_key f profile bytes number s are (Err d) below = tt

pub opens_in_line : {S E : Type 0} (f : S → List ℕ) (profile : Profile) (word bytes : List ℕ) (number : ℕ) (s : LineSpans) → AreSpansAt profile bytes number s → (again at : ℕ)
    → (r : Result S E) → at ≡ max (min again s.whole.end) s.whole.start → IfOk r (λ t. OpensAt word bytes at (f t)) → IfOk r (λ t. OpensInLine profile word bytes number (f t))
opens_in_line f profile word bytes number s are again at (Ok t) is opens = held_in profile word bytes number s are again at (f t) is opens
opens_in_line f profile word bytes number s are again at (Err d) is opens = tt

-- at the key part that stands for what may not be
module _ (profile : Profile) (word bytes : List ℕ) (number : ℕ) (s : LineSpans) (are : AreSpansAt profile bytes number s) where
  offence_in : (found : Option ℕ) (again at : ℕ) (text : List ℕ) → ((p : Piece) → StandsForOffence profile bytes number p → found ≡ Some p.start) → ((n : ℕ) → found ≡ Some n → again ≡ n)
      → at ≡ max (min again s.whole.end) s.whole.start → OpensAt word bytes at text → OpensAtOffence profile word bytes number text
  offence_in found again at text finds given is opens p h =
      let has : HasLine profile bytes number h.line = record { text = h.text; lines = h.lines; are = h.are; here = h.here } in
      let spans : AreSpansOf h.line.expr s = are h.line has in
      let start = spans.start in
      let stop = spans.stop in
      let held = part_held profile bytes number h.line has _ p h.stands in
      let there : again ≡ p.start = given p.start (finds p h) in
      let same : at ≡ p.start = omega (arith, start, stop, held.0, held.1, there, is) in
      subst (λ n. OpensAt word bytes n text) same opens

pub opens_at_offence : {S E : Type 0} (f : S → List ℕ) (profile : Profile) (word bytes : List ℕ) (number : ℕ) (s : LineSpans) → AreSpansAt profile bytes number s → (found : Option ℕ) (again at : ℕ)
    → ((p : Piece) → StandsForOffence profile bytes number p → found ≡ Some p.start) → ((n : ℕ) → found ≡ Some n → again ≡ n)
    → (r : Result S E) → at ≡ max (min again s.whole.end) s.whole.start → IfOk r (λ t. OpensAt word bytes at (f t)) → IfOk r (λ t. OpensAtOffence profile word bytes number (f t))
opens_at_offence f profile word bytes number s are found again at finds given (Ok t) is opens = offence_in profile word bytes number s are found again at (f t) finds given is opens
opens_at_offence f profile word bytes number s are found again at finds given (Err d) is opens = tt

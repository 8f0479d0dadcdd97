-- What a source stands for, which spans it holds, and which bytes are refused.
use Rattle.std.specs.Prelude.{◌≡◌, ◌<◌, ◌≤◌, ℕ, List, length, Result, MatchResult}
use Rattle.std.specs.Str.{IsUtf8, IsCharBoundary, IsValidUpTo}
use Rattle.toml_text.specs.Limit.{max_len, IsText}
use Rattle.toml_text.specs.declared.source.Source.{Source}
use Rattle.toml_text.specs.declared.span.Span.{Span}
use Rattle.toml_text.specs.declared.fault.TextFault.{TextFault}
use Rattle.toml_text.specs.declared.fault.TextFault.TheVariants.{NotUtf8, TooLong}

-- the bytes of the text
abbrev pub text_of : Source → List ℕ
text_of s = s.text.now

-- the span lies in the text, and cuts no character
pub record IsHeld (text : List ℕ) (span : Span) : Type 0 where
  pub order : span.start ≤ span.end
  pub start : IsCharBoundary text span.start
  pub end : IsCharBoundary text span.end

-- why the bytes are refused: UTF-8 is tested first, and the place is the length of the longest valid front
abbrev pub IsFaultOf : List ℕ → TextFault → Type 0
IsFaultOf bytes (NotUtf8 at) = (¬ IsUtf8 bytes) × IsValidUpTo bytes at
IsFaultOf bytes TooLong = IsUtf8 bytes × (max_len < length bytes)

-- the bytes are a text, which the source stands for, or are refused
abbrev pub IsNewSource : List ℕ → Result Source TextFault → Type 0
IsNewSource bytes answer = MatchResult answer (λ s. (text_of s ≡ bytes) × IsText bytes) (IsFaultOf bytes)

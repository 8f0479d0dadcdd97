-- Why bytes are no document.
use Rattle.std.specs.Prelude.{◌≡◌, ◌<◌, ◌≤◌, ◌⊎◌, ◌+◌, ℕ, List, length}
use Rattle.std.specs.Str.{IsUtf8, IsValidUpTo}
use Rattle.toml_text.specs.Limit.{IsText, max_len}
use Rattle.toml_tree.specs.Profiles.{SpellsIn, SpelledByNone}
use Rattle.toml_tree.specs.Tree.{Doc}
use Rattle.toml_tree.specs.declared.profile.Profile.{Profile}
use Rattle.toml_names.specs.model.Addresses.{Address}
use Rattle.toml_names.specs.model.Documents.{IsDocumentIn}
use Rattle.toml_names.specs.reader.Names.{IsRedefined, IsLong}
use Rattle.toml_delivery.specs.Outcomes.{Tells}
use Rattle.toml_delivery.specs.declared.outcome.Outcome.{Outcome}
use Rattle.toml_delivery.specs.declared.refusal.Refusal.{Refusal}

-- 101: no UTF-8 from the place on
abbrev pub IsNoUtf8 : List ℕ → Refusal → Type 0
IsNoUtf8 bytes r = (r.code ≡ 101) × (¬ IsUtf8 bytes) × IsValidUpTo bytes r.place

-- 102: too long; the place is the limit
abbrev pub IsTooLong : List ℕ → Refusal → Type 0
IsTooLong bytes r = (r.code ≡ 102) × (r.place ≡ max_len) × IsUtf8 bytes × (max_len < length bytes)

-- 103 to 109: no tree of the profile spells the bytes; the place is one of theirs or their end
abbrev pub IsSyntaxCode : ℕ → Type 0
IsSyntaxCode code = (103 ≤ code) × (code ≤ 109)

abbrev pub IsNotSpelled : Profile → List ℕ → Refusal → Type 0
IsNotSpelled profile bytes r = IsSyntaxCode r.code × (r.place ≤ length bytes) × IsText bytes × SpelledByNone profile bytes

-- 201: the first line that breaks the table rules, all lines before it being good; the place is its number, from 1, lines
-- counted as the tree of the profile has them
abbrev pub IsRedefinition : Profile → List ℕ → Refusal → Type 0
IsRedefinition profile bytes r = (r.code ≡ 201) × IsText bytes × (d : Doc) × (line : ℕ) × (at : Address) × (r.place ≡ line + 1) × SpellsIn profile d bytes × IsRedefined d.lines line at

-- 203: the first line that keeps the rules and has a longer address, all lines before it being good
abbrev pub IsLongAddress : Profile → List ℕ → Refusal → Type 0
IsLongAddress profile bytes r = (r.code ≡ 203) × IsText bytes × (d : Doc) × (line : ℕ) × (r.place ≡ line + 1) × SpellsIn profile d bytes × IsLong d.lines line

abbrev pub IsRefusalOf : Profile → List ℕ → Refusal → Type 0
IsRefusalOf profile bytes r = IsNoUtf8 bytes r ⊎ (IsTooLong bytes r ⊎ (IsNotSpelled profile bytes r ⊎ (IsRedefinition profile bytes r ⊎ IsLongAddress profile bytes r)))

-- the bytes are no document of the profile, and the refusal says why
abbrev pub IsRefused : Profile → List ℕ → Refusal → Type 0
IsRefused profile bytes r = (¬ IsDocumentIn profile bytes) × IsRefusalOf profile bytes r

-- the bytes are no document of the profile, and the answer tells why
abbrev pub Refuses : Profile → List ℕ → Outcome → Type 0
Refuses profile bytes o = (r : Refusal) × IsRefused profile bytes r × Tells r o

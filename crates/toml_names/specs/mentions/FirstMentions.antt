-- The addresses of the mentions, each once, in the order of their first mentions.
use Rattle.std.specs.Prelude.{◌≡◌, ◌↔◌, Bool, true, if◌then◌else◌, List, [], ◌∷◌, ◌++◌, filter, Any, AllPairs, Contains}
use Rattle.std.specs.List.{list_any}
use Rattle.toml_names.specs.model.Addresses.{Address, same_address}
use Rattle.toml_names.specs.mentions.Mentions.{Named, is_mention}

-- something is named at the address
abbrev pub is_named : List Named → Address → Bool
is_named ms at = list_any (λ m. same_address m.address at) ms

-- the addresses of what is named, behind what was named earlier: each once, and none of an earlier one
abbrev pub first_named : List Named → List Named → List Address
first_named earlier [] = []
first_named earlier (m ∷ ms) =
    if is_named earlier m.address then first_named (earlier ++ m ∷ []) ms else m.address ∷ first_named (earlier ++ m ∷ []) ms

abbrev pub first_mentions : List Named → List Address
first_mentions ms = first_named [] (filter is_mention ms)

-- a mention is of the address
abbrev pub IsMentioned : List Named → Address → Type 0
IsMentioned ms at = Any (λ m. (m.address ≡ at) × (is_mention m ≡ true)) ms

-- before each mention of the other address stands one of the address
abbrev pub ComesFirst : List Named → Address → Address → Type 0
ComesFirst ms at other = (before behind : List Named) (m : Named) → ms ≡ before ++ m ∷ behind → m.address ≡ other → is_mention m ≡ true → IsMentioned before at

-- the list has each address that is mentioned, and no other, once, in the order of the first mentions
pub record IsFirstMentions (ms : List Named) (list : List Address) : Type 0 where
  pub all : (at : Address) → Contains list at ↔ IsMentioned ms at
  pub once : AllPairs (λ at other. ¬ (at ≡ other)) list
  pub order : AllPairs (ComesFirst ms) list

-- Laws: such is the plain function's list, and no other is.
abbrev pub FirstMentionsAreThese : Type 0
FirstMentionsAreThese = (ms : List Named) → IsFirstMentions ms (first_mentions ms)

abbrev pub OneListOfFirstMentions : Type 0
OneListOfFirstMentions = (ms : List Named) (a b : List Address) → IsFirstMentions ms a → IsFirstMentions ms b → a ≡ b

-- The table rules, and the first mention that breaks them.
use Rattle.std.specs.Prelude.{◌≡◌, ◌≢◌, ◌≤◌, ◌||◌, not, ℕ, Bool, true, false, ◌↔◌, if◌then◌else◌, List, [], ◌∷◌, ◌++◌, length, map, filter, All, AllPairs, Option, Some, None}
use Rattle.std.specs.List.{list_all}
use Rattle.toml_tree.specs.Spells.{EachIs}
use Rattle.toml_names.specs.declared.mentions.mention.Role.{Role}
use Rattle.toml_names.specs.declared.mentions.mention.Role.TheVariants.{Passed, Header, Dotted, Tables, Element, Bare}
use Rattle.toml_names.specs.model.Addresses.{Address, same_address}
use Rattle.toml_names.specs.mentions.Mentions.{Named, is_mention}

-- TOML v1.0.0, Keys, Table, Inline Table, Array of Tables: an address that was mentioned in the first role may be mentioned in the
-- second. What is no mention goes with all.
abbrev pub may_follow : Role → Role → Bool
may_follow Bare _ = true
may_follow _ Bare = true
may_follow Passed Passed = true
may_follow Passed Header = true
may_follow Passed Dotted = true
may_follow Header Passed = true
may_follow Dotted Dotted = true
may_follow Dotted Passed = true
may_follow Tables Tables = true
may_follow Element Passed = true
may_follow _ _ = false

-- every two mentions of one address are in roles of which the later may follow the earlier
abbrev pub KeepsRules : List Named → Type 0
KeepsRules ms = AllPairs (λ e l. e.address ≡ l.address → may_follow e.role l.role ≡ true) ms

-- how many steps an address may have in this profile
abbrev pub max_steps : ℕ
max_steps = 100

-- no address has more steps
abbrev pub IsShort : List Named → Type 0
IsShort ms = All (λ m. length m.address ≤ max_steps) ms

-- the first mention among the new ones that forms a forbidden pair with one before it
pub record IsFirstOffence (earlier new : List Named) (at : Address) : Type 0 where
  pub before : List Named
  pub mention : Named
  pub behind : List Named
  pub is : new ≡ before ++ mention ∷ behind
  pub address : at ≡ mention.address
  pub good : KeepsRules (earlier ++ before)
  pub offends : ¬ KeepsRules ((earlier ++ before) ++ mention ∷ [])

-- the mention goes with each earlier one
abbrev pub fits : List Named → Named → Bool
fits earlier m = list_all (λ e. not (same_address e.address m.address) || may_follow e.role m.role) earlier

-- the plain function: the first of the mentions that does not go with the earlier ones and those before it
abbrev pub misfit : List Named → List Named → Option Address
misfit earlier [] = None
misfit earlier (m ∷ ms) = if fits earlier m then misfit (earlier ++ m ∷ []) ms else Some m.address

-- Laws: mentions keep the rules exactly where no misfit is found among them, and what is found is the first.
abbrev pub NoMisfit : Type 0
NoMisfit = (ms : List Named) → (misfit [] ms ≡ None) ↔ KeepsRules ms

abbrev pub MisfitIsFirst : Type 0
MisfitIsFirst = (earlier new : List Named) (at : Address) → KeepsRules earlier → misfit earlier new ≡ Some at → IsFirstOffence earlier new at

-- Laws: where mentions keep the rules, those do that are left when some in a row are taken out;
abbrev pub SomeKeepRules : Type 0
SomeKeepRules = (front block back : List Named) → KeepsRules (front ++ (block ++ back)) → KeepsRules (front ++ back)

-- those do that stand there when others are put in, which keep them and are at other addresses;
abbrev pub MoreKeepRules : Type 0
MoreKeepRules = (front block back : List Named) → KeepsRules (front ++ back) → KeepsRules block
    → EachIs (λ m. EachIs (λ b. m.address ≢ b.address) block) (front ++ back) → KeepsRules (front ++ (block ++ back))

-- and mentions in the same roles at other addresses keep them just so, where two have one address exactly if they had one.
abbrev pub MovedKeepRules : Type 0
MovedKeepRules = (f : Named → Named) (ms : List Named) → ((m : Named) → (f m).role ≡ m.role)
    → AllPairs (λ e l. ((f e).address ≡ (f l).address) ↔ (e.address ≡ l.address)) ms → KeepsRules ms ↔ KeepsRules (map f ms)

-- Law: what is no mention has no part in the rules.
abbrev pub RulesAreOfMentions : Type 0
RulesAreOfMentions = (ms : List Named) → KeepsRules ms ↔ KeepsRules (filter is_mention ms)

-- The rules at one address: one role, its mark, stands for all in which it was mentioned.
use Rattle.std.specs.Prelude.{◌≡◌, ◌↔◌, ◌++◌, Bool, true, List, [], ◌∷◌, Option, Some, None, if◌then◌else◌}
use Rattle.toml_names.specs.declared.mentions.mention.Role.{Role}
use Rattle.toml_names.specs.declared.mentions.mention.Role.TheVariants.{Passed, Bare}
use Rattle.toml_names.specs.model.Addresses.{Address, same_address}
use Rattle.toml_names.specs.mentions.Mentions.{Named}
use Rattle.toml_names.specs.mentions.Rules.{may_follow, KeepsRules}

-- the mark of two roles that may follow each other: the later one, but `Passed` and `Bare` leave another as it is
abbrev pub role_after : Role → Role → Role
role_after Bare r = r
role_after q Bare = q
role_after q Passed = q
role_after q r = r

abbrev pub mark_after : Option Role → Role → Option Role
mark_after None r = Some r
mark_after (Some q) r = Some (role_after q r)

abbrev pub mark_from : Option Role → List Named → Address → Option Role
mark_from q [] at = q
mark_from q (m ∷ ms) at = mark_from (if same_address m.address at then mark_after q m.role else q) ms at

-- the last role at the address that is not `Passed`, or `Passed` where there is no other; `Bare`, no mention, counts only where it stands
-- alone, and there is no mark where nothing is named
abbrev pub mark_of : List Named → Address → Option Role
mark_of = mark_from None

-- the test at one address, in place of all earlier mentions of it
abbrev pub allows : Option Role → Role → Bool
allows None r = true
allows (Some q) r = may_follow q r

-- Law: under the rules one more mention keeps them exactly where the mark of its address allows it.
abbrev pub LastRoleDecides : Type 0
LastRoleDecides = (ms : List Named) (m : Named) → KeepsRules ms → KeepsRules (ms ++ m ∷ []) ↔ (allows (mark_of ms m.address) m.role ≡ true)

use Rattle.std.proofs.Common.{◌≡◌, ◌++◌, Option, map, drop}
use Rattle.toml_edits.specs.Edits.{change}
use Rattle.toml_checker.specs.Plain.{Site, made_site, home_stands, flags_from, flags}
use Rattle.toml_checker.proofs.protection.protected.Given as goal

abbrev pub invariant-loop-unit : goal.invariant-loop-unit
invariant-loop-unit l = record {
  line : Option Site;
  home_is : l.home ≡ home_stands (map change l.edits) line;
  told : l.flags.items ++ flags_from (map change l.edits) line (map made_site (drop l.unit-index l.units)) ≡ flags (map change l.edits) (map made_site l.units);
}

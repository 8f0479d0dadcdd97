use Rattle.std.proofs.Common.{◌<◌, [], ◌∷◌, length, sym, subst, arith}
use Rattle.std.proofs.lemmas.Bool.Decides.{nat_tests}
use Rattle.toml_units.specs.Certificates.{AreSmall, IsSmall}
use Rattle.toml_units.proofs.Each.{each_append}
use Rattle.toml_units.proofs.Certificates.{none_left, read_line}
use Rattle.toml_units.proofs.certificate.read_certificate.Goals as goal

pub returns-in_default-read_pair-clause-refused : goal.returns-in_default-read_pair-clause-refused
returns-in_default-read_pair-clause-refused c =
    let some : 0 < length c.loop-left.left.now = grind (arith, nat_tests) in
    none_left c.args.bytes.now c.loop-left.left.now c.loop-left.pairs.items c.loop-left.invariant.read some c.in_default-read_pair.ensures.read

pub loop-left-preserved : goal.loop-left-preserved
loop-left-preserved c =
    record {
      read =
          read_line c.args.bytes.now c.loop-left.left.now c.in-Some-read_pair.behind.now c.loop-left.pairs.items c.push.new.self.items c.in-Some-read_pair.pair c.loop-left.invariant.read c.in-Some-read_pair.ensures.read c.in_ok-push.ensures.items;
      small = subst AreSmall (sym c.in_ok-push.ensures.items) (each_append IsSmall c.loop-left.pairs.items (c.in-Some-read_pair.pair ∷ []) c.loop-left.invariant.small (c.in-Some-read_pair.ensures.small, tt));
    }

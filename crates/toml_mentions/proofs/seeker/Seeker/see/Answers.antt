use Rattle.std.proofs.Common.{map, refl, sym, ap, ◌∙◌}
use Rattle.std.proofs.lemmas.Result.{on_ok_weaker}
use Rattle.toml_mentions.specs.Sought.{first_some, forbidden_by, forbidding, role_of, seen_clash, seen_of}
use Rattle.toml_mentions.proofs.Sights.{seen_more}
use Rattle.toml_mentions.proofs.seeker.Seeker.see.Goals as goal

pub returns : goal.returns
returns c =
    let s = c.args.self.now in
    let m = c.args.again in
    let clash =
    c.clash_after-self.ensures
    ∙ ap (λ l. first_some (seen_clash s.clash) (forbidden_by (forbidding (role_of m.role) (map seen_of l)) (seen_of m))) c.deref.ensures.value in
    on_ok_weaker c.add_first.result
    (λ keeps. record {
      target = refl;
      tables = refl;
      section = refl;
      seen = seen_more s.firsts.items c.add_first.new.firsts.items s.clash c.clash_after-self.result (seen_of m) clash keeps;
    }) c.add_first.ensures

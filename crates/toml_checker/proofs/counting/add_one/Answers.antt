use Rattle.std.proofs.Common.{◌+◌, Some, unwrap_or, ap, ◌∙◌, nat_cmp}
use Rattle.std.proofs.lemmas.Map.Text.{btree_map_updates_str}
use Rattle.std.specs.BTreeMap.{get_by}
use Rattle.std.specs.Cmp.Lexicographic.{slice_cmp}
use Rattle.toml_checker.proofs.Counts.{one_more}
use Rattle.toml_checker.proofs.counting.add_one.Goals as goal

pub returns : goal.returns
returns c =
    one_more (λ t. get_by (λ k. slice_cmp nat_cmp t k.now) c.args.counts.now) (λ t. get_by (λ k. slice_cmp nat_cmp t k.now) c.insert.new.self) c.args.text.now (c.unwrap_or-count.result + 1)
    (btree_map_updates_str c.args.text.now c.args.counts.now c.insert.new.self (Some (c.unwrap_or-count.result + 1)) c.in_ok-insert.ensures.updates)
    (ap (λ n. n + 1) (c.unwrap_or-count.ensures ∙ ap (λ o. unwrap_or o 0) (c.copied.ensures ∙ c.get.ensures.value)))

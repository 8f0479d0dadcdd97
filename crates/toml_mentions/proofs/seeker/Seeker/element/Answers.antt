use Rattle.std.proofs.Common.{◌≡◌, ◌+◌, ◌++◌, [], ◌∷◌, refl, sym, ap, ◌∙◌, subst, arith}
use Rattle.toml_tree.specs.View.{piece}
use Rattle.toml_names.specs.mentions.Mentions.{count_tables, ends_tables}
use Rattle.toml_names.specs.model.Addresses.{element}
use Rattle.toml_names.specs.declared.mentions.mention.Role.TheVariants.{Tables, Element}
use Rattle.toml_mentions.specs.Sought.{Counts, count_at, part_at, sights, way_to}
use Rattle.toml_mentions.proofs.Keys.{counts_kept}
use Rattle.toml_mentions.proofs.Stood.{element_counts, element_seen_both, element_way}
use Rattle.toml_mentions.proofs.seeker.Seeker.element.Goals as goal

pub returns : goal.returns
returns c = λ at earlier h counts few.
    let old = c.args.self.now in
    let mid = c.mention.new.self in
    let set = c.set_tables.new.self in
    let new = c.mention-2.new.self in
    let p = piece c.args.part in
    let first = c.in_ok-mention.ensures at h in
    let kept = counts_kept old mid _ earlier first counts in
    let target_mid = ap (λ t. t.now) first.target in
    let set_is = c.set_tables.ensures.rest in
    let target_set = ap (λ s. s.target) set_is ∙ first.target in
    let h_mid = h ∙ ap (λ t. way_to t.now at) (sym first.target) in
    let h_set = h ∙ ap (λ t. way_to t.now at) (sym target_set) in
    let way_set = element_way set.target.now mid.tables.items earlier at c.args.array h_set (subst (λ t. Counts mid.tables.items t.now earlier) (first.target ∙ sym target_set) kept) c.tables_at-count.result c.tables_at-count.ensures
    c.indexed-inside.result (c.indexed-inside.ensures at h_set) in
    let second = c.in_ok-mention-2.ensures (element at (count_tables earlier at)) way_set in
    record {
      is = way_set ∙ ap (λ t. way_to t.now (element at (count_tables earlier at))) target_set;
      target = second.target ∙ target_set;
      counts = λ line. element_counts at earlier line few mid set new c.args.array h_mid kept c.tables_at-count.result c.tables_at-count.ensures c.saturating_add.result (omega (arith, c.saturating_add.ensures)) c.set_tables.ensures.tables set_is second;
      seen = element_seen_both old mid set new at earlier p first set_is second;
    }

use Rattle.std.proofs.Common.{◌≡◌, ◌∙◌, ◌<◌, ◌+◌, arith, drop, length, rules, subst₂}
use Rattle.toml_layout.specs.Items.{items_of}
use Rattle.toml_layout.specs.Takings.{TakesAll}
use Rattle.toml_layout.proofs.TakenMarks.{behind_stayed, marked_on, none_left, stayed_on}
use Rattle.toml_layout.proofs.tree.Entries.remove_marked.Goals.{then-is_marked+in_ok-remove_one, else-is_marked}
use Rattle.toml_layout.proofs.tree.Entries.remove_marked.Goals as goal

pub loop-is_marked-preserved : goal.loop-is_marked-preserved
loop-is_marked-preserved c =
    let layout = c.args.texts.layout in
    let marks = c.args.marks.now in
    let k = c.loop-is_marked.is_marked-index in
    let i = c.loop-is_marked.index in
    let old = items_of c.loop-is_marked.self in
    let so_far = c.loop-is_marked.invariant in
    let low : k < length marks = search rules in
    elim c.if-is_marked.branch [
      | then-is_marked+in_ok-remove_one w ↦ (
        omega (arith, w.index-is, so_far.0),
        λ new more. so_far.1 new (marked_on layout marks k i low old (items_of w.remove_one.new.self) new w.if-is_marked.true w.in_ok-remove_one.ensures
            (subst₂ (λ j e. TakesAll layout (behind_stayed j (drop (k + 1) marks)) (items_of e) new) w.index-is w.self-is more)),
      )
      | else-is_marked w ↦
          let up : w.saturating_add-index.result ≡ i + 1 = search rules in (
            omega (arith, w.index-is, up, so_far.0),
            λ new more. so_far.1 new (stayed_on layout marks k i low old new w.if-is_marked.false
                (subst₂ (λ j e. TakesAll layout (behind_stayed j (drop (k + 1) marks)) (items_of e) new) (w.index-is ∙ up) w.self-is more)),
          )
    ]

pub returns : goal.returns
returns c =
    c.loop-is_marked.invariant.1 (items_of c.loop-is_marked.self)
    (none_left c.args.texts.layout c.args.marks.now c.loop-is_marked.is_marked-index c.loop-is_marked.index (items_of c.loop-is_marked.self)
    (omega (arith, c.loop-is_marked-test.false)))

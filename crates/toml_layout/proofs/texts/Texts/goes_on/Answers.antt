use Rattle.std.proofs.Common.{◌≡◌, ◌∙◌, ◌&&◌, true, false, Some, None, ap, arith, length, nat_lt, sym}
use Rattle.std.proofs.lemmas.Bool.Decides.{nat_tests}
use Rattle.std.specs.Prelude.{option_and_then, option_map, slice_get}
use Rattle.toml_lists.specs.Gaps.{items}
use Rattle.toml_layout.specs.declared.tree.Value.TheViews.{out-Entries}
use Rattle.toml_layout.specs.Leading.{open_names, pair_key}
use Rattle.toml_layout.specs.PairPlaces.{goes_on}
use Rattle.toml_layout.specs.RenamingIn.{reaches}
use Rattle.toml_layout.proofs.OpenEntries.{reached_by}
use Rattle.toml_layout.proofs.PairParts.{goes_on_is}
use Rattle.toml_layout.proofs.texts.Texts.goes_on.Goals as goal

pub returns-in_default : goal.returns-in_default
returns-in_default c =
    let here : None ≡ option_and_then pair_key (slice_get (items (out-Entries c.args.pairs.now).list) c.args.at) =
    ap (option_map (λ k. open_names k.now)) (sym c.in_default.is) ∙ c.key_at.ensures in
    ap (goes_on c.args.parent.now) here ∙ sym (goes_on_is c.args.pairs.now c.args.parent.now c.args.at)

pub returns-then-parent-parts : goal.returns-then-parent-parts
returns-then-parent-parts c =
    let parent = c.args.parent.now in
    let k = open_names c.in-Some.key.now in
    let here : Some k ≡ option_and_then pair_key (slice_get (items (out-Entries c.args.pairs.now).list) c.args.at) =
    ap (option_map (λ k. open_names k.now)) (sym c.in-Some.is) ∙ c.key_at.ensures in
    let low : nat_lt (length parent) (length k) ≡ true = grind (arith, nat_tests) in
    reached_by k parent _ c.in_ok-common.ensures ∙ ap (λ b. b && reaches k parent) (sym low)
    ∙ ap (goes_on parent) here ∙ sym (goes_on_is c.args.pairs.now parent c.args.at)

pub returns-else-parent-parts : goal.returns-else-parent-parts
returns-else-parent-parts c =
    let parent = c.args.parent.now in
    let k = open_names c.in-Some.key.now in
    let here : Some k ≡ option_and_then pair_key (slice_get (items (out-Entries c.args.pairs.now).list) c.args.at) =
    ap (option_map (λ k. open_names k.now)) (sym c.in-Some.is) ∙ c.key_at.ensures in
    let past : nat_lt (length parent) (length k) ≡ false = grind (arith, nat_tests) in
    ap (nat_lt (length parent)) c.parts.ensures ∙ past ∙ ap (λ b. b && reaches k parent) (sym past)
    ∙ ap (goes_on parent) here ∙ sym (goes_on_is c.args.pairs.now parent c.args.at)

use Rattle.toml_names.proofs.Common.{◌≡◌, Some, IsSome, is_some, string_bytes, string_cmp, sym, ap, ◌∙◌, true≢false, All-turn, get, get_by_text, deref_pair, rules}
use Rattle.toml_names.proofs.lemmas.model.Alike.{each_more, each_none, HasNames-from_each}
use Rattle.toml_names.proofs.model.datum.has_names.Goals as goal

pub returns-then-not-contains_key : goal.returns-then-not-contains_key
returns-then-not-contains_key c =
    let gives = c.into_iter-name-iterator.ensures.into_iter_gives in
    let there : get string_cmp c.args.other.now c.in-Some.name.now ≡ Some c.in-Some.field-0-1.now =
    All-turn deref_pair (λ e. get string_cmp c.args.other.now e.0 ≡ Some e.1) _ _ _ _ _ _ _ gives.6 gives.0 c.loop-name.yielded_by c.in-Some.is c.next.ensures.steps in (
      λ h. absurd (true≢false (sym h)),
      λ all.
          sym c.if-not-contains_key.true
          ∙ c.contains_key.ensures
          ∙ ap (λ n. is_some (get_by_text c.args.table.now n)) c.as_str.ensures.value
          ∙ all (string_bytes c.in-Some.name.now) (ap is_some there),
    )

pub loop-name-preserved : goal.loop-name-preserved
loop-name-preserved c = λ left.
    c.loop-name.invariant
    (each_more (λ name d. IsSome (get_by_text c.args.table.now name)) _ c.next.new.self (c.in-Some.name.now, c.in-Some.field-0-1.now) c.in-Some.ensures.steps
    (ap (λ n. is_some (get_by_text c.args.table.now n)) (sym c.as_str.ensures.value) ∙ sym c.contains_key.ensures ∙ c.if-not-contains_key.false) left)

pub returns : goal.returns
returns c = search (rules, HasNames-from_each, each_none)

use Rattle.toml_names.proofs.Common.{◌∷◌, [], sym, subst, ◌∙◌, true≢false, value, Valued, Kind, IsTreeOf}
use Rattle.toml_names.proofs.lemmas.reader.WholeValue.{whole_stands, whole_good, whole_long, whole_clash}
use Rattle.toml_names.proofs.meaning.values.enter_whole.Goals as goal

pub returns-in-Err-Clash-clause-refused : goal.returns-in-Err-Clash-clause-refused
returns-in-Err-Clash-clause-refused c =
    let old = c.in_ok-tree.tree.nodes.items in
    let begins = subst (λ (k : Kind). IsTreeOf old (record { address = []; role = Valued; kind = k; line = 0 } ∷ [])) c.kind_of.ensures c.in_ok-tree.ensures.root in
    whole_clash (value c.args.value.now) old c.enter_inside.new.self.nodes.items begins c.in-Err-Clash.field-0-0 (c.in-Err-Clash.ensures.clash c.in-Err-Clash.field-0-0 c.in-Err-Clash.field-0-is)

pub returns-then-are_short_from-clause-good : goal.returns-then-are_short_from-clause-good
returns-then-are_short_from-clause-good c =
    let old = c.in_ok-tree.tree.nodes.items in
    let begins = subst (λ (k : Kind). IsTreeOf old (record { address = []; role = Valued; kind = k; line = 0 } ∷ [])) c.kind_of.ensures c.in_ok-tree.ensures.root in
    let stands = whole_stands (value c.args.value.now) old c.enter_inside.new.self.nodes.items begins c.in-Ok.ensures.made.enters in
    whole_good (value c.args.value.now) old c.enter_inside.new.self.nodes.items begins stands (c.are_short_from.ensures.0 c.if-are_short_from.true)

pub returns-then-are_short_from-clause-stands : goal.returns-then-are_short_from-clause-stands
returns-then-are_short_from-clause-stands c =
    let old = c.in_ok-tree.tree.nodes.items in
    let begins = subst (λ (k : Kind). IsTreeOf old (record { address = []; role = Valued; kind = k; line = 0 } ∷ [])) c.kind_of.ensures c.in_ok-tree.ensures.root in
    whole_stands (value c.args.value.now) old c.enter_inside.new.self.nodes.items begins c.in-Ok.ensures.made.enters

pub returns-clause-refused : goal.returns-clause-refused
returns-clause-refused c =
    let old = c.in_ok-tree.tree.nodes.items in
    let begins = subst (λ (k : Kind). IsTreeOf old (record { address = []; role = Valued; kind = k; line = 0 } ∷ [])) c.kind_of.ensures c.in_ok-tree.ensures.root in
    let stands = whole_stands (value c.args.value.now) old c.enter_inside.new.self.nodes.items begins c.in-Ok.ensures.made.enters in
    whole_long (value c.args.value.now) old c.enter_inside.new.self.nodes.items begins stands (λ short. true≢false (sym (c.are_short_from.ensures.1 short) ∙ c.if-are_short_from.false))

-- What is kept where the line of a value comes to stand for the table right above it: the rules, the data.
use Rattle.std.proofs.Common.{◌≡◌, ◌∙◌, inl, inr, false, List, [], ◌∷◌, ◌++◌, sym, ap, subst}
use Rattle.toml_tree.specs.Spells.{EachIs}
use Rattle.toml_tree.specs.Tree.{Line}
use Rattle.toml_tree.specs.declared.profile.Profile.{Profile}
use Rattle.toml_names.specs.declared.model.address.Step.TheVariants.{Name}
use Rattle.toml_names.specs.declared.mentions.mention.Role.TheVariants.{Dotted, Valued}
use Rattle.toml_names.specs.model.Addresses.{Address, IsAbove, below}
use Rattle.toml_names.specs.model.Data.{IsDataOf, Kinds}
use Rattle.toml_names.specs.model.Places.{IsNamed}
use Rattle.toml_names.specs.mentions.Clear.{IsClear}
use Rattle.toml_names.specs.mentions.Mentions.{Kind, Named, named, section, table_at, value_named}
use Rattle.toml_names.specs.mentions.Rules.{KeepsRules}
use Rattle.toml_names.specs.reader.Names.{AreGood}
use Rattle.toml_names.proofs.Proved.{line_values_stand_alone, more_keep_rules, not_named_is_clear, some_keep_rules}
use Rattle.toml_edits.specs.After.{IsAfter}
use Rattle.toml_edits.specs.Carry.{carry, carry_below, nowhere}
use Rattle.toml_edits.specs.Edits.{remove}
use Rattle.toml_editor.specs.Blocks.{named_plain, value_block}
use Rattle.toml_working.specs.Removing.{empty_table, lines_left}
use Rattle.toml_working.specs.RemoveStanding.{leaves_parent}
use Rattle.toml_working.specs.Standing.{standing}
use Rattle.toml_editor.proofs.Each.{each_append, each_back, each_front, each_weaker}
use Rattle.toml_editor.proofs.written.Clear.{IsUnder, above_apart}
use Rattle.toml_editor.proofs.written.EmptiedLine.{IsEmptying}
use Rattle.toml_editor.proofs.written.EmptyAlone.{NotThere}
use Rattle.toml_editor.proofs.written.EmptyNamed.{IsEmptied, empty_named}
use Rattle.toml_editor.proofs.written.InsertKept.{block_under}
use Rattle.toml_editor.proofs.written.Pairwise.{Alone, Goes, Has, PairsAre, all_of_pairs, any_of_has, from_has, has_append_left, has_append_right, has_of_any, has_parts, pairs_of_all}
use Rattle.toml_editor.proofs.written.RemoveKept.{Apart, apart_beside, removed_below}
use Rattle.toml_editor.proofs.written.SetKept.{F, carried_clear, clear_carried, clear_under}
use Rattle.toml_editor.proofs.written.Unplain.{each_plain, has_plain, pairs_plain, plain_has, plain_short, rules_plain, short_plain}

module _ (p : Address) (lines : List Line) (e : IsEmptying p lines) (gone : leaves_parent p (standing lines) ≡ false) (keeps : KeepsRules (named lines)) where
  abbrev q : Address
  q = below (section (named e.front)) (e.cut.first ∷ e.cut.rest)

  abbrev new : List Line
  new = lines_left p false lines

  abbrev its : Named
  its = value_named 0 Valued q empty_table

  put : IsEmptied q p (named_plain lines) (named_plain new)
  put = empty_named p lines e gone keeps

  abbrev block : List Named
  block = table_at 0 Dotted q ∷ value_block p put.value

  empty_rules : KeepsRules (named new)
  empty_rules =
      (rules_plain new).1
      (subst KeepsRules (sym put.after)
      (more_keep_rules put.front (its ∷ []) put.back
      (some_keep_rules put.front block put.back (subst KeepsRules put.before ((rules_plain lines).0 keeps)))
      (all_of_pairs Goes (its ∷ []) (tt, tt))
      (each_weaker (NotThere q) (λ m. EachIs (λ b. ¬ (m.address ≡ b.address)) (its ∷ [])) (λ m h. (h, tt)) (put.front ++ put.back) put.alone)))

  pub empty_good : AreGood lines → AreGood new
  empty_good good =
      let old = subst (EachIs _) put.before (short_plain lines good.1) in
      let rest = each_back _ put.front (block ++ put.back) old in (
        empty_rules,
        plain_short new
            (subst (EachIs _) (sym put.after)
            (each_append _ put.front (its ∷ put.back) (each_front _ put.front (block ++ put.back) old) (rest.0, each_back _ block put.back rest))),
      )

  under : IsAbove q p
  under = (Name e.cut.last, [], e.at)

  -- nothing is named at the value's address or below it
  pub empty_clear : EachIs (λ m. IsClear p m.address) (named new)
  empty_clear = not_named_is_clear new p empty_rules free
    where
      alone : PairsAre Alone (named_plain lines)
      alone = pairs_plain lines Alone (λ x y h. h) (pairs_of_all Alone (named lines) (line_values_stand_alone lines keeps))

      beside : EachIs (Apart p) (put.front ++ put.back)
      beside = apart_beside p put.value put.front (table_at 0 Dotted q ∷ []) put.back (subst (PairsAre Alone) put.before alone)

      all : EachIs (Apart p) (named_plain new)
      all =
          subst (EachIs (Apart p)) (sym put.after)
          (each_append (Apart p) put.front (its ∷ put.back) (each_front (Apart p) put.front put.back beside)
          ((λ here. above_apart q p under (sym here)), each_back (Apart p) put.front put.back beside))

      free : ¬ IsNamed (named new) p
      free there =
          from_has (Apart p) (λ m. m.address ≡ p) ⊥ (λ m a here. a here) (named_plain new) all
          (has_plain new (λ m. m.address ≡ p) (has_of_any _ (named new) there))

  carries : (a : Address) → carry (remove p) a ≡ carry_below p nowhere a
  carries a = subst (λ x. carry (remove x) a ≡ carry_below x nowhere a) (sym e.at) (removed_below q e.cut.last a)

  -- facts of the old lines, and of the new
  to_new : (b : Address) (k : Kind) → IsClear p b → Has (F p put.value b k) (named_plain lines) → Has (F p put.value b k) (named_plain new)
  to_new b k clear fact =
      subst (Has P) (sym put.after) (elim (has_parts P put.front (block ++ put.back) (subst (Has P) put.before fact)) [
        | inl h ↦ has_append_left P put.front (its ∷ put.back) h
        | inr (inl h) ↦ has_append_right P put.front (its ∷ put.back) (inl h)
        | inr (inr h) ↦ elim (has_parts P (value_block p put.value) put.back h) [
          | inl x ↦ absurd (from_has (λ m. IsUnder p m.address) P ⊥ (λ m low f. clear_under p b clear (subst (IsUnder p) f.0 low)) (value_block p put.value) (block_under p put.value 0) x)
          | inr x ↦ has_append_right P put.front (its ∷ put.back) (inr x)
        ]
      ])
    where
      P : Named → Type 0
      P = F p put.value b k

  to_old : (b : Address) (k : Kind) → Has (F p put.value b k) (named_plain new) → Has (F p put.value b k) (named_plain lines)
  to_old b k fact =
      subst (Has P) (sym put.before) (elim (has_parts P put.front (its ∷ put.back) (subst (Has P) put.after fact)) [
        | inl h ↦ has_append_left P put.front (block ++ put.back) h
        | inr (inl h) ↦ has_append_right P put.front (block ++ put.back) (inl h)
        | inr (inr h) ↦ has_append_right P put.front (block ++ put.back) (inr (has_append_right P (value_block p put.value) put.back h))
      ])
    where
      P : Named → Type 0
      P = F p put.value b k

  pub empty_data : (profile : Profile) (old after : Kinds) → IsDataOf (named lines) old → IsDataOf (named new) after → IsAfter profile (remove p) old after
  empty_data profile old after is is' =
      let v = put.value in
      let clear = each_plain new (λ m. IsClear p m.address) empty_clear in
      record {
        carried = λ a b k have to.
            let go = carried_clear p b a (sym (carries b) ∙ to) in
            let fact : Has (F p v b k) (named_plain lines) = has_plain lines (F p v b k) (has_of_any _ (named lines) ((is b k).0 have)) in
            ap after go.0 ∙ (is' b k).1 (any_of_has _ (named new) (plain_has new (F p v b k) (to_new b k go.1 fact)));
        placed = λ r k have. cc;
        no_other = λ a k have.
            let fact : Has (F p v a k) (named_plain new) = has_plain new (F p v a k) (has_of_any _ (named new) ((is' a k).0 have)) in
            let cleared : IsClear p a = from_has (λ m. IsClear p m.address) (F p v a k) (IsClear p a) (λ m c f. subst (IsClear p) f.0 c) (named_plain new) clear fact in
            inl (a, (is a k).1 (any_of_has _ (named lines) (plain_has lines (F p v a k) (to_old a k fact))), carries a ∙ clear_carried p a cleared);
      }

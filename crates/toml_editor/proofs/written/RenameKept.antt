-- What is kept by a `rename`: the rules, the bound on addresses, the data at their new addresses.
use Rattle.std.proofs.Common.{◌≡◌, ℕ, ◌≤◌, Bool, true, false, cond, inl, Option, Some, option_map, List, [], ◌∷◌, map, length, bytes_eq, refl, sym, ap, ◌∙◌, subst, true≢false, arith}
use Rattle.std.proofs.lemmas.Slice.Eq.{bytes_eq-Decides}
use Rattle.toml_names.specs.declared.model.address.Step.{Step}
use Rattle.toml_names.specs.declared.model.address.Step.TheVariants.{Name, Index}
use Rattle.toml_names.specs.model.Addresses.{Address, same_step, child}
use Rattle.toml_names.specs.mentions.Mentions.{Kind, Named, named}
use Rattle.toml_names.specs.mentions.Rules.{KeepsRules, IsShort, max_steps}
use Rattle.toml_names.specs.mentions.Clear.{IsClear}
use Rattle.toml_names.proofs.Proved.{not_named_is_clear, same_step-equal, same_step-self, moved_keep_rules}
use Rattle.toml_edits.specs.Carry.{carry, carry_below, to_name, renaming}
use Rattle.toml_edits.specs.Edits.{rename}
use Rattle.toml_edits.proofs.Proved.{parted_at_last}
use Rattle.toml_editor.specs.RenameLaws.{moved, moved_one, RenameGood, RenameData}
use Rattle.toml_working.specs.Renaming.{rename_lines}
use Rattle.toml_editor.proofs.Each.{each_map, each_weaker}
use Rattle.toml_editor.proofs.written.Moved.{moved_apart, moved_length}
use Rattle.toml_editor.proofs.written.Pairwise.{each_of_all, all_of_each, Has, has_of_any, any_of_has, has_map, map_has, has_weaker, taken}
use Rattle.toml_editor.proofs.written.RenameNamed.{rename_names}

pub rename_good : RenameGood
rename_good q n to lines free good =
    let names = rename_names q n to lines free good.0 in
    let clear = all_of_each (λ m. IsClear (child q to) m.address) (named lines) (not_named_is_clear lines (child q to) good.0 free) in (
      subst KeepsRules (sym names) ((moved_keep_rules (moved_one q n to) (named lines) (λ m. refl)
          (λ i j d low high. (λ same. moved_apart n to q _ _ (clear i d (omega (arith, low, high))) (clear j d high) same, λ same. ap (moved q n to) same))).0 good.0),
      subst IsShort (sym names) (all_of_each (λ m. length m.address ≤ max_steps) (map (moved_one q n to) (named lines)) (each_map (λ m. length m.address ≤ max_steps) (moved_one q n to) (named lines)
          (each_weaker (λ m. length m.address ≤ max_steps) (λ m. length (moved q n to m.address) ≤ max_steps) (λ m low. subst (λ k. k ≤ max_steps) (sym (moved_length n to q m.address)) low) (named lines) (each_of_all _ (named lines) good.1)))),
    )

-- ---- the carrier

tests : (m n : List ℕ) → same_step (Name m) (Name n) ≡ bytes_eq n m
tests m n = by (same_step (Name m) (Name n)) refl (bytes_eq n m) refl
  where
    name_is : Name m ≡ Name n → m ≡ n
    name_is e = cc

    by : (b : Bool) → same_step (Name m) (Name n) ≡ b → (c : Bool) → bytes_eq n m ≡ c → b ≡ c
    by true x true y = refl
    by false x false y = refl
    by true x false y = absurd (true≢false (sym ((bytes_eq-Decides n m).1 (sym (name_is (same_step-equal (Name m) (Name n) x)))) ∙ y))
    by false x true y = absurd (true≢false (sym (subst (λ s. same_step (Name m) (Name s) ≡ true) (sym ((bytes_eq-Decides n m).0 y)) (same_step-self (Name m))) ∙ x))

flip : (s t : Step) → same_step s t ≡ same_step t s
flip s t = by (same_step s t) refl (same_step t s) refl
  where
    by : (b : Bool) → same_step s t ≡ b → (c : Bool) → same_step t s ≡ c → b ≡ c
    by true x true y = refl
    by false x false y = refl
    by true x false y = absurd (true≢false (sym (subst (λ u. same_step u s ≡ true) (same_step-equal s t x) (same_step-self s)) ∙ y))
    by false x true y = absurd (true≢false (sym (subst (λ u. same_step u t ≡ true) (same_step-equal t s y) (same_step-self t)) ∙ x))

carried_moved : (n to : List ℕ) (q a : Address) → carry_below q (to_name n to) a ≡ Some (moved q n to a)
carried_moved n to [] [] = refl
carried_moved n to [] (Index i ∷ a) = refl
carried_moved n to [] (Name m ∷ a) = by (bytes_eq n m) (same_step (Name m) (Name n)) (tests m n)
  where
    by : (b c : Bool) → c ≡ b → cond b (Some (Name to ∷ a)) (Some (Name m ∷ a)) ≡ Some (cond c (Name to ∷ a) (Name m ∷ a))
    by true true e = refl
    by false false e = refl
    by true false e = absurd (true≢false (sym e))
    by false true e = absurd (true≢false e)
carried_moved n to (s ∷ q) [] = refl
carried_moved n to (s ∷ q) (t ∷ a) = by (same_step s t) (same_step t s) (flip s t) (carried_moved n to q a)
  where
    by : (b c : Bool) → b ≡ c → carry_below q (to_name n to) a ≡ Some (moved q n to a)
        → cond b (option_map (λ r. t ∷ r) (carry_below q (to_name n to) a)) (Some (t ∷ a)) ≡ Some (cond c (t ∷ moved q n to a) (t ∷ a))
    by true true e more = ap (option_map (λ r. t ∷ r)) more
    by false false e more = refl
    by true false e more = absurd (true≢false e)
    by false true e more = absurd (true≢false (sym e))

pub renamed_moved : (q : Address) (n to : List ℕ) (a : Address) → carry (rename (child q n) to) a ≡ Some (moved q n to a)
renamed_moved q n to a = ap (λ o. renaming o to a) (parted_at_last q (Name n)) ∙ carried_moved n to q a

-- ---- data

abbrev F : Address → Kind → Named → Type 0
F at k m = (m.address ≡ at) × (m.kind ≡ k)

pub rename_data : RenameData
rename_data profile q n to lines old after free keeps is is' =
    let lines' = rename_lines (child q n) to lines in
    let names = rename_names q n to lines free keeps in
    record {
      carried = λ a b k have to'.
          let e : ◌≡◌ {A = Option Address} (Some (moved q n to b)) (Some a) = sym (renamed_moved q n to b) ∙ to' in
          let goes : moved q n to b ≡ a = cc in
          (is' a k).1 (any_of_has (F a k) (named lines') (subst (Has (F a k)) (sym names)
          (has_map (F a k) (moved_one q n to) (named lines) (has_weaker (F b k) (λ m. F a k (moved_one q n to m)) (λ m f. (ap (moved q n to) f.0 ∙ goes, f.1)) (named lines) (has_of_any (F b k) (named lines) ((is b k).0 have))))));
      placed = λ r k have. cc;
      no_other = λ a k have.
          inl (taken (λ m. F a k (moved_one q n to m)) ((b : Address) × (old b ≡ Some k) × (carry (rename (child q n) to) b ≡ Some a)) (named lines)
          (λ m there f. (
            m.address,
            (is m.address k).1 (any_of_has (F m.address k) (named lines) (has_weaker (λ y. y ≡ m) (F m.address k) (λ y e. (ap (λ u. u.address) e, ap (λ u. u.kind) e ∙ f.1)) (named lines) there)),
            renamed_moved q n to m.address ∙ ap Some f.0,
          ))
          (map_has (F a k) (moved_one q n to) (named lines) (subst (Has (F a k)) names (has_of_any (F a k) (named lines') ((is' a k).0 have)))));
    }

-- What the lines name after a `set`.
use Rattle.std.proofs.Common.{◌≡◌, ℕ, ◌+◌, Bool, true, false, cond, List, [], ◌∷◌, ◌++◌, refl, sym, ap, ap₂, ◌∙◌, subst, true≢false, append-nil}
use Rattle.std.proofs.lemmas.Grind.{flat_map-append}
use Rattle.std.proofs.lemmas.Bool.{cond-true, cond-false}
use Rattle.toml_tree.specs.Spells.{EachIs}
use Rattle.toml_tree.specs.Tree.{Assign, Value, Scalar, Array, Inline, Items, Close, Last, More, Pairs, ClosePairs, LastPair, MorePairs, Expr, BlankLine, KeyValLine, TableLine, ArrayTableLine, Line}
use Rattle.toml_names.specs.declared.mentions.mention.Role.{Role}
use Rattle.toml_names.specs.declared.mentions.mention.Role.TheVariants.{Valued, Bare}
use Rattle.toml_names.specs.declared.model.address.Step.TheVariants.{Name, Index}
use Rattle.toml_names.specs.model.Addresses.{Address, IsAbove, same_address, is_above, child, element, below}
use Rattle.toml_names.specs.mentions.Keys.{Key, key_names, part_name, rest_names}
use Rattle.toml_names.specs.mentions.Mentions.{Named, named_by, named_from, root, value_named, kind_of, inside, elements, members, fronts, pair_named, section}
use Rattle.toml_names.specs.mentions.Alike.{AreAlike}
use Rattle.toml_names.specs.mentions.Clear.{AreClear, AreValuesAt, IsClear}
use Rattle.toml_names.proofs.Proved.{alike_name_the_same, alike_stay_alike, clear_of_root, headers_are_clear, inside_is_below, not_above_next, section_from-append, section_is_clear}
use Rattle.toml_working.specs.Lines.{lines_from}
use Rattle.toml_working.specs.Setting.{set_within, set_items, set_pairs, set_value, set_expr, set_line}
use Rattle.toml_editor.specs.SetLaws.{swapped_one, swapped, SetNames}
use Rattle.toml_editor.proofs.written.Alike.{alike_self, alike_pairs, section_pair, each_from}
use Rattle.toml_editor.proofs.written.Clear.{clear_more, differ, above_false, above_true, above_apart, below-cons, same_is, self}
use Rattle.toml_editor.proofs.Each.{each_front, each_back}

-- ---- what is swapped

abbrev pub AllAbove : Address → List Named → Type 0
AllAbove p = EachIs (λ m. IsAbove p m.address)

module _ (p : Address) (new : Value) where
  pub kept : (ms : List Named) → AreClear p ms → swapped p new ms ≡ ms
  kept [] h = refl
  kept (m ∷ ms) h =
      ap (λ l. l ++ swapped p new ms) (cond-false _ _ _ (differ m.address p (λ is. h.0.apart (sym is))) ∙ cond-false _ _ _ (above_false p m.address h.0.not_above))
      ∙ ap (λ l. m ∷ l) (kept ms h.1)

  pub dropped : (ms : List Named) → AllAbove p ms → swapped p new ms ≡ []
  dropped [] h = refl
  dropped (m ∷ ms) h =
      ap (λ l. l ++ swapped p new ms) (cond-false _ _ _ (differ m.address p (above_apart p m.address h.0)) ∙ cond-true _ _ _ (above_true p m.address h.0))
      ∙ dropped ms h.1

  glue : (xs ys xs' ys' : List Named) → xs' ≡ swapped p new xs → ys' ≡ swapped p new ys → xs' ++ ys' ≡ swapped p new (xs ++ ys)
  glue xs ys xs' ys' a b = ap₂ (λ s t. s ++ t) a b ∙ sym (flat_map-append (swapped_one p new) xs ys)

  kind_within : (at : Address) (v : Value) → kind_of (set_within p new at v) ≡ kind_of v
  kind_within at (Scalar kind text) = refl
  kind_within at (Array whole items) = refl
  kind_within at (Inline whole pairs) = refl

  -- a value and what is in it
  block : (v : Value) (line : ℕ) (role : Role) (at : Address) → ¬ IsAbove p at → (IsClear p at → inside line at (set_within p new at v) ≡ swapped p new (inside line at v))
      → value_named line role at (set_value p new at v) ∷ inside line at (set_value p new at v) ≡ swapped p new (value_named line role at v ∷ inside line at v)
  block v line role at not_above within = by (same_address at p) refl
    where
      m : Named
      m = value_named line role at v

      w : Value
      w = set_within p new at v

      by : (b : Bool) → same_address at p ≡ b → value_named line role at (cond b new w) ∷ inside line at (cond b new w)
          ≡ cond b (value_named line role p new ∷ inside line p new) (cond (is_above p at) [] (m ∷ [])) ++ swapped p new (inside line at v)
      by true same =
          let is : at ≡ p = same_is at p same in
          ap (λ a. value_named line role a new ∷ inside line a new) is
          ∙ sym (append-nil (value_named line role p new ∷ inside line p new))
          ∙ ap (λ l. (value_named line role p new ∷ inside line p new) ++ l) (sym (dropped (inside line at v) (subst (λ a. AllAbove a (inside line at v)) is (inside_is_below line v at))))
      by false other =
          let clear : IsClear p at = record { apart = λ is. true≢false (sym (subst (λ a. same_address a p ≡ true) is (self p)) ∙ other); not_above = not_above } in
          ap (λ l. value_named line role at w ∷ l) (within clear)
          ∙ ap (λ k. record { address = at; role = role; kind = k; line = line } ∷ swapped p new (inside line at v)) (kind_within at v)
          ∙ ap (λ l. l ++ swapped p new (inside line at v)) (sym (cond-false _ _ _ (above_false p at not_above)))

  -- ---- keys

  pub fronts_clear : (line : ℕ) (key : Key) (at : Address) → IsClear p at → AreValuesAt p (fronts line at key) → AreClear p (fronts line at key)
  fronts_clear line [] at clear values = tt
  fronts_clear line (n ∷ []) at clear values = tt
  fronts_clear line (n ∷ m ∷ more) at clear values =
      let here : IsClear p (child at n) = clear_more (Name n) clear (λ is. true≢false (sym (values.0 (sym is)))) in
      (here, fronts_clear line (m ∷ more) (child at n) here values.1)

  pub end_not_above : (line : ℕ) (ns : Key) (n : List ℕ) (at : Address) → IsClear p at → AreValuesAt p (fronts line at (n ∷ ns)) → ¬ IsAbove p (below at (n ∷ ns))
  end_not_above line [] n at clear values = not_above_next p at (Name n) clear
  end_not_above line (m ∷ ns) n at clear values =
      let here : IsClear p (child at n) = clear_more (Name n) clear (λ is. true≢false (sym (values.0 (sym is)))) in
      subst (λ a. ¬ IsAbove p a) (below-cons at n (m ∷ ns)) (end_not_above line ns m (child at n) here values.1)

  pair : (a : Assign) (v : Value) (line : ℕ) (at : Address) → IsClear p at → AreValuesAt p (pair_named line at a v)
      → ((to : Address) → IsClear p to → AreValuesAt p (inside line to v) → inside line to (set_within p new to v) ≡ swapped p new (inside line to v))
      → pair_named line at a (set_value p new (below at (key_names a.key)) v) ≡ swapped p new (pair_named line at a v)
  pair a v line at clear values within =
      let to = below at (key_names a.key) in
      let front = each_front _ (fronts line at (key_names a.key)) (value_named line Valued to v ∷ inside line to v) values in
      let rest = each_back _ (fronts line at (key_names a.key)) (value_named line Valued to v ∷ inside line to v) values in
      glue (fronts line at (key_names a.key)) (value_named line Valued to v ∷ inside line to v) (fronts line at (key_names a.key)) _
      (sym (kept (fronts line at (key_names a.key)) (fronts_clear line (key_names a.key) at clear front)))
      (block v line Valued to (end_not_above line (rest_names a.key.rest) (part_name a.key.first) at clear front) (λ here. within to here rest.1))

  mutual
    pub within_named : (v : Value) (line : ℕ) (at : Address) → IsClear p at → AreValuesAt p (inside line at v) → inside line at (set_within p new at v) ≡ swapped p new (inside line at v)
    within_named (Scalar kind text) line at clear values = refl
    within_named (Array whole items) line at clear values = items_named items line at 0 clear values
    within_named (Inline whole pairs) line at clear values = pairs_named pairs line at clear values

    items_named : (items : Items) (line : ℕ) (at : Address) (i : ℕ) → IsClear p at → AreValuesAt p (elements line at i items) → elements line at i (set_items p new at i items) ≡ swapped p new (elements line at i items)
    items_named (Close g) line at i clear values = refl
    items_named (Last g v h) line at i clear values = block v line Bare (element at i) (not_above_next p at (Index i) clear) (λ here. within_named v line (element at i) here values.1)
    items_named (More g v h is) line at i clear values =
        let here = element at i in
        glue (value_named line Bare here v ∷ inside line here v) (elements line at (i + 1) is) _ _
        (block v line Bare here (not_above_next p at (Index i) clear) (λ c. within_named v line here c (each_front _ (inside line here v) (elements line at (i + 1) is) values.1)))
        (items_named is line at (i + 1) clear (each_back _ (inside line here v) (elements line at (i + 1) is) values.1))

    pairs_named : (pairs : Pairs) (line : ℕ) (at : Address) → IsClear p at → AreValuesAt p (members line at pairs) → members line at (set_pairs p new at pairs) ≡ swapped p new (members line at pairs)
    pairs_named (ClosePairs g) line at clear values = refl
    pairs_named (LastPair g a v h) line at clear values = pair a v line at clear values (λ to c vs. within_named v line to c vs)
    pairs_named (MorePairs g a v h ps) line at clear values =
        glue (pair_named line at a v) (members line at ps) _ _
        (pair a v line at clear (each_front _ (pair_named line at a v) (members line at ps) values) (λ to c vs. within_named v line to c vs))
        (pairs_named ps line at clear (each_back _ (pair_named line at a v) (members line at ps) values))

  -- ---- lines

  pub record OneLine (xs ys : List Named) (n : ℕ) (e : Expr) : Type 0 where
    pub names : named_by ys n (set_expr p new (section xs) e) ≡ swapped p new (named_by xs n e)
    pub alike : AreAlike (xs ++ named_by xs n e) (ys ++ named_by ys n (set_expr p new (section xs) e))
    pub clear : IsClear p (section (xs ++ named_by xs n e))

  -- a line that stays as it is
  same_line : (xs ys : List Named) (n : ℕ) (e : Expr) → AreAlike xs ys → IsClear p (section xs) → set_expr p new (section xs) e ≡ e → AreClear p (named_by xs n e) → OneLine xs ys n e
  same_line xs ys n e alike clear is all =
      let same : named_by ys n (set_expr p new (section xs) e) ≡ named_by xs n e = ap (named_by ys n) is ∙ sym (alike_name_the_same xs ys alike n e) in
      record {
        names = same ∙ sym (kept (named_by xs n e) all);
        alike = subst (λ l. AreAlike (xs ++ named_by xs n e) (ys ++ l)) (sym same) (alike_stay_alike xs ys (named_by xs n e) alike);
        clear = subst (IsClear p) (sym (section_from-append xs (named_by xs n e) [])) (section_is_clear p (named_by xs n e) (section xs) clear all);
      }

  pub root_apart : (at : Address) → IsClear p at → ¬ (p ≡ [])
  root_apart [] c e = c.apart e
  root_apart (s ∷ at) c e = c.not_above (s, at, ap (λ l. l ++ s ∷ at) (sym e))

  pub one_line : (xs ys : List Named) (n : ℕ) (e : Expr) → AreAlike xs ys → IsClear p (section xs) → AreValuesAt p (xs ++ named_by xs n e) → OneLine xs ys n e
  one_line xs ys n (BlankLine b) alike clear values = same_line xs ys n (BlankLine b) alike clear refl tt
  one_line xs ys n (KeyValLine ws kv tail) alike clear values =
      let at = section xs in
      let to = below at (key_names kv.assign.key) in
      record {
        names =
            ap (λ s. pair_named n s kv.assign (set_value p new to kv.value)) (sym alike.sections)
            ∙ pair kv.assign kv.value n at clear (each_back _ xs (pair_named n at kv.assign kv.value) values) (λ here c vs. within_named kv.value n here c vs);
        alike = alike_pairs xs ys alike n n at (section ys) kv.assign kv.assign kv.value (set_value p new to kv.value);
        clear = subst (IsClear p) (sym (section_pair xs n at kv.assign kv.value)) clear;
      }
  one_line xs ys n (TableLine ws header tail) alike clear values =
      same_line xs ys n (TableLine ws header tail) alike clear refl (headers_are_clear p xs n (TableLine ws header tail) (root_apart (section xs) clear) tt values)
  one_line xs ys n (ArrayTableLine ws header tail) alike clear values =
      same_line xs ys n (ArrayTableLine ws header tail) alike clear refl (headers_are_clear p xs n (ArrayTableLine ws header tail) (root_apart (section xs) clear) tt values)

  all_lines : (ls : List Line) (xs ys : List Named) (n : ℕ) → AreAlike xs ys → ys ≡ swapped p new xs → IsClear p (section xs) → AreValuesAt p (named_from xs n ls)
      → named_from ys n (lines_from (set_line p new) xs n ls) ≡ swapped p new (named_from xs n ls)
  all_lines [] xs ys n alike is clear values = is
  all_lines (l ∷ ls) xs ys n alike is clear values =
      let one = one_line xs ys n l.expr alike clear (each_from _ ls (xs ++ named_by xs n l.expr) (n + 1) values) in
      all_lines ls (xs ++ named_by xs n l.expr) (ys ++ named_by ys n (set_expr p new (section xs) l.expr)) (n + 1) one.alike
      (glue xs (named_by xs n l.expr) ys (named_by ys n (set_expr p new (section xs) l.expr)) is one.names) one.clear values

pub set_names : SetNames
set_names p new lines apart values =
    all_lines p new lines (root ∷ []) (root ∷ []) 0 (alike_self (root ∷ [])) (sym (kept p new (root ∷ []) (clear_of_root p apart, tt))) (clear_of_root p apart) values

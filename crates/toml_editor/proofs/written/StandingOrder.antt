-- Under the table rules no line stands at the value of another, or in it.
use Rattle.std.proofs.Common.{◌≡◌, ◌⊎◌, inl, inr, ℕ, ◌+◌, Bool, true, false, ◌&&◌, Option, Some, None, List, [], ◌∷◌, ◌++◌, refl, sym, ap, ◌∙◌, subst, true≢false}
use Rattle.std.proofs.lemmas.Option.{same_Some}
use Rattle.toml_tree.specs.Bare.{fresh}
use Rattle.toml_tree.specs.Spells.{EachIs}
use Rattle.toml_tree.specs.Tree.{Value, Inline, ClosePairs, Expr, BlankLine, KeyValLine, TableLine, ArrayTableLine, Line}
use Rattle.toml_names.specs.declared.mentions.mention.Role.TheVariants.{Valued}
use Rattle.toml_names.specs.mentions.Clear.{AreValuesAt, IsClear}
use Rattle.toml_names.specs.mentions.Joining.{is_lone}
use Rattle.toml_names.specs.mentions.Keys.{Key, key_names, part_name, rest_names}
use Rattle.toml_names.specs.mentions.Mentions.{Named, named, named_by, named_from, root, section, entered, followed, fronts, ends_table, ends_tables, value_named, inside}
use Rattle.toml_names.specs.mentions.Rules.{KeepsRules}
use Rattle.toml_names.specs.model.Addresses.{Address, IsAbove, same_step, child, below}
use Rattle.toml_names.specs.reader.Names.{header_end, own_address}
use Rattle.toml_names.proofs.Proved.{clear_of_root, headers_are_clear, line_values_stand_alone, same_step-equal}
use Rattle.toml_units.specs.Units.{line_base}
use Rattle.toml_working.specs.Standing.{Standing, StandAlone, covers, covers_at, lies_below, line_stands, standing_from, standing}
use Rattle.toml_layout.specs.Beginnings.{begins}
use Rattle.toml_editor.specs.StandingLaws.{RulesOrder}
use Rattle.toml_editor.proofs.Each.{each_front, each_back, each_weaker}
use Rattle.toml_editor.proofs.written.Alike.{alike_self, each_from}
use Rattle.toml_editor.proofs.written.BlockFacts.{pairs_front, pairs_between}
use Rattle.toml_editor.proofs.written.KeptApart.{kept_apart}
use Rattle.toml_editor.proofs.written.Pairwise.{PairsAre, Has, Alone, all_of_pairs, any_of_has, has_append_left, has_append_right, has_weaker, from_has, pairs_of_all}
use Rattle.toml_editor.proofs.written.SetKept.{values_at}
use Rattle.toml_editor.proofs.written.SetNamed.{end_not_above, one_line, root_apart}

-- an address that begins another is that one, or above it
pub begins_is : (a b : Address) → begins a b ≡ true → (a ≡ b) ⊎ IsAbove a b
begins_is [] [] is = inl refl
begins_is [] (t ∷ b) is = inr (t, b, refl)
begins_is (s ∷ a) [] is = absurd (true≢false (sym is))
begins_is (s ∷ a) (t ∷ b) is = by (same_step s t) refl is (λ h. begins_is a b h)
  where
    more : s ≡ t → (a ≡ b) ⊎ IsAbove a b → (s ∷ a ≡ t ∷ b) ⊎ IsAbove (s ∷ a) (t ∷ b)
    more same (inl is) = inl (ap (λ x. x ∷ a) same ∙ ap (λ l. t ∷ l) is)
    more same (inr (u, rest, is)) = inr (u, rest, ap (λ l. t ∷ l) is ∙ ap (λ x. x ∷ (a ++ u ∷ rest)) (sym same))

    by : (c : Bool) → same_step s t ≡ c → (c && begins a b) ≡ true → (begins a b ≡ true → (a ≡ b) ⊎ IsAbove a b) → (s ∷ a ≡ t ∷ b) ⊎ IsAbove (s ∷ a) (t ∷ b)
    by true same is rest = more (same_step-equal s t same) (rest is)
    by false same is rest = absurd (true≢false (sym is))

-- ---- what a line is named by

-- the line's own mention, which is a value's where it has a key
abbrev Own : Option ℕ → Address → Named → Type 0
Own base a m = (m.address ≡ a) × (¬ (base ≡ None) → is_lone m.role ≡ true)

end_named : (ns : Key) (n : List ℕ) (line : ℕ) (xs : List Named) (e : Address → List Named) (at : Address) (P : Named → Type 0)
    → Has P (e (header_end xs at (n ∷ ns))) → Has P (followed line xs e at (n ∷ ns))
end_named [] n line xs e at P h = h
end_named (m ∷ ns) n line xs e at P h = inr (end_named ns m line xs e (entered xs (child at n)) P h)

own_named : (xs : List Named) (n : ℕ) (e : Expr) (a : Address) → own_address xs e ≡ Some a → Has (Own (line_base xs e) a) (named_by xs n e)
own_named xs n (BlankLine b) a is = cc
own_named xs n (KeyValLine ws pair tail) a is =
    let to = below (section xs) (key_names pair.assign.key) in
    has_append_right _ (fronts n (section xs) (key_names pair.assign.key)) (value_named n Valued to pair.value ∷ inside n to pair.value) (inl (same_Some _ _ is, (λ some. refl)))
own_named xs n (TableLine ws header tail) a is =
    end_named (rest_names header.key.rest) (part_name header.key.first) n xs (ends_table n) [] _ (inl (same_Some _ _ is, (λ some. absurd (some refl))))
own_named xs n (ArrayTableLine ws header tail) a is =
    end_named (rest_names header.key.rest) (part_name header.key.first) n xs (ends_tables n xs) [] _ (inr (inl (same_Some _ _ is, (λ some. absurd (some refl)))))

abbrev At : Option Address → (Address → Type 0) → Type 0
At None P = Unit {0}
At (Some a) P = P a

-- the own mention of each line stands among all
abbrev IsOwned : List Named → Standing → Type 0
IsOwned ms s = At s.address (λ a. Has (Own s.base a) ms)

own_at : (xs : List Named) (n : ℕ) (l : Line) (ms : List Named) → ((P : Named → Type 0) → Has P (named_by xs n l.expr) → Has P ms) → IsOwned ms (line_stands xs l)
own_at xs n l ms up = by (own_address xs l.expr) refl
  where
    by : (o : Option Address) → own_address xs l.expr ≡ o → At o (λ a. Has (Own (line_base xs l.expr) a) ms)
    by None is = tt
    by (Some a) is = up (Own (line_base xs l.expr) a) (own_named xs n l.expr a is)

has_from : (P : Named → Type 0) (ls : List Line) (xs : List Named) (n : ℕ) → Has P xs → Has P (named_from xs n ls)
has_from P [] xs n h = h
has_from P (l ∷ ls) xs n h = has_from P ls (xs ++ named_by xs n l.expr) (n + 1) (has_append_left P xs (named_by xs n l.expr) h)

all_owned : (ls : List Line) (xs : List Named) (n : ℕ) → EachIs (IsOwned (named_from xs n ls)) (standing_from xs n ls)
all_owned [] xs n = tt
all_owned (l ∷ ls) xs n = (
  own_at xs n l (named_from xs n (l ∷ ls)) (λ P h. has_from P ls (xs ++ named_by xs n l.expr) (n + 1) (has_append_right P xs (named_by xs n l.expr) h)),
  all_owned ls (xs ++ named_by xs n l.expr) (n + 1),
)

-- ---- two lines are not at one address, if one has a key and a value

abbrev Distinct : Standing → Standing → Type 0
Distinct s t = At s.address (λ a. At t.address (λ b. (¬ (s.base ≡ None)) ⊎ (¬ (t.base ≡ None)) → ¬ (a ≡ b)))

distinct : (s t : Standing) (xs ys : List Named) → IsOwned xs s → IsOwned ys t → EachIs (λ x. EachIs (Alone x) ys) xs → Distinct s t
distinct s t xs ys owned mine alone = by s.address t.address owned mine
  where
    by : (o p : Option Address) → At o (λ a. Has (Own s.base a) xs) → At p (λ b. Has (Own t.base b) ys)
        → At o (λ a. At p (λ b. (¬ (s.base ≡ None)) ⊎ (¬ (t.base ≡ None)) → ¬ (a ≡ b)))
    by None p h k = tt
    by (Some a) None h k = tt
    by (Some a) (Some b) h k = λ valued same.
        from_has (λ x. EachIs (Alone x) ys) (Own s.base a) ⊥
        (λ x each own. from_has (Alone x) (Own t.base b) ⊥
        (λ y together other.
        let apart = together (own.0 ∙ same ∙ sym other.0) in
        elim valued [ inl some ↦ true≢false (sym (own.1 some) ∙ apart.0) | inr some ↦ true≢false (sym (other.1 some) ∙ apart.1) ])
        ys each k)
        xs alone h

pairs_from : (R : Named → Named → Type 0) (ls : List Line) (xs : List Named) (n : ℕ) → PairsAre R (named_from xs n ls) → PairsAre R xs
pairs_from R [] xs n h = h
pairs_from R (l ∷ ls) xs n h = pairs_front R xs (named_by xs n l.expr) (pairs_from R ls (xs ++ named_by xs n l.expr) (n + 1) h)

later_distinct : (s : Standing) (ls : List Line) (xs : List Named) (n : ℕ) → IsOwned xs s → PairsAre Alone (named_from xs n ls)
    → EachIs (Distinct s) (standing_from xs n ls)
later_distinct s [] xs n owned alone = tt
later_distinct s (l ∷ ls) xs n owned alone =
    let new = named_by xs n l.expr in (
      distinct s (line_stands xs l) xs new owned (own_at xs n l new (λ P h. h)) (pairs_between Alone xs new (pairs_from Alone ls (xs ++ new) (n + 1) alone)),
      later_distinct s ls (xs ++ new) (n + 1) (on s.address owned) alone,
    )
  where
    on : (o : Option Address) → At o (λ a. Has (Own s.base a) xs) → At o (λ a. Has (Own s.base a) (xs ++ named_by xs n l.expr))
    on None h = tt
    on (Some a) h = has_append_left _ xs (named_by xs n l.expr) h

all_distinct : (ls : List Line) (xs : List Named) (n : ℕ) → PairsAre Alone (named_from xs n ls) → PairsAre Distinct (standing_from xs n ls)
all_distinct [] xs n alone = tt
all_distinct (l ∷ ls) xs n alone =
    let new = named_by xs n l.expr in (
      later_distinct (line_stands xs l) ls (xs ++ new) (n + 1) (own_at xs n l (xs ++ new) (λ P h. has_append_right P xs new h)) alone,
      all_distinct ls (xs ++ new) (n + 1) alone,
    )

-- ---- none stands below the value of a line

pub any_value : Value
any_value = Inline (fresh []) (ClosePairs (record { lines = []; ws = fresh [] }))

module _ (p : Address) where
  abbrev IsNotBelow : Standing → Type 0
  IsNotBelow t = At t.address (λ b. ¬ IsAbove p b)

  end_clear : (own : Address) (base : Option ℕ) (ms : List Named) → EachIs (λ m. IsClear p m.address) ms → Has (Own base own) ms → ¬ IsAbove p own
  end_clear own base ms clear has = from_has (λ m. IsClear p m.address) (Own base own) (¬ IsAbove p own) (λ m here is. subst (λ a. ¬ IsAbove p a) is.0 here.not_above) ms clear has

  one_not_below : (xs : List Named) (n : ℕ) (l : Line) → IsClear p (section xs) → AreValuesAt p (xs ++ named_by xs n l.expr) → IsNotBelow (line_stands xs l)
  one_not_below xs n l clear values = by l.expr (own_named xs n l.expr) (each_back _ xs (named_by xs n l.expr) values) values
    where
      headed : (e : Expr) (a : Address) → ((b : Address) → Some a ≡ Some b → Has (Own (line_base xs e) b) (named_by xs n e)) → EachIs (λ m. IsClear p m.address) (named_by xs n e) → ¬ IsAbove p a
      headed e a own all = end_clear a (line_base xs e) (named_by xs n e) all (own a refl)

      by : (e : Expr) → ((a : Address) → own_address xs e ≡ Some a → Has (Own (line_base xs e) a) (named_by xs n e)) → AreValuesAt p (named_by xs n e)
          → AreValuesAt p (xs ++ named_by xs n e) → At (own_address xs e) (λ b. ¬ IsAbove p b)
      by (BlankLine b) own here all = tt
      by (KeyValLine ws pair tail) own here all =
          end_not_above p any_value n (rest_names pair.assign.key.rest) (part_name pair.assign.key.first) (section xs) clear
          (each_front _ (fronts n (section xs) (key_names pair.assign.key)) _ here)
      by (TableLine ws header tail) own here all =
          headed (TableLine ws header tail) _ own (headers_are_clear p xs n (TableLine ws header tail) (root_apart p any_value (section xs) clear) tt all)
      by (ArrayTableLine ws header tail) own here all =
          headed (ArrayTableLine ws header tail) _ own (headers_are_clear p xs n (ArrayTableLine ws header tail) (root_apart p any_value (section xs) clear) tt all)

  none_below : (ls : List Line) (xs : List Named) (n : ℕ) → IsClear p (section xs) → AreValuesAt p (named_from xs n ls) → EachIs IsNotBelow (standing_from xs n ls)
  none_below [] xs n clear values = tt
  none_below (l ∷ ls) xs n clear values =
      let here = each_from _ ls (xs ++ named_by xs n l.expr) (n + 1) values in (
        one_not_below xs n l clear here,
        none_below ls (xs ++ named_by xs n l.expr) (n + 1) (one_line p any_value xs xs n l.expr (alike_self xs) clear here).clear values,
      )

-- ---- both together

-- the second does not stand below the value of the first
abbrev IsNotUnder : Standing → Standing → Type 0
IsNotUnder s t = At s.address (λ a. ¬ (s.base ≡ None) → IsNotBelow a t)

square : {A : Type 0} (R : A → A → Type 0) (xs : List A) → EachIs (λ s. EachIs (R s) xs) xs → PairsAre (λ s t. R s t × R t s) xs
square R [] h = tt
square R (x ∷ xs) h = (
  each_both xs h.0.1 h.1,
  square R xs (each_weaker (λ s. EachIs (R s) (x ∷ xs)) (λ s. EachIs (R s) xs) (λ s k. k.1) xs h.1),
)
  where
    each_both : (ys : List _) → EachIs (R x) ys → EachIs (λ s. EachIs (R s) (x ∷ xs)) ys → EachIs (λ t. R x t × R t x) ys
    each_both [] a b = tt
    each_both (y ∷ ys) a b = ((a.0, b.0.0), each_both ys a.1 b.1)

not_covers : (s t : Standing) → IsNotUnder s t → At s.address (λ a. At t.address (λ b. ¬ (s.base ≡ None) → ¬ (a ≡ b))) → covers s t ≡ false
not_covers s t under apart = by s.base s.address under apart
  where
    no : (a b : Address) (v : Bool) → begins a b ≡ v → ¬ IsAbove a b → ¬ (a ≡ b) → v ≡ false
    no a b false is above same = refl
    no a b true is above same = absurd (elim (begins_is a b is) [ inl e ↦ same e | inr e ↦ above e ])

    below : (a : Address) (p : Option Address) → At p (λ b. ¬ IsAbove a b) → At p (λ b. ¬ (a ≡ b)) → lies_below a p ≡ false
    below a None under apart = refl
    below a (Some b) under apart = no a b (begins a b) refl under apart

    apart_at : (a : Address) (n : ℕ) (p : Option Address) → At p (λ b. ¬ (◌≡◌ {A = Option ℕ} (Some n) None) → ¬ (a ≡ b)) → At p (λ b. ¬ (a ≡ b))
    apart_at a n None h = tt
    apart_at a n (Some b) h = h (λ e. cc)

    by : (base : Option ℕ) (o : Option Address) → At o (λ a. ¬ (base ≡ None) → At t.address (λ b. ¬ IsAbove a b))
        → At o (λ a. At t.address (λ b. ¬ (base ≡ None) → ¬ (a ≡ b))) → covers_at base o t ≡ false
    by None o under apart = refl
    by (Some n) None under apart = refl
    by (Some n) (Some a) under apart = below a t.address (under (λ e. cc)) (apart_at a n t.address apart)

both_ways : (s t : Standing) → Distinct s t → IsNotUnder s t × IsNotUnder t s → (covers s t ≡ false) × (covers t s ≡ false)
both_ways s t apart under = (
  not_covers s t under.0 (there s.address t.address apart),
  not_covers t s under.1 (back s.address t.address apart),
)
  where
    there : (o p : Option Address) → At o (λ a. At p (λ b. (¬ (s.base ≡ None)) ⊎ (¬ (t.base ≡ None)) → ¬ (a ≡ b))) → At o (λ a. At p (λ b. ¬ (s.base ≡ None) → ¬ (a ≡ b)))
    there None p h = tt
    there (Some a) None h = tt
    there (Some a) (Some b) h = λ some. h (inl some)

    back : (o p : Option Address) → At o (λ a. At p (λ b. (¬ (s.base ≡ None)) ⊎ (¬ (t.base ≡ None)) → ¬ (a ≡ b))) → At p (λ b. At o (λ a. ¬ (t.base ≡ None) → ¬ (b ≡ a)))
    back None None h = tt
    back None (Some b) h = tt
    back (Some a) None h = tt
    back (Some a) (Some b) h = λ some same. h (inr some) (sym same)

-- a line with a key and a value, among all
not_under : (lines : List Line) → KeepsRules (named lines) → (s : Standing) → IsOwned (named lines) s → At s.address (λ a. ¬ (s.base ≡ None) → ¬ (a ≡ [])) → EachIs (IsNotUnder s) (standing lines)
not_under lines keeps s owned some = by s.address owned some (standing lines) (λ a below. below)
  where
    by : (o : Option Address) → At o (λ a. Has (Own s.base a) (named lines)) → At o (λ a. ¬ (s.base ≡ None) → ¬ (a ≡ [])) → (ts : List Standing)
        → ((a : Address) → EachIs (IsNotBelow a) (standing lines) → EachIs (IsNotBelow a) ts) → EachIs (λ t. At o (λ a. ¬ (s.base ≡ None) → IsNotBelow a t)) ts
    by None h apart ts sub = each_all ts
      where
        each_all : (ts : List Standing) → EachIs (λ t. Unit {0}) ts
        each_all [] = tt
        each_all (t ∷ ts) = (tt, each_all ts)
    by (Some a) h apart ts sub = given s.base refl
      where
        given : (base : Option ℕ) → s.base ≡ base → EachIs (λ t. ¬ (s.base ≡ None) → IsNotBelow a t) ts
        given None is = each_weaker (λ t. Unit {0}) _ (λ t u valued. absurd (valued is)) ts (nothing ts)
          where
            nothing : (ts : List Standing) → EachIs (λ t. Unit {0}) ts
            nothing [] = tt
            nothing (t ∷ ts) = (tt, nothing ts)
        given (Some n) is =
            let valued : ¬ (s.base ≡ None) = λ none. let e : ◌≡◌ {A = Option ℕ} (Some n) None = sym is ∙ none in cc in
            let there = any_of_has _ (named lines) (has_weaker _ _ (λ m own. (own.0, own.1 valued)) (named lines) h) in
            each_weaker (IsNotBelow a) (λ t. ¬ (s.base ≡ None) → IsNotBelow a t) (λ t not some. not) ts
            (sub a (none_below a lines (root ∷ []) 0 (clear_of_root a (apart valued)) (values_at a lines there keeps)))

-- the address of a value has a step at least
abbrev HasStep : Standing → Type 0
HasStep s = At s.address (λ a. ¬ (s.base ≡ None) → ¬ (a ≡ []))

some_step : (at : Address) (n : List ℕ) (key : Key) → ¬ (below at (n ∷ key) ≡ [])
some_step [] n key is = cc
some_step (s ∷ at) n key is = cc

has_step : (xs : List Named) (e : Expr) → At (own_address xs e) (λ a. ¬ (line_base xs e ≡ None) → ¬ (a ≡ []))
has_step xs (BlankLine b) = tt
has_step xs (KeyValLine ws pair tail) = λ some. some_step (section xs) (part_name pair.assign.key.first) (rest_names pair.assign.key.rest)
has_step xs (TableLine ws header tail) = λ some. absurd (some refl)
has_step xs (ArrayTableLine ws header tail) = λ some. absurd (some refl)

have_steps : (ls : List Line) (xs : List Named) (n : ℕ) → EachIs HasStep (standing_from xs n ls)
have_steps [] xs n = tt
have_steps (l ∷ ls) xs n = (has_step xs l.expr, have_steps ls (xs ++ named_by xs n l.expr) (n + 1))

stand_alone : (lines : List Line) → KeepsRules (named lines) → StandAlone (standing lines)
stand_alone lines keeps =
    let alone = pairs_of_all Alone (named lines) (line_values_stand_alone lines keeps) in
    let owned = all_owned lines (root ∷ []) 0 in
    let under = each_two (IsOwned (named lines)) HasStep (λ s. EachIs (IsNotUnder s) (standing lines)) (λ s own some. not_under lines keeps s own some)
    (standing lines) owned (have_steps lines (root ∷ []) 0) in
    all_of_pairs _ (standing lines) (two (standing lines) (all_distinct lines (root ∷ []) 0 alone) (square IsNotUnder (standing lines) under))
  where
    each_two : {A : Type 0} (P Q R : A → Type 0) → ((x : A) → P x → Q x → R x) → (xs : List A) → EachIs P xs → EachIs Q xs → EachIs R xs
    each_two P Q R f [] p q = tt
    each_two P Q R f (x ∷ xs) p q = (f x p.0 q.0, each_two P Q R f xs p.1 q.1)

    two : (ss : List Standing) → PairsAre Distinct ss → PairsAre (λ s t. IsNotUnder s t × IsNotUnder t s) ss
        → PairsAre (λ s t. (covers s t ≡ false) × (covers t s ≡ false)) ss
    two [] p q = tt
    two (s ∷ ss) p q = (each_two (Distinct s) (λ t. IsNotUnder s t × IsNotUnder t s) _ (both_ways s) ss p.0 q.0, two ss p.1 q.1)

pub rules_order : RulesOrder
rules_order lines keeps = record { alone = stand_alone lines keeps; apart = kept_apart lines keeps }

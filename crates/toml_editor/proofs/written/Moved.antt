-- Addresses once a name is another.
use Rattle.std.proofs.Common.{◌≡◌, ℕ, ◌+◌, ◌&&◌, Bool, true, false, cond, List, [], ◌∷◌, ◌++◌, length, refl, sym, ap, ap₂, ◌∙◌, subst, true≢false}
use Rattle.toml_names.specs.declared.model.address.Step.{Step}
use Rattle.toml_names.specs.declared.model.address.Step.TheVariants.{Name, Index}
use Rattle.toml_names.specs.model.Addresses.{Address, same_step, same_address, child}
use Rattle.toml_names.specs.mentions.Clear.{IsClear}
use Rattle.toml_names.proofs.Proved.{same_step-equal}
use Rattle.toml_editor.specs.RenameLaws.{moved}
use Rattle.toml_editor.proofs.written.Clear.{same_is, self}
use Rattle.toml_editor.proofs.written.SetKept.{clear_under}

longer : (at : Address) (s : Step) → same_address (at ++ s ∷ []) [] ≡ false
longer [] s = refl
longer (t ∷ at) s = refl

shorter : (q : Address) (s : Step) → same_address [] (q ++ s ∷ []) ≡ false
shorter [] s = refl
shorter (t ∷ q) s = refl

module _ (n to : List ℕ) where
  pub moved_root : (q : Address) → moved q n to [] ≡ []
  moved_root [] = refl
  moved_root (s ∷ q) = refl

  pub moved_name : (q at : Address) (m : List ℕ) → moved q n to (at ++ Name m ∷ []) ≡ moved q n to at ++ Name (cond (same_address (at ++ Name m ∷ []) (q ++ Name n ∷ [])) to m) ∷ []
  moved_name [] [] m = by (same_step (Name m) (Name n))
    where
      by : (b : Bool) → cond b (Name to ∷ []) (Name m ∷ []) ≡ Name (cond (b && true) to m) ∷ []
      by true = refl
      by false = refl
  moved_name [] (t ∷ at) m = by (same_step t (Name n)) (same_address (at ++ Name m ∷ []) []) (longer at (Name m))
    where
      by : (b c : Bool) → c ≡ false → cond b (Name to ∷ at ++ Name m ∷ []) (t ∷ at ++ Name m ∷ []) ≡ cond b (Name to ∷ at) (t ∷ at) ++ Name (cond (b && c) to m) ∷ []
      by true true is = absurd (true≢false is)
      by true false is = refl
      by false c is = refl
  moved_name (s ∷ q) [] m = by (same_step (Name m) s) (same_address [] (q ++ Name n ∷ [])) (shorter q (Name n)) (moved q n to []) (moved_root q)
    where
      by : (b c : Bool) → c ≡ false → (r : Address) → r ≡ [] → cond b (Name m ∷ r) (Name m ∷ []) ≡ Name (cond (b && c) to m) ∷ []
      by true true is r e = absurd (true≢false is)
      by true false is r e = ap (λ x. Name m ∷ x) e
      by false c is r e = refl
  moved_name (s ∷ q) (t ∷ at) m = by (same_step t s) (same_address (at ++ Name m ∷ []) (q ++ Name n ∷ [])) (moved_name q at m)
    where
      by : (b c : Bool) → moved q n to (at ++ Name m ∷ []) ≡ moved q n to at ++ Name (cond c to m) ∷ []
          → cond b (t ∷ moved q n to (at ++ Name m ∷ [])) (t ∷ at ++ Name m ∷ []) ≡ cond b (t ∷ moved q n to at) (t ∷ at) ++ Name (cond (b && c) to m) ∷ []
      by true c more = ap (λ x. t ∷ x) more
      by false c more = refl

  pub moved_index : (q at : Address) (i : ℕ) → moved q n to (at ++ Index i ∷ []) ≡ moved q n to at ++ Index i ∷ []
  moved_index [] [] i = refl
  moved_index [] (t ∷ at) i = by (same_step t (Name n))
    where
      by : (b : Bool) → cond b (Name to ∷ at ++ Index i ∷ []) (t ∷ at ++ Index i ∷ []) ≡ cond b (Name to ∷ at) (t ∷ at) ++ Index i ∷ []
      by true = refl
      by false = refl
  moved_index (s ∷ q) [] i = by (same_step (Index i) s) (moved q n to []) (moved_root q)
    where
      by : (b : Bool) (r : Address) → r ≡ [] → cond b (Index i ∷ r) (Index i ∷ []) ≡ Index i ∷ []
      by true r e = ap (λ x. Index i ∷ x) e
      by false r e = refl
  moved_index (s ∷ q) (t ∷ at) i = by (same_step t s) (moved_index q at i)
    where
      by : (b : Bool) → moved q n to (at ++ Index i ∷ []) ≡ moved q n to at ++ Index i ∷ []
          → cond b (t ∷ moved q n to (at ++ Index i ∷ [])) (t ∷ at ++ Index i ∷ []) ≡ cond b (t ∷ moved q n to at) (t ∷ at) ++ Index i ∷ []
      by true more = ap (λ x. t ∷ x) more
      by false more = refl

  clear_tail : (s t : Step) (p a : Address) → t ≡ s → IsClear (s ∷ p) (t ∷ a) → IsClear p a
  clear_tail s t p a is clear = record {
    apart = λ e. clear.apart (ap₂ (λ x y. x ∷ y) (sym is) e);
    not_above = λ above. clear.not_above (above.0, above.1, ap₂ (λ x y. x ∷ y) is above.2);
  }

  -- where nothing is at the new name, no two addresses are moved to one
  pub moved_apart : (q a b : Address) → IsClear (child q to) a → IsClear (child q to) b → moved q n to a ≡ moved q n to b → a ≡ b
  moved_apart [] [] [] ca cb e = refl
  moved_apart [] [] (u ∷ b) ca cb e = by (same_step u (Name n)) e
    where
      by : (c : Bool) → [] ≡ cond c (Name to ∷ b) (u ∷ b) → [] ≡ u ∷ b
      by true e = cc
      by false e = cc
  moved_apart [] (t ∷ a) [] ca cb e = by (same_step t (Name n)) e
    where
      by : (c : Bool) → cond c (Name to ∷ a) (t ∷ a) ≡ [] → t ∷ a ≡ []
      by true e = cc
      by false e = cc
  moved_apart [] (t ∷ a) (u ∷ b) ca cb e = by (same_step t (Name n)) refl (same_step u (Name n)) refl e
    where
      by : (c : Bool) → same_step t (Name n) ≡ c → (d : Bool) → same_step u (Name n) ≡ d → cond c (Name to ∷ a) (t ∷ a) ≡ cond d (Name to ∷ b) (u ∷ b) → t ∷ a ≡ u ∷ b
      by true x true y e = let tail : a ≡ b = cc in ap₂ (λ r l. r ∷ l) (same_step-equal t (Name n) x ∙ sym (same_step-equal u (Name n) y)) tail
      by true x false y e = absurd (clear_under (Name to ∷ []) (u ∷ b) cb (a, sym e))
      by false x true y e = absurd (clear_under (Name to ∷ []) (t ∷ a) ca (b, e))
      by false x false y e = e
  moved_apart (s ∷ q) [] [] ca cb e = refl
  moved_apart (s ∷ q) [] (u ∷ b) ca cb e = by (same_step u s) e
    where
      by : (c : Bool) → [] ≡ cond c (u ∷ moved q n to b) (u ∷ b) → [] ≡ u ∷ b
      by true e = cc
      by false e = cc
  moved_apart (s ∷ q) (t ∷ a) [] ca cb e = by (same_step t s) e
    where
      by : (c : Bool) → cond c (t ∷ moved q n to a) (t ∷ a) ≡ [] → t ∷ a ≡ []
      by true e = cc
      by false e = cc
  moved_apart (s ∷ q) (t ∷ a) (u ∷ b) ca cb e = by (λ x y r. moved_apart q a b x y r) (same_step t s) refl (same_step u s) refl e
    where
      differs : (v w : Step) → v ≡ w → same_step v s ≡ true → same_step w s ≡ false → ⊥
      differs v w is x y = true≢false (sym x ∙ ap (λ z. same_step z s) is ∙ y)

      by : (IsClear (child q to) a → IsClear (child q to) b → moved q n to a ≡ moved q n to b → a ≡ b) → (c : Bool) → same_step t s ≡ c → (d : Bool) → same_step u s ≡ d
          → cond c (t ∷ moved q n to a) (t ∷ a) ≡ cond d (u ∷ moved q n to b) (u ∷ b) → t ∷ a ≡ u ∷ b
      by more true x true y e =
          let head : t ≡ u = cc in
          let tail : moved q n to a ≡ moved q n to b = cc in
          ap₂ (λ r l. r ∷ l) head (more (clear_tail s t (child q to) a (same_step-equal t s x) ca) (clear_tail s u (child q to) b (same_step-equal u s y) cb) tail)
      by more true x false y e = let head : t ≡ u = cc in absurd (differs t u head x y)
      by more false x true y e = let head : u ≡ t = cc in absurd (differs u t head y x)
      by more false x false y e = e

  pub moved_same : (q a b : Address) → IsClear (child q to) a → IsClear (child q to) b → same_address (moved q n to a) (moved q n to b) ≡ same_address a b
  moved_same q a b ca cb = by (same_address (moved q n to a) (moved q n to b)) refl (same_address a b) refl
    where
      by : (c : Bool) → same_address (moved q n to a) (moved q n to b) ≡ c → (d : Bool) → same_address a b ≡ d → c ≡ d
      by true x true y = refl
      by false x false y = refl
      by true x false y = absurd (true≢false (sym (subst (λ z. same_address a z ≡ true) (moved_apart q a b ca cb (same_is _ _ x)) (self a)) ∙ y))
      by false x true y = absurd (true≢false (sym (subst (λ z. same_address (moved q n to a) (moved q n to z) ≡ true) (same_is a b y) (self (moved q n to a))) ∙ x))

  pub moved_length : (q a : Address) → length (moved q n to a) ≡ length a
  moved_length [] [] = refl
  moved_length [] (t ∷ a) = by (same_step t (Name n))
    where
      by : (b : Bool) → length (cond b (Name to ∷ a) (t ∷ a)) ≡ length (t ∷ a)
      by true = refl
      by false = refl
  moved_length (s ∷ q) [] = refl
  moved_length (s ∷ q) (t ∷ a) = by (same_step t s) (moved_length q a)
    where
      by : (b : Bool) → length (moved q n to a) ≡ length a → length (cond b (t ∷ moved q n to a) (t ∷ a)) ≡ length (t ∷ a)
      by true more = ap Rattle.std.proofs.Common.suc more
      by false more = refl

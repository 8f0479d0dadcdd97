-- Facts that move while some addresses, which are hidden, keep theirs: the hidden facts may be left out, and put back after.
use Rattle.std.proofs.Common.{◌≡◌, inl, inr, ◌++◌, Option, Some, None, Bool, true, false, true≢false, cond, refl, sym, ap, ◌∙◌}
use Rattle.std.proofs.lemmas.Option.{same_Some, none-some}
use Rattle.toml_names.specs.model.Addresses.{Address}
use Rattle.toml_names.specs.model.Data.{Kinds}
use Rattle.toml_names.specs.model.Hidden.{Cover, near, beside}
use Rattle.toml_names.specs.mentions.Mentions.{Kind}
use Rattle.toml_edits.specs.After.{Comes, Moves}
use Rattle.toml_edits.specs.Carry.{Carrier}

-- the carrier leaves what is hidden where it is, and brings nothing else there
pub record Leaves (h : Cover) (c : Carrier) : Type 0 where
  pub stays : (a : Address) → h a ≡ true → c a ≡ Some a
  pub apart : (a b : Address) → h b ≡ false → c b ≡ Some a → h a ≡ false

-- nothing of the value is placed where it is hidden
abbrev pub IsPlacedApart : Cover → Address → Kinds → Type 0
IsPlacedApart h p v = (r : Address) (k : Kind) → v r ≡ Some k → h (p ++ r) ≡ false

-- the two have the same where nothing is hidden
abbrev pub Agree : Cover → Kinds → Kinds → Type 0
Agree h f g = (a : Address) → h a ≡ false → f a ≡ g a

pub shown_at : (h : Cover) (f : Kinds) (a : Address) → h a ≡ false → near h f a ≡ f a
shown_at h f a is = ap (λ b. cond b None (f a)) is

pub shown_not : (h : Cover) (f : Kinds) (a : Address) → h a ≡ true → near h f a ≡ None
shown_not h f a is = ap (λ b. cond b None (f a)) is

pub joined_old : (h : Cover) (f g : Kinds) (a : Address) → h a ≡ true → beside h f g a ≡ f a
joined_old h f g a is = ap (λ b. cond b (f a) (g a)) is

pub joined_new : (h : Cover) (f g : Kinds) (a : Address) → h a ≡ false → beside h f g a ≡ g a
joined_new h f g a is = ap (λ b. cond b (f a) (g a)) is

-- what is shown is not hidden, and stands there
pub seen : (h : Cover) (f : Kinds) (a : Address) (k : Kind) → near h f a ≡ Some k → (h a ≡ false) × (f a ≡ Some k)
seen h f a k have = by (h a) refl
  where
    by : (b : Bool) → h a ≡ b → (h a ≡ false) × (f a ≡ Some k)
    by true is = absurd (none-some k (sym (shown_not h f a is) ∙ have))
    by false is = (is, sym (shown_at h f a is) ∙ have)

-- what comes from where it is hidden comes to the same address
same_hidden : (h : Cover) (c : Carrier) → Leaves h c → (a b : Address) → h b ≡ true → c b ≡ Some a → b ≡ a
same_hidden h c l a b is to = same_Some b a (sym (l.stays b is) ∙ to)

module _ (h : Cover) (c : Carrier) (p : Address) (v : Kinds) (l : Leaves h c) (apart : IsPlacedApart h p v) where
  -- what comes to where nothing is hidden comes from there
  from_shown : (f : Kinds) (a : Address) (k : Kind) → h a ≡ false → Comes c p v f a k → Comes c p v (near h f) a k
  from_shown f a k low (inr w) = inr w
  from_shown f a k low (inl w) = by (h w.0) refl
    where
      by : (b : Bool) → h w.0 ≡ b → Comes c p v (near h f) a k
      by true is = absurd (true≢false (sym is ∙ ap h (same_hidden h c l a w.0 is w.2) ∙ low))
      by false is = inl (w.0, shown_at h f w.0 is ∙ w.1, w.2)

  -- what comes to where it is hidden was there
  from_hidden : (f : Kinds) (a : Address) (k : Kind) → h a ≡ true → Comes c p v f a k → f a ≡ Some k
  from_hidden f a k high (inr w) = absurd (true≢false (sym high ∙ ap h w.1 ∙ apart w.0 k w.2))
  from_hidden f a k high (inl w) = by (h w.0) refl
    where
      by : (b : Bool) → h w.0 ≡ b → f a ≡ Some k
      by true is = ap f (sym (same_hidden h c l a w.0 is w.2)) ∙ w.1
      by false is = absurd (true≢false (sym high ∙ l.apart a w.0 is w.2))

  pub moves_shown : (f g : Kinds) → Moves c p v f g → Moves c p v (near h f) (near h g)
  moves_shown f g m = record {
    carried = λ a b k have to. let s = seen h f b k have in shown_at h g a (l.apart a b s.0 to) ∙ m.carried a b k s.1 to;
    placed = λ r k have. shown_at h g (p ++ r) (apart r k have) ∙ m.placed r k have;
    no_other = λ a k have. let s = seen h g a k have in from_shown f a k s.0 (m.no_other a k s.1);
  }

  carried_joined : (f g : Kinds) → Moves c p v (near h f) g → (a b : Address) (k : Kind) → f b ≡ Some k → c b ≡ Some a → beside h f g a ≡ Some k
  carried_joined f g m a b k have to = by (h b) refl
    where
      by : (t : Bool) → h b ≡ t → beside h f g a ≡ Some k
      by true is = let same = same_hidden h c l a b is to in joined_old h f g a (ap h (sym same) ∙ is) ∙ ap f (sym same) ∙ have
      by false is = joined_new h f g a (l.apart a b is to) ∙ m.carried a b k (shown_at h f b is ∙ have) to

  from_more : (f : Kinds) (a : Address) (k : Kind) → Comes c p v (near h f) a k → Comes c p v f a k
  from_more f a k (inr w) = inr w
  from_more f a k (inl w) = inl (w.0, (seen h f w.0 k w.1).1, w.2)

  others_joined : (f g : Kinds) → Moves c p v (near h f) g → (a : Address) (k : Kind) → beside h f g a ≡ Some k → Comes c p v f a k
  others_joined f g m a k have = by (h a) refl
    where
      by : (t : Bool) → h a ≡ t → Comes c p v f a k
      by true is = inl (a, sym (joined_old h f g a is) ∙ have, l.stays a is)
      by false is = from_more f a k (m.no_other a k (sym (joined_new h f g a is) ∙ have))

  pub moves_joined : (f g : Kinds) → Moves c p v (near h f) g → Moves c p v f (beside h f g)
  moves_joined f g m = record {
    carried = carried_joined f g m;
    placed = λ r k have. joined_new h f g (p ++ r) (apart r k have) ∙ m.placed r k have;
    no_other = others_joined f g m;
  }

  -- what is hidden is as it was
  pub moves_keep : (f g : Kinds) → Moves c p v f g → (a : Address) → h a ≡ true → g a ≡ f a
  moves_keep f g m a high = by (g a) refl (f a) refl
    where
      by : (new : Option Kind) → g a ≡ new → (old : Option Kind) → f a ≡ old → g a ≡ f a
      by (Some k) is old was = is ∙ sym (from_hidden f a k high (m.no_other a k is))
      by None is None was = is ∙ sym was
      by None is (Some k) was = m.carried a a k was (l.stays a high) ∙ sym was

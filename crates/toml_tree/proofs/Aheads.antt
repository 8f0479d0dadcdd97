-- An array or an inline table that was read ends ahead of where it begins.
use Rattle.std.proofs.Common.{◌≡◌, ℕ, suc, true, Option, Some, sym, refl, ap, ◌∙◌, subst}
use Rattle.std.specs.Prelude.{IfSome}
use Rattle.std.proofs.lemmas.Bool.{cond-true}
use Rattle.toml_text.specs.Runs.{begins, is_byte}
use Rattle.toml_tree.specs.Tree.{Value, Array, Inline, Items, Pairs}
use Rattle.toml_tree.specs.Spells.{joined, value_parts}
use Rattle.toml_tree.specs.Reading.{Cursor, ahead, up_to}
use Rattle.toml_tree.specs.ReadingValues.{items_at, array_at, pairs_at, may_end, inline_at, value_at}
use Rattle.toml_tree.specs.Stands.{IsAhead}
use Rattle.toml_tree.specs.declared.profile.Profile.{Profile}
use Rattle.toml_tree.proofs.Spans.{spans_joined}
use Rattle.toml_tree.proofs.SoundValues.{ValueIs, array_sound, inline_sound, value_sound}

value_ahead : (p : Profile) (n : ℕ) (c : Cursor) (o : Option (Value × Cursor)) → IfSome o (ValueIs p n c) → (v : Value) (d : Cursor) → o ≡ Some (v, d) → IsAhead c d
value_ahead p n c o sound v d read =
    let k : ValueIs p n c (v, d) = subst (λ x. IfSome x (ValueIs p n c)) read sound in
    (joined (value_parts v), spans_joined (value_parts v) c d k.2)

module _ (p : Profile) (n : ℕ) (c m d : Cursor) where
  pub array_ahead : (is : Items) → begins (is_byte 0x5B) c.rest ≡ true → m ≡ ahead 1 c → items_at (value_at p n) m ≡ Some (is, d) → IsAhead c d
  unfolding array_at
  array_ahead is opened behind read =
      let all : array_at (value_at p n) c ≡ Some (Array (up_to d c) is, d) = cond-true _ _ _ opened ∙ rw (ap (items_at (value_at p n)) (sym behind) ∙ read) refl in
      value_ahead p (suc n) c (array_at (value_at p n) c) (array_sound p n (value_sound p n) c) (Array (up_to d c) is) d all

  pub inline_ahead : (ps : Pairs) → begins (is_byte 0x7B) c.rest ≡ true → m ≡ ahead 1 c → pairs_at p (value_at p n) m ≡ Some (ps, d) → may_end p ps ≡ true → IsAhead c d
  unfolding inline_at
  inline_ahead ps opened behind read ends =
      let all : inline_at p (value_at p n) c ≡ Some (Inline (up_to d c) ps, d) = cond-true _ _ _ opened ∙ rw (ap (pairs_at p (value_at p n)) (sym behind) ∙ read) (cond-true _ _ _ ends) in
      value_ahead p (suc n) c (inline_at p (value_at p n) c) (inline_sound p n (value_sound p n) c) (Inline (up_to d c) ps) d all

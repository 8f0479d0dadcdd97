-- A block put into a list: its two parts are the first list's, and each of its members is in it.
use Rattle.std.proofs.Common.{◌⊎◌, inl, inr, List, ◌++◌, sym, subst}
use Rattle.toml_tree.specs.Spells.{EachIs}
use Rattle.toml_names.specs.mentions.Mentions.{Named}
use Rattle.toml_editor.specs.Blocks.{IsPut}
use Rattle.toml_editor.proofs.Each.{each_append, each_front, each_back}
pub use Rattle.toml_editor.proofs.written.Pairwise.{pairs_front, pairs_back, pairs_between}
use Rattle.toml_editor.proofs.written.Pairwise.{Has, has_append_left, has_append_right, has_parts}

module _ (old block new : List Named) (put : IsPut old block new) where
  pub each_put : (P : Named → Type 0) → EachIs P old → EachIs P block → EachIs P new
  each_put P h k =
      let parts = subst (EachIs P) put.before h in
      subst (EachIs P) (sym put.after) (each_append P put.front (block ++ put.back) (each_front P put.front put.back parts) (each_append P block put.back k (each_back P put.front put.back parts)))

  pub has_old : (P : Named → Type 0) → Has P old → Has P new
  has_old P h =
      subst (Has P) (sym put.after)
      (elim (has_parts P put.front put.back (subst (Has P) put.before h)) [
        | inl a ↦ has_append_left P put.front (block ++ put.back) a
        | inr b ↦ has_append_right P put.front (block ++ put.back) (has_append_right P block put.back b)
      ])

  pub has_block : (P : Named → Type 0) → Has P block → Has P new
  has_block P h = subst (Has P) (sym put.after) (has_append_right P put.front (block ++ put.back) (has_append_left P block put.back h))

  pub has_new : (P : Named → Type 0) → Has P new → Has P old ⊎ Has P block
  has_new P h =
      elim (has_parts P put.front (block ++ put.back) (subst (Has P) put.after h)) [
        | inl a ↦ inl (subst (Has P) (sym put.before) (has_append_left P put.front put.back a))
        | inr b ↦ elim (has_parts P block put.back b) [ inl c ↦ inr c | inr d ↦ inl (subst (Has P) (sym put.before) (has_append_right P put.front put.back d)) ]
      ]

  -- the old list, from the new one
  pub each_old : (P : Named → Type 0) → EachIs P new → EachIs P old
  each_old P h =
      let parts = subst (EachIs P) put.after h in
      subst (EachIs P) (sym put.before) (each_append P put.front put.back (each_front P put.front (block ++ put.back) parts) (each_back P block put.back (each_back P put.front (block ++ put.back) parts)))

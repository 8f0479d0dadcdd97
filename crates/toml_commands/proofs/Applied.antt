-- The edited text is that of the edit list.
use Rattle.std.proofs.Common.{◌≡◌, inl, inr, ℕ, List, [], ◌∷◌, Result, Ok, Err, refl, sym, subst}
use Rattle.std.proofs.lemmas.Result.{IfOk-weaker}
use Rattle.std.specs.Prelude.{IfErr, IfOk}
use Rattle.std.specs.declared.alloc.AllocError.{AllocError}
use Rattle.toml_tree.specs.declared.profile.Profile.{Profile}
use Rattle.toml_edits.specs.EditList.{IsEditList}
use Rattle.toml_edits.specs.Edits.{Change}
use Rattle.toml_units.specs.Certificates.{certificate_of}
use Rattle.toml_editor.specs.Edited.{IsEditedWith}
use Rattle.toml_layout.specs.declared.layout.Layout.{Layout}
use Rattle.toml_commands.specs.Apply.{Applies, IsListApplied}
use Rattle.toml_commands.specs.Edit.{IsUnedited}
use Rattle.toml_delivery.specs.Outcomes.{Answers, Ends, Gives, IsGood, Tells, texts_of}
use Rattle.toml_delivery.specs.declared.ending.Ending.{Ending}
use Rattle.toml_delivery.specs.declared.ending.Ending.TheVariants as ends
use Rattle.toml_delivery.specs.declared.outcome.Answer.{Answer}
use Rattle.toml_delivery.specs.declared.outcome.Outcome.{Outcome}
use Rattle.toml_delivery.specs.declared.refusal.Refusal.{Refusal}

pub applied : (layout : Layout) (profile : Profile) (before edits : List ℕ) (cs : List Change) (text : List ℕ) (pairs : List (ℕ × ℕ)) (a : Answer) → IsEditList edits cs
    → IsEditedWith layout profile before cs text pairs → a.out.items ≡ text → texts_of a.files.items ≡ certificate_of pairs ∷ [] → IsGood (IsListApplied layout profile before edits) a
applied layout profile before edits cs text pairs a listed is printed written =
    subst (λ t. IsListApplied layout profile before edits t (texts_of a.files.items)) (sym printed)
    (certificate_of pairs, record { changes = cs; listed = listed; made = record { pairs = pairs; edited = is; written = refl } }, written)

module _ (layout : Layout) (profile : Profile) (before edits : List ℕ) where
  printed : (a : Answer) → IsGood (IsListApplied layout profile before edits) a → (o : Outcome) → Gives a.out.items (texts_of a.files.items) o → Applies layout profile before edits o
  printed a good o gives =
      let made = good.1.made in
      inr (good.1.changes, good.1.listed, inl (a.out.items, good.0, made, subst (λ (ts : List (List ℕ)). Gives a.out.items ts o) good.2 gives))

  told : (r : Refusal) → IsUnedited layout profile before edits r → (o : Outcome) → Tells r o → Applies layout profile before edits o
  told r (inl bad) o tells = inl (r, bad, tells)
  told r (inr is) o tells = inr (is.changes, is.listed, inr (r, is.unmade, tells))

  -- what the command comes to
  pub comes : (answer : Result Answer Ending) (result : Result Outcome AllocError) → IfOk answer (IsGood (IsListApplied layout profile before edits))
      → IfErr answer (Ends (IsUnedited layout profile before edits)) → IfOk result (Answers answer) → IfOk result (Applies layout profile before edits)
  comes (Ok a) result good bad = IfOk-weaker result (Gives a.out.items (texts_of a.files.items)) (Applies layout profile before edits) (printed a good)
  comes (Err (ends.Refused r)) result good bad = IfOk-weaker result (Tells r) (Applies layout profile before edits) (told r bad)
  comes (Err ends.NoMemory) result good bad = IfOk-weaker result (λ o. ⊥) (Applies layout profile before edits) (λ o none. absurd none)

-- What the steps of a command with one edit come to.
use Rattle.std.proofs.Common.{◌≡◌, ℕ, List, [], ◌∷◌, inl, inr, Result, Ok, Err, refl, sym, subst}
use Rattle.std.proofs.lemmas.Result.{IfOk-weaker}
use Rattle.std.specs.Prelude.{IfErr, IfOk}
use Rattle.std.specs.declared.alloc.AllocError.{AllocError}
use Rattle.toml_tree.specs.declared.profile.Profile.{Profile}
use Rattle.toml_edits.specs.Edits.{Change}
use Rattle.toml_units.specs.Certificates.{certificate_of}
use Rattle.toml_editor.specs.Edited.{IsEditedWith, TellsWith}
use Rattle.toml_layout.specs.declared.layout.Layout.{Layout}
use Rattle.toml_places.specs.declared.place.PlaceStep.{PlaceStep}
use Rattle.toml_places.specs.Reads.{IsPlace}
use Rattle.toml_one.specs.Kept.{Keeps}
use Rattle.toml_one.specs.Wishes.{Wished}
use Rattle.toml_commands.specs.Edit.{IsUnmade}
use Rattle.toml_commands.specs.One.{AreWished, IsMadeAt, IsUnmadeAt, MakesWish}
use Rattle.toml_delivery.specs.Outcomes.{Answers, Ends, Gives, IsGood, Tells, texts_of}
use Rattle.toml_commands.specs.Refusals.{IsRefused}
use Rattle.toml_commands.specs.Get.{IsBadPlace}
use Rattle.toml_delivery.specs.declared.ending.Ending.{Ending}
use Rattle.toml_delivery.specs.declared.ending.Ending.TheVariants.{Refused, NoMemory}
use Rattle.toml_delivery.specs.declared.outcome.Answer.{Answer}
use Rattle.toml_delivery.specs.declared.outcome.Outcome.{Outcome}
use Rattle.toml_delivery.specs.declared.refusal.Refusal.{Refusal}
use Rattle.toml_commands.proofs.FirstEdits.{kept_makes, kept_tells}

module _ (layout : Layout) (profile : Profile) (before place : List ℕ) (wish : Wished) where
  pub no_place : (e : Ending) → Ends (IsBadPlace place) e → Ends (IsUnmadeAt layout profile before place wish) e
  no_place (Refused r) is = inl is
  no_place NoMemory is = tt

  module _ (steps : List PlaceStep) (spelled : IsPlace place steps) where
    pub no_document : (e : Ending) → Ends (IsRefused profile before) e → Ends (IsUnmadeAt layout profile before place wish) e
    no_document (Refused r) is = inr (inl (steps, spelled, is))
    no_document NoMemory is = tt

    module _ (cs : List Change) (kept : Keeps (AreWished profile before steps wish) cs) where
      refused : (r : Refusal) → (stands : IsUnmade layout profile before cs r)
          → ((all : List Change) × AreWished profile before steps wish all × TellsWith layout profile before all stands.fault) → IsUnmadeAt layout profile before place wish r
      refused r is (all, wished, told) =
          inr (inr (record { steps = steps; spelled = spelled; changes = all; wished = wished; unmade = record { fault = is.fault; told = told; stands = is.stands } }))

      pub unmade_at : (e : Ending) → Ends (IsUnmade layout profile before cs) e → Ends (IsUnmadeAt layout profile before place wish) e
      unmade_at (Refused r) is = refused r is (kept_tells layout profile before (AreWished profile before steps wish) cs kept is.fault is.told)
      unmade_at NoMemory is = tt

      module _ (text : List ℕ) (pairs : List (ℕ × ℕ)) (a : Answer) (out : a.out.items ≡ text) (written : texts_of a.files.items ≡ certificate_of pairs ∷ []) where
        made : ((all : List Change) × AreWished profile before steps wish all × IsEditedWith layout profile before all text pairs) → IsGood (IsMadeAt layout profile before place wish) a
        made (all, wished, is) =
            subst (λ t. IsMadeAt layout profile before place wish t (texts_of a.files.items)) (sym out)
            (record {
              steps = steps;
              spelled = spelled;
              changes = all;
              wished = wished;
              certificate = certificate_of pairs;
              made = record { pairs = pairs; edited = is; written = refl };
              files = written;
            })

      pub made_at : (text : List ℕ) (pairs : List (ℕ × ℕ)) (a : Answer) → IsEditedWith layout profile before cs text pairs → a.out.items ≡ text
          → texts_of a.files.items ≡ certificate_of pairs ∷ [] → IsGood (IsMadeAt layout profile before place wish) a
      made_at text pairs a is out written =
          made text pairs a out written (kept_makes layout profile before (AreWished profile before steps wish) cs kept text pairs is)

  printed : (a : Answer) → IsGood (IsMadeAt layout profile before place wish) a → (o : Outcome) → Gives a.out.items (texts_of a.files.items) o
      → MakesWish layout profile before place wish o
  printed a good o gives = inr (
    good.steps,
    good.spelled,
    inr (
      good.changes,
      good.wished,
      inl (
        a.out.items,
        good.certificate,
        good.made,
        subst (λ (ts : List (List ℕ)). Gives a.out.items ts o) good.files gives,
      ),
    ),
  )

  told : (r : Refusal) → IsUnmadeAt layout profile before place wish r → (o : Outcome) → Tells r o → MakesWish layout profile before place wish o
  told r (inl bad) o tells = inl (r, bad, tells)
  told r (inr (inl (steps, spelled, refused))) o tells = inr (steps, spelled, inl (r, refused, tells))
  told r (inr (inr is)) o tells = inr (is.steps, is.spelled, inr (is.changes, is.wished, inr (r, is.unmade, tells)))

  -- what the command comes to
  pub comes : (answer : Result Answer Ending) (result : Result Outcome AllocError) → IfOk answer (IsGood (IsMadeAt layout profile before place wish))
      → IfErr answer (Ends (IsUnmadeAt layout profile before place wish)) → IfOk result (Answers answer) → IfOk result (MakesWish layout profile before place wish)
  comes (Ok a) result good bad = IfOk-weaker result (Gives a.out.items (texts_of a.files.items)) (MakesWish layout profile before place wish) (printed a good)
  comes (Err (Refused r)) result good bad = IfOk-weaker result (Tells r) (MakesWish layout profile before place wish) (told r bad)
  comes (Err NoMemory) result good bad = IfOk-weaker result (λ o. ⊥) (MakesWish layout profile before place wish) (λ o none. absurd none)

-- What `edit` prints where all edits are plain.
use Rattle.std.proofs.Common.{◌≡◌, ◌≤◌, inl, inr, ℕ, List, [], ◌∷◌, length, Result, Ok, Err, ap, subst}
use Rattle.std.specs.Prelude.{codes}
use Rattle.toml_text.specs.Limit.{max_len}
use Rattle.toml_tree.specs.declared.profile.Profile.{Profile}
use Rattle.toml_names.specs.model.Data.{Kinds}
use Rattle.toml_edits.specs.EditList.{IsEditList}
use Rattle.toml_edits.specs.Edits.{Change}
use Rattle.toml_edits.proofs.Proved.{one_edit_list, bad_list_is_none}
use Rattle.toml_editor.specs.Edited as editor
use Rattle.toml_editor.specs.PlainAnswers.{PlainSoFar}
use Rattle.toml_layout.specs.declared.layout.Layout.TheVariants.{Plain}
use Rattle.toml_editor.specs.declared.fault.EditorFault.{EditorFault}
use Rattle.toml_editor.specs.declared.fault.EditorFault.TheVariants as faults
use Rattle.toml_editor.proofs.Proved.{plain_is_answered}
use Rattle.toml_commands.specs.Edit.{AreEdited, Edits, IsEditorEnding, IsUnedited, PlainIsPrinted}
use Rattle.toml_delivery.specs.Outcomes.{Gives}
use Rattle.toml_delivery.specs.declared.ending.Ending.TheVariants.{Refused}
use Rattle.toml_delivery.specs.declared.outcome.Outcome.{Outcome}
use Rattle.toml_delivery.specs.declared.refusal.Refusal.{Refusal}

module _ (profile : Profile) (before list : List ℕ) (cs : List Change) (after : List ℕ) (now : Kinds) (listed : IsEditList list cs)
    (so_far : PlainSoFar Plain profile before cs (length cs) after now) (short : length after ≤ max_len) where
  -- the edited text is that which they write
  text_is : (text : List ℕ) (pairs : List (ℕ × ℕ)) → editor.IsEdited profile before cs text pairs → text ≡ after
  text_is text pairs is = elim (plain_is_answered Plain profile before cs after now so_far short (Ok (text, pairs)) is) [
    | inl made ↦ ap got made.1
    | inr none ↦ cc
  ]
    where
      got : Result (List ℕ × List (ℕ × ℕ)) EditorFault → List ℕ
      got (Ok answer) = answer.0
      got (Err fault) = []

  -- nothing but want of memory is told
  is_memory : (fault : EditorFault) → editor.Tells profile before cs fault → fault ≡ faults.NoMemory
  is_memory fault told = elim (plain_is_answered Plain profile before cs after now so_far short (Err fault) told) [
    | inl made ↦ (let e : Err fault ≡ Ok (after, made.0) = made.1 in cc)
    | inr memory ↦ cc
  ]

  no_refusal : (r : Refusal) → IsUnedited Plain profile before list r → ⊥
  no_refusal r (inl (inl no_list)) = no_list.2 listed.0 listed.1
  no_refusal r (inl (inr bad)) = bad_list_is_none list bad.1 r.place cs bad.2 bad.3 listed
  no_refusal r (inr h) =
      let same : h.changes ≡ cs = one_edit_list list h.changes cs h.listed listed in
      let memory = is_memory h.unmade.fault (subst (λ ds. editor.Tells profile before ds h.unmade.fault) same h.unmade.told) in
      let e = subst (λ f. IsEditorEnding f (Refused r)) memory h.unmade.stands in
      cc

  printed : (o : Outcome) → Edits profile before list o
      → (certificate : List ℕ) × AreEdited Plain profile before list after certificate × Gives (codes "ok\n") (after ∷ certificate ∷ []) o
  printed o (inl (r, bad, tells)) = absurd (no_refusal r (inl bad))
  printed o (inr (ds, also, inl (text, certificate, made, gives))) =
      let same : ds ≡ cs = one_edit_list list ds cs also listed in
      let is = text_is text made.pairs (subst (λ es. editor.IsEdited profile before es text made.pairs) same made.edited) in
      let edited : AreEdited Plain profile before list text certificate = record { changes = ds; listed = also; made = made } in (
        certificate,
        subst (λ t. AreEdited Plain profile before list t certificate) is edited,
        subst (λ t. Gives (codes "ok\n") (t ∷ certificate ∷ []) o) is gives,
      )
  printed o (inr (ds, also, inr (r, unmade, tells))) = absurd (no_refusal r (inr (record { changes = ds; listed = also; unmade = unmade })))

pub plain_is_printed : PlainIsPrinted
plain_is_printed profile before edits cs after now listed so_far short o = printed profile before edits cs after now listed so_far short o

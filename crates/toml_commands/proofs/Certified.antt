-- What is refused by `certify` has no certificate, and what `edit` writes has the one that it writes.
use Rattle.toml_tree.specs.declared.profile.Profile.{Profile}
use Rattle.std.proofs.Common.{◌≡◌, ◌<◌, ◌^◌, inl, inr, ℕ, List, [], ◌∷◌, Result, Ok, Err, length, sym, ap, subst, ◌∙◌}
use Rattle.std.proofs.lemmas.Result.{IfOk-weaker}
use Rattle.std.specs.Prelude.{IfErr, IfOk, codes}
use Rattle.std.specs.declared.alloc.AllocError.{AllocError}
use Rattle.toml_edits.specs.EditList.{IsEditList}
use Rattle.toml_edits.specs.Edits.{Change}
use Rattle.toml_edits.proofs.Proved.{one_edit_list, bad_list_is_none}
use Rattle.toml_units.specs.Certificates.{certificate_of}
use Rattle.toml_checker.specs.Findings.{IsCertificate, IsFirstUnmet}
use Rattle.toml_checker.proofs.Proved.{found_is_met, one_certificate}
use Rattle.toml_commands.specs.Certify.{CertifiedMeans, Certifies, EditedIsCertified, FoundMeans, LacksCertificate, IsCertified, IsCertifying, IsUncertified}
use Rattle.toml_layout.specs.declared.layout.Layout.TheVariants.{Plain}
use Rattle.toml_commands.specs.Edit.{AreEdited}
use Rattle.toml_commands.specs.EditLists.{IsListRefusal}
use Rattle.toml_delivery.specs.Outcomes.{Answers, Ends, Gives, Tells, texts_of}
use Rattle.toml_delivery.specs.declared.ending.Ending.{Ending}
use Rattle.toml_delivery.specs.declared.ending.Ending.TheVariants as ends
use Rattle.toml_delivery.specs.declared.outcome.Answer.{Answer}
use Rattle.toml_delivery.specs.declared.outcome.Outcome.{Outcome}
use Rattle.toml_delivery.specs.declared.refusal.Refusal.{Refusal}

no_zero : ◌≡◌ {A = ℕ} 0 1 → ⊥
no_zero e = cc

module _ (profile : Profile) (before edits after : List ℕ) where
  no_list : (r : Refusal) → IsListRefusal edits r → (certificate : List ℕ) → ¬ IsCertified profile before edits after certificate
  no_list r (inl (code, place, none)) certificate v = none v.listed.0 v.listed.1
  no_list r (inr (code, ds, list, bad)) certificate v = bad_list_is_none edits ds r.place v.changes list bad v.listed

  no_demand : (r : Refusal) → LacksCertificate profile before edits after r → (certificate : List ℕ) → ¬ IsCertified profile before edits after certificate
  no_demand r f certificate v =
      let same : f.changes ≡ v.changes = one_edit_list edits f.changes v.changes f.listed v.listed in
      let first : IsFirstUnmet profile before v.changes after f.reason = subst (λ (cs : List Change). IsFirstUnmet profile before cs after f.reason) same f.first in
      found_is_met profile before after v.changes v.pairs f.reason v.shown first

  pub uncertified : (r : Refusal) → IsUncertified profile before edits after r → (certificate : List ℕ) → ¬ IsCertified profile before edits after certificate
  uncertified r (inl h) = no_list r h
  uncertified r (inr h) = no_demand r h

  -- what the command comes to
  pub comes : (answer : Result Answer Ending) (result : Result Outcome AllocError) → IfOk answer (IsCertifying profile before edits after)
      → IfErr answer (Ends (IsUncertified profile before edits after)) → IfOk result (Answers answer) → IfOk result (Certifies profile before edits after)
  comes (Ok a) result good bad =
      IfOk-weaker result (Gives a.out.items (texts_of a.files.items)) (Certifies profile before edits after)
      (λ o gives. inl (good.1, good.3, subst (λ (t : List ℕ). Gives t (good.1 ∷ []) o) good.0 (subst (λ (ts : List (List ℕ)). Gives a.out.items ts o) good.2 gives)))
  comes (Err (ends.Refused r)) result good bad =
      IfOk-weaker result (Tells r) (Certifies profile before edits after) (λ o tells. inr (uncertified r bad, r, bad, tells))
  comes (Err ends.NoMemory) result good bad = IfOk-weaker result (λ o. ⊥) (Certifies profile before edits after) (λ o none. absurd none)

  -- what its status 0 means
  pub means : (answer : Result Answer Ending) (result : Result Outcome AllocError) → IfOk answer (FoundMeans profile before edits after)
      → IfOk result (Answers answer) → IfOk result (CertifiedMeans profile before edits after)
  means (Ok a) result found =
      IfOk-weaker result (Gives a.out.items (texts_of a.files.items)) (CertifiedMeans profile before edits after)
      (λ o gives zero. record { changes = found.changes; listed = found.listed; pairs = found.pairs; told = gives.files ∙ found.told; headline = found.headline })
  means (Err (ends.Refused r)) result found = IfOk-weaker result (Tells r) (CertifiedMeans profile before edits after) (λ o tells zero. absurd (no_zero (sym zero ∙ tells.status)))
  means (Err ends.NoMemory) result found = IfOk-weaker result (λ o. ⊥) (CertifiedMeans profile before edits after) (λ o none. absurd none)

  -- there is one certificate
  one_text : (c d : List ℕ) → ((cs : List Change) → IsEditList edits cs → length cs < 2 ^ 63) → IsCertified profile before edits after c → IsCertified profile before edits after d → c ≡ d
  one_text c d few v w =
      let same : w.changes ≡ v.changes = one_edit_list edits w.changes v.changes w.listed v.listed in
      let shown : IsCertificate profile before v.changes after w.pairs = subst (λ (cs : List Change). IsCertificate profile before cs after w.pairs) same w.shown in
      let pairs : v.pairs ≡ w.pairs =
      one_certificate profile before after v.changes v.pairs w.pairs (few v.changes v.listed) v.shown.outermost shown.outermost v.shown.certified shown.certified in
      v.written ∙ (ap certificate_of pairs ∙ sym w.written)

  -- what the editor writes is certified by its own
  written : (certificate : List ℕ) → AreEdited Plain profile before edits after certificate → IsCertified profile before edits after certificate
  written certificate e = record {
    changes = e.changes;
    listed = e.listed;
    pairs = e.made.pairs;
    shown = record { certified = e.made.edited.certified; outermost = e.made.edited.outer };
    written = e.made.written;
  }

  gives : (certificate : List ℕ) → ((cs : List Change) → IsEditList edits cs → length cs < 2 ^ 63) → AreEdited Plain profile before edits after certificate → (o : Outcome) → Certifies profile before edits after o
      → Gives (codes "yes\n") (certificate ∷ []) o
  gives certificate few e o (inl (found, is, given)) =
      subst (λ (t : List ℕ). Gives (codes "yes\n") (t ∷ []) o) (one_text found certificate few is (written certificate e)) given
  gives certificate few e o (inr (none, r, why, tells)) = absurd (none certificate (written certificate e))

pub edited_is_certified : EditedIsCertified
edited_is_certified profile before edits text certificate few e o certifies = gives profile before edits text certificate few e o certifies

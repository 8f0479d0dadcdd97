-- What is refused by `verify` is not verified.
use Rattle.toml_tree.specs.declared.profile.Profile.{Profile}
use Rattle.std.proofs.Common.{◌≡◌, inl, inr, ℕ, List, Result, Ok, Err, Vec, Global, sym, subst, ◌∙◌}
use Rattle.std.proofs.lemmas.Result.{IfOk-weaker}
use Rattle.std.specs.Prelude.{IfErr, IfOk, codes}
use Rattle.std.specs.declared.alloc.AllocError.{AllocError}
use Rattle.toml_edits.specs.Edits.{Change}
use Rattle.toml_edits.proofs.Proved.{one_edit_list, bad_list_is_none}
use Rattle.toml_units.proofs.Proved.{one_certificate}
use Rattle.toml_units.specs.Certificates.{IsCertificate}
use Rattle.toml_checker.specs.Demands.{IsVerdict}
use Rattle.toml_checker.specs.declared.verdict.Reason.{Reason}
use Rattle.toml_checker.specs.declared.verdict.Verdict.{Verdict}
use Rattle.toml_checker.specs.declared.verdict.Verdict.TheVariants.{Yes, No}
use Rattle.toml_checker.proofs.Proved.{one_verdict}
use Rattle.toml_delivery.specs.Outcomes.{ComesTo, Ends, Prints, Tells}
use Rattle.toml_commands.specs.EditLists.{IsListRefusal}
use Rattle.toml_commands.specs.Verify.{FailsDemand, HasHeadline, IsUnverified, IsVerified, VerifiedMeans, Verifies}
use Rattle.toml_delivery.specs.declared.ending.Ending.{Ending}
use Rattle.toml_delivery.specs.declared.ending.Ending.TheVariants as ends
use Rattle.toml_delivery.specs.declared.outcome.Outcome.{Outcome}
use Rattle.toml_delivery.specs.declared.refusal.Refusal.{Refusal}

no_yes : (reason : Reason) → ◌≡◌ {A = Verdict} Yes (No reason) → ⊥
no_yes reason e = cc

no_zero : ◌≡◌ {A = ℕ} 0 1 → ⊥
no_zero e = cc

module _ (profile : Profile) (before edits after cert : List ℕ) where
  no_list : (r : Refusal) → IsListRefusal edits r → ¬ IsVerified profile before edits after cert
  no_list r (inl (code, place, none)) v = none v.listed.0 v.listed.1
  no_list r (inr (code, ds, list, bad)) v = bad_list_is_none edits ds r.place v.changes list bad v.listed

  no_demand : (r : Refusal) → FailsDemand profile before edits after cert r → ¬ IsVerified profile before edits after cert
  no_demand r f v =
      let changes : f.changes ≡ v.changes = one_edit_list edits f.changes v.changes f.listed v.listed in
      let pairs : f.pairs ≡ v.pairs = one_certificate f.pairs v.pairs (sym f.certificate.1 ∙ v.certificate.1) in
      let first : IsVerdict profile before v.changes after v.pairs (No f.reason) =
      subst (λ (ps : List (ℕ × ℕ)). IsVerdict profile before v.changes after ps (No f.reason)) pairs (subst (λ (cs : List Change). IsVerdict profile before cs after f.pairs (No f.reason)) changes f.first) in
      no_yes f.reason (one_verdict profile before after v.changes v.pairs Yes (No f.reason) v.certified first)

  pub unverified : (r : Refusal) → IsUnverified profile before edits after cert r → ¬ IsVerified profile before edits after cert
  unverified r (inl h) = no_list r h
  unverified r (inr (inl (cs, listed, (code, place, none)))) = λ v. none v.pairs v.certificate
  unverified r (inr (inr h)) = no_demand r h

  -- what the command comes to
  pub comes : (answer : Result (Vec ℕ Global) Ending) (result : Result Outcome AllocError)
      → IfOk answer (λ text. IsVerified profile before edits after cert × (text.items ≡ codes "yes\n")) → IfErr answer (Ends (IsUnverified profile before edits after cert))
      → IfOk result (ComesTo answer) → IfOk result (Verifies profile before edits after cert)
  comes (Ok text) result good bad =
      IfOk-weaker result (Prints text.items) (Verifies profile before edits after cert) (λ o prints. inl (good.0, subst (λ (t : List ℕ). Prints t o) good.1 prints))
  comes (Err (ends.Refused r)) result good bad =
      IfOk-weaker result (Tells r) (Verifies profile before edits after cert) (λ o tells. inr (unverified r bad, r, bad, tells))
  comes (Err ends.NoMemory) result good bad = IfOk-weaker result (λ o. ⊥) (Verifies profile before edits after cert) (λ o none. absurd none)

  -- what its status 0 means
  pub means : (answer : Result (Vec ℕ Global) Ending) (result : Result Outcome AllocError)
      → IfOk answer (λ text. HasHeadline profile before edits after (IsCertificate cert)) → IfOk result (ComesTo answer) → IfOk result (VerifiedMeans profile before edits after cert)
  means (Ok text) result headline = IfOk-weaker result (Prints text.items) (VerifiedMeans profile before edits after cert) (λ o prints zero. headline)
  means (Err (ends.Refused r)) result headline = IfOk-weaker result (Tells r) (VerifiedMeans profile before edits after cert) (λ o tells zero. absurd (no_zero (sym zero ∙ tells.status)))
  means (Err ends.NoMemory) result headline = IfOk-weaker result (λ o. ⊥) (VerifiedMeans profile before edits after cert) (λ o none. absurd none)

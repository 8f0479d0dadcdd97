-- All demands together, and that there is one verdict.
use Rattle.toml_tree.specs.declared.profile.Profile.{Profile}
use Rattle.std.proofs.Common.{◌≡◌, ◌⊎◌, inl, inr, ℕ, ◌<◌, Bool, true, false, List, [], ◌∷◌, Some, refl, sym, ap, ◌∙◌, arith}
use Rattle.std.proofs.lemmas.Bool.Decides.{nat_tests}
use Rattle.std.proofs.lemmas.Option.{same_Some}
use Rattle.std.specs.Bool.{nat_lt}
use Rattle.std.specs.Prelude.{slice_get}
use Rattle.toml_edits.specs.Edits.{Change}
use Rattle.toml_checker.specs.declared.verdict.Reason.{Reason}
use Rattle.toml_checker.specs.declared.verdict.Reason.TheVariants.{BeforeRefused, AfterRefused, EditsRefused, OtherData, BadPair, Lost, Unasked, NewComment, NotTheSame}
use Rattle.toml_checker.specs.declared.verdict.Verdict.TheVariants.{Yes, No}
use Rattle.toml_checker.specs.Demands.{Demand, Certified, rank}
use Rattle.toml_checker.specs.Laws.{CertifiedIsAllDemands, OneVerdict}

demanded : (profile : Profile) (before after : List ℕ) (cs : List Change) (ps : List (ℕ × ℕ)) → Certified profile before cs after ps → (r : Reason) → Demand profile r before cs after ps
demanded profile before after cs ps c BeforeRefused = c.old
demanded profile before after cs ps c AfterRefused = c.new
demanded profile before after cs ps c EditsRefused = c.defined
demanded profile before after cs ps c OtherData = c.facts
demanded profile before after cs ps c BadPair = c.pairs
demanded profile before after cs ps c Lost = c.kept
demanded profile before after cs ps c Unasked = c.lines
demanded profile before after cs ps c NewComment = c.comments
demanded profile before after cs ps c NotTheSame = c.frame

pub certified_is_all_demands : CertifiedIsAllDemands
certified_is_all_demands profile before after cs ps = (
  demanded profile before after cs ps,
  (λ h. record { old = h BeforeRefused; new = h AfterRefused; defined = h EditsRefused; facts = h OtherData; pairs = h BadPair; kept = h Lost; lines = h Unasked; comments = h NewComment; frame = h NotTheSame }),
)

abbrev in_order : List Reason
in_order = BeforeRefused ∷ AfterRefused ∷ EditsRefused ∷ OtherData ∷ BadPair ∷ Lost ∷ Unasked ∷ NewComment ∷ NotTheSame ∷ []

at_rank : (r : Reason) → slice_get in_order (rank r) ≡ Some r
at_rank BeforeRefused = refl
at_rank AfterRefused = refl
at_rank EditsRefused = refl
at_rank OtherData = refl
at_rank BadPair = refl
at_rank Lost = refl
at_rank Unasked = refl
at_rank NewComment = refl
at_rank NotTheSame = refl

pub same_rank : (r q : Reason) → rank r ≡ rank q → r ≡ q
same_rank r q e = same_Some r q (sym (at_rank r) ∙ ap (slice_get in_order) e ∙ at_rank q)

which : (m n : ℕ) → (m < n) ⊎ (n < m) ⊎ (m ≡ n)
which m n = by (nat_lt m n) (nat_lt n m) refl refl
  where
    by : (a b : Bool) → nat_lt m n ≡ a → nat_lt n m ≡ b → (m < n) ⊎ (n < m) ⊎ (m ≡ n)
    by true b e f = inl (grind (arith, nat_tests))
    by false true e f = inr (inl (grind (arith, nat_tests)))
    by false false e f = inr (inr (grind (arith, nat_tests)))

pub one_verdict : OneVerdict
one_verdict profile before after cs ps Yes Yes v w = refl
one_verdict profile before after cs ps Yes (No q) v w = absurd (w.0 (demanded profile before after cs ps v q))
one_verdict profile before after cs ps (No r) Yes v w = absurd (v.0 (demanded profile before after cs ps w r))
one_verdict profile before after cs ps (No r) (No q) v w = by (which (rank r) (rank q))
  where
    by : (rank r < rank q) ⊎ (rank q < rank r) ⊎ (rank r ≡ rank q) → No r ≡ No q
    by (inl lt) = absurd (v.0 (w.1 r lt))
    by (inr (inl lt)) = absurd (w.0 (v.1 q lt))
    by (inr (inr e)) = ap No (same_rank r q e)

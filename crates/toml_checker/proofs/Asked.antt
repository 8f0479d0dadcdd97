-- The demands, one after the other.
use Rattle.toml_tree.specs.declared.profile.Profile.{Profile}
use Rattle.std.proofs.Common.{◌≡◌, ◌⊎◌, inl, inr, ℕ, ◌+◌, ◌<◌, Bool, true, false, List, refl, sym, ◌∙◌, subst, true≢false, arith}
use Rattle.std.proofs.lemmas.Bool.Decides.{nat_tests}
use Rattle.std.specs.Bool.{nat_lt}
use Rattle.std.specs.Prelude.{◌↔◌, IsTrue}
use Rattle.toml_tree.specs.Spells.{Spells}
use Rattle.toml_tree.specs.Tree.{Doc}
use Rattle.toml_tree.proofs.Proved.{one_tree}
use Rattle.toml_edits.specs.Edits.{Change}
use Rattle.toml_checker.specs.declared.verdict.Reason.{Reason}
use Rattle.toml_checker.specs.declared.verdict.Reason.TheVariants.{BeforeRefused, AfterRefused, EditsRefused, OtherData, BadPair, Lost, Unasked, NewComment, NotTheSame}
use Rattle.toml_checker.specs.declared.verdict.Verdict.TheVariants.{No}
use Rattle.toml_checker.specs.Demands.{Demand, Certified, rank, IsVerdict}
use Rattle.toml_checker.specs.Documents.{OfTree}
use Rattle.toml_checker.specs.Judging.{HoldBelow}
use Rattle.toml_checker.proofs.Verdicts.{certified_is_all_demands, same_rank}

pub none_below : (profile : Profile) (before after : List ℕ) (cs : List Change) (ps : List (ℕ × ℕ)) → HoldBelow profile 0 before cs after ps
none_below profile before after cs ps = λ r low. absurd (omega (arith, low))

at_most : (m n : ℕ) → m < n + 1 → (m < n) ⊎ (n ≡ m)
at_most m n h = by (nat_lt m n) refl
  where
    by : (b : Bool) → nat_lt m n ≡ b → (m < n) ⊎ (n ≡ m)
    by true e = inl (grind (arith, nat_tests))
    by false e = let le : n ≡ m = grind (arith, nat_tests) in inr le

-- one demand more holds
pub holds : (profile : Profile) (r : Reason) (before after : List ℕ) (cs : List Change) (ps : List (ℕ × ℕ)) → HoldBelow profile (rank r) before cs after ps → Demand profile r before cs after ps → HoldBelow profile (rank r + 1) before cs after ps
holds profile r before after cs ps h d = λ q low. by q (at_most (rank q) (rank r) low)
  where
    by : (q : Reason) → (rank q < rank r) ⊎ (rank r ≡ rank q) → Demand profile q before cs after ps
    by q (inl lt) = h q lt
    by q (inr e) = subst (λ (x : Reason). Demand profile x before cs after ps) (same_rank r q e) d

pub passes : (profile : Profile) (r : Reason) (before after : List ℕ) (cs : List Change) (ps : List (ℕ × ℕ)) (found : Bool) → HoldBelow profile (rank r) before cs after ps → IsTrue found ↔ Demand profile r before cs after ps → found ≡ true → HoldBelow profile (rank r + 1) before cs after ps
passes profile r before after cs ps found h test is = holds profile r before after cs ps h (test.0 is)

-- or is the first that does not
pub fails : (profile : Profile) (r : Reason) (before after : List ℕ) (cs : List Change) (ps : List (ℕ × ℕ)) (found : Bool) → HoldBelow profile (rank r) before cs after ps → IsTrue found ↔ Demand profile r before cs after ps → found ≡ false → IsVerdict profile before cs after ps (No r)
fails profile r before after cs ps found h test is = ((λ d. absurd (true≢false (sym (test.1 d) ∙ is))), h)

below_nine : (r : Reason) → rank r < 9
below_nine BeforeRefused = omega arith
below_nine AfterRefused = omega arith
below_nine EditsRefused = omega arith
below_nine OtherData = omega arith
below_nine BadPair = omega arith
below_nine Lost = omega arith
below_nine Unasked = omega arith
below_nine NewComment = omega arith
below_nine NotTheSame = omega arith

pub all_hold : (profile : Profile) (before after : List ℕ) (cs : List Change) (ps : List (ℕ × ℕ)) → HoldBelow profile 9 before cs after ps → Certified profile before cs after ps
all_hold profile before after cs ps h = (certified_is_all_demands profile before after cs ps).1 (λ r. h r (below_nine r))

-- what holds of a tree of a text holds of its one tree
pub of_tree : (P : Doc → Type 0) (d : Doc) (text : List ℕ) (found : Bool) → Spells d text → IsTrue found ↔ P d → IsTrue found ↔ OfTree text P
of_tree P d text found spelled test = ((λ is. (d, spelled, test.0 is)), (λ h. test.1 (subst P (one_tree h.0 d text h.1 spelled) h.2)))

pub of_trees : (P : Doc → Doc → Type 0) (d e : Doc) (text other : List ℕ) (found : Bool) → Spells d text → Spells e other → IsTrue found ↔ P d e → IsTrue found ↔ OfTree text (λ d. OfTree other (P d))
of_trees P d e text other found spelled also test = of_tree (λ d. OfTree other (P d)) d text found spelled (of_tree (P d) e other found also test)

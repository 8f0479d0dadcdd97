-- The headline, from what is certified.
use Rattle.std.proofs.Common.{◌≡◌, ◌⊎◌, inl, inr, ℕ, ◌<◌, ◌^◌, List, [], ◌∷◌, length, Option, Some, None, refl, sym, ap, subst, ◌∙◌}
use Rattle.std.proofs.lemmas.Option.{same_Some}
use Rattle.std.specs.Prelude.{slice_get}
use Rattle.toml_tree.specs.Tree.{Doc}
use Rattle.toml_tree.specs.declared.profile.Profile.{Profile}
use Rattle.toml_names.specs.model.Addresses.{Address}
use Rattle.toml_edits.specs.Edits.{Change}
use Rattle.toml_units.specs.declared.unit.UnitKind.TheVariants as kinds
use Rattle.toml_units.specs.Places.{line_of}
use Rattle.toml_units.specs.Units.{TextUnit, units}
use Rattle.toml_checker.specs.CarriedTo.{IsCarriedTo, At}
use Rattle.toml_checker.specs.declared.verdict.Verdict.{Verdict}
use Rattle.toml_checker.specs.declared.verdict.Verdict.TheVariants.{Yes, No}
use Rattle.toml_checker.specs.Demands.{IsVerdict}
use Rattle.toml_checker.specs.Headline.{AllStand, CertifiedStand, IsPartner, NothingUnasked, YesMeans}
use Rattle.toml_checker.specs.Owed.{IsOwed}
use Rattle.toml_checker.specs.Pairs.{StandsAs, IsSecond}
use Rattle.toml_checker.specs.Lines.{IsEmptyEnd}
use Rattle.toml_checker.specs.Protected.{Stays, standing, IsProtected}
use Rattle.toml_checker.proofs.Headline.{Given, IsPair, pair_is, line_stays}
use Rattle.toml_checker.proofs.OwedLines.{AreApt, all_apt, stays_or_owed, ln}
use Rattle.toml_checker.proofs.Stands.{Read, all_stand, flag_of, given, read, line_partner}

pub second_pair : (ps : List (ℕ × ℕ)) (k : ℕ) → IsSecond ps k → (p : ℕ × ℕ) × IsPair p ps × (p.1 ≡ k)
second_pair [] k h = absurd h
second_pair (q ∷ ps) k (inl e) = (q, inl refl, e)
second_pair (q ∷ ps) k (inr h) = let r = second_pair ps k h in (r.0, inr r.1, r.2)

-- a line that stands as another is protected, or what it stands as is owed
line_asked : (cs : List Change) → AreApt cs → (d e : Doc) (i k : ℕ) (f : StandsAs cs d e i k) → f.first.kind ≡ kinds.Line → IsProtected cs (units d.lines) i ⊎ At f.second.address (IsOwed cs)
line_asked cs apt d e i k f line = by f.first.address refl f.second.address f.address
  where
    protected : Stays cs (standing f.first (line_of (units d.lines) i)) → IsProtected cs (units d.lines) i
    protected s = (f.first, f.first_is, s)

    as_line : Stays cs (ln f.first.address f.first.base (standing f.first (line_of (units d.lines) i)).line (standing f.first (line_of (units d.lines) i)).line_base) → Stays cs (standing f.first (line_of (units d.lines) i))
    as_line s = subst (λ x. Stays cs (record { kind = x; address = f.first.address; base = f.first.base; line = (standing f.first (line_of (units d.lines) i)).line; line_base = (standing f.first (line_of (units d.lines) i)).line_base })) (sym line) s

    by : (o : Option Address) → f.first.address ≡ o → (t : Option Address) → IsCarriedTo cs o t → IsProtected cs (units d.lines) i ⊎ At t (IsOwed cs)
    by None is t h = inl (protected (line_stays cs f.first (line_of (units d.lines) i) line is))
    by (Some a) is None h = absurd h
    by (Some a) is (Some b) h = either (stays_or_owed cs apt f.first.base f.first.address a b (standing f.first (line_of (units d.lines) i)).line (standing f.first (line_of (units d.lines) i)).line_base is h)
      where
        either : Stays cs (ln f.first.address f.first.base (standing f.first (line_of (units d.lines) i)).line (standing f.first (line_of (units d.lines) i)).line_base) ⊎ IsOwed cs b → IsProtected cs (units d.lines) i ⊎ IsOwed cs b
        either (inl s) = inl (protected (as_line s))
        either (inr w) = inr w

pub certified_stand : CertifiedStand
certified_stand profile before after cs ps c few = record {
  old = c.old;
  new = c.new;
  facts = c.facts;
  standing = stand;
  paired = r.fit;
  lines = unasked;
  comments = r.comments;
  mark = c.frame.0;
  same = c.frame.1;
}
  where
    g : Given cs c.old.1 c.new.1 ps (flag_of cs (units c.old.1.lines))
    g = given profile before after cs ps c few

    r : Read before cs after ps c.old.1 c.new.1
    r = read profile before after cs ps c

    stand : AllStand cs c.old.1 c.new.1
    stand = all_stand cs c.old.1 c.new.1 ps (flag_of cs (units c.old.1.lines)) g

    unasked : NothingUnasked cs c.old.1 c.new.1 stand
    unasked k w is line = by (r.lines k w is line)
      where
        of_pair : (p : ℕ × ℕ) → IsPair p ps → p.1 ≡ k → IsPartner cs c.old.1 c.new.1 stand k ⊎ At w.address (IsOwed cs) ⊎ IsEmptyEnd cs c.new.1 k w
        of_pair p m at = either (line_asked cs (all_apt profile cs c.facts.2 c.facts.4.2 c.facts.4.4) c.old.1 c.new.1 p.0 p.1 f first_line)
          where
            f : StandsAs cs c.old.1 c.new.1 p.0 p.1
            f = pair_is (λ q. StandsAs cs c.old.1 c.new.1 q.0 q.1) ps p g.fit m

            same : f.second ≡ w
            same = same_Some f.second w (sym f.second_is ∙ ap (slice_get (units c.new.1.lines)) at ∙ is)

            first_line : f.first.kind ≡ kinds.Line
            first_line = f.kind ∙ ap (λ (x : TextUnit). x.kind) same ∙ line

            either : IsProtected cs (units c.old.1.lines) p.0 ⊎ At f.second.address (IsOwed cs) → IsPartner cs c.old.1 c.new.1 stand k ⊎ At w.address (IsOwed cs) ⊎ IsEmptyEnd cs c.new.1 k w
            either (inl q) = inl (p.0, q, line_partner cs c.old.1 c.new.1 ps (flag_of cs (units c.old.1.lines)) g p m f.first f.first_is first_line q ∙ at)
            either (inr o) = inr (inl (subst (λ (x : TextUnit). At x.address (IsOwed cs)) same o))

        by : IsSecond ps k ⊎ At w.address (IsOwed cs) ⊎ IsEmptyEnd cs c.new.1 k w → IsPartner cs c.old.1 c.new.1 stand k ⊎ At w.address (IsOwed cs) ⊎ IsEmptyEnd cs c.new.1 k w
        by (inl s) = let p = second_pair ps k s in of_pair p.0 p.1 p.2
        by (inr h) = inr h

pub yes_means : (profile : Profile) (before after : List ℕ) (cs : List Change) (ps : List (ℕ × ℕ)) (v : Verdict) → length cs < 2 ^ 63 → IsVerdict profile before cs after ps v → YesMeans profile before cs after ps v
yes_means profile before after cs ps Yes few h = certified_stand profile before after cs ps h few
yes_means profile before after cs ps (No r) few h = tt

-- What the edits leave of comments in arrays and inline tables, and of what has no address.
use Rattle.std.proofs.Common.{◌≡◌, ◌⊎◌, inl, inr, ℕ, List, [], ◌∷◌, ◌++◌, Option, Some, None, refl, sym, subst, ◌∙◌}
use Rattle.std.proofs.lemmas.Option.{none-some, same_Some}
use Rattle.std.specs.Prelude.{slice_get}
use Rattle.toml_tree.specs.declared.profile.Profile.{Profile}
use Rattle.toml_tree.proofs.Proved.{one_tree}
use Rattle.toml_names.specs.model.Addresses.{Address}
use Rattle.toml_names.specs.model.Data.{IsDataOf}
use Rattle.toml_names.specs.model.Documents.{IsDocumentIn}
use Rattle.toml_names.specs.mentions.Mentions.{named}
use Rattle.toml_names.proofs.Proved.{lines_are_closed}
use Rattle.toml_edits.specs.Edits.{Change}
use Rattle.toml_units.specs.declared.unit.UnitKind.{UnitKind}
use Rattle.toml_units.specs.declared.unit.UnitKind.TheVariants as kinds
use Rattle.toml_units.specs.Apart.{AreOfOneArray}
use Rattle.toml_units.specs.Blocks.{IsUnder}
use Rattle.toml_units.specs.OfLines.{IsOfLine}
use Rattle.toml_units.specs.Places.{line_of}
use Rattle.toml_units.specs.Units.{TextUnit, units}
use Rattle.toml_units.proofs.Proved.{holders_hold_each, units_are_of_lines, units_are_sized, units_have_addresses, units_lie_in_lines}
use Rattle.toml_checker.specs.CarriedTo.{At}
use Rattle.toml_checker.specs.Comments.{IsWritten}
use Rattle.toml_checker.specs.GoneAndChanged.{IsChanged, IsGone}
use Rattle.toml_checker.specs.Laws.{BlankLinesArePartners, CommentsStayTogether, NoneIsWrittenThere, UnplacedAreProtected}
use Rattle.toml_checker.specs.Lines.{IsEmptyEnd}
use Rattle.toml_checker.specs.Owed.{IsOwed}
use Rattle.toml_checker.specs.Pairs.{IsSecond}
use Rattle.toml_checker.specs.Protected.{IsProtected, Stays, moved, standing}
use Rattle.toml_checker.proofs.Each.{each_get}
use Rattle.toml_checker.proofs.Fresh.{not_written}
use Rattle.toml_checker.proofs.Headline.{named_at}
use Rattle.toml_checker.proofs.Hits.{carried_some, comment_stays}

-- ---- comments of one array or inline table

-- the base of a comment does not count
any_base : (cs : List Change) (a line : Option Address) (b c line_base : Option ℕ) → Stays cs (record { kind = kinds.InnerComment; address = a; base = b; line = line; line_base = line_base })
    → Stays cs (record { kind = kinds.InnerComment; address = a; base = c; line = line; line_base = line_base })
any_base [] a line b c line_base h = tt
any_base (x ∷ cs) a line b c line_base h = (h.0, h.1, any_base cs (moved x (record { kind = kinds.InnerComment; address = a; base = b; line = line; line_base = line_base })).address (moved x (record { kind = kinds.InnerComment; address = a; base = b; line = line; line_base = line_base })).line b c line_base h.2)

as_standing : (one other : TextUnit) (line : Option TextUnit) → AreOfOneArray one other → record { kind = kinds.InnerComment; address = one.address; base = other.base; line = (standing one line).line; line_base = (standing one line).line_base } ≡ standing other line
as_standing one other line h = λ n. record { kind = sym h.second n; address = h.address n; base = other.base; line = (standing other line).line; line_base = (standing other line).line_base }

goes_with : (profile : Profile) (text : List ℕ) (doc : IsDocumentIn profile text) (cs : List Change) (i j : ℕ) (one other : TextUnit) → slice_get (units doc.1.lines) i ≡ Some one → slice_get (units doc.1.lines) j ≡ Some other
    → AreOfOneArray one other → IsProtected cs (units doc.1.lines) i → IsProtected cs (units doc.1.lines) j
goes_with profile text doc cs i j one other is are h p = (other, are, subst (λ s. Stays cs s) (as_standing one other (line_of us j) h) (any_base cs one.address (standing one (line_of us j)).line one.base other.base (standing one (line_of us j)).line_base here))
  where
    us : List TextUnit
    us = units doc.1.lines

    no_line : ¬ (one.kind ≡ kinds.Line)
    no_line e = let z : kinds.InnerComment ≡ kinds.Line = sym h.first ∙ e in cc

    line : line_of us i ≡ line_of us j
    line =
        let x = units_lie_in_lines doc.1 text doc.2 i one is no_line in
        let held = holders_hold_each doc.1 text doc.2 doc.3.0 x.place i j one other x.inside is are h in
        let same = (units_are_sized doc.1 text doc.2).2 in
        sym (same x.place i x.inside) ∙ same x.place j held

    first : p.0 ≡ one
    first = same_Some p.0 one (sym p.1 ∙ is)

    here : Stays cs (record { kind = kinds.InnerComment; address = one.address; base = one.base; line = (standing one (line_of us j)).line; line_base = (standing one (line_of us j)).line_base })
    here = subst (λ k. Stays cs (record { kind = k; address = one.address; base = one.base; line = (standing one (line_of us j)).line; line_base = (standing one (line_of us j)).line_base })) h.first (subst (λ l. Stays cs (standing one l)) line (subst (λ (u : TextUnit). Stays cs (standing u (line_of us i))) first p.2))

pub comments_stay_together : CommentsStayTogether
comments_stay_together profile text doc cs i j one other is are h =
    ((λ p. goes_with profile text doc cs i j one other is are h p), (λ p. goes_with profile text doc cs j i other one are is (record { first = h.second; second = h.first; address = sym h.address }) p))

-- ---- what edits write

pub none_is_written_there : NoneIsWrittenThere
none_is_written_there profile text doc cs (e, spelled, old, facts, (new, lead)) written are i p kind w to = by p.0.address refl
  where
    old_is : IsDataOf (named doc.1.lines) old
    old_is = subst (λ d. IsDataOf (named d.lines) old) (one_tree e doc.1 text spelled doc.2) facts

    no_address : p.0.address ≡ None → ⊥
    no_address none = of (each_get (λ (u : TextUnit). u.address ≡ None → (u.kind ≡ kinds.Line) ⊎ (u.kind ≡ kinds.TailComment)) (units doc.1.lines) i p.0 (units_have_addresses doc.1 text doc.2) p.1 none)
      where
        of : (p.0.kind ≡ kinds.Line) ⊎ (p.0.kind ≡ kinds.TailComment) → ⊥
        of (inl k) = let z : kinds.InnerComment ≡ kinds.Line = sym kind ∙ k in cc
        of (inr k) = let z : kinds.InnerComment ≡ kinds.TailComment = sym kind ∙ k in cc

    by : (o : Option Address) → p.0.address ≡ o → ¬ IsWritten cs written w
    by None at = absurd (no_address at)
    by (Some a) at =
        let b = carried_some cs p.0.address w.address a to at in
        let line = line_of (units doc.1.lines) i in
        not_written profile cs old new (lines_are_closed doc.1.lines old doc.3.0 old_is) lead written are a p.0.base (standing p.0 line).line (standing p.0 line).line_base
        (comment_stays cs p.0 line a kind at p.2) (named_at doc.1 text doc.2 old old_is i p.0 a p.1 at) b.0 b.2 w b.1

-- ---- what has no address

not_gone : (k : UnitKind) (c : Change) (base line_base : Option ℕ) → ¬ IsGone k c (record { kind = k; address = None; base = base; line = None; line_base = line_base })
not_gone kinds.Line c base line_base h = h
not_gone kinds.TailComment c base line_base h = h
not_gone kinds.InnerComment c base line_base (inl h) = h
not_gone kinds.InnerComment c base line_base (inr h) = h
not_gone kinds.Element c base line_base h = h
not_gone kinds.Pair c base line_base h = h

not_changed : (k : UnitKind) (c : Change) (base line_base : Option ℕ) → ¬ IsChanged k c (record { kind = k; address = None; base = base; line = None; line_base = line_base })
not_changed kinds.Line c base line_base h = h
not_changed kinds.TailComment c base line_base h = h
not_changed kinds.InnerComment c base line_base h = h
not_changed kinds.Element c base line_base h = h
not_changed kinds.Pair c base line_base h = h

stays : (cs : List Change) (k : UnitKind) (base line_base : Option ℕ) → Stays cs (record { kind = k; address = None; base = base; line = None; line_base = line_base })
stays [] k base line_base = tt
stays (c ∷ cs) k base line_base = (not_gone k c base line_base, not_changed k c base line_base, stays cs k base line_base)

-- nor has its line an address
line_has_none : (line u : TextUnit) → IsOfLine line u → u.address ≡ None → line.address ≡ None
line_has_none line u h none = by line.address h.under
  where
    by : (o : Option Address) → IsUnder o u → o ≡ None
    by None w = refl
    by (Some a) w = absurd (none-some (a ++ w.rest) (sym none ∙ w.address))

pub unplaced_are_protected : UnplacedAreProtected
unplaced_are_protected lines cs i u is none = (u, is, by (units_are_of_lines lines i u is))
  where
    at : (o : Option TextUnit) (l : TextUnit) → o ≡ Some l → l.address ≡ None → Stays cs (standing u o)
    at o l its blank =
        subst (λ (x : Option TextUnit). Stays cs (standing u x)) (sym its)
        (subst (λ x. Stays cs (record { kind = u.kind; address = u.address; base = u.base; line = x; line_base = l.base })) (sym blank) (subst (λ x. Stays cs (record { kind = u.kind; address = x; base = u.base; line = None; line_base = l.base })) (sym none) (stays cs u.kind u.base l.base)))

    by : ((u.kind ≡ kinds.Line) × (line_of (units lines) i ≡ Some u)) ⊎ ((line : TextUnit) × (line_of (units lines) i ≡ Some line) × IsOfLine line u) → Stays cs (standing u (line_of (units lines) i))
    by (inl (k, its)) = at (line_of (units lines) i) u its none
    by (inr (l, its, h)) = at (line_of (units lines) i) l its (line_has_none l u h none)

pub blank_lines_are_partners : BlankLinesArePartners
blank_lines_are_partners cs e ps lines k w is line none = by (lines k w is line)
  where
    by : IsSecond ps k ⊎ At w.address (IsOwed cs) ⊎ IsEmptyEnd cs e k w → IsSecond ps k ⊎ IsEmptyEnd cs e k w
    by (inl s) = inl s
    by (inr (inl o)) = absurd (subst (λ x. At x (IsOwed cs)) none o)
    by (inr (inr n)) = inr n

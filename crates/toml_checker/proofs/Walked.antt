-- The walks over edits and over units, at their ends.
use Rattle.std.proofs.Common.{◌≡◌, ℕ, ◌+◌, ◌<◌, ◌≤◌, List, [], ◌∷◌, ◌++◌, length, map, drop, get_or, Option, Some, None, Bool, true, false, not, ◌&&◌, refl, sym, ap, subst, ◌∙◌, append_assoc}
use Rattle.std.proofs.lemmas.List.{append-nil, drop_more, drop_all}
use Rattle.toml_names.specs.model.Addresses.{Address}
use Rattle.toml_edits.specs.declared.edit.Edit.{Edit}
use Rattle.toml_edits.specs.Carry.{carry}
use Rattle.toml_edits.specs.Edits.{Change, change, place}
use Rattle.toml_units.specs.declared.unit.Unit.{Unit as Made}
use Rattle.toml_units.specs.Plain.{Spanned, spanned}
use Rattle.toml_units.specs.Units.{TextUnit}
use Rattle.toml_units.specs.View.{unit, all_units}
use Rattle.toml_checker.specs.declared.tables.Part.{Part}
use Rattle.toml_checker.specs.Plain.{stands, is_named, next_line, is_kept, Site, site, made_site, flags_from, flags, TellProtected}
use Rattle.toml_edits.specs.Sides.{side}
use Rattle.toml_checker.proofs.CarriedSoFar.{dropped}
use Rattle.toml_checker.proofs.Flags.{stands_nowhere, flags_tell}

-- what an edit that does not name it carries nowhere is named no more
pub nowhere_left : (part : Part) (es : List Edit) (i : ℕ) (e : Edit) (a : Address) (b : Option ℕ) → i < length es → e ≡ get_or es i e → is_named part (change e) b (side (place (change e)) a) ≡ false → carry (change e) a ≡ None
    → stands part (map change (drop i es)) (Some a) b ≡ true
nowhere_left part es i e a b low is named away =
    ap (λ l. stands part (map change l) (Some a) b) (drop_more es i e low ∙ ap (λ (x : Edit). x ∷ drop (i + 1) es) (sym is))
    ∙ ap (λ n. not n && stands part (map change (drop (i + 1) es)) (carry (change e) a) b) named
    ∙ ap (λ o. stands part (map change (drop (i + 1) es)) o b) away
    ∙ stands_nowhere part (map change (drop (i + 1) es)) b

abbrev site_of : Spanned → Site
site_of s = record { kind = s.kind; address = s.address; base = s.base }

same_sites : (ms : List Made) (us : List TextUnit) → all_units ms ≡ map spanned us → map made_site ms ≡ map site us
same_sites [] [] e = refl
same_sites [] (u ∷ us) e = cc
same_sites (m ∷ ms) [] e = cc
same_sites (m ∷ ms) (u ∷ us) e = both (first e) (same_sites ms us (rest e))
  where
    first : unit m ∷ all_units ms ≡ spanned u ∷ map spanned us → unit m ≡ spanned u
    first e = cc

    rest : unit m ∷ all_units ms ≡ spanned u ∷ map spanned us → all_units ms ≡ map spanned us
    rest e = cc

    both : unit m ≡ spanned u → map made_site ms ≡ map site us → made_site m ∷ map made_site ms ≡ site u ∷ map site us
    both h t = ap (λ x. x ∷ map made_site ms) (ap site_of h) ∙ ap (λ xs. site u ∷ xs) t

pub all_told : (cs : List Change) (ms : List Made) (us : List TextUnit) (fs : List Bool) (i : ℕ) (line : Option Site) → all_units ms ≡ map spanned us → length ms ≤ i → fs ++ flags_from cs line (map made_site (drop i ms)) ≡ flags cs (map made_site ms)
    → TellProtected cs us fs
all_told cs ms us fs i line are past left = subst (TellProtected cs us) (sym (sym (append-nil fs) ∙ ap (λ l. fs ++ flags_from cs line (map made_site l)) (sym (drop_all i ms past)) ∙ left ∙ ap (flags cs) (same_sites ms us are))) (flags_tell cs us)

-- one unit more, whether the edits of the list leave it
pub one_told : (xs cs : List Change) (ms : List Made) (i : ℕ) (u : Made) (fs : List Bool) (b : Bool) (line next : Option Site) → xs ≡ cs → i < length ms → u ≡ get_or ms i u → next ≡ next_line line (made_site u) → b ≡ is_kept u.kind xs next (made_site u)
    → fs ++ flags_from cs line (map made_site (drop i ms)) ≡ flags cs (map made_site ms) → (fs ++ b ∷ []) ++ flags_from cs next (map made_site (drop (i + 1) ms)) ≡ flags cs (map made_site ms)
one_told xs cs ms i u fs b line next so low is next_is kept told = append_assoc fs (b ∷ []) rest ∙ ap (λ l. fs ++ l) (sym step) ∙ told
  where
    rest : List Bool
    rest = flags_from cs next (map made_site (drop (i + 1) ms))

    step : flags_from cs line (map made_site (drop i ms)) ≡ b ∷ rest
    step =
        ap (λ l. flags_from cs line (map made_site l)) (dropped ms i u low is)
        ∙ ap (λ o. is_kept u.kind cs o (made_site u) ∷ flags_from cs o (map made_site (drop (i + 1) ms))) (sym next_is)
        ∙ ap (λ x. x ∷ rest) (ap (λ ds. is_kept u.kind ds next (made_site u)) (sym so) ∙ sym kept)

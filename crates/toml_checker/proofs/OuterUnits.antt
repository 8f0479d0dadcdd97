-- Which protected units lie in no other one, by marks.
use Rattle.std.proofs.Common.{◌≡◌, ℕ, ◌<◌, ◌≤◌, ◌↔◌, Bool, true, List, length, map, get_or, Some, sym, ap, subst, ◌∙◌, arith}
use Rattle.std.specs.Prelude.{slice_get}
use Rattle.std.proofs.lemmas.List.{length-map}
use Rattle.std.proofs.lemmas.Option.{slice_get_within}
use Rattle.toml_tree.specs.Spells.{Spells}
use Rattle.toml_tree.specs.Tree.{Doc}
use Rattle.toml_edits.specs.Edits.{Change}
use Rattle.toml_units.specs.Places.{LiesInside}
use Rattle.toml_units.specs.Plain.{Spanned, spanned}
use Rattle.toml_units.specs.Units.{TextUnit, units}
use Rattle.toml_checker.specs.Marks.{IsSet, IsFree, stops}
use Rattle.toml_checker.specs.Outer.{IsOuter, TellOuter}
use Rattle.toml_checker.specs.Plain.{TellProtected}
use Rattle.toml_checker.specs.Protected.{IsProtected}
use Rattle.toml_checker.proofs.FlagsSet.{to_mark, from_mark, set_is_protected}
use Rattle.toml_checker.proofs.Held.{lies, ends_within, order_of}

module _ (cs : List Change) (d : Doc) (text : List ℕ) (spells : Spells d text) (ss : List Spanned) (is : ss ≡ map spanned (units d.lines))
    (flags : List Bool) (told : TellProtected cs (units d.lines) flags)
    (free : List Bool) (long : length free ≡ length ss) (are : (i : ℕ) → i < length ss → IsSet free i ↔ IsFree (stops ss) flags i) where
  abbrev us : List TextUnit
  us = units d.lines

  count : length us ≡ length ss
  count = sym (length-map us spanned) ∙ sym (ap length is)

  flagged : (i : ℕ) → IsSet flags i ↔ IsProtected cs us i
  flagged = set_is_protected cs us flags told

  ends_there : (i j : ℕ) → LiesInside us j i → get_or (stops ss) i 0 ≤ get_or (stops ss) j 0
  ends_there i j l = subst (λ xs. get_or (stops xs) i 0 ≤ get_or (stops xs) j 0) (sym is) (ends_within us (order_of d text spells) j i l)

  to : (i : ℕ) → i < length ss → IsFree (stops ss) flags i → IsOuter cs us i
  to i low h = ((flagged i).0 h.0, (λ j l p. h.1 (j, l.later, (flagged j).1 p, ends_there i j l)))

  from : (i : ℕ) → i < length ss → IsOuter cs us i → IsFree (stops ss) flags i
  from i low h = ((flagged i).1 h.0, (λ w. h.1 w.0 (lies us (order_of d text spells) w.0 i w.1 (omega (arith, count, low)) (subst (λ xs. get_or (stops xs) i 0 ≤ get_or (stops xs) w.0 0) is w.3)) ((flagged w.0).0 w.2)))

  below : (i : ℕ) → slice_get free i ≡ Some true → i < length ss
  below i e = subst (λ k. i < k) long (slice_get_within free i true e)

  within : (i : ℕ) → IsProtected cs us i → i < length ss
  within i p = subst (λ k. i < k) count (slice_get_within us i p.0 p.1)

  pub tell_outer : TellOuter cs us free
  tell_outer = (
    long ∙ sym count,
    (λ i. (
      (λ e. to i (below i e) ((are i (below i e)).0 (to_mark free i e))),
      (λ o. from_mark free i ((are i (within i o.0)).1 (from i (within i o.0) o))),
    )),
  )

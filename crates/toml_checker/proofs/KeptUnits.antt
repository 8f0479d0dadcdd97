-- When nothing protected is lost, by marks on the units of a document.
use Rattle.std.proofs.Common.{◌≡◌, ℕ, ◌<◌, ◌≤◌, ◌↔◌, Bool, List, length, map, get_or, ◌⊎◌, inl, inr, sym, ap, subst, ◌∙◌, arith}
use Rattle.std.proofs.lemmas.List.{length-map}
use Rattle.std.proofs.lemmas.Option.{slice_get_within}
use Rattle.toml_tree.specs.Spells.{Spells}
use Rattle.toml_tree.specs.Tree.{Doc}
use Rattle.toml_edits.specs.Edits.{Change}
use Rattle.toml_units.specs.Places.{LiesInside}
use Rattle.toml_units.specs.Plain.{Spanned, spanned}
use Rattle.toml_units.specs.Units.{TextUnit, units}
use Rattle.toml_checker.specs.Kept.{AllKept}
use Rattle.toml_checker.specs.Marks.{IsSet, IsHeld, stops}
use Rattle.toml_checker.specs.Pairs.{IsFirst}
use Rattle.toml_checker.specs.Protected.{IsProtected}
use Rattle.toml_checker.proofs.Held.{lies, ends_within, order_of}

module _ (cs : List Change) (d : Doc) (text : List ℕ) (ps : List (ℕ × ℕ)) (spells : Spells d text) (ss : List Spanned) (is : ss ≡ map spanned (units d.lines)) (n : ℕ) (long : length ss ≡ n)
    (flags : List Bool) (flagged : (i : ℕ) → IsSet flags i ↔ IsProtected cs (units d.lines) i)
    (paired : List Bool) (pairs : (i : ℕ) → i < n → IsSet paired i ↔ IsFirst ps i)
    (holders : List Bool) (hold : (i : ℕ) → i < n → IsSet holders i ↔ (IsSet flags i × IsSet paired i))
    (covers : List Bool) (covered : (i : ℕ) → i < n → IsSet covers i ↔ IsHeld (stops ss) holders i) where
  abbrev us : List TextUnit
  us = units d.lines

  count : length us ≡ n
  count = sym (length-map us spanned) ∙ sym (ap length is) ∙ long

  low : (i : ℕ) → IsProtected cs us i → i < n
  low i p = subst (λ k. i < k) count (slice_get_within us i p.0 p.1)

  holds : (i : ℕ) → i < n → IsSet holders i → IsProtected cs us i × IsFirst ps i
  holds i h s = let w = (hold i h).0 s in ((flagged i).0 w.0, (pairs i h).0 w.1)

  held : (i : ℕ) → i < n → IsProtected cs us i → IsFirst ps i → IsSet holders i
  held i h p f = (hold i h).1 ((flagged i).1 p, (pairs i h).1 f)

  kept : (i : ℕ) → i < n → IsHeld (stops ss) holders i → IsFirst ps i ⊎ ((j : ℕ) × LiesInside us j i × IsProtected cs us j × IsFirst ps j)
  kept i h (inl s) = inl (holds i h s).1
  kept i h (inr (j, before, s, le)) =
      let w = holds j (omega arith) s in
      let inside = lies us (order_of d text spells) j i before (omega (arith, count)) (subst (λ xs. get_or (stops xs) i 0 ≤ get_or (stops xs) j 0) is le) in
      inr (j, inside, w.0, w.1)

  back : (i : ℕ) → i < n → IsProtected cs us i → IsFirst ps i ⊎ ((j : ℕ) × LiesInside us j i × IsProtected cs us j × IsFirst ps j)
      → IsHeld (stops ss) holders i
  back i h p (inl f) = inl (held i h p f)
  back i h p (inr (j, inside, q, f)) =
      let le = ends_within us (order_of d text spells) j i inside in
      let before = inside.later in
      inr (j, before, held j (omega (arith, before)) q f, subst (λ xs. get_or (stops xs) i 0 ≤ get_or (stops xs) j 0) (sym is) le)

  pub all_kept_is : ((i : ℕ) → i < n → IsSet flags i → IsSet covers i) ↔ AllKept cs d ps
  all_kept_is = (
    (λ h i p. kept i (low i p) ((covered i (low i p)).0 (h i (low i p) ((flagged i).1 p)))),
    (λ all i low s. let p = (flagged i).0 s in (covered i low).1 (back i low p (all i p))),
  )

-- Addresses that another is neither at nor above. The data of what is named are one map, in which nothing stands below nothing.
use Rattle.toml_names.proofs.Common.{◌≡◌, Bool, cond, ◌⊎◌, inl, inr, [], ◌∷◌, ◌++◌, Option, Some, None, refl, sym, ap, ◌∙◌, rules, none-some, Step, Address, IsAbove, IsClear, NotAboveNext, ClearOfRoot, NotNamedIsClear, fact_at, Kind, Named, named, List, subst, append_assoc, append-nil, Line, Kinds, IsDataOf, IsClosed, OneData, LinesAreClosed, ValuesAreClosed, JoinAll, Joined, root}
use Rattle.toml_names.proofs.lemmas.mentions.AllLines.{lines_join, new_from, named_from-is}
use Rattle.toml_names.proofs.Each.{Has, each_weaker, has_of_any, any_of_has, has_weaker, members_self}
use Rattle.toml_names.proofs.lemmas.mentions.OfOneKind.{first_is_data}
use Rattle.toml_names.proofs.lemmas.mentions.FirstNamed.{values_join}
use Rattle.toml_names.proofs.lemmas.mentions.Growing.{IsClosed-push}

-- what joins is not put below what is not there
closed_all : (more ms : List Named) → IsClosed (fact_at ms) → JoinAll ms more → IsClosed (fact_at (ms ++ more))
closed_all [] ms closed joins = subst (λ l. IsClosed (fact_at l)) (sym (append-nil ms)) closed
closed_all (m ∷ more) ms closed joins = subst (λ l. IsClosed (fact_at l)) (append_assoc ms (m ∷ []) more) (closed_all more (ms ++ m ∷ []) (IsClosed-push ms m closed joins.0) joins.1)

-- the root alone
closed_root : (m : Named) → m.address ≡ [] → IsClosed (fact_at (m ∷ []))
closed_root m root = search rules

pub closed_joined : (m : Named) (ms : List Named) → m.address ≡ [] → Joined (m ∷ ms) → IsClosed (fact_at (m ∷ ms))
closed_joined m ms root joined = closed_all ms (m ∷ []) (closed_root m root) joined

pub closed_lines : (lines : List Line) → Joined (named lines) → IsClosed (fact_at (named lines))
closed_lines lines joined = search (rules, named_from-is, closed_joined, new_from)

-- where nothing stands, nothing stands at any depth below
pub closed_below : (kinds : Kinds) → IsClosed kinds → (r at : Address) → kinds at ≡ None → kinds (at ++ r) ≡ None
closed_below kinds closed [] at none = ap kinds (append-nil at) ∙ none
closed_below kinds closed (s ∷ r) at none = ap kinds (sym (append_assoc at (s ∷ []) r)) ∙ closed_below kinds closed r (at ++ s ∷ []) (closed at s none)

pub one_data : OneData
one_data ms k l one other at = by (k at) (l at) refl refl
  where
    by : (o p : Option Kind) → k at ≡ o → l at ≡ p → k at ≡ l at
    by None None is to = is ∙ sym to
    by (Some x) p is to = is ∙ sym ((other at x).1 ((one at x).0 is))
    by None (Some y) is to = (one at y).1 ((other at y).0 to) ∙ sym to

as_first : (ms : List Named) (kinds : Kinds) → Joined ms → IsDataOf ms kinds → IsClosed (fact_at ms) → IsClosed kinds
as_first ms kinds joined facts closed at s none =
    let same = one_data ms kinds (fact_at ms) facts (first_is_data ms joined) in
    same (at ++ s ∷ []) ∙ closed at s (sym (same at) ∙ none)

pub lines_are_closed : LinesAreClosed
lines_are_closed lines kinds keeps facts = as_first (named lines) kinds (lines_join lines keeps) facts (closed_lines lines (lines_join lines keeps))

pub values_are_closed : ValuesAreClosed
values_are_closed = search (rules, as_first, values_join, closed_joined)

no_cons : (p : Address) (t : Step) (r : Address) → ¬ ([] ≡ p ++ t ∷ r)
no_cons [] t r is = cc
no_cons (s ∷ p) t r is = cc

-- one step further
above_step : (p at : Address) (s : Step) → IsAbove p (at ++ s ∷ []) → (p ≡ at) ⊎ IsAbove p at
above_step [] [] s h = inl refl
above_step [] (u ∷ at) s h = inr (u, at, refl)
above_step (v ∷ p) [] s (t, r, is) = let tail : [] ≡ p ++ t ∷ r = cc in absurd (no_cons p t r tail)
above_step (v ∷ p) (u ∷ at) s (t, r, is) =
    let head : u ≡ v = cc in
    let tail : at ++ s ∷ [] ≡ p ++ t ∷ r = cc in
    lift (above_step p at s (t, r, tail)) head
  where
    lift : (p ≡ at) ⊎ IsAbove p at → u ≡ v → (v ∷ p ≡ u ∷ at) ⊎ IsAbove (v ∷ p) (u ∷ at)
    lift (inl e) head = inl (ap (λ x. x ∷ p) (sym head) ∙ ap (λ l. u ∷ l) e)
    lift (inr (w, rest, e)) head = inr (w, rest, ap (λ x. x ∷ at) head ∙ ap (λ l. v ∷ l) e)

pub not_above_next : NotAboveNext
not_above_next p at s clear above = elim (above_step p at s above) [ inl e ↦ clear.apart e | inr a ↦ clear.not_above a ]

pub clear_more : {p at : Address} (s : Step) → IsClear p at → ¬ (p ≡ at ++ s ∷ []) → IsClear p (at ++ s ∷ [])
clear_more {p} {at} s clear apart = record { apart = apart; not_above = not_above_next p at s clear }

pub clear_of_root : ClearOfRoot
clear_of_root p apart = record { apart = apart; not_above = λ above. no_cons p above.0 above.1 above.2 }

pub clear_cond : (p a b : Address) (t : Bool) → IsClear p a → IsClear p b → IsClear p (cond t a b)
clear_cond p a b t x y = search rules

absent : (o : Option Kind) → ((k : Kind) → o ≡ Some k → ⊥) → o ≡ None
absent o h = search rules

pub not_named_is_clear : NotNamedIsClear
not_named_is_clear lines p keeps free =
    let ms = named lines in
    let joined = lines_join lines keeps in
    let first = first_is_data ms joined in
    let none : fact_at ms p ≡ None = absent (fact_at ms p) (λ k is. free (any_of_has (λ m. m.address ≡ p) ms (has_weaker _ (λ m. m.address ≡ p) (λ m f. f.0) ms (has_of_any _ ms ((first p k).0 is))))) in
    each_weaker (λ m. Has (λ y. y ≡ m) ms) (λ m. IsClear p m.address) (λ m there. clear m there none) ms (members_self ms)
  where
    clear : (m : Named) → Has (λ y. y ≡ m) (named lines) → fact_at (named lines) p ≡ None → IsClear p m.address
    clear m there none =
        let ms = named lines in
        let fact : fact_at ms m.address ≡ Some m.kind =
        (first_is_data ms (lines_join lines keeps) m.address m.kind).1 (any_of_has _ ms (has_weaker (λ y. y ≡ m) (λ y. (y.address ≡ m.address) × (y.kind ≡ m.kind)) (λ y is. (ap (λ u. u.address) is, ap (λ u. u.kind) is)) ms there)) in
        record {
          apart = λ is. free (any_of_has (λ y. y.address ≡ p) ms (has_weaker (λ y. y ≡ m) (λ y. y.address ≡ p) (λ y e. ap (λ u. u.address) e ∙ sym is) ms there));
          not_above = λ above. none-some m.kind (sym (closed_below (fact_at ms) (closed_lines lines (lines_join lines keeps)) (above.0 ∷ above.1) p none) ∙ ap (fact_at ms) (sym above.2) ∙ fact);
        }

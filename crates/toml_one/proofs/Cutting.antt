-- Lists up to and with the first edit that puts something too deep.
use Rattle.std.proofs.Common.{◌≡◌, ◌⊎◌, Bool, true, false, List, [], ◌∷◌, ◌++◌, inl, inr, sym, refl, ap, ◌∙◌, append_assoc, append-nil}
use Rattle.std.proofs.lemmas.Bool.{false≢true, or_from, or_left, or_right}
use Rattle.std.proofs.lemmas.List.Folds.{list_any-append}
use Rattle.std.specs.List.{list_any}
use Rattle.std.specs.Prelude.{◌||◌, if◌then◌else◌}
use Rattle.toml_edits.specs.Edits.{Change}
use Rattle.toml_one.specs.Kept.{puts_too_deep, up_to_too_deep}
use Rattle.toml_one.specs.Walking.{ends_too_deep}

-- behind edits of which none puts something too deep
pub up_behind : (cs more : List Change) → list_any puts_too_deep cs ≡ false → up_to_too_deep (cs ++ more) ≡ cs ++ up_to_too_deep more
up_behind [] more none = refl
up_behind (c ∷ cs) more none = by (puts_too_deep c) none (up_behind cs more)
  where
    by : (b : Bool) → (b || list_any puts_too_deep cs) ≡ false → (list_any puts_too_deep cs ≡ false → up_to_too_deep (cs ++ more) ≡ cs ++ up_to_too_deep more)
        → c ∷ (if b then [] else up_to_too_deep (cs ++ more)) ≡ c ∷ (cs ++ up_to_too_deep more)
    by true h rest = absurd (false≢true (sym h))
    by false h rest = ap (λ l. c ∷ l) (rest h)

pub up_whole : (cs : List Change) → list_any puts_too_deep cs ≡ false → up_to_too_deep cs ≡ cs
up_whole cs none = ap up_to_too_deep (sym (append-nil cs)) ∙ up_behind cs [] none ∙ append-nil cs

-- one edit
pub up_one : (c : Change) → up_to_too_deep (c ∷ []) ≡ c ∷ []
up_one c = by (puts_too_deep c)
  where
    by : (b : Bool) → c ∷ (if b then [] else []) ≡ c ∷ []
    by true = refl
    by false = refl

pub up_with_last : (cs : List Change) (c : Change) → list_any puts_too_deep cs ≡ false → up_to_too_deep (cs ++ c ∷ []) ≡ cs ++ c ∷ []
up_with_last cs c none = up_behind cs (c ∷ []) none ∙ ap (λ l. cs ++ l) (up_one c)

-- behind one that puts something too deep
pub up_more : (cs more : List Change) → list_any puts_too_deep cs ≡ true → up_to_too_deep (cs ++ more) ≡ up_to_too_deep cs
up_more [] more deep = absurd (false≢true deep)
up_more (c ∷ cs) more deep = by (puts_too_deep c) deep (up_more cs more)
  where
    by : (b : Bool) → (b || list_any puts_too_deep cs) ≡ true → (list_any puts_too_deep cs ≡ true → up_to_too_deep (cs ++ more) ≡ up_to_too_deep cs)
        → c ∷ (if b then [] else up_to_too_deep (cs ++ more)) ≡ c ∷ (if b then [] else up_to_too_deep cs)
    by true h rest = refl
    by false h rest = ap (λ l. c ∷ l) (rest h)

-- the last edit
pub last_ends : (cs : List Change) (c : Change) → ends_too_deep (cs ++ c ∷ []) ≡ puts_too_deep c
last_ends [] c = refl
last_ends (d ∷ []) c = refl
last_ends (d ∷ e ∷ cs) c = last_ends (e ∷ cs) c

pub ends_deep : (cs : List Change) → ends_too_deep cs ≡ true → list_any puts_too_deep cs ≡ true
ends_deep [] deep = absurd (false≢true deep)
ends_deep (c ∷ []) deep = or_left (puts_too_deep c) false deep
ends_deep (c ∷ d ∷ cs) deep = or_right (puts_too_deep c) (list_any puts_too_deep (d ∷ cs)) (ends_deep (d ∷ cs) deep)

-- no edit, or one
abbrev pub IsOneOrNone : List Change → Type 0
IsOneOrNone cs = (cs ≡ []) ⊎ ((c : Change) × (cs ≡ c ∷ []))

-- so many more
module _ (old made : List Change) (none : list_any puts_too_deep old ≡ false) where
  none_more : made ≡ [] → list_any puts_too_deep (old ++ made) ≡ false
  none_more is = ap (λ l. list_any puts_too_deep (old ++ l)) is ∙ ap (list_any puts_too_deep) (append-nil old) ∙ none

  pub still_none : IsOneOrNone made → (made ≡ []) ⊎ (ends_too_deep (old ++ made) ≡ false) → list_any puts_too_deep (old ++ made) ≡ false
  still_none few (inl is) = none_more is
  still_none (inl is) (inr ends) = none_more is
  still_none (inr (c, is)) (inr ends) =
      let free : puts_too_deep c ≡ false = sym (last_ends old c) ∙ ap (λ l. ends_too_deep (old ++ l)) (sym is) ∙ ends in
      ap (λ l. list_any puts_too_deep (old ++ l)) is ∙ list_any-append puts_too_deep old (c ∷ [])
      ∙ or_from (list_any puts_too_deep old) (puts_too_deep c || false) none (or_from (puts_too_deep c) false free refl)

  pub up_here : IsOneOrNone made → ends_too_deep (old ++ made) ≡ true → (more : List Change) → up_to_too_deep ((old ++ made) ++ more) ≡ old ++ made
  up_here (inl is) ends more = absurd (false≢true (sym (none_more is) ∙ ends_deep (old ++ made) ends))
  up_here (inr (c, is)) ends more =
      let deep : puts_too_deep c ≡ true = sym (last_ends old c) ∙ ap (λ l. ends_too_deep (old ++ l)) (sym is) ∙ ends in
      ap (λ l. up_to_too_deep ((old ++ l) ++ more)) is ∙ ap up_to_too_deep (append_assoc old (c ∷ []) more) ∙ up_behind old (c ∷ more) none
      ∙ ap (λ b. old ++ c ∷ (if b then [] else up_to_too_deep more)) deep ∙ ap (λ l. old ++ l) (sym is)

-- the first edits of a list, of which the last puts something too deep
pub record EndsTooDeep (cs : List Change) : Type 0 where
  pub front : List Change
  pub last : Change
  pub deep : puts_too_deep last ≡ true
  pub are : cs ≡ front ++ last ∷ []

pub record IsCut (some all : List Change) : Type 0 where
  pub ends : EndsTooDeep some
  pub left : List Change
  pub are : all ≡ some ++ left

-- up to the first that puts something too deep: the whole list, or its first edits, that end so
pub whole_or_cut : (all : List Change) → (up_to_too_deep all ≡ all) ⊎ IsCut (up_to_too_deep all) all
whole_or_cut [] = inl refl
whole_or_cut (c ∷ all) = by (puts_too_deep c) refl (whole_or_cut all)
  where
    rest : Bool → List Change
    rest b = c ∷ (if b then [] else up_to_too_deep all)

    by : (b : Bool) → puts_too_deep c ≡ b → (up_to_too_deep all ≡ all) ⊎ IsCut (up_to_too_deep all) all → (rest b ≡ c ∷ all) ⊎ IsCut (rest b) (c ∷ all)
    by true deep behind = inr (record { ends = record { front = []; last = c; deep = deep; are = refl }; left = all; are = refl })
    by false free (inl whole) = inl (ap (λ l. c ∷ l) whole)
    by false free (inr cut) = inr (record {
      ends = record { front = c ∷ cut.ends.front; last = cut.ends.last; deep = cut.ends.deep; are = ap (λ l. c ∷ l) cut.ends.are };
      left = cut.left;
      are = ap (λ l. c ∷ l) cut.are;
    })

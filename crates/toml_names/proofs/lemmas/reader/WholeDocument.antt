-- A document read line by line.
use Rattle.toml_names.proofs.Common.{common_steps, ◌≡◌, ℕ, ◌+◌, ◌<◌, ◌≤◌, List, [], ◌∷◌, ◌++◌, length, take, Option, Some, None, option_and_then, slice_get, slice_index_or, refl, sym, ap, ◌∙◌, ◌⊎◌, inl, inr, arith, rules, cases_lt, take_more, take_at, take_all, length_push, length-take-le, slice_get-get_or, slice_get_past, Line, NameFault, Address, Kinds, expr_key_parts, all_key_parts, named, AreGood, IsRedefined, IsLong, RefusesNames, line_address, Spot, ReaderState, lines_of, RefusesLine, AreNames, ranked}
use Rattle.toml_names.proofs.lemmas.mentions.LineAddresses.{no_line_address}

-- a reader that has taken so many of the lines
pub record IsAt (lines : List Line) (i : ℕ) (r : ReaderState) : Type 0 where
  pub taken : lines_of r ≡ take i lines
  pub good : AreGood (take i lines)
  pub lookups : r.lookups ≤ all_key_parts (take i lines)

all_parts-push : (lines : List Line) (l : Line) → all_key_parts (lines ++ l ∷ []) ≡ all_key_parts lines + expr_key_parts l.expr
all_parts-push [] l = omega arith
all_parts-push (x ∷ lines) l = let more = all_parts-push lines l in omega arith

module _ (lines : List Line) (i : ℕ) (d l : Line) (low : i < length lines) (is : slice_index_or lines i d ≡ l) where
  more : take (i + 1) lines ≡ take i lines ++ l ∷ []
  more = take_more lines i d low ∙ ap (λ (x : Line). take i lines ++ x ∷ []) is

  count : length (take i lines) ≡ i
  count = length-take-le i lines (omega arith)

  -- the lines before it are those before it in the whole
  front : take i (take i lines ++ l ∷ []) ≡ take i lines
  front = take_at (take i lines) (l ∷ []) i count

  all : take (i + 1) (take i lines ++ l ∷ []) ≡ take (i + 1) lines
  all = take_all (i + 1) (take i lines ++ l ∷ []) (omega (arith, length_push (take i lines) l, count)) ∙ sym more

  redefined-in : (at : Address) → IsRedefined (take i lines ++ l ∷ []) i at → IsRedefined lines i at
  redefined-in at h = grind (arith, common_steps)

  long-in : IsLong (take i lines ++ l ∷ []) i → IsLong lines i
  long-in h = search (rules, front, all)

  pub refused-at : (fault : NameFault) (r : ReaderState) → lines_of r ≡ take i lines → RefusesLine (lines_of r) l fault → RefusesNames lines fault
  refused-at fault r taken refused = grind (arith, common_steps, count, redefined-in, long-in)

  pub took-one : (old new : ReaderState) → IsAt lines i old → lines_of new ≡ lines_of old ++ l ∷ [] → AreGood (lines_of new) → new.lookups ≤ old.lookups + expr_key_parts l.expr → IsAt lines (i + 1) new
  took-one old new before taken good looked = search (rules, more, all_parts-push)

-- the address that names tell of a line
module _ (nodes : List Spot) (lines : List Line) (kinds : Kinds) (first : List Address) (own : List (Option ℕ)) (are : AreNames nodes lines kinds first own) where
  pub told : (l : ℕ) → option_and_then (λ rank. slice_get first rank) (option_and_then (λ rank. rank) (slice_get own l)) ≡ line_address (named lines) l
  told l = by (cases_lt l (length own))
    where
      within : (o : Option ℕ) → option_and_then (λ rank. slice_get first rank) o ≡ ranked first o
      within None = refl
      within (Some rank) = refl

      by : (l < length own) ⊎ (length own ≤ l) → option_and_then (λ rank. slice_get first rank) (option_and_then (λ rank. rank) (slice_get own l)) ≡ line_address (named lines) l
      by (inl low) =
          ap (λ (o : Option (Option ℕ)). option_and_then (λ rank. slice_get first rank) (option_and_then (λ rank. rank) o)) (slice_get-get_or own l None low)
          ∙ within (slice_index_or own l None) ∙ are.owns l None low
      by (inr past) =
          ap (λ (o : Option (Option ℕ)). option_and_then (λ rank. slice_get first rank) (option_and_then (λ rank. rank) o)) (slice_get_past own l past)
          ∙ sym (no_line_address lines l (omega (arith, are.own_count)))

-- what the code read of the ranks
module _ (first : List Address) (read own : List (Option ℕ)) (l : ℕ) (is : read ≡ own) where
  pub no_rank : None ≡ option_and_then (λ rank. rank) (slice_get read l) → None ≡ option_and_then (λ rank. slice_get first rank) (option_and_then (λ rank. rank) (slice_get own l))
  no_rank none = ap (λ (o : Option ℕ). option_and_then (λ rank. slice_get first rank) o) none ∙ ap (λ (xs : List (Option ℕ)). option_and_then (λ rank. slice_get first rank) (option_and_then (λ rank. rank) (slice_get xs l))) is

module _ (first : List Address) (read own : List (Option ℕ)) (l rank : ℕ) (is : read ≡ own) where
  pub some_rank : Some rank ≡ option_and_then (λ rank. rank) (slice_get read l) → slice_get first rank ≡ option_and_then (λ rank. slice_get first rank) (option_and_then (λ rank. rank) (slice_get own l))
  some_rank some = ap (λ (o : Option ℕ). option_and_then (λ rank. slice_get first rank) o) some ∙ ap (λ (xs : List (Option ℕ)). option_and_then (λ rank. slice_get first rank) (option_and_then (λ rank. rank) (slice_get xs l))) is

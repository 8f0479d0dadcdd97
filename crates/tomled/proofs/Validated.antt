-- What is told of files, one behind the other, and the status.
use Rattle.std.proofs.Common.{◌≡◌, ◌<◌, ◌≤◌, ◌+◌, ℕ, true, List, [], ◌∷◌, ◌++◌, map, length, take, get_or, Result, Ok, Err, Bor, inl, inr, refl, sym, ap, ◌∙◌, subst, arith}
use Rattle.std.specs.Prelude.{max}
use Rattle.std.specs.List.{AllByRecursion}
use Rattle.std.proofs.lemmas.List.{map-append, take_more, take-map, flat_map_more}
use Rattle.toml_tree.specs.declared.profile.Profile.{Profile}
use Rattle.toml_commands.specs.Answering.{document_at, sought}
use Rattle.toml_commands.specs.Explaining.{IsExplainedText, IsValidated}
use Rattle.toml_commands.specs.declared.answering.Source.{Source}
use Rattle.toml_delivery.specs.declared.fault.RunFault.{RunFault}
use Rattle.toml_delivery.specs.declared.outcome.Outcome.{Outcome}
use Rattle.tomled.specs.Finishing.{TellsFault}
use Rattle.tomled.specs.Reads.{IsOfWord, Read}
use Rattle.tomled.specs.Validating.{IsOneTold, IsOutcomeOf, IsOfDocument, IsOfNone, IsStatusOf, IsUnread, SomeRead, TellEach, TellsGiven, TellsRead, WasRead, all_told, words_of}
use Rattle.tomled.specs.declared.reading.FileFault.{FileFault}
use Rattle.tomled.specs.declared.reading.FileFault.TheVariants.{Failed, NoMemory}

-- one more
module _ (P : Read → Type 0) (r : Read) where
  some_last : (reads : List Read) → P r → SomeRead P (reads ++ r ∷ [])
  some_last [] p = inl p
  some_last (q ∷ reads) p = inr (some_last reads p)

  some_before : (reads : List Read) → SomeRead P reads → SomeRead P (reads ++ r ∷ [])
  some_before [] h = absurd h
  some_before (q ∷ reads) (inl p) = inl p
  some_before (q ∷ reads) (inr h) = inr (some_before reads h)

  all_more : (reads : List Read) → AllByRecursion P reads → P r → AllByRecursion P (reads ++ r ∷ [])
  all_more [] h p = (p, tt)
  all_more (q ∷ reads) h p = (h.0, all_more reads h.1 p)

all_weaker : (P Q : Read → Type 0) → ((r : Read) → P r → Q r) → (reads : List Read) → AllByRecursion P reads → AllByRecursion Q reads
all_weaker P Q f [] h = tt
all_weaker P Q f (r ∷ reads) h = (f r h.0, all_weaker P Q f reads h.1)

document_read : (profile : Profile) (r : Read) → IsOfDocument profile r → WasRead r
document_read profile r h = (h.0, h.1)

none_read : (profile : Profile) (r : Read) → IsOfNone profile r → WasRead r
none_read profile r h = (h.0, h.1)

-- what one file comes to: it could not be read, it is a document, or it is none
pub data Case (profile : Profile) (r : Read) (o : Outcome) : Type 0 where
  unread : IsUnread r → o.status ≡ 3 → Case profile r o
  document : IsOfDocument profile r → o.status ≡ 0 → Case profile r o
  none : IsOfNone profile r → o.status ≡ 1 → Case profile r o

-- what is said of a document has no refusal, and of other bytes one
explained_status : (profile : Profile) (word bytes : List ℕ) (old new : Outcome) → IsExplainedText profile word bytes old new → new.status ≡ old.status
explained_status profile word bytes old new (inl same) = ap (λ (o : Outcome). o.status) same.1
explained_status profile word bytes old new (inr said) = said.4.status

case_of_bytes : (profile : Profile) (r : Read) (bytes : List ℕ) (o : Outcome) → r.gave ≡ Ok bytes → IsValidated profile r.source.word.now bytes o → Case profile r o
case_of_bytes profile r bytes o is h =
    let status = explained_status profile r.source.word.now bytes h.0 o h.2 in
    elim h.1 [
      | inl good ↦ document (bytes, is, good.0) (status ∙ good.1.status)
      | inr bad ↦ none (bytes, is, bad.1.0) (status ∙ bad.2.status)
    ]

case_of_given : (profile : Profile) (r : Read) (given : Result (List ℕ) FileFault) (o : Outcome) → r.gave ≡ given → TellsGiven profile r.source.word.now given o → Case profile r o
case_of_given profile r (Ok bytes) o is h = case_of_bytes profile r bytes o is h
case_of_given profile r (Err (Failed word error)) o is h = unread (Failed word error, is) h.status
case_of_given profile r (Err NoMemory) o is h = absurd h

pub case_of : (profile : Profile) (r : Read) (o : Outcome) → TellsRead profile r o → Case profile r o
case_of profile r o h = case_of_given profile r r.gave o refl h.1

-- the status behind one file more
module _ (profile : Profile) (reads : List Read) (r : Read) (n m : ℕ) where
  behind_unread : n ≡ 3 → SomeRead IsUnread reads → m ≤ 3 → IsStatusOf profile (reads ++ r ∷ []) (max m n)
  behind_unread is some low = inl (omega (arith, is, low), some_before IsUnread r reads some)

  is_unread : n ≤ 3 → IsUnread r → m ≡ 3 → IsStatusOf profile (reads ++ r ∷ []) (max m n)
  is_unread low un is = inl (omega (arith, is, low), some_last IsUnread r reads un)

  is_none : IsOfNone profile r → m ≡ 1 → n ≤ 1 → AllByRecursion WasRead reads → IsStatusOf profile (reads ++ r ∷ []) (max m n)
  is_none bad is low all = inr (inl (
    omega (arith, is, low),
    all_more WasRead r reads all (none_read profile r bad),
    some_last (IsOfNone profile) r reads bad,
  ))

  document_behind_none : n ≡ 1 → AllByRecursion WasRead reads → SomeRead (IsOfNone profile) reads → IsOfDocument profile r → m ≡ 0
      → IsStatusOf profile (reads ++ r ∷ []) (max m n)
  document_behind_none is all some good zero_is = inr (inl (
    omega (arith, is, zero_is),
    all_more WasRead r reads all (document_read profile r good),
    some_before (IsOfNone profile) r reads some,
  ))

  all_documents : n ≡ 0 → AllByRecursion (IsOfDocument profile) reads → IsOfDocument profile r → m ≡ 0 → IsStatusOf profile (reads ++ r ∷ []) (max m n)
  all_documents is all good zero_is = inr (inr (omega (arith, is, zero_is), all_more (IsOfDocument profile) r reads all good))

  by_case : (o : Outcome) → o.status ≡ m → Case profile r o → IsStatusOf profile reads n → IsStatusOf profile (reads ++ r ∷ []) (max m n)
  by_case o same (unread un is) (inl h) = is_unread (omega (arith, h.0)) un (sym same ∙ is)
  by_case o same (unread un is) (inr (inl h)) = is_unread (omega (arith, h.0)) un (sym same ∙ is)
  by_case o same (unread un is) (inr (inr h)) = is_unread (omega (arith, h.0)) un (sym same ∙ is)
  by_case o same (document good is) (inl h) = behind_unread h.0 h.1 (omega (arith, same, is))
  by_case o same (document good is) (inr (inl h)) = document_behind_none h.0 h.1 h.2 good (sym same ∙ is)
  by_case o same (document good is) (inr (inr h)) = all_documents h.0 h.1 good (sym same ∙ is)
  by_case o same (none bad is) (inl h) = behind_unread h.0 h.1 (omega (arith, same, is))
  by_case o same (none bad is) (inr (inl h)) = is_none bad (sym same ∙ is) (omega (arith, h.0)) h.1
  by_case o same (none bad is) (inr (inr h)) =
      is_none bad (sym same ∙ is) (omega (arith, h.0)) (all_weaker (IsOfDocument profile) WasRead (document_read profile) reads h.1)

each_more : (profile : Profile) (reads : List Read) (told : List Outcome) (r : Read) (o : Outcome) → TellEach profile reads told → TellsRead profile r o
    → TellEach profile (reads ++ r ∷ []) (told ++ o ∷ [])
each_more profile [] [] r o each h = (h, tt)
each_more profile [] (t ∷ told) r o each h = absurd each
each_more profile (q ∷ reads) [] r o each h = absurd each
each_more profile (q ∷ reads) (t ∷ told) r o each h = (each.0, each_more profile reads told r o each.1 h)

-- the first files, what is told of them, and the status
pub record SoFar (profile : Profile) (files : List (List ℕ)) (status : ℕ) (text : List ℕ) (reads : List Read) : Type 0 where
  pub order : map (λ r. r.source.word.now) reads ≡ files
  pub told : List Outcome
  pub each : TellEach profile reads told
  pub is_status : IsStatusOf profile reads status
  pub err : text ≡ all_told told

pub none_so_far : (profile : Profile) (files : List (List ℕ)) → SoFar profile (take 0 files) 0 [] []
none_so_far profile files = record { order = refl; told = []; each = tt; is_status = inr (inr (refl, tt)); err = refl }

-- one file more
pub one_more_told : (profile : Profile) (files : List (Bor (List ℕ))) (i : ℕ) (d : Bor (List ℕ)) (status : ℕ) (text : List ℕ) (reads : List Read) (r : Read) (o : Outcome)
    → i < length files → SoFar profile (take i (words_of files)) status text reads → r.source.word.now ≡ (get_or files i d).now → TellsRead profile r o
    → SoFar profile (take (i + 1) (words_of files)) (max o.status status) (text ++ o.err.items) (reads ++ r ∷ [])
one_more_told profile files i d status text reads r o low before word h =
    let file = get_or files i d in
    let front : take (i + 1) files ≡ take i files ++ file ∷ [] = take_more files i d low in
    let fronts : take (i + 1) (words_of files) ≡ take i (words_of files) ++ file.now ∷ [] =
    take-map (λ (w : Bor (List ℕ)). w.now) (i + 1) files
    ∙ (ap words_of front ∙ (map-append (λ (w : Bor (List ℕ)). w.now) (take i files) (file ∷ []) ∙ ap (λ l. l ++ file.now ∷ []) (sym (take-map (λ (w : Bor (List ℕ)). w.now) i files)))) in
    record {
      order = map-append (λ q. q.source.word.now) reads (r ∷ []) ∙ (ap (λ l. l ++ r.source.word.now ∷ []) before.order ∙ (ap (λ w. take i (words_of files) ++ w ∷ []) word ∙ sym fronts));
      told = before.told ++ o ∷ [];
      each = each_more profile reads before.told r o before.each h;
      is_status = by_case profile reads r status o.status o refl (case_of profile r o h) before.is_status;
      err = ap (λ l. l ++ o.err.items) before.err ∙ flat_map_more (λ (t : Outcome). t.err.items) [] before.told o;
    }

-- what could not be read
pub told_fault : (profile : Profile) (source : Source) → sought source ≡ document_at true source.word.now → (fault : FileFault) → IsOfWord source.word.now fault
    → (result : Result Outcome RunFault) → IsOutcomeOf true fault result → IsOneTold profile source.word.now result (record { source = source; gave = Err fault } ∷ [])
told_fault profile source sought_as (Failed word error) is (Ok o) h =
    (record { source = source; gave = Err (Failed word error) }, refl, refl, (sought_as, subst (λ w. TellsFault true w o) is h))
told_fault profile source sought_as NoMemory is (Ok o) h = absurd h
told_fault profile source sought_as (Failed word error) is (Err f) h = h
told_fault profile source sought_as NoMemory is (Err f) h = h

-- one file behind the others
pub more_told : (profile : Profile) (files : List (Bor (List ℕ))) (i : ℕ) (d : Bor (List ℕ)) (status : ℕ) (text : List ℕ) (o : Outcome) → i < length files
    → (xs ys : List Read) → SoFar profile (take i (words_of files)) status text xs → IsOneTold profile (get_or files i d).now (Ok o) ys
    → SoFar profile (take (i + 1) (words_of files)) (max o.status status) (text ++ o.err.items) (xs ++ ys)
more_told profile files i d status text o low xs ys before one =
    subst (λ l. SoFar profile (take (i + 1) (words_of files)) (max o.status status) (text ++ o.err.items) (xs ++ l)) (sym one.1)
    (one_more_told profile files i d status text xs one.0 o low before one.2 one.3)

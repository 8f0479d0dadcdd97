-- What is named at one address is of one kind, and values stand alone, where each thing joins those before it; so the first kinds are the data.
use Rattle.toml_names.proofs.Common.{◌≡◌, ℕ, ◌<◌, false, List, [], ◌∷◌, ◌++◌, length, get_or, All, AllPairs, Some, refl, sym, ◌∙◌, subst, inl, inr, arith, rules, append_assoc, append-nil, All-nil, All-cons, All-push, All-weaker, all_pairs_push, same_Some, Address, IsFact, fact_at, is_lone, Joins, JoinAll, Joined, OneKind, FirstIsData, ValuesStandAlone, Kind, Named, ap, Kinds, IsDataOf}
use Rattle.toml_names.proofs.lemmas.mentions.FactAt.{from_all, fact_here, found, fact_kept, fact_behind}

-- it is of the kind that was named first at its address
abbrev pub IsOfFirst : List Named → Named → Type 0
IsOfFirst ms e = fact_at ms e.address ≡ Some e.kind

abbrev pub AreOfOneKind : List Named → Type 0
AreOfOneKind ms = All (IsOfFirst ms) ms

pub one_kind_new : (ms : List Named) (m : Named) → Joins ms m → fact_at (ms ++ m ∷ []) m.address ≡ Some m.kind
one_kind_new ms m (inl free) = fact_behind ms (m ∷ []) m.address free.absent ∙ fact_here m [] m.address refl
one_kind_new ms m (inr again) = fact_kept ms (m ∷ []) m.address m.kind again.there

pub AreOfOneKind-push : (ms : List Named) (m : Named) → AreOfOneKind ms → Joins ms m → AreOfOneKind (ms ++ m ∷ [])
AreOfOneKind-push ms m all joins =
    All-push (IsOfFirst (ms ++ m ∷ [])) ms m (All-weaker (IsOfFirst ms) (IsOfFirst (ms ++ m ∷ [])) (λ e h. fact_kept ms (m ∷ []) e.address e.kind h) ms all) (one_kind_new ms m joins)

-- two things at one address, of which neither is lone
abbrev Share : Named → Named → Type 0
Share e l = e.address ≡ l.address → (is_lone e.role ≡ false) × (is_lone l.role ≡ false)

shares : (ms : List Named) (m : Named) → AreOfOneKind ms → Joins ms m → (k : ℕ) (d : Named) → k < length ms → Share (get_or ms k d) m
shares ms m all h2 k d low = search rules

-- all that holds of what joined
record Holds (ms : List Named) : Type 0 where
  kinds : AreOfOneKind ms
  alone : AllPairs Share ms

Holds-push : (ms : List Named) (m : Named) → Holds ms → Joins ms m → Holds (ms ++ m ∷ [])
Holds-push ms m holds joins = record {
  kinds = AreOfOneKind-push ms m holds.kinds joins;
  alone = all_pairs_push Share ms m holds.alone (shares ms m holds.kinds joins);
}

Holds-more : (more ms : List Named) → Holds ms → JoinAll ms more → Holds (ms ++ more)
Holds-more [] ms holds joins = subst Holds (sym (append-nil ms)) holds
Holds-more (m ∷ more) ms holds (here, later) = subst Holds (append_assoc ms (m ∷ []) more) (Holds-more more (ms ++ m ∷ []) (Holds-push ms m holds here) later)

Holds-one : (m : Named) → Holds (m ∷ [])
Holds-one m = record {
  kinds = All-cons (IsOfFirst (m ∷ [])) m [] (fact_here m [] m.address refl) (All-nil _);
  alone = λ i j d low high. absurd (omega arith);
}

holds : (ms : List Named) → Joined ms → Holds ms
holds [] joined = record { kinds = All-nil _; alone = λ i j d low high. absurd (omega arith) }
holds (m ∷ ms) joined = Holds-more ms (m ∷ []) (Holds-one m) joined

is_first : (ms : List Named) → Joined ms → (at : Address) (k : Kind) → IsFact ms at k → fact_at ms at ≡ Some k
is_first ms joined at k fact = search (rules, from_all, holds)

pub one_kind : OneKind
one_kind ms joined at k l one two = same_Some k l (sym (is_first ms joined at k one) ∙ is_first ms joined at l two)

pub first_is_data : FirstIsData
first_is_data ms joined at k = (found ms at k, is_first ms joined at k)

pub values_stand_alone : ValuesStandAlone
values_stand_alone ms joined = (holds ms joined).alone

-- a map that has the first kind named at each address is the data
pub data_by_facts : (list ms : List Named) (kinds : Kinds) → list ≡ ms → Joined ms → ((at : Address) → kinds at ≡ fact_at list at) → IsDataOf ms kinds
data_by_facts list ms kinds is joined first at k =
    let same : kinds at ≡ fact_at ms at = first at ∙ ap (λ l. fact_at l at) is in
    let facts = first_is_data ms joined at k in
    (λ e. facts.0 (sym same ∙ e), λ fact. same ∙ facts.1 fact)
